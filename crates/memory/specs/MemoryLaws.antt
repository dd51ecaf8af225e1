-- No call changes the length of what is lent, and a refused one leaves it as it was.
use Rattle.std.specs.Prelude.{List, ◌≡◌, refl, ℕ, length, take}
use Rattle.octets.specs.Lists.{part, over, write_at}
use Rattle.octets.specs.OnPartLaws.{length-on_part}
use Rattle.octets.specs.WriteLaws.{length_over, length-write_at}
use Rattle.checks.specs.Checks.{after}
use Rattle.checks.specs.Settle.{by_settle, settle-refused}
use Rattle.memory.specs.declared.Reach.{Reach}
use Rattle.checks.specs.Told.{Told, told}
use Rattle.memory.specs.Memory.{bytes_of, load_checks, load, store_checks, store, flush_checks, flush}

-- ---- lengths

abbrev Keeps : List ℕ → Told → Type 0
Keeps l t = length t.lent ≡ length l

pub length-load : (n : ℕ) (r : Reach) (offset : ℕ) (arena buffer : List ℕ) → length (load n r offset arena buffer).lent ≡ length buffer
unfolding load
length-load n r offset arena buffer =
    by_settle (Keeps buffer) (after n (load_checks r offset (length buffer)))
    (λ _. length_over (part offset (length buffer) (bytes_of r.segment arena)) buffer)
    (λ _. refl)

pub length-store : (n : ℕ) (r : Reach) (offset : ℕ) (bytes arena : List ℕ) → length (store n r offset bytes arena).lent ≡ length arena
unfolding store
length-store n r offset bytes arena =
    by_settle (Keeps arena) (after n (store_checks r offset (length bytes)))
    (λ _. length-on_part (write_at offset bytes) (length-write_at offset bytes) r.segment.memory.place r.segment.memory.length arena)
    (λ _. refl)

pub length-flush : (n : ℕ) (r : Reach) (taken : ℕ) (arena file : List ℕ) → length (flush n r taken arena file).lent ≡ length file
unfolding flush
length-flush n r taken arena file =
    let new = take taken (bytes_of r.segment arena) in
    by_settle (Keeps file) (after n (flush_checks r))
    (λ _. length-on_part (over new) (length_over new) r.segment.file.place r.segment.file.length file)
    (λ _. refl)

-- ---- refusals

pub load-refused : (n : ℕ) (r : Reach) (offset : ℕ) (arena buffer : List ℕ) → (after n (load_checks r offset (length buffer)) ≡ 0 → ⊥)
    → load n r offset arena buffer ≡ told (after n (load_checks r offset (length buffer))) buffer
unfolding load
load-refused n r offset arena buffer h = settle-refused (after n (load_checks r offset (length buffer))) _ _ h

pub store-refused : (n : ℕ) (r : Reach) (offset : ℕ) (bytes arena : List ℕ) → (after n (store_checks r offset (length bytes)) ≡ 0 → ⊥)
    → store n r offset bytes arena ≡ told (after n (store_checks r offset (length bytes))) arena
unfolding store
store-refused n r offset bytes arena h = settle-refused (after n (store_checks r offset (length bytes))) _ _ h

pub flush-refused : (n : ℕ) (r : Reach) (taken : ℕ) (arena file : List ℕ) → (after n (flush_checks r) ≡ 0 → ⊥)
    → flush n r taken arena file ≡ told (after n (flush_checks r)) file
unfolding flush
flush-refused n r taken arena file h = settle-refused (after n (flush_checks r)) _ _ h
