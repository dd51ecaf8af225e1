-- Laws of the queue: what taking a key in and taking keys out does to the keys that wait, and that equal queues are equal structs.
use Rattle.std.specs.Prelude.{List, [], ◌∷◌, ◌++◌, ◌≡◌, refl, ℕ, zero, suc, ◌+◌, ◌-◌, ◌≤◌, ◌<◌, min, length, take, drop, replicate, ltb}
use Rattle.std.proofs.Common.{sym, ap, ap₂, ◌∙◌, add-one, arith, length-append, length-take, length-drop, take-append-drop, take-suc-set, drop-drop, lt-ltb, le-ltb, ltb-true}
use Rattle.std.proofs.Math.Nat.{sub-zero, zero-sub, suc-sub-suc}
use Rattle.std.proofs.lemmas.List.{length-replicate, replicate-append-replicate, take-append-le, drop-append-le}
use Rattle.octets.specs.Lists.{over}
use Rattle.octets.specs.PartLaws.{drop-take}
use Rattle.octets.specs.WriteLaws.{write_at-one, length-write_at, drop-write_at-behind}
use Rattle.devices.specs.Choice.{by_cond}
use Rattle.devices.specs.Queue.{no_keys, held, queue, queue_add, takes, queue_drop, take_out, queue_take}
use Rattle.devices.specs.declared.keyboard.Keyboard.{Keyboard}

-- zeros without the first of them
pub drop-zeros : (n m : ℕ) → drop {A = ℕ} n (replicate m 0) ≡ replicate (m - n) 0
drop-zeros zero m = rw sub-zero
drop-zeros (suc n) zero = rw zero-sub
drop-zeros (suc n) (suc m) = rw (suc-sub-suc, drop-zeros n m)

-- a queue as the calls leave it: at most 64 keys in a row of 64, zeros behind them
pub record Kept (k : Keyboard) : Type 0 where
  pub fits : k.held ≤ 64
  pub room : length k.keys ≡ 64
  pub clear : drop k.held k.keys ≡ replicate (64 - k.held) 0

-- ---- the keys that wait

pub held_kept : (k : Keyboard) → Kept k → held k ≡ k.held
unfolding held
held_kept k h = omega (arith, h.fits)

pub length-queue : (k : Keyboard) → Kept k → length (queue k) ≡ k.held
unfolding queue held
length-queue k h = rw (length-take, h.room) (omega (arith, h.fits))

pub queue-none : queue no_keys ≡ []
unfolding queue held no_keys
queue-none = refl

pub queue-add : (key : ℕ) (k : Keyboard) → k.held < 64 → length k.keys ≡ 64 → queue (queue_add key k) ≡ queue k ++ (key ∷ [])
unfolding queue held queue_add
queue-add key k h e =
    let more : min (k.held + 1) 64 ≡ suc k.held = rw add-one (omega arith) in
    let same : min k.held 64 ≡ k.held = omega arith in
    let inside : k.held < length k.keys = omega arith in
    rw (lt-ltb _ _ h, more, same, write_at-one) (take-suc-set k.keys k.held key inside)

-- "or drops it when 64 are held"
pub queue-full : (key : ℕ) (k : Keyboard) → 64 ≤ k.held → queue_add key k ≡ k
unfolding queue_add
queue-full key k h = rw (le-ltb _ _ h)

pub queue-drop : (n : ℕ) (k : Keyboard) → length k.keys ≡ 64 → queue (queue_drop n k) ≡ drop n (queue k)
unfolding queue held queue_drop
queue-drop n k e =
    let few : min (min k.held 64 - n) 64 ≡ min k.held 64 - n = omega arith in
    let inside : min k.held 64 - n ≤ length (drop n k.keys) = rw (length-drop, e) (omega arith) in
    rw (few, take-append-le (min k.held 64 - n) (drop n k.keys) (replicate n 0) inside, drop-take)

-- ---- equal queues are equal structs

pub kept-none : Kept no_keys
unfolding no_keys
kept-none = record { fits = omega arith; room = refl; clear = refl }

-- zeros stay zeros further back
clear-from : (h m : ℕ) (keys : List ℕ) → drop h keys ≡ replicate (64 - h) 0 → drop (h + m) keys ≡ replicate (64 - (h + m)) 0
clear-from h m keys e =
    let less : 64 - h - m ≡ 64 - (h + m) = omega arith in
    sym (drop-drop m h keys) ∙ rw (e, drop-zeros, less)

pub kept-add : (key : ℕ) (k : Keyboard) → Kept k → Kept (queue_add key k)
unfolding queue_add
kept-add key k h =
    by_cond Kept (ltb k.held 64)
    (λ e. record {
      fits = omega (arith, ltb-true k.held 64 e);
      room = length-write_at k.held (key ∷ []) k.keys ∙ h.room;
      clear = rw (drop-write_at-behind (k.held + 1) k.held (key ∷ []) k.keys (omega arith)) (clear-from k.held 1 k.keys h.clear);
    })
    (λ e. h)

pub kept-drop : (n : ℕ) (k : Keyboard) → n ≤ k.held → Kept k → Kept (queue_drop n k)
unfolding queue_drop
kept-drop n k l h =
    let fits : k.held ≤ 64 = h.fits in
    let behind : n + (k.held - n) ≡ k.held = omega arith in
    let inside : k.held - n ≤ length (drop n k.keys) = rw (length-drop, h.room) (omega arith) in
    let zeros : 64 - k.held + n ≡ 64 - (k.held - n) = omega arith in
    rw (held_kept k h)
    (record {
      fits = omega arith;
      room = rw (length-append, length-drop, h.room, length-replicate) (omega arith);
      clear = rw (drop-append-le (k.held - n) (drop n k.keys) (replicate n 0) inside, drop-drop, behind, h.clear, replicate-append-replicate, zeros);
    })

pub takes-held : (request room : ℕ) (k : Keyboard) → Kept k → takes request room k ≤ k.held
unfolding takes
takes-held request room k h = rw (held_kept k h) (omega arith)

pub kept-take : (request : ℕ) (k : Keyboard) (buffer : List ℕ) → Kept k → Kept (queue_take request k buffer).keyboard
unfolding queue_take take_out
kept-take request k buffer h =
    kept-drop (takes request (length buffer) k) k (takes-held request (length buffer) k h) h

-- a struct is its queue with zeros behind
keys-queue : (k : Keyboard) → Kept k → k.keys ≡ queue k ++ replicate (64 - k.held) 0
unfolding queue
keys-queue k h = rw (held_kept k h, ← h.clear) (sym (take-append-drop k.held k.keys))

pub same_queue : (a b : Keyboard) → Kept a → Kept b → queue a ≡ queue b → a ≡ b
same_queue a b h g e =
    let count : a.held ≡ b.held = sym (length-queue a h) ∙ ap length e ∙ length-queue b g in
    let keys : a.keys ≡ b.keys = keys-queue a h ∙ rw (e, count) (sym (keys-queue b g)) in
    ap₂ (λ (ks : List ℕ) (n : ℕ). record { keys = ks; held = n }) keys count

-- ---- taking keys out, seen from the keys that wait

-- "Next-read takes the oldest min(request, held) keys": where the lent part has room for the request
pub take_count : (request : ℕ) (k : Keyboard) (buffer : List ℕ) → Kept k → request ≤ length buffer → (queue_take request k buffer).count ≡ min request (length (queue k))
unfolding queue_take take_out takes
take_count request k buffer h l = rw (held_kept k h, length-queue k h) (omega arith)

pub take-queue : (request : ℕ) (k : Keyboard) (buffer : List ℕ) → Kept k
    → queue (queue_take request k buffer).keyboard ≡ drop (queue_take request k buffer).count (queue k)
unfolding queue_take take_out
take-queue request k buffer h = queue-drop (takes request (length buffer) k) k h.room

pub take-buffer : (request : ℕ) (k : Keyboard) (buffer : List ℕ) → (queue_take request k buffer).buffer ≡ over (take (queue_take request k buffer).count (queue k)) buffer
unfolding queue_take take_out
take-buffer request k buffer = refl
