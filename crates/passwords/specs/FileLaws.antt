-- How `find` and `well_formed` go on from record to record.
use Rattle.std.specs.Prelude.{Bool, false, not, ◌&&◌, ◌≡◌, refl, ℕ, ◌+◌, ◌≤◌, ◌<◌, drop, true, List, [], ◌∷◌, leb, ltb, length}
use Rattle.std.specs.Option.{is_some}
use Rattle.std.proofs.Common.{sym, ◌∙◌, zero-add, length-drop, take_all, arith, le-leb, lt-ltb, le-ltb, ltb-true, ltb-false}
use Rattle.std.proofs.Math.Bool.{and-false, and_assoc}
use Rattle.std.proofs.lemmas.Bool.{lt-leb}
use Rattle.octets.specs.Lists.{part}
use Rattle.octets.specs.PartLaws.{part_def}
use Rattle.octets.specs.Same.{same_bytes}
use Rattle.rows.specs.Records.{chunks}
use Rattle.rows.specs.LikeLaws.{by_test}
use Rattle.passwords.specs.declared.Lookup.{Lookup}
use Rattle.octets.specs.Spans.{bytes_of}
use Rattle.passwords.specs.declared.walk.Reading.{Reading}
use Rattle.passwords.specs.Account.{digest_start, name, shaped, obeys}
use Rattle.passwords.specs.Walk.{span_of}
use Rattle.passwords.specs.WalkLaws.{Taken, span-part}
use Rattle.passwords.specs.PasswordFile.{all_obey, named, distinct, well_formed, count, all_shaped, sound, in_record, nowhere, find_from, find, record_at}

-- ---- find

pub find_none : (n : List ℕ) (count at : ℕ) (file : List ℕ) → chunks (drop at file) ≡ [] → find_from n count at (chunks (drop at file)) ≡ nowhere count
unfolding find_from
find_none n count at file e = rw e

module _ (n : List ℕ) (count at : ℕ) (r : Reading) (behind raised : ℕ) (file : List ℕ) (t : Taken file at count r behind raised) where
  pub find_here : same_bytes (name (bytes_of file r.span)) n ≡ true
      → find_from n count at (chunks (drop at file)) ≡ in_record r.number (r.span.place + digest_start) raised
  unfolding find_from
  find_here e = rw (t.walk, e, t.one_more, t.numbered, t.stands)

  pub find-on : same_bytes (name (bytes_of file r.span)) n ≡ false
      → find_from n count at (chunks (drop at file)) ≡ find_from n raised behind (chunks (drop behind file))
  unfolding find_from
  find-on e = rw (t.walk, e, t.one_more, ← t.on)

-- ---- record i

pub record_part : (i : ℕ) (file : List ℕ) → record_at i file ≡ bytes_of file (span_of i file)
unfolding record_at span_of
record_part i file = span-part file 0 i (chunks file) refl

-- ---- named

unfoldable pub is_found : Lookup → Bool
is_found found = is_some found.entry

named-found : (n : List ℕ) (count at : ℕ) (cs : List (List ℕ)) → is_found (find_from n count at cs) ≡ named n cs
unfolding is_found find_from named
named-found n count at [] = refl
named-found n count at (c ∷ cs) = go (same_bytes (name c) n) refl (named-found n (count + 1) (at + length c) cs)
  where
    go : (t : Bool) → same_bytes (name c) n ≡ t → is_found (find_from n (count + 1) (at + length c) cs) ≡ named n cs
        → is_found (find_from n count at (c ∷ cs)) ≡ named n (c ∷ cs)
    go true e rest = rw e
    go false e rest = rw e rest

pub named-find : (n file : List ℕ) → is_found (find n file) ≡ named n (chunks file)
unfolding find
named-find n file = named-found n 0 0 (chunks file)

-- ---- at most 64 records that pass a test, one at a time

module _ (test : List ℕ → List (List ℕ) → Bool) where
  -- each record passes, with those behind it
  unfoldable pub every : List (List ℕ) → Bool
  every [] = true
  every (c ∷ cs) = test c cs && every cs

  -- the records from here on pass, where `before` were read before and there are at most 64
  unfoldable pub few_from : ℕ → List (List ℕ) → Bool
  few_from before [] = true
  few_from before (c ∷ cs) = ltb before 64 && (test c cs && few_from (before + 1) cs)

  few_from_lem : (before : ℕ) (cs : List (List ℕ)) → before ≤ 64 → few_from before cs ≡ (every cs && leb (before + length cs) 64)
  unfolding every few_from
  few_from_lem before [] h = sym (le-leb (before + 0) 64 (omega arith))
  few_from_lem before (c ∷ cs) h = by_test (ltb before 64) (λ e. on e (few_from_lem (before + 1) cs (omega (arith, ltb-true before 64 e)))) full
    where
      on : ltb before 64 ≡ true → few_from (before + 1) cs ≡ (every cs && leb (before + 1 + length cs) 64)
          → few_from before (c ∷ cs) ≡ (every (c ∷ cs) && leb (before + length (c ∷ cs)) 64)
      on e rest =
          let sum : before + length (c ∷ cs) ≡ before + 1 + length cs = omega arith in
          rw (e, sum, rest) (sym (and_assoc (test c cs) (every cs) (leb (before + 1 + length cs) 64)))

      full : ltb before 64 ≡ false → few_from before (c ∷ cs) ≡ (every (c ∷ cs) && leb (before + length (c ∷ cs)) 64)
      full e =
          let high = ltb-false before 64 e in
          let many : leb (before + length (c ∷ cs)) 64 ≡ false = lt-leb (before + length (c ∷ cs)) 64 (omega arith) in
          rw (e, many) (sym (and-false (every (c ∷ cs))))

  few_all : (cs : List (List ℕ)) → (every cs && leb (length cs) 64) ≡ few_from 0 cs
  few_all cs = sym (rw (zero-add (length cs)) at (few_from_lem 0 cs (omega arith)))

  pub few_none : (before at : ℕ) (file : List ℕ) → chunks (drop at file) ≡ [] → few_from before (chunks (drop at file)) ≡ true
  unfolding few_from
  few_none before at file e = rw e

  module _ (before at : ℕ) (r : Reading) (behind raised : ℕ) (file : List ℕ) (t : Taken file at before r behind raised) where
    pub few_full : 64 ≤ r.number → few_from before (chunks (drop at file)) ≡ false
    unfolding few_from
    few_full h = let many : 64 ≤ before = rw t.numbered at h in rw (t.walk, le-ltb before 64 many)

    pub few_fails : r.number < 64 → test (bytes_of file r.span) (chunks (drop behind file)) ≡ false → few_from before (chunks (drop at file)) ≡ false
    unfolding few_from
    few_fails h e = let few : before < 64 = rw t.numbered at h in rw (t.walk, lt-ltb before 64 few, e)

    pub few_on : r.number < 64 → test (bytes_of file r.span) (chunks (drop behind file)) ≡ true
        → few_from before (chunks (drop at file)) ≡ few_from raised (chunks (drop behind file))
    unfolding few_from
    few_on h e = let few : before < 64 = rw t.numbered at h in rw (t.walk, lt-ltb before 64 few, e, t.one_more)

-- ---- well formed, and sound

-- a record that obeys and whose name does not come again
unfoldable pub good : List ℕ → List (List ℕ) → Bool
good c cs = obeys c && not (named (name c) cs)

sorted : (a b c d : Bool) → ((a && b) && (c && d)) ≡ ((a && c) && (b && d))
sorted false b c d = refl
sorted true true c d = refl
sorted true false false d = refl
sorted true false true d = refl

every-good : (cs : List (List ℕ)) → every good cs ≡ (all_obey cs && distinct cs)
unfolding every good all_obey distinct
every-good [] = refl
every-good (c ∷ cs) = rw (every-good cs) (sorted (obeys c) (not (named (name c) cs)) (all_obey cs) (distinct cs))

turned : (a b c : Bool) → (a && (b && c)) ≡ ((a && c) && b)
turned false b c = refl
turned true true true = refl
turned true true false = refl
turned true false true = refl
turned true false false = refl

pub well_formed_few : (file : List ℕ) → well_formed file ≡ few_from good 0 (chunks file)
unfolding well_formed count
well_formed_few file =
    turned (all_obey (chunks file)) (leb (length (chunks file)) 64) (distinct (chunks file))
    ∙ rw (← every-good (chunks file)) (few_all good (chunks file))

pub good_disobeys : (c : List ℕ) (cs : List (List ℕ)) → obeys c ≡ false → good c cs ≡ false
unfolding good
good_disobeys c cs e = rw e

pub good_again : (c : List ℕ) (cs : List (List ℕ)) → obeys c ≡ true → named (name c) cs ≡ true → good c cs ≡ false
unfolding good
good_again c cs e f = rw (e, f)

pub good_new : (c : List ℕ) (cs : List (List ℕ)) → obeys c ≡ true → named (name c) cs ≡ false → good c cs ≡ true
unfolding good
good_new c cs e f = rw (e, f)

abbrev pub fits : List ℕ → List (List ℕ) → Bool
fits c cs = shaped c

every-fits : (cs : List (List ℕ)) → every fits cs ≡ all_shaped cs
unfolding every all_shaped
every-fits [] = refl
every-fits (c ∷ cs) = rw (every-fits cs)

pub sound_few : (file : List ℕ) → sound file ≡ few_from fits 0 (chunks file)
unfolding sound count
sound_few file = rw (← every-fits (chunks file)) (few_all fits (chunks file))

-- ---- how many records

pub count_none : (before at : ℕ) (file : List ℕ) → chunks (drop at file) ≡ [] → before + length (chunks (drop at file)) ≡ before
count_none before at file e = rw e (omega arith)

pub count-on : (before at : ℕ) (r : Reading) (behind raised : ℕ) (file : List ℕ) → Taken file at before r behind raised
    → before + length (chunks (drop at file)) ≡ raised + length (chunks (drop behind file))
count-on before at r behind raised file t = rw (t.walk, t.one_more) (omega arith)

-- the rest of a row from a place on
pub rest_part : (at : ℕ) (l : List ℕ) → part at (length l) l ≡ drop at l
rest_part at l =
    let short : length (drop at l) ≤ length l = rw length-drop (omega arith) in
    part_def at (length l) l ∙ take_all (length l) (drop at l) short
