-- A new digest in one record, whole or broken off after any number of bytes: which bytes it writes, and what stays.
use Rattle.std.specs.Prelude.{true, false, ◌&&◌, List, [], ◌∷◌, ◌≢◌, ◌≡◌, refl, ℕ, zero, suc, ◌-◌, ◌≤◌, ◌<◌, min, leb, length, take, get_or}
use Rattle.std.proofs.Common.{sym, ap, ◌∙◌, suc-ne-zero, not-suc-le-zero, le_of_suc-le-suc, arith, leb-true, leb-false, length-take, take-take, take_all}
use Rattle.std.proofs.Math.Nat.{suc-sub-suc, zero-sub, sub-zero}
use Rattle.octets.specs.Lists.{part, over, write_at, on_nth}
use Rattle.octets.specs.Spans.{bytes_of}
use Rattle.octets.specs.PartLaws.{length_part, length-part_in}
use Rattle.octets.specs.OnPartLaws.{on_part-same}
use Rattle.octets.specs.NthLaws.{nth_on_nth-other}
use Rattle.octets.specs.WriteLaws.{length_over, over_nothing, over-same, over-front, over-take, write_at-nil, on_part-write_at}
use Rattle.rows.specs.Records.{chunks}
use Rattle.rows.specs.LikeLaws.{by_test}
use Rattle.passwords.specs.Account.{digest_start, digest_length, digest_of, shaped, obeys, changed}
use Rattle.passwords.specs.AccountLaws.{both, obeys-shaped, changed-write, length-changed, digest-changed, shaped-digest, same-changed}
use Rattle.passwords.specs.Walk.{span_of}
use Rattle.passwords.specs.WalkLaws.{span_fits, span_change}
use Rattle.passwords.specs.PasswordFile.{all_obey, distinct, well_formed, all_shaped, sound, count, record_at, digest_at, digest_place, with_digest}
use Rattle.passwords.specs.FileLaws.{record_part}
use Rattle.passwords.specs.SameLaws.{SameUsers, same-on_nth, same-chunks, same_users, users-length, users-wellFormed}

-- ---- lists

take-least : (a b : ℕ) (l : List ℕ) → take a (take b l) ≡ take (min a b) l
take-least a b l = by_test (leb a b) low high
  where
    low : leb a b ≡ true → take a (take b l) ≡ take (min a b) l
    low t =
        let h = leb-true a b t in
        let e : min a b ≡ a = omega arith in
        rw e (take-take a b l h)

    high : leb a b ≡ false → take a (take b l) ≡ take (min a b) l
    high t =
        let h = leb-false a b t in
        let e : min a b ≡ b = omega arith in
        rw e (take_all a (take b l) (rw length-take (omega arith)))

take-swap : (a b : ℕ) (l : List ℕ) → take a (take b l) ≡ take b (take a l)
take-swap a b l =
    let e : min a b ≡ min b a = omega arith in
    take-least a b l ∙ rw e (sym (take-least b a l))

-- the first k bytes of what a write leaves, over what was there before the write, are the write's own first bytes
over-written : (k at : ℕ) (new old : List ℕ) → over (take k (write_at at new old)) old ≡ write_at at (take (k - at) new) old
unfolding over write_at
over-written k zero new old = over-take k (over new old) old (length_over new old) ∙ rw (sub-zero k) (sym (over-front k new old))
over-written zero (suc at) new old = rw (zero-sub (suc at)) (sym (write_at-nil (suc at) old))
over-written (suc k) (suc at) new [] = rw (over_nothing new, over_nothing (take (suc k - suc at) new))
over-written (suc k) (suc at) new (y ∷ old) = rw (suc-sub-suc k at, over-written k at new old)

-- ---- by record

pub chunks-changed : (i : ℕ) (new file : List ℕ) → chunks (with_digest i new file) ≡ on_nth i (changed new) (chunks file)
unfolding with_digest
chunks-changed i new file = same-chunks file (same-on_nth (changed new) (same-changed new) i (chunks file))

-- the walk, the names, `find` and its count, and well-formedness stay
pub changed_users : (i : ℕ) (new file : List ℕ) → SameUsers file (with_digest i new file)
unfolding with_digest
changed_users i new file = same_users file (same-on_nth (changed new) (same-changed new) i (chunks file))

nothing : (l : List ℕ) → length l ≡ 0 → l ≡ []
nothing [] e = refl
nothing (x ∷ l) e = absurd (suc-ne-zero (length l) e)

nth_changed : (f : List ℕ → List ℕ) → f [] ≡ [] → (i : ℕ) (cs : List (List ℕ)) → get_or (on_nth i f cs) i [] ≡ f (get_or cs i [])
unfolding on_nth
nth_changed f e i [] = sym e
nth_changed f e zero (c ∷ cs) = refl
nth_changed f e (suc i) (c ∷ cs) = nth_changed f e i cs

-- the new digest is in force in record i, as much of it as there is room for
pub digest-new : (i : ℕ) (new file : List ℕ) → digest_at i (with_digest i new file) ≡ over new (digest_at i file)
unfolding digest_at record_at
digest-new i new file =
    rw (chunks-changed i new file, nth_changed (changed new) (nothing (changed new []) (length-changed new [])) i (chunks file))
    (digest-changed new (get_or (chunks file) i []))

pub digest-new-whole : (i : ℕ) (new file : List ℕ) → length new ≡ length (digest_at i file) → digest_at i (with_digest i new file) ≡ new
digest-new-whole i new file e = digest-new i new file ∙ over-same new (digest_at i file) e

-- no other account's record changes, so none of its digests
pub record_other : (i j : ℕ) (new file : List ℕ) → i ≢ j → record_at j (with_digest i new file) ≡ record_at j file
unfolding record_at
record_other i j new file h = rw (chunks-changed i new file) (nth_on_nth-other i j (changed new) (chunks file) [] h)

pub digest-other : (i j : ℕ) (new file : List ℕ) → i ≢ j → digest_at j (with_digest i new file) ≡ digest_at j file
unfolding digest_at
digest-other i j new file h = rw (record_other i j new file h)

-- ---- by place

length_record : (i : ℕ) (file : List ℕ) → length (record_at i file) ≡ (span_of i file).length
unfolding bytes_of
length_record i file = rw (record_part i file) (length-part_in (span_of i file).place (span_of i file).length file (span_fits i file))

room : (i : ℕ) (file : List ℕ) → min ((span_of i file).length - digest_start) digest_length ≡ length (digest_at i file)
unfolding digest_at digest_of
room i file =
    let long = length_record i file in
    sym (length_part digest_start digest_length (record_at i file) ∙ omega arith)

-- it is a write of as much of the new digest as there is room for
pub changed-place : (i : ℕ) (new file : List ℕ) → with_digest i new file ≡ write_at (digest_place i file) (take (length (digest_at i file)) new) file
unfolding with_digest digest_place
changed-place i new file =
    let at = (span_of i file).place in
    let n = (span_of i file).length in
    sym (span_change (changed new) (length-changed new) i file)
    ∙ on_part-same at n (changed new) (write_at digest_start (take digest_length new)) file (changed-write new (part at n file))
    ∙ on_part-write_at at n digest_start (take digest_length new) file
    ∙ rw (take-least (n - digest_start) digest_length new, room i file)

pub changed-write-at : (i : ℕ) (new file : List ℕ) → length new ≤ length (digest_at i file) → with_digest i new file ≡ write_at (digest_place i file) new file
changed-write-at i new file h = rw (take_all (length (digest_at i file)) new h) at (changed-place i new file)

-- ---- broken off

-- a write of the changed file from its first byte on that breaks off after k bytes is a change by the first bytes of the new digest
pub broken_off : (k i : ℕ) (new file : List ℕ) → over (take k (with_digest i new file)) file ≡ with_digest i (take (k - digest_place i file) new) file
broken_off k i new file =
    let at = digest_place i file in
    let n = length (digest_at i file) in
    ap (λ (l : List ℕ). over (take k l) file) (changed-place i new file)
    ∙ over-written k at (take n new) file
    ∙ ap (λ (l : List ℕ). write_at at l file) (take-swap (k - at) n new)
    ∙ sym (changed-place i (take (k - at) new) file)

-- the walk, the names, `find` and its count, and well-formedness stay
pub broken_users : (k i : ℕ) (new file : List ℕ) → SameUsers file (over (take k (with_digest i new file)) file)
broken_users k i new file = rw (broken_off k i new file) (changed_users i (take (k - digest_place i file) new) file)

pub broken-digest : (k i : ℕ) (new file : List ℕ)
    → digest_at i (over (take k (with_digest i new file)) file) ≡ over (take (k - digest_place i file) new) (digest_at i file)
broken-digest k i new file = rw (broken_off k i new file) (digest-new i (take (k - digest_place i file) new) file)

pub broken-other : (k i j : ℕ) (new file : List ℕ) → i ≢ j → record_at j (over (take k (with_digest i new file)) file) ≡ record_at j file
broken-other k i j new file h = rw (broken_off k i new file) (record_other i j (take (k - digest_place i file) new) file h)

-- "leaves a well-formed file of the same length"
pub broken-well_formed : (k i : ℕ) (new file : List ℕ) → well_formed file ≡ true
    → (well_formed (over (take k (with_digest i new file)) file) ≡ true) × (length (over (take k (with_digest i new file)) file) ≡ length file)
broken-well_formed k i new file w =
    let s = broken_users k i new file in
    (sym (users-wellFormed s) ∙ w, sym (users-length s))

-- ---- the digests' length

nth_shaped : (i : ℕ) (cs : List (List ℕ)) → all_shaped cs ≡ true → i < length cs → shaped (get_or cs i []) ≡ true
unfolding all_shaped
nth_shaped i [] e h = absurd (not-suc-le-zero h)
nth_shaped zero (c ∷ cs) e h = (both (shaped c) (all_shaped cs) e).0
nth_shaped (suc i) (c ∷ cs) e h = nth_shaped i cs (both (shaped c) (all_shaped cs) e).1 (le_of_suc-le-suc h)

pub digest-length : (i : ℕ) (file : List ℕ) → sound file ≡ true → i < count file → length (digest_at i file) ≡ digest_length
unfolding digest_at record_at sound count
digest-length i file w h = shaped-digest (get_or (chunks file) i []) (nth_shaped i (chunks file) (both (all_shaped (chunks file)) (leb (count file) 64) w).0 h)

-- a whole digest goes where the old one stood, whole, and is in force
pub digest-put : (i : ℕ) (new file : List ℕ) → sound file ≡ true → i < count file → length new ≡ digest_length
    → (with_digest i new file ≡ write_at (digest_place i file) new file) × (digest_at i (with_digest i new file) ≡ new)
digest-put i new file w h e =
    let long : length new ≡ length (digest_at i file) = e ∙ sym (digest-length i file w h) in
    (changed-write-at i new file (omega arith), digest-new-whole i new file long)

-- ---- a well-formed file is sound

obeyed_shaped : (cs : List (List ℕ)) → all_obey cs ≡ true → all_shaped cs ≡ true
unfolding all_obey all_shaped
obeyed_shaped [] e = refl
obeyed_shaped (c ∷ cs) e =
    let h = both (obeys c) (all_obey cs) e in
    rw (obeys-shaped c h.0, obeyed_shaped cs h.1)

pub well_formed-sound : (file : List ℕ) → well_formed file ≡ true → sound file ≡ true
unfolding well_formed sound
well_formed-sound file w =
    let h = both (all_obey (chunks file)) (leb (count file) 64 && distinct (chunks file)) w in
    let few = (both (leb (count file) 64) (distinct (chunks file)) h.1).0 in
    rw (obeyed_shaped (chunks file) h.0, few)
