-- What the record view says of a record that is read, and what a change of the digest leaves of it.
use Rattle.std.specs.Prelude.{Bool, true, false, ◌&&◌, List, [], ◌∷◌, ◌≡◌, refl, ℕ, suc, ◌+◌, ◌≤◌, eqb, leb, length, take, drop}
use Rattle.std.proofs.Common.{sym, ap, ◌∙◌, le_refl, arith, ne_eqb, leb-true, length-drop, take_all}
use Rattle.std.proofs.Math.Bool.{and-eq-true_iff}
use Rattle.std.proofs.lemmas.List.{length-replicate}
use Prim.Native.Nat.compare
use Rattle.octets.specs.Search.{index_of, index_after}
use Rattle.octets.specs.Lists.{part, over, on_part, write_at, KeepsLength}
use Rattle.octets.specs.PartLaws.{part_def, take_part, length_part}
use Rattle.octets.specs.OnPartLaws.{on_part-same, length-on_part, drop-on_part-behind, part-on_part-same, on_part-twice}
use Rattle.octets.specs.WriteLaws.{length_over, write_at-zero, on_part-write_at}
use Rattle.rows.specs.declared.Cursor.{Cursor}
use Rattle.octets.specs.declared.span.Span.{Span}
use Rattle.rows.specs.declared.Step.{Step}
use Rattle.rows.specs.declared.Step.TheVariants.{Record, Cut, End}
use Rattle.rows.specs.Records.{payload_length, kind, size, join, whole, Alike}
use Rattle.rows.specs.WalkLaws.{payload_length-same, kind-same, six_size, join-chunks}
use Rattle.rows.specs.LikeLaws.{whole_same}
use Rattle.rows.specs.ChangeLaws.{alike-on_part}
use Rattle.rows.specs.Steps.{step_at}
use Rattle.rows.specs.StepLaws.{Passed, step-passed, step-stopped, step-ended}
use Rattle.passwords.specs.Account.{digest_length, digest_of, name, no_zero, shaped, obeys, changed, zeros, blanked}

-- ---- a record that is read

pub name_part : (c : List ℕ) → part 38 (length c) c ≡ name c
unfolding name
name_part c =
    let short : length (drop 38 c) ≤ length c = rw length-drop (omega arith) in
    part_def 38 (length c) c ∙ take_all (length c) (drop 38 c) short

pub digest_part : (c : List ℕ) → part 6 32 c ≡ digest_of c
unfolding digest_of
digest_part c = refl

-- no byte is zero where the first zero stands behind the end
pub no_zero_lem : (l : List ℕ) → eqb (index_of 0 l) (length l) ≡ no_zero l
unfolding index_of index_after no_zero
no_zero_lem [] = refl
no_zero_lem (b ∷ l) = go (eqb b 0) refl (no_zero_lem l)
  where
    go : (t : Bool) → eqb b 0 ≡ t → eqb (index_of 0 l) (length l) ≡ no_zero l → eqb (index_of 0 (b ∷ l)) (length (b ∷ l)) ≡ no_zero (b ∷ l)
    go true e rest = rw e (ne_eqb 0 (suc (length l)) (λ z. absurd (omega arith)))
    go false e rest = rw (e, compare.suc-suc) rest

-- a record that is read as one is as long as its header says where the next would stand at its end
whole-read : (c : List ℕ) (k start n : ℕ) (next : Cursor) → Passed c 0 k start n next → whole c ≡ eqb (length c) next.at
unfolding whole size
whole-read c k start n next p =
    let head : take 6 (part 0 (6 + n) c) ≡ take 6 c = take_part 6 0 (6 + n) c (omega arith) ∙ part_def 0 6 c in
    let same = payload_length-same (part 0 (6 + n) c) c head in
    let counts = p.counts in
    let goes_on = p.goes_on in
    let e : 6 + payload_length c ≡ next.at = omega arith in
    rw e

kind-read : (c : List ℕ) (k start n : ℕ) (next : Cursor) → Passed c 0 k start n next → kind c ≡ k
kind-read c k start n next p =
    let head : take 6 (part 0 (6 + n) c) ≡ take 6 c = take_part 6 0 (6 + n) c (omega arith) ∙ part_def 0 6 c in
    sym (kind-same (part 0 (6 + n) c) c head) ∙ p.of_kind

pub shaped-read : (c : List ℕ) (k : ℕ) (payload : Span) (next : Cursor) → step_at c 0 ≡ Record k payload next
    → shaped c ≡ (eqb (length c) next.at && (leb 1 (length (name c)) && leb (length (name c)) 32))
unfolding shaped
shaped-read c k payload next e = rw (whole-read c k payload.place payload.length next (step-passed c 0 k payload next e))

pub shaped-cut : (c : List ℕ) → step_at c 0 ≡ Cut → shaped c ≡ false
unfolding shaped
shaped-cut c e = let w : whole c ≡ false = (step-stopped c 0 e).1 in rw w

pub shaped-none : (c : List ℕ) → step_at c 0 ≡ End → shaped c ≡ false
unfolding shaped whole join
shaped-none c e =
    let nothing : c ≡ [] = sym (join-chunks c) ∙ ap join (step-ended c 0 e) in
    let w : whole [] ≡ false = ne_eqb 0 (size []) (λ z. absurd (omega (arith, six_size []))) in
    rw (nothing, w)

-- what is not read as a record has no such shape
pub unshaped : (c : List ℕ) → ((k : ℕ) (payload : Span) (next : Cursor) → step_at c 0 ≡ Record k payload next → ⊥) → shaped c ≡ false
unshaped c h = go (step_at c 0) refl
  where
    go : (s : Step) → step_at c 0 ≡ s → shaped c ≡ false
    go (Record k payload next) e = absurd (h k payload next e)
    go Cut e = shaped-cut c e
    go End e = shaped-none c e

pub obeys-read : (c : List ℕ) (k : ℕ) (payload : Span) (next : Cursor) → step_at c 0 ≡ Record k payload next → obeys c ≡ (shaped c && (eqb k 2 && no_zero (name c)))
unfolding obeys
obeys-read c k payload next e = rw (kind-read c k payload.place payload.length next (step-passed c 0 k payload next e))

pub obeys_unshaped : (c : List ℕ) → shaped c ≡ false → obeys c ≡ false
unfolding obeys
obeys_unshaped c e = rw e

-- ---- a record that obeys

pub both : (a b : Bool) → (a && b) ≡ true → (a ≡ true) × (b ≡ true)
both a b e = (and-eq-true_iff a b).0 e

pub obeys-shaped : (c : List ℕ) → obeys c ≡ true → shaped c ≡ true
unfolding obeys
obeys-shaped c e = (both (shaped c) (eqb (kind c) 2 && no_zero (name c)) e).0

pub shaped-digest : (c : List ℕ) → shaped c ≡ true → length (digest_of c) ≡ digest_length
unfolding shaped digest_of name
shaped-digest c e =
    let n = drop 38 c in
    let named = (both (whole c) (leb 1 (length n) && leb (length n) 32) e).1 in
    let some = leb-true 1 (length (drop 38 c)) (both (leb 1 (length n)) (leb (length n) 32) named).0 in
    let long = length-drop 38 c in
    length_part 6 32 c ∙ omega arith

-- ---- a record that is changed

pub length-zeros : KeepsLength zeros
unfolding zeros
length-zeros l = length-replicate (length l) 0

-- what laying over a part does, by place
pub change_at : (new c : List ℕ) → changed new c ≡ on_part 6 32 (write_at 0 new) c
unfolding changed
change_at new c = on_part-same 6 32 (over new) (write_at 0 new) c (sym (write_at-zero new (part 6 32 c)))

pub changed-write : (new c : List ℕ) → changed new c ≡ write_at 6 (take 32 new) c
changed-write new c = change_at new c ∙ on_part-write_at 6 32 0 new c

pub length-changed : (new : List ℕ) → KeepsLength (changed new)
unfolding changed
length-changed new = length-on_part (over new) (length_over new) 6 32

-- the new digest is in force, as much of it as there is room for
pub digest-changed : (new c : List ℕ) → digest_of (changed new c) ≡ over new (digest_of c)
unfolding digest_of changed
digest-changed new c = part-on_part-same (over new) (length_over new) 6 32 c

-- behind the mask no change is seen, and none of the mask itself
zeros-same : (f : List ℕ → List ℕ) → KeepsLength f → (l : List ℕ) → zeros (f l) ≡ zeros l
unfolding zeros
zeros-same f keeps l = rw (keeps l)

blanked-over : (f : List ℕ → List ℕ) → KeepsLength f → (c : List ℕ) → on_part 6 32 zeros (on_part 6 32 f c) ≡ on_part 6 32 zeros c
blanked-over f keeps c =
    on_part-twice f keeps 6 32 zeros c
    ∙ on_part-same 6 32 (λ x. zeros (f x)) zeros c (zeros-same f keeps (part 6 32 c))

pub blanked-changed : (new c : List ℕ) → blanked (changed new c) ≡ blanked c
unfolding blanked changed
blanked-changed new c = blanked-over (over new) (length_over new) c

pub blanked-twice : (c : List ℕ) → blanked (blanked c) ≡ blanked c
unfolding blanked
blanked-twice c = blanked-over zeros length-zeros c

-- ---- one account

-- records with the same header, as many bytes and the same name: only their digests may differ
abbrev pub SameAccount : List ℕ → List ℕ → Type 0
SameAccount c d = Alike c d × (name c ≡ name d)

same-on_part : (f : List ℕ → List ℕ) → KeepsLength f → (c : List ℕ) → SameAccount c (on_part 6 32 f c)
unfolding name
same-on_part f keeps c = (alike-on_part f keeps 6 32 c (le_refl 6), sym (drop-on_part-behind f keeps 38 6 32 c (le_refl 38)))

pub same-changed : (new c : List ℕ) → SameAccount c (changed new c)
unfolding changed
same-changed new c = same-on_part (over new) (length_over new) c

pub same-blanked : (c : List ℕ) → SameAccount c (blanked c)
unfolding blanked
same-blanked c = same-on_part zeros length-zeros c

pub same-shaped : (c d : List ℕ) → SameAccount c d → shaped c ≡ shaped d
unfolding shaped
same-shaped c d s = rw (whole_same c d s.0, s.1)

pub same-obeys : (c d : List ℕ) → SameAccount c d → obeys c ≡ obeys d
unfolding obeys
same-obeys c d s = rw (same-shaped c d s, kind-same c d s.0.0, s.1)
