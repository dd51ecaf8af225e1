-- A change inside one record's payload that keeps its length changes that record, and no other.
use Rattle.std.specs.Prelude.{List, ◌∷◌, ◌++◌, ◌≡◌, ℕ, ◌+◌, ◌≤◌, length}
use Rattle.std.proofs.Common.{append_assoc, sym, ap, ◌∙◌, add_assoc, arith}
use Rattle.std.proofs.Math.Seq.{take-append-add, drop-append-add}
use Rattle.std.proofs.lemmas.List.{take-append-le, drop-append-le}
use Rattle.octets.specs.Lists.{on_part, KeepsLength}
use Rattle.octets.specs.PartLaws.{part-append-left, part-append-right}
use Rattle.octets.specs.OnPartLaws.{on_part_def, length-on_part, take-on_part-before}
use Rattle.rows.specs.Records.{chunks, join, Alike, Like}
use Rattle.rows.specs.WalkLaws.{join-chunks}
use Rattle.rows.specs.LikeLaws.{join-append, like_one, rechunk}

-- ---- a change in the first or in the second of two lists

pub on_part-left : (at n : ℕ) (f : List ℕ → List ℕ) (c rest : List ℕ) → at + n ≤ length c → on_part at n f (c ++ rest) ≡ on_part at n f c ++ rest
on_part-left at n f c rest h =
    let k : at ≤ length c = omega arith in
    rw (
      on_part_def at n f (c ++ rest),
      on_part_def at n f c,
      take-append-le at c rest k,
      part-append-left at n c rest h,
      drop-append-le (at + n) c rest h,
    )
    (simp append_assoc)

pub on_part-right : (at n : ℕ) (f : List ℕ → List ℕ) (c rest : List ℕ) → on_part (length c + at) n f (c ++ rest) ≡ c ++ on_part at n f rest
on_part-right at n f c rest =
    rw (
      on_part_def (length c + at) n f (c ++ rest),
      on_part_def at n f rest,
      take-append-add c rest at,
      part-append-right at n c rest,
      add_assoc (length c) at n,
      drop-append-add c rest (at + n),
    )
    (simp append_assoc)

-- ---- a change in one record

module _ (f : List ℕ → List ℕ) (keeps : KeepsLength f) where
  -- behind the header
  pub alike-on_part : (at n : ℕ) (c : List ℕ) → 6 ≤ at → Alike c (on_part at n f c)
  alike-on_part at n c h = (sym (take-on_part-before f keeps 6 at n c h), sym (length-on_part f keeps at n c))

  pub join-on_part : (xs : List (List ℕ)) (c : List ℕ) (ys : List (List ℕ)) (at n : ℕ) → at + n ≤ length c
      → join (xs ++ (on_part at n f c ∷ ys)) ≡ on_part (length (join xs) + at) n f (join (xs ++ (c ∷ ys)))
  unfolding join
  join-on_part xs c ys at n h =
      rw (
        join-append xs (on_part at n f c ∷ ys),
        join-append xs (c ∷ ys),
        on_part-right at n f (join xs) (c ++ join ys),
        on_part-left at n f c (join ys) h,
      )

  -- the walk afterwards
  pub chunks-on_part : (xs : List (List ℕ)) (c : List ℕ) (ys : List (List ℕ)) (l : List ℕ) (at n : ℕ) → chunks l ≡ xs ++ (c ∷ ys) → 6 ≤ at → at + n ≤ length c
      → chunks (on_part (length (join xs) + at) n f l) ≡ xs ++ (on_part at n f c ∷ ys)
  chunks-on_part xs c ys l at n e h k =
      let like : Like (chunks l) (xs ++ (on_part at n f c ∷ ys)) = rw e (like_one xs c (on_part at n f c) ys (alike-on_part at n c h)) in
      let row : join (xs ++ (c ∷ ys)) ≡ l = ap join (sym e) ∙ join-chunks l in
      ap (λ (m : List ℕ). chunks (on_part (length (join xs) + at) n f m)) (sym row) ∙ ap chunks (sym (join-on_part xs c ys at n k)) ∙ rechunk l like
