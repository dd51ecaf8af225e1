-- Laws of the state test: its parts as a loop and a sum that cannot wrap find them.
use Rattle.std.specs.Prelude.{Bool, true, false, ◌&&◌, ◌≡◌, refl, ℕ, ◌+◌, ◌-◌, ◌≤◌, ◌<◌, leb, length, take, get_or, List}
use Rattle.std.proofs.Common.{sym, arith, leb-true, leb-false, le-leb, take_all}
use Rattle.std.proofs.Math.Bool.{and-eq-true_iff}
use Rattle.std.proofs.lemmas.Bool.{lt-leb}
use Rattle.std.proofs.lemmas.List.Folds.{list_all_more}
use Rattle.state.specs.declared.Plan.{Plan}
use Rattle.guard.specs.Test.{all_of, good_counts}

module _ {A : Type 0} (f : A → Bool) where
  -- one turn of a loop that has tested the first i of n
  pub all_of-step : {n : ℕ} (l : List A) (i : ℕ) (d : A) (all : Bool) → length l ≡ n → i < n → all ≡ all_of f (take i l)
      → (all && f (get_or l i d)) ≡ all_of f (take (i + 1) l)
  unfolding all_of
  all_of-step {n} l i d all size h e = let k : i < length l = omega arith in rw (list_all_more f l i d k, e)

  -- its end
  pub all_of_end : {n : ℕ} (l : List A) (i : ℕ) (all : Bool) → length l ≡ n → n ≤ i → all ≡ all_of f (take i l) → all ≡ all_of f l
  all_of_end {n} l i all size h e = let k : length l ≤ i = omega arith in rw (take_all i l k) at e

-- a place and a length, without their sum
pub no_wrap : (place n area : ℕ) → place ≤ area → leb n (area - place) ≡ leb (place + n) area
no_wrap place n area h = sym (go (leb n (area - place)) refl)
  where
    go : (t : Bool) → leb n (area - place) ≡ t → leb (place + n) area ≡ t
    go true e = let k : n ≤ area - place = leb-true n (area - place) e in le-leb (place + n) area (omega arith)
    go false e = let k : area - place < n = leb-false n (area - place) e in lt-leb (place + n) area (omega arith)

-- good counts say that there are at most eight partitions
pub few : (plan : Plan) → good_counts plan ≡ true → plan.count ≤ 8
unfolding good_counts
few plan e =
    let a = ((and-eq-true_iff (leb 1 plan.count && leb plan.count 8) (leb plan.dsegs 16 && leb plan.msegs 16)).0 e).0 in
    leb-true plan.count 8 ((and-eq-true_iff (leb 1 plan.count) (leb plan.count 8)).0 a).1
