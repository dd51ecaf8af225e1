-- No two segments share a byte of the arena: start lays them one behind the other, and what is not declared has no bytes.
use Rattle.std.specs.Prelude.{Bool, List, ◌⊎◌, ◌≡◌, refl, ℕ, ◌-◌, ◌≤◌, ◌<◌, ltb, length}
use Rattle.std.proofs.Common.{inl, inr, arith}
use Rattle.std.proofs.Math.Decide.{dec_le}
use Rattle.devices.specs.Choice.{by_cond}
use Rattle.octets.specs.declared.span.Span.{Span}
use Rattle.setup.specs.declared.Setup.{Setup}
use Rattle.octets.specs.Spans.{no_span, span}
use Rattle.state.specs.declared.Kept.{Kept}
use Rattle.state.specs.declared.Plan.{Plan}
use Rattle.state.specs.declared.Segment.{Segment}
use Rattle.state.specs.Parts.{segment_at}
use Rattle.state.specs.PartsLaws.{segment_out}
use Rattle.begin.specs.EachLaws.{length-firsts}
use Rattle.begin.specs.Files.{dseg_files}
use Rattle.begin.specs.Planned.{size_of, start_of, dseg_of, mseg_of, segment_of, planned}
use Rattle.good.specs.Good.{SpansApart}
use Rattle.started.specs.SetUp.{SetUp}
use Rattle.started.specs.Rows.{total-below}
use Rattle.started.specs.Plan.{plan, segment_at_lem}

module _ (soft : Bool) (text store : List ℕ) (kept : Kept) (count : ℕ) (active : List Bool) (s : Setup) (k : SetUp text store count active s) where
  abbrev files : List Span
  files = dseg_files s text store

  abbrev the_plan : Plan
  the_plan = plan soft s text store kept

  -- nothing, or as many bytes as it has from where those before it end
  abbrev Laid : ℕ → Segment → Type 0
  Laid row x = (x.memory ≡ no_span) ⊎ (x.memory ≡ span (start_of s files row) (size_of s files row))

  laid : (row : ℕ) → Laid row (segment_of s files row)
  unfolding segment_of dseg_of mseg_of
  laid row =
      by_cond (Laid row) (ltb row 16)
      (λ e. by_cond (Laid row) (ltb row s.dsegcount) (λ f. inr refl) (λ f. inl refl))
      (λ e. by_cond (Laid row) (ltb (row - 16) s.msegcount) (λ f. inr refl) (λ f. inl refl))

  laid-at : (row : ℕ) → Laid row (segment_at the_plan row)
  unfolding planned
  laid-at row = go (dec_le 32 row)
    where
      go : Dec (32 ≤ row) → Laid row (segment_at the_plan row)
      go (yes h) =
          let long : length the_plan.segments ≤ row = rw (length-firsts (segment_of s files) 32) h in
          rw (← segment_out the_plan row long) (inl refl)
      go (no h) = rw (segment_at_lem soft text store kept count active s k row (omega arith)) (laid row)

  in_order_lem : (i j : ℕ) → i < j → SpansApart (segment_at the_plan i).memory (segment_at the_plan j).memory
  unfolding start_of
  in_order_lem i j h = go (laid-at i) (laid-at j)
    where
      go : Laid i (segment_at the_plan i) → Laid j (segment_at the_plan j) → SpansApart (segment_at the_plan i).memory (segment_at the_plan j).memory
      go (inl e) f = rw e (inl (omega arith))
      go (inr e) (inl f) = rw f (inr (omega arith))
      go (inr e) (inr f) = rw (e, f) (inl (total-below (size_of s files) j i h))

  flipped : (a b : Span) → SpansApart a b → SpansApart b a
  flipped a b (inl h) = inr h
  flipped a b (inr h) = inl h

  pub apart-at : (i j : ℕ) → (i ≡ j → ⊥) → SpansApart (segment_at the_plan i).memory (segment_at the_plan j).memory
  apart-at i j differ = go (dec_le j i)
    where
      go : Dec (j ≤ i) → SpansApart (segment_at the_plan i).memory (segment_at the_plan j).memory
      go (yes h) = flipped (segment_at the_plan j).memory (segment_at the_plan i).memory (in_order_lem j i (less h))
        where
          less : j ≤ i → j < i
          less l = omega (arith, differ)
      go (no h) = in_order_lem i j (omega arith)
