-- Reading, one statement at a time; and what nothing refused says of the room for one segment more.
use Rattle.std.specs.Prelude.{Bool, List, ◌≡◌, ℕ, suc, ◌-◌, ◌≤◌, ◌<◌, leb, length}
use Rattle.std.proofs.Common.{sym, ap, ◌∙◌, arith, eq-eqb, ne_eqb, le-leb, leb-false}
use Rattle.std.proofs.lemmas.Bool.{lt-leb}
use Rattle.checks.specs.Checks.{Check, after}
use Rattle.checks.specs.Refusals.{number_of}
use Rattle.checks.specs.declared.refusal.Refusal.{Refusal}
use Rattle.checks.specs.Laws.{not-due, second-not-due}
use Rattle.text.specs.Gaps.{token_place}
use Rattle.statements.specs.Statements.{statement_at, kind_at, statement_of}
use Rattle.statements.specs.Kinds.{statement_of_kind}
use Rattle.statements.specs.declared.Kind.{Kind}
use Rattle.setup.specs.declared.Setup.{Setup}
use Rattle.setup.specs.Outcomes.{Judged}
use Rattle.checks.specs.Numbers.{some_number}
use Rattle.setup.specs.Rules.{dseg_checks, mseg_checks}
use Rattle.setup.specs.Reading.{settled, refused_at, judged, judged_at, refusal, ended, read_from}

pub of_kind : (text : List ℕ) (at : ℕ) (k : Kind) → kind_at text at ≡ k → statement_at text at ≡ statement_of text k
of_kind text at k e = statement_of_kind text at ∙ ap (statement_of text) e

pub dseg-room : (look : Bool) (image text : List ℕ) (rank : ℕ) (s : Setup) (index : ℕ) (path : List ℕ) (host count bits n : ℕ)
    → n ≡ after 0 (dseg_checks look image text rank s index path host count bits) → n ≡ 0 → s.dsegcount < 16
unfolding dseg_checks
dseg-room look image text rank s index path host count bits n e z =
    leb-false 16 s.dsegcount (second-not-due 0 405 _ (leb 16 s.dsegcount) _ (sym e ∙ z) (λ q. omega arith))

pub mseg-room : (s : Setup) (index size host count bits n : ℕ)
    → n ≡ after 0 (mseg_checks s index size host count bits) → n ≡ 0 → s.msegcount < 16
unfolding mseg_checks
mseg-room s index size host count bits n e z =
    leb-false 16 s.msegcount (not-due 0 405 (leb 16 s.msegcount) _ (sym e ∙ z) (λ q. omega arith))

-- a statement refused, and one accepted
module _ (text : List ℕ) (p : ℕ) (checks : List Check) (good : Judged) where
  pub settled_refused : (r : Refusal) → number_of r ≡ after 0 checks → refused_at text p (number_of r) ≡ settled text p checks good
  unfolding settled
  settled_refused r e = rw (← e, some_number r)

  pub settled_accepted : 0 ≡ after 0 checks → good ≡ settled text p checks good
  unfolding settled
  settled_accepted e = rw (← e)

module _ (look : Bool) (image text : List ℕ) (left at rank : ℕ) (s : Setup) where
  pub turn_out : left ≤ 0 → read_from look image text left at rank s ≡ refusal 404 0
  unfolding read_from
  turn_out h = let e : left ≡ 0 = omega arith in rw e

  one_more : 0 < left → left ≡ suc (left - 1)
  one_more h = omega arith

  pub turn-ended : 0 < left → (place : ℕ) → place ≡ token_place text at → length text ≤ place
      → read_from look image text left at rank s ≡ ended s
  unfolding read_from
  turn-ended h place e k = rw (one_more h, ← e, le-leb (length text) place k)

  module _ (h : 0 < left) (place : ℕ) (e : place ≡ token_place text at) (k : place < length text)
      (j : Judged) (f : j ≡ judged look image text place rank s (statement_at text at)) where
    same : j ≡ judged_at look image text at rank s
    unfolding judged_at
    same = rw (← e) f

    pub turn-refused : (j.number ≡ 0 → ⊥) → read_from look image text left at rank s ≡ refusal j.number j.line
    unfolding read_from
    turn-refused z = rw (one_more h, ← same, ← e, lt-leb (length text) place k, ne_eqb j.number 0 z)

    turned : (n : ℕ) → left ≡ suc n → j.number ≡ 0
        → read_from look image text left at rank s ≡ read_from look image text n j.next j.rank j.setup
    unfolding read_from
    turned n m z = rw (m, ← same, ← e, lt-leb (length text) place k, eq-eqb j.number 0 z)

    pub turn_more : j.number ≡ 0
        → read_from look image text left at rank s ≡ read_from look image text (left - 1) j.next j.rank j.setup
    turn_more z = turned (left - 1) (one_more h) z
