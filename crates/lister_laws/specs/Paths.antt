-- Every dseg of a set-up that was read has a path of at most 63 bytes.
use Rattle.std.specs.Prelude.{Bool, true, false, cond, List, [], ◌∷◌, eqb, leb, length, get_or, set, replicate, ℕ, zero, suc, ◌≤◌}
use Rattle.std.proofs.Common.{arith}
use Rattle.checks.specs.Checks.{after}
use Rattle.text.specs.Gaps.{token_place}
use Rattle.text.specs.Steps.{split}
use Rattle.text.specs.Tokens.{word_at, size_at, path_at}
use Rattle.text.specs.Sound.{path-read}
use Rattle.octets.specs.Spans.{bytes_of}
use Rattle.octets.specs.declared.span.Span.{Span}
use Rattle.statements.specs.declared.Grants.{Grants}
use Rattle.statements.specs.declared.Statement.{Statement}
use Rattle.statements.specs.declared.Statement.TheVariants.{Code, Dseg, Mseg, Malformed}
use Rattle.statements.specs.Statements.{byte, head_at, tail_at, code_at, dseg_at, mseg_at, statement_at}
use Rattle.statements.specs.Kinds.{by_token}
use Rattle.setup.specs.declared.Segment.{Segment}
use Rattle.setup.specs.declared.Setup.{Setup}
use Rattle.setup.specs.Outcomes.{Outcome}
use Rattle.setup.specs.Setup.{no_segment, begun, with_code, with_dseg, with_mseg}
use Rattle.setup.specs.Rules.{code_checks, dseg_checks, mseg_checks, code_missing}
use Rattle.setup.specs.Reading as reading
use Rattle.setup.specs.Reading.{settled, judged, judged_at, ended, refusal, read_from, read}
use Rattle.setup.specs.Values.{blank}

-- ---- rows of dsegs

pub data Short : List Segment → Type 0 where
  none : Short []
  one : {d : Segment} {ds : List Segment} → d.path.length ≤ 63 → Short ds → Short (d ∷ ds)

short-set : {ds : List Segment} (i : ℕ) (d : Segment) → d.path.length ≤ 63 → Short ds → Short (set ds i d)
short-set zero d h none = none
short-set (suc i) d h none = none
short-set zero d h (one g r) = one h r
short-set (suc i) d h (one g r) = one g (short-set i d h r)

short-blank : (n : ℕ) → Short (replicate n no_segment)
short-blank zero = none
short-blank (suc n) =
    let low : no_segment.path.length ≤ 63 = omega arith in
    one {d = no_segment} low (short-blank n)

pub short-at : {ds : List Segment} (i : ℕ) → Short ds → (get_or ds i blank).path.length ≤ 63
short-at zero none = omega arith
short-at (suc i) none = omega arith
short-at zero (one h r) = h
short-at (suc i) (one h r) = short-at i r

-- ---- what holds in every case

module _ {A : Type 0} (P : A → Type 0) where
  by_cond : (t : Bool) (a b : A) → P a → P b → P (cond t a b)
  by_cond true a b p q = p
  by_cond false a b p q = q

-- ---- statements

data Fits : Statement → Type 0 where
  code : {partition : ℕ} {path : Span} {next : ℕ} → Fits (Code partition path next)
  dseg : {index : ℕ} {path : Span} {grants : Grants} {next : ℕ} → path.length ≤ 63 → Fits (Dseg index path grants next)
  mseg : {index size : ℕ} {grants : Grants} {next : ℕ} → Fits (Mseg index size grants next)
  malformed : Fits Malformed

module _ (text : List ℕ) where
  code_fits : (at : ℕ) → Fits (code_at text at)
  unfolding code_at
  code_fits at =
      by_token Fits malformed (head_at text at) _ λ (partition, a) e.
      by_token Fits malformed (path_at text a) _ λ (path, b) f.
      by_token Fits malformed (byte 59 text b) _ λ c g.
      code

  dseg-fits : (at : ℕ) → Fits (dseg_at text at)
  unfolding dseg_at
  dseg-fits at =
      by_token Fits malformed (head_at text at) _ λ (index, a) e.
      by_token Fits malformed (byte 123 text a) _ λ b f.
      by_token Fits malformed (path_at text b) _ λ (path, c) g.
      by_token Fits malformed (tail_at text c) _ λ (grants, d) h.
      dseg (path-read text b path.place path.length c g).most

  mseg-fits : (at : ℕ) → Fits (mseg_at text at)
  unfolding mseg_at
  mseg-fits at =
      by_token Fits malformed (head_at text at) _ λ (index, a) e.
      by_token Fits malformed (byte 123 text a) _ λ b f.
      by_token Fits malformed (size_at text b) _ λ (size, c) g.
      by_token Fits malformed (tail_at text c) _ λ (grants, d) h.
      mseg

  statement_fits : (at : ℕ) → Fits (statement_at text at)
  unfolding statement_at
  statement_fits at =
      by_token Fits
      (by_token Fits
      (by_token Fits malformed (word_at (77 ∷ 83 ∷ 69 ∷ 71 ∷ []) text at) _ λ a e. mseg-fits a)
      (word_at (68 ∷ 83 ∷ 69 ∷ 71 ∷ []) text at) _ λ a e. dseg-fits a)
      (word_at (67 ∷ 79 ∷ 68 ∷ 69 ∷ []) text at) _ λ a e. code_fits a

-- ---- the reading

abbrev ShortOf : Outcome → Type 0
ShortOf o = Short o.setup.dsegs

module _ (look : Bool) (image text : List ℕ) where
  judged-short : (p rank : ℕ) (s : Setup) (st : Statement) → Fits st → Short s.dsegs → Short (judged look image text p rank s st).setup.dsegs
  unfolding judged settled begun with_code with_dseg with_mseg
  judged-short p rank s (Code partition path next) f h =
      split (eqb (after 0 (code_checks look image rank s partition (bytes_of text path))) 0) (λ e. rw e h) (λ e. rw e (short-blank 16))
  judged-short p rank s (Dseg index path grants next) (dseg f) h =
      split (eqb (after 0 (dseg_checks look image text rank s index (bytes_of text path) grants.host grants.permissions.count grants.permissions.bits)) 0)
      (λ e. rw e (short-set s.dsegcount (reading.dseg path grants) f h)) (λ e. rw e (short-blank 16))
  judged-short p rank s (Mseg index size grants next) f h =
      split (eqb (after 0 (mseg_checks s index size grants.host grants.permissions.count grants.permissions.bits)) 0) (λ e. rw e h) (λ e. rw e (short-blank 16))
  judged-short p rank s Malformed f h = short-blank 16

  judged_at-short : (at rank : ℕ) (s : Setup) → Short s.dsegs → Short (judged_at look image text at rank s).setup.dsegs
  unfolding judged_at
  judged_at-short at rank s h = judged-short (token_place text at) rank s (statement_at text at) (statement_fits text at) h

  refusal-short : (number line : ℕ) → ShortOf (refusal number line)
  unfolding begun
  refusal-short number line = short-blank 16

  ended-short : (s : Setup) → Short s.dsegs → ShortOf (ended s)
  unfolding ended
  ended-short s h = split (code_missing 8 s) (λ e. rw e (refusal-short 414 0)) (λ e. rw e h)

  from-short : (n at rank : ℕ) (s : Setup) → Short s.dsegs → ShortOf (read_from look image text n at rank s)
  unfolding read_from
  from-short zero at rank s h = refusal-short 404 0
  from-short (suc n) at rank s h =
      let one = judged_at-short at rank s h in
      split (leb (length text) (token_place text at)) (λ e. rw e (ended-short s h))
      (λ e. split (eqb (judged_at look image text at rank s).number 0)
      (λ g. rw (e, g)
      (from-short n (judged_at look image text at rank s).next (judged_at look image text at rank s).rank (judged_at look image text at rank s).setup one))
      (λ g. rw (e, g) (refusal-short (judged_at look image text at rank s).number (judged_at look image text at rank s).line)))

begun-short : (count : ℕ) (active : List Bool) → Short (begun count active).dsegs
unfolding begun
begun-short count active = short-blank 16

pub read_short_lem : (look : Bool) (image text : List ℕ) (count : ℕ) (active : List Bool) → Short (read look image text count active).setup.dsegs
unfolding read
read_short_lem look image text count active = from-short look image text 41 0 0 (begun count active) (begun-short count active)
