-- Refusals at start: the checks on one statement are tried in their order before the next is read; 414 comes behind the last.
use Rattle.std.specs.Prelude.{Bool, cond, List, [], ◌++◌, map, ℕ, zero, suc, eqb, leb, length}
use Rattle.checks.specs.Checks.{Check, after}
use Rattle.octets.specs.declared.span.Span.{Span}
use Rattle.text.specs.Gaps.{token_place, line_of}
use Rattle.statements.specs.Statements.{statement_at}
use Rattle.statements.specs.declared.Grants.{Grants}
use Rattle.statements.specs.declared.Statement.{Statement}
use Rattle.statements.specs.declared.Statement.TheVariants.{Code, Dseg, Mseg, Malformed}
use Rattle.setup.specs.declared.Segment.{Segment}
use Rattle.setup.specs.declared.Setup.{Setup}
use Rattle.setup.specs.Outcomes.{Judged, Outcome}
use Rattle.octets.specs.Spans.{no_span, bytes_of}
use Rattle.setup.specs.Setup.{begun, permission_row, with_code, with_dseg, with_mseg}
use Rattle.setup.specs.Rules.{code_rank, dseg_rank, mseg_rank, code_checks, dseg_checks, mseg_checks, code_missing}

abbrev pub no_setup : Setup
no_setup = begun 0 []

abbrev pub accepted : ℕ → ℕ → Setup → Judged
accepted next rank s = record { number = 0; line = 0; next = next; rank = rank; setup = s }

-- the line is that of the statement's first token, which stands at place p
abbrev pub refused_at : List ℕ → ℕ → ℕ → Judged
refused_at text p number = record { number = number; line = line_of text p; next = 0; rank = 0; setup = no_setup }

-- refused where a check is due, else accepted
unfoldable pub settled : List ℕ → ℕ → List Check → Judged → Judged
settled text p checks good = cond (eqb (after 0 checks) 0) good (refused_at text p (after 0 checks))

abbrev pub segment : Span → ℕ → Grants → Segment
segment path size grants =
    record { path = path; size = size; host = grants.host; permissions = permission_row grants.permissions.count grants.permissions.bits }

abbrev pub dseg : Span → Grants → Segment
dseg path grants = segment path 0 grants

abbrev pub mseg : ℕ → Grants → Segment
mseg size grants = segment no_span size grants

abbrev pub refusal : ℕ → ℕ → Outcome
refusal number line = record { number = number; line = line; setup = no_setup }

-- behind the last statement. "Line 0 means no line"
unfoldable pub ended : Setup → Outcome
ended s = cond (code_missing 8 s) (refusal 414 0) (record { number = 0; line = 0; setup = s })

module _ (look : Bool) (image text : List ℕ) where
  -- the statement whose first token stands at place p
  unfoldable pub judged : ℕ → ℕ → Setup → Statement → Judged
  judged p rank s (Code partition path next) =
      settled text p (code_checks look image rank s partition (bytes_of text path)) (accepted next code_rank (with_code partition path s))
  judged p rank s (Dseg index path grants next) =
      settled text p (dseg_checks look image text rank s index (bytes_of text path) grants.host grants.permissions.count grants.permissions.bits)
      (accepted next dseg_rank (with_dseg (dseg path grants) s))
  judged p rank s (Mseg index size grants next) =
      settled text p (mseg_checks s index size grants.host grants.permissions.count grants.permissions.bits)
      (accepted next mseg_rank (with_mseg (mseg size grants) s))
  judged p rank s Malformed = refused_at text p 404

  unfoldable pub judged_at : ℕ → ℕ → Setup → Judged
  judged_at at rank s = judged (token_place text at) rank s (statement_at text at)

  -- the statements from place `at` on, after some of rank up to `rank`. No more than forty can be accepted (8 CODE, 16 DSEG, 16 MSEG), so
  -- a forty-first is refused by its checks, and n = 41 is never used up
  unfoldable pub read_from : ℕ → ℕ → ℕ → Setup → Outcome
  read_from zero at rank s = refusal 404 0
  read_from (suc n) at rank s =
      let j : Judged = judged_at at rank s in
      cond (leb (length text) (token_place text at)) (ended s)
      (cond (eqb j.number 0) (read_from n j.next j.rank j.setup) (refusal j.number j.line))

-- "404 to 413 .. on one statement before the next is read", then 414
unfoldable pub read : Bool → List ℕ → List ℕ → ℕ → List Bool → Outcome
read look image text count active = read_from look image text 41 0 0 (begun count active)

-- "a row of eight permissions for every segment": row i for dseg i, row 16 + i for mseg i
unfoldable pub permission_table : Setup → List (List ℕ)
permission_table s = map (λ (d : Segment). d.permissions) s.dsegs ++ map (λ (m : Segment). m.permissions) s.msegs
