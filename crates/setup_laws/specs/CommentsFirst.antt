-- Reading a text is reading it with every comment blanked first: number, line and set-up are the same.
use Rattle.std.specs.Prelude.{Bool, cond, ◌||◌, ◌≡◌, leb, replicate, set, true, false, List, [], ◌∷◌, refl, ℕ, zero, suc, eqb, length}
use Rattle.std.proofs.Common.{ap, ap₂, arith, eqb-true}
use Rattle.std.proofs.lemmas.Bool.{eqb-false}
use Rattle.checks.specs.Checks.{Check, after}
use Rattle.octets.specs.Lists.{part}
use Rattle.text.specs.Gaps.{token_place}
use Rattle.text.specs.Comments.{blanked, Outside}
use Rattle.text.specs.CommentLaws.{length-blanked, line-blanked, place-blanked, outside-start}
use Rattle.statements.specs.Statements.{statement_at}
use Rattle.statements.specs.declared.Statement.{Statement}
use Rattle.statements.specs.declared.Statement.TheVariants.{Code, Dseg, Mseg, Malformed}
use Rattle.octets.specs.declared.span.Span.{Span}
use Rattle.setup.specs.declared.Segment.{Segment}
use Rattle.setup.specs.declared.Setup.{Setup}
use Rattle.setup.specs.Outcomes.{Judged}
use Rattle.setup.specs.Outcomes.{Outcome}
use Rattle.octets.specs.Spans.{no_span, bytes_of}
use Rattle.setup.specs.Setup.{no_segment, begun, among, paths_of, path_taken, with_code, with_dseg, with_mseg}
use Rattle.setup.specs.Rules.{dseg_checks}
use Rattle.setup.specs.Reading.{settled, judged, judged_at, ended, refusal, read_from, read, refused_at}
use Rattle.setup_laws.specs.SameStatements.{SameBytes, EndsStatement, statement_blanked}

module _ (text : List ℕ) where
  same_length : length (blanked text) ≡ length text
  unfolding blanked
  same_length = length-blanked false text

  -- ---- the paths of a set-up have the same bytes in both texts

  abbrev SamePath : Span → Type 0
  SamePath p = SameBytes text p

  abbrev SamePaths : List Span → Type 0
  SamePaths [] = Unit {0}
  SamePaths (p ∷ ps) = SamePath p × SamePaths ps

  among_same : (path : List ℕ) (ps : List Span) → SamePaths ps → among (blanked text) path ps ≡ among text path ps
  unfolding among
  among_same path [] h = refl
  among_same path (p ∷ ps) h = rw (h.0, among_same path ps h.1)

  set_same : (ps : List Span) (i : ℕ) (p : Span) → SamePaths ps → SamePath p → SamePaths (set ps i p)
  set_same [] i p h e = tt
  set_same (q ∷ ps) zero p h e = (e, h.1)
  set_same (q ∷ ps) (suc i) p h e = (h.0, set_same ps i p h.1 e)

  paths_set : (ds : List Segment) (i : ℕ) (d : Segment) → paths_of (set ds i d) ≡ set (paths_of ds) i d.path
  unfolding paths_of
  paths_set [] i d = refl
  paths_set (e ∷ ds) zero d = refl
  paths_set (e ∷ ds) (suc i) d = ap (λ (ps : List Span). e.path ∷ ps) (paths_set ds i d)

  abbrev Kept : Setup → Type 0
  Kept s = SamePaths s.code × SamePaths (paths_of s.dsegs)

  taken-same : (path : List ℕ) (s : Setup) → Kept s → path_taken (blanked text) path s ≡ path_taken text path s
  unfolding path_taken
  taken-same path s h = ap₂ (λ (a b : Bool). a || b) (among_same path s.code h.0) (among_same path (paths_of s.dsegs) h.1)

  no_paths : (n : ℕ) → SamePaths (replicate n no_span)
  unfolding bytes_of part
  no_paths zero = tt
  no_paths (suc n) = (refl, no_paths n)

  no_segments : (n : ℕ) → SamePaths (paths_of (replicate n no_segment))
  unfolding paths_of bytes_of part
  no_segments zero = tt
  no_segments (suc n) = (refl, no_segments n)

  kept-begun : (count : ℕ) (active : List Bool) → Kept (begun count active)
  unfolding begun
  kept-begun count active = (no_paths 8, no_segments 16)

  -- ---- one statement

  module _ (look : Bool) (image : List ℕ) where
    -- where a statement is accepted, reading goes on outside comments with such a set-up
    abbrev GoesOn : Judged → Type 0
    GoesOn j = j.number ≡ 0 → Outside text j.next × Kept j.setup

    settled_on : (p : ℕ) (checks : List Check) (good : Judged) → GoesOn good → GoesOn (settled text p checks good)
    unfolding settled
    settled_on p checks good h = go (eqb (after 0 checks) 0) refl
      where
        go : (b : Bool) → eqb (after 0 checks) 0 ≡ b → GoesOn (cond b good (refused_at text p (after 0 checks)))
        go true e = h
        go false e = λ z. absurd (eqb-false (after 0 checks) 0 e z)

    settled_same : (p : ℕ) (checks : List Check) (good : Judged) → settled (blanked text) p checks good ≡ settled text p checks good
    unfolding settled
    settled_same p checks good = rw (line-blanked text p)

    checks_same : (rank : ℕ) (s : Setup) (index : ℕ) (path : List ℕ) (host count bits : ℕ) → Kept s
        → dseg_checks look image (blanked text) rank s index path host count bits ≡ dseg_checks look image text rank s index path host count bits
    unfolding dseg_checks
    checks_same rank s index path host count bits k = rw (taken-same path s k)

    judged-same : (p rank : ℕ) (s : Setup) (st : Statement) → Kept s → EndsStatement text st
        → (judged look image (blanked text) p rank s st ≡ judged look image text p rank s st) × GoesOn (judged look image text p rank s st)
    unfolding judged with_code with_dseg with_mseg
    judged-same p rank s (Code partition path next) k (o, same) =
        (rw same (settled_same p _ _), settled_on p _ _ (λ z. (o, (set_same s.code partition path k.0 same, k.1))))
    judged-same p rank s (Dseg index path grants next) k (o, same) = (
      rw (same, checks_same rank s index (bytes_of text path) grants.host grants.permissions.count grants.permissions.bits k) (settled_same p _ _),
      settled_on p _ _ (λ z. (o, (k.0, rw (paths_set s.dsegs s.dsegcount _) (set_same (paths_of s.dsegs) s.dsegcount path k.1 same)))),
    )
    judged-same p rank s (Mseg index size grants next) k o = (settled_same p _ _, settled_on p _ _ (λ z. (o, k)))
    judged-same p rank s Malformed k o = (rw (line-blanked text p), λ z. absurd (let f : ⊥ = omega arith in f))

    judged-at-same : (at rank : ℕ) (s : Setup) → Outside text at → Kept s
        → (judged_at look image (blanked text) at rank s ≡ judged_at look image text at rank s) × GoesOn (judged_at look image text at rank s)
    unfolding judged_at
    judged-at-same at rank s o k =
        rw (place-blanked text at o, (statement_blanked text at o).0)
        (judged-same (token_place text at) rank s (statement_at text at) k (statement_blanked text at o).1)

    -- ---- all of them

    abbrev From : ℕ → Type 0
    From n = (at rank : ℕ) (s : Setup) → Outside text at → Kept s → read_from look image (blanked text) n at rank s ≡ read_from look image text n at rank s

    abbrev chosen : Bool → Setup → Judged → (ℕ → ℕ → Setup → Outcome) → Outcome
    chosen last s j on = cond last (ended s) (cond (eqb j.number 0) (on j.next j.rank j.setup) (refusal j.number j.line))

    one_more : (n : ℕ) → From n → (last : Bool) (s : Setup) (j : Judged) → GoesOn j
        → chosen last s j (read_from look image (blanked text) n) ≡ chosen last s j (read_from look image text n)
    one_more n ih true s j h = refl
    one_more n ih false s j h = go (eqb j.number 0) refl
      where
        go : (b : Bool) → eqb j.number 0 ≡ b
            → cond b (read_from look image (blanked text) n j.next j.rank j.setup) (refusal j.number j.line)
            ≡ cond b (read_from look image text n j.next j.rank j.setup) (refusal j.number j.line)
        go true e = let on = h (eqb-true j.number 0 e) in ih j.next j.rank j.setup on.0 on.1
        go false e = refl

    read-from-same : (n : ℕ) → From n
    unfolding read_from
    read-from-same zero at rank s o k = refl
    read-from-same (suc n) at rank s o k =
        let j = judged-at-same at rank s o k in
        let long : length (blanked text) ≡ length text = same_length in
        rw (long, place-blanked text at o, j.0) (one_more n (read-from-same n) (leb (length text) (token_place text at)) s (judged_at look image text at rank s) j.1)

    -- "'#' begins a comment to the line's end everywhere": as if every comment had been blanked before anything is read
    pub comments_first : (count : ℕ) (active : List Bool) → read look image (blanked text) count active ≡ read look image text count active
    unfolding read
    comments_first count active = read-from-same 41 0 0 (begun count active) (outside-start text) (kept-begun count active)
