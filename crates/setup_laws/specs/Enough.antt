-- Reading counts to forty-one statements. More turns change nothing: no more than forty statements can be accepted (8 CODE, 16 DSEG, 16 MSEG).
use Rattle.std.specs.Prelude.{Bool, cond, not, ◌&&◌, List, [], ◌∷◌, ◌≡◌, leb, ltb, get_or, set, true, false, refl, ℕ, zero, suc, ◌+◌, ◌-◌, ◌≤◌, ◌<◌, eqb, length}
use Rattle.std.proofs.Common.{sym, ◌∙◌, suc-add, length-set, arith, eqb-true, ne_eqb, leb-false, ltb-true}
use Rattle.std.proofs.lemmas.Bool.{eqb-false, not-false}
use Rattle.checks.specs.Checks.{Check, ◌when◌, refused, after}
use Rattle.checks.specs.Laws.{not-due, second-not-due}
use Rattle.text.specs.Gaps.{token_place}
use Rattle.statements.specs.Statements.{statement_at, kind_at, statement_of}
use Rattle.statements.specs.Kinds.{DsegOnly, MsegOnly, dseg_only, mseg_only, statement_of_kind}
use Rattle.statements.specs.Sound.{CodeRead, code_read}
use Rattle.statements.specs.declared.Kind.{Kind}
use Rattle.statements.specs.declared.Kind.TheVariants as kind
use Rattle.statements.specs.declared.Statement.{Statement}
use Rattle.statements.specs.declared.Statement.TheVariants.{Code, Dseg, Mseg, Malformed}
use Rattle.octets.specs.declared.span.Span.{Span}
use Rattle.setup.specs.declared.Setup.{Setup}
use Rattle.setup.specs.Outcomes.{Judged}
use Rattle.setup.specs.Outcomes.{Outcome}
use Rattle.octets.specs.Spans.{no_span, bytes_of}
use Rattle.setup.specs.Setup.{begun, is_active, has_code, with_code, with_dseg, with_mseg}
use Rattle.setup.specs.Rules.{code_checks, dseg_checks, mseg_checks}
use Rattle.setup.specs.Reading.{settled, judged, judged_at, ended, refusal, refused_at, read_from, read}

-- ---- a path is never empty

abbrev Named : Statement → Type 0
Named (Code partition path next) = 2 ≤ path.length
Named (Dseg index path grants next) = Unit {0}
Named (Mseg index size grants next) = Unit {0}
Named Malformed = Unit {0}

code-named : {text : List ℕ} {at : ℕ} {st : Statement} → CodeRead text at st → Named st
code-named (CodeRead.code partition path next a b c two e) = two
code-named CodeRead.malformed = tt

dseg-named : {st : Statement} → DsegOnly st → Named st
dseg-named (DsegOnly.dseg index path grants next) = tt
dseg-named DsegOnly.malformed = tt

mseg-named : {st : Statement} → MsegOnly st → Named st
mseg-named (MsegOnly.mseg index size grants next) = tt
mseg-named MsegOnly.malformed = tt

named : (text : List ℕ) (at : ℕ) → Named (statement_at text at)
unfolding statement_of
named text at = rw (statement_of_kind text at) (go (kind_at text at))
  where
    go : (k : Kind) → Named (statement_of text k)
    go (kind.Code a) = code-named (code_read text a)
    go (kind.Dseg a) = dseg-named (dseg_only text a)
    go (kind.Mseg a) = mseg-named (mseg_only text a)
    go kind.Other = tt

-- ---- how many statements a set-up still has room for

abbrev one : Bool → ℕ
one true = 1
one false = 0

free_codes : List Span → ℕ
free_codes [] = 0
free_codes (p ∷ ps) = one (eqb p.length 0) + free_codes ps

codes_fall : (ps : List Span) (i : ℕ) (p : Span) → i < length ps → eqb (get_or ps i no_span).length 0 ≡ true → eqb p.length 0 ≡ false
    → suc (free_codes (set ps i p)) ≤ free_codes ps
unfolding free_codes
codes_fall [] i p h e f = absurd (let z : ⊥ = omega arith in z)
codes_fall (q ∷ ps) zero p h e f = rw (e, f) (omega arith)
codes_fall (q ∷ ps) (suc i) p h e f = let ih = codes_fall ps i p (omega arith) e f in omega arith

room : Setup → ℕ
room s = free_codes s.code + ((16 - s.dsegcount) + (16 - s.msegcount))

-- every partition has a place for its CODE path
abbrev Placed : Setup → Type 0
Placed s = s.partitions ≤ length s.code

and_left : (a b : Bool) → (a && b) ≡ true → a ≡ true
and_left true b e = refl
and_left false b e = e

active-below : (s : Setup) (p : ℕ) → is_active s p ≡ true → p < s.partitions
unfolding is_active
active-below s p e = ltb-true p s.partitions (and_left (ltb p s.partitions) (get_or s.active p false) e)

no_code : (s : Setup) (p : ℕ) → has_code s p ≡ false → eqb (get_or s.code p no_span).length 0 ≡ true
unfolding has_code
no_code s p e = not-false (eqb (get_or s.code p no_span).length 0) e

-- where nothing is refused, the third check is not due
third_not-due : (n number : ℕ) (c d : Check) (due : Bool) (checks : List Check) → after n (c ∷ d ∷ (number when due) ∷ checks) ≡ 0 → (number ≡ 0 → ⊥) → due ≡ false
unfolding after
third_not-due n number c d due checks e h = second-not-due (refused n c.due c.number) number d due checks e h

-- ---- an accepted statement takes room

module _ (look : Bool) (image text : List ℕ) where
  abbrev Less : Setup → Judged → Type 0
  Less s j = j.number ≡ 0 → (suc (room j.setup) ≤ room s) × Placed j.setup

  settled-less : (p : ℕ) (checks : List Check) (s : Setup) (good : Judged) → (after 0 checks ≡ 0 → Less s good) → Less s (settled text p checks good)
  unfolding settled
  settled-less p checks s good h = go (eqb (after 0 checks) 0) refl
    where
      go : (b : Bool) → eqb (after 0 checks) 0 ≡ b → Less s (cond b good (refused_at text p (after 0 checks)))
      go true e = h (eqb-true (after 0 checks) 0 e)
      go false e = λ z. absurd (eqb-false (after 0 checks) 0 e z)

  code_facts : (rank : ℕ) (s : Setup) (p : ℕ) (path : List ℕ) → after 0 (code_checks look image rank s p path) ≡ 0 → (is_active s p ≡ true) × (has_code s p ≡ false)
  unfolding code_checks
  code_facts rank s p path e =
      (not-false (is_active s p) (second-not-due 0 407 _ (not (is_active s p)) _ e (λ q. omega arith)), third_not-due 0 408 _ _ (has_code s p) _ e (λ q. omega arith))

  dseg_facts : (rank : ℕ) (s : Setup) (index : ℕ) (path : List ℕ) (host count bits : ℕ) → after 0 (dseg_checks look image text rank s index path host count bits) ≡ 0
      → s.dsegcount < 16
  unfolding dseg_checks
  dseg_facts rank s index path host count bits e = leb-false 16 s.dsegcount (second-not-due 0 405 _ (leb 16 s.dsegcount) _ e (λ q. omega arith))

  mseg_facts : (s : Setup) (index size host count bits : ℕ) → after 0 (mseg_checks s index size host count bits) ≡ 0 → s.msegcount < 16
  unfolding mseg_checks
  mseg_facts s index size host count bits e = leb-false 16 s.msegcount (not-due 0 405 (leb 16 s.msegcount) _ e (λ q. omega arith))

  judged-less : (p rank : ℕ) (s : Setup) (st : Statement) → Placed s → Named st → Less s (judged look image text p rank s st)
  unfolding judged with_code with_dseg with_mseg room
  judged-less p rank s (Code partition path next) k two =
      settled-less p _ s _ (λ e z.
      let facts = code_facts rank s partition (bytes_of text path) e in
      let inside : partition < length s.code = omega (arith, active-below s partition facts.0) in
      let long : eqb path.length 0 ≡ false = ne_eqb path.length 0 (λ q. omega arith) in
      let fall = codes_fall s.code partition path inside (no_code s partition facts.1) long in
      (omega arith, rw (length-set s.code partition path) k))
  judged-less p rank s (Dseg index path grants next) k two =
      settled-less p _ s _ (λ e z. let few = dseg_facts rank s index (bytes_of text path) grants.host grants.permissions.count grants.permissions.bits e in (omega arith, k))
  judged-less p rank s (Mseg index size grants next) k two =
      settled-less p _ s _ (λ e z. let few = mseg_facts s index size grants.host grants.permissions.count grants.permissions.bits e in (omega arith, k))
  judged-less p rank s Malformed k two = λ z. absurd (let f : ⊥ = omega arith in f)

  judged-at-less : (at rank : ℕ) (s : Setup) → Placed s → Less s (judged_at look image text at rank s)
  unfolding judged_at
  judged-at-less at rank s k = judged-less (token_place text at) rank s (statement_at text at) k (named text at)

  -- ---- so a turn more changes nothing

  abbrev Same : ℕ → Type 0
  Same n = (at rank : ℕ) (s : Setup) → Placed s → room s < n → read_from look image text (suc n) at rank s ≡ read_from look image text n at rank s

  abbrev chosen : Bool → Setup → Judged → (ℕ → ℕ → Setup → Outcome) → Outcome
  chosen last s j on = cond last (ended s) (cond (eqb j.number 0) (on j.next j.rank j.setup) (refusal j.number j.line))

  one_less : (n : ℕ) → Same n → (last : Bool) (s : Setup) (j : Judged) → room s < suc n → Less s j
      → chosen last s j (read_from look image text (suc n)) ≡ chosen last s j (read_from look image text n)
  one_less n ih true s j h l = refl
  one_less n ih false s j h l = go (eqb j.number 0) refl
    where
      go : (b : Bool) → eqb j.number 0 ≡ b
          → cond b (read_from look image text (suc n) j.next j.rank j.setup) (refusal j.number j.line)
          ≡ cond b (read_from look image text n j.next j.rank j.setup) (refusal j.number j.line)
      go true e = let on = l (eqb-true j.number 0 e) in ih j.next j.rank j.setup on.1 (omega arith)
      go false e = refl

  step : (n at rank : ℕ) (s : Setup)
      → read_from look image text (suc n) at rank s ≡ chosen (leb (length text) (token_place text at)) s (judged_at look image text at rank s) (read_from look image text n)
  unfolding read_from
  step n at rank s = refl

  more : (n : ℕ) → Same n
  more zero at rank s k h = absurd (let f : ⊥ = omega arith in f)
  more (suc n) at rank s k h =
      step (suc n) at rank s
      ∙ one_less n (more n) (leb (length text) (token_place text at)) s (judged_at look image text at rank s) h (judged-at-less at rank s k)
      ∙ sym (step n at rank s)

  placed-begun : (count : ℕ) (active : List Bool) → Placed (begun count active)
  unfolding begun
  placed-begun count active = omega arith

  room-begun : (count : ℕ) (active : List Bool) → room (begun count active) ≡ 40
  unfolding room begun free_codes
  room-begun count active = refl

  -- forty-one turns are enough: any number more gives the same
  pub enough : (k count : ℕ) (active : List Bool) → read_from look image text (k + 41) 0 0 (begun count active) ≡ read look image text count active
  unfolding read
  enough zero count active = refl
  enough (suc k) count active =
      let h : room (begun count active) < k + 41 = omega (arith, room-begun count active) in
      rw (suc-add k 41) (more (k + 41) 0 0 (begun count active) (placed-begun count active) h ∙ enough k count active)
