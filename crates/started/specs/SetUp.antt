-- What an accepted text sets up: partitions as given, at most sixteen segments of each kind, and every dseg's file is in the store and is no reserved one.
use Rattle.std.specs.Prelude.{Bool, cond, not, ◌&&◌, List, ◌∷◌, ◌≡◌, leb, length, get_or, set, true, false, refl, ℕ, zero, suc, ◌+◌, ◌≤◌, ◌<◌, min, eqb}
use Rattle.std.proofs.Common.{sym, ◌∙◌, not-suc-le-zero, eqb-true, get_or-set_same, get_or-set_other, arith, length-set}
use Rattle.std.proofs.Math.Decide.{dec_le}
use Rattle.std.proofs.lemmas.Bool.{false≢true, eqb-false}
use Rattle.octets.specs.declared.span.Span.{Span}
use Rattle.octets.specs.PartLaws.{length-part_in}
use Rattle.checks.specs.Checks.{Check, ◌when◌, refused, after}
use Rattle.checks.specs.Laws.{second-not-due}
use Rattle.devices.specs.Choice.{by_cond}
use Rattle.image.specs.Image.{spot, was_found}
use Rattle.text.specs.Gaps.{token_place}
use Rattle.statements.specs.Statements.{statement_at, kind_at, statement_of}
use Rattle.statements.specs.Kinds.{CodeOnly, MsegOnly, code_only, mseg_only, statement_of_kind}
use Rattle.statements.specs.Sound.{DsegRead, dseg-read}
use Rattle.statements.specs.declared.Kind.{Kind}
use Rattle.statements.specs.declared.Kind.TheVariants as kind
use Rattle.statements.specs.declared.Statement.{Statement}
use Rattle.statements.specs.declared.Statement.TheVariants.{Code, Dseg, Mseg, Malformed}
use Rattle.setup.specs.declared.Segment.{Segment}
use Rattle.setup.specs.declared.Setup.{Setup}
use Rattle.setup.specs.Outcomes.{Judged}
use Rattle.setup.specs.Outcomes.{Outcome}
use Rattle.octets.specs.Spans.{bytes_of}
use Rattle.setup.specs.Setup.{no_segment, begun, with_code, with_dseg, with_mseg}
use Rattle.setup.specs.Rules.{reserved, absent, dseg_checks, code_missing}
use Rattle.setup.specs.Reading.{settled, judged, judged_at, ended, refusal, refused_at, read_from, read}
use Rattle.setup.specs.Turns.{dseg-room, mseg-room}

-- ---- the path of a DSEG statement lies inside the text

abbrev Inside : List ℕ → Statement → Type 0
Inside text (Code partition path next) = Unit {0}
Inside text (Dseg index path grants next) = path.place + path.length ≤ length text
Inside text (Mseg index size grants next) = Unit {0}
Inside text Malformed = Unit {0}

code_inside : (text : List ℕ) {st : Statement} → CodeOnly st → Inside text st
code_inside text (CodeOnly.code partition path next) = tt
code_inside text CodeOnly.malformed = tt

dseg-inside : {text : List ℕ} {at : ℕ} {st : Statement} → DsegRead text at st → Inside text st
dseg-inside (DsegRead.dseg index path grants next inside two most low rest) = inside
dseg-inside DsegRead.malformed = tt

mseg-inside : (text : List ℕ) {st : Statement} → MsegOnly st → Inside text st
mseg-inside text (MsegOnly.mseg index size grants next) = tt
mseg-inside text MsegOnly.malformed = tt

inside : (text : List ℕ) (at : ℕ) → Inside text (statement_at text at)
unfolding statement_of
inside text at = rw (statement_of_kind text at) (go (kind_at text at))
  where
    go : (k : Kind) → Inside text (statement_of text k)
    go (kind.Code a) = code_inside text (code_only text a)
    go (kind.Dseg a) = dseg-inside (dseg-read text a)
    go (kind.Mseg a) = mseg-inside text (mseg_only text a)
    go kind.Other = tt

-- ---- checks further back in the list

third_not-due : (n number : ℕ) (a b : Check) (due : Bool) (checks : List Check) → after n (a ∷ b ∷ (number when due) ∷ checks) ≡ 0 → (number ≡ 0 → ⊥) → due ≡ false
unfolding after
third_not-due n number a b due checks e h = second-not-due (refused n a.due a.number) number b due checks e h

sixth_not-due : (n number : ℕ) (a b c d f : Check) (due : Bool) (checks : List Check)
    → after n (a ∷ b ∷ c ∷ d ∷ f ∷ (number when due) ∷ checks) ≡ 0 → (number ≡ 0 → ⊥) → due ≡ false
unfolding after
sixth_not-due n number a b c d f due checks e h = third_not-due _ number d f due checks e h

seventh_not-due : (n number : ℕ) (a b c d f g : Check) (due : Bool) (checks : List Check)
    → after n (a ∷ b ∷ c ∷ d ∷ f ∷ g ∷ (number when due) ∷ checks) ≡ 0 → (number ≡ 0 → ⊥) → due ≡ false
unfolding after
seventh_not-due n number a b c d f g due checks e h = sixth_not-due _ number b c d f g due checks e h

-- ---- what is kept

module _ (text store : List ℕ) where
  -- of a declared dseg: its path is not reserved, is in the image, and is as long as its span says
  pub record Declared (d : Segment) : Type 0 where
    pub free : reserved (bytes_of text d.path) ≡ false
    pub there : was_found (spot (bytes_of text d.path) store) ≡ true
    pub long : length (bytes_of text d.path) ≡ d.path.length

  pub record SetUp (count : ℕ) (active : List Bool) (s : Setup) : Type 0 where
    pub partitions : s.partitions ≡ min count 8
    pub flags : s.active ≡ (begun count active).active
    pub dsegs_few : s.dsegcount ≤ 16
    pub msegs_few : s.msegcount ≤ 16
    pub rows : length s.dsegs ≡ 16
    pub declared : (i : ℕ) → i < s.dsegcount → Declared (get_or s.dsegs i no_segment)

  free-there : (b : Bool) → (true && not b) ≡ false → b ≡ true
  free-there true e = refl
  free-there false e = absurd (false≢true (sym e))

  dseg-declared : (rank : ℕ) (s : Setup) (index : ℕ) (path : Span) (host count bits : ℕ) (seg : Segment) → path.place + path.length ≤ length text → seg.path ≡ path
      → after 0 (dseg_checks true store text rank s index (bytes_of text path) host count bits) ≡ 0 → Declared seg
  unfolding dseg_checks absent bytes_of
  dseg-declared rank s index path host count bits seg fits is e =
      record {
        free = rw is (sixth_not-due 0 410 _ _ _ _ _ (reserved (bytes_of text path)) _ e (λ q. omega arith));
        there = rw is (free-there (was_found (spot (bytes_of text path) store)) (seventh_not-due 0 411 _ _ _ _ _ _ _ _ e (λ q. omega arith)));
        long = rw is (length-part_in path.place path.length text fits);
      }

  module _ (count : ℕ) (active : List Bool) where
    -- one dseg more
    more-declared : (s : Setup) (seg : Segment) → SetUp count active s → s.dsegcount < 16 → Declared seg
        → (i : ℕ) → i < s.dsegcount + 1 → Declared (get_or (set s.dsegs s.dsegcount seg) i no_segment)
    more-declared s seg k few d i h = go (dec_le s.dsegcount i)
      where
        go : Dec (s.dsegcount ≤ i) → Declared (get_or (set s.dsegs s.dsegcount seg) i no_segment)
        go (yes low) = let e : s.dsegcount ≡ i = omega arith in let r = k.rows in rw (← e, get_or-set_same s.dsegs s.dsegcount seg no_segment (omega arith)) d
        go (no high) = rw (get_or-set_other s.dsegs s.dsegcount i seg no_segment (λ e. omega arith)) (k.declared i (omega arith))

    abbrev Keeps : Judged → Type 0
    Keeps j = j.number ≡ 0 → SetUp count active j.setup

    settled-keeps : (p : ℕ) (checks : List Check) (good : Judged) → (after 0 checks ≡ 0 → Keeps good) → Keeps (settled text p checks good)
    unfolding settled
    settled-keeps p checks good h = go (eqb (after 0 checks) 0) refl
      where
        go : (b : Bool) → eqb (after 0 checks) 0 ≡ b → Keeps (cond b good (refused_at text p (after 0 checks)))
        go true e = h (eqb-true (after 0 checks) 0 e)
        go false e = λ z. absurd (eqb-false (after 0 checks) 0 e z)

    judged-keeps : (p rank : ℕ) (s : Setup) (st : Statement) → SetUp count active s → Inside text st → Keeps (judged true store text p rank s st)
    unfolding judged with_code with_dseg with_mseg
    judged-keeps p rank s (Code partition path next) k fits =
        settled-keeps p _ _ (λ e z.
        record {
          partitions = k.partitions;
          flags = k.flags;
          dsegs_few = k.dsegs_few;
          msegs_few = k.msegs_few;
          rows = k.rows;
          declared = k.declared;
        })
    judged-keeps p rank s (Dseg index path grants next) k fits =
        settled-keeps p _ _ (λ e z.
        let few = dseg-room true store text rank s index (bytes_of text path) grants.host grants.permissions.count grants.permissions.bits 0 (sym e) refl in
        record {
          partitions = k.partitions;
          flags = k.flags;
          dsegs_few = omega arith;
          msegs_few = k.msegs_few;
          rows = length-set s.dsegs s.dsegcount _ ∙ k.rows;
          declared = more-declared s _ k few (dseg-declared rank s index path grants.host grants.permissions.count grants.permissions.bits _ fits refl e);
        })
    judged-keeps p rank s (Mseg index size grants next) k fits =
        settled-keeps p _ _ (λ e z.
        let few = mseg-room s index size grants.host grants.permissions.count grants.permissions.bits 0 (sym e) refl in
        record {
          partitions = k.partitions;
          flags = k.flags;
          dsegs_few = k.dsegs_few;
          msegs_few = omega arith;
          rows = k.rows;
          declared = k.declared;
        })
    judged-keeps p rank s Malformed k fits = λ z. absurd (let f : ⊥ = omega arith in f)

    judged-at-keeps : (at rank : ℕ) (s : Setup) → SetUp count active s → Keeps (judged_at true store text at rank s)
    unfolding judged_at
    judged-at-keeps at rank s k = judged-keeps (token_place text at) rank s (statement_at text at) k (inside text at)

    abbrev Gives : Outcome → Type 0
    Gives o = o.number ≡ 0 → SetUp count active o.setup

    ended-gives : (s : Setup) → SetUp count active s → Gives (ended s)
    unfolding ended
    ended-gives s k = by_cond Gives (code_missing 8 s) (λ e z. missing z) (λ e z. k)
      where
        missing : (refusal 414 0).number ≡ 0 → SetUp count active (refusal 414 0).setup
        missing z = absurd (let f : ⊥ = omega arith in f)

    read-gives : (n at rank : ℕ) (s : Setup) → SetUp count active s → Gives (read_from true store text n at rank s)
    unfolding read_from
    read-gives zero at rank s k = λ z. absurd (let f : ⊥ = omega arith in f)
    read-gives (suc n) at rank s k =
        let j : Judged = judged_at true store text at rank s in
        by_cond Gives (leb (length text) (token_place text at)) (λ e. ended-gives s k)
        (λ e.
        by_cond Gives (eqb j.number 0)
        (λ f. read-gives n j.next j.rank j.setup (judged-at-keeps at rank s k (eqb-true j.number 0 f)))
        (λ f z. absurd (eqb-false j.number 0 f z)))

    begun_kept : SetUp count active (begun count active)
    unfolding begun
    begun_kept =
        record {
          partitions = refl;
          flags = refl;
          dsegs_few = omega arith;
          msegs_few = omega arith;
          rows = refl;
          declared = λ i h. absurd (not-suc-le-zero h);
        }

    -- what reading gives
    pub read-set-up : (read true store text count active).number ≡ 0 → SetUp count active (read true store text count active).setup
    unfolding read
    read-set-up = read-gives 41 0 0 (begun count active) begun_kept
