-- Which statements a reader can hand back, and that the statement at a place is the one of its first token's kind.
use Rattle.std.specs.Prelude.{List, [], ◌∷◌, ◌≡◌, refl, ℕ, Option, Some, None}
use Rattle.octets.specs.declared.span.Span.{Span}
use Rattle.text.specs.Tokens.{word_at, size_at, path_at}
use Rattle.statements.specs.declared.Grants.{Grants}
use Rattle.statements.specs.declared.Statement.{Statement}
use Rattle.statements.specs.declared.Statement.TheVariants.{Code, Dseg, Mseg, Malformed}
use Rattle.statements.specs.Statements.{on_token, byte, head_at, tail_at, code_at, dseg_at, mseg_at, statement_at, kind_at, statement_of}

-- what holds of `bad`, and of what goes on behind a token that is there, holds
pub by_token : {A : Type 0} (P : A → Type 0) {bad : A} → P bad → {B : Type 0} (m : Option B) (k : B → A) → ((token : B) → m ≡ Some token → P (k token))
    → P (on_token bad m k)
by_token P b (Some token) k h = h token refl
by_token P b None k h = b

-- a statement that is CODE or malformed, DSEG or malformed, MSEG or malformed
pub data CodeOnly : Statement → Type 0 where
  code : (partition : ℕ) (path : Span) (next : ℕ) → CodeOnly (Code partition path next)
  malformed : CodeOnly Malformed

pub data DsegOnly : Statement → Type 0 where
  dseg : (index : ℕ) (path : Span) (grants : Grants) (next : ℕ) → DsegOnly (Dseg index path grants next)
  malformed : DsegOnly Malformed

pub data MsegOnly : Statement → Type 0 where
  mseg : (index size : ℕ) (grants : Grants) (next : ℕ) → MsegOnly (Mseg index size grants next)
  malformed : MsegOnly Malformed

pub code_only : (text : List ℕ) (at : ℕ) → CodeOnly (code_at text at)
unfolding code_at
code_only text at =
    by_token CodeOnly malformed (head_at text at) _ λ (p, a) e.
    by_token CodeOnly malformed (path_at text a) _ λ (path, b) f.
    by_token CodeOnly malformed (byte 59 text b) _ λ c g.
    code p path c

pub dseg_only : (text : List ℕ) (at : ℕ) → DsegOnly (dseg_at text at)
unfolding dseg_at
dseg_only text at =
    by_token DsegOnly malformed (head_at text at) _ λ (index, a) e.
    by_token DsegOnly malformed (byte 123 text a) _ λ b f.
    by_token DsegOnly malformed (path_at text b) _ λ (path, c) g.
    by_token DsegOnly malformed (tail_at text c) _ λ (grants, d) h.
    dseg index path grants d

pub mseg_only : (text : List ℕ) (at : ℕ) → MsegOnly (mseg_at text at)
unfolding mseg_at
mseg_only text at =
    by_token MsegOnly malformed (head_at text at) _ λ (index, a) e.
    by_token MsegOnly malformed (byte 123 text a) _ λ b f.
    by_token MsegOnly malformed (size_at text b) _ λ (size, c) g.
    by_token MsegOnly malformed (tail_at text c) _ λ (grants, d) h.
    mseg index size grants d

-- the statement is read by its first token's kind
pub statement_of_kind : (text : List ℕ) (at : ℕ) → statement_at text at ≡ statement_of text (kind_at text at)
unfolding statement_at kind_at statement_of
statement_of_kind text at =
    go (word_at (67 ∷ 79 ∷ 68 ∷ 69 ∷ []) text at) refl
    (word_at (68 ∷ 83 ∷ 69 ∷ 71 ∷ []) text at) refl
    (word_at (77 ∷ 83 ∷ 69 ∷ 71 ∷ []) text at) refl
  where
    go : (c : Option ℕ) → word_at (67 ∷ 79 ∷ 68 ∷ 69 ∷ []) text at ≡ c
        → (d : Option ℕ) → word_at (68 ∷ 83 ∷ 69 ∷ 71 ∷ []) text at ≡ d
        → (m : Option ℕ) → word_at (77 ∷ 83 ∷ 69 ∷ 71 ∷ []) text at ≡ m
        → statement_at text at ≡ statement_of text (kind_at text at)
    go (Some a) e d f m g = rw e
    go None e (Some a) f m g = rw (e, f)
    go None e None f (Some a) g = rw (e, f, g)
    go None e None f None g = rw (e, f, g)
