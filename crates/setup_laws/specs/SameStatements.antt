-- A statement read from a text with blanked comments is the one read from the text, and reading goes on outside comments.
use Rattle.std.specs.Prelude.{Bool, List, [], ◌∷◌, ◌≡◌, eqb, length, true, false, cond, refl, ℕ, zero, suc, ◌+◌, Option, Some, None}
use Rattle.octets.specs.Lists.{part}
use Rattle.octets.specs.Spans.{bytes_of}
use Rattle.octets.specs.declared.span.Span.{Span}
use Rattle.text.specs.Tokens.{word_at, number_at, size_at, path_at}
use Rattle.text.specs.Comments.{blanked, Outside, plain}
use Rattle.text.specs.CommentLaws.{length-blanked}
use Rattle.text.specs.BlankedLaws.{word-blanked, word-outside, number-blanked, number-outside, size-blanked, size-outside, path-blanked, path-outside, path_bytes}
use Rattle.statements.specs.Statements.{on_token, head_at, permission_at, packed, permissions_from, permissions_at, tail_at, code_at, dseg_at, mseg_at, statement_at}
use Rattle.statements.specs.declared.Grants.{Grants}
use Rattle.statements.specs.declared.Statement.{Statement}
use Rattle.statements.specs.declared.Statement.TheVariants.{Code, Dseg, Mseg, Malformed}

module _ (text : List ℕ) where
  -- ---- where an answer says that reading goes on, that is outside comments; a path has the same bytes in both texts

  abbrev pub SameBytes : Span → Type 0
  SameBytes path = bytes_of (blanked text) path ≡ bytes_of text path

  abbrev EndsToken : {B : Type 0} → Option (B × ℕ) → Type 0
  EndsToken (Some (token, next)) = Outside text next
  EndsToken None = Unit {0}

  abbrev EndsPath : Option (Span × ℕ) → Type 0
  EndsPath (Some (path, next)) = Outside text next × SameBytes path
  EndsPath None = Unit {0}

  abbrev pub EndsStatement : Statement → Type 0
  EndsStatement (Code partition path next) = Outside text next × SameBytes path
  EndsStatement (Dseg index path grants next) = Outside text next × SameBytes path
  EndsStatement (Mseg index size grants next) = Outside text next
  EndsStatement Malformed = Unit {0}

  -- ---- chains of tokens: two chains are the same, and end outside comments, where what follows each token does

  module _ {A : Type 0} (Ends : A → Type 0) where
    abbrev Same : A → A → Type 0
    Same x y = (x ≡ y) × Ends y

    mark : (bad bad' : A) → Same bad bad' → (word : List ℕ) → plain word ≡ true → (at : ℕ) → Outside text at → (k k' : ℕ → A)
        → ((next : ℕ) → Outside text next → Same (k next) (k' next)) → Same (on_token bad (word_at word (blanked text) at) k) (on_token bad' (word_at word text at) k')
    mark bad bad' b word p at o k k' h = rw (word-blanked word text at p o) (go (word_at word text at) refl)
      where
        go : (m : Option ℕ) → word_at word text at ≡ m → Same (on_token bad m k) (on_token bad' m k')
        go (Some next) q = h next (word-outside word text at next p o q)
        go None q = b

    onward : {B : Type 0} (bad : A) → Ends bad → (x y : Option (B × ℕ)) → (x ≡ y) × EndsToken y → (k k' : B × ℕ → A)
        → ((token : B) (next : ℕ) → Outside text next → Same (k (token, next)) (k' (token, next))) → Same (on_token bad x k) (on_token bad y k')
    onward bad b x (Some (token, next)) (e, o) k k' h = rw e (h token next o)
    onward bad b x None (e, o) k k' h = rw e (refl, b)

    along : (bad : A) → Ends bad → (x y : Option (Span × ℕ)) → (x ≡ y) × EndsPath y → (k k' : Span × ℕ → A)
        → ((path : Span) (next : ℕ) → Outside text next → SameBytes path → Same (k (path, next)) (k' (path, next)))
        → Same (on_token bad x k) (on_token bad y k')
    along bad b x (Some (path, next)) (e, o) k k' h = rw e (h path next o.0 o.1)
    along bad b x None (e, o) k k' h = rw e (refl, b)

  -- ---- tokens

  the_number : (at : ℕ) → Outside text at → (number_at (blanked text) at ≡ number_at text at) × EndsToken (number_at text at)
  the_number at o = (number-blanked text at o, go (number_at text at) refl)
    where
      go : (r : Option (ℕ × ℕ)) → number_at text at ≡ r → EndsToken r
      go (Some (value, next)) q = number-outside text at value next o q
      go None q = tt

  the_size : (at : ℕ) → Outside text at → (size_at (blanked text) at ≡ size_at text at) × EndsToken (size_at text at)
  the_size at o = (size-blanked text at o, go (size_at text at) refl)
    where
      go : (r : Option (ℕ × ℕ)) → size_at text at ≡ r → EndsToken r
      go (Some (value, next)) q = size-outside text at value next o q
      go None q = tt

  span_same : (path : Span) → part path.place path.length (blanked text) ≡ part path.place path.length text → SameBytes path
  unfolding bytes_of
  span_same path e = e

  the_path : (at : ℕ) → Outside text at → (path_at (blanked text) at ≡ path_at text at) × EndsPath (path_at text at)
  the_path at o = (path-blanked text at o, go (path_at text at) refl)
    where
      go : (r : Option (Span × ℕ)) → path_at text at ≡ r → EndsPath r
      go (Some (path, next)) q = (path-outside text at path.place path.length next o q, span_same path (path_bytes text at path.place path.length next o q))
      go None q = tt

  -- ---- statements

  head : (at : ℕ) → Outside text at → (head_at (blanked text) at ≡ head_at text at) × EndsToken (head_at text at)
  unfolding head_at plain
  head at o =
      mark EndsToken None None (refl, tt) (91 ∷ []) refl at o _ _ λ a oa.
      onward EndsToken None tt _ _ (the_number a oa) _ _ λ n b ob.
      mark EndsToken None None (refl, tt) (93 ∷ []) refl b ob _ _ λ c oc.
      mark EndsToken None None (refl, tt) (61 ∷ []) refl c oc _ _ λ d od.
      (refl, od)

  one-permission : (at : ℕ) → Outside text at → (permission_at (blanked text) at ≡ permission_at text at) × EndsToken (permission_at text at)
  unfolding permission_at plain
  one-permission at o =
      mark EndsToken _ _
      (mark EndsToken _ _
      (mark EndsToken None None (refl, tt) (78 ∷ 65 ∷ []) refl at o _ _ λ next on. (refl, on))
      (82 ∷ 79 ∷ []) refl at o _ _ λ next on. (refl, on))
      (82 ∷ 87 ∷ []) refl at o _ _ λ next on. (refl, on)

  permissions-from : (n at count bits : ℕ) → Outside text at
      → (permissions_from n (blanked text) at count bits ≡ permissions_from n text at count bits) × EndsToken (permissions_from n text at count bits)
  unfolding permissions_from plain
  permissions-from zero at count bits o = (refl, tt)
  permissions-from (suc n) at count bits o =
      mark EndsToken _ _ (refl, o) (44 ∷ []) refl at o _ _ λ a oa.
      onward EndsToken None tt _ _ (one-permission a oa) _ _ λ permission b ob.
      permissions-from n b (count + 1) (packed bits permission) ob

  all_permissions : (at : ℕ) → Outside text at → (permissions_at (blanked text) at ≡ permissions_at text at) × EndsToken (permissions_at text at)
  unfolding permissions_at blanked
  all_permissions at o = rw (length-blanked false text) (permissions-from (length text) at 0 0 o)

  the_tail : (at : ℕ) → Outside text at → (tail_at (blanked text) at ≡ tail_at text at) × EndsToken (tail_at text at)
  unfolding tail_at plain
  the_tail at o =
      mark EndsToken None None (refl, tt) (44 ∷ []) refl at o _ _ λ a oa.
      onward EndsToken None tt _ _ (the_number a oa) _ _ λ host b ob.
      onward EndsToken None tt _ _ (all_permissions b ob) _ _ λ permissions c oc.
      some (eqb permissions.count 0) _ _
      (mark EndsToken None None (refl, tt) (125 ∷ []) refl c oc _ _ λ d od.
      mark EndsToken None None (refl, tt) (59 ∷ []) refl d od _ _ λ e oe.
      (refl, oe))
    where
      some : (none : Bool) (x y : Option (Grants × ℕ)) → (x ≡ y) × EndsToken y → (cond none None x ≡ cond none None y) × EndsToken (cond none None y)
      some true x y s = (refl, tt)
      some false x y s = s

  code : (at : ℕ) → Outside text at → (code_at (blanked text) at ≡ code_at text at) × EndsStatement (code_at text at)
  unfolding code_at plain
  code at o =
      onward EndsStatement Malformed tt _ _ (head at o) _ _ λ partition a oa.
      along EndsStatement Malformed tt _ _ (the_path a oa) _ _ λ path b ob same.
      mark EndsStatement Malformed Malformed (refl, tt) (59 ∷ []) refl b ob _ _ λ c oc.
      (refl, (oc, same))

  dseg : (at : ℕ) → Outside text at → (dseg_at (blanked text) at ≡ dseg_at text at) × EndsStatement (dseg_at text at)
  unfolding dseg_at plain
  dseg at o =
      onward EndsStatement Malformed tt _ _ (head at o) _ _ λ index a oa.
      mark EndsStatement Malformed Malformed (refl, tt) (123 ∷ []) refl a oa _ _ λ b ob.
      along EndsStatement Malformed tt _ _ (the_path b ob) _ _ λ path c oc same.
      onward EndsStatement Malformed tt _ _ (the_tail c oc) _ _ λ grants d od.
      (refl, (od, same))

  mseg : (at : ℕ) → Outside text at → (mseg_at (blanked text) at ≡ mseg_at text at) × EndsStatement (mseg_at text at)
  unfolding mseg_at plain
  mseg at o =
      onward EndsStatement Malformed tt _ _ (head at o) _ _ λ index a oa.
      mark EndsStatement Malformed Malformed (refl, tt) (123 ∷ []) refl a oa _ _ λ b ob.
      onward EndsStatement Malformed tt _ _ (the_size b ob) _ _ λ size c oc.
      onward EndsStatement Malformed tt _ _ (the_tail c oc) _ _ λ grants d od.
      (refl, od)

  pub statement_blanked : (at : ℕ) → Outside text at → (statement_at (blanked text) at ≡ statement_at text at) × EndsStatement (statement_at text at)
  unfolding statement_at plain
  statement_blanked at o =
      mark EndsStatement _ _
      (mark EndsStatement _ _
      (mark EndsStatement Malformed Malformed (refl, tt) (77 ∷ 83 ∷ 69 ∷ 71 ∷ []) refl at o _ _ λ a oa. mseg a oa)
      (68 ∷ 83 ∷ 69 ∷ 71 ∷ []) refl at o _ _ λ a oa. dseg a oa)
      (67 ∷ 79 ∷ 68 ∷ 69 ∷ []) refl at o _ _ λ a oa. code a oa
