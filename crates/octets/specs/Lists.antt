-- Parts of a list, and changes of a list that keep its length: what an area that is lent can have done to it.
-- Every definition is total: what would stand behind the end is not there to be read, and is not written.
use Rattle.std.specs.Prelude.{List, [], ◌∷◌, ◌++◌, ◌≡◌, ℕ, zero, suc, ◌+◌, length, take, drop}

module _ {A : Type 0} where
  -- the n elements from place `at` on, fewer where the list ends first
  unfoldable pub part : ℕ → ℕ → List A → List A
  part at n l = take n (drop at l)

  -- `new` laid over the start of `old`; what `old` has no place for is dropped
  unfoldable pub over : List A → List A → List A
  over [] old = old
  over (x ∷ new) [] = []
  over (x ∷ new) (y ∷ old) = x ∷ over new old

  -- `new` laid over `old` from place `at` on
  unfoldable pub write_at : ℕ → List A → List A → List A
  write_at at new old = take at old ++ over new (drop at old)

  -- the n elements from place `at` on, changed by f; all others as they were
  unfoldable pub on_part : ℕ → ℕ → (List A → List A) → List A → List A
  on_part at n f l = take at l ++ (f (part at n l) ++ drop (at + n) l)

  -- the element at place p, changed by f; all others as they were
  unfoldable pub on_nth : ℕ → (A → A) → List A → List A
  on_nth p f [] = []
  on_nth zero f (x ∷ l) = f x ∷ l
  on_nth (suc p) f (x ∷ l) = x ∷ on_nth p f l

  -- a change that keeps the length of whatever it is given
  abbrev pub KeepsLength : (List A → List A) → Type 0
  KeepsLength f = (l : List A) → length (f l) ≡ length l
