-- How long the database and its parts are, that an entry's selector reaches the segment that it tells of, and that a refused call leaves the buffer
-- as it was.
use Rattle.std.specs.Prelude.{Bool, ◌≡◌, eqb, ltb, true, false, cond, List, [], ◌∷◌, refl, ℕ, zero, suc, ◌+◌, ◌-◌, ◌*◌, ◌≤◌, ◌<◌, length}
use Rattle.std.proofs.Common.{arith, lt-ltb, le-ltb, le-leb, length-append}
use Rattle.std.proofs.Math.Decide.{dec_le}
use Rattle.std.proofs.lemmas.List.{length-replicate}
use Rattle.octets.specs.NumberLaws.{length-spelled}
use Rattle.octets.specs.WriteLaws.{length_over}
use Rattle.checks.specs.Checks.{◌when◌, after}
use Rattle.checks.specs.Settle.{by_settle, settle-refused}
use Rattle.state.specs.declared.Plan.{Plan}
use Rattle.memory.specs.Rights.{row_of, right_of}
use Rattle.checks.specs.Told.{Told, told}
use Rattle.database.specs.Database.{filled, selector_of, entry, entry_of, listed, entries, entry_count, header, database, configuration}

-- ---- lengths

pub length-filled : (n : ℕ) (l : List ℕ) → length (filled n l) ≡ n
unfolding filled
length-filled n l = rw (length_over, length-replicate)

-- "entries of 80 bytes"
pub length-entry : (kind selector size right : ℕ) (path : List ℕ) → length (entry kind selector size right path) ≡ 80
unfolding entry
length-entry kind selector size right path = simp (length-append, length-spelled, length-filled)

pub length-header : (p count : ℕ) → length (header p count) ≡ 24
unfolding header
length-header p count = simp (length-append, length-spelled)

-- "Always 2,584 bytes"
pub length-database : (plan : Plan) (permissions : List (List ℕ)) (store : List ℕ) (p : ℕ) → length (database plan permissions store p) ≡ 2584
unfolding database
length-database plan permissions store p = length-filled 2584 _

module _ (plan : Plan) (permissions : List (List ℕ)) (p : ℕ) where
  -- no more entries than rows
  pub count_most : (n : ℕ) → entry_count plan permissions p n ≤ n
  unfolding entry_count
  count_most zero = omega arith
  count_most (suc n) = go (eqb (right_of plan permissions n p) 0) (count_most n)
    where
      go : (t : Bool) → entry_count plan permissions p n ≤ n → entry_count plan permissions p n + cond t 0 1 ≤ suc n
      go true h = omega arith
      go false h = omega arith

  module _ (store : List ℕ) where
    length-listed : (row : ℕ) → length (listed plan permissions store p row) ≡ 80 * cond (eqb (right_of plan permissions row p) 0) 0 1
    unfolding listed entry_of
    length-listed row = go (eqb (right_of plan permissions row p) 0)
      where
        go : (t : Bool) → length (cond t [] (entry_of plan store (right_of plan permissions row p) row)) ≡ 80 * cond t 0 1
        go true = refl
        go false = length-entry _ _ _ _ _

    pub length-entries : (n : ℕ) → length (entries plan permissions store p n) ≡ 80 * entry_count plan permissions p n
    unfolding entries entry_count
    length-entries zero = refl
    length-entries (suc n) = rw (length-append, length-entries n, length-listed n) (omega arith)

-- ---- selectors

-- a call that is given an entry's selector reaches the segment of the entry's row
pub selector_row : (row : ℕ) → row < 32 → row_of (selector_of row) ≡ row
unfolding row_of selector_of
selector_row row h = go (dec_le 16 row)
  where
    go : Dec (16 ≤ row) → row_of (selector_of row) ≡ row
    go (yes k) =
        let low : 272 ≤ 512 + (row - 16) = omega arith in
        let high : 512 + (row - 16) < 528 = omega arith in
        rw (
          le-ltb row 16 k,
          le-leb 256 (512 + (row - 16)) (omega arith),
          le-ltb (512 + (row - 16)) 272 low,
          le-leb 512 (512 + (row - 16)) (omega arith),
          lt-ltb (512 + (row - 16)) 528 high,
        )
        (omega arith)
    go (no k) =
        let low : row < 16 = omega arith in
        rw (lt-ltb row 16 low, le-leb 256 (256 + row) (omega arith), lt-ltb (256 + row) 272 (omega arith)) (omega arith)

-- ---- the call

pub length-configuration : (n : ℕ) (plan : Plan) (permissions : List (List ℕ)) (store : List ℕ) (p : ℕ) (buffer : List ℕ)
    → length (configuration n plan permissions store p buffer).lent ≡ length buffer
unfolding configuration
length-configuration n plan permissions store p buffer =
    by_settle (λ (t : Told). length t.lent ≡ length buffer) (after n ((214 when ltb (length buffer) 2584) ∷ []))
    (λ _. length_over (database plan permissions store p) buffer)
    (λ _. refl)

pub configuration-refused : (n : ℕ) (plan : Plan) (permissions : List (List ℕ)) (store : List ℕ) (p : ℕ) (buffer : List ℕ)
    → (after n ((214 when ltb (length buffer) 2584) ∷ []) ≡ 0 → ⊥)
    → configuration n plan permissions store p buffer ≡ told (after n ((214 when ltb (length buffer) 2584) ∷ [])) buffer
unfolding configuration
configuration-refused n plan permissions store p buffer h = settle-refused (after n ((214 when ltb (length buffer) 2584) ∷ [])) _ _ h
