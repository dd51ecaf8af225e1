-- Blanked digests move no file of the image and change no other file.
use Rattle.std.specs.Prelude.{true, false, List, ◌≡◌, ℕ, ◌+◌, eqb, length, get_or}
use Rattle.std.proofs.Common.{ap, arith, eqb-true}
use Rattle.std.proofs.lemmas.Bool.{eqb-false}
use Rattle.rows.specs.LikeLaws.{by_test}
use Rattle.image.specs.Image.{good, spot, file}
use Rattle.image.specs.ChangeLaws.{length-on_file, spot-on_file, good-on_file, file-on_file, file-on_file-other}
use Rattle.passwords.specs.PasswordFile.{well_formed, mask_digests}
use Rattle.passwords.specs.MaskLaws.{mask-length, mask-well_formed}
use Rattle.begin.specs.Files.{password_path}
use Rattle.demand3.specs.Images.{mask_image}

-- no two partitions have the same password file
pub other_path : (p q : ℕ) → (p ≡ q → ⊥) → password_path p ≡ password_path q → ⊥
unfolding password_path
other_path p q differ e = let last : 48 + p ≡ 48 + q = ap (λ (l : List ℕ). get_or l 8 0) e in differ (omega arith)

module _ (q : ℕ) (store : List ℕ) where
  pub length-image : length (mask_image q store) ≡ length store
  unfolding mask_image
  length-image = length-on_file mask_digests mask-length (password_path q) store

  pub spot-image : (path : List ℕ) → spot path (mask_image q store) ≡ spot path store
  unfolding mask_image
  spot-image path = spot-on_file mask_digests mask-length (password_path q) store path

  pub good-image : good (mask_image q store) ≡ good store
  unfolding mask_image
  good-image = good-on_file mask_digests mask-length (password_path q) store

  pub own-file : file (password_path q) (mask_image q store) ≡ mask_digests (file (password_path q) store)
  unfolding mask_image
  own-file = file-on_file mask_digests mask-length (password_path q) store

  pub other-file : (path : List ℕ) → (password_path q ≡ path → ⊥) → file path (mask_image q store) ≡ file path store
  unfolding mask_image
  other-file path differ = file-on_file-other mask_digests mask-length (password_path q) store path differ

  -- every password file is well formed or malformed as before
  pub formed-image : (p : ℕ) → well_formed (file (password_path p) (mask_image q store)) ≡ well_formed (file (password_path p) store)
  formed-image p = by_test (eqb q p) same other
    where
      same : eqb q p ≡ true → well_formed (file (password_path p) (mask_image q store)) ≡ well_formed (file (password_path p) store)
      same e = rw (← eqb-true q p e, own-file) (mask-well_formed (file (password_path q) store))

      other : eqb q p ≡ false → well_formed (file (password_path p) (mask_image q store)) ≡ well_formed (file (password_path p) store)
      other e = rw (other-file (password_path p) (other_path q p (eqb-false q p e)))
