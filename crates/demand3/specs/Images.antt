-- The store image with the digests of one partition's password file blanked.
use Rattle.std.specs.Prelude.{List, ℕ}
use Rattle.image.specs.Image.{on_file}
use Rattle.passwords.specs.PasswordFile.{mask_digests}
use Rattle.begin.specs.Files.{password_path}

-- "the digests in one active partition's password file"; all else of the image is as it was
unfoldable pub mask_image : ℕ → List ℕ → List ℕ
mask_image q store = on_file (password_path q) mask_digests store
