-- What it says of two images that they are the same with q's digests blanked, in words in which the blanking has no say; and that a changed digest is blanked.
use Rattle.std.specs.Prelude.{List, ◌≡◌, ℕ, length, refl, Option, Some, None}
use Rattle.std.proofs.Common.{sym, ap, ◌∙◌}
use Rattle.octets.specs.Lists.{part}
use Rattle.octets.specs.OnPartLaws.{Apart, on_part-same, part-on_part-apart}
use Rattle.octets.specs.WriteLaws.{length-write_at}
use Rattle.octets.specs.declared.span.Span.{Span}
use Rattle.octets.specs.Spans.{span}
use Rattle.image.specs.Image.{spot, file, on_file}
use Rattle.image.specs.SpotLaws.{on_file-at, on_file-none}
use Rattle.image.specs.ChangeLaws.{on_file-twice}
use Rattle.passwords.specs.PasswordFile.{with_digest, mask_digests}
use Rattle.passwords.specs.ChangeLaws.{changed-place}
use Rattle.passwords.specs.MaskLaws.{mask-length, mask-changed}
use Rattle.begin.specs.Files.{password_path}
use Rattle.demand3.specs.Images.{mask_image}
use Rattle.demand3.specs.ImageLaws.{length-image, spot-image, own-file, other-file}

module _ (q : ℕ) (store other : List ℕ) (like : mask_image q store ≡ mask_image q other) where
  -- they are of the same length
  pub same_length : length store ≡ length other
  same_length = sym (length-image q store) ∙ ap length like ∙ length-image q other

  -- every file stands at the same place
  pub same-spots : (path : List ℕ) → spot path store ≡ spot path other
  same-spots path = sym (spot-image q store path) ∙ ap (spot path) like ∙ spot-image q other path

  -- every other file is the same
  pub same-files : (path : List ℕ) → (password_path q ≡ path → ⊥) → file path store ≡ file path other
  same-files path differ = sym (other-file q store path differ) ∙ ap (file path) like ∙ other-file q other path differ

  -- and of q's password file, all but the digests
  pub same_but_digests : mask_digests (file (password_path q) store) ≡ mask_digests (file (password_path q) other)
  same_but_digests = sym (own-file q store) ∙ ap (file (password_path q)) like ∙ own-file q other

  -- every byte of the image that is not q's password file's is the same
  pub same_bytes_lem : (at n place m : ℕ) → spot (password_path q) store ≡ Some (span at n) → Apart at n place m → part place m store ≡ part place m other
  unfolding mask_image
  same_bytes_lem at n place m found apart =
      sym (part-on_part-apart mask_digests mask-length at n place m store apart)
      ∙ ap (part place m) (sym (on_file-at store mask_digests (password_path q) at n found) ∙ like ∙ on_file-at other mask_digests (password_path q) at n (sym (same-spots (password_path q)) ∙ found))
      ∙ part-on_part-apart mask_digests mask-length at n place m other apart

-- an image and the same image with another digest of q's are like
module _ (q i : ℕ) (new store : List ℕ) where
  keeps : (l : List ℕ) → length (with_digest i new l) ≡ length l
  keeps l = ap length (changed-place i new l) ∙ length-write_at _ _ l

  pub digest-blanked : mask_image q (on_file (password_path q) (with_digest i new) store) ≡ mask_image q store
  unfolding mask_image
  digest-blanked = on_file-twice (with_digest i new) mask_digests keeps mask-length (password_path q) store ∙ go (spot (password_path q) store) refl
    where
      go : (found : Option Span) → spot (password_path q) store ≡ found → on_file (password_path q) (λ l. mask_digests (with_digest i new l)) store ≡ on_file (password_path q) mask_digests store
      go (Some s) h =
          on_file-at store (λ l. mask_digests (with_digest i new l)) (password_path q) s.place s.length h
          ∙ on_part-same s.place s.length (λ l. mask_digests (with_digest i new l)) mask_digests store (mask-changed i new (part s.place s.length store))
          ∙ sym (on_file-at store mask_digests (password_path q) s.place s.length h)
      go None h =
          on_file-none store (λ l. mask_digests (with_digest i new l)) (password_path q) h ∙ sym (on_file-none store mask_digests (password_path q) h)
