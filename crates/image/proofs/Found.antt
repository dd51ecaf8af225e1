-- What was found, told by whether something was, and by the part that stands there.
use Rattle.std.proofs.Common.{List, ◌≡◌, ◌∙◌, sym, ℕ, Option, Some, None, refl}
use Rattle.std.specs.Option.{is_some, unwrap_or}
use Rattle.octets.specs.declared.span.Span.{Span}
use Rattle.octets.specs.Spans.{no_span, bytes_of}
use Rattle.octets.specs.Lists.{part}
use Rattle.image.specs.Image.{spot, file, found_part, was_found}
use Rattle.image.specs.Files.{spot_in, holds}
use Rattle.image.specs.PlaceLaws.{file-place, spot-holds}

pub held : (p : List ℕ) (at : ℕ) (cs : List (List ℕ)) → is_some (spot_in p at cs) ≡ holds p cs
unfolding was_found
held p at cs = spot-holds p at cs

bytes_found : (found : Option Span) (image : List ℕ) → bytes_of image (unwrap_or found no_span) ≡ found_part found image
unfolding bytes_of found_part part
bytes_found (Some p) image = refl
bytes_found None image = refl

pub part_or_none : (p image : List ℕ) → bytes_of image (unwrap_or (spot p image) no_span) ≡ file p image
part_or_none p image = bytes_found (spot p image) image ∙ sym (file-place p image)
