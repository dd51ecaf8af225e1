-- The store image as files by path.
use Rattle.std.specs.Prelude.{Bool, List, [], ℕ, Option, Some, None}
use Rattle.octets.specs.Lists.{part, on_part}
use Rattle.rows.specs.Records.{chunks, join}
use Rattle.octets.specs.declared.span.Span.{Span}
use Rattle.std.specs.Option.{is_some}
use Rattle.image.specs.Files.{spot_in, file_in, on_file_in, good_in}

-- "A cut record or path, another kind, a bad path length or a repeated path makes the image bad."
unfoldable pub good : List ℕ → Bool
good image = good_in (chunks image)

-- where the contents of the file with path p stand
unfoldable pub spot : List ℕ → List ℕ → Option Span
spot p image = spot_in p 0 (chunks image)

-- the contents of the file with path p; none where there is no such file
unfoldable pub file : List ℕ → List ℕ → List ℕ
file p image = file_in p (chunks image)

-- the image with the contents of the file with path p changed by f, all else as it was
unfoldable pub on_file : List ℕ → (List ℕ → List ℕ) → List ℕ → List ℕ
on_file p f image = join (on_file_in p f (chunks image))

-- what stands at a found place; nothing where nothing was found
unfoldable pub found_part : Option Span → List ℕ → List ℕ
found_part (Some p) l = part p.place p.length l
found_part None l = []

-- a change at a found place; none where nothing was found
unfoldable pub on_found : Option Span → (List ℕ → List ℕ) → List ℕ → List ℕ
on_found (Some p) f l = on_part p.place p.length f l
on_found None f l = l

unfoldable pub was_found : Option Span → Bool
was_found found = is_some found
