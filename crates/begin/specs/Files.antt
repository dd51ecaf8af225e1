-- Where start finds its files in the store.
use Rattle.std.specs.Prelude.{cond, List, [], ◌∷◌, ℕ, ◌+◌, ltb, get_or, Option, Some, None}
use Rattle.image.specs.Image.{spot}
use Rattle.octets.specs.declared.span.Span.{Span}
use Rattle.setup.specs.declared.Setup.{Setup}
use Rattle.octets.specs.Spans.{no_span, bytes_of}
use Rattle.setup.specs.Setup.{no_segment, is_active}
use Rattle.begin.specs.Each.{firsts}

-- "Password file of partition p: path "/scos/pw" and the digit p."
unfoldable pub password_path : ℕ → List ℕ
password_path p = 47 ∷ 115 ∷ 99 ∷ 111 ∷ 115 ∷ 47 ∷ 112 ∷ 119 ∷ (48 + p) ∷ []

-- where a file was found; the empty span where there is none (415: "a missing file counts 0")
unfoldable pub span_of : Option Span → Span
span_of (Some p) = p
span_of None = no_span

-- where the file of dseg i stands in the store
unfoldable pub dseg_file : Setup → List ℕ → List ℕ → ℕ → Span
dseg_file s text store i = cond (ltb i s.dsegcount) (span_of (spot (bytes_of text (get_or s.dsegs i no_segment).path) store)) no_span

-- where active partition p's password file stands; a passive one's is never looked for
unfoldable pub password_file : Setup → List ℕ → ℕ → Span
password_file s store p = cond (is_active s p) (span_of (spot (password_path p) store)) no_span

-- all of them, by number
unfoldable pub dseg_files : Setup → List ℕ → List ℕ → List Span
dseg_files s text store = firsts (dseg_file s text store) 16

unfoldable pub password_files : Setup → List ℕ → List Span
password_files s store = firsts (password_file s store) 8
