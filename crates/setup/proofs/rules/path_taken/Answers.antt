use Rattle.std.proofs.Common.{rules, tests, ◌∙◌}
use Rattle.std.proofs.lemmas.Iterator.{YieldsList-from_slice}
use Rattle.std.proofs.lemmas.Iterator.Search.{any_from_yields_List}
use Rattle.octets.specs.Same.{same_bytes}
use Rattle.octets.specs.Spans.{bytes_of}
use Rattle.octets.specs.declared.span.Span.{Span}
use Rattle.setup.specs.declared.Segment.{Segment}
use Rattle.setup.specs.Setup.{path_taken}
use Rattle.setup.specs.Values.{codes_any, dsegs_any}
use Rattle.setup.proofs.rules.path_taken.Goals as goal

pub returns : goal.returns
unfolding path_taken
returns c = let setup = c.args.setup.now in
    let text = c.args.text.now in
    let path = c.args.path.now in
    let codes = any_from_yields_List (λ (p : Span). same_bytes (bytes_of text p) path) _ _ c.any-of_code.result c.any-of_code.ensures.ran
    (YieldsList-from_slice setup.code (cc)) (λ x b q k. search (rules, tests)) in
    let dsegs = any_from_yields_List (λ (d : Segment). same_bytes (bytes_of text d.path) path) _ _ c.any-of_dseg.result c.any-of_dseg.ensures.ran
    (YieldsList-from_slice setup.dsegs (cc)) (λ x b q k. search (rules, tests)) in
    rw (codes ∙ codes_any text path setup.code, dsegs ∙ dsegs_any text path setup.dsegs)
