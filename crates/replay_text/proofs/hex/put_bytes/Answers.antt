-- `replay_text::hex::put_bytes` meets its contract: a dash, or the digits. Assumes nothing.
use Rattle.std.proofs.Common.{refl, sym, ◌∙◌, eqb-true}
use Rattle.std.proofs.lemmas.Bool.{eqb-false}
use Rattle.lines.specs.Laws.{put_called}
use Rattle.lines.specs.Wrote.{most}
use Rattle.replay_text.specs.HexLaws.{length-hex, spelled_none, spelled-some}
use Rattle.replay_text.proofs.hex.put_bytes.Goals as goal

pub returns-then-is_empty : goal.returns-then-is_empty
returns-then-is_empty c = put_called (spelled_none c.args.from.now (eqb-true _ _ (sym c.is_empty.ensures ∙ c.if-is_empty.true))) c.put.ensures

pub returns : goal.returns
unfolding most
returns c = put_called (spelled-some c.args.from.now (eqb-false _ _ (sym c.is_empty.ensures ∙ c.if-is_empty.false))) (record {
  wrote = record { written = c.encode.ensures; place = rw length-hex c.sum-out.ensures; room = c.args.out.now.room };
  same_row = refl;
})
