use Rattle.std.proofs.Common.{length-set, rules, length, replicate, arith, ◌≡◌, refl, ◌∙◌}
use Rattle.setup.specs.Values.{fill_step, fill_end, table-length}
use Rattle.setup.specs.Reading.{permission_table}
use Rattle.setup.proofs.permission_table.Goals as goal

pub loop-i-init : goal.loop-i-init
loop-i-init c = (refl, (refl, omega arith))

pub loop-i-preserved : goal.loop-i-preserved
loop-i-preserved c = let d : length c.args.setup.dsegs ≡ 16 = search rules in let m : length c.args.setup.msegs ≡ 16 = search rules in let t : length (permission_table c.args.setup) ≡ 32 = table-length c.args.setup d m in (rw c.row.ensures (fill_step c.loop-i.table (permission_table c.args.setup) c.loop-i.i (replicate 8 0) (omega arith) (omega arith) c.loop-i.invariant.0), (length-set c.loop-i.table c.loop-i.i c.row.result ∙ c.loop-i.invariant.1.0, omega arith))

pub returns : goal.returns
returns c = let d : length c.args.setup.dsegs ≡ 16 = search rules in let m : length c.args.setup.msegs ≡ 16 = search rules in let t : length (permission_table c.args.setup) ≡ 32 = table-length c.args.setup d m in fill_end c.loop-i.table (permission_table c.args.setup) c.loop-i.i (omega arith) (omega arith) c.loop-i.invariant.0
