use Rattle.std.proofs.Common.{◌*◌, ◌/◌, length, refl, arith}
use Rattle.sha256.proofs.Rows.{rest_of}
use Rattle.sha256.proofs.Blocks.{inside, near, marks, closes}
use Rattle.sha256.proofs.padding.block.Goals as goal

pub returns-then-i-whole : goal.returns-then-i-whole
returns-then-i-whole c = rw (c.whole_block.ensures, rest_of (c.args.i * 64) c.args.message.now) (inside c.args.message.now c.args.i (omega arith))

pub overflow_mul-at-2 : goal.overflow_mul-at-2
overflow_mul-at-2 c = omega (arith, near c.args.message.now c.args.i c.requires)

pub overflow_add-at : goal.overflow_add-at
overflow_add-at c = omega (arith, near c.args.message.now c.args.i c.requires)

pub returns-then-at-rest : goal.returns-then-at-rest
returns-then-at-rest c = rw (c.marked_block.ensures, rest_of (length c.args.message.now / 64 * 64) c.args.message.now) (marks c.args.message.now c.args.i (length c.args.message.now / 64 * 64) refl c.if-i-whole.false (rw (rest_of (length c.args.message.now / 64 * 64) c.args.message.now) at c.if-at-rest.true))

pub closing_block-requires : goal.closing_block-requires
closing_block-requires c = omega (arith, near c.args.message.now c.args.i c.requires)

pub returns : goal.returns
returns c = rw (c.closing_block.ensures, rest_of (length c.args.message.now / 64 * 64) c.args.message.now) (closes c.args.message.now c.args.i (length c.args.message.now / 64 * 64) refl c.if-i-whole.false c.requires (rw (rest_of (length c.args.message.now / 64 * 64) c.args.message.now) at c.if-at-rest.false))
