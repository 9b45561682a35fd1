use Rattle.settle_order.proofs.Tables.{noted_none}
use Rattle.settle_order.proofs.nodes.note.Goals as goal

pub loop-bit-init : goal.loop-bit-init
loop-bit-init c = noted_none c.args.drives.now c.args.node c.args.table.now
