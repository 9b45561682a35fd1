use Rattle.bit_exprs.specs.Values.{listed}
use Rattle.expr_elab.specs.Vectors.{vector_width}
use Rattle.elab_nets.specs.declared.nets.Net.{Net}
use Rattle.elab_flat.specs.Bits.{info_of}
use Rattle.elab_flat.proofs.Listed.{each_more, each_done}
use Rattle.elab_flat.proofs.names.bits.Goals as goal

pub loop-net-preserved : goal.loop-net-preserved
loop-net-preserved c =
    each_more (λ (n : Net). listed (info_of c.args.path.now n) 0 (vector_width n.vector)) c.args.nets.now c.loop-net.net-index c.net-item.result c.loop-net.bits c.add_bits.new.bits c.net-item.is c.loop-net-test.true
    c.in_ok-add_bits.ensures c.loop-net.invariant

pub returns : goal.returns
returns c = each_done (λ (n : Net). listed (info_of c.args.path.now n) 0 (vector_width n.vector)) c.args.nets.now c.loop-net.net-index c.loop-net.bits c.loop-net-test.false c.loop-net.invariant
