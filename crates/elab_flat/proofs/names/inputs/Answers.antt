use Rattle.std.proofs.Common.{cond, []}
use Rattle.expr_elab.specs.Vectors.{bits_of}
use Rattle.elab_nets.specs.declared.nets.Net.{Net}
use Rattle.elab_flat.specs.Bits.{is_data_input}
use Rattle.elab_flat.proofs.Listed.{each_more, each_done}
use Rattle.elab_flat.proofs.names.inputs.Goals as goal

pub loop-net-preserved : goal.loop-net-preserved
loop-net-preserved c =
    each_more (λ (n : Net). cond (is_data_input c.args.clock.now n) (bits_of n.vector) []) c.args.nets.now c.loop-net.net-index c.net-item.result c.loop-net.bits c.add_input.new.bits c.net-item.is c.loop-net-test.true
    c.in_ok-add_input.ensures c.loop-net.invariant

pub returns : goal.returns
returns c = each_done (λ (n : Net). cond (is_data_input c.args.clock.now n) (bits_of n.vector) []) c.args.nets.now c.loop-net.net-index c.loop-net.bits c.loop-net-test.false c.loop-net.invariant
