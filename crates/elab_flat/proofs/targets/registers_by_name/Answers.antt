use Rattle.std.proofs.Common.{ap, ◌∙◌}
use Rattle.expr_elab.specs.Vectors.{vector_of}
use Rattle.elab_flat.specs.declared.nets.Net.{Net}
use Rattle.elab_flat.proofs.NetNames.{new_entry}
use Rattle.elab_flat.proofs.targets.registers_by_name.Goals as goal

pub declare_register-requires : goal.declare_register-requires
declare_register-requires c =
    ap (λ scope. vector_of scope c.net-item.result.name) c.loop-net.invariant
    ∙ new_entry (λ (n : Net). n.input) c.args.nets.now c.loop-net.net-index c.net-item.result c.requires c.net-item.is c.loop-net-test.true
