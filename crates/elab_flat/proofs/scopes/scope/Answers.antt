use Rattle.std.proofs.Common.{◌≡◌, ◌∷◌, [], cond, None, subst, sym}
use Rattle.std.specs.Str.{bytes_eq}
use Rattle.expr_elab.specs.Vectors.{vector_of}
use Rattle.elab_flat.specs.declared.nets.Net.{Net}
use Rattle.elab_flat.proofs.Listed.{each_more, each_done}
use Rattle.elab_flat.proofs.NetNames.{new_name}
use Rattle.elab_flat.proofs.scopes.scope.Goals as goal

pub declare_net-requires : goal.declare_net-requires
declare_net-requires c =
    subst (λ s. vector_of s c.net-item.result.name ≡ None) (sym c.loop-net.invariant)
    (new_name c.args.clock.now c.args.nets.now c.loop-net.net-index c.net-item.result c.requires c.net-item.is c.loop-net-test.true)

pub loop-net-preserved : goal.loop-net-preserved
loop-net-preserved c =
    each_more (λ (n : Net). cond (bytes_eq n.name c.args.clock.now) [] ((n.name, n.vector) ∷ [])) c.args.nets.now c.loop-net.net-index c.net-item.result c.loop-net.scope c.declare_net.new.scope c.net-item.is
    c.loop-net-test.true c.in_ok-declare_net.ensures c.loop-net.invariant

pub returns : goal.returns
returns c =
    each_done (λ (n : Net). cond (bytes_eq n.name c.args.clock.now) [] ((n.name, n.vector) ∷ [])) c.args.nets.now c.loop-net.net-index c.loop-net.scope c.loop-net-test.false c.loop-net.invariant
