use Rattle.std.proofs.Common.{◌∙◌, ap, sym, refl, arith}
use Rattle.elab_flat.specs.Nets.{start_of}
use Rattle.elab_flat.proofs.Ports.{net_is}
use Rattle.elab_flat.proofs.nets.net_of.Goals as goal

pub returns : goal.returns
returns c =
    net_is c.args.first c.args.port.now _ (c.in_ok-make.ensures ∙ c.bytes.ensures) c.in-Some.ensures c.in-Some-range.ensures refl
    (sym c.in-Some-2.is ∙ c.in_ok-start.ensures ∙ ap (λ w. start_of w c.args.port.now.value) c.width.ensures.value) (omega (arith, c.if-first-width-gt-BIT_LIMIT.false, c.width-2.ensures.value))
