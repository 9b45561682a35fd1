use Rattle.std.proofs.Common.{Bool, List, ap, ◌∙◌}
use Rattle.bit_exprs.specs.Values.{bit_at}
use Rattle.bit_exprs.specs.Named.{target_bits}
use Rattle.bit_exprs.specs.Updates.{updates_of, perform}
use Rattle.bit_exprs.proofs.Given.{not_given}
use Rattle.expr_value.proofs.Copies.{copied, by_way}
use Rattle.expr_value.proofs.writes.assign.Goals as goal

pub returns : goal.returns
returns c =
    let bits = target_bits c.args.target.now in
    let us = updates_of c.args.target.now c.args.value.bits c.args.values.now in
    c.copy_named-2.ensures
    ∙ ap (λ (s : List Bool). copied (bit_at s) bits c.args.values.now) (c.write.ensures ∙ ap (perform us) c.copy_named.ensures)
    ∙ by_way bits us c.args.scratch.now c.args.values.now c.requires.long (not_given c.args.target.now c.args.value.bits c.args.values.now)
