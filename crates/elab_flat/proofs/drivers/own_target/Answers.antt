use Rattle.std.proofs.Common.{◌+◌, ◌∙◌, ap, take, drop, subst, sym}
use Rattle.std.specs.Prelude.{flat_map}
use Rattle.std.proofs.lemmas.List.{take_all}
use Rattle.bit_exprs.specs.Named.{among, part_bits, target_bits}
use Rattle.elab_flat.specs.Owners.{Owns}
use Rattle.elab_flat.proofs.Driving.{parts_more, parts_rest}
use Rattle.elab_flat.proofs.Owning.{one_more_owned, one_more_clash}
use Rattle.elab_flat.proofs.drivers.own_target.Goals as goal

pub returns-then-not-own_bits-clause-clashes : goal.returns-then-not-own_bits-clause-clashes
returns-then-not-own_bits-clause-clashes c e =
    let parts = c.as_slice-part-items.result.now in
    let k = c.loop-part.part-index in
    one_more_clash c.args.process c.args.owners.now c.loop-part.owners (among (flat_map part_bits (take k parts)), c.loop-part.invariant) (among c.named.result.now) (among (flat_map part_bits (take (k + 1) parts)))
    (among (flat_map part_bits (drop (k + 1) parts))) (among (target_bits c.args.target.now))
    (parts_more parts k c.part-item.result c.named.result.now c.part-item.is c.loop-part-test.true c.named.ensures)
    (ap (λ ps. among (flat_map part_bits ps)) (sym c.as_slice-part-items.ensures) ∙ parts_rest parts (k + 1)) (c.own_bits.ensures.clashes c.if-not-own_bits.true)

pub loop-part-preserved : goal.loop-part-preserved
loop-part-preserved c =
    let parts = c.as_slice-part-items.result.now in
    let k = c.loop-part.part-index in
    one_more_owned c.args.process c.args.owners.now c.loop-part.owners (among (flat_map part_bits (take k parts)), c.loop-part.invariant) (among c.named.result.now) (among (flat_map part_bits (take (k + 1) parts))) c.own_bits.new.owners
    (parts_more parts k c.part-item.result c.named.result.now c.part-item.is c.loop-part-test.true c.named.ensures) (c.own_bits.ensures.owns c.if-not-own_bits.false)

pub returns-clause-owns : goal.returns-clause-owns
returns-clause-owns c e =
    let parts = c.as_slice-part-items.result.now in
    subst (λ ps. Owns (among (flat_map part_bits ps)) c.args.process c.args.owners.now c.loop-part.owners) (take_all c.loop-part.part-index parts c.loop-part-test.false ∙ c.as_slice-part-items.ensures) c.loop-part.invariant
