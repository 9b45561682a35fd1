use Rattle.std.proofs.Common.{◌+◌, [], ◌∷◌, get_or, take, drop, subst}
use Rattle.std.proofs.lemmas.List.{take_all}
use Rattle.bit_exprs.specs.Named.{among}
use Rattle.elab_flat.specs.Owners.{Owns}
use Rattle.elab_flat.proofs.Driving.{bits_more, bits_rest}
use Rattle.elab_flat.proofs.Owning.{one_more_owned, one_more_clash}
use Rattle.elab_flat.proofs.drivers.own_bits.Goals as goal

pub returns-then-not-own_bit-clause-clashes : goal.returns-then-not-own_bit-clause-clashes
returns-then-not-own_bit-clause-clashes c e =
    let bits = c.args.bits.now in
    let k = c.loop-bit.bit-index in
    one_more_clash c.args.process c.args.owners.now c.loop-bit.owners (among (take k bits), c.loop-bit.invariant) (among (get_or bits k 0 ∷ [])) (among (take (k + 1) bits)) (among (drop (k + 1) bits)) (among bits)
    (bits_more bits k c.loop-bit-test.true) (bits_rest bits (k + 1)) (c.own_bit.ensures.clashes c.if-not-own_bit.true)

pub loop-bit-preserved : goal.loop-bit-preserved
loop-bit-preserved c =
    let bits = c.args.bits.now in
    let k = c.loop-bit.bit-index in
    one_more_owned c.args.process c.args.owners.now c.loop-bit.owners (among (take k bits), c.loop-bit.invariant) (among (get_or bits k 0 ∷ [])) (among (take (k + 1) bits)) c.own_bit.new.owners
    (bits_more bits k c.loop-bit-test.true) (c.own_bit.ensures.owns c.if-not-own_bit.false)

pub returns-clause-owns : goal.returns-clause-owns
returns-clause-owns c e =
    subst (λ xs. Owns (among xs) c.args.process c.args.owners.now c.loop-bit.owners) (take_all c.loop-bit.bit-index c.args.bits.now c.loop-bit-test.false) c.loop-bit.invariant
