use Rattle.std.proofs.Common.{◌<◌, get_or, subst, sym}
use Rattle.std.proofs.lemmas.List.{take_all, get_or_default}
use Rattle.elab_flat.specs.Owners.{AreFree}
use Rattle.elab_flat.proofs.Owning.{free_more, free_none}
use Rattle.elab_flat.proofs.drivers.free_registers.Goals as goal

pub loop-bit-init : goal.loop-bit-init
loop-bit-init c = free_none c.args.owners.now c.requires.barred

pub loop-bit-preserved : goal.loop-bit-preserved
loop-bit-preserved c =
    free_more c.args.registers.now c.loop-bit.bit-index (get_or c.args.registers.now c.loop-bit.bit-index 0)
    (get_or_default c.args.registers.now c.loop-bit.bit-index 0 _ c.loop-bit-test.true) c.loop-bit-test.true c.loop-bit.owners
    (subst (λ n. get_or c.args.registers.now c.loop-bit.bit-index 0 < n) (sym c.loop-bit.auto.owners) (c.requires.within c.loop-bit.bit-index 0 c.loop-bit-test.true)) c.loop-bit.invariant

pub returns : goal.returns
returns c = subst (λ xs. AreFree xs c.loop-bit.owners) (take_all c.loop-bit.bit-index c.args.registers.now c.loop-bit-test.false) c.loop-bit.invariant
