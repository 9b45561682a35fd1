use Rattle.elab_flat.proofs.Owning.{places_within, driven_all, all_driven}
use Rattle.elab_flat.proofs.drivers.is_driven_once.Goals as goal

pub are_owned-requires : goal.are_owned-requires
are_owned-requires c = places_within c.args.processes.now c.args.registers.now c.own_all.new.owners (c.own_all.ensures.owners c.if-not-own_all.false)

pub returns : goal.returns
returns c =
    let all = c.own_all.ensures.owners c.if-not-own_all.false in (
      λ e. driven_all c.args.processes.now c.args.registers.now c.own_all.new.owners all (c.are_owned.ensures.0 e),
      λ h. c.are_owned.ensures.1 (all_driven c.args.processes.now c.args.registers.now c.own_all.new.owners all h),
    )
