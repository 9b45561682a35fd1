use Rattle.std.proofs.Common.{refl, subst, sym}
use Rattle.std.proofs.lemmas.Option.{slice_get_read}
use Rattle.design_core.specs.declared.flat.Process.{Process}
use Rattle.design_core.specs.Drive.{drives}
use Rattle.elab_flat.specs.Owners.{Owns, Clashes}
use Rattle.elab_flat.proofs.Owning.{owners_none, owners_more, owners_clash}
use Rattle.elab_flat.proofs.drivers.own_all.Goals as goal

pub loop-k-init : goal.loop-k-init
loop-k-init c = owners_none c.args.processes.now c.args.registers.now c.args.owners.now c.requires

pub returns-then-not-own_body-clause-clashes : goal.returns-then-not-own_body-clause-clashes
returns-then-not-own_body-clause-clashes c e =
    owners_clash c.args.processes.now c.args.registers.now c.loop-k.k c.loop-k.owners c.loop-k.invariant c.index-processes-k.result
    (slice_get_read c.args.processes.now _ c.loop-k.k c.index-processes-k.result refl c.loop-k-test.true c.index-processes-k.is)
    (subst (λ (p : Process). Clashes (drives p.body) c.loop-k.k c.loop-k.owners) (sym c.index-processes-k.is) (c.own_body.ensures.clashes c.if-not-own_body.true))

pub loop-k-preserved : goal.loop-k-preserved
loop-k-preserved c =
    owners_more c.args.processes.now c.args.registers.now c.loop-k.k c.loop-k.owners c.loop-k.invariant c.index-processes-k.result
    (slice_get_read c.args.processes.now _ c.loop-k.k c.index-processes-k.result refl c.loop-k-test.true c.index-processes-k.is) c.own_body.new.owners
    (subst (λ (p : Process). Owns (drives p.body) c.loop-k.k c.loop-k.owners c.own_body.new.owners) (sym c.index-processes-k.is) (c.own_body.ensures.owns c.if-not-own_body.false))
