use Rattle.std.proofs.Common.{ap, sym, subst, ◌∙◌}
use Rattle.std.specs.List.{between, swap}
use Rattle.clause_arena.specs.Stored.{IsLive}
use Rattle.clause_arena.proofs.Laid.{map-held-swap}
use Rattle.clause_arena.proofs.Arena.swap.Goals as goal

pub returns-clause-places : goal.returns-clause-places
returns-clause-places c =
    let live = subst (λ v. IsLive v.places c.args.at) (sym c.self.view_is) c.requires.live in
    let s = c.index.result.now in
    let after = c.swap.ensures.after ∙ ap (λ x. swap (between s.span.from s.span.to x) c.args.i c.args.j) c.as_mut_slice.ensures.value in
    rw
    (c.as_mut_slice.ensures.value, ← c.self.view_is)
    (map-held-swap
    c.self.inside.lits.items
    c.swap.new.self
    c.self.inside.slots.items
    c.args.at.place
    c.self.inside.lits.len
    c.args.i
    c.args.j
    s
    c.self.invariant
    live
    c.self.inside.lits.ok.0
    c.index.ensures
    after
    _)
