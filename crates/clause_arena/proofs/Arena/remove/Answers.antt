use Rattle.std.proofs.Common.{ap, sym, subst, ◌∙◌, None, set}
use Rattle.std.proofs.lemmas.List.{map-set, get_or_read}
use Rattle.clause_arena.specs.Stored.{held, IsLive}
use Rattle.clause_arena.proofs.Laid.{apart-set, slot-in}
use Rattle.clause_arena.proofs.Arena.remove.Goals as goal

pub invariant_of-self : goal.invariant_of-self
invariant_of-self c =
    let live = subst (λ v. IsLive v.places c.args.at) (sym c.self.view_is) c.requires in
    let there = slot-in c.self.inside.lits.items c.self.inside.slots.items c.args.at.place live in
    apart-set
    c.self.inside.lits.items
    c.self.inside.slots.items
    c.args.at.place
    _
    c.self.invariant
    (λ d. ap (λ s. s.span) (get_or_read c.self.inside.slots.items c.args.at.place c.index_mut.result.now there c.index_mut.ensures.value d))

pub returns-clause-places : goal.returns-clause-places
returns-clause-places c =
    map-set (held c.self.inside.lits.items) c.self.inside.slots.items c.args.at.place _
    ∙ ap (λ v. set v.places c.args.at.place None) c.self.view_is
