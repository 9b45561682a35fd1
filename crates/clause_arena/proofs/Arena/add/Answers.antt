use Rattle.std.proofs.Common.{◌≡◌, ◌++◌, length, refl, ap, length-append, arith}
use Rattle.std.proofs.lemmas.Slice.{pushed}
use Rattle.clause_arena.proofs.Laid.{map-held-push}
use Rattle.clause_arena.proofs.Arena.add.Goals as goal

pub returns-clause-ok : goal.returns-clause-ok
returns-clause-ok c =
    let lits : c.extend_from_slice.new.self.items ≡ c.self.inside.lits.items ++ c.args.clause.now =
    pushed c.args.clause.now refl c.in_ok-extend_from_slice.was c.extend_from_slice.ensures.items in
    rw
    (c.push_reserved.ensures.items, c.reserve.ensures.items, lits, ← c.self.view_is)
    (map-held-push
    c.self.inside.lits.items
    c.args.clause.now
    c.self.inside.slots.items
    _
    _
    c.self.invariant
    (omega arith)
    (omega (arith, simp length-append at (ap length lits))))
