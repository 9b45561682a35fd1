use Rattle.std.proofs.Common.{length, ap, length-append, arith}
use Rattle.clause_arena.proofs.Laid.{map-held-push}
use Rattle.clause_arena.proofs.Arena.add_reserved.Goals as goal

pub returns-clause-places : goal.returns-clause-places
returns-clause-places c =
    rw
    (c.push_reserved.ensures.items, c.append_reserved.ensures.items, ← c.self.view_is)
    (map-held-push
    c.self.inside.lits.items
    c.args.clause.now
    c.self.inside.slots.items
    _
    _
    c.self.invariant
    (omega arith)
    (omega (arith, simp length-append at (ap length c.append_reserved.ensures.items))))
