use Rattle.std.proofs.Common.{◌≡◌, ◌<◌, true, inl, inr, ap, ◌∙◌, length, arith}
use Rattle.cnf_core.specs.Lrat.{is_false}
use Rattle.sat_core.specs.Trailed.{clause_in, is_satisfied}
use Rattle.sat_core.specs.Watching.{AreOpen, ends_of}
use Rattle.sat_core.proofs.Entries.{place-in, IsEntered-same, Added}
use Rattle.sat_core.proofs.Propagations.{Within-extends}
use Rattle.sat_core.proofs.WatchPairs.{satisfied-some, ends-first, ends-second}
use Rattle.sat_core.proofs.propagate.enter_next.Goals as goal

pub ends-requires : goal.ends-requires
ends-requires c =
    let satisfied : is_satisfied c.settle.new.trail.falses (clause_in c.args.clauses.now c.args.at) ≡ true = rw c.in-Satisfied.is at c.in_ok-settle.ensures.settled in
    rw c.get.ensures (satisfied-some c.settle.new.trail.falses (clause_in c.args.clauses.now c.args.at) satisfied)

pub add-requires-clause-first : goal.add-requires-clause-first
add-requires-clause-first c =
    let satisfied : is_satisfied c.settle.new.trail.falses (clause_in c.args.clauses.now c.args.at) ≡ true = rw c.in-Satisfied.is at c.in_ok-settle.ensures.settled in
    rw
    (c.ends.ensures, c.get.ensures)
    (place-in
    c.args.trail.now.vars
    (length c.args.watches.now.lists)
    c.args.clauses.now
    c.args.at
    (ends_of (clause_in c.args.clauses.now c.args.at)).first
    c.requires.vars
    c.requires.places
    c.requires.there
    (ends-first (clause_in c.args.clauses.now c.args.at) (satisfied-some c.settle.new.trail.falses (clause_in c.args.clauses.now c.args.at) satisfied)))

pub add-requires-clause-second : goal.add-requires-clause-second
add-requires-clause-second c =
    let satisfied : is_satisfied c.settle.new.trail.falses (clause_in c.args.clauses.now c.args.at) ≡ true = rw c.in-Satisfied.is at c.in_ok-settle.ensures.settled in
    rw
    (c.ends.ensures, c.get.ensures)
    (place-in
    c.args.trail.now.vars
    (length c.args.watches.now.lists)
    c.args.clauses.now
    c.args.at
    (ends_of (clause_in c.args.clauses.now c.args.at)).second
    c.requires.vars
    c.requires.places
    c.requires.there
    (ends-second (clause_in c.args.clauses.now c.args.at) (satisfied-some c.settle.new.trail.falses (clause_in c.args.clauses.now c.args.at) satisfied)))

pub add-requires-in-Left-clause-first : goal.add-requires-in-Left-clause-first
add-requires-in-Left-clause-first c =
    let left : AreOpen c.settle.new.trail.falses (clause_in c.args.clauses.now c.args.at) c.in-Left.pair = rw c.in-Left.is at c.in_ok-settle.ensures.settled in
    place-in c.args.trail.now.vars (length c.args.watches.now.lists) c.args.clauses.now c.args.at c.in-Left.pair.first c.requires.vars c.requires.places c.requires.there left.two.first_in

pub add-requires-in-Left-clause-second : goal.add-requires-in-Left-clause-second
add-requires-in-Left-clause-second c =
    let left : AreOpen c.settle.new.trail.falses (clause_in c.args.clauses.now c.args.at) c.in-Left.pair = rw c.in-Left.is at c.in_ok-settle.ensures.settled in
    place-in c.args.trail.now.vars (length c.args.watches.now.lists) c.args.clauses.now c.args.at c.in-Left.pair.second c.requires.vars c.requires.places c.requires.there left.two.second_in

pub returns-in-Falsified-clause-entered : goal.returns-in-Falsified-clause-entered
returns-in-Falsified-clause-entered c =
    IsEntered-same c.args.clauses.now c.args.trail.now.falses c.settle.new.trail.falses c.args.watches.now (Within-extends c.args.trail.now c.settle.new.trail c.in_ok-settle.ensures.propagates.extends) (omega (arith, c.requires.next, c.requires.there))

pub returns-in_ok-add-in-Satisfied-clause-entered :
    goal.returns-in_ok-add-in-Satisfied-clause-entered
returns-in_ok-add-in-Satisfied-clause-entered c =
    let satisfied : is_satisfied c.settle.new.trail.falses (clause_in c.args.clauses.now c.args.at) ≡ true = rw c.in-Satisfied.is at c.in_ok-settle.ensures.settled in
    let pair : c.ends.result ≡ ends_of (clause_in c.args.clauses.now c.args.at) = c.ends.ensures ∙ ap ends_of c.get.ensures in
    let lt : length c.args.watches.now.pairs < length c.args.clauses.now = omega (arith, c.requires.next, c.requires.there) in
    let some : 0 < length (clause_in c.args.clauses.now c.args.at) = satisfied-some c.settle.new.trail.falses (clause_in c.args.clauses.now c.args.at) satisfied in
    let first : is_false (clause_in c.args.clauses.now c.args.at) (ends_of (clause_in c.args.clauses.now c.args.at)).first ≡ true = ends-first (clause_in c.args.clauses.now c.args.at) some in
    let second : is_false (clause_in c.args.clauses.now c.args.at) (ends_of (clause_in c.args.clauses.now c.args.at)).second ≡ true = ends-second (clause_in c.args.clauses.now c.args.at) some in
    Added
    c.args.clauses.now
    c.args.trail.now.falses
    c.settle.new.trail.falses
    c.args.watches.now
    c.add.new.self
    c.args.at
    c.ends.result
    c.requires.next
    (Within-extends c.args.trail.now c.settle.new.trail c.in_ok-settle.ensures.propagates.extends)
    c.requires.there
    (rw pair (place-in c.args.trail.now.vars (length c.args.watches.now.lists) c.args.clauses.now c.args.at (ends_of (clause_in c.args.clauses.now c.args.at)).first c.requires.vars c.requires.places c.requires.there first))
    (rw pair (place-in c.args.trail.now.vars (length c.args.watches.now.lists) c.args.clauses.now c.args.at (ends_of (clause_in c.args.clauses.now c.args.at)).second c.requires.vars c.requires.places c.requires.there second))
    (rw pair first)
    (rw pair second)
    (inr (satisfied, pair))
    c.in_ok-add-in-Satisfied.ensures.lists
    c.in_ok-add-in-Satisfied.ensures.pairs

pub returns-in_ok-add-in-Left-clause-entered : goal.returns-in_ok-add-in-Left-clause-entered
returns-in_ok-add-in-Left-clause-entered c =
    let left : AreOpen c.settle.new.trail.falses (clause_in c.args.clauses.now c.args.at) c.in-Left.pair = rw c.in-Left.is at c.in_ok-settle.ensures.settled in
    Added
    c.args.clauses.now
    c.args.trail.now.falses
    c.settle.new.trail.falses
    c.args.watches.now
    c.add-in-Left.new.self
    c.args.at
    c.in-Left.pair
    c.requires.next
    (Within-extends c.args.trail.now c.settle.new.trail c.in_ok-settle.ensures.propagates.extends)
    c.requires.there
    (place-in c.args.trail.now.vars (length c.args.watches.now.lists) c.args.clauses.now c.args.at c.in-Left.pair.first c.requires.vars c.requires.places c.requires.there left.two.first_in)
    (place-in c.args.trail.now.vars (length c.args.watches.now.lists) c.args.clauses.now c.args.at c.in-Left.pair.second c.requires.vars c.requires.places c.requires.there left.two.second_in)
    left.two.first_in
    left.two.second_in
    (inl left)
    c.in_ok-add-in-Left.ensures.lists
    c.in_ok-add-in-Left.ensures.pairs
