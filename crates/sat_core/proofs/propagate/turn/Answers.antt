use Rattle.std.proofs.Common.{◌≡◌, ◌<◌, false, sym, ◌∙◌, length}
use Rattle.cnf_core.specs.Literal.{same_literal}
use Rattle.sat_core.specs.Assigned.{place_of}
use Rattle.sat_core.specs.Trailed.{clause_in}
use Rattle.sat_core.specs.Watching.{AreOpen}
use Rattle.sat_core.specs.declared.watches.Pair.{Pair}
use Rattle.sat_core.proofs.Entries.{place-in, Turn-first, Turn-second, Turn-both}
use Rattle.sat_core.proofs.Sets.{same-is}
use Rattle.sat_core.proofs.WatchPairs.{IsPair-apart}
use Rattle.sat_core.proofs.propagate.turn.Goals as goal

pub list-requires : goal.list-requires
list-requires c = place-in c.args.trail.now.vars (length c.args.watches.now.lists) c.args.clauses.now c.args.clause c.args.left.second c.requires.vars c.requires.places c.requires.there c.requires.left.two.second_in

pub list-requires-then-is_false : goal.list-requires-then-is_false
list-requires-then-is_false c = place-in c.args.trail.now.vars (length c.args.watches.now.lists) c.args.clauses.now c.args.clause c.args.left.first c.requires.vars c.requires.places c.requires.there c.requires.left.two.first_in

pub list-requires-then-is_false-2 : goal.list-requires-then-is_false-2
list-requires-then-is_false-2 c =
    place-in
    c.args.trail.now.vars
    (length c.list-then-is_false.new.self.lists)
    c.args.clauses.now
    c.args.clause
    c.args.left.second
    c.requires.vars
    (c.in_ok-list-2.ensures.places ∙ c.requires.places)
    c.requires.there
    c.requires.left.two.second_in

pub list-requires-else-is_false : goal.list-requires-else-is_false
list-requires-else-is_false c = place-in c.args.trail.now.vars (length c.args.watches.now.lists) c.args.clauses.now c.args.clause c.args.left.first c.requires.vars c.requires.places c.requires.there c.requires.left.two.first_in

pub returns-in_ok-list-clause-rewatches : goal.returns-in_ok-list-clause-rewatches
returns-in_ok-list-clause-rewatches c =
    let second : place_of c.args.left.second < length c.args.watches.now.lists =
    place-in c.args.trail.now.vars (length c.args.watches.now.lists) c.args.clauses.now c.args.clause c.args.left.second c.requires.vars c.requires.places c.requires.there c.requires.left.two.second_in in
    let same : c.args.left.first ≡ c.args.other = same-is c.args.left.first c.args.other (sym c.is_same.ensures ∙ c.if-is_same.true) in
    rw
    (c.set.ensures, c.in_ok-list.ensures.ok, c.in_ok-list.ensures.pairs)
    (Turn-first c.args.clauses.now c.args.trail.now.falses c.args.watches.now c.args.clause c.args.other c.args.left second c.requires.known c.requires.left same c.requires.other_listed)

pub returns-in_ok-list-3-clause-rewatches : goal.returns-in_ok-list-3-clause-rewatches
returns-in_ok-list-3-clause-rewatches c =
    let first : place_of c.args.left.first < length c.args.watches.now.lists =
    place-in c.args.trail.now.vars (length c.args.watches.now.lists) c.args.clauses.now c.args.clause c.args.left.first c.requires.vars c.requires.places c.requires.there c.requires.left.two.first_in in
    let second : place_of c.args.left.second < length c.args.watches.now.lists =
    place-in c.args.trail.now.vars (length c.args.watches.now.lists) c.args.clauses.now c.args.clause c.args.left.second c.requires.vars c.requires.places c.requires.there c.requires.left.two.second_in in
    rw
    (c.set-then-is_false.ensures, c.in_ok-list-3.ensures.ok, c.in_ok-list-3.ensures.pairs, c.in_ok-list-2.ensures.ok, c.in_ok-list-2.ensures.pairs)
    (Turn-both c.args.clauses.now c.args.trail.now.falses c.args.watches.now c.args.clause c.args.left first second c.requires.known c.requires.left)

pub returns-in_ok-list-4-clause-rewatches : goal.returns-in_ok-list-4-clause-rewatches
returns-in_ok-list-4-clause-rewatches c =
    let first : place_of c.args.left.first < length c.args.watches.now.lists =
    place-in c.args.trail.now.vars (length c.args.watches.now.lists) c.args.clauses.now c.args.clause c.args.left.first c.requires.vars c.requires.places c.requires.there c.requires.left.two.first_in in
    let pair : Pair = record { first = c.args.left.first; second = c.args.other } in
    let apart : same_literal c.args.left.first c.args.other ≡ false = sym c.is_same.ensures ∙ c.if-is_same.false in
    let left : AreOpen c.args.trail.now.falses (clause_in c.args.clauses.now c.args.clause) (record { first = c.args.left.first; second = c.args.other }) = record {
      two = IsPair-apart (clause_in c.args.clauses.now c.args.clause) (record { first = c.args.left.first; second = c.args.other }) c.requires.left.two.first_in c.requires.other_in apart;
      first_open = c.requires.left.first_open;
      second_open = sym c.is_false.ensures ∙ c.if-is_false.false;
    } in
    rw
    (c.set-else-is_false.ensures, c.in_ok-list-4.ensures.ok, c.in_ok-list-4.ensures.pairs)
    (Turn-second c.args.clauses.now c.args.trail.now.falses c.args.watches.now c.args.clause (record { first = c.args.left.first; second = c.args.other }) first c.requires.known left c.requires.other_listed)
