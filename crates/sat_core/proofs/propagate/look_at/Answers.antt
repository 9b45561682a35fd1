use Rattle.std.proofs.Common.{◌≡◌, ◌<◌, true, [], sym, ap, ◌∙◌, length, arith}
use Rattle.cnf_core.specs.Lrat.{is_false}
use Rattle.sat_core.specs.Trailed.{clause_in}
use Rattle.sat_core.specs.Watching.{IsOneOf, pair_at}
use Rattle.sat_core.proofs.Entries.{one-in, one-listed, variable-in}
use Rattle.sat_core.proofs.Propagations.{Within-extends}
use Rattle.sat_core.proofs.WatchPairs.{satisfied-has}
use Rattle.sat_core.proofs.propagate.look_at.Goals as goal

pub is_false-requires : goal.is_false-requires
is_false-requires c =
    let known : c.args.clause < length c.args.watches.now.pairs = omega (arith, c.len.ensures, c.if-clause-len.false) in
    let there : c.args.clause < length c.args.clauses.now = omega (arith, c.len-else-clause-len.ensures, c.if-clause-len-2.false) in
    let one : IsOneOf (pair_at c.args.watches.now.pairs c.args.clause) c.in-Some.other = rw c.pair.ensures at c.in-Some.ensures in
    let stands : is_false (clause_in c.args.clauses.now c.args.clause) c.in-Some.other ≡ true =
    one-in (clause_in c.args.clauses.now c.args.clause) (pair_at c.args.watches.now.pairs c.args.clause) c.args.watches.now.lists c.args.clause c.in-Some.other (c.requires.listed c.args.clause known) one in
    rw c.negated.ensures (variable-in c.args.trail.now.vars (clause_in c.args.clauses.now c.args.clause) c.in-Some.other (c.requires.vars c.args.clause [] there) stands)

pub returns-then-is_false-clause-look : goal.returns-then-is_false-clause-look
returns-then-is_false-clause-look c =
    let known : c.args.clause < length c.args.watches.now.pairs = omega (arith, c.len.ensures, c.if-clause-len.false) in
    let one : IsOneOf (pair_at c.args.watches.now.pairs c.args.clause) c.in-Some.other = rw c.pair.ensures at c.in-Some.ensures in
    let stands : is_false (clause_in c.args.clauses.now c.args.clause) c.in-Some.other ≡ true =
    one-in (clause_in c.args.clauses.now c.args.clause) (pair_at c.args.watches.now.pairs c.args.clause) c.args.watches.now.lists c.args.clause c.in-Some.other (c.requires.listed c.args.clause known) one in
    satisfied-has
    c.args.trail.now.falses
    (clause_in c.args.clauses.now c.args.clause)
    c.in-Some.other
    stands
    (ap (is_false c.args.trail.now.falses) (sym c.negated.ensures) ∙ sym c.is_false.ensures ∙ c.if-is_false.true)

pub turn-requires-clause-literal : goal.turn-requires-clause-literal
turn-requires-clause-literal c =
    Within-extends c.args.trail.now c.settle.new.trail c.in_ok-settle.ensures.propagates.extends c.args.literal c.requires.literal

pub turn-requires-clause-other_in : goal.turn-requires-clause-other_in
turn-requires-clause-other_in c =
    let known : c.args.clause < length c.args.watches.now.pairs = omega (arith, c.len.ensures, c.if-clause-len.false) in
    let one : IsOneOf (pair_at c.args.watches.now.pairs c.args.clause) c.in-Some.other = rw c.pair.ensures at c.in-Some.ensures in
    one-in (clause_in c.args.clauses.now c.args.clause) (pair_at c.args.watches.now.pairs c.args.clause) c.args.watches.now.lists c.args.clause c.in-Some.other (c.requires.listed c.args.clause known) one

pub turn-requires-clause-other_listed : goal.turn-requires-clause-other_listed
turn-requires-clause-other_listed c =
    let known : c.args.clause < length c.args.watches.now.pairs = omega (arith, c.len.ensures, c.if-clause-len.false) in
    let one : IsOneOf (pair_at c.args.watches.now.pairs c.args.clause) c.in-Some.other = rw c.pair.ensures at c.in-Some.ensures in
    one-listed (clause_in c.args.clauses.now c.args.clause) (pair_at c.args.watches.now.pairs c.args.clause) c.args.watches.now.lists c.args.clause c.in-Some.other (c.requires.listed c.args.clause known) one

pub turn-requires-clause-places : goal.turn-requires-clause-places
turn-requires-clause-places c = rw c.in_ok-settle.ensures.propagates.extends.vars c.requires.places
