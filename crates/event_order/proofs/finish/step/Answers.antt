use Rattle.std.proofs.Common.{◌<◌, length, vec_len, arith, rules}
use Rattle.event_order.proofs.Turning.{Ran, ran_below, ran_step, ran_work, updated_work, some_items}
use Rattle.event_order.proofs.finish.step.Goals as goal

pub returns-in_ok-run-in-Some-clause-waiting : goal.returns-in_ok-run-in-Some-clause-waiting
returns-in_ok-run-in-Some-clause-waiting c =
    let e = c.in_ok-run-in-Some.ensures in
    let lt : c.in-Some.k < length c.args.design.now.processes = omega (arith, c.in-Some.ensures) in
    let h : Ran c.args.design.now c.in-Some.k c.args.values.now c.args.pending.now c.args.waiting.now.items c.run.new.values c.run.new.pending c.run.new.waiting.items =
    record { values = e.values; pending = e.pending; waiting = e.waiting } in
    ran_below _ _ _ _ _ _ _ _ lt h c.requires.within c.requires.waiting

pub returns-in_ok-run-in-Some-clause-step : goal.returns-in_ok-run-in-Some-clause-step
returns-in_ok-run-in-Some-clause-step c =
    let e = c.in_ok-run-in-Some.ensures in
    let lt : c.in-Some.k < length c.args.design.now.processes = omega (arith, c.in-Some.ensures) in
    let h : Ran c.args.design.now c.in-Some.k c.args.values.now c.args.pending.now c.args.waiting.now.items c.run.new.values c.run.new.pending c.run.new.waiting.items =
    record { values = e.values; pending = e.pending; waiting = e.waiting } in
    ran_step _ _ _ _ _ _ _ _ lt h c.args.number c.next.result c.in-Some.ensures.1 c.in-Some.ensures.2 c.next.ensures

pub returns-in_ok-run-in-Some-clause-work : goal.returns-in_ok-run-in-Some-clause-work
returns-in_ok-run-in-Some-clause-work c =
    let e = c.in_ok-run-in-Some.ensures in
    let lt : c.in-Some.k < length c.args.design.now.processes = omega (arith, c.in-Some.ensures) in
    let h : Ran c.args.design.now c.in-Some.k c.args.values.now c.args.pending.now c.args.waiting.now.items c.run.new.values c.run.new.pending c.run.new.waiting.items =
    record { values = e.values; pending = e.pending; waiting = e.waiting } in
    ran_work _ _ _ _ _ _ _ _ lt h c.requires.pending c.in-Some.ensures.1

pub returns-else-is_empty-clause-work : goal.returns-else-is_empty-clause-work
returns-else-is_empty-clause-work c =
    updated_work c.args.design.now c.args.values.now c.update.new.values c.args.pending.now c.update.new.pending c.args.waiting.now.items c.update.new.waiting.items c.requires.pending c.in-None.ensures
    (some_items c.args.waiting.now.items c.is_empty.result (vec_len c.args.waiting.now) (search rules) c.is_empty.ensures c.if-is_empty.false) c.update.ensures.pending c.update.ensures.waiting
