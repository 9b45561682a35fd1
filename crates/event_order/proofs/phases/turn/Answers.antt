use Rattle.std.proofs.Common.{◌≡◌, length, map, arith, rules}
use Rattle.design_core.specs.declared.flat.Process.{Process}
use Rattle.design_core.specs.Settled.{is_clocked}
use Rattle.event_order.proofs.Turning.{turns_made}
use Rattle.event_order.proofs.phases.turn.Goals as goal

pub returns : goal.returns
returns c =
    let marked : c.mark_clocked.new.pending ≡ map (λ (p : Process). is_clocked p.kind) c.args.design.now.processes = search rules in
    let same : c.in_ok-settled.settled.items ≡ c.finish.new.values = search rules in
    let long : length c.finish-2.new.pending ≡ length c.args.design.now.processes = omega arith in
    record {
      turns = turns_made c.args.design.now c.args.number c.args.values.now c.args.pending.now c.new-waiting.result.items c.in_ok-middle.middle.number c.finish.new.values c.finish.new.pending c.finish.new.waiting.items c.in_ok-middle.middle.turns
          c.mark_clocked.new.pending c.in_ok-end.end.number c.finish-2.new.values c.finish-2.new.pending c.finish-2.new.waiting.items c.in_ok-end.end.turns c.in_ok-settled.settled.items
          c.new-waiting.ensures.items c.in_ok-middle.ensures.gone c.in_ok-middle.ensures.idle c.in_ok-middle.ensures.waiting
          marked same c.in_ok-end.ensures.gone c.in_ok-end.ensures.idle c.in_ok-end.ensures.waiting long;
    }
