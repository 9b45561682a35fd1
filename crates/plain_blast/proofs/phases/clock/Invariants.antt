use Rattle.std.proofs.Common.{◌≡◌, All, length, drop}
use Rattle.aig_core.specs.Graph.{IsLiteral, Extends}
use Rattle.plain_blast.specs.Plain.{clocked_of, wiring}
use Rattle.plain_blast.specs.Exist.{Exist}
use Rattle.plain_blast.proofs.phases.clock.Given as goal

abbrev pub invariant-loop-p : goal.invariant-loop-p
invariant-loop-p l = record {
  rest : clocked_of (drop l.p-index l.processes) l.settled (wiring l.aig l.next l.paths.items) ≡ clocked_of l.processes l.settled (wiring l.initial.aig l.initial.next l.initial.paths.items);
  exist : Exist (wiring l.aig l.next l.paths.items);
  settled_exist : All (IsLiteral l.aig) l.settled;
  long : length l.next ≡ length l.initial.next;
  kept : Extends l.initial.aig l.aig;
}
