use Rattle.std.proofs.Common.{◌≡◌, ℕ, List, Option, Some, None, map}
use Rattle.std.specs.Prelude.{MatchOption}
use Rattle.cnf_core.specs.Literal.{Literal}
use Rattle.cnf_core.specs.Lrat.{Refutes, start}
use Rattle.cnf_core.specs.declared.Line.{Line}
use Rattle.bit_system.specs.ProofLines.{ProofLine, seen}
use Rattle.bit_system.specs.Accepted.{IsRefutedBy}
use Rattle.ladder_check.specs.declared.fault.QueryFault.{QueryFault}
use Rattle.ladder_check.specs.Faults.{FailsBy, FailsAs}
use Rattle.ladder_check.proofs.proof.proof_fault.Goals as goal

-- what is known of lines is known of the proof that says them
said :
    (vars : ℕ) (clauses : List (List Literal)) (lines : List Line) (proof : List ProofLine) → map seen lines ≡ proof →
    (o : Option QueryFault) → MatchOption o (Refutes vars clauses lines) (FailsBy vars (start clauses) lines) →
    MatchOption o (IsRefutedBy vars clauses proof) (FailsAs vars clauses proof)
said vars clauses lines proof e None h = record { lines = lines; said = e; refutes = h }
said vars clauses lines proof e (Some f) h = record { lines = lines; said = e; fails = h }

pub returns-clause-fault : goal.returns-clause-fault
returns-clause-fault c =
    said c.args.checker.now.vars c.args.clauses.now c.lines.result.now c.args.proof.now c.lines.ensures c.in_ok-fault.fault c.in_ok-fault.ensures.fault
