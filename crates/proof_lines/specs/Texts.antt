-- What a sink that writes lines as text does.
use Rattle.std.specs.Prelude.{◌≡◌, ℕ, ◌≤◌, List, take, None, Result, IsErrOf, OnOk, OnErr}
use Rattle.unr_io.specs.Desk.{Rose}
use Rattle.unr_io.specs.Sink.{SinkState as Written, appended}
use Rattle.unr_io.specs.declared.sink.SinkError.{SinkError}
use Rattle.unr_io.specs.declared.sink.SinkError.TheVariants.{Failed}
use Rattle.proof_lines.specs.Sinks.{SinkState}

-- a sink of lines that tells none, and fails as often as the one behind it
abbrev pub silent_over : Written → SinkState
silent_over written = record { faults = written.faults; told = None }

-- the text was appended, or after an error a front of it, and a failure has a cause
pub record Writes {T : Type 0} (text : List ℕ) (result : Result T SinkError) (before now : Written) : Type 0 where
  pub whole : OnOk result (now.written ≡ appended before.written text)
  pub front : OnErr result ((kept : ℕ) × (now.written ≡ appended before.written (take kept text)))
  pub later : before.faults ≤ now.faults
  pub failed : IsErrOf result Failed → Rose before.faults now.faults
