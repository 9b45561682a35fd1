-- What is known of the desk and the sink in memory: all, and when their calls fail.
use Rattle.std.specs.Prelude.{◌≡◌, ℕ, ◌+◌, List, ◌∷◌, ◌++◌, length, Some, None, Option, Result, Ok, Err, Vec, IsSome}
use Rattle.std.specs.declared.alloc.Global.{Global}
use Rattle.unr_io.specs.declared.desk.Kind.{Kind}
use Rattle.unr_io.specs.declared.desk.DeskError.{DeskError}
use Rattle.unr_io.specs.declared.desk.DeskError.TheVariants.{Failed, Memory}
use Rattle.unr_io.specs.declared.sink.SinkError.{SinkError}
use Rattle.unr_io.specs.declared.sink.SinkError.TheVariants as sink_errors
use Rattle.unr_io.specs.declared.memory.Fail.{Fail}
use Rattle.unr_io.specs.declared.memory.MemDesk.{MemDesk}
use Rattle.unr_io.specs.declared.memory.MemSink.{MemSink}
use Rattle.unr_io.specs.Desk.{DeskState, file_at, counted}
use Rattle.unr_io.specs.Sink.{SinkState}
use Rattle.unr_io.specs.Entries.{calls_of}
use Rattle.unr_io.specs.Plan.{planned, loadable, kept_of}

abbrev pub files_on : MemDesk → List (List ℕ × List ℕ)
files_on m = m.files

abbrev pub calls_on : MemDesk → List (Kind × List ℕ)
calls_on m = calls_of m.calls.items

abbrev pub desk_plan : MemDesk → List Fail
desk_plan m = m.fails.items

abbrev pub sink_plan : MemSink → List Fail
sink_plan m = m.fails.items

abbrev pub puts_so_far : MemSink → ℕ
puts_so_far m = m.puts

abbrev pub desk_state : MemDesk → DeskState
desk_state m = record { faults = m.faults; told = Some (record { files = files_on m; calls = calls_on m }) }

abbrev pub sink_state : MemSink → SinkState
sink_state m = record { faults = m.faults; refusals = m.refusals; written = Some m.bytes.items }

-- How many bytes the next call keeps, where it is to fail.
abbrev pub next_fault : MemDesk → Option ℕ
next_fault m = planned m.fails.items (length m.calls.items + 1)

-- A load fails where that is planned or the file is missing, and is then counted.
abbrev pub LoadsAsPlanned : List ℕ → ℕ → Result (Vec ℕ Global) DeskError → MemDesk → MemDesk → Type 0
LoadsAsPlanned name max (Ok bytes) was is = (loadable (next_fault was) (file_at was.files name) max ≡ Some bytes.items) × (is.faults ≡ was.faults)
LoadsAsPlanned name max (Err Failed) was is = (loadable (next_fault was) (file_at was.files name) max ≡ None) × (is.faults ≡ counted was.faults)
LoadsAsPlanned name max (Err Memory) was is = is.faults ≡ was.faults

-- A store fails where that is planned, and is then counted. What is kept of the bytes goes before the other files.
abbrev pub StoresAsPlanned : List ℕ → List ℕ → Result Unit DeskError → MemDesk → MemDesk → Type 0
StoresAsPlanned name bytes (Ok done) was is =
    (next_fault was ≡ None) × (is.files ≡ (name, bytes) ∷ was.files) × (is.faults ≡ was.faults)
StoresAsPlanned name bytes (Err Failed) was is =
    IsSome (next_fault was) × (is.files ≡ (name, kept_of (next_fault was) bytes) ∷ was.files) × (is.faults ≡ counted was.faults)
StoresAsPlanned name bytes (Err Memory) was is = is.faults ≡ was.faults

-- How many bytes the next put keeps, where it is to fail.
abbrev pub next_put_fault : MemSink → Option ℕ
next_put_fault m = planned m.fails.items (counted m.puts)

-- A put fails where that is planned, and appends what is kept. One that memory refuses appends nothing and has no number.
abbrev pub PutsAsPlanned : List ℕ → Result Unit SinkError → MemSink → MemSink → Type 0
PutsAsPlanned bytes (Ok done) was is =
    (next_put_fault was ≡ None) × (is.puts ≡ counted was.puts) × (is.faults ≡ was.faults) × (is.refusals ≡ was.refusals)
PutsAsPlanned bytes (Err sink_errors.Failed) was is =
    IsSome (next_put_fault was) × (is.bytes.items ≡ was.bytes.items ++ kept_of (next_put_fault was) bytes)
    × (is.puts ≡ counted was.puts) × (is.faults ≡ counted was.faults) × (is.refusals ≡ was.refusals)
PutsAsPlanned bytes (Err sink_errors.Memory) was is =
    (is.bytes.items ≡ was.bytes.items) × (is.puts ≡ was.puts) × (is.faults ≡ was.faults) × (is.refusals ≡ counted was.refusals)
