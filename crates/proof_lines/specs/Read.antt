-- What the functions that read lines return.
use Rattle.std.specs.Prelude.{◌≡◌, List, map, Result, Ok, Err, ⊤}
use Rattle.cnf_core.specs.declared.Line.{Line}
use Rattle.line_text.specs.Lines.{Source}
use Rattle.proof_lines.specs.Spelling.{PlainLine, plain}
use Rattle.proof_lines.specs.declared.error.LratError.{LratError}
use Rattle.proof_lines.specs.declared.error.LratError.TheVariants.{BadLine, RatHint, Memory}

-- this fault, unless memory ran out
abbrev pub IsFault : LratError → LratError → Type 0
IsFault fault (BadLine line) = fault ≡ BadLine line
IsFault fault (RatHint line) = fault ≡ RatHint line
IsFault fault Memory = ⊤

abbrev pub Fails : {X : Type 0} → LratError → Result X LratError → Type 0
Fails (BadLine line) read = read ≡ Err (BadLine line)
Fails (RatHint line) read = read ≡ Err (RatHint line)
Fails Memory read = ⊤

-- the line that was read, with what is left
abbrev pub IsNext : Source → Result Line LratError → Result (PlainLine × Source) LratError → Type 0
IsNext left (Ok line) read = read ≡ Ok (plain line, left)
IsNext left (Err e) read = Fails e read

-- the lines that were read
abbrev pub AreRead : Result (List Line) LratError → Result (List PlainLine) LratError → Type 0
AreRead (Ok lines) read = read ≡ Ok (map plain lines)
AreRead (Err e) read = Fails e read
