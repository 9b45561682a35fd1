-- Lines that were read before.
use Rattle.std.proofs.Common.{List, ◌++◌, Result, Ok, Err}
use Rattle.proof_lines.specs.Spelling.{PlainLine}
use Rattle.proof_lines.specs.declared.error.LratError.{LratError}

abbrev pub with_front : List PlainLine → Result (List PlainLine) LratError → Result (List PlainLine) LratError
with_front xs (Ok ys) = Ok (xs ++ ys)
with_front xs (Err e) = Err e
