use Rattle.std.proofs.Common.{◌≡◌, ◌-◌, drop, length}
use Rattle.word_core.specs.Words.{bits_of}
use Rattle.bit_exprs.specs.Updates.{written, perform}
use Rattle.expr_value.proofs.writes.write_bits.Given as goal

abbrev pub invariant-loop-bit : goal.invariant-loop-bit
invariant-loop-bit l =
    perform (written (drop l.bit-index l.bits) (bits_of (length l.bits - l.bit-index) l.rest)) l.out ≡ perform (written l.bits (bits_of (length l.bits) l.number)) l.initial.out
