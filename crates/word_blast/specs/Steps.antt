-- The builders that the loops take.
use Rattle.std.specs.Prelude.{ℕ, List}
use Rattle.aig_core.specs.Graph.{Graph, and_of}
use Rattle.word_blast.specs.declared.loops.Op.{Op}
use Rattle.word_blast.specs.declared.loops.Op.TheVariants.{And, Or, Xor}
use Rattle.word_blast.specs.declared.loops.Comparison.{Comparison}
use Rattle.word_blast.specs.declared.loops.Comparison.TheVariants.{Equal, NotBelow}
use Rattle.word_blast.specs.declared.shifts.Direction.{Direction}
use Rattle.word_blast.specs.declared.shifts.Direction.TheVariants.{Left, Right}
use Rattle.word_blast.specs.Bits.{or_of, xor_of}
use Rattle.word_blast.specs.Words.{equal_step, borrow_step, moved_up, moved_down}

abbrev pub gate_of : Op → Graph → ℕ → ℕ → Graph × ℕ
gate_of And = and_of
gate_of Or = or_of
gate_of Xor = xor_of

abbrev pub compare_of : Comparison → Graph → ℕ → ℕ × ℕ → Graph × ℕ
compare_of Equal = equal_step
compare_of NotBelow = borrow_step

abbrev pub move_of : Direction → ℕ → ℕ → List ℕ → List ℕ
move_of Left = moved_up
move_of Right = moved_down
