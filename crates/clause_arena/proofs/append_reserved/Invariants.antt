use Rattle.std.proofs.Common.{◌≡◌, ◌+◌, ◌++◌, take, vec_len, vec_capacity}
use Rattle.clause_arena.proofs.append_reserved.Given as goal

abbrev pub invariant-loop-literal : goal.invariant-loop-literal
invariant-loop-literal l =
    (l.lits.items ≡ l.fn.lits.items ++ take l.literal-index l.clause)
    × (vec_len l.lits ≡ vec_len l.fn.lits + l.literal-index)
    × (vec_capacity l.lits ≡ vec_capacity l.fn.lits)
