use Rattle.std.proofs.Common.{ℕ, ◌<◌, ◌≤◌, ◌+◌, take, get_or, List, length, arith, subst}
use Rattle.std.specs.Prelude.{All}
use Rattle.std.proofs.lemmas.List.{take_all}
use Rattle.std.proofs.lemmas.List.Elements.{All-more, All-weaker}
use Rattle.elab_flat.proofs.drivers.place_count.Goals as goal

wider : (xs : List ℕ) (i n m : ℕ) → i < length xs → n ≤ m → get_or xs i 0 < m → All (λ b. b < n) (take i xs) → All (λ b. b < m) (take (i + 1) xs)
wider xs i n m lt le last h = All-more (λ b. b < m) xs i 0 lt (All-weaker (λ b. b < n) (λ b. b < m) (λ b below. omega arith) (take i xs) h) last

pub loop-bit-preserved : goal.loop-bit-preserved
loop-bit-preserved c =
    wider c.args.registers.now c.loop-bit.bit-index c.loop-bit.count c.up_to-count.result c.loop-bit-test.true c.up_to-count.ensures.all c.up_to-count.ensures.one c.loop-bit.invariant

pub returns : goal.returns
returns c = subst (All (λ b. b < c.loop-bit.count)) (take_all c.loop-bit.bit-index c.args.registers.now c.loop-bit-test.false) c.loop-bit.invariant
