use Rattle.std.proofs.Common.{◌≡◌, ◌++◌, drop}
use Rattle.std.specs.List.{zip}
use Rattle.aig_core.specs.Graph.{Extends}
use Rattle.word_blast.specs.Bits.{mux_of}
use Rattle.word_blast.specs.Words.{each_of, at_pair}
use Rattle.word_blast.proofs.loops.choose.Given as goal

abbrev pub invariant-loop-i : goal.invariant-loop-i
invariant-loop-i l = record {
  graph : (each_of (at_pair (λ h x y. mux_of h l.c x y)) l.aig (drop l.i (zip l.a l.b))).0 ≡ (each_of (at_pair (λ h x y. mux_of h l.c x y)) l.fn.aig (zip l.a l.b)).0;
  literals : l.bits.items ++ (each_of (at_pair (λ h x y. mux_of h l.c x y)) l.aig (drop l.i (zip l.a l.b))).1 ≡ (each_of (at_pair (λ h x y. mux_of h l.c x y)) l.fn.aig (zip l.a l.b)).1;
  kept : Extends l.fn.aig l.aig;
}
