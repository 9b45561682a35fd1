use Rattle.std.proofs.Common.{◌≡◌, ℕ, ◌+◌, ◌<◌, List, ◌∷◌, length, get_or, map, drop, sym, ap, ◌∙◌, subst, arith}
use Rattle.std.specs.List.{All}
use Rattle.std.proofs.lemmas.List.{drop_more, drop_all, length-map}
use Rattle.aig_core.specs.Graph.{negation, IsLiteral}
use Rattle.word_blast.proofs.Combinators.{joined, joined_all, negated_exist}
use Rattle.word_blast.proofs.loops.negated_word.Goals as goal

more : (xs : List ℕ) (i : ℕ) → i < length xs → map negation (drop i xs) ≡ negation (get_or xs i 0) ∷ map negation (drop (i + 1) xs)
more xs i h = ap (map negation) (drop_more xs i 0 h)

pub loop-i-preserved : goal.loop-i-preserved
loop-i-preserved c = record {
  done = joined _ _ _ _ _ c.negated.result c.in_ok-push.ensures.items
      (more c.args.a.now c.loop-i.i (omega arith) ∙ ap (λ (x : ℕ). x ∷ map negation (drop (c.loop-i.i + 1) c.args.a.now)) (sym c.negated.ensures)) c.loop-i.invariant.done;
}

pub returns-clause-literals : goal.returns-clause-literals
returns-clause-literals c = joined_all _ _ _ (ap (map negation) (drop_all c.loop-i.i c.args.a.now (omega arith))) c.loop-i.invariant.done

pub returns-clause-exist : goal.returns-clause-exist
returns-clause-exist c = subst (All (IsLiteral c.args.aig.now)) (sym (returns-clause-literals c)) (negated_exist c.args.aig.now c.args.a.now c.requires)

pub returns-clause-width : goal.returns-clause-width
returns-clause-width c = ap length (returns-clause-literals c) ∙ length-map c.args.a.now negation
