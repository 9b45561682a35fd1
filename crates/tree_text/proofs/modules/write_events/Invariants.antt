use Rattle.std.proofs.Common.{codes, drop, map}
use Rattle.token_text.specs.Printing.{with_tokens}
use Rattle.tree_text.specs.Words.{between, event_words}
use Rattle.tree_text.proofs.Writing.{Separated}
use Rattle.tree_text.proofs.modules.write_events.Given as goal

abbrev pub invariant-loop-e : goal.invariant-loop-e
invariant-loop-e l = Separated event_words (codes "or") l.is_first l.out (drop l.e-index l.events) (with_tokens l.fn.out (between (codes "or") (map event_words l.events)))
