use Rattle.std.proofs.Common.{codes, map}
use Rattle.token_text.specs.Printing.{with_tokens}
use Rattle.tree_text.specs.Words.{between, event_words}
use Rattle.tree_text.proofs.Writing.{separated_more, separated_done}
use Rattle.tree_text.proofs.modules.write_events.Goals as goal

pub loop-e-preserved : goal.loop-e-preserved
loop-e-preserved c =
    separated_more event_words (codes "or") c.loop-e.is_first c.loop-e.out c.write_separator.new.out c.write_event.new.out (with_tokens c.args.out.now (between (codes "or") (map event_words c.args.events.now))) c.args.events.now c.loop-e.e-index c.e-item.result
    c.e-item.is c.loop-e-test.true c.in_ok-write_separator.ensures c.in_ok-write_event.ensures c.loop-e.invariant

pub returns : goal.returns
returns c =
    separated_done event_words (codes "or") c.loop-e.is_first c.loop-e.out (with_tokens c.args.out.now (between (codes "or") (map event_words c.args.events.now))) c.args.events.now c.loop-e.e-index c.loop-e-test.false c.loop-e.invariant
