use Rattle.vlog_tokens.proofs.Only.{only_answer, answer_slices}
use Rattle.vlog_tokens.proofs.divide.tokens.Goals as goal

pub returns-clause-only : goal.returns-clause-only
returns-clause-only c = only_answer c.args.text.now c.answered.result c.answered.ensures

pub returns-clause-slices : goal.returns-clause-slices
returns-clause-slices c = answer_slices c.args.text.now c.answered.result c.answered.ensures
