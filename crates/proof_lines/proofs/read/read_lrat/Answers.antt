use Rattle.proof_lines.proofs.TextLaws.{law_answers, law_gives}
use Rattle.proof_lines.proofs.read.read_lrat.Goals as goal

pub returns-clause-answers : goal.returns-clause-answers
returns-clause-answers c = law_answers c.args.text.now c.all_lines.result c.all_lines.ensures

pub returns-clause-exact : goal.returns-clause-exact
returns-clause-exact c = law_gives c.args.text.now c.all_lines.result c.all_lines.ensures
