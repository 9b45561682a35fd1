use Rattle.line_text.specs.Lines.{words}
use Rattle.proof_lines.proofs.LineLaws.{read_answers}
use Rattle.proof_lines.proofs.read.read_line.Goals as goal

pub returns-clause-answers : goal.returns-clause-answers
returns-clause-answers c = read_answers (words c.args.line.now) c.lrat.result c.lrat.ensures
