use Rattle.cnf_core.specs.Lrat.{start}
use Rattle.clause_names.proofs.Whole.{lines_below, refuted}
use Rattle.clause_names.proofs.numbering.Numbered.proof.Goals as goal

pub named_lines-requires-clause-below : goal.named_lines-requires-clause-below
named_lines-requires-clause-below c =
    let r = c.requires.refutes in
    lines_below r.0 _ c.args.lines.now (start c.args.self.now.clauses) r.1 r.2

pub returns : goal.returns
returns c vars clauses h fits =
    let r = c.requires.refutes in
    refuted clauses c.args.self.now vars r.0 c.args.lines.now c.lines-lines.result.now c.in_ok-proof.proof h fits r.1 r.2 c.lines-lines.ensures c.in_ok-proof.ensures
