use Rattle.std.proofs.Common.{Some, None, sym, ap, ◌∙◌}
use Rattle.line_text.specs.Reading.{next}
use Rattle.line_text.proofs.Cutting.{lines_at_cut}
use Rattle.line_text.proofs.line.Lines.next.Goals as goal

pub returns-in-Some : goal.returns-in-Some
returns-in-Some c =
    ap next (sym c.self.view_is) ∙ ap next (lines_at_cut c.self.inside.line c.self.inside.rest.now (Some (c.in-Some.line.now, c.in-Some.rest.now)) c.in-Some.ensures)

pub returns-in-None : goal.returns-in-None
returns-in-None c = ap next (sym c.self.view_is) ∙ ap next (lines_at_cut c.self.inside.line c.self.inside.rest.now None c.in-None.ensures)
