use Rattle.std.proofs.Common.{sym, ap, ◌∙◌}
use Rattle.line_text.specs.Lines.{is_ended}
use Rattle.line_text.proofs.Cutting.{is_ended_at}
use Rattle.line_text.proofs.line.Lines.is_ended.Goals as goal

pub returns : goal.returns
returns c = c.is_empty.ensures ∙ sym (is_ended_at c.self.inside.line c.self.inside.rest.now) ∙ ap is_ended c.self.view_is
