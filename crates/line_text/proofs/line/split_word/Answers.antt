use Rattle.std.proofs.Common.{Some, None}
use Rattle.line_text.proofs.Cutting.{words_at_cut}
use Rattle.line_text.proofs.line.split_word.Goals as goal

pub returns-in-Some : goal.returns-in-Some
returns-in-Some c = words_at_cut _ (Some (c.in-Some.word.now, c.in-Some.rest.now)) c.in-Some.ensures

pub returns-in-None : goal.returns-in-None
returns-in-None c = words_at_cut _ None c.in-None.ensures
