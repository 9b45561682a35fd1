use Rattle.std.proofs.Common.{sym}
use Rattle.word_core.proofs.WordLaws.{odd-is}
use Rattle.word_core.proofs.word.Word.odd.Goals as goal

pub returns : goal.returns
returns c = sym (odd-is c.args.self.width c.args.self.bits c.args.self.fits)
