use Rattle.std.proofs.Common.{arith}
use Rattle.std.proofs.lemmas.Str.Pattern.{split_parts}
use Rattle.unr_engine.proofs.EntryWords.{cut_is}
use Rattle.unr_engine.proofs.options.cut_at_equals.Goals as goal

pub returns : goal.returns
returns c = cut_is c.args.word.now c.split_once.result (split_parts 61 c.args.word.now c.split_once.result c.split_once.ensures.cases (omega arith))
