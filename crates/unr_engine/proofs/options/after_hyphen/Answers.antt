use Rattle.std.proofs.Common.{arith}
use Rattle.std.proofs.lemmas.Str.Pattern.{strip_prefix_char}
use Rattle.unr_engine.proofs.EntryWords.{after_hyphen_is}
use Rattle.unr_engine.proofs.options.after_hyphen.Goals as goal

pub returns : goal.returns
returns c = after_hyphen_is c.args.word.now c.strip_prefix.result (strip_prefix_char 45 c.args.word.now c.strip_prefix.result c.strip_prefix.ensures.cases (omega arith))
