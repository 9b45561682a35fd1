-- The tables of the code are those of the definitions.
use Rattle.std.proofs.Common.{◌≡◌, refl, map}
use Rattle.vlog_tokens.specs.declared.word.TheConstants.{KEYWORDS, MARKS}
use Rattle.vlog_tokens.specs.Words.{keywords, marks}

pub keywords_are : map (λ entry. (entry.0.now, entry.1)) KEYWORDS ≡ keywords
unfolding keywords
keywords_are = refl

pub marks_are : map (λ entry. (entry.0.now, entry.1)) MARKS ≡ marks
unfolding marks
marks_are = refl
