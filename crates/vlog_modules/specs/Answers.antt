-- What `parse` answers: the one tree of the text, or why there is none.
use Rattle.std.specs.Prelude.{◌≡◌, ◌≤◌, ◌<◌, ℕ, List, length, Result, Ok, Err}
use Rattle.vlog_rules.specs.Grammar.{IsSource}
use Rattle.vlog_tokens.specs.Places.{start, past}
use Rattle.vlog_tokens.specs.Tokens.{Token}
use Rattle.vlog_tokens.specs.Directives.{LexAnswers}
use Rattle.vlog_tokens.specs.declared.error.LexError.{LexError}
use Rattle.vlog_tokens.specs.declared.error.LexError.TheVariants as lex_error
use Rattle.vlog_syntax.specs.declared.module.Tree.{Tree}
use Rattle.vlog_expr.specs.declared.error.ParseError.{ParseError}
use Rattle.vlog_expr.specs.declared.error.ParseError.TheVariants as parse_error
use Rattle.vlog_expr.specs.Answers.{Answers}
use Rattle.vlog_modules.specs.declared.error.TextError.{TextError}
use Rattle.vlog_modules.specs.declared.error.TextError.TheVariants as text_error

-- What its tokens answer, of a text that isn't too long and divides into tokens. The place behind the text is that of the tokens' end.
abbrev pub TokensAnswer : List ℕ → Result Tree ParseError → Type 0
TokensAnswer text result = (length text ≤ 4194304) × (tokens : List Token) × LexAnswers text (Ok tokens) × Answers IsSource tokens (past start text) result

-- The tree that the text has. Or it is too long, or doesn't divide into tokens, or its tokens are refused. Or memory ran out, which is no other's cause.
abbrev pub TextAnswers : List ℕ → Result Tree TextError → Type 0
TextAnswers text (Ok tree) = TokensAnswer text (Ok tree)
TextAnswers text (Err (text_error.TooLong length')) = (4194304 < length text) × (length' ≡ 4194305)
TextAnswers text (Err (text_error.Lex lex_error.Memory)) = ⊥
TextAnswers text (Err (text_error.Lex error)) = (length text ≤ 4194304) × LexAnswers text (Err error)
TextAnswers text (Err (text_error.Parse parse_error.Memory)) = ⊥
TextAnswers text (Err (text_error.Parse error)) = TokensAnswer text (Err error)
TextAnswers text (Err text_error.Memory) = Unit {0}

-- ---- how the errors of the parts become those of a text

abbrev pub IsLexical : LexError → TextError → Type 0
IsLexical lex_error.Memory error = error ≡ text_error.Memory
IsLexical cause error = error ≡ text_error.Lex cause

abbrev pub IsGrammatical : ParseError → TextError → Type 0
IsGrammatical parse_error.Memory error = error ≡ text_error.Memory
IsGrammatical cause error = error ≡ text_error.Parse cause
