-- The errors of the parts are those of the text.
use Rattle.std.proofs.Common.{◌≤◌, ℕ, List, length, Ok, Err, sym, subst}
use Rattle.vlog_rules.specs.Grammar.{IsSource}
use Rattle.vlog_tokens.specs.Places.{start, past}
use Rattle.vlog_tokens.specs.Tokens.{Token}
use Rattle.vlog_tokens.specs.Directives.{LexAnswers}
use Rattle.vlog_tokens.specs.declared.error.LexError.{LexError}
use Rattle.vlog_tokens.specs.declared.error.LexError.TheVariants as lex_error
use Rattle.vlog_expr.specs.declared.error.ParseError.{ParseError}
use Rattle.vlog_expr.specs.declared.error.ParseError.TheVariants as parse_error
use Rattle.vlog_expr.specs.Answers.{Answers}
use Rattle.vlog_modules.specs.declared.error.TextError.{TextError}
use Rattle.vlog_modules.specs.Answers.{TextAnswers, IsLexical, IsGrammatical}

pub lexical_answers : (text : List ℕ) (cause : LexError) (error : TextError) → length text ≤ 4194304 → LexAnswers text (Err cause) → IsLexical cause error → TextAnswers text (Err error)
lexical_answers text lex_error.Memory error le a q = subst (λ z. TextAnswers text (Err z)) (sym q) tt
lexical_answers text (lex_error.BadDirective at) error le a q = subst (λ z. TextAnswers text (Err z)) (sym q) (le, a)
lexical_answers text (lex_error.BadChar at) error le a q = subst (λ z. TextAnswers text (Err z)) (sym q) (le, a)
lexical_answers text (lex_error.BadNumber at) error le a q = subst (λ z. TextAnswers text (Err z)) (sym q) (le, a)
lexical_answers text (lex_error.Unclosed at) error le a q = subst (λ z. TextAnswers text (Err z)) (sym q) (le, a)

pub grammatical_answers : (text : List ℕ) (tokens : List Token) (cause : ParseError) (error : TextError) → length text ≤ 4194304 → LexAnswers text (Ok tokens) → Answers IsSource tokens (past start text) (Err cause) → IsGrammatical cause error → TextAnswers text (Err error)
grammatical_answers text tokens parse_error.Memory error le l a q = subst (λ z. TextAnswers text (Err z)) (sym q) tt
grammatical_answers text tokens (parse_error.Expected at what) error le l a q = subst (λ z. TextAnswers text (Err z)) (sym q) (le, tokens, l, a)
grammatical_answers text tokens (parse_error.NotInProfile at) error le l a q = subst (λ z. TextAnswers text (Err z)) (sym q) (le, tokens, l, a)
grammatical_answers text tokens (parse_error.TooDeep at) error le l a q = subst (λ z. TextAnswers text (Err z)) (sym q) (le, tokens, l, a)
