-- How tokens are read: by the forms of the grammar, with one token of sight.
use Rattle.std.specs.Prelude.{ℕ, ◌+◌, ◌==◌, max, nat_lt, List, [], ◌∷◌, Ok, if◌then◌else◌}
use Rattle.parsing.specs.declared.tall.Tall.{Tall}
use Rattle.parsing.specs.Forms.{Form, Rule}
use Rattle.parsing.specs.Reading.{Parser, stands, begins, first, after, expected, too_deep, and_then, read, read_rule, read_part, turns, scan}
use Rattle.vlog_rules.specs.declared.level.Rows.{Rows}
use Rattle.vlog_rules.specs.declared.level.Level.{Level}
use Rattle.vlog_rules.specs.declared.level.Sort.{Sort}
use Rattle.vlog_rules.specs.declared.level.Sort.TheVariants as sort
use Rattle.vlog_rules.specs.Grammar.{V, part_of, rules, firsts, operand, comma_expr}
use Rattle.vlog_tokens.specs.declared.word.Word.{Word}
use Rattle.vlog_tokens.specs.Tokens.{Token}
use Rattle.vlog_syntax.specs.declared.expr.Expr.{Expr}
use Rattle.vlog_syntax.specs.declared.expr.Operand.{Operand}

-- what going over a token of this word gives
abbrev pub passed : Word → Parser Token (Unit {0})
passed v i = if stands V v i then Ok (tt, after V i) else expected i

-- ---- parts that nest, read with their heights

abbrev pub Reader : Type 0 → Type 0
Reader A = Parser Token (Tall A)

-- a part of a sort within so many levels
unfoldable pub inner : ℕ → (s : Sort) → Reader (part_of s)
inner = read_part V firsts rules

abbrev pub expr_at : ℕ → Level → Reader Expr
expr_at limit k = inner limit (sort.Expr k)

-- a form in a node that has so many levels below it
abbrev pub form_at : {A : Type 0} → ℕ → Form V A → Reader A
form_at below = read V firsts (inner below) (below == 0)

abbrev pub rule_at : {A : Type 0} → ℕ → Rule V A → Reader A
rule_at below = read_rule V firsts (inner below) below

-- a row or a choice, once its first part is read
abbrev pub behind_first : {A : Type 0} → ℕ → Form V A → (Expr → A → Expr) → Tall Expr → Reader Expr
behind_first below a f x j = if begins V (first V firsts a) j
    then (if nat_lt below x.height then too_deep j else and_then (form_at below a j) (λ y k. Ok (record { tree = f x.tree y.tree; height = max x.height y.height + 1 }, k)))
    else Ok (x, j)

-- further operands of a row behind those that are found
abbrev pub operands_at : ℕ → Rows → ℕ → Tall (List Operand) → Reader (List Operand)
operands_at below k = turns V firsts (inner below) (below == 0) (operand k) (form_at below (operand k))

-- further expressions, each behind a comma, behind those that are found
abbrev pub commas_at : ℕ → ℕ → Tall (List Expr) → Reader (List Expr)
commas_at below = turns V firsts (inner below) (below == 0) comma_expr (form_at below comma_expr)

-- ---- what stands around them

-- a form whose parts have all the levels
abbrev pub read_by : {A : Type 0} → Form V A → Parser Token A
read_by f = scan V firsts (inner 256) f

-- all was read
abbrev pub at_end : {A : Type 0} → A → Parser Token A
at_end x [] = Ok (x, [])
at_end x (t ∷ ts) = expected (t ∷ ts)

unfoldable pub all_read : {A : Type 0} → Form V A → Parser Token A
all_read f i = and_then (read_by f i) (λ x j. at_end x j)
