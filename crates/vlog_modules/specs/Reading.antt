-- How texts are read: by the forms of the grammar, with one token of sight.
use Rattle.std.specs.Prelude.{ℕ, ◌==◌, List}
use Rattle.parsing.specs.declared.tall.Tall.{Tall}
use Rattle.parsing.specs.Forms.{part}
use Rattle.parsing.specs.Reading.{Parser, guarded, turns, scans}
use Rattle.vlog_rules.specs.declared.level.Sort.TheVariants as sort
use Rattle.vlog_rules.specs.Grammar.{V, firsts, comma_target, comma_port, always}
use Rattle.vlog_tokens.specs.Tokens.{Token}
use Rattle.vlog_syntax.specs.declared.module.Port.{Port}
use Rattle.vlog_syntax.specs.declared.module.Item.{Item}
use Rattle.vlog_syntax.specs.declared.stmt.Stmt.{Stmt}
use Rattle.vlog_syntax.specs.declared.stmt.Target.{Target}
use Rattle.vlog_expr.specs.Reading.{Reader, inner, form_at, read_by}

abbrev pub target_at : ℕ → Reader Target
target_at limit = inner limit sort.Target

abbrev pub stmt_at : ℕ → Reader Stmt
stmt_at limit = inner limit sort.Stmt

-- further targets, each behind a comma, behind those that are found
abbrev pub targets_at : ℕ → ℕ → Tall (List Target) → Reader (List Target)
targets_at below = turns V firsts (inner below) (below == 0) comma_target (form_at below comma_target)

-- a statement of a block, which needs a level
abbrev pub nested_at : ℕ → Reader Stmt
nested_at below = guarded V firsts (inner below) (below == 0) (part sort.Stmt) (form_at below (part sort.Stmt))

-- further statements of a block behind those that are found
abbrev pub statements_at : ℕ → ℕ → Tall (List Stmt) → Reader (List Stmt)
statements_at below = turns V firsts (inner below) (below == 0) (part sort.Stmt) (form_at below (part sort.Stmt))

-- further ports behind those that are found
abbrev pub more_ports : ℕ → List Port → Parser Token (List Port)
more_ports = scans V firsts (inner 256) comma_port (read_by comma_port)

abbrev pub more_items : ℕ → List Item → Parser Token (List Item)
more_items = scans V firsts (inner 256) always (read_by always)
