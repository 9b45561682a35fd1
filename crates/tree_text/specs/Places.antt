-- Trees that are the same but for places: they are equal once each place is the same one.
use Rattle.std.specs.Prelude.{map, option_map}
use Rattle.word_core.specs.declared.place.Place.{Place}
use Rattle.vlog_syntax.specs.declared.expr.Ident.{Ident}
use Rattle.vlog_syntax.specs.declared.expr.Expr.{Expr}
use Rattle.vlog_syntax.specs.declared.expr.Expr.TheVariants as expr
use Rattle.vlog_syntax.specs.declared.expr.Expr.TheOpen.{Expr-F, Select-F, Operand-F}
use Rattle.vlog_syntax.specs.declared.expr.Expr.TheFolds.{fold-Expr}
use Rattle.vlog_syntax.specs.declared.expr.Select.{Select, fold-Select}
use Rattle.vlog_syntax.specs.declared.expr.Select.TheVariants as select
use Rattle.vlog_syntax.specs.declared.expr.Operand.{Operand, fold-Operand}
use Rattle.vlog_syntax.specs.declared.stmt.Target.{Target}
use Rattle.vlog_syntax.specs.declared.stmt.Target.TheVariants as target
use Rattle.vlog_syntax.specs.declared.stmt.Target.TheOpen.{Target-F}
use Rattle.vlog_syntax.specs.declared.stmt.Target.TheFolds.{fold-Target}
use Rattle.vlog_syntax.specs.declared.stmt.Stmt.{Stmt}
use Rattle.vlog_syntax.specs.declared.stmt.Stmt.TheVariants as stmt
use Rattle.vlog_syntax.specs.declared.stmt.Stmt.TheOpen.{Stmt-F}
use Rattle.vlog_syntax.specs.declared.stmt.Stmt.TheFolds.{fold-Stmt}
use Rattle.vlog_syntax.specs.declared.module.Event.{Event}
use Rattle.vlog_syntax.specs.declared.module.Range.{Range}
use Rattle.vlog_syntax.specs.declared.module.Port.{Port}
use Rattle.vlog_syntax.specs.declared.module.Item.{Item}
use Rattle.vlog_syntax.specs.declared.module.Item.TheVariants as item
use Rattle.vlog_syntax.specs.declared.module.Module.{Module}
use Rattle.vlog_syntax.specs.declared.module.Tree.{Tree}

-- the one place, which is that of no token
abbrev pub nowhere : Place
nowhere = record { line = 0; col = 0 }

abbrev pub bare_ident : Ident → Ident
bare_ident x = record { at = nowhere; name = x.name }

-- ---- expressions

abbrev pub expr_step : Expr-F Expr Select Operand → Expr
expr_step (Expr-F.Number n) = expr.Number (record { at = nowhere; text = n.text })
expr_step (Expr-F.Name x which) = expr.Name (bare_ident x) which
expr_step (Expr-F.Paren at inner) = expr.Paren nowhere inner
expr_step (Expr-F.Concat at first others) = expr.Concat nowhere first others
expr_step (Expr-F.Repeat at count values) = expr.Repeat nowhere count values
expr_step (Expr-F.Unary at op value) = expr.Unary nowhere op value
expr_step (Expr-F.Row at first others) = expr.Row nowhere first others
expr_step (Expr-F.Choice at condition yes' no') = expr.Choice nowhere condition yes' no'

abbrev pub select_step : Select-F Expr Select Operand → Select
select_step (Select-F.Bit at index) = select.Bit nowhere index
select_step (Select-F.Part at left kind right) = select.Part nowhere left kind right

abbrev pub operand_step : Operand-F Expr Select Operand → Operand
operand_step o = record { op = o.op; value = o.value }

abbrev pub bare_expr : Expr → Expr
bare_expr = fold-Expr Expr Select Operand expr_step select_step operand_step

abbrev pub bare_select : Select → Select
bare_select = fold-Select Expr Select Operand expr_step select_step operand_step

abbrev pub bare_operand : Operand → Operand
bare_operand = fold-Operand Expr Select Operand expr_step select_step operand_step

-- ---- statements

abbrev pub target_step : Target-F Target → Target
target_step (Target-F.Name x which) = target.Name (bare_ident x) (option_map bare_select which)
target_step (Target-F.Concat at parts) = target.Concat nowhere parts

abbrev pub bare_target : Target → Target
bare_target = fold-Target Target target_step

abbrev pub stmt_step : Stmt-F Stmt → Stmt
stmt_step (Stmt-F.Nonblocking at left value) = stmt.Nonblocking nowhere (bare_target left) (bare_expr value)
stmt_step (Stmt-F.If at condition yes' no') = stmt.If nowhere (bare_expr condition) yes' no'
stmt_step (Stmt-F.Block at statements) = stmt.Block nowhere statements

abbrev pub bare_stmt : Stmt → Stmt
bare_stmt = fold-Stmt Stmt stmt_step

-- ---- modules

abbrev pub bare_range : Range → Range
bare_range r = record { at = nowhere; left = bare_expr r.left; right = bare_expr r.right }

abbrev pub bare_port : Port → Port
bare_port p = record { at = nowhere; direction = p.direction; kind = p.kind; range = option_map bare_range p.range; name = bare_ident p.name; value = option_map bare_expr p.value }

abbrev pub bare_event : Event → Event
bare_event e = record { at = nowhere; edge = e.edge; name = bare_ident e.name }

abbrev pub bare_item : Item → Item
bare_item (item.Always a) = item.Always (record { at = nowhere; events = map bare_event a.events; body = bare_stmt a.body })

abbrev pub bare_module : Module → Module
bare_module m = record { at = nowhere; name = bare_ident m.name; ports = map bare_port m.ports; items = map bare_item m.items }

-- the tree, each of whose places is the same one
unfoldable pub without_places : Tree → Tree
without_places t = record { modules = map bare_module t.modules }
