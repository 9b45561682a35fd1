-- The words of a tree: the bytes of its tokens, in order (IEEE 1364-2001 annex A).
use Rattle.std.specs.Prelude.{ℕ, Bool, true, false, List, [], ◌∷◌, ◌++◌, map, Option, Some, None, option_map, codes}
use Rattle.vlog_syntax.specs.declared.expr.UnaryOp.{UnaryOp}
use Rattle.vlog_syntax.specs.declared.expr.UnaryOp.TheVariants as unary
use Rattle.vlog_syntax.specs.declared.expr.BinaryOp.{BinaryOp}
use Rattle.vlog_syntax.specs.declared.expr.BinaryOp.TheVariants as binary
use Rattle.vlog_syntax.specs.declared.expr.PartKind.{PartKind}
use Rattle.vlog_syntax.specs.declared.expr.PartKind.TheVariants as part
use Rattle.vlog_syntax.specs.declared.expr.Expr.{Expr}
use Rattle.vlog_syntax.specs.declared.expr.Expr.TheOpen.{Expr-F, Select-F, Operand-F}
use Rattle.vlog_syntax.specs.declared.expr.Expr.TheFolds.{fold-Expr}
use Rattle.vlog_syntax.specs.declared.expr.Select.{Select, fold-Select}
use Rattle.vlog_syntax.specs.declared.expr.Operand.{Operand, fold-Operand}
use Rattle.vlog_syntax.specs.declared.stmt.Target.{Target}
use Rattle.vlog_syntax.specs.declared.stmt.Target.TheOpen.{Target-F}
use Rattle.vlog_syntax.specs.declared.stmt.Target.TheFolds.{fold-Target}
use Rattle.vlog_syntax.specs.declared.stmt.Stmt.{Stmt}
use Rattle.vlog_syntax.specs.declared.stmt.Stmt.TheOpen.{Stmt-F}
use Rattle.vlog_syntax.specs.declared.stmt.Stmt.TheFolds.{fold-Stmt}
use Rattle.vlog_syntax.specs.declared.module.Direction.{Direction}
use Rattle.vlog_syntax.specs.declared.module.Direction.TheVariants as direction
use Rattle.vlog_syntax.specs.declared.module.NetKind.{NetKind}
use Rattle.vlog_syntax.specs.declared.module.NetKind.TheVariants as kind
use Rattle.vlog_syntax.specs.declared.module.Edge.{Edge}
use Rattle.vlog_syntax.specs.declared.module.Edge.TheVariants as edge
use Rattle.vlog_syntax.specs.declared.module.Event.{Event}
use Rattle.vlog_syntax.specs.declared.module.Range.{Range}
use Rattle.vlog_syntax.specs.declared.module.Port.{Port}
use Rattle.vlog_syntax.specs.declared.module.Item.{Item}
use Rattle.vlog_syntax.specs.declared.module.Item.TheVariants as item
use Rattle.vlog_syntax.specs.declared.module.Always.{Always}
use Rattle.vlog_syntax.specs.declared.module.Module.{Module}
use Rattle.vlog_syntax.specs.declared.module.Tree.{Tree}

-- the bytes of tokens, in order
abbrev pub Words : Type 0
Words = List (List ℕ)

-- ---- lists of parts

-- one behind the other
abbrev pub in_a_row : List Words → Words
in_a_row [] = []
in_a_row (x ∷ xs) = x ++ in_a_row xs

-- each behind this word
abbrev pub each_behind : List ℕ → List Words → Words
each_behind w [] = []
each_behind w (x ∷ xs) = w ∷ (x ++ each_behind w xs)

-- with this word between neighbours
abbrev pub between : List ℕ → List Words → Words
between w [] = []
between w (x ∷ xs) = x ++ each_behind w xs

-- what separates a part from the one before it, which the first has not
abbrev pub before : List ℕ → Bool → Words
before separator true = []
before separator false = separator ∷ []

-- nothing, where it is left out
abbrev pub if_there : Option Words → Words
if_there None = []
if_there (Some x) = x

-- behind this word, where it isn't left out
abbrev pub behind_if_there : List ℕ → Option Words → Words
behind_if_there w None = []
behind_if_there w (Some x) = w ∷ x

abbrev pub parenthesized : Words → Words
parenthesized x = codes "(" ∷ (x ++ codes ")" ∷ [])

abbrev pub bracketed : Words → Words
bracketed x = codes "[" ∷ (x ++ codes "]" ∷ [])

abbrev pub braced : Words → Words
braced x = codes "{" ∷ (x ++ codes "}" ∷ [])

-- ---- operators

abbrev pub unary_text : UnaryOp → List ℕ
unary_text unary.Plus = codes "+"
unary_text unary.Minus = codes "-"
unary_text unary.LogicalNot = codes "!"
unary_text unary.Not = codes "~"
unary_text unary.And = codes "&"
unary_text unary.Nand = codes "~&"
unary_text unary.Or = codes "|"
unary_text unary.Nor = codes "~|"
unary_text unary.Xor = codes "^"
unary_text unary.TildeXor = codes "~^"
unary_text unary.XorTilde = codes "^~"

abbrev pub binary_text : BinaryOp → List ℕ
binary_text binary.Times = codes "*"
binary_text binary.Divide = codes "/"
binary_text binary.Remainder = codes "%"
binary_text binary.Plus = codes "+"
binary_text binary.Minus = codes "-"
binary_text binary.ShiftLeft = codes "<<"
binary_text binary.ShiftRight = codes ">>"
binary_text binary.Less = codes "<"
binary_text binary.AtMost = codes "<="
binary_text binary.Greater = codes ">"
binary_text binary.AtLeast = codes ">="
binary_text binary.Equal = codes "=="
binary_text binary.NotEqual = codes "!="
binary_text binary.And = codes "&"
binary_text binary.Xor = codes "^"
binary_text binary.XorTilde = codes "^~"
binary_text binary.TildeXor = codes "~^"
binary_text binary.Or = codes "|"
binary_text binary.LogicalAnd = codes "&&"
binary_text binary.LogicalOr = codes "||"

abbrev pub part_text : PartKind → List ℕ
part_text part.Bounds = codes ":"
part_text part.Upwards = codes "+:"
part_text part.Downwards = codes "-:"

-- ---- expressions (clause 4)

-- an expression, given the words of its parts
abbrev pub expr_step : Expr-F Words Words Words → Words
expr_step (Expr-F.Number n) = n.text ∷ []
expr_step (Expr-F.Name x select) = x.name ∷ if_there select
expr_step (Expr-F.Paren at inner) = parenthesized inner
expr_step (Expr-F.Concat at first others) = braced (first ++ each_behind (codes ",") others)
expr_step (Expr-F.Repeat at count values) = braced (count ++ braced (between (codes ",") values))
expr_step (Expr-F.Unary at op value) = unary_text op ∷ value
expr_step (Expr-F.Row at first others) = first ++ in_a_row others
expr_step (Expr-F.Choice at condition yes' no') = condition ++ codes "?" ∷ (yes' ++ codes ":" ∷ no')

abbrev pub select_step : Select-F Words Words Words → Words
select_step (Select-F.Bit at index) = bracketed index
select_step (Select-F.Part at left kind right) = bracketed (left ++ part_text kind ∷ right)

abbrev pub operand_step : Operand-F Words Words Words → Words
operand_step o = binary_text o.op ∷ o.value

abbrev pub expr_words : Expr → Words
expr_words = fold-Expr Words Words Words expr_step select_step operand_step

abbrev pub select_words : Select → Words
select_words = fold-Select Words Words Words expr_step select_step operand_step

abbrev pub operand_words : Operand → Words
operand_words = fold-Operand Words Words Words expr_step select_step operand_step

-- ---- statements (clauses 6 and 9)

abbrev pub target_step : Target-F Words → Words
target_step (Target-F.Name x select) = x.name ∷ if_there (option_map select_words select)
target_step (Target-F.Concat at parts) = braced (between (codes ",") parts)

abbrev pub target_words : Target → Words
target_words = fold-Target Words target_step

abbrev pub stmt_step : Stmt-F Words → Words
stmt_step (Stmt-F.Nonblocking at target value) = target_words target ++ codes "<=" ∷ (expr_words value ++ codes ";" ∷ [])
stmt_step (Stmt-F.If at condition yes' no') = codes "if" ∷ (parenthesized (expr_words condition) ++ (yes' ++ behind_if_there (codes "else") no'))
stmt_step (Stmt-F.Block at statements) = codes "begin" ∷ (in_a_row statements ++ codes "end" ∷ [])

abbrev pub stmt_words : Stmt → Words
stmt_words = fold-Stmt Words stmt_step

-- ---- modules (clauses 9.7, 9.9 and 12)

abbrev pub direction_text : Direction → List ℕ
direction_text direction.Input = codes "input"
direction_text direction.Output = codes "output"

abbrev pub kind_text : NetKind → List ℕ
kind_text kind.Wire = codes "wire"
kind_text kind.Reg = codes "reg"

abbrev pub edge_text : Edge → List ℕ
edge_text edge.Posedge = codes "posedge"

abbrev pub range_words : Range → Words
range_words r = bracketed (expr_words r.left ++ codes ":" ∷ expr_words r.right)

abbrev pub port_words : Port → Words
port_words p =
    direction_text p.direction ∷ (if_there (option_map (λ k. kind_text k ∷ []) p.kind)
    ++ (if_there (option_map range_words p.range) ++ p.name.name ∷ behind_if_there (codes "=") (option_map expr_words p.value)))

abbrev pub event_words : Event → Words
event_words e = if_there (option_map (λ k. edge_text k ∷ []) e.edge) ++ e.name.name ∷ []

abbrev pub always_words : Always → Words
always_words a = codes "always" ∷ codes "@" ∷ (parenthesized (between (codes "or") (map event_words a.events)) ++ stmt_words a.body)

abbrev pub item_words : Item → Words
item_words (item.Always a) = always_words a

abbrev pub module_words : Module → Words
module_words m =
    codes "module" ∷ m.name.name ∷ (parenthesized (between (codes ",") (map port_words m.ports))
    ++ codes ";" ∷ (in_a_row (map item_words m.items) ++ codes "endmodule" ∷ []))

-- the words of a text's tree
unfoldable pub words_of : Tree → Words
words_of t = in_a_row (map module_words t.modules)
