-- The definitions at a variant whose parts are boxed or listed.
use Rattle.std.proofs.Common.{◌≡◌, ℕ, ◌+◌, ◌<◌, nat_eq, Bool, cond, List, [], ◌∷◌, ◌++◌, refl, ap, ◌∙◌, subst}
use Rattle.std.specs.Prelude.{All}
use Rattle.std.proofs.lemmas.List.{append-nil}
use Rattle.std.proofs.lemmas.List.Elements.{All-nil, All-cons}
use denote.Hole.Carrier.{hidden}
use Rattle.bit_exprs.specs.declared.forms.Expr.{Expr}
use Rattle.bit_exprs.specs.Values.{value_of}
use Rattle.bit_exprs.specs.Formed.{IsFormed}
use Rattle.design_core.specs.declared.flat.Stmt.{Stmt, Branch, Block, Row_of-Stmt, end_of-Stmt, more_of-Stmt, items-the_row-Stmt, items_hidden-the_row-Stmt-1}
use Rattle.design_core.specs.declared.flat.Stmt.TheVariants.{Block'}
use mathlib.Core.Former.{Count}
use Rattle.design_core.specs.declared.flat.Stmt.TheBlock.{hidden-the_row-Stmt-0}
use Rattle.design_core.specs.Exec.{Effect, past, joined, exec, exec_all, exec_each}
use Rattle.design_core.specs.Bounds.{IsWithin, AreWithin}

pub within-Branch : (site : ℕ) (test : Expr) (x y : Stmt) (n m : ℕ) → IsWithin (Branch site test x y) n m → (site + 1 < m) × IsFormed test n × IsWithin x n m × IsWithin y n m
unfolding hidden-the_row-Stmt-0 hidden
within-Branch site test x y n m h = (h.0, h.1, h.2.0, h.3.0)

past_joined : (sites : List ℕ) (e : Effect) → past sites (joined e (record { values = e.values; updates = []; marks = [] })) ≡ past sites e
past_joined sites e = λ j. record { values = e.values; updates = append-nil e.updates j; marks = sites ++ append-nil e.marks j }

pub exec-Branch : (site : ℕ) (test : Expr) (x y : Stmt) (v : List Bool) →
    exec (Branch site test x y) v ≡ cond (nat_eq (value_of test v) 0) (past ((site + 1) ∷ []) (exec y v)) (past (site ∷ []) (exec x v))
unfolding hidden-the_row-Stmt-0 hidden
exec-Branch site test x y v =
    λ j. cond (nat_eq (value_of test v) 0) (past_joined ((site + 1) ∷ []) (exec y v) j) (past_joined (site ∷ []) (exec x v) j)

exec_row : (n : _) (row : Row_of-Stmt n) (v : List Bool) → exec_all row v ≡ exec_each (items-the_row-Stmt n row) v
exec_row n end_of-Stmt v = refl
exec_row n (more_of-Stmt s rest) v = ap (joined (exec s v)) (exec_row _ rest (exec s v).values)

abbrev row_of : Stmt → (n : Count) × Row_of-Stmt n
row_of (Block' shape row) = (_, row)
row_of _ = (_, end_of-Stmt)

pub exec-Block : (all : List Stmt) (v : List Bool) → exec (Block all) v ≡ exec_each all v
exec-Block all v =
    let row = row_of (Block all) in
    exec_row row.0 row.1 v ∙ ap (λ ss. exec_each ss v) (items_hidden-the_row-Stmt-1 all)

within_row : (n : _) (row : Row_of-Stmt n) (bits sites : ℕ) → AreWithin row bits sites → All (λ s. IsWithin s bits sites) (items-the_row-Stmt n row)
within_row n end_of-Stmt bits sites h = All-nil (λ s. IsWithin s bits sites)
within_row n (more_of-Stmt s rest) bits sites h = All-cons (λ s. IsWithin s bits sites) s _ h.0 (within_row _ rest bits sites h.1)

pub within-Block : (all : List Stmt) (bits sites : ℕ) → IsWithin (Block all) bits sites → All (λ s. IsWithin s bits sites) all
within-Block all bits sites h =
    let row = row_of (Block all) in
    subst (All (λ s. IsWithin s bits sites)) (items_hidden-the_row-Stmt-1 all) (within_row row.0 row.1 bits sites h)
