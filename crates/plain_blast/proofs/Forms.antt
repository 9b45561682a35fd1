-- The definitions at a variant whose parts are boxed or listed.
use Rattle.std.proofs.Common.{◌≡◌, ℕ, ◌+◌, Bool, true, cond, List, [], ◌++◌, refl, sym, ap, ◌∙◌, arith}
use Rattle.std.specs.Prelude.{flat_map, Some}
use Rattle.std.specs.List.{sum_by}
use Rattle.std.proofs.lemmas.List.Sums.{sum_by-cons}
use Rattle.std.proofs.lemmas.List.{append-nil}
use denote.Hole.Carrier.{hidden}
use mathlib.Core.Former.{Count}
use Rattle.bit_exprs.specs.declared.forms.Expr.{Expr}
use Rattle.design_core.specs.declared.flat.Reset.{Reset}
use Rattle.design_core.specs.declared.flat.Stmt.{Stmt, Branch, Block, Row_of-Stmt, end_of-Stmt, more_of-Stmt, items-the_row-Stmt, items_hidden-the_row-Stmt-1}
use Rattle.design_core.specs.declared.flat.Stmt.TheVariants.{Block'}
use Rattle.design_core.specs.declared.flat.Stmt.TheBlock.{hidden-the_row-Stmt-0}
use Rattle.aig_core.specs.Graph.{Graph}
use Rattle.plain_blast.specs.Plain.{fork_of, choose_of, Wiring, wiring, past, run_of, run_all, run_each, active_of, reset_by}
use Rattle.plain_blast.specs.Assigned.{targets_of, all_targets}
use Rattle.plain_blast.specs.Cost.{different, fork_cost, stmt_cost, all_cost, arm_bits}

-- ---- statements

abbrev row_of : Stmt → (n : Count) × Row_of-Stmt n
row_of (Block' shape row) = (_, row)
row_of _ = (_, end_of-Stmt)

-- what a branch makes
abbrev pub branch_of : ℕ → Expr → Stmt → Stmt → Bool → List ℕ → ℕ → Wiring → Wiring
branch_of site test a b clocked settled path w =
    let f = fork_of test path (cond clocked settled w.targets) w.graph in
    let x = run_of a clocked settled f.1.then_path (wiring f.0 w.targets (past site f.1.then_path w.paths)) in
    let y = run_of b clocked settled f.1.else_path (wiring x.graph w.targets (past (site + 1) f.1.else_path x.paths)) in
    let m = choose_of y.graph f.1.test x.targets y.targets in
    wiring m.0 m.1 y.paths

pub run-Branch : (site : ℕ) (test : Expr) (a b : Stmt) (clocked : Bool) (settled : List ℕ) (path : ℕ) (w : Wiring) →
    run_of (Branch site test a b) clocked settled path w ≡ branch_of site test a b clocked settled path w
unfolding hidden-the_row-Stmt-0 hidden
run-Branch site test a b clocked settled path w = refl

-- what a reset makes
abbrev pub reset_of_arm : Reset → Stmt → List ℕ → Graph → List ℕ → Graph × List ℕ
reset_of_arm r a first g bits =
    let x = run_of a true first 1 (wiring g bits []) in
    choose_of x.graph (active_of r first) x.targets bits

pub reset-Branch : (r : Reset) (site : ℕ) (test : Expr) (a b : Stmt) (first : List ℕ) (g : Graph) (bits : List ℕ) → reset_by (Some r) (Branch site test a b) first g bits ≡ reset_of_arm r a first g bits
unfolding hidden-the_row-Stmt-0 hidden
reset-Branch r site test a b first g bits = refl

run_row : (n : _) (row : Row_of-Stmt n) (clocked : Bool) (settled : List ℕ) (path : ℕ) (w : Wiring) →
    run_all row clocked settled path w ≡ run_each (items-the_row-Stmt n row) clocked settled path w
run_row n end_of-Stmt clocked settled path w = refl
run_row n (more_of-Stmt s rest) clocked settled path w = run_row _ rest clocked settled path (run_of s clocked settled path w)

pub run-Block : (all : List Stmt) (clocked : Bool) (settled : List ℕ) (path : ℕ) (w : Wiring) →
    run_of (Block all) clocked settled path w ≡ run_each all clocked settled path w
run-Block all clocked settled path w =
    let row = row_of (Block all) in
    run_row row.0 row.1 clocked settled path w ∙ ap (λ ss. run_each ss clocked settled path w) (items_hidden-the_row-Stmt-1 all)

pub targets-Branch : (site : ℕ) (test : Expr) (a b : Stmt) → targets_of (Branch site test a b) ≡ targets_of a ++ targets_of b
unfolding hidden-the_row-Stmt-0 hidden
targets-Branch site test a b = λ j. append-nil (targets_of a) j ++ append-nil (targets_of b) j

targets_row : (n : _) (row : Row_of-Stmt n) → all_targets row ≡ flat_map targets_of (items-the_row-Stmt n row)
targets_row n end_of-Stmt = refl
targets_row n (more_of-Stmt s rest) = ap (λ ts. targets_of s ++ ts) (targets_row _ rest)

pub targets-Block : (all : List Stmt) → targets_of (Block all) ≡ flat_map targets_of all
targets-Block all =
    let row = row_of (Block all) in
    targets_row row.0 row.1 ∙ ap (flat_map targets_of) (items_hidden-the_row-Stmt-1 all)

no_more : (n : ℕ) → n + 0 ≡ n
no_more n = omega arith

pub cost-Branch : (site : ℕ) (test : Expr) (a b : Stmt) →
    stmt_cost (Branch site test a b) ≡ fork_cost test (targets_of a ++ targets_of b) + (stmt_cost a + stmt_cost b)
unfolding hidden-the_row-Stmt-0 hidden
cost-Branch site test a b = λ j. fork_cost test (append-nil (targets_of a) j ++ append-nil (targets_of b) j) + (no_more (stmt_cost a) j + no_more (stmt_cost b) j)

pub arm_bits-Branch : (site : ℕ) (test : Expr) (a b : Stmt) → arm_bits (Branch site test a b) ≡ different (targets_of a)
unfolding hidden-the_row-Stmt-0 hidden
arm_bits-Branch site test a b = ap different (append-nil (targets_of a))

cost_row : (n : _) (row : Row_of-Stmt n) → all_cost row ≡ sum_by stmt_cost (items-the_row-Stmt n row)
cost_row n end_of-Stmt = refl
cost_row n (more_of-Stmt s rest) = ap (λ n. stmt_cost s + n) (cost_row _ rest) ∙ sym (sum_by-cons stmt_cost s (items-the_row-Stmt _ rest))

pub cost-Block : (all : List Stmt) → stmt_cost (Block all) ≡ sum_by stmt_cost all
cost-Block all =
    let row = row_of (Block all) in
    cost_row row.0 row.1 ∙ ap (sum_by stmt_cost) (items_hidden-the_row-Stmt-1 all)
