-- Statements, form by form: what holds of every one, and what a statement of each form becomes.
use Rattle.std.proofs.Common.{◌≡◌, ℕ, ◌+◌, List, [], ◌∷◌, None, Some, true, map, sym, ap, ◌∙◌, subst}
use Rattle.std.specs.Prelude.{option_map, All}
use Rattle.std.proofs.lemmas.List.Elements.{All-nil, All-cons}
use Rattle.word_core.specs.declared.place.Place.{Place}
use Rattle.vlog_syntax.specs.declared.expr.Expr as wide
use Rattle.vlog_syntax.specs.declared.stmt.Target as wide_target
use Rattle.vlog_syntax.specs.declared.stmt.Stmt.{Stmt, If, Block, Nonblocking, roll-Stmt, map-Stmt}
use Rattle.vlog_syntax.specs.declared.stmt.Stmt.TheOpen.{Stmt-F}
use Rattle.vlog_syntax.specs.declared.stmt.Stmt.TheFolds.{fold-roll-Stmt, ind-Stmt}
use Rattle.vlog_syntax.specs.declared.stmt.Stmt.TheVariants.{rolls-If, rolls-Block, rolls-Nonblocking}
use Rattle.bit_exprs.specs.declared.forms.Expr.{Expr}
use Rattle.bit_exprs.specs.declared.forms.Target.{Target}
use Rattle.design_core.specs.declared.flat.Stmt as flat
use Rattle.expr_elab.specs.declared.built.Built.{Built}
use Rattle.expr_elab.specs.Options.{and_then}
use Rattle.expr_elab.specs.Vectors.{Scope}
use Rattle.expr_elab.specs.Elaboration.{built_of}
use Rattle.elab_flat.specs.declared.bodies.Numbers.{Numbers}
use Rattle.elab_flat.specs.Bodies.{total, assignments_step, assignments_in, branches_step, branches_in, Numbered, followed_by, or_nothing, in_turn, assignment_of, stmt_step, stmt_of}
use Rattle.elab_flat.proofs.Inverses.{mapped_from, made_from, behind}

-- ---- every statement

-- the values of a list of values with proofs
with_proofs : {X : Type 0} (P : X → Type 0) (ys : List ((x : X) × P x)) → All P (map (λ e. e.0) ys)
with_proofs P [] = All-nil P
with_proofs P (y ∷ ys) = All-cons P y.0 (map (λ e. e.0) ys) y.1 (with_proofs P ys)

pub record StmtForms (P : Stmt → Type 0) : Type 0 where
  pub assigns : (at : Place) (t : wide_target.Target) (v : wide.Expr) → P (Nonblocking at t v)
  pub alone : (at : Place) (c : wide.Expr) (a : Stmt) → P a → P (If at c a None)
  pub branch : (at : Place) (c : wide.Expr) (a b : Stmt) → P a → P b → P (If at c a (Some b))
  pub block : (at : Place) (ss : List Stmt) → All P ss → P (Block at ss)

module _ (P : Stmt → Type 0) (k : StmtForms P) where
  layer : (x : Stmt-F Stmt) (y : Stmt-F ((s : Stmt) × P s)) → map-Stmt ((s : Stmt) × P s) Stmt (λ e. e.0) y ≡ x → P (roll-Stmt x)
  layer x (Stmt-F.Nonblocking at t v) is = subst (λ z. P (roll-Stmt z)) is (subst P (sym (rolls-Nonblocking at t v)) (k.assigns at t v))
  layer x (Stmt-F.If at c a None) is = subst (λ z. P (roll-Stmt z)) is (subst P (sym (rolls-If at c a.0 None)) (k.alone at c a.0 a.1))
  layer x (Stmt-F.If at c a (Some b)) is = subst (λ z. P (roll-Stmt z)) is (subst P (sym (rolls-If at c a.0 (Some b.0))) (k.branch at c a.0 b.0 a.1 b.1))
  layer x (Stmt-F.Block at ss) is =
      subst (λ z. P (roll-Stmt z)) is (subst P (sym (rolls-Block at (map (λ e. e.0) ss))) (k.block at (map (λ e. e.0) ss) (with_proofs P ss)))

  pub every_stmt : (s : Stmt) → P s
  every_stmt = ind-Stmt P layer

-- ---- counts

pub assignments-Nonblocking : (at : Place) (t : wide_target.Target) (v : wide.Expr) → assignments_in (Nonblocking at t v) ≡ 1
assignments-Nonblocking at t v = ap assignments_in (sym (rolls-Nonblocking at t v)) ∙ fold-roll-Stmt ℕ assignments_step (Stmt-F.Nonblocking at t v)

pub assignments-alone : (at : Place) (c : wide.Expr) (a : Stmt) → assignments_in (If at c a None) ≡ assignments_in a + 0
assignments-alone at c a = ap assignments_in (sym (rolls-If at c a None)) ∙ fold-roll-Stmt ℕ assignments_step (Stmt-F.If at c a None)

pub assignments-branch : (at : Place) (c : wide.Expr) (a b : Stmt) → assignments_in (If at c a (Some b)) ≡ assignments_in a + assignments_in b
assignments-branch at c a b = ap assignments_in (sym (rolls-If at c a (Some b))) ∙ fold-roll-Stmt ℕ assignments_step (Stmt-F.If at c a (Some b))

pub assignments-Block : (at : Place) (ss : List Stmt) → assignments_in (Block at ss) ≡ total (map assignments_in ss)
assignments-Block at ss = ap assignments_in (sym (rolls-Block at ss)) ∙ fold-roll-Stmt ℕ assignments_step (Stmt-F.Block at ss)

pub branches-Nonblocking : (at : Place) (t : wide_target.Target) (v : wide.Expr) → branches_in (Nonblocking at t v) ≡ 0
branches-Nonblocking at t v = ap branches_in (sym (rolls-Nonblocking at t v)) ∙ fold-roll-Stmt ℕ branches_step (Stmt-F.Nonblocking at t v)

pub branches-alone : (at : Place) (c : wide.Expr) (a : Stmt) → branches_in (If at c a None) ≡ 1 + branches_in a + 0
branches-alone at c a = ap branches_in (sym (rolls-If at c a None)) ∙ fold-roll-Stmt ℕ branches_step (Stmt-F.If at c a None)

pub branches-branch : (at : Place) (c : wide.Expr) (a b : Stmt) → branches_in (If at c a (Some b)) ≡ 1 + branches_in a + branches_in b
branches-branch at c a b = ap branches_in (sym (rolls-If at c a (Some b))) ∙ fold-roll-Stmt ℕ branches_step (Stmt-F.If at c a (Some b))

pub branches-Block : (at : Place) (ss : List Stmt) → branches_in (Block at ss) ≡ total (map branches_in ss)
branches-Block at ss = ap branches_in (sym (rolls-Block at ss)) ∙ fold-roll-Stmt ℕ branches_step (Stmt-F.Block at ss)

-- ---- what statements become

module _ (scope : Scope) where
  at_roll : (x : Stmt-F Stmt) (n : Numbers) → stmt_of scope (roll-Stmt x) n ≡ stmt_step scope (map-Stmt Stmt (Numbered flat.Stmt) (stmt_of scope) x) n
  at_roll x n = ap (λ f. f n) (fold-roll-Stmt (Numbered flat.Stmt) (stmt_step scope) x)

  pub stmt-Nonblocking : (at : Place) (t : wide_target.Target) (v : wide.Expr) (n : Numbers) → stmt_of scope (Nonblocking at t v) n ≡ stmt_step scope (Stmt-F.Nonblocking at t v) n
  stmt-Nonblocking at t v n = ap (λ s. stmt_of scope s n) (sym (rolls-Nonblocking at t v)) ∙ at_roll (Stmt-F.Nonblocking at t v) n

  pub stmt-alone : (at : Place) (c : wide.Expr) (a : Stmt) (n : Numbers) → stmt_of scope (If at c a None) n ≡ stmt_step scope (Stmt-F.If at c (stmt_of scope a) None) n
  stmt-alone at c a n = ap (λ s. stmt_of scope s n) (sym (rolls-If at c a None)) ∙ at_roll (Stmt-F.If at c a None) n

  pub stmt-branch : (at : Place) (c : wide.Expr) (a b : Stmt) (n : Numbers) →
      stmt_of scope (If at c a (Some b)) n ≡ stmt_step scope (Stmt-F.If at c (stmt_of scope a) (Some (stmt_of scope b))) n
  stmt-branch at c a b n = ap (λ s. stmt_of scope s n) (sym (rolls-If at c a (Some b))) ∙ at_roll (Stmt-F.If at c a (Some b)) n

  pub stmt-Block : (at : Place) (ss : List Stmt) (n : Numbers) → stmt_of scope (Block at ss) n ≡ stmt_step scope (Stmt-F.Block at (map (stmt_of scope) ss)) n
  stmt-Block at ss n = ap (λ s. stmt_of scope s n) (sym (rolls-Block at ss)) ∙ at_roll (Stmt-F.Block at ss) n

  -- ---- what is known of one that is built

  -- an assignment that is built, with its parts
  pub record Assigned (t : wide_target.Target) (v : wide.Expr) (n : Numbers) (x : flat.Stmt × Numbers) : Type 0 where
    pub parts : Target × Expr
    pub built : assignment_of scope t v ≡ Some parts
    pub is : (flat.Assign (Some n.site) true parts.0 parts.1, record { site = n.site + 1; arm = n.arm }) ≡ x

  pub assigned : (at : Place) (t : wide_target.Target) (v : wide.Expr) (n : Numbers) (x : flat.Stmt × Numbers) → stmt_of scope (Nonblocking at t v) n ≡ Some x → Assigned t v n x
  assigned at t v n x h =
      let r = mapped_from (λ (parts : Target × Expr). (flat.Assign (Some n.site) true parts.0 parts.1, record { site = n.site + 1; arm = n.arm })) (assignment_of scope t v) x
      (sym (stmt-Nonblocking at t v n) ∙ h) in
      record { parts = r.0; built = r.1; is = r.2 }

  -- a branch that is built, with its condition and its arms
  pub record Branched (c : wide.Expr) (then' else' : Numbered flat.Stmt) (n : Numbers) (x : flat.Stmt × Numbers) : Type 0 where
    pub test : Built
    pub tested : built_of scope c ≡ Some test
    pub first : flat.Stmt × Numbers
    pub is_first : then' (record { site = n.site; arm = n.arm + 2 }) ≡ Some first
    pub second : flat.Stmt × Numbers
    pub is_second : else' first.1 ≡ Some second
    pub is : (flat.Branch n.arm test.expr first.0 second.0, second.1) ≡ x

  branched : (c : wide.Expr) (then' else' : Numbered flat.Stmt) (n : Numbers) (x : flat.Stmt × Numbers) →
      and_then (λ (k : Built). followed_by (then' (record { site = n.site; arm = n.arm + 2 }))
      (λ first next. option_map (λ second. (flat.Branch n.arm k.expr first second.0, second.1)) (else' next))) (built_of scope c) ≡ Some x → Branched c then' else' n x
  branched c then' else' n x h =
      let inner : Numbers = record { site = n.site; arm = n.arm + 2 } in
      let k = made_from (λ (k : Built). followed_by (then' inner) (λ first next. option_map (λ second. (flat.Branch n.arm k.expr first second.0, second.1)) (else' next))) (built_of scope c) x h in
      let a = behind (then' inner) (λ first next. option_map (λ second. (flat.Branch n.arm k.0.expr first second.0, second.1)) (else' next)) x k.2 in
      let b = mapped_from (λ second. (flat.Branch n.arm k.0.expr a.0.0 second.0, second.1)) (else' a.0.1) x a.2 in
      record { test = k.0; tested = k.1; first = a.0; is_first = a.1; second = b.0; is_second = b.1; is = b.2 }

  pub branched_alone : (at : Place) (c : wide.Expr) (a : Stmt) (n : Numbers) (x : flat.Stmt × Numbers) → stmt_of scope (If at c a None) n ≡ Some x →
      Branched c (stmt_of scope a) (or_nothing None) n x
  branched_alone at c a n x h =
      branched c (stmt_of scope a) (or_nothing None) n x (sym (stmt-alone at c a n) ∙ h)

  pub branched_both : (at : Place) (c : wide.Expr) (a b : Stmt) (n : Numbers) (x : flat.Stmt × Numbers) → stmt_of scope (If at c a (Some b)) n ≡ Some x →
      Branched c (stmt_of scope a) (stmt_of scope b) n x
  branched_both at c a b n x h =
      branched c (stmt_of scope a) (stmt_of scope b) n x (sym (stmt-branch at c a b n) ∙ h)

  -- a block that is built, with its statements
  pub blocked : (at : Place) (ss : List Stmt) (n : Numbers) (x : flat.Stmt × Numbers) → stmt_of scope (Block at ss) n ≡ Some x →
      (all : List flat.Stmt × Numbers) × (in_turn (map (stmt_of scope) ss) n ≡ Some all) × ((flat.Block all.0, all.1) ≡ x)
  blocked at ss n x h =
      mapped_from (λ (all : List flat.Stmt × Numbers). (flat.Block all.0, all.1)) (in_turn (map (stmt_of scope) ss) n) x
      (sym (stmt-Block at ss n) ∙ h)

  -- a row that is built, with its first statement and the others
  pub in_row : (s : Numbered flat.Stmt) (ss : List (Numbered flat.Stmt)) (n : Numbers) (x : List flat.Stmt × Numbers) → in_turn (s ∷ ss) n ≡ Some x →
      (first : flat.Stmt × Numbers) × (rest : List flat.Stmt × Numbers) × (s n ≡ Some first) × (in_turn ss first.1 ≡ Some rest) × ((first.0 ∷ rest.0, rest.1) ≡ x)
  in_row s ss n x h =
      let a = behind (s n) (λ first next. option_map (λ rest. (first ∷ rest.0, rest.1)) (in_turn ss next)) x h in
      let b = mapped_from (λ rest. (a.0.0 ∷ rest.0, rest.1)) (in_turn ss a.0.1) x a.2 in
      (a.0, b.0, a.1, b.1, b.2)
