-- How many sites statements and items take.
use Rattle.std.proofs.Common.{◌≡◌, ℕ, ◌+◌, ◌*◌, List, [], ◌∷◌, None, Some, map, refl, sym, ap, subst, arith}
use Rattle.std.specs.Prelude.{All, option_map}
use Rattle.std.proofs.lemmas.List.Elements.{All-head, All-tail}
use Rattle.std.proofs.lemmas.Option.{same_Some}
use Rattle.vlog_syntax.specs.declared.stmt.Stmt as wide
use Rattle.vlog_syntax.specs.declared.module.Item.{Item}
use Rattle.design_core.specs.declared.flat.Stmt.{Stmt, Block}
use Rattle.design_core.specs.declared.flat.Process.{Process}
use Rattle.expr_elab.specs.Vectors.{Scope}
use Rattle.elab_flat.specs.declared.bodies.Numbers.{Numbers}
use Rattle.elab_flat.specs.Bodies.{total, assignments_in, branches_in, body_of, sum_over, in_turn, stmt_of, process_of, processes_from}
use Rattle.elab_flat.proofs.Inverses.{mapped_from, behind}
use Rattle.elab_flat.proofs.StatementForms.{every_stmt, assignments-Nonblocking, assignments-alone, assignments-branch, assignments-Block, branches-Nonblocking, branches-alone, branches-branch, branches-Block, assigned, branched_alone, branched_both, blocked, in_row}

-- the next sites behind so many assignments and branches
pub record Follows (assignments branches : ℕ) (n m : Numbers) : Type 0 where
  pub site : m.site ≡ n.site + assignments
  pub arm : m.arm ≡ n.arm + 2 * branches

pub follows_both : (a b c d : ℕ) (n k m : Numbers) → Follows a b n k → Follows c d k m → Follows (a + c) (b + d) n m
follows_both a b c d n k m h i =
    let s = h.site in
    let t = i.site in
    let u = h.arm in
    let v = i.arm in
    record { site = omega (arith, s, t); arm = omega (arith, u, v) }

-- a branch takes two sites first
in_branch : (a b : ℕ) (n m : Numbers) → Follows a b (record { site = n.site; arm = n.arm + 2 }) m → Follows a (1 + b) n m
in_branch a b n m h = let u = h.arm in record { site = h.site; arm = omega (arith, u) }

as_many : (a b c d : ℕ) (n m : Numbers) → a ≡ c → b ≡ d → Follows c d n m → Follows a b n m
as_many a b c d n m e f h = subst (λ x. Follows x b n m) (sym e) (subst (λ x. Follows c x n m) (sym f) h)

-- an item's process, and those of the others
pub in_items : (scope : Scope) (clock : ℕ) (i : Item) (is : List Item) (n : Numbers) (x : List Process × Numbers) → processes_from scope clock (i ∷ is) n ≡ Some x →
    (body : Stmt × Numbers) × (rest : List Process × Numbers) × (stmt_of scope (body_of i) n ≡ Some body) × (processes_from scope clock is body.1 ≡ Some rest)
    × ((process_of clock i body.0 ∷ rest.0, rest.1) ≡ x)
in_items scope clock i is n x h =
    let a = behind (stmt_of scope (body_of i) n) (λ body next. option_map (λ rest. (process_of clock i body ∷ rest.0, rest.1)) (processes_from scope clock is next)) x h in
    let b = mapped_from (λ rest. (process_of clock i a.0.0 ∷ rest.0, rest.1)) (processes_from scope clock is a.0.1) x a.2 in
    (a.0, b.0, a.1, b.1, b.2)

module _ (scope : Scope) where
  abbrev pub Counted : wide.Stmt → Type 0
  Counted s = (n : Numbers) (x : Stmt × Numbers) → stmt_of scope s n ≡ Some x → Follows (assignments_in s) (branches_in s) n x.1

  counted_all : (ss : List wide.Stmt) → All Counted ss → (n : Numbers) (x : List Stmt × Numbers) → in_turn (map (stmt_of scope) ss) n ≡ Some x →
      Follows (total (map assignments_in ss)) (total (map branches_in ss)) n x.1
  counted_all [] each n x h =
      let same : n ≡ x.1 = ap (λ (y : List Stmt × Numbers). y.1) (same_Some ([], n) x h) in
      subst (Follows 0 0 n) same (record { site = omega arith; arm = omega arith })
  counted_all (s ∷ ss) each n x h =
      let (first, rest, is_first, is_rest, is) = in_row scope (stmt_of scope s) (map (stmt_of scope) ss) n x h in
      subst (Follows (assignments_in s + total (map assignments_in ss)) (branches_in s + total (map branches_in ss)) n) (ap (λ (y : List Stmt × Numbers). y.1) is)
      (follows_both (assignments_in s) (branches_in s) (total (map assignments_in ss)) (total (map branches_in ss)) n first.1 rest.1
      (All-head Counted s ss each n first is_first) (counted_all ss (All-tail Counted s ss each) first.1 rest is_rest))

  -- the sites of a statement are as many as its assignments and arms
  pub counted : (s : wide.Stmt) → Counted s
  counted = every_stmt Counted (record {
    assigns = λ at t v n x h.
        let r = assigned scope at t v n x h in
        as_many (assignments_in (wide.Nonblocking at t v)) (branches_in (wide.Nonblocking at t v)) 1 0 n x.1 (assignments-Nonblocking at t v) (branches-Nonblocking at t v)
        (subst (λ (y : Stmt × Numbers). Follows 1 0 n y.1) r.is (record { site = refl; arm = omega arith }));
    alone = λ at c a h n x e.
        let r = branched_alone scope at c a n x e in
        let inner : Numbers = record { site = n.site; arm = n.arm + 2 } in
        let last = ap (λ (y : Stmt × Numbers). y.1) (same_Some (Block [], r.first.1) r.second r.is_second) in
        as_many (assignments_in (wide.If at c a None)) (branches_in (wide.If at c a None)) (assignments_in a + 0) (1 + (branches_in a + 0)) n x.1
        (assignments-alone at c a) (subst (λ k. branches_in (wide.If at c a None) ≡ k) (omega arith) (branches-alone at c a))
        (subst (λ (y : Stmt × Numbers). Follows (assignments_in a + 0) (1 + (branches_in a + 0)) n y.1) r.is
        (in_branch (assignments_in a + 0) (branches_in a + 0) n r.second.1
        (follows_both (assignments_in a) (branches_in a) 0 0 inner r.first.1 r.second.1 (h inner r.first r.is_first)
        (subst (Follows 0 0 r.first.1) last (record { site = omega arith; arm = omega arith })))));
    branch = λ at c a b h i n x e.
        let r = branched_both scope at c a b n x e in
        let inner : Numbers = record { site = n.site; arm = n.arm + 2 } in
        as_many (assignments_in (wide.If at c a (Some b))) (branches_in (wide.If at c a (Some b))) (assignments_in a + assignments_in b) (1 + (branches_in a + branches_in b)) n x.1
        (assignments-branch at c a b) (subst (λ k. branches_in (wide.If at c a (Some b)) ≡ k) (omega arith) (branches-branch at c a b))
        (subst (λ (y : Stmt × Numbers). Follows (assignments_in a + assignments_in b) (1 + (branches_in a + branches_in b)) n y.1) r.is
        (in_branch (assignments_in a + assignments_in b) (branches_in a + branches_in b) n r.second.1
        (follows_both (assignments_in a) (branches_in a) (assignments_in b) (branches_in b) inner r.first.1 r.second.1 (h inner r.first r.is_first) (i r.first.1 r.second r.is_second))));
    block = λ at ss h n x e.
        let (all, is_all, is) = blocked scope at ss n x e in
        as_many (assignments_in (wide.Block at ss)) (branches_in (wide.Block at ss)) (total (map assignments_in ss)) (total (map branches_in ss)) n x.1
        (assignments-Block at ss) (branches-Block at ss)
        (subst (λ (y : Stmt × Numbers). Follows (total (map assignments_in ss)) (total (map branches_in ss)) n y.1) is (counted_all ss h n all is_all));
  })

  -- so are those of the items
  pub items_counted : (clock : ℕ) (items : List Item) (n : Numbers) (x : List Process × Numbers) → processes_from scope clock items n ≡ Some x →
      Follows (sum_over assignments_in items) (sum_over branches_in items) n x.1
  items_counted clock [] n x h =
      let same : n ≡ x.1 = ap (λ (y : List Process × Numbers). y.1) (same_Some ([], n) x h) in
      subst (Follows 0 0 n) same (record { site = omega arith; arm = omega arith })
  items_counted clock (i ∷ is) n x h =
      let (body, rest, is_body, is_rest, whole) = in_items scope clock i is n x h in
      subst (λ (y : List Process × Numbers). Follows (assignments_in (body_of i) + sum_over assignments_in is) (branches_in (body_of i) + sum_over branches_in is) n y.1) whole
      (follows_both (assignments_in (body_of i)) (branches_in (body_of i)) (sum_over assignments_in is) (sum_over branches_in is) n body.1 rest.1
      (counted (body_of i) n body is_body) (items_counted clock is body.1 rest is_rest))
