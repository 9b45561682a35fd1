-- What statements and items become: within bounds, with nonblocking assignments, and reading what may be named.
use Rattle.std.proofs.Common.{◌≡◌, ℕ, ◌+◌, ◌*◌, ◌<◌, ◌≤◌, true, List, [], ◌∷◌, None, Some, map, refl, ◌∙◌, subst, ⊎_elim, arith}
use Rattle.std.specs.Prelude.{All, IfSome, option_map}
use Rattle.std.proofs.lemmas.List.Elements.{All-nil, All-cons, All-head, All-tail}
use Rattle.std.proofs.lemmas.Option.{same_Some}
use Rattle.vlog_syntax.specs.declared.expr.Expr as wide_expr
use Rattle.vlog_syntax.specs.declared.stmt.Target as wide_target
use Rattle.vlog_syntax.specs.declared.stmt.Stmt as wide
use Rattle.vlog_syntax.specs.declared.module.Item.{Item}
use Rattle.vlog_syntax.specs.declared.module.Item.TheVariants.{Always}
use Rattle.bit_exprs.specs.declared.forms.Expr.{Expr}
use Rattle.bit_exprs.specs.declared.forms.Target.{Target}
use Rattle.bit_exprs.specs.Named.{reads, target_reads}
use Rattle.bit_exprs.specs.Updates.{target_width}
use Rattle.bit_exprs.specs.Formed.{IsFormed}
use Rattle.design_core.specs.declared.flat.Stmt.{Stmt, Assign, Branch, Block}
use Rattle.design_core.specs.declared.flat.Process.{Process}
use Rattle.design_core.specs.declared.flat.ProcKind.TheVariants.{Clocked}
use Rattle.design_core.specs.Bounds.{IsWithin, AssignsBy}
use Rattle.design_core.specs.Drive.{needs}
use Rattle.design_core.proofs.Truth.{or_cases}
use Rattle.expr_elab.specs.Vectors as vectors
use Rattle.expr_elab.specs.Vectors.{Scope, names}
use Rattle.expr_elab.specs.Elaboration.{assigned_of}
use Rattle.expr_elab.specs.Targets.{target_of}
use Rattle.expr_elab.specs.Formed.{IsValue}
use Rattle.expr_elab.proofs.Laws.{elaborated_good, assigned_value}
use Rattle.expr_elab.proofs.Aims.{target_formed}
use Rattle.expr_elab.proofs.Reading.{elaborated_reads, assigned_reads}
use Rattle.expr_elab.proofs.Naming.{target_reads_named}
use Rattle.elab_flat.specs.declared.bodies.Numbers.{Numbers}
use Rattle.elab_flat.specs.Bodies.{total, assignments_in, branches_in, body_of, sum_over, assignment_of, in_turn, stmt_of, process_of, processes_from}
use Rattle.elab_flat.proofs.Inverses.{mapped_from, made_from}
use Rattle.elab_flat.proofs.StatementForms.{every_stmt, assignments-Nonblocking, assignments-alone, assignments-branch, assignments-Block, branches-alone, branches-branch, branches-Block, assigned, branched_alone, branched_both, blocked, in_row}
use Rattle.elab_flat.proofs.Counts.{counted, in_items}
use Rattle.elab_flat.proofs.BodyForms.{within-branch, assigns-branch, needs-branch, within-block, assigns-block, needs-block}

-- so many bits and sites, and a scope of vectors of these bits
module _ (scope : Scope) (bits sites : ℕ) (inside : vectors.IsWithin scope bits) where
  pub record Fine (s : Stmt) : Type 0 where
    pub within : IsWithin s bits sites
    pub waits : AssignsBy true s
    pub reads : (b : ℕ) → needs s b ≡ true → names scope b ≡ true

  -- the sites of so many assignments and branches are there
  pub record Room (assignments branches : ℕ) (n : Numbers) : Type 0 where
    pub site : n.site + assignments ≤ sites
    pub arm : n.arm + 2 * branches ≤ sites

  room_like : (a b c d : ℕ) (n : Numbers) → a ≡ c → b ≡ d → Room a b n → Room c d n
  room_like a b c d n e f r = subst (λ x. Room x d n) e (subst (λ x. Room a x n) f r)

  room_first : (a b c d : ℕ) (n : Numbers) → Room (a + c) (b + d) n → Room a b n
  room_first a b c d n r = let s = r.site in let t = r.arm in record { site = omega (arith, s); arm = omega (arith, t) }

  fine_assign : (site : ℕ) (t : wide_target.Target) (v : wide_expr.Expr) (parts : Target × Expr) → site < sites → assignment_of scope t v ≡ Some parts → Fine (Assign (Some site) true parts.0 parts.1)
  fine_assign site t v parts lt h =
      let (target, is_target, rest) = made_from (λ target. option_map (λ value. (target, value)) (assigned_of scope (target_width target) v)) (target_of scope t) parts h in
      let (value, is_value, whole) = mapped_from (λ value. (target, value)) (assigned_of scope (target_width target) v) parts rest in
      let formed = target_formed scope bits inside t target is_target in
      let good : IsValue scope (target_width target) value = subst (λ o. IfSome o (IsValue scope (target_width target))) is_value (assigned_value scope (target_width target) v formed.1) in
      subst (λ (x : Target × Expr). Fine (Assign (Some site) true x.0 x.1)) whole (record {
        within = (lt, formed, good.wide, good.formed bits inside);
        waits = refl;
        reads = λ b k.
            ⊎_elim (λ e. assigned_reads scope (target_width target) v value b is_value e) (λ e. target_reads_named scope t target b is_target e)
            (or_cases (reads value b) (target_reads target b) k);
      })

  fine_branch : (site : ℕ) (c : Expr) (x y : Stmt) → site + 1 < sites → IsFormed c bits → ((b : ℕ) → reads c b ≡ true → names scope b ≡ true) → Fine x → Fine y → Fine (Branch site c x y)
  fine_branch site c x y lt formed named h i = record {
    within = within-branch site c x y bits sites lt formed h.within i.within;
    waits = assigns-branch site c x y true h.waits i.waits;
    reads = λ b. needs-branch site c x y b (named b) (h.reads b) (i.reads b);
  }

  fine_block : (ss : List Stmt) → All Fine ss → Fine (Block ss)
  fine_block ss h = record {
    within = within-block ss bits sites (λ k d lt. (h k d lt).within);
    waits = assigns-block ss true (λ k d lt. (h k d lt).waits);
    reads = λ b. needs-block ss b (λ k d lt. (h k d lt).reads b);
  }

  -- the room behind a statement
  room_behind : (s : wide.Stmt) (c d : ℕ) (n : Numbers) (x : Stmt × Numbers) → stmt_of scope s n ≡ Some x → Room (assignments_in s + c) (branches_in s + d) n → Room c d x.1
  room_behind s c d n x h r =
      let f = counted scope s n x h in
      let a = f.site in
      let b = f.arm in
      let u = r.site in
      let v = r.arm in
      record { site = omega (arith, a, u); arm = omega (arith, b, v) }

  abbrev Holds : wide.Stmt → Type 0
  Holds s = (n : Numbers) (x : Stmt × Numbers) → stmt_of scope s n ≡ Some x → Room (assignments_in s) (branches_in s) n → Fine x.0

  fine_all : (ss : List wide.Stmt) → All Holds ss → (n : Numbers) (x : List Stmt × Numbers) → in_turn (map (stmt_of scope) ss) n ≡ Some x →
      Room (total (map assignments_in ss)) (total (map branches_in ss)) n → All Fine x.0
  fine_all [] each n x h room = subst (λ (y : List Stmt × Numbers). All Fine y.0) (same_Some ([], n) x h) (All-nil Fine)
  fine_all (s ∷ ss) each n x h room =
      let (first, rest, is_first, is_rest, is) = in_row scope (stmt_of scope s) (map (stmt_of scope) ss) n x h in
      subst (λ (y : List Stmt × Numbers). All Fine y.0) is
      (All-cons Fine first.0 rest.0
      (All-head Holds s ss each n first is_first (room_first (assignments_in s) (branches_in s) (total (map assignments_in ss)) (total (map branches_in ss)) n room))
      (fine_all ss (All-tail Holds s ss each) first.1 rest is_rest (room_behind s (total (map assignments_in ss)) (total (map branches_in ss)) n first is_first room)))

  -- a branch whose arms have room for their sites
  in_arms : (a b : ℕ) (n : Numbers) → Room a (1 + b) n → Room a b (record { site = n.site; arm = n.arm + 2 }) × (n.arm + 1 < sites)
  in_arms a b n r = let u = r.arm in (record { site = r.site; arm = omega (arith, u) }, omega (arith, u))

  -- a statement that is built and has room for its sites becomes a body that is fine
  pub fine : (s : wide.Stmt) → Holds s
  fine = every_stmt Holds (record {
    assigns = λ at t v n x h room.
        let r = assigned scope at t v n x h in
        let few = room.site in
        subst (λ (y : Stmt × Numbers). Fine y.0) r.is (fine_assign n.site t v r.parts (omega (arith, few, assignments-Nonblocking at t v)) r.built);
    alone = λ at c a h n x e room.
        let r = branched_alone scope at c a n x e in
        let inner : Numbers = record { site = n.site; arm = n.arm + 2 } in
        let arms = in_arms (assignments_in a + 0) (branches_in a + 0) n
        (room_like (assignments_in (wide.If at c a None)) (branches_in (wide.If at c a None)) (assignments_in a + 0) (1 + (branches_in a + 0)) n (assignments-alone at c a) (branches-alone at c a ∙ omega arith) room) in
        subst (λ (y : Stmt × Numbers). Fine y.0) r.is
        (fine_branch n.arm r.test.expr r.first.0 r.second.0 arms.1 ((elaborated_good scope c r.test r.tested).formed bits (λ f. inside)) (λ b. elaborated_reads scope c r.test b r.tested)
        (h inner r.first r.is_first (room_first (assignments_in a) (branches_in a) 0 0 inner arms.0))
        (subst (λ (y : Stmt × Numbers). Fine y.0) (same_Some (Block [], r.first.1) r.second r.is_second) (fine_block [] (All-nil Fine))));
    branch = λ at c a b h i n x e room.
        let r = branched_both scope at c a b n x e in
        let inner : Numbers = record { site = n.site; arm = n.arm + 2 } in
        let arms = in_arms (assignments_in a + assignments_in b) (branches_in a + branches_in b) n
        (room_like (assignments_in (wide.If at c a (Some b))) (branches_in (wide.If at c a (Some b))) (assignments_in a + assignments_in b) (1 + (branches_in a + branches_in b)) n
        (assignments-branch at c a b) (branches-branch at c a b ∙ omega arith) room) in
        subst (λ (y : Stmt × Numbers). Fine y.0) r.is
        (fine_branch n.arm r.test.expr r.first.0 r.second.0 arms.1 ((elaborated_good scope c r.test r.tested).formed bits (λ f. inside)) (λ k. elaborated_reads scope c r.test k r.tested)
        (h inner r.first r.is_first (room_first (assignments_in a) (branches_in a) (assignments_in b) (branches_in b) inner arms.0))
        (i r.first.1 r.second r.is_second (room_behind a (assignments_in b) (branches_in b) inner r.first r.is_first arms.0)));
    block = λ at ss each n x e room.
        let (all, is_all, is) = blocked scope at ss n x e in
        subst (λ (y : Stmt × Numbers). Fine y.0) is (fine_block all.0
        (fine_all ss each n all is_all
        (room_like (assignments_in (wide.Block at ss)) (branches_in (wide.Block at ss)) (total (map assignments_in ss)) (total (map branches_in ss)) n (assignments-Block at ss) (branches-Block at ss) room)));
  })

  -- ---- processes

  pub record IsFine (p : Process) : Type 0 where
    pub kind : p.kind ≡ Clocked None
    pub body : Fine p.body

  fine_process : (clock : ℕ) (i : Item) (body : Stmt) → Fine body → IsFine (process_of clock i body)
  fine_process clock (Always a) body h = record { kind = refl; body = h }

  pub fine_processes : (clock : ℕ) (items : List Item) (n : Numbers) (x : List Process × Numbers) → processes_from scope clock items n ≡ Some x →
      Room (sum_over assignments_in items) (sum_over branches_in items) n → All IsFine x.0
  fine_processes clock [] n x h room = subst (λ (y : List Process × Numbers). All IsFine y.0) (same_Some ([], n) x h) (All-nil IsFine)
  fine_processes clock (i ∷ is) n x h room =
      let (body, rest, is_body, is_rest, whole) = in_items scope clock i is n x h in
      subst (λ (y : List Process × Numbers). All IsFine y.0) whole
      (All-cons IsFine (process_of clock i body.0) rest.0
      (fine_process clock i body.0
      (fine (body_of i) n body is_body (room_first (assignments_in (body_of i)) (branches_in (body_of i)) (sum_over assignments_in is) (sum_over branches_in is) n room)))
      (fine_processes clock is body.1 rest is_rest (room_behind (body_of i) (sum_over assignments_in is) (sum_over branches_in is) n body is_body room)))
