-- What statements and items become, if they are built.
use Rattle.std.specs.Prelude.{ℕ, zero, suc, ◌≡◌, ◌+◌, true, List, [], ◌∷◌, Option, None, Some, option_map}
use Rattle.vlog_syntax.specs.declared.expr.Expr as wide
use Rattle.vlog_syntax.specs.declared.stmt.Target as wide_target
use Rattle.vlog_syntax.specs.declared.stmt.Stmt as wide_stmt
use Rattle.vlog_syntax.specs.declared.stmt.Stmt.TheOpen.{Stmt-F}
use Rattle.vlog_syntax.specs.declared.stmt.Stmt.TheFolds.{fold-Stmt}
use Rattle.vlog_syntax.specs.declared.module.Item.{Item}
use Rattle.vlog_syntax.specs.declared.module.Item.TheVariants.{Always}
use Rattle.vlog_syntax.specs.declared.module.Event as wide_event
use Rattle.vlog_syntax.specs.declared.module.Edge.TheVariants.{Posedge}
use Rattle.bit_exprs.specs.declared.forms.Expr.{Expr}
use Rattle.bit_exprs.specs.declared.forms.Target.{Target}
use Rattle.bit_exprs.specs.Updates.{target_width}
use Rattle.design_core.specs.declared.flat.Stmt.{Stmt, Assign, Branch, Block}
use Rattle.design_core.specs.declared.flat.Process.{Process}
use Rattle.design_core.specs.declared.flat.ProcKind.TheVariants.{Clocked}
use Rattle.design_core.specs.declared.flat.Edge.TheVariants.{Rise}
use Rattle.design_core.specs.declared.flat.Site.{Site}
use Rattle.design_core.specs.declared.flat.SiteKind.TheVariants.{Assignment, Arm}
use Rattle.design_core.specs.declared.flat.ArmKind.TheVariants.{Then, Else}
use Rattle.expr_elab.specs.declared.built.Built.{Built}
use Rattle.expr_elab.specs.Options.{and_then}
use Rattle.expr_elab.specs.Vectors.{Scope}
use Rattle.expr_elab.specs.Elaboration.{built_of, assigned_of}
use Rattle.expr_elab.specs.Targets.{target_of}
use Rattle.elab_flat.specs.declared.bodies.Numbers.{Numbers}

-- ---- counts

abbrev pub or_zero : Option ℕ → ℕ
or_zero None = 0
or_zero (Some n) = n

abbrev pub total : List ℕ → ℕ
total [] = 0
total (n ∷ ns) = n + total ns

-- how many assignments a statement has
abbrev pub assignments_step : Stmt-F ℕ → ℕ
assignments_step (Stmt-F.Nonblocking at target value) = 1
assignments_step (Stmt-F.If at test then' else') = then' + or_zero else'
assignments_step (Stmt-F.Block at statements) = total statements

abbrev pub assignments_in : wide_stmt.Stmt → ℕ
assignments_in = fold-Stmt ℕ assignments_step

-- and how many branches
abbrev pub branches_step : Stmt-F ℕ → ℕ
branches_step (Stmt-F.Nonblocking at target value) = 0
branches_step (Stmt-F.If at test then' else') = 1 + then' + or_zero else'
branches_step (Stmt-F.Block at statements) = total statements

abbrev pub branches_in : wide_stmt.Stmt → ℕ
branches_in = fold-Stmt ℕ branches_step

abbrev pub body_of : Item → wide_stmt.Stmt
body_of (Always a) = a.body

abbrev pub sum_over : (wide_stmt.Stmt → ℕ) → List Item → ℕ
sum_over count [] = 0
sum_over count (i ∷ is) = count (body_of i) + sum_over count is

-- ---- statements

-- What a statement becomes where the next assignment and the next arm have these sites, and the sites that are next behind it, if it is built.
abbrev pub Numbered : Type 0 → Type 0
Numbered X = Numbers → Option (X × Numbers)

-- what is made of what a statement became and of what comes next
abbrev pub followed_by : {X Y : Type 0} → Option (X × Numbers) → (X → Numbered Y) → Option (Y × Numbers)
followed_by None make = None
followed_by (Some x) make = make x.0 x.1

-- an arm that isn't written does nothing
abbrev pub or_nothing : Option (Numbered Stmt) → Numbered Stmt
or_nothing None n = Some (Block [], n)
or_nothing (Some s) n = s n

abbrev pub in_turn : List (Numbered Stmt) → Numbered (List Stmt)
in_turn [] n = Some ([], n)
in_turn (s ∷ ss) n = followed_by (s n) (λ first next. option_map (λ rest. (first ∷ rest.0, rest.1)) (in_turn ss next))

-- the parts of an assignment: the value is as wide as its target at least
abbrev pub assignment_of : Scope → wide_target.Target → wide.Expr → Option (Target × Expr)
assignment_of scope t v = and_then (λ target. option_map (λ value. (target, value)) (assigned_of scope (target_width target) v)) (target_of scope t)

module _ (scope : Scope) where
  -- an assignment takes one site, and a branch two, one for each arm, before those in its arms
  abbrev pub stmt_step : Stmt-F (Numbered Stmt) → Numbered Stmt
  stmt_step (Stmt-F.Nonblocking at target value) n =
      option_map (λ parts. (Assign (Some n.site) true parts.0 parts.1, record { site = n.site + 1; arm = n.arm })) (assignment_of scope target value)
  stmt_step (Stmt-F.If at test then' else') n =
      and_then (λ (c : Built). followed_by (then' (record { site = n.site; arm = n.arm + 2 }))
      (λ first next. option_map (λ second. (Branch n.arm c.expr first second.0, second.1)) (or_nothing else' next))) (built_of scope test)
  stmt_step (Stmt-F.Block at statements) n = option_map (λ all. (Block all.0, all.1)) (in_turn statements n)

  -- a statement over bits
  abbrev pub stmt_of : wide_stmt.Stmt → Numbered Stmt
  stmt_of = fold-Stmt (Numbered Stmt) stmt_step

-- ---- items

-- `posedge` of the clock, and no other event
abbrev pub IsClockedBy : List ℕ → Item → Type 0
IsClockedBy clock (Always a) = (e : wide_event.Event) × (a.events ≡ e ∷ []) × (e.edge ≡ Some Posedge) × (e.name.name ≡ clock)

-- an item as a process with this body, which the rising edge of the clock runs
abbrev pub process_of : ℕ → Item → Stmt → Process
process_of clock (Always a) body =
    record { at = a.at; kind = Clocked None; events = Some (record { bits = clock ∷ []; edge = Rise } ∷ []); body = body }

abbrev pub processes_from : Scope → ℕ → List Item → Numbered (List Process)
processes_from scope clock [] n = Some ([], n)
processes_from scope clock (i ∷ is) n =
    followed_by (stmt_of scope (body_of i) n) (λ body next. option_map (λ rest. (process_of clock i body ∷ rest.0, rest.1)) (processes_from scope clock is next))

-- ---- sites

-- n assignment sites of a scope, numbered on from `ordinal`
abbrev pub sites_from : List ℕ → ℕ → ℕ → List Site
sites_from path ordinal zero = []
sites_from path ordinal (suc n) = record { scope = path; kind = Assignment; ordinal = ordinal } ∷ sites_from path (ordinal + 1) n

-- the arms of n branches of a scope, which are numbered on from `ordinal`
abbrev pub arms_from : List ℕ → ℕ → ℕ → List Site
arms_from path ordinal zero = []
arms_from path ordinal (suc n) =
    record { scope = path; kind = Arm Then; ordinal = ordinal } ∷ record { scope = path; kind = Arm Else; ordinal = ordinal } ∷ arms_from path (ordinal + 1) n
