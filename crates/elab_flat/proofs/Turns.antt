-- Statements and processes, one after another.
use Rattle.std.proofs.Common.{◌≡◌, ℕ, ◌+◌, ◌<◌, ◌≤◌, List, [], ◌∷◌, ◌++◌, length, get_or, drop, map, Option, None, Some, refl, sym, ap, ◌∙◌}
use Rattle.std.specs.Prelude.{option_map}
use Rattle.std.proofs.lemmas.List.{append_assoc, append-nil, at_drop_more, drop_all}
use Rattle.word_core.specs.declared.place.Place.{Place}
use Rattle.vlog_syntax.specs.declared.expr.Expr as wide_expr
use Rattle.vlog_syntax.specs.declared.stmt.Stmt as wide
use Rattle.vlog_syntax.specs.declared.module.Item.{Item}
use Rattle.design_core.specs.declared.flat.Stmt.{Stmt, Branch, Block}
use Rattle.design_core.specs.declared.flat.Process.{Process}
use Rattle.expr_elab.specs.declared.built.Built.{Built}
use Rattle.expr_elab.specs.Options.{and_then}
use Rattle.expr_elab.specs.Vectors.{Scope}
use Rattle.expr_elab.specs.Elaboration.{built_of}
use Rattle.elab_flat.specs.declared.bodies.Numbers.{Numbers}
use Rattle.elab_flat.specs.Bodies.{Numbered, followed_by, or_nothing, in_turn, body_of, stmt_of, process_of, processes_from}
use Rattle.elab_flat.proofs.StatementForms.{stmt-alone, stmt-branch, stmt-Block}

-- what is made already, before the rest
abbrev pub before : {X : Type 0} → List X → Option (List X × Numbers) → Option (List X × Numbers)
before made rest = option_map (λ x. (made ++ x.0, x.1)) rest

-- one that is made, and the rest behind it
abbrev then_rest : {X : Type 0} → X → Option (List X × Numbers) → Option (List X × Numbers)
then_rest x rest = option_map (λ r. (x ∷ r.0, r.1)) rest

before_more : {X : Type 0} (made later : List X) (x : X) (rest : Option (List X × Numbers)) → later ≡ made ++ x ∷ [] → before later rest ≡ before made (then_rest x rest)
before_more made later x None grown = refl
before_more made later x (Some r) grown = λ j. Some ((ap (λ xs. xs ++ r.0) grown ∙ append_assoc made (x ∷ []) r.0) j, r.1)

before_last : {X : Type 0} (made : List X) (n : Numbers) → before made (Some ([], n)) ≡ Some (made, n)
before_last made n = λ j. Some (append-nil made j, n)

-- ---- statements

-- the statements that are made, with what the rest becomes from here on, are what all of them become
abbrev pub Turns : Scope → List wide.Stmt → Numbers → List Stmt → List wide.Stmt → Numbers → Type 0
Turns scope rest n made all start = before made (in_turn (map (stmt_of scope) rest) n) ≡ in_turn (map (stmt_of scope) all) start

module _ (scope : Scope) (all : List wide.Stmt) (start : Numbers) where
  module _ (k : ℕ) (s : wide.Stmt) (n : Numbers) (made : List Stmt) (at : s ≡ get_or all k s) (lt : k < length all) (h : Turns scope (drop k all) n made all start) where
    abbrev behind_one : Option (Stmt × Numbers) → Option (List Stmt × Numbers)
    behind_one o = before made (followed_by o (λ first next. then_rest first (in_turn (map (stmt_of scope) (drop (k + 1) all)) next)))

    split : behind_one (stmt_of scope s n) ≡ in_turn (map (stmt_of scope) all) start
    split = ap (λ x. behind_one (stmt_of scope x n)) at ∙ sym (at_drop_more (λ rest. before made (in_turn (map (stmt_of scope) rest) n)) all k s lt) ∙ h

    pub turns_more : (x : Stmt) (next : Numbers) (later : List Stmt) → Some (x, next) ≡ stmt_of scope s n → later ≡ made ++ x ∷ [] → Turns scope (drop (k + 1) all) next later all start
    turns_more x next later is grown = before_more made later x (in_turn (map (stmt_of scope) (drop (k + 1) all)) next) grown ∙ ap behind_one is ∙ split

  pub turns_done : (k : ℕ) (n : Numbers) (made : List Stmt) → length all ≤ k → Turns scope (drop k all) n made all start → Some (made, n) ≡ in_turn (map (stmt_of scope) all) start
  turns_done k n made past h = sym (before_last made n) ∙ sym (ap (λ rest. before made (in_turn (map (stmt_of scope) rest) n)) (drop_all k all past)) ∙ h

-- ---- processes

-- the same of items and the processes that they become
abbrev pub Processes : Scope → ℕ → List Item → Numbers → List Process → List Item → Numbers → Type 0
Processes scope clock rest n made all start = before made (processes_from scope clock rest n) ≡ processes_from scope clock all start

module _ (scope : Scope) (clock : ℕ) (all : List Item) (start : Numbers) where
  module _ (k : ℕ) (i : Item) (n : Numbers) (made : List Process) (at : i ≡ get_or all k i) (lt : k < length all) (h : Processes scope clock (drop k all) n made all start) where
    abbrev behind_item : Item → Option (Stmt × Numbers) → Option (List Process × Numbers)
    behind_item x o = before made (followed_by o (λ body next. then_rest (process_of clock x body) (processes_from scope clock (drop (k + 1) all) next)))

    split_item : behind_item i (stmt_of scope (body_of i) n) ≡ processes_from scope clock all start
    split_item = ap (λ x. behind_item x (stmt_of scope (body_of x) n)) at ∙ sym (at_drop_more (λ rest. before made (processes_from scope clock rest n)) all k i lt) ∙ h

    pub processes_more : (body : Stmt) (next : Numbers) (later : List Process) → Some (body, next) ≡ stmt_of scope (body_of i) n → later ≡ made ++ process_of clock i body ∷ [] →
        Processes scope clock (drop (k + 1) all) next later all start
    processes_more body next later is grown =
        before_more made later (process_of clock i body) (processes_from scope clock (drop (k + 1) all) next) grown ∙ ap (behind_item i) is ∙ split_item

-- ---- a block, and a branch

module _ (scope : Scope) (s : wide.Stmt) (at : Place) where
  pub block_is : (ss all : List wide.Stmt) (n last : Numbers) (made : List Stmt) → s ≡ wide.Block at ss → all ≡ ss → Some (made, last) ≡ in_turn (map (stmt_of scope) all) n →
      Some (Block made, last) ≡ stmt_of scope s n
  block_is ss all n last made is listed done =
      ap (option_map (λ x. (Block x.0, x.1))) (done ∙ ap (λ xs. in_turn (map (stmt_of scope) xs) n) listed) ∙ sym (ap (λ x. stmt_of scope x n) is ∙ stmt-Block scope at ss n)

  module _ (c : wide_expr.Expr) (a : wide.Stmt) (n mid last : Numbers) (test : Built) (first second : Stmt) (tested : Some test ≡ built_of scope c) (else' : Numbered Stmt) where
    abbrev arms : Option (Stmt × Numbers) → Built → Option (Stmt × Numbers)
    arms o k = followed_by o (λ x next. option_map (λ y. (Branch n.arm k.expr x y.0, y.1)) (else' next))

    both_arms : Some (first, mid) ≡ stmt_of scope a (record { site = n.site; arm = n.arm + 2 }) → Some (second, last) ≡ else' mid →
        Some (Branch n.arm test.expr first second, last) ≡ and_then (arms (stmt_of scope a (record { site = n.site; arm = n.arm + 2 }))) (built_of scope c)
    both_arms is_first is_second =
        ap (option_map (λ y. (Branch n.arm test.expr first y.0, y.1))) is_second ∙ ap (λ o. arms o test) is_first
        ∙ ap (and_then (arms (stmt_of scope a (record { site = n.site; arm = n.arm + 2 })))) tested

  pub branch_is : (c : wide_expr.Expr) (a : wide.Stmt) (o : Option wide.Stmt) (n mid last : Numbers) (site arm : ℕ) (test : Built) (first second made : Stmt) → s ≡ wide.If at c a o → site ≡ n.arm → arm ≡ n.arm + 2 →
      Some test ≡ built_of scope c → Some (first, mid) ≡ stmt_of scope a (record { site = n.site; arm = arm }) → Some (second, last) ≡ or_nothing (option_map (stmt_of scope) o) mid →
      made ≡ Branch site test.expr first second → Some (made, last) ≡ stmt_of scope s n
  branch_is c a None n mid last site arm test first second made is es ea tested is_first is_second whole =
      ap (λ x. Some (x, last)) (whole ∙ ap (λ k. Branch k test.expr first second) es)
      ∙ both_arms c a n mid last test first second tested (or_nothing None) (is_first ∙ ap (λ k. stmt_of scope a (record { site = n.site; arm = k })) ea) is_second
      ∙ sym (ap (λ x. stmt_of scope x n) is ∙ stmt-alone scope at c a n)
  branch_is c a (Some b) n mid last site arm test first second made is es ea tested is_first is_second whole =
      ap (λ x. Some (x, last)) (whole ∙ ap (λ k. Branch k test.expr first second) es)
      ∙ both_arms c a n mid last test first second tested (stmt_of scope b) (is_first ∙ ap (λ k. stmt_of scope a (record { site = n.site; arm = k })) ea) is_second
      ∙ sym (ap (λ x. stmt_of scope x n) is ∙ stmt-branch scope at c a b n)
