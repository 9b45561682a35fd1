-- What targets and statements assign, form by form, and as code goes over them.
use Rattle.std.proofs.Common.{◌≡◌, ℕ, ◌+◌, ◌<◌, ◌≤◌, Bool, true, false, ◌&&◌, List, [], ◌∷◌, length, get_or, drop, map, Option, Some, None, refl, sym, ap, ◌∙◌}
use Rattle.std.specs.List.{list_all}
use Rattle.std.proofs.lemmas.List.{at_drop_more, drop_all}
use Rattle.word_core.specs.declared.place.Place.{Place}
use Rattle.vlog_syntax.specs.declared.expr.Expr.{Expr}
use Rattle.vlog_syntax.specs.declared.stmt.Target as wide_target
use Rattle.vlog_syntax.specs.declared.stmt.Target.{Target, roll-Target, map-Target}
use Rattle.vlog_syntax.specs.declared.stmt.Target.TheOpen.{Target-F}
use Rattle.vlog_syntax.specs.declared.stmt.Target.TheFolds.{fold-roll-Target}
use Rattle.vlog_syntax.specs.declared.stmt.Target.TheVariants.{rolls-Concat}
use Rattle.vlog_syntax.specs.declared.stmt.Stmt.{Stmt, If, Block}
use Rattle.vlog_syntax.specs.declared.stmt.Stmt.TheOpen.{Stmt-F}
use Rattle.vlog_syntax.specs.declared.stmt.Stmt.TheFolds.{fold-roll-Stmt}
use Rattle.vlog_syntax.specs.declared.stmt.Stmt.TheVariants.{rolls-If, rolls-Block}
use Rattle.expr_elab.specs.Vectors.{Scope}
use Rattle.elab_flat.specs.Assigned.{target_step, targets_registers, assigns_step, assigns_registers}

-- all of a list pass
abbrev pub AllPass : {X : Type 0} → (X → Bool) → List X → Bool
AllPass f xs = list_all f xs

each_passes : {X : Type 0} (f : X → Bool) (xs : List X) → list_all (λ pass. pass) (map f xs) ≡ AllPass f xs
each_passes f [] = refl
each_passes f (x ∷ xs) = ap (λ t. f x && t) (each_passes f xs)

-- what is left of a list passes where all of it does
abbrev pub Passing : {X : Type 0} → (X → Bool) → List X → ℕ → Type 0
Passing f xs k = AllPass f (drop k xs) ≡ AllPass f xs

module _ {X : Type 0} (f : X → Bool) (xs : List X) (k : ℕ) where
  pub all_passed : length xs ≤ k → Passing f xs k → true ≡ AllPass f xs
  all_passed past h = sym (ap (AllPass f) (drop_all k xs past)) ∙ h

  module _ (x : X) (at : x ≡ get_or xs k x) (lt : k < length xs) (h : Passing f xs k) where
    split : f x && AllPass f (drop (k + 1) xs) ≡ AllPass f xs
    split = ap (λ y. f y && AllPass f (drop (k + 1) xs)) at ∙ sym (at_drop_more (AllPass f) xs k x lt) ∙ h

    pub one_failed : f x ≡ false → false ≡ AllPass f xs
    one_failed e = ap (λ t. t && AllPass f (drop (k + 1) xs)) (sym e) ∙ split

module _ (registers : Scope) where
  target_rolled : (x : Target-F Target) → targets_registers registers (roll-Target x) ≡ target_step registers (map-Target Target Bool (targets_registers registers) x)
  target_rolled x = fold-roll-Target Bool (target_step registers) x

  pub target_concat : (t : Target) (at : Place) (parts items : List Target) → t ≡ wide_target.Concat at parts → items ≡ parts →
      AllPass (targets_registers registers) items ≡ targets_registers registers t
  target_concat t at parts items is listed =
      ap (AllPass (targets_registers registers)) listed ∙ sym (each_passes (targets_registers registers) parts) ∙ sym (target_rolled (Target-F.Concat at parts)) ∙ ap (targets_registers registers) (rolls-Concat at parts) ∙ ap (targets_registers registers) (sym is)

  pub assigns-If : (s : Stmt) (at : Place) (c : Expr) (a : Stmt) (o : Option Stmt) → s ≡ If at c a o → assigns_registers registers a ≡ false → false ≡ assigns_registers registers s
  assigns-If s at c a None is e =
      ap (λ t. t && true) (sym e) ∙ sym (fold-roll-Stmt Bool (assigns_step registers) (Stmt-F.If at c a None)) ∙ ap (assigns_registers registers) (rolls-If at c a None ∙ sym is)
  assigns-If s at c a (Some b) is e =
      ap (λ t. t && assigns_registers registers b) (sym e) ∙ sym (fold-roll-Stmt Bool (assigns_step registers) (Stmt-F.If at c a (Some b))) ∙ ap (assigns_registers registers) (rolls-If at c a (Some b) ∙ sym is)

  pub assigns-branch : (s : Stmt) (at : Place) (c : Expr) (a b : Stmt) → s ≡ If at c a (Some b) → assigns_registers registers a ≡ true → assigns_registers registers b ≡ assigns_registers registers s
  assigns-branch s at c a b is e =
      ap (λ t. t && assigns_registers registers b) (sym e) ∙ sym (fold-roll-Stmt Bool (assigns_step registers) (Stmt-F.If at c a (Some b))) ∙ ap (assigns_registers registers) (rolls-If at c a (Some b) ∙ sym is)

  pub assigns-Block : (s : Stmt) (at : Place) (ss items : List Stmt) → s ≡ Block at ss → items ≡ ss → AllPass (assigns_registers registers) items ≡ assigns_registers registers s
  assigns-Block s at ss items is listed =
      ap (AllPass (assigns_registers registers)) listed ∙ sym (each_passes (assigns_registers registers) ss) ∙ sym (fold-roll-Stmt Bool (assigns_step registers) (Stmt-F.Block at ss)) ∙ ap (assigns_registers registers) (rolls-Block at ss ∙ sym is)
