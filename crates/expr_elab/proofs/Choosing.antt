-- What a select chooses: at least one bit, and at an index from its brackets.
use Rattle.std.proofs.Common.{◌≡◌, ℕ, ◌+◌, ◌-◌, ◌≤◌, nat_le, Bool, true, false, ◌&&◌, cond, Option, Some, None, refl, sym, ◌∙◌, subst, arith}
use Rattle.std.specs.Prelude.{IfSome, option_map}
use Rattle.std.proofs.lemmas.Bool.{leb-true}
use Rattle.bit_exprs.specs.Formed.{IsWidth}
use Rattle.expr_elab.specs.declared.vectors.Range.{Range}
use Rattle.expr_elab.specs.declared.built.Built.{Built}
use Rattle.expr_elab.specs.declared.built.Fixed.{Fixed}
use Rattle.expr_elab.specs.declared.built.Fixed.TheVariants.{Up, Down}
use Rattle.expr_elab.specs.declared.built.Picked.{Picked}
use Rattle.expr_elab.specs.declared.built.Picked.TheVariants.{Bit, Bounds, Counted}
use Rattle.expr_elab.specs.declared.built.Choice.{Choice}
use Rattle.expr_elab.specs.Options.{and_then}
use Rattle.expr_elab.specs.Vectors.{is_rising}
use Rattle.expr_elab.specs.Numbers.{fixed, count_within, count_of}
use Rattle.expr_elab.specs.Formed.{IsClosed, OfEach, AreClosed}
use Rattle.expr_elab.specs.Selects.{choice, count_between, indices_from, bounds_count, fixed_count, choice_of}
use Rattle.expr_elab.proofs.Choices.{mapped, chained, both_there, if_so, anything}

-- ---- counts

count_wide : (n : ℕ) → IfSome (count_within n) IsWidth
count_wide n = if_so IsWidth (nat_le 1 n && nat_le n 128) n (λ e. (leb-true 1 n (first (nat_le 1 n) e), leb-true n 128 (second (nat_le 1 n) e)))
  where
    first : (a : Bool) → (a && nat_le n 128) ≡ true → a ≡ true
    first true e = refl
    first false e = e

    second : (a : Bool) → (a && nat_le n 128) ≡ true → nat_le n 128 ≡ true
    second true e = e
    second false e = cc

between_wide : (a b : ℕ) → IfSome (count_between a b) IsWidth
between_wide a b = by (nat_le a b)
  where
    by : (t : Bool) → IfSome (cond t (count_within (b - a + 1)) None) IsWidth
    by true = count_wide (b - a + 1)
    by false = tt

indices_wide : (a b : Fixed) → IfSome (indices_from a b) IsWidth
indices_wide (Up a) (Up b) = between_wide a b
indices_wide (Up a) (Down b) = tt
indices_wide (Down a) (Up b) = count_wide (a + b + 1)
indices_wide (Down a) (Down b) = between_wide b a

bounds_wide : (x y : Built) → IfSome (bounds_count x y) IsWidth
bounds_wide x y = both_there (λ a. Unit {0}) (λ b. Unit {0}) IsWidth indices_from (λ a b u v. indices_wide a b) (fixed x) (fixed y) (anything (fixed x)) (anything (fixed y))

count_of_wide : (i : Fixed) → IfSome (count_of i) IsWidth
count_of_wide (Up n) = count_wide n
count_of_wide (Down n) = tt

pub fixed_wide : (x : Built) → IfSome (fixed_count x) IsWidth
fixed_wide x = chained (λ i. Unit {0}) IsWidth count_of (λ i u. count_of_wide i) (fixed x) (anything (fixed x))

-- ---- choices

module _ (P : Built → Type 0) where
  abbrev pub IsChoice : Choice → Type 0
  IsChoice c = IsWidth c.window.count × P c.index

  pub choice_is : (r : Range) (p : Picked) → OfEach P p → IfSome (choice_of r p) IsChoice
  choice_is r (Bit x) g = ((omega arith, omega arith), g)
  choice_is r (Bounds left right) g = by (is_rising r)
    where
      by : (b : Bool) → IfSome (cond b (option_map (choice r false left) (bounds_count left right)) (option_map (choice r false right) (bounds_count right left))) IsChoice
      by true = mapped IsWidth IsChoice (choice r false left) (λ n w. (w, g.0)) (bounds_count left right) (bounds_wide left right)
      by false = mapped IsWidth IsChoice (choice r false right) (λ n w. (w, g.1)) (bounds_count right left) (bounds_wide right left)
  choice_is r (Counted base count down) g = mapped IsWidth IsChoice (choice r down base) (λ n w. (w, g.0)) (fixed_count count) (fixed_wide count)

  pub range_is : (r : Option Range) (p : Picked) → OfEach P p → IfSome (and_then (λ r. choice_of r p) r) IsChoice
  range_is r p g = chained (λ r. Unit {0}) IsChoice (λ r. choice_of r p) (λ r u. choice_is r p g) r (anything r)

pub chosen_is : (r : Range) (p : Picked) (o : Option Choice) (c : Choice) → AreClosed p → o ≡ choice_of r p → o ≡ Some c → (1 ≤ c.window.count) × IsClosed c.index
chosen_is r p o c closed is some =
    let g = subst (λ o. IfSome o (IsChoice IsClosed)) (sym is ∙ some) (choice_is IsClosed r p closed) in (g.0.0, g.1)
