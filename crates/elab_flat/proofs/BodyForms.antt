-- What is asked of a body of a design, put together from what is asked of its parts.
use Rattle.std.proofs.Common.{◌≡◌, ℕ, ◌+◌, ◌<◌, Bool, true, false, not, ◌&&◌, ◌||◌, List, refl, sym, ◌∙◌, subst, ⊎_elim}
use Rattle.std.specs.Prelude.{All}
use Rattle.std.proofs.lemmas.Bool.{false≢true}
use Rattle.std.proofs.lemmas.List.Elements.{All-head, All-tail}
use denote.Hole.Carrier.{hidden}
use mathlib.Core.Former.{Count}
use Rattle.bit_exprs.specs.declared.forms.Expr.{Expr}
use Rattle.bit_exprs.specs.Named.{reads}
use Rattle.bit_exprs.specs.Formed.{IsFormed}
use Rattle.design_core.specs.declared.flat.Stmt.{Stmt, Branch, Block, Row_of-Stmt, end_of-Stmt, more_of-Stmt, items-the_row-Stmt, items_hidden-the_row-Stmt-1}
use Rattle.design_core.specs.declared.flat.Stmt.TheVariants.{Block'}
use Rattle.design_core.specs.declared.flat.Stmt.TheBlock.{hidden-the_row-Stmt-0}
use Rattle.design_core.specs.Bounds.{IsWithin, AreWithin, AssignsBy, AssignBy}
use Rattle.design_core.specs.Drive.{needs, any_needs, always}
use Rattle.design_core.proofs.Truth.{or_cases}

-- ---- branches

module _ (site : ℕ) (test : Expr) (x y : Stmt) where
  pub within-branch : (n m : ℕ) → site + 1 < m → IsFormed test n → IsWithin x n m → IsWithin y n m → IsWithin (Branch site test x y) n m
  unfolding hidden-the_row-Stmt-0 hidden
  within-branch n m lt r h k = (lt, r, (h, tt), (k, tt))

  pub assigns-branch : (kind : Bool) → AssignsBy kind x → AssignsBy kind y → AssignsBy kind (Branch site test x y)
  unfolding hidden-the_row-Stmt-0 hidden
  assigns-branch kind h k = ((h, tt), (k, tt))

  needs_branch : (b : ℕ) → needs (Branch site test x y) b ≡ reads test b || ((needs x b || (not (always x b) && false)) || (needs y b || (not (always y b) && false)))
  unfolding hidden-the_row-Stmt-0 hidden
  needs_branch b = refl

  pub needs-branch : {A : Type 0} (b : ℕ) → (reads test b ≡ true → A) → (needs x b ≡ true → A) → (needs y b ≡ true → A) → needs (Branch site test x y) b ≡ true → A
  needs-branch b r f g h =
      ⊎_elim r
      (λ e. ⊎_elim (λ k. f (first (needs x b) (always x b) k)) (λ k. g (first (needs y b) (always y b) k)) (or_cases _ _ e))
      (or_cases (reads test b) _ (sym (needs_branch b) ∙ h))
    where
      first : (a c : Bool) → a || (not c && false) ≡ true → a ≡ true
      first true c e = refl
      first false true e = e
      first false false e = e

-- ---- blocks

abbrev row_of : Stmt → (n : Count) × Row_of-Stmt n
row_of (Block' shape row) = (_, row)
row_of _ = (_, end_of-Stmt)

within_row : (n : _) (row : Row_of-Stmt n) (bits sites : ℕ) → All (λ s. IsWithin s bits sites) (items-the_row-Stmt n row) → AreWithin row bits sites
within_row n end_of-Stmt bits sites h = tt
within_row n (more_of-Stmt s rest) bits sites h = (All-head (λ s. IsWithin s bits sites) s _ h, within_row _ rest bits sites (All-tail (λ s. IsWithin s bits sites) s _ h))

assigns_row : (n : _) (row : Row_of-Stmt n) (kind : Bool) → All (AssignsBy kind) (items-the_row-Stmt n row) → AssignBy kind row
assigns_row n end_of-Stmt kind h = tt
assigns_row n (more_of-Stmt s rest) kind h = (All-head (AssignsBy kind) s _ h, assigns_row _ rest kind (All-tail (AssignsBy kind) s _ h))

needs_row : {A : Type 0} (n : _) (row : Row_of-Stmt n) (b : ℕ) → All (λ s. needs s b ≡ true → A) (items-the_row-Stmt n row) → any_needs row b ≡ true → A
needs_row n end_of-Stmt b each h = absurd (false≢true h)
needs_row {A} n (more_of-Stmt s rest) b each h =
    ⊎_elim (All-head (λ s. needs s b ≡ true → A) s _ each)
    (λ e. needs_row _ rest b (All-tail (λ s. needs s b ≡ true → A) s _ each) (second (always s b) (any_needs rest b) e))
    (or_cases (needs s b) (not (always s b) && any_needs rest b) h)
  where
    second : (a c : Bool) → not a && c ≡ true → c ≡ true
    second true c e = absurd (false≢true e)
    second false c e = e

module _ (all : List Stmt) where
  pub within-block : (bits sites : ℕ) → All (λ s. IsWithin s bits sites) all → IsWithin (Block all) bits sites
  within-block bits sites h =
      let row = row_of (Block all) in
      within_row row.0 row.1 bits sites (subst (All (λ s. IsWithin s bits sites)) (sym (items_hidden-the_row-Stmt-1 all)) h)

  pub assigns-block : (kind : Bool) → All (AssignsBy kind) all → AssignsBy kind (Block all)
  assigns-block kind h =
      let row = row_of (Block all) in
      assigns_row row.0 row.1 kind (subst (All (AssignsBy kind)) (sym (items_hidden-the_row-Stmt-1 all)) h)

  pub needs-block : {A : Type 0} (b : ℕ) → All (λ s. needs s b ≡ true → A) all → needs (Block all) b ≡ true → A
  needs-block {A} b each h =
      let row = row_of (Block all) in
      needs_row row.0 row.1 b (subst (All (λ s. needs s b ≡ true → A)) (sym (items_hidden-the_row-Stmt-1 all)) each) h
