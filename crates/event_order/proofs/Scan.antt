-- What a body reads and assigns, statement by statement.
use Rattle.std.proofs.Common.{◌≡◌, ℕ, Bool, true, false, not, ◌&&◌, ◌||◌, List, [], ◌∷◌, refl, sym, ap, ◌∙◌}
use denote.Hole.Carrier.{hidden}
use mathlib.Core.Former.{Count}
use Rattle.bit_exprs.specs.declared.forms.Expr.{Expr}
use Rattle.design_core.specs.declared.flat.Stmt.{Stmt, Branch, Block, Row_of-Stmt, end_of-Stmt, more_of-Stmt, items-the_row-Stmt, items_hidden-the_row-Stmt-1}
use Rattle.design_core.specs.declared.flat.Stmt.TheVariants.{Block'}
use Rattle.design_core.specs.declared.flat.Stmt.TheBlock.{hidden-the_row-Stmt-0}
use Rattle.bit_exprs.specs.Named.{reads}
use Rattle.design_core.specs.Drive.{always, any_always, needs, any_needs}

-- ---- equations at variants whose parts are boxed or listed

or_none : (a : Bool) → (a || false) ≡ a
or_none true = refl
or_none false = refl

and_none : (a : Bool) → (a && false) ≡ false
and_none true = refl
and_none false = refl

pub always-Branch : (site : ℕ) (test : Expr) (x y : Stmt) (b : ℕ) → always (Branch site test x y) b ≡ (always x b && always y b)
unfolding hidden-the_row-Stmt-0 hidden
always-Branch site test x y b = λ j. or_none (always x b) j && or_none (always y b) j

pub needs-Branch : (site : ℕ) (test : Expr) (x y : Stmt) (b : ℕ) → needs (Branch site test x y) b ≡ (reads test b || (needs x b || needs y b))
unfolding hidden-the_row-Stmt-0 hidden
needs-Branch site test x y b =
    let one : (s : Stmt) → (needs s b || (not (always s b) && false)) ≡ needs s b = λ s. ap (λ z. needs s b || z) (and_none (not (always s b))) ∙ or_none (needs s b) in
    λ j. reads test b || (one x j || one y j)

-- a fold over the statements by a test of one of them
abbrev pub each : (Stmt → Bool → Bool) → List Stmt → Bool
each f [] = false
each f (s ∷ rest) = f s (each f rest)

abbrev pub or_always : ℕ → Stmt → Bool → Bool
or_always b s rest = always s b || rest

abbrev pub or_needs : ℕ → Stmt → Bool → Bool
or_needs b s rest = needs s b || (not (always s b) && rest)

always_row : (n : _) (row : Row_of-Stmt n) (b : ℕ) → any_always row b ≡ each (or_always b) (items-the_row-Stmt n row)
always_row n end_of-Stmt b = refl
always_row n (more_of-Stmt s rest) b = ap (λ r. always s b || r) (always_row _ rest b)

needs_row : (n : _) (row : Row_of-Stmt n) (b : ℕ) → any_needs row b ≡ each (or_needs b) (items-the_row-Stmt n row)
needs_row n end_of-Stmt b = refl
needs_row n (more_of-Stmt s rest) b = ap (λ r. needs s b || (not (always s b) && r)) (needs_row _ rest b)

abbrev row_of : Stmt → (n : Count) × Row_of-Stmt n
row_of (Block' shape row) = (_, row)
row_of _ = (_, end_of-Stmt)

pub always_begin : (body : Stmt) (all items : List Stmt) (b : ℕ) → body ≡ Block all → items ≡ all → each (or_always b) items ≡ always body b
always_begin body all items b is listed =
    let row = row_of (Block all) in
    ap (each (or_always b)) (listed ∙ sym (items_hidden-the_row-Stmt-1 all)) ∙ sym (always_row row.0 row.1 b) ∙ ap (λ s. always s b) (sym is)

pub needs_begin : (body : Stmt) (all items : List Stmt) (b : ℕ) → body ≡ Block all → items ≡ all → each (or_needs b) items ≡ needs body b
needs_begin body all items b is listed =
    let row = row_of (Block all) in
    ap (each (or_needs b)) (listed ∙ sym (items_hidden-the_row-Stmt-1 all)) ∙ sym (needs_row row.0 row.1 b) ∙ ap (λ s. needs s b) (sym is)

or_first : (a b : Bool) → a ≡ true → (a || b) ≡ true
or_first true b h = refl
or_first false b h = cc

or_second : (a b : Bool) → a ≡ false → (a || b) ≡ b
or_second true b h = cc
or_second false b h = refl

-- ---- a branch by its parts

pub always_branch : (body x y : Stmt) (site : ℕ) (test : Expr) (b : ℕ) → body ≡ Branch site test x y → always body b ≡ (always x b && always y b)
always_branch body x y site test b is = ap (λ (s : Stmt). always s b) is ∙ always-Branch site test x y b

pub needs_branch : (body x y : Stmt) (site : ℕ) (test : Expr) (b : ℕ) → body ≡ Branch site test x y → needs body b ≡ (reads test b || (needs x b || needs y b))
needs_branch body x y site test b is = ap (λ (s : Stmt). needs s b) is ∙ needs-Branch site test x y b

-- where an earlier part reads the bit, the rest doesn't matter
pub needs_test : (body x y : Stmt) (site : ℕ) (test : Expr) (b : ℕ) → body ≡ Branch site test x y → reads test b ≡ true → needs body b ≡ true
needs_test body x y site test b is h = needs_branch body x y site test b is ∙ or_first (reads test b) (needs x b || needs y b) h

pub needs_then : (body x y : Stmt) (site : ℕ) (test : Expr) (b : ℕ) → body ≡ Branch site test x y → reads test b ≡ false → needs x b ≡ true → needs body b ≡ true
needs_then body x y site test b is h k =
    needs_branch body x y site test b is ∙ or_second (reads test b) (needs x b || needs y b) h ∙ or_first (needs x b) (needs y b) k

pub needs_else : (body x y : Stmt) (site : ℕ) (test : Expr) (b : ℕ) → body ≡ Branch site test x y → reads test b ≡ false → needs x b ≡ false → needs body b ≡ needs y b
needs_else body x y site test b is h k =
    needs_branch body x y site test b is ∙ or_second (reads test b) (needs x b || needs y b) h ∙ or_second (needs x b) (needs y b) k

pub always_then : (body x y : Stmt) (site : ℕ) (test : Expr) (b : ℕ) → body ≡ Branch site test x y → always x b ≡ true → always body b ≡ always y b
always_then body x y site test b is h = always_branch body x y site test b is ∙ ap (λ a. a && always y b) h

pub always_else : (body x y : Stmt) (site : ℕ) (test : Expr) (b : ℕ) → body ≡ Branch site test x y → always x b ≡ false → always body b ≡ false
always_else body x y site test b is h = always_branch body x y site test b is ∙ ap (λ a. a && always y b) h
