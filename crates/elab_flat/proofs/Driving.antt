-- Which bits a body drives, form by form, and as code that goes over lists meets them.
use Rattle.std.proofs.Common.{◌≡◌, ℕ, ◌+◌, ◌<◌, Bool, false, ◌||◌, true, List, [], ◌∷◌, ◌++◌, get_or, take, drop, length, refl, ap, sym, ◌∙◌}
use Rattle.std.specs.Prelude.{flat_map}
use Rattle.std.proofs.lemmas.List.{take_more, take-append-drop, append-nil}
use Rattle.std.proofs.lemmas.Grind.{flat_map-append}
use denote.Hole.Carrier.{hidden}
use mathlib.Core.Former.{Count}
use Rattle.bit_exprs.specs.declared.forms.Expr.{Expr}
use Rattle.bit_exprs.specs.declared.forms.Part.{Part}
use Rattle.bit_exprs.specs.Named.{among, part_bits}
use Rattle.bit_exprs.proofs.Given.{among-append}
use Rattle.design_core.specs.declared.flat.Stmt.{Stmt, Branch, Block, Row_of-Stmt, end_of-Stmt, more_of-Stmt, items-the_row-Stmt, items_hidden-the_row-Stmt-1}
use Rattle.design_core.specs.declared.flat.Stmt.TheVariants.{Block'}
use Rattle.design_core.specs.declared.flat.Stmt.TheBlock.{hidden-the_row-Stmt-0}
use Rattle.design_core.specs.Drive.{drives, any_drives}

or_assoc : (a b c : Bool) → (a || b) || c ≡ a || (b || c)
or_assoc true b c = refl
or_assoc false b c = refl

or_nothing : (a : Bool) → a || false ≡ a
or_nothing false = refl
or_nothing true = refl

module _ (site : ℕ) (test : Expr) (x y : Stmt) where
  drives_branch : (b : ℕ) → drives (Branch site test x y) b ≡ (drives x b || false) || (drives y b || false)
  unfolding hidden-the_row-Stmt-0 hidden
  drives_branch b = refl

  pub drives-Branch : drives (Branch site test x y) ≡ (λ b. drives x b || drives y b)
  drives-Branch j b = (drives_branch b ∙ (λ i. or_nothing (drives x b) i || or_nothing (drives y b) i)) j

-- some body of a list drives the bit
abbrev pub some_drives : List Stmt → ℕ → Bool
some_drives [] b = false
some_drives (s ∷ ss) b = drives s b || some_drives ss b

abbrev row_of : Stmt → (n : Count) × Row_of-Stmt n
row_of (Block' shape row) = (_, row)
row_of _ = (_, end_of-Stmt)

drives_row : (n : _) (row : Row_of-Stmt n) (b : ℕ) → any_drives row b ≡ some_drives (items-the_row-Stmt n row) b
drives_row n end_of-Stmt b = refl
drives_row n (more_of-Stmt s rest) b = ap (λ r. drives s b || r) (drives_row _ rest b)

pub drives-Block : (all : List Stmt) → drives (Block all) ≡ some_drives all
drives-Block all j b =
    let row = row_of (Block all) in
    (drives_row row.0 row.1 b ∙ ap (λ ss. some_drives ss b) (items_hidden-the_row-Stmt-1 all)) j

some-append : (xs ys : List Stmt) (b : ℕ) → some_drives (xs ++ ys) b ≡ some_drives xs b || some_drives ys b
some-append [] ys b = refl
some-append (x ∷ xs) ys b = ap (λ r. drives x b || r) (some-append xs ys b) ∙ sym (or_assoc (drives x b) (some_drives xs b) (some_drives ys b))

-- ---- lists, one more at a time

abbrev pub either : (ℕ → Bool) → (ℕ → Bool) → ℕ → Bool
either f g b = f b || g b

among_both : (xs ys : List ℕ) → among (xs ++ ys) ≡ either (among xs) (among ys)
among_both xs ys j b = among-append xs ys b j

module _ (bits : List ℕ) (k : ℕ) where
  pub bits_more : k < length bits → among (take (k + 1) bits) ≡ either (among (take k bits)) (among (get_or bits k 0 ∷ []))
  bits_more lt = ap among (take_more bits k 0 lt) ∙ among_both (take k bits) (get_or bits k 0 ∷ [])

  pub bits_rest : among bits ≡ either (among (take k bits)) (among (drop k bits))
  bits_rest = ap among (sym (take-append-drop k bits)) ∙ among_both (take k bits) (drop k bits)

module _ (parts : List Part) (k : ℕ) where
  pub parts_more : (p : Part) (bits : List ℕ) → p ≡ get_or parts k p → k < length parts → bits ≡ part_bits p →
      among (flat_map part_bits (take (k + 1) parts)) ≡ either (among (flat_map part_bits (take k parts))) (among bits)
  parts_more p bits at lt is =
      ap (λ ps. among (flat_map part_bits ps)) (take_more parts k p lt ∙ ap (λ x. take k parts ++ x ∷ []) (sym at))
      ∙ ap among (flat_map-append part_bits (take k parts) (p ∷ []) ∙ ap (λ xs. flat_map part_bits (take k parts) ++ xs) (append-nil (part_bits p) ∙ sym is))
      ∙ among_both (flat_map part_bits (take k parts)) bits

  pub parts_rest : among (flat_map part_bits parts) ≡ either (among (flat_map part_bits (take k parts))) (among (flat_map part_bits (drop k parts)))
  parts_rest =
      ap (λ ps. among (flat_map part_bits ps)) (sym (take-append-drop k parts)) ∙ ap among (flat_map-append part_bits (take k parts) (drop k parts))
      ∙ among_both (flat_map part_bits (take k parts)) (flat_map part_bits (drop k parts))

module _ (all : List Stmt) (k : ℕ) where
  pub bodies_more : (s : Stmt) → s ≡ get_or all k s → k < length all → some_drives (take (k + 1) all) ≡ either (some_drives (take k all)) (drives s)
  bodies_more s at lt j b =
      (ap (λ ss. some_drives ss b) (take_more all k s lt ∙ ap (λ x. take k all ++ x ∷ []) (sym at)) ∙ some-append (take k all) (s ∷ []) b
      ∙ ap (λ r. some_drives (take k all) b || r) (or_nothing (drives s b))) j

  pub bodies_rest : some_drives all ≡ either (some_drives (take k all)) (some_drives (drop k all))
  bodies_rest j b = (ap (λ ss. some_drives ss b) (sym (take-append-drop k all)) ∙ some-append (take k all) (drop k all) b) j
