-- What expressions and targets name, part by part.
use Rattle.std.proofs.Common.{◌≡◌, ℕ, ◌+◌, ◌<◌, ◌≤◌, Bool, true, false, ◌||◌, List, length, map, drop, get_or, sym, ap, ◌∙◌, Option}
use Rattle.std.specs.Prelude.{flat_map}
use Rattle.std.proofs.lemmas.List.{at_drop_more, drop_all}
use Rattle.std.proofs.lemmas.Bool.{or_left}
use Rattle.word_core.specs.Words.{any}
use Rattle.bit_exprs.specs.declared.forms.Expr.{Expr, Select, Unary, Binary, Choose, Logical}
use Rattle.bit_exprs.specs.declared.forms.UnaryOp.{UnaryOp}
use Rattle.bit_exprs.specs.declared.forms.BinaryOp.{BinaryOp}
use Rattle.bit_exprs.specs.declared.forms.Window.{Window}
use Rattle.bit_exprs.specs.declared.forms.Part.{Part}
use Rattle.bit_exprs.specs.Named.{among, reads, certain_part}
use Rattle.bit_exprs.proofs.Equations.{reads-Select, reads-Unary, reads-Binary, reads-Choose, reads-Logical}
use Rattle.bit_exprs.proofs.Given.{among-append}

module _ (expr e : Expr) (vector : List ℕ) (window : Window) (is : expr ≡ Select vector window e) where
  pub reads_select : (b : ℕ) (x y r : Bool) → x ≡ among vector b → y ≡ reads e b → r ≡ x || y → r ≡ reads expr b
  reads_select b x y r ex ey er = er ∙ (λ j. ex j || ey j) ∙ sym (reads-Select vector window e b) ∙ ap (λ z. reads z b) (sym is)

module _ (expr e : Expr) (op : UnaryOp) (is : expr ≡ Unary op e) where
  pub reads_unary : (b : ℕ) (r : Bool) → r ≡ reads e b → r ≡ reads expr b
  reads_unary b r er = er ∙ sym (reads-Unary op e b) ∙ ap (λ z. reads z b) (sym is)

module _ (expr e f : Expr) (op : BinaryOp) (is : expr ≡ Binary op e f) where
  pub reads_binary : (b : ℕ) (x y r : Bool) → x ≡ reads e b → y ≡ reads f b → r ≡ x || y → r ≡ reads expr b
  reads_binary b x y r ex ey er = er ∙ (λ j. ex j || ey j) ∙ sym (reads-Binary op e f b) ∙ ap (λ z. reads z b) (sym is)

module _ (expr c e f : Expr) (is : expr ≡ Choose c e f) where
  pub reads_choose : (b : ℕ) (w x y r : Bool) → w ≡ reads c b → x ≡ reads e b → y ≡ reads f b → r ≡ w || (x || y) → r ≡ reads expr b
  reads_choose b w x y r ew ex ey er = er ∙ (λ j. ew j || (ex j || ey j)) ∙ sym (reads-Choose c e f b) ∙ ap (λ z. reads z b) (sym is)

-- ---- a row

module _ (expr : Expr) (and : Bool) (chain : Option ℕ) (all : List Expr) (is : expr ≡ Logical and chain all) (b : ℕ) where
  row_reads : (items : List Expr) → items ≡ all → any (map (λ e. reads e b) items) ≡ reads expr b
  row_reads items e = ap (λ es. any (map (λ e. reads e b) es)) e ∙ sym (reads-Logical and chain all b) ∙ ap (λ z. reads z b) (sym is)

  pub reads_found : (items : List Expr) (i : ℕ) (x : Expr) → items ≡ all → i < length items → x ≡ get_or items i x → reads x b ≡ true →
      any (map (λ e. reads e b) (drop i items)) ≡ any (map (λ e. reads e b) items) → true ≡ reads expr b
  reads_found items i x e lt at h so_far =
      sym (at_drop_more (λ es. any (map (λ e. reads e b) es)) items i x lt
      ∙ ap (λ y. reads y b || any (map (λ e. reads e b) (drop (i + 1) items))) (sym at)
      ∙ or_left (reads x b) (any (map (λ e. reads e b) (drop (i + 1) items))) h)
      ∙ so_far ∙ row_reads items e

  pub reads_none : (items : List Expr) (i : ℕ) → items ≡ all → length items ≤ i →
      any (map (λ e. reads e b) (drop i items)) ≡ any (map (λ e. reads e b) items) → false ≡ reads expr b
  reads_none items i e past so_far = sym (ap (λ es. any (map (λ e. reads e b) es)) (drop_all i items past)) ∙ so_far ∙ row_reads items e

-- ---- parts

or_second : (a b : Bool) → a ≡ false → a || b ≡ b
or_second a b h = ap (λ x. x || b) h

module _ (parts : List Part) (i b : ℕ) (p : Part) (total : Bool) (lt : i < length parts) (at : p ≡ get_or parts i p) where
  certain_first : among (flat_map certain_part (drop i parts)) b ≡ among (certain_part p) b || among (flat_map certain_part (drop (i + 1) parts)) b
  certain_first =
      at_drop_more (λ ps. among (flat_map certain_part ps) b) parts i p lt
      ∙ among-append (certain_part (get_or parts i p)) (flat_map certain_part (drop (i + 1) parts)) b
      ∙ ap (λ q. among (certain_part q) b || among (flat_map certain_part (drop (i + 1) parts)) b) (sym at)

  pub certain_found : among (certain_part p) b ≡ true → among (flat_map certain_part (drop i parts)) b ≡ total → true ≡ total
  certain_found h so_far =
      sym (certain_first ∙ or_left (among (certain_part p) b) (among (flat_map certain_part (drop (i + 1) parts)) b) h) ∙ so_far

  pub certain_more : among (certain_part p) b ≡ false → among (flat_map certain_part (drop i parts)) b ≡ total → among (flat_map certain_part (drop (i + 1) parts)) b ≡ total
  certain_more h so_far =
      sym (certain_first ∙ or_second (among (certain_part p) b) (among (flat_map certain_part (drop (i + 1) parts)) b) h) ∙ so_far
