-- Expressions, as the code makes their words.
use Rattle.std.proofs.Common.{◌≡◌, ℕ, ◌+◌, ◌<◌, Bool, ◌&&◌, List, [], ◌∷◌, length, map, drop, get_or, sym, ap, ◌∙◌, subst, Option}
use Rattle.aig_core.specs.Graph.{Graph}
use Rattle.word_blast.specs.Words.{one_bit, fold_of, circuit_any, circuit_mux}
use Rattle.word_blast.proofs.Combinators.{fold_of-more}
use Rattle.bit_exprs.specs.declared.forms.Expr.{Expr, Select, Unary, Binary, Choose, Logical}
use Rattle.bit_exprs.specs.declared.forms.UnaryOp.{UnaryOp}
use Rattle.bit_exprs.specs.declared.forms.BinaryOp.{BinaryOp}
use Rattle.bit_exprs.specs.declared.forms.Window.{Window}
use Rattle.bit_exprs.specs.Values.{width_of, sign_of}
use Rattle.bit_exprs.specs.Formed.{IsWidth, IsFormed}
use Rattle.bit_exprs.proofs.Widths.{width_some, width_most}
use Rattle.expr_blast.specs.Circuits.{constant, literal_at, unary_of, binary_of, operand_step, select_from, word_of}
use Rattle.expr_blast.proofs.Forms.{word-Select, word-Unary, word-Binary, word-Choose, word-Logical, row_step}

module _ (expr e : Expr) (vector : List ℕ) (window : Window) (is : expr ≡ Select vector window e) where
  pub select_word : (g h k : Graph) (bits xs from rs : List ℕ) (s : Bool) → (h, xs) ≡ word_of e g bits → from ≡ map (literal_at bits) vector → s ≡ sign_of e → (k, rs) ≡ select_from window s xs from h 0 window.count →
      (k, rs) ≡ word_of expr g bits
  select_word g h k bits xs from rs s ex ef es er =
      er ∙ (λ j. select_from window (es j) (ex j).1 (ef j) (ex j).0 0 window.count) ∙ sym (word-Select vector window e g bits) ∙ ap (λ x. word_of x g bits) (sym is)

module _ (expr e : Expr) (op : UnaryOp) (is : expr ≡ Unary op e) where
  pub unary_word : (g h k : Graph) (bits xs rs : List ℕ) → (h, xs) ≡ word_of e g bits → (k, rs) ≡ unary_of op h xs → (k, rs) ≡ word_of expr g bits
  unary_word g h k bits xs rs ex er = er ∙ ap (λ (p : Graph × List ℕ). unary_of op p.0 p.1) ex ∙ sym (word-Unary op e g bits) ∙ ap (λ x. word_of x g bits) (sym is)

module _ (expr e f : Expr) (op : BinaryOp) (is : expr ≡ Binary op e f) where
  pub binary_word : (g h i k : Graph) (bits xs ys rs : List ℕ) (s t z : Bool) → (h, xs) ≡ word_of e g bits → (i, ys) ≡ word_of f h bits → s ≡ sign_of e → t ≡ sign_of f → z ≡ (s && t) → (k, rs) ≡ binary_of op z i xs ys →
      (k, rs) ≡ word_of expr g bits
  binary_word g h i k bits xs ys rs s t z ex ey es et ez er =
      let ey' : (i, ys) ≡ word_of f (word_of e g bits).0 bits = ey ∙ ap (λ (p : Graph × List ℕ). word_of f p.0 bits) ex in
      er ∙ (λ j. binary_of op ((ez ∙ (λ m. es m && et m)) j) (ey' j).0 (ex j).1 (ey' j).1) ∙ sym (word-Binary op e f g bits) ∙ ap (λ x. word_of x g bits) (sym is)

module _ (expr c e f : Expr) (is : expr ≡ Choose c e f) where
  pub choose_word : (g h t i m k : Graph) (bits ws xs ys rs : List ℕ) (r : ℕ) → (h, ws) ≡ word_of c g bits → (t, r) ≡ circuit_any h ws → (i, xs) ≡ word_of e t bits → (m, ys) ≡ word_of f i bits → (k, rs) ≡ circuit_mux m r xs ys →
      (k, rs) ≡ word_of expr g bits
  choose_word g h t i m k bits ws xs ys rs r ew et ex ey er =
      let test : Graph × ℕ = circuit_any (word_of c g bits).0 (word_of c g bits).1 in
      let et' : (t, r) ≡ test = et ∙ ap (λ (p : Graph × List ℕ). circuit_any p.0 p.1) ew in
      let ex' : (i, xs) ≡ word_of e test.0 bits = ex ∙ ap (λ (p : Graph × ℕ). word_of e p.0 bits) et' in
      let ey' : (m, ys) ≡ word_of f (word_of e test.0 bits).0 bits = ey ∙ ap (λ (p : Graph × List ℕ). word_of f p.0 bits) ex' in
      er ∙ (λ j. circuit_mux (ey' j).0 (et' j).1 (ex' j).1 (ey' j).1) ∙ sym (word-Choose c e f g bits) ∙ ap (λ x. word_of x g bits) (sym is)

module _ (expr : Expr) (and : Bool) (chain : Option ℕ) (all : List Expr) (is : expr ≡ Logical and chain all) where
  pub logical_word : (g h : Graph) (bits rs : List ℕ) (r : ℕ) → (h, r) ≡ fold_of (row_step and bits) g (constant and) all → rs ≡ r ∷ [] → (h, rs) ≡ word_of expr g bits
  logical_word g h bits rs r er es = (λ j. (h, es j)) ∙ ap one_bit er ∙ sym (word-Logical and chain all g bits) ∙ ap (λ x. word_of x g bits) (sym is)

-- one operand more of a row
pub row_more : (and : Bool) (g m h : Graph) (e r : ℕ) (bits ws : List ℕ) (x d : Expr) (all : List Expr) (i : ℕ) → i < length all → x ≡ get_or all i d → (m, ws) ≡ word_of x g bits → (h, r) ≡ operand_step and e m ws →
    fold_of (row_step and bits) g e (drop i all) ≡ fold_of (row_step and bits) h r (drop (i + 1) all)
row_more and g m h e r bits ws x d all i lt ex ew er =
    let step : (h, r) ≡ row_step and bits g e x = er ∙ ap (λ (p : Graph × List ℕ). operand_step and e p.0 p.1) ew in
    fold_of-more (row_step and bits) g h e r x d all i lt ex (ap (λ (p : Graph × ℕ). p.0) step) (ap (λ (p : Graph × ℕ). p.1) step)

-- a formed operand has 1 to 128 bits
pub is_wide : (e : Expr) (n w : ℕ) → IsFormed e n → w ≡ width_of e → IsWidth w
is_wide e n w f ew = subst IsWidth (sym ew) (width_some e n f, width_most e n f)
