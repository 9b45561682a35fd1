-- Expressions, as the code goes over them.
use Rattle.std.proofs.Common.{◌≡◌, ℕ, ◌<◌, get_or, nat_eq, Bool, cond, ◌&&◌, List, map, length, sym, ap, ◌∙◌, subst, Option}
use Rattle.std.specs.Prelude.{All}
use Rattle.word_core.specs.Words.{bit}
use Rattle.bit_exprs.specs.declared.forms.Expr.{Expr, Select, Unary, Binary, Choose, Logical}
use Rattle.bit_exprs.specs.declared.forms.UnaryOp.{UnaryOp}
use Rattle.bit_exprs.specs.declared.forms.BinaryOp.{BinaryOp}
use Rattle.bit_exprs.specs.declared.forms.Window.{Window}
use Rattle.bit_exprs.specs.Operators.{unary_width, unary_sign, unary_value, binary_width, binary_sign, binary_value}
use Rattle.bit_exprs.specs.Values.{bit_at, width_of, sign_of, value_of, selected, row_holds}
use Rattle.bit_exprs.specs.Formed.{IsWidth, AreBits, Takes, TakesBoth, IsFormed}
use Rattle.bit_exprs.proofs.Equations.{width-Select, width-Logical, width-Unary, width-Binary, width-Choose, sign-Unary, sign-Binary, sign-Choose, value-Select, value-Unary, value-Binary, value-Choose, value-Logical, formed-Select, formed-Unary, formed-Binary, formed-Choose, formed-Logical}

module _ (expr e : Expr) (vector : List ℕ) (window : Window) (is : expr ≡ Select vector window e) where
  pub select_formed : (n : ℕ) → IsFormed expr n → AreBits n vector × IsWidth window.count × IsFormed e n
  select_formed n h = formed-Select vector window e n (subst (λ x. IsFormed x n) is h)

  pub select_width_is : (r : ℕ) → r ≡ window.count → r ≡ width_of expr
  select_width_is r er = er ∙ sym (width-Select vector window e) ∙ ap width_of (sym is)

  pub select_value : (v : List Bool) (w a r : ℕ) (s : Bool) → w ≡ width_of e → a ≡ value_of e v → s ≡ sign_of e → r ≡ selected window (map (bit_at v) vector) w s a → r ≡ value_of expr v
  select_value v w a r s ew ea es er =
      er ∙ (λ j. selected window (map (bit_at v) vector) (ew j) (es j) (ea j)) ∙ sym (value-Select vector window e v) ∙ ap (λ x. value_of x v) (sym is)

module _ (expr e : Expr) (op : UnaryOp) (is : expr ≡ Unary op e) where
  pub unary_formed : (n : ℕ) → IsFormed expr n → Takes op (width_of e) × IsFormed e n
  unary_formed n h = formed-Unary op e n (subst (λ x. IsFormed x n) is h)

  pub unary_takes : (n w : ℕ) → IsFormed expr n → w ≡ width_of e → Takes op w
  unary_takes n w h ew = subst (Takes op) (sym ew) (unary_formed n h).0

  pub unary_sign_is : (s r : Bool) → s ≡ sign_of e → r ≡ unary_sign op s → r ≡ sign_of expr
  unary_sign_is s r es er = er ∙ ap (unary_sign op) es ∙ sym (sign-Unary op e) ∙ ap sign_of (sym is)

  pub unary_width_is : (w r : ℕ) → w ≡ width_of e → r ≡ unary_width op w → r ≡ width_of expr
  unary_width_is w r ew er = er ∙ ap (unary_width op) ew ∙ sym (width-Unary op e) ∙ ap width_of (sym is)

  pub unary_value_is : (v : List Bool) (w a r : ℕ) → w ≡ width_of e → a ≡ value_of e v → r ≡ unary_value op w a → r ≡ value_of expr v
  unary_value_is v w a r ew ea er = er ∙ (λ j. unary_value op (ew j) (ea j)) ∙ sym (value-Unary op e v) ∙ ap (λ x. value_of x v) (sym is)

module _ (expr e f : Expr) (op : BinaryOp) (is : expr ≡ Binary op e f) where
  pub binary_formed : (n : ℕ) → IsFormed expr n → TakesBoth op (width_of e) (width_of f) × IsFormed e n × IsFormed f n
  binary_formed n h = formed-Binary op e f n (subst (λ x. IsFormed x n) is h)

  pub binary_takes : (n w u : ℕ) → IsFormed expr n → w ≡ width_of e → u ≡ width_of f → TakesBoth op w u
  binary_takes n w u h ew eu = subst (λ k. TakesBoth op k u) (sym ew) (subst (TakesBoth op (width_of e)) (sym eu) (binary_formed n h).0)

  pub binary_sign_is : (s t r : Bool) → s ≡ sign_of e → t ≡ sign_of f → r ≡ binary_sign op s t → r ≡ sign_of expr
  binary_sign_is s t r es et er = er ∙ (λ j. binary_sign op (es j) (et j)) ∙ sym (sign-Binary op e f) ∙ ap sign_of (sym is)

  pub binary_width_is : (w u r : ℕ) → w ≡ width_of e → u ≡ width_of f → r ≡ binary_width op w u → r ≡ width_of expr
  binary_width_is w u r ew eu er = er ∙ (λ j. binary_width op (ew j) (eu j)) ∙ sym (width-Binary op e f) ∙ ap width_of (sym is)

  pub binary_value_is : (v : List Bool) (s t z : Bool) (w u a b r : ℕ) → s ≡ sign_of e → t ≡ sign_of f → z ≡ (s && t) → w ≡ width_of e → u ≡ width_of f → a ≡ value_of e v → b ≡ value_of f v →
      r ≡ binary_value op z w u a b → r ≡ value_of expr v
  binary_value_is v s t z w u a b r es et ez ew eu ea eb er =
      er ∙ (λ j. binary_value op ((ez ∙ (λ i. es i && et i)) j) (ew j) (eu j) (ea j) (eb j)) ∙ sym (value-Binary op e f v) ∙ ap (λ x. value_of x v) (sym is)

module _ (expr c e f : Expr) (is : expr ≡ Choose c e f) where
  pub choose_formed : (n : ℕ) → IsFormed expr n → (width_of f ≡ width_of e) × IsFormed c n × IsFormed e n × IsFormed f n
  choose_formed n h = formed-Choose c e f n (subst (λ x. IsFormed x n) is h)

  pub choose_sign_is : (s t r : Bool) → s ≡ sign_of e → t ≡ sign_of f → r ≡ (s && t) → r ≡ sign_of expr
  choose_sign_is s t r es et er = er ∙ (λ j. es j && et j) ∙ sym (sign-Choose c e f) ∙ ap sign_of (sym is)

  pub choose_width_is : width_of e ≡ width_of expr
  choose_width_is = sym (width-Choose c e f) ∙ ap width_of (sym is)

  pub choose_value_is : (v : List Bool) (k : ℕ) (b : Bool) → k ≡ value_of c v → nat_eq k 0 ≡ b → cond b (value_of f v) (value_of e v) ≡ value_of expr v
  choose_value_is v k b ek eb =
      ap (λ z. cond z (value_of f v) (value_of e v)) (sym eb ∙ ap (λ m. nat_eq m 0) ek) ∙ sym (value-Choose c e f v) ∙ ap (λ x. value_of x v) (sym is)

module _ (expr : Expr) (and : Bool) (chain : Option ℕ) (all : List Expr) (is : expr ≡ Logical and chain all) where
  pub logical_formed : (n : ℕ) → IsFormed expr n → All (λ e. IsFormed e n) all
  logical_formed n h = formed-Logical and chain all n (subst (λ x. IsFormed x n) is h)

  pub operand_formed : (n : ℕ) (items : List Expr) (i : ℕ) (x : Expr) → IsFormed expr n → items ≡ all → i < length items → x ≡ get_or items i x → IsFormed x n
  operand_formed n items i x f e lt ex = subst (λ y. IsFormed y n) (sym ex) (subst (All (λ y. IsFormed y n)) (sym e) (logical_formed n f) i x lt)

  pub logical_width_is : (r : ℕ) → r ≡ 1 → r ≡ width_of expr
  logical_width_is r er = er ∙ sym (width-Logical and chain all) ∙ ap width_of (sym is)

  pub logical_value_is : (v : List Bool) (h : Bool) (r : ℕ) → h ≡ row_holds and (map (λ e. value_of e v) all) → r ≡ bit h → r ≡ value_of expr v
  logical_value_is v h r eh er = er ∙ ap bit eh ∙ sym (value-Logical and chain all v) ∙ ap (λ x. value_of x v) (sym is)
