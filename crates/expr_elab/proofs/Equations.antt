-- What an expression is in a context, at the forms whose parts are boxed or listed.
use Rattle.std.proofs.Common.{◌≡◌, ℕ, Bool, refl, sym, ap, ◌∙◌}
use denote.Hole.Carrier.{hidden}
use Rattle.bit_exprs.specs.declared.forms.Expr.{Expr, Unary, Binary, Choose}
use Rattle.bit_exprs.specs.declared.forms.Expr.TheBlock.{hidden-the_row-Expr-0}
use Rattle.bit_exprs.specs.declared.forms.UnaryOp.{UnaryOp}
use Rattle.bit_exprs.specs.declared.forms.UnaryOp.TheVariants.{Extend}
use Rattle.bit_exprs.specs.declared.forms.BinaryOp.{BinaryOp}
use Rattle.expr_elab.specs.declared.built.UnaryPassing.{UnaryPassing}
use Rattle.expr_elab.specs.declared.built.UnaryPassing.TheVariants.{On}
use Rattle.expr_elab.specs.declared.built.BinaryPassing.{BinaryPassing}
use Rattle.expr_elab.specs.declared.built.BinaryPassing.TheVariants.{Both, Left}
use Rattle.expr_elab.specs.Contexts.{unary_passing, binary_passing, by_unary, by_binary, pushed}

module _ (w : ℕ) (s : Bool) where
  pub pushed-Unary : (op : UnaryOp) (e : Expr) → pushed w s (Unary op e) ≡ by_unary (unary_passing op) (Unary op (pushed w s e)) (Unary (Extend w s) e) (Unary (Extend w s) (Unary op e))
  unfolding hidden-the_row-Expr-0 hidden
  pushed-Unary op e = refl

  pub pushed-Binary : (op : BinaryOp) (e f : Expr) →
      pushed w s (Binary op e f) ≡ by_binary (binary_passing op) (Binary op (pushed w s e) (pushed w s f)) (Binary op (pushed w s e) f) (Unary (Extend w s) (Binary op e f))
  unfolding hidden-the_row-Expr-0 hidden
  pushed-Binary op e f = refl

  pub pushed-Choose : (c e f : Expr) → pushed w s (Choose c e f) ≡ Choose c (pushed w s e) (pushed w s f)
  unfolding hidden-the_row-Expr-0 hidden
  pushed-Choose c e f = refl

  -- ---- as the code goes over an expression that is known to be of the form

  module _ (expr e : Expr) (op : UnaryOp) (is : expr ≡ Unary op e) where
    unary_by : (k : UnaryPassing) → unary_passing op ≡ k → pushed w s expr ≡ by_unary k (Unary op (pushed w s e)) (Unary (Extend w s) e) (Unary (Extend w s) (Unary op e))
    unary_by k ek = ap (pushed w s) is ∙ pushed-Unary op e ∙ ap (λ k. by_unary k (Unary op (pushed w s e)) (Unary (Extend w s) e) (Unary (Extend w s) (Unary op e))) ek

    pub unary_on : (all x : Expr) → unary_passing op ≡ On → x ≡ pushed w s e → all ≡ Unary op x → all ≡ pushed w s expr
    unary_on all x ek ex ea = ea ∙ ap (Unary op) ex ∙ sym (unary_by On ek)

  module _ (expr e f : Expr) (op : BinaryOp) (is : expr ≡ Binary op e f) where
    binary_by : (k : BinaryPassing) → binary_passing op ≡ k →
        pushed w s expr ≡ by_binary k (Binary op (pushed w s e) (pushed w s f)) (Binary op (pushed w s e) f) (Unary (Extend w s) (Binary op e f))
    binary_by k ek =
        ap (pushed w s) is ∙ pushed-Binary op e f ∙ ap (λ k. by_binary k (Binary op (pushed w s e) (pushed w s f)) (Binary op (pushed w s e) f) (Unary (Extend w s) (Binary op e f))) ek

    pub binary_both : (all x y : Expr) → binary_passing op ≡ Both → x ≡ pushed w s e → y ≡ pushed w s f → all ≡ Binary op x y → all ≡ pushed w s expr
    binary_both all x y ek ex ey ea = ea ∙ (λ j. Binary op (ex j) (ey j)) ∙ sym (binary_by Both ek)

    pub binary_left : (all x y : Expr) → binary_passing op ≡ Left → x ≡ pushed w s e → y ≡ f → all ≡ Binary op x y → all ≡ pushed w s expr
    binary_left all x y ek ex ey ea = ea ∙ (λ j. Binary op (ex j) (ey j)) ∙ sym (binary_by Left ek)

  pub choose_on : (expr c e f all z x y : Expr) → expr ≡ Choose c e f → z ≡ c → x ≡ pushed w s e → y ≡ pushed w s f → all ≡ Choose z x y → all ≡ pushed w s expr
  choose_on expr c e f all z x y is ez ex ey ea = ea ∙ (λ j. Choose (ez j) (ex j) (ey j)) ∙ sym (ap (pushed w s) is ∙ pushed-Choose c e f)
