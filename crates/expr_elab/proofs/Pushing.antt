-- An expression in a context is formed, and has its width and its sign.
use Rattle.std.proofs.Common.{◌≡◌, ℕ, ◌≤◌, nat_eq, Bool, true, false, not, ◌&&◌, cond, refl, sym, ◌∙◌, arith}
use denote.Hole.Carrier.{hidden}
use Rattle.std.proofs.lemmas.Bool.{eqb-true}
use Rattle.bit_exprs.specs.declared.forms.Expr.{Expr, Unary, Row_of-Expr, end_of-Expr, more_of-Expr}
use Rattle.bit_exprs.specs.declared.forms.Expr.TheBlock.{hidden-the_row-Expr-0}
use Rattle.bit_exprs.specs.declared.forms.Expr.TheVariants.{Const, Read, Select', Unary', Binary', Choose', Logical'}
use Rattle.bit_exprs.specs.declared.forms.UnaryOp.TheVariants as one
use Rattle.bit_exprs.specs.declared.forms.BinaryOp.TheVariants.{Add, Sub, Mul, And, Or, Xor, Xnor, Equal, NotEqual, Less, LessEqual, Greater, GreaterEqual, Shl, Shr, Join}
use Rattle.bit_exprs.specs.Values.{width_of, operand_width, sign_of, operand_sign}
use Rattle.bit_exprs.specs.Formed.{IsFormed, OperandFormed}
use Rattle.expr_elab.specs.declared.built.Built.{Built}
use Rattle.expr_elab.specs.Contexts.{pushed, operand_pushed, brought}

module _ (w : ℕ) (s : Bool) (n : ℕ) where
  abbrev pub Fits : Expr → Type 0
  Fits e = IsFormed e n × (width_of e ≡ w) × (sign_of e ≡ s)

  abbrev OperandFits : {m : _} → Row_of-Expr m → Type 0
  OperandFits a = OperandFormed a n × (operand_width a ≡ w) × (operand_sign a ≡ s)

  whole : w ≤ 128 → (e : Expr) → IsFormed e n → width_of e ≤ w → Fits (Unary (one.Extend w s) e)
  unfolding hidden-the_row-Expr-0 hidden
  whole most e f le = (((le, most), f), refl, refl)

  same_sign : (a b : Bool) → a ≡ s → b ≡ s → (a && b) ≡ s
  same_sign a b ea eb = (λ j. ea j && eb j) ∙ by s
    where
      by : (s : Bool) → (s && s) ≡ s
      by true = refl
      by false = refl

  both : {m k : _} (a : Row_of-Expr m) (b : Row_of-Expr k) → OperandFits a → OperandFits b →
      ((operand_width b ≡ operand_width a) × OperandFormed a n × OperandFormed b n) × (operand_width a ≡ w) × ((operand_sign a && operand_sign b) ≡ s)
  both a b fa fb = ((fb.1 ∙ sym fa.1, fa.0, fb.0), fa.1, same_sign (operand_sign a) (operand_sign b) fa.2 fb.2)

  mutual
    pub pushed_fits : w ≤ 128 → (e : Expr) → IsFormed e n → width_of e ≤ w → Fits (pushed w s e)
    pushed_fits most (Const word signed) f le = whole most (Const word signed) f le
    pushed_fits most (Read bits) f le = whole most (Read bits) f le
    pushed_fits most (Select' vector window p index) f le = whole most (Select' vector window p index) f le
    pushed_fits most (Unary' one.Not p a) f le = let r = operand_fits most a f.1 le in ((f.0, r.0), r.1, r.2)
    pushed_fits most (Unary' one.Neg p a) f le = let r = operand_fits most a f.1 le in ((f.0, r.0), r.1, r.2)
    pushed_fits most (Unary' (one.Extend width signed) p a) f le = (((omega (arith, f.0.0, le), most), f.1), refl, refl)
    pushed_fits most (Unary' (one.Repeat count) p a) f le = whole most (Unary' (one.Repeat count) p a) f le
    pushed_fits most (Unary' one.All p a) f le = whole most (Unary' one.All p a) f le
    pushed_fits most (Unary' one.NotAll p a) f le = whole most (Unary' one.NotAll p a) f le
    pushed_fits most (Unary' one.Any p a) f le = whole most (Unary' one.Any p a) f le
    pushed_fits most (Unary' one.NotAny p a) f le = whole most (Unary' one.NotAny p a) f le
    pushed_fits most (Unary' one.Odd p a) f le = whole most (Unary' one.Odd p a) f le
    pushed_fits most (Unary' one.NotOdd p a) f le = whole most (Unary' one.NotOdd p a) f le
    pushed_fits most (Binary' Add p a q b) f le = both (operand_pushed w s a) (operand_pushed w s b) (operand_fits most a f.1 le) (operand_fits most b f.2 (omega (arith, f.0, le)))
    pushed_fits most (Binary' Sub p a q b) f le = both (operand_pushed w s a) (operand_pushed w s b) (operand_fits most a f.1 le) (operand_fits most b f.2 (omega (arith, f.0, le)))
    pushed_fits most (Binary' Mul p a q b) f le = both (operand_pushed w s a) (operand_pushed w s b) (operand_fits most a f.1 le) (operand_fits most b f.2 (omega (arith, f.0, le)))
    pushed_fits most (Binary' And p a q b) f le = both (operand_pushed w s a) (operand_pushed w s b) (operand_fits most a f.1 le) (operand_fits most b f.2 (omega (arith, f.0, le)))
    pushed_fits most (Binary' Or p a q b) f le = both (operand_pushed w s a) (operand_pushed w s b) (operand_fits most a f.1 le) (operand_fits most b f.2 (omega (arith, f.0, le)))
    pushed_fits most (Binary' Xor p a q b) f le = both (operand_pushed w s a) (operand_pushed w s b) (operand_fits most a f.1 le) (operand_fits most b f.2 (omega (arith, f.0, le)))
    pushed_fits most (Binary' Xnor p a q b) f le = both (operand_pushed w s a) (operand_pushed w s b) (operand_fits most a f.1 le) (operand_fits most b f.2 (omega (arith, f.0, le)))
    pushed_fits most (Binary' Equal p a q b) f le = whole most (Binary' Equal p a q b) f le
    pushed_fits most (Binary' NotEqual p a q b) f le = whole most (Binary' NotEqual p a q b) f le
    pushed_fits most (Binary' Less p a q b) f le = whole most (Binary' Less p a q b) f le
    pushed_fits most (Binary' LessEqual p a q b) f le = whole most (Binary' LessEqual p a q b) f le
    pushed_fits most (Binary' Greater p a q b) f le = whole most (Binary' Greater p a q b) f le
    pushed_fits most (Binary' GreaterEqual p a q b) f le = whole most (Binary' GreaterEqual p a q b) f le
    pushed_fits most (Binary' Shl p a q b) f le = let r = operand_fits most a f.1 le in ((tt, r.0, f.2), r.1, r.2)
    pushed_fits most (Binary' Shr p a q b) f le = let r = operand_fits most a f.1 le in ((tt, r.0, f.2), r.1, r.2)
    pushed_fits most (Binary' Join p a q b) f le = whole most (Binary' Join p a q b) f le
    pushed_fits most (Choose' p test q a r b) f le =
        let x = operand_fits most a f.2 le in
        let y = operand_fits most b f.3 (omega (arith, f.0, le)) in
        ((y.1 ∙ sym x.1, f.1, x.0, y.0), x.1, same_sign (operand_sign (operand_pushed w s a)) (operand_sign (operand_pushed w s b)) x.2 y.2)
    pushed_fits most (Logical' and chain shape all) f le = whole most (Logical' and chain shape all) f le

    operand_fits : w ≤ 128 → {m : _} (a : Row_of-Expr m) → OperandFormed a n → operand_width a ≤ w → OperandFits (operand_pushed w s a)
    operand_fits most end_of-Expr f le = absurd f
    operand_fits most (more_of-Expr e rest) f le = pushed_fits most e f le

  pub brought_fits : w ≤ 128 → (x : Built) → IsFormed x.expr n → width_of x.expr ≡ x.width → sign_of x.expr ≡ x.signed → x.width ≤ w → Fits (brought w s x)
  brought_fits most x f ew es le = by (nat_eq x.width w) x.signed s refl refl refl
    where
      by : (k a b : Bool) → nat_eq x.width w ≡ k → x.signed ≡ a → s ≡ b → Fits (cond (k && cond a b (not b)) x.expr (pushed w s x.expr))
      by true true true ek ea eb = (f, ew ∙ eqb-true x.width w ek, es ∙ ea ∙ sym eb)
      by true true false ek ea eb = pushed_fits most x.expr f (omega (arith, ew, le))
      by true false true ek ea eb = pushed_fits most x.expr f (omega (arith, ew, le))
      by true false false ek ea eb = (f, ew ∙ eqb-true x.width w ek, es ∙ ea ∙ sym eb)
      by false a b ek ea eb = pushed_fits most x.expr f (omega (arith, ew, le))
