-- Which of two kinds of line a line is.
use Rattle.std.proofs.Common.{◌≡◌, Option, Some, None, ap, ◌∙◌, inl, inr, option_map}
use Rattle.line_text.specs.Reading.{either_of}

pub is_first : {X Y : Type 0} (p : Option X) (q : Option Y) (x : X) → p ≡ Some x → either_of p q ≡ Some (inl x)
is_first p q x e = ap (λ o. either_of o q) e

pub is_second : {X Y : Type 0} (p : Option X) (q : Option Y) (y : Y) → p ≡ None → q ≡ Some y → either_of p q ≡ Some (inr y)
is_second p q y e f = ap (λ o. either_of o q) e ∙ ap (λ o. option_map inr o) f

pub is_neither : {X Y : Type 0} (p : Option X) (q : Option Y) → p ≡ None → q ≡ None → either_of p q ≡ None
is_neither p q e f = ap (λ o. either_of o q) e ∙ ap (λ o. option_map inr o) f
