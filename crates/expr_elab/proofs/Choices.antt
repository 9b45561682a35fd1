-- What holds of a value that may be there.
use Rattle.std.proofs.Common.{◌≡◌, Bool, true, false, cond, Option, Some, None, refl}
use Rattle.std.specs.Prelude.{IfSome, option_map}
use Rattle.expr_elab.specs.Options.{and_then, with_both}

module _ {A B : Type 0} (P : A → Type 0) (Q : B → Type 0) where
  pub mapped : (f : A → B) → ((a : A) → P a → Q (f a)) → (o : Option A) → IfSome o P → IfSome (option_map f o) Q
  mapped f h None p = tt
  mapped f h (Some a) p = h a p

  pub chained : (f : A → Option B) → ((a : A) → P a → IfSome (f a) Q) → (o : Option A) → IfSome o P → IfSome (and_then f o) Q
  chained f h None p = tt
  chained f h (Some a) p = h a p

pub both_there : {A B C : Type 0} (P : A → Type 0) (Q : B → Type 0) (R : C → Type 0) (f : A → B → Option C) → ((a : A) (b : B) → P a → Q b → IfSome (f a b) R) →
    (o : Option A) (q : Option B) → IfSome o P → IfSome q Q → IfSome (with_both f o q) R
both_there P Q R f h None q p r = tt
both_there P Q R f h (Some a) None p r = tt
both_there P Q R f h (Some a) (Some b) p r = h a b p r

pub if_so : {A : Type 0} (P : A → Type 0) (b : Bool) (a : A) → (b ≡ true → P a) → IfSome (cond b (Some a) None) P
if_so P true a h = h refl
if_so P false a h = tt

pub anything : {A : Type 0} (o : Option A) → IfSome o (λ a. Unit {0})
anything None = tt
anything (Some a) = tt
