-- Names that are looked up.
use Rattle.std.proofs.Common.{◌≡◌, true, false, Option, Some, None, refl}
use Rattle.std.specs.Option.{is_some}

pub absent : {X : Type 0} (o : Option X) → is_some o ≡ false → o ≡ None
absent None e = refl
absent (Some x) e = cc

pub present : {X : Type 0} (o : Option X) → is_some o ≡ true → o ≡ None → ⊥
present None e none = cc
present (Some x) e none = cc
