-- Values that may be there.
use Rattle.std.specs.Prelude.{List, [], ◌∷◌, Option, Some, None, option_map}

-- what is made of a value, if it is there
abbrev pub and_then : {A B : Type 0} → (A → Option B) → Option A → Option B
and_then make None = None
and_then make (Some a) = make a

-- what is made of two values, if both are there
abbrev pub with_both : {A B C : Type 0} → (A → B → Option C) → Option A → Option B → Option C
with_both make None b = None
with_both make (Some a) b = and_then (make a) b

-- the values, if each is there
abbrev pub all_there : {A : Type 0} → List (Option A) → Option (List A)
all_there [] = Some []
all_there (None ∷ os) = None
all_there (Some x ∷ os) = option_map (λ xs. x ∷ xs) (all_there os)
