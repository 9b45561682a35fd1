-- Targets in braces, one after another.
use Rattle.std.proofs.Common.{◌≡◌, ℕ, ◌+◌, ◌<◌, List, ◌∷◌, ◌++◌, length, get_or, drop, map, Option, Some, None, refl, sym, ap, ◌∙◌}
use Rattle.std.specs.Prelude.{option_map, flat_map}
use Rattle.std.proofs.lemmas.List.{at_drop_more, append_assoc}
use Rattle.expr_elab.specs.Options.{all_there}

module _ {A B : Type 0} (f : A → Option (List B)) where
  abbrev flat : Option (List (List B)) → Option (List B)
  flat o = option_map (flat_map (λ ps. ps)) o

  -- what stands already, and then what the rest is made of
  abbrev pub Onto : List B → List A → Option (List B)
  Onto made rest = option_map (λ ps. made ++ ps) (flat (all_there (map f rest)))

  module _ (xs : List A) (k : ℕ) (x : A) (made : List B) (all : Option (List B)) (at : x ≡ get_or xs k x) (lt : k < length xs) (h : Onto made (drop k xs) ≡ all) where
    abbrev behind : Option (List B) → Option (List B)
    behind o = option_map (λ ps. made ++ ps) (flat (all_there (o ∷ map f (drop (k + 1) xs))))

    split : behind (f x) ≡ all
    split = ap (λ y. behind (f y)) at ∙ sym (at_drop_more (Onto made) xs k x lt) ∙ h

    pub onto_more : (ps later : List B) → f x ≡ Some ps → later ≡ made ++ ps → Onto later (drop (k + 1) xs) ≡ all
    onto_more ps later is grown = by (all_there (map f (drop (k + 1) xs))) ∙ ap behind (sym is) ∙ split
      where
        by : (o : Option (List (List B))) → option_map (λ qs. later ++ qs) (flat o) ≡ option_map (λ qs. made ++ qs) (flat (option_map (λ qss. ps ∷ qss) o))
        by None = refl
        by (Some qss) = ap Some (ap (λ m. m ++ flat_map (λ qs. qs) qss) grown ∙ append_assoc made ps (flat_map (λ qs. qs) qss))
