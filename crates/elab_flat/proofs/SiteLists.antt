-- Sites, one after another.
use Rattle.std.proofs.Common.{◌≡◌, ℕ, suc, ◌+◌, ◌-◌, ◌*◌, ◌/◌, ◌<◌, List, [], ◌∷◌, ◌++◌, sym, ap, ◌∙◌, arith}
use Rattle.std.proofs.lemmas.List.{append_assoc}
use Rattle.design_core.specs.declared.flat.Site.{Site}
use Rattle.design_core.specs.declared.flat.SiteKind.TheVariants.{Assignment, Arm}
use Rattle.design_core.specs.declared.flat.ArmKind.TheVariants.{Then, Else}
use Rattle.elab_flat.specs.Bodies.{sites_from, arms_from}

abbrev site_of : List ℕ → ℕ → Site
site_of path ordinal = record { scope = path; kind = Assignment; ordinal = ordinal }

first_site : (path : List ℕ) (ordinal n m : ℕ) → n ≡ suc m → sites_from path ordinal n ≡ site_of path ordinal ∷ sites_from path (ordinal + 1) m
first_site path ordinal n m e = ap (sites_from path ordinal) e

pub sites_more : (path : List ℕ) (k count : ℕ) (sites later all : List Site) → k < count → later ≡ sites ++ site_of path (k + 1) ∷ [] →
    sites ++ sites_from path (k + 1) (count - k) ≡ all → later ++ sites_from path (k + 1 + 1) (count - (k + 1)) ≡ all
sites_more path k count sites later all lt grown h =
    ap (λ xs. xs ++ sites_from path (k + 1 + 1) (count - (k + 1))) grown
    ∙ append_assoc sites (site_of path (k + 1) ∷ []) (sites_from path (k + 1 + 1) (count - (k + 1)))
    ∙ ap (λ xs. sites ++ xs) (sym (first_site path (k + 1) (count - k) (count - (k + 1)) (omega arith))) ∙ h

-- ---- arms

abbrev pub then_arm : List ℕ → ℕ → Site
then_arm path ordinal = record { scope = path; kind = Arm Then; ordinal = ordinal }

abbrev pub else_arm : List ℕ → ℕ → Site
else_arm path ordinal = record { scope = path; kind = Arm Else; ordinal = ordinal }

abbrev arms_of : List ℕ → ℕ → List Site
arms_of path ordinal = then_arm path ordinal ∷ else_arm path ordinal ∷ []

pub arms_more : (path : List ℕ) (k count : ℕ) (sites later all : List Site) → k < count → later ≡ sites ++ arms_of path (k + 1) →
    sites ++ arms_from path (k + 1) (count - k) ≡ all → later ++ arms_from path (k + 1 + 1) (count - (k + 1)) ≡ all
arms_more path k count sites later all lt grown h =
    ap (λ xs. xs ++ arms_from path (k + 1 + 1) (count - (k + 1))) grown
    ∙ append_assoc sites (arms_of path (k + 1)) (arms_from path (k + 1 + 1) (count - (k + 1)))
    ∙ ap (λ xs. sites ++ xs) (sym (first (count - k) (count - (k + 1)) (omega arith))) ∙ h
  where
    first : (n m : ℕ) → n ≡ suc m → arms_from path (k + 1) n ≡ arms_of path (k + 1) ++ arms_from path (k + 1 + 1) m
    first n m e = ap (arms_from path (k + 1)) e

-- half of what two arms for each branch take
pub halved : (first next n : ℕ) → next ≡ first + 2 * n → (next - first) / 2 ≡ n
halved first next n is = omega arith
