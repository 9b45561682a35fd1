-- Names of variables.
use Rattle.std.proofs.Common.{◌≡◌, ◌≢◌, ℕ, ◌<◌, ◌≤◌, Bool, true, false, cond, List, [], ◌∷◌, ◌++◌, length, get_or, refl, sym, ◌∙◌, ap, arith, ◌⊎◌, inl, inr}
use Rattle.std.specs.Prelude.{◌^◌, nat_eq, All as Each}
use Rattle.std.specs.List.{IsDistinct, list_any}
use Rattle.std.proofs.lemmas.Bool.{cases_lt, eqb-true}
use Rattle.std.proofs.lemmas.Bool.Decides.{Decides-eqb}
use Rattle.std.proofs.lemmas.List.{get_or_default, get_or_append_left}
use Rattle.std.proofs.lemmas.List.Elements.{All-head, All-tail, All-push, All-nil}
use Rattle.std.proofs.lemmas.Map.Made.{AllPairs-from_IsDistinct}
use Rattle.std.proofs.lemmas.Map.Steps.{length-le_from_distinct_below}
use Rattle.indexmap.specs.IndexSet.{insert_key}
use Rattle.clause_names.specs.Naming.{IsNaming}
use Rattle.clause_names.specs.Numbering.{Grows}
use Rattle.clause_names.proofs.Grown.{grows_none}

some_name : (names : List ℕ) → get_or names 0 1 ≡ 0 → 0 < length names
some_name [] e = absurd (omega (arith, e))
some_name (x ∷ xs) e = omega arith

-- a number other than 0 stands for a variable
pub named_positive : (names : List ℕ) (k d : ℕ) → IsNaming names → 0 < k → k < length names → 0 < get_or names k d
named_positive names k d h some low = by (cases_lt 0 (get_or names k d))
  where
    first : get_or names 0 d ≡ 0
    first = get_or_default names 0 d 1 (some_name names h.zero) ∙ h.zero

    apart : get_or names 0 d ≢ get_or names k d
    apart = AllPairs-from_IsDistinct Decides-eqb names h.apart 0 k d some low

    by : (0 < get_or names k d) ⊎ (get_or names k d ≤ 0) → 0 < get_or names k d
    by (inl lt) = lt
    by (inr le) = let none : get_or names k d ≡ 0 = omega arith in absurd (apart (first ∙ sym none))

below_any : (most : ℕ) (xs : List ℕ) (q : ℕ) → Each (λ k. k < most) xs → list_any (nat_eq q) xs ≡ true → q < most
below_any most [] q h e = absurd cc
below_any most (x ∷ xs) q h e = by (below_any most xs q (All-tail (λ k. k < most) x xs h)) (nat_eq q x) refl
  where
    by : (list_any (nat_eq q) xs ≡ true → q < most) → (b : Bool) → nat_eq q x ≡ b → q < most
    by ih true t = let same : q ≡ x = eqb-true q x t in rw same (All-head (λ k. k < most) x xs h)
    by ih false t = ih (rw t at e)

-- there are no more names than variables, and 0
pub few_names : (most : ℕ) (names : List ℕ) → IsDistinct nat_eq names → Each (λ k. k < most) names → length names ≤ most
few_names most names apart small = length-le_from_distinct_below names most apart (λ q. below_any most names q small)

-- what putting a name among the others does
pub inserted : (old new : List ℕ) (variable : ℕ) → new ≡ insert_key nat_eq old variable → IsDistinct nat_eq new → variable < 2 ^ 31 → Grows old new (λ n. n ≡ variable)
inserted old new variable is apart small = by (list_any (nat_eq variable) old) refl
  where
    by : (b : Bool) → list_any (nat_eq variable) old ≡ b → Grows old new (λ n. n ≡ variable)
    by true t =
        let same : new ≡ old = is ∙ ap (λ (b : Bool). cond b old (old ++ variable ∷ [])) t in
        rw same (grows_none old (λ n. n ≡ variable))
    by false t =
        let same : new ≡ old ++ variable ∷ [] = is ∙ ap (λ (b : Bool). cond b old (old ++ variable ∷ [])) t in
        record {
          more = variable ∷ [];
          longer = same;
          naming = λ h. record {
            zero = ap (λ (xs : List ℕ). get_or xs 0 1) same ∙ get_or_append_left old (variable ∷ []) 1 0 (some_name old h.zero) ∙ h.zero;
            apart = apart;
            variables = rw same (All-push (λ n. n < 2 ^ 31) old variable h.variables small);
          };
          such = All-push (λ n. n ≡ variable) [] variable (All-nil (λ n. n ≡ variable)) refl;
        }
