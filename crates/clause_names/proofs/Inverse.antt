-- Names tell numbers apart.
use Rattle.std.proofs.Common.{◌≡◌, ◌≢◌, ℕ, ◌+◌, ◌-◌, ◌<◌, ◌≤◌, true, false, cond, List, length, get_or, refl, sym, ◌∙◌, ap, arith, ◌⊎◌, inl, inr}
use Rattle.std.specs.Prelude.{◌^◌, nat_eq, nat_lt, AllPairs, All as Each}
use Rattle.std.specs.List.{position_or_len}
use Rattle.std.proofs.Math.ListN.{get_or-eq_default}
use Rattle.std.proofs.lemmas.Bool.{cases_lt, ne_eqb, eq-eqb}
use Rattle.std.proofs.lemmas.Bool.Decides.{Decides-eqb, nat_tests}
use Rattle.std.proofs.lemmas.List.Sums.{position_or_len_is}
use Rattle.std.proofs.lemmas.Map.Made.{AllPairs-from_IsDistinct}
use Rattle.clause_names.specs.Naming.{IsNaming, variable_at}

-- the number of a variable, where variables are below `past`
number_below : ℕ → List ℕ → ℕ → ℕ
number_below past names n = cond (nat_lt n past) (position_or_len (nat_eq n) names) (n - past)

inside : (past : ℕ) (names : List ℕ) (k d : ℕ) → Each (λ n. n < past) names → AllPairs (λ a b. a ≢ b) names → k < length names → number_below past names (get_or names k d) ≡ k
unfolding number_below
inside past names k d small apart low =
    let n : ℕ = get_or names k d in
    let less : n < past = small k d low in
    let test : nat_lt n past ≡ true = grind (arith, nat_tests) in
    let before : (j : ℕ) → j < k → nat_eq n (get_or names j d) ≡ false = λ j lt. ne_eqb n (get_or names j d) (λ e. apart j k d lt low (sym e)) in
    rw test (position_or_len_is (nat_eq n) names k d (omega arith) before (λ _. eq-eqb n n refl))

outside : (past : ℕ) (names : List ℕ) (k : ℕ) → length names ≤ k → number_below past names (get_or names k (past + k)) ≡ k
unfolding number_below
outside past names k ge =
    let at : get_or names k (past + k) ≡ past + k = get_or-eq_default names (past + k) ge in
    let test : nat_lt (past + k) past ≡ false = grind (arith, nat_tests) in
    let left : past + k - past ≡ k = omega arith in
    rw (at, test) left

pub number_at : List ℕ → ℕ → ℕ
number_at names n = number_below (2 ^ 31) names n

pub back : (names : List ℕ) → IsNaming names → (k : ℕ) → number_at names (variable_at names k) ≡ k
unfolding number_at
back names h k = by (cases_lt k (length names))
  where
    by : (k < length names) ⊎ (length names ≤ k) → number_below (2 ^ 31) names (variable_at names k) ≡ k
    by (inl lt) = inside (2 ^ 31) names k (2 ^ 31 + k) h.variables (AllPairs-from_IsDistinct Decides-eqb names h.apart) lt
    by (inr ge) = outside (2 ^ 31) names k ge

pub one : (names : List ℕ) → IsNaming names → (a b : ℕ) → variable_at names a ≡ variable_at names b → a ≡ b
one names h a b e = sym (back names h a) ∙ ap (number_at names) e ∙ back names h b
