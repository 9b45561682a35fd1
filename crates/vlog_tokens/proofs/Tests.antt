-- Tests and runs of bytes.
use Rattle.std.proofs.Common.{◌≡◌, ℕ, suc, ◌+◌, ◌≤◌, ◌<◌, ◌==◌, Bool, true, false, cond, ◌||◌, ◌&&◌, ◌⊎◌, inl, inr, List, [], ◌∷◌, ◌++◌, length, take, drop, refl, sym, ◌∙◌, ap, subst, arith}
use Rattle.std.specs.List.{list_all, prefix_len}
use Rattle.std.proofs.lemmas.Bool.Decides.{eqb_tells}

pub differ : (b : Bool) → b ≡ true → b ≡ false → ⊥
differ b t f = let no : true ≡ false = sym t ∙ f in cc

pub split_and : (a b : Bool) → (a && b) ≡ true → (a ≡ true) × (b ≡ true)
split_and true b e = (refl, e)
split_and false b e = absurd (differ false e refl)

pub split_or : (a b : Bool) → (a || b) ≡ true → (a ≡ true) ⊎ (b ≡ true)
split_or true b e = inl refl
split_or false b e = inr e

pub eqb_same : (n : ℕ) → (n == n) ≡ true
eqb_same n = elim (eqb_tells n n) [ inl k ↦ k.0 | inr k ↦ absurd (k.1 refl) ]

one_more : (n : ℕ) → 1 + n ≡ suc n
one_more n = omega arith

-- each byte of a run passes
pub run_front : (p : ℕ → Bool) (bs : List ℕ) → list_all p (take (prefix_len p bs) bs) ≡ true
run_front p [] = refl
run_front p (b ∷ bs) = (elim (p b) as (λ v. p b ≡ v → list_all p (take (cond v (1 + prefix_len p bs) 0) (b ∷ bs)) ≡ true) [
  | true ↦ λ h. subst (λ k. list_all p (take k (b ∷ bs)) ≡ true) (sym (one_more (prefix_len p bs))) (rw h (run_front p bs))
  | false ↦ λ h. refl
]) refl

-- the byte behind a run doesn't pass
pub run_stops : (p : ℕ → Bool) (bs : List ℕ) (m : ℕ) (rest : List ℕ) → drop (prefix_len p bs) bs ≡ m ∷ rest → p m ≡ false
run_stops p [] m rest e = cc
run_stops p (b ∷ bs) m rest e = (elim (p b) as (λ v. p b ≡ v → drop (cond v (1 + prefix_len p bs) 0) (b ∷ bs) ≡ m ∷ rest → p m ≡ false)
    [ true ↦ λ h k. run_stops p bs m rest (subst (λ n. drop n (b ∷ bs) ≡ m ∷ rest) (one_more (prefix_len p bs)) k) | false ↦ λ h k. let same : b ≡ m = cc in subst (λ z. p z ≡ false) same h ]) refl e

-- a run goes over bytes that pass
pub run_on : (p : ℕ → Bool) (bs rest : List ℕ) → list_all p bs ≡ true → prefix_len p (bs ++ rest) ≡ length bs + prefix_len p rest
run_on p [] rest e = omega arith
run_on p (b ∷ bs) rest e =
    let both = split_and (p b) (list_all p bs) e in
    let here : prefix_len p (b ∷ (bs ++ rest)) ≡ 1 + prefix_len p (bs ++ rest) = ap (λ v. cond v (1 + prefix_len p (bs ++ rest)) 0) both.0 in
    let more = run_on p bs rest both.1 in
    omega (arith, here, more)
