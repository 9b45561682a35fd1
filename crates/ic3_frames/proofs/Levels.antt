-- Levels, and lists that are tested.
use Rattle.std.proofs.Common.{◌≡◌, ◌≢◌, ℕ, ◌+◌, ◌-◌, ◌<◌, ◌≤◌, nat_le, zero, suc, Bool, true, false, cond, List, [], ◌∷◌, refl, ap, arith}
use Rattle.std.specs.List.{filter}
use Rattle.std.specs.Prelude.{All as Each}
use Rattle.std.proofs.lemmas.Bool.{eqb-true}
use Rattle.std.proofs.lemmas.Bool.Decides.{nat_tests}
use Rattle.std.proofs.lemmas.List.Elements.{All-nil, All-cons, All-head, All-tail}
use Rattle.bit_system.specs.declared.ladder.Depth.{Depth}
use Rattle.bit_system.specs.declared.ladder.Depth.TheVariants.{All, Steps}
use Rattle.bit_system.specs.Ladders.{is_at_least, previous, is_first}

le-true : (a b : ℕ) → nat_le a b ≡ true → a ≤ b
le-true a b e = grind (arith, nat_tests)

true-le : (a b : ℕ) → a ≤ b → nat_le a b ≡ true
true-le a b e = grind (arith, nat_tests)

count : Depth → ℕ
count All = 0
count (Steps n) = n

pub steps_same : (i j : ℕ) → Steps i ≡ Steps j → i ≡ j
unfolding count
steps_same i j e = ap count e

pub is_level : (n : ℕ) → 0 < n → Steps n ≢ Steps 0
is_level n low e = absurd (omega (arith, steps_same n 0 e))

pub at_least_refl : (d : Depth) → is_at_least d d ≡ true
at_least_refl All = refl
at_least_refl (Steps n) = true-le n n (omega arith)

pub at_least_previous : (d : Depth) → is_at_least d (previous d) ≡ true
at_least_previous All = refl
at_least_previous (Steps n) = true-le (n - 1) n (omega arith)

pub at_least_trans : (a b c : Depth) → is_at_least a b ≡ true → is_at_least b c ≡ true → is_at_least a c ≡ true
at_least_trans All b c p q = refl
at_least_trans (Steps i) All c p q = absurd cc
at_least_trans (Steps i) (Steps j) All p q = absurd cc
at_least_trans (Steps i) (Steps j) (Steps k) p q = true-le k i (omega (arith, le-true j i p, le-true k j q))

pub steps_at_least : (i j : ℕ) → i ≤ j → is_at_least (Steps j) (Steps i) ≡ true
steps_at_least i j le = true-le i j le

pub at_least_steps : (i j : ℕ) → is_at_least (Steps j) (Steps i) ≡ true → i ≤ j
at_least_steps i j e = le-true i j e

-- a level from i on that isn't i is from i + 1 on
pub above : (d : Depth) (i : ℕ) → d ≢ Steps i → is_at_least d (Steps i) ≡ true → is_at_least d (Steps (i + 1)) ≡ true
above All i ne e = refl
above (Steps n) i ne e = by (le-true i n e)
  where
    differ : n ≢ i
    differ q = ne (ap (λ (k : ℕ). Steps k) q)

    by : i ≤ n → is_at_least (Steps n) (Steps (i + 1)) ≡ true
    by le = true-le (i + 1) n (omega (arith, differ))

pub first_of : (d : Depth) → d ≢ Steps 0 → previous d ≡ Steps 0 → is_first d ≡ true
first_of All ne e = absurd cc
first_of (Steps zero) ne e = absurd (ne refl)
first_of (Steps (suc n)) ne e =
    let none : n ≡ 0 = omega (arith, steps_same (suc n - 1) 0 e) in
    rw none refl

pub before_first : (d : Depth) → is_first d ≡ true → previous d ≡ Steps 0
before_first All e = absurd cc
before_first (Steps n) e =
    let one : n ≡ 1 = eqb-true n 1 e in
    rw one refl

-- ---- lists that are tested

first-kept : {X : Type 0} (Q : X → Type 0) (b : Bool) (x : X) (xs : List X) → b ≡ true → Each Q (cond b (x ∷ xs) xs) → Q x
first-kept Q true x xs e h = All-head Q x xs h
first-kept Q false x xs e h = absurd cc

rest-kept : {X : Type 0} (Q : X → Type 0) (b : Bool) (x : X) (xs : List X) → Each Q (cond b (x ∷ xs) xs) → Each Q xs
rest-kept Q true x xs h = All-tail Q x xs h
rest-kept Q false x xs h = h

with-first : {X : Type 0} (Q : X → Type 0) (b : Bool) (x : X) (xs : List X) → (b ≡ true → Q x) → Each Q xs → Each Q (cond b (x ∷ xs) xs)
with-first Q true x xs f h = All-cons Q x xs (f refl) h
with-first Q false x xs f h = h

pub each_tested : {X : Type 0} (Q : X → Type 0) (test : X → Bool) (xs : List X) → Each Q (filter test xs) → Each (λ x. test x ≡ true → Q x) xs
each_tested Q test [] h = All-nil (λ x. test x ≡ true → Q x)
each_tested Q test (x ∷ xs) h =
    All-cons (λ x. test x ≡ true → Q x) x xs (λ e. first-kept Q (test x) x (filter test xs) e h)
    (each_tested Q test xs (rest-kept Q (test x) x (filter test xs) h))

pub each_filtered : {X : Type 0} (Q : X → Type 0) (test : X → Bool) (xs : List X) → Each (λ x. test x ≡ true → Q x) xs → Each Q (filter test xs)
each_filtered Q test [] h = All-nil Q
each_filtered Q test (x ∷ xs) h =
    with-first Q (test x) x (filter test xs) (All-head (λ x. test x ≡ true → Q x) x xs h)
    (each_filtered Q test xs (All-tail (λ x. test x ≡ true → Q x) x xs h))
