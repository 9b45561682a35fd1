-- Sums and products with a greatest number.
use Rattle.std.proofs.Common.{◌≡◌, ℕ, zero, suc, ◌+◌, ◌-◌, ◌*◌, ◌^◌, ◌<◌, ◌≤◌, ◌⊎◌, inl, inr, min, nat_lt, cond, refl, sym, ap, ◌∙◌, arith}
use Rattle.std.proofs.lemmas.Bool.{lt-ltb, le-ltb, cases_lt}
use Rattle.std.proofs.Math.Nat.{pow-suc, mul-le-mul, mul_comm}
use Rattle.bit_exprs.specs.declared.forms.UnaryOp.{UnaryOp}
use Rattle.bit_exprs.specs.declared.forms.UnaryOp.TheVariants as one
use Rattle.bit_exprs.specs.declared.forms.BinaryOp.{BinaryOp}
use Rattle.bit_exprs.specs.declared.forms.BinaryOp.TheVariants.{Add, Sub, Mul, And, Or, Xor, Xnor, Equal, NotEqual, Less, LessEqual, Greater, GreaterEqual, Shl, Shr, Join}
use Rattle.bit_exprs.specs.Operators.{unary_width, binary_width}
use Rattle.bit_exprs.specs.Cost.{capped, unary_cost, binary_cost, stages}

-- ---- for any greatest number m

plus_within : (m a b : ℕ) → min (min a m + min b m) m ≡ min (a + b) m
plus_within m a b = omega arith

-- sums of numbers that are the same up to m
sum_within : (m a a' b b' : ℕ) → min a' m ≡ min a m → min b' m ≡ min b m → min (a' + b') m ≡ min (a + b) m
sum_within m a a' b b' ea eb = omega arith

large : (m a n : ℕ) → 1 ≤ a → m ≤ n → min (a * n) m ≡ m
large m a n some le = let more : 1 * m ≤ a * n = mul-le-mul some le in omega (arith, more)

right_within : (m a b : ℕ) → min (a * min b m) m ≡ min (a * b) m
right_within m zero b = omega arith
right_within m (suc a) b = by (cases_lt m b)
  where
    by : (m < b) ⊎ (b ≤ m) → min (suc a * min b m) m ≡ min (suc a * b) m
    by (inr le) = let same : min b m ≡ b = omega arith in ap (λ n. min (suc a * n) m) same
    by (inl lt) = large m (suc a) (min b m) (omega arith) (omega arith) ∙ sym (large m (suc a) b (omega arith) (omega arith))

left_within : (m a b : ℕ) → min (min a m * b) m ≡ min (a * b) m
left_within m a b = ap (λ n. min n m) (mul_comm (min a m) b) ∙ right_within m b a ∙ ap (λ n. min n m) (mul_comm b a)

times_within : (m a b : ℕ) → min (min a m * min b m) m ≡ min (a * b) m
times_within m a b = left_within m a (min b m) ∙ right_within m a b

square_within : (m k w : ℕ) → min (k * min w m * min w m) m ≡ min (k * w * w) m
square_within m k w =
    right_within m (k * min w m) w ∙ sym (left_within m (k * min w m) w) ∙ ap (λ n. min (n * w) m) (right_within m k w) ∙ left_within m (k * w) w

-- ---- stages of shifts

no_stage : (p w r : ℕ) → w ≤ p → stages p w r ≡ 0
no_stage p w zero le = refl
no_stage p w (suc r) le = ap (λ b. cond b (suc (stages (2 * p) w r)) 0) (le-ltb p w le)

one_stage : (p w r : ℕ) → p < w → stages p w (suc r) ≡ suc (stages (2 * p) w r)
one_stage p w r lt = ap (λ b. cond b (suc (stages (2 * p) w r)) 0) (lt-ltb p w lt)

-- a distance of more bits has no more stages
enough_stages : (k p w r s : ℕ) → w ≤ p * 2 ^ k → k ≤ r → k ≤ s → stages p w r ≡ stages p w s
enough_stages zero p w r s le hr hs = no_stage p w r (omega arith) ∙ sym (no_stage p w s (omega arith))
enough_stages (suc k) p w zero s le hr hs = absurd (omega arith)
enough_stages (suc k) p w (suc r) zero le hr hs = absurd (omega arith)
enough_stages (suc k) p w (suc r) (suc s) le hr hs =
    let more : w ≤ 2 * p * 2 ^ k = omega (arith, le, ap (λ n. p * n) (pow-suc 2 k)) in
    ap (λ n. cond (nat_lt p w) (suc n) 0) (enough_stages k (2 * p) w r s more (omega arith) (omega arith))

-- m is at most 2 to the k, and at least k
choices_within : (m k w u : ℕ) → 1 < m → m ≤ 2 ^ k → k ≤ m → min (3 * min w m * stages 1 (min w m) (min u m)) m ≡ min (3 * w * stages 1 w u) m
choices_within m k w u big few le = by (cases_lt m w) (cases_lt m u)
  where
    same_width : w ≤ m → min w m ≡ w
    same_width h = omega arith

    wide : (v r : ℕ) → m ≤ v → min (3 * v * stages 1 v (suc r)) m ≡ m
    wide v r h =
        ap (λ n. min (3 * v * n) m) (one_stage 1 v r (omega arith)) ∙ ap (λ n. min n m) (mul_comm (3 * v) (suc (stages 2 v r)))
        ∙ large m (suc (stages 2 v r)) (3 * v) (omega arith) (omega arith)

    too_wide : (r : ℕ) → m < w → min (3 * min w m * stages 1 (min w m) (min r m)) m ≡ min (3 * w * stages 1 w r) m
    too_wide zero h = let none : min 0 m ≡ 0 = omega arith in ap (λ n. min (3 * min w m * stages 1 (min w m) n) m) none ∙ omega arith
    too_wide (suc r) h =
        let some : min (suc r) m ≡ suc (min (suc r) m - 1) = omega arith in
        ap (λ n. min (3 * min w m * stages 1 (min w m) n) m) some ∙ wide (min w m) (min (suc r) m - 1) (omega arith) ∙ sym (wide w r (omega arith))

    by : (m < w) ⊎ (w ≤ m) → (m < u) ⊎ (u ≤ m) → min (3 * min w m * stages 1 (min w m) (min u m)) m ≡ min (3 * w * stages 1 w u) m
    by (inr narrow) (inr short) = let short_is : min u m ≡ u = omega arith in λ j. min (3 * same_width narrow j * stages 1 (same_width narrow j) (short_is j)) m
    by (inr narrow) (inl long) =
        (λ j. min (3 * same_width narrow j * stages 1 (same_width narrow j) (min u m)) m) ∙ ap (λ n. min (3 * w * n) m) (enough_stages k 1 w (min u m) u (omega arith) (omega arith) (omega arith))
    by (inl h) b = too_wide u h

shift_within : (m k w u : ℕ) → 1 < m → m ≤ 2 ^ k → k ≤ m → min (3 * min w m * stages 1 (min w m) (min u m) + min w m + min u m) m ≡ min (3 * w * stages 1 w u + w + u) m
shift_within m k w u big few le =
    sum_within m (3 * w * stages 1 w u + w) (3 * min w m * stages 1 (min w m) (min u m) + min w m) u (min u m)
    (sum_within m (3 * w * stages 1 w u) (3 * min w m * stages 1 (min w m) (min u m)) w (min w m) (choices_within m k w u big few le) (omega arith)) (omega arith)

-- ---- costs up to the greatest number of 64 bits

-- a product whose first side is cut already
pub product_is : (a b x r : ℕ) → x ≡ capped a → r ≡ capped (x * b) → r ≡ capped (a * b)
product_is a b x r ex er = er ∙ ap (λ n. capped (n * b)) ex ∙ left_within _ a b

pub shift_is : (choices w u x r : ℕ) (stages : ℕ) → choices ≡ capped (3 * w * stages) → x ≡ capped (choices + w) → r ≡ capped (x + u) → r ≡ capped (3 * w * stages + w + u)
shift_is choices w u x r n ec ex er = er ∙ ap (λ k. capped (k + u)) (ex ∙ ap (λ k. capped (k + w)) ec) ∙ twice _ (3 * w * n) w u
  where
    twice : (m a b c : ℕ) → min (min (min a m + b) m + c) m ≡ min (a + b + c) m
    twice m a b c = omega arith

pub select_is : (c n b w g pairs s t r : ℕ) → pairs ≡ capped (n * b) → s ≡ capped (w + g) → t ≡ capped (pairs * s) → r ≡ capped (c + t) → r ≡ capped (c + n * b * (w + g))
select_is c n b w g pairs s t r ep es et er =
    er ∙ ap (λ k. capped (c + k)) (et ∙ (λ j. capped (ep j * es j)) ∙ times_within _ (n * b) (w + g)) ∙ inner _ c (n * b * (w + g))
  where
    inner : (m a k : ℕ) → min (a + min k m) m ≡ min (a + k) m
    inner m a k = omega arith

-- the stages so far and those that are left
pub stage_more : (i p q w d total : ℕ) → i < d → p < w → q ≡ p * 2 → i + stages p w (d - i) ≡ total → i + 1 + stages q w (d - (i + 1)) ≡ total
stage_more i p q w d total lt le eq so_far =
    let left : d - i ≡ suc (d - (i + 1)) = omega arith in
    let step : stages p w (d - i) ≡ suc (stages (2 * p) w (d - (i + 1))) = ap (stages p w) left ∙ one_stage p w (d - (i + 1)) le in
    let place : q ≡ 2 * p = omega arith in
    omega (arith, so_far, step, ap (λ n. stages n w (d - (i + 1))) place)

pub capped_plus : (a b : ℕ) → capped (capped a + capped b) ≡ capped (a + b)
capped_plus a b = plus_within _ a b

-- a number as often as another that is the same up to the greatest
pub capped_scaled : (n a b : ℕ) → capped a ≡ capped b → capped (n * a) ≡ capped (n * b)
capped_scaled n a b e = sym (right_within _ n a) ∙ ap (λ x. capped (n * x)) e ∙ right_within _ n b

pub again : (a : ℕ) → capped (capped a) ≡ capped a
again a = by _ a
  where
    by : (m a : ℕ) → min (min a m) m ≡ min a m
    by m a = omega arith

pub capped_sum : (a a' b b' : ℕ) → capped a' ≡ capped a → capped b' ≡ capped b → capped (a' + b') ≡ capped (a + b)
capped_sum a a' b b' ea eb = sum_within _ a a' b b' ea eb

pub unary_cost-capped : (op : UnaryOp) (w : ℕ) → capped (unary_cost op (capped w)) ≡ capped (unary_cost op w)
unary_cost-capped one.Not w = refl
unary_cost-capped one.Neg w = right_within _ 10 w
unary_cost-capped (one.Extend width signed) w = refl
unary_cost-capped (one.Repeat count) w = refl
unary_cost-capped one.All w = again w
unary_cost-capped one.NotAll w = again w
unary_cost-capped one.Any w = again w
unary_cost-capped one.NotAny w = again w
unary_cost-capped one.Odd w = right_within _ 3 w
unary_cost-capped one.NotOdd w = right_within _ 3 w

pub unary_width-capped : (op : UnaryOp) (w : ℕ) → capped (unary_width op (capped w)) ≡ capped (unary_width op w)
unary_width-capped one.Not w = again w
unary_width-capped one.Neg w = again w
unary_width-capped (one.Extend width signed) w = refl
unary_width-capped (one.Repeat count) w = right_within _ count w
unary_width-capped one.All w = refl
unary_width-capped one.NotAll w = refl
unary_width-capped one.Any w = refl
unary_width-capped one.NotAny w = refl
unary_width-capped one.Odd w = refl
unary_width-capped one.NotOdd w = refl

shift-capped : (w u : ℕ) → capped (3 * capped w * stages 1 (capped w) (capped u) + capped w + capped u) ≡ capped (3 * w * stages 1 w u + w + u)
shift-capped w u = shift_within (2 ^ 64 - 1) 64 w u (omega arith) (omega arith) (omega arith)

pub binary_cost-capped : (op : BinaryOp) (w u : ℕ) → capped (binary_cost op (capped w) (capped u)) ≡ capped (binary_cost op w u)
binary_cost-capped Add w u = right_within _ 10 w
binary_cost-capped Sub w u = right_within _ 10 w
binary_cost-capped Mul w u = square_within _ 11 w
binary_cost-capped And w u = again w
binary_cost-capped Or w u = again w
binary_cost-capped Xor w u = right_within _ 3 w
binary_cost-capped Xnor w u = right_within _ 3 w
binary_cost-capped Equal w u = right_within _ 4 w
binary_cost-capped NotEqual w u = right_within _ 4 w
binary_cost-capped Less w u = right_within _ 10 w
binary_cost-capped LessEqual w u = right_within _ 10 w
binary_cost-capped Greater w u = right_within _ 10 w
binary_cost-capped GreaterEqual w u = right_within _ 10 w
binary_cost-capped Shl w u = shift-capped w u
binary_cost-capped Shr w u = shift-capped w u
binary_cost-capped Join w u = refl

pub binary_width-capped : (op : BinaryOp) (w u : ℕ) → capped (binary_width op (capped w) (capped u)) ≡ capped (binary_width op w u)
binary_width-capped Add w u = again w
binary_width-capped Sub w u = again w
binary_width-capped Mul w u = again w
binary_width-capped And w u = again w
binary_width-capped Or w u = again w
binary_width-capped Xor w u = again w
binary_width-capped Xnor w u = again w
binary_width-capped Equal w u = refl
binary_width-capped NotEqual w u = refl
binary_width-capped Less w u = refl
binary_width-capped LessEqual w u = refl
binary_width-capped Greater w u = refl
binary_width-capped GreaterEqual w u = refl
binary_width-capped Shl w u = again w
binary_width-capped Shr w u = again w
binary_width-capped Join w u = capped_plus w u
