-- What loops over bits have done so far.
use Rattle.std.proofs.Common.{◌≡◌, ℕ, suc, ◌+◌, ◌-◌, ◌*◌, ◌<◌, ◌≤◌, Bool, true, false, ◌&&◌, ◌||◌, List, length, map, drop, get_or, sym, ap, ◌∙◌, add-one, arith}
use Rattle.std.proofs.lemmas.List.{drop_more, drop_all}
use Rattle.std.proofs.Math.Nat.{suc-mul, mul-le-mul_left, mul_comm}
use Rattle.word_core.specs.Words.{bit, number_of, word_join}
use Rattle.bit_exprs.specs.Operators.{repeated}
use Rattle.bit_exprs.specs.Values.{bit_at, bit_where, listed}

-- ---- repetition

pub one_more_fits : (i n w : ℕ) → i < n → n * w ≤ 128 → i * w + w ≤ 128
one_more_fits i n w lt le =
    let more : w * suc i ≤ w * n = mul-le-mul_left w (omega arith) in
    omega (arith, more, suc-mul i w, mul_comm w (suc i), mul_comm w n)

pub repeated_one : (w a : ℕ) → a ≡ repeated 1 w a
repeated_one w a = omega arith

pub repeated_more : (i w a b u r : ℕ) → b ≡ repeated i w a → r ≡ word_join w b a → r ≡ repeated (i + 1) w a
repeated_more i w a b u r e join = join ∙ ap (λ x. word_join w x a) e ∙ ap (λ n. repeated n w a) (sym (add-one i))

pub width_more : (i w u r : ℕ) → u ≡ i * w → r ≡ u + w → r ≡ (i + 1) * w
width_more i w u r e er = er ∙ ap (λ x. x + w) e ∙ sym (suc-mul i w) ∙ ap (λ n. n * w) (sym (add-one i))

-- ---- words from their top bit down

-- a bit below a word
pub below : (u w b : ℕ) (x : Bool) (r n : ℕ) → u ≡ 1 → w ≡ n → b ≡ bit x → r ≡ word_join u w b → r ≡ bit x + 2 * n
below u w b x r n eu ew eb er =
    er ∙ (λ j. word_join (eu j) (ew j) (eb j)) ∙ (omega arith)

pub read_more : (v : List Bool) (bits : List ℕ) (i j c u w b r : ℕ) → i + 1 ≡ j → j ≤ length bits → c ≡ get_or bits i 0 → u ≡ 1 → w ≡ number_of (map (bit_at v) (drop j bits)) → b ≡ bit (bit_at v c) → r ≡ word_join u w b →
    r ≡ number_of (map (bit_at v) (drop i bits))
read_more v bits i j c u w b r e le ec eu ew eb er =
    below u w b (bit_at v (get_or bits i 0)) r (number_of (map (bit_at v) (drop (i + 1) bits))) eu (ew ∙ ap (λ k. number_of (map (bit_at v) (drop k bits))) (sym e)) (eb ∙ ap (λ k. bit (bit_at v k)) ec) er
    ∙ sym (ap (λ xs. number_of (map (bit_at v) xs)) (drop_more bits i 0 (omega (arith, e))))

pub read_top : (v : List Bool) (bits : List ℕ) (i c b : ℕ) → i + 1 ≡ length bits → c ≡ get_or bits i 0 → b ≡ bit (bit_at v c) → b ≡ number_of (map (bit_at v) (drop i bits))
read_top v bits i c b e ec eb =
    let last : number_of (map (bit_at v) (drop (i + 1) bits)) ≡ 0 = ap (λ xs. number_of (map (bit_at v) xs)) (drop_all (i + 1) bits (omega (arith, e))) in
    let here : number_of (map (bit_at v) (drop i bits)) ≡ bit (bit_at v (get_or bits i 0)) + 2 * number_of (map (bit_at v) (drop (i + 1) bits)) =
    ap (λ xs. number_of (map (bit_at v) xs)) (drop_more bits i 0 (omega (arith, e))) in
    eb ∙ ap (λ k. bit (bit_at v k)) ec ∙ omega (arith, last, here)

listed_number : (f : ℕ → Bool) (i m n : ℕ) → n ≡ suc m → number_of (listed f i n) ≡ bit (f i) + 2 * number_of (listed f (i + 1) m)
listed_number f i m n e = ap (λ k. number_of (listed f i k)) e ∙ ap (λ k. bit (f i) + 2 * number_of (listed f k m)) (sym (add-one i))

pub select_more : (f : ℕ → Bool) (count i j u w b r : ℕ) → i + 1 ≡ j → j < count → u ≡ 1 → w ≡ number_of (listed f j (count - j)) → b ≡ bit (f i) → r ≡ word_join u w b → r ≡ number_of (listed f i (count - i))
select_more f count i j u w b r e lt eu ew eb er =
    below u w b (f i) r (number_of (listed f (i + 1) (count - j))) eu (ew ∙ ap (λ k. number_of (listed f k (count - j))) (sym e)) eb er
    ∙ sym (listed_number f i (count - j) (count - i) (omega (arith, e)))

pub select_top : (f : ℕ → Bool) (count i b : ℕ) → i + 1 ≡ count → b ≡ bit (f i) → b ≡ number_of (listed f i (count - i))
select_top f count i b e eb =
    let n : count - i ≡ suc 0 = omega (arith, e) in
    eb ∙ omega (arith, listed_number f i 0 (count - i) n)

-- ---- the place that an index names

pub where_more : (test : ℕ → Bool) (v : List Bool) (bits : List ℕ) (i c : ℕ) (x : Bool) (all : Bool) → i < length bits → c ≡ get_or bits i 0 → x ≡ (test i && bit_at v c) → x ≡ false →
    bit_where test i (map (bit_at v) (drop i bits)) ≡ all → bit_where test (i + 1) (map (bit_at v) (drop (i + 1) bits)) ≡ all
where_more test v bits i c x all lt ec ex off so_far =
    let bound : ℕ = get_or bits i 0 in
    let here : bit_where test i (map (bit_at v) (drop i bits)) ≡ ((test i && bit_at v bound) || bit_where test (suc i) (map (bit_at v) (drop (i + 1) bits))) =
    ap (λ xs. bit_where test i (map (bit_at v) xs)) (drop_more bits i 0 lt) in
    let none : (test i && bit_at v bound) ≡ false = ap (λ k. test i && bit_at v k) (sym ec) ∙ sym ex ∙ off in
    ap (λ k. bit_where test k (map (bit_at v) (drop (i + 1) bits))) (add-one i)
    ∙ sym (ap (λ b. b || bit_where test (suc i) (map (bit_at v) (drop (i + 1) bits))) none) ∙ sym here ∙ so_far

pub where_found : (test : ℕ → Bool) (v : List Bool) (bits : List ℕ) (i c : ℕ) (x : Bool) (all : Bool) → i < length bits → c ≡ get_or bits i 0 → x ≡ (test i && bit_at v c) → x ≡ true →
    bit_where test i (map (bit_at v) (drop i bits)) ≡ all → true ≡ all
where_found test v bits i c x all lt ec ex on so_far =
    let bound : ℕ = get_or bits i 0 in
    let here : bit_where test i (map (bit_at v) (drop i bits)) ≡ ((test i && bit_at v bound) || bit_where test (suc i) (map (bit_at v) (drop (i + 1) bits))) =
    ap (λ xs. bit_where test i (map (bit_at v) xs)) (drop_more bits i 0 lt) in
    let some : (test i && bit_at v bound) ≡ true = ap (λ k. test i && bit_at v k) (sym ec) ∙ sym ex ∙ on in
    sym (here ∙ ap (λ b. b || bit_where test (suc i) (map (bit_at v) (drop (i + 1) bits))) some) ∙ so_far

pub where_none : (test : ℕ → Bool) (v : List Bool) (bits : List ℕ) (i : ℕ) (all : Bool) → length bits ≤ i → bit_where test i (map (bit_at v) (drop i bits)) ≡ all → false ≡ all
where_none test v bits i all past so_far = sym (ap (λ xs. bit_where test i (map (bit_at v) xs)) (drop_all i bits past)) ∙ so_far
