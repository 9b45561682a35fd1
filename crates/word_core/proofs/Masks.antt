-- Numbers of few bits.
use Rattle.std.proofs.Common.{◌≡◌, ℕ, ◌+◌, ◌-◌, ◌*◌, ◌/◌, ◌%◌, ◌^◌, ◌<◌, ◌≤◌, sym, ap, subst, ◌∙◌, arith}
use Rattle.std.proofs.lemmas.Nat.{mod-pow-add, pow-add, mul-add-lt}
use Rattle.std.proofs.lemmas.Nat.Bits.{ones_shr}
use Rattle.std.proofs.Math.Pow.{pow_mono}
use Rattle.std.proofs.Math.Nat.{lt_of_lt_of_le, div-eq_of_lt, mul_comm, mul_assoc, mul-add-mod_self_right, mod-mod, mul-mod_left}

-- all ones of 128, moved down until w are left
pub ones_of : (w : ℕ) → w ≤ 128 → (2 ^ 128 - 1) / 2 ^ (128 - w) ≡ 2 ^ w - 1
ones_of w h =
    let back : 128 - (128 - w) ≡ w = omega arith in
    ones_shr 128 (128 - w) (omega arith) ∙ ap (λ (k : ℕ). 2 ^ k - 1) back

-- the low bits of the low 128 bits
pub low_of_low : (n w : ℕ) → w ≤ 128 → n % 2 ^ 128 % 2 ^ w ≡ n % 2 ^ w
low_of_low n w h =
    let whole : 128 ≡ (128 - w) + w = omega arith in
    ap (λ (k : ℕ). n % 2 ^ k % 2 ^ w) whole
    ∙ ap (λ (m : ℕ). m % 2 ^ w) (mod-pow-add n (128 - w) w)
    ∙ mul-add-mod_self_right (n / 2 ^ w % 2 ^ (128 - w)) (2 ^ w) (n % 2 ^ w)
    ∙ mod-mod n (2 ^ w)

-- what is moved out is gone
pub shl_all : (n k w : ℕ) → w ≤ k → n * 2 ^ k % 2 ^ w ≡ 0
shl_all n k w h =
    let whole : k ≡ (k - w) + w = omega arith in
    let split : n * 2 ^ k ≡ (n * 2 ^ (k - w)) * 2 ^ w = ap (λ (m : ℕ). n * 2 ^ m) whole ∙ ap (λ (m : ℕ). n * m) (pow-add 2 (k - w) w) ∙ sym (mul_assoc n (2 ^ (k - w)) (2 ^ w)) in
    ap (λ (m : ℕ). m % 2 ^ w) split ∙ mul-mod_left (n * 2 ^ (k - w)) (2 ^ w)

pub shr_all : (n k w : ℕ) → n < 2 ^ w → w ≤ k → n / 2 ^ k ≡ 0
shr_all n k w l h = div-eq_of_lt (lt_of_lt_of_le l (pow_mono h))

-- two words side by side
pub joined-lt : (a b j k : ℕ) → a < 2 ^ j → b < 2 ^ k → a * 2 ^ k + b < 2 ^ (j + k)
joined-lt a b j k la lb = subst (λ (m : ℕ). a * 2 ^ k + b < m) (mul_comm (2 ^ k) (2 ^ j) ∙ sym (pow-add 2 j k)) (mul-add-lt a (2 ^ k) b (2 ^ j) la lb)

pub wider : (a j k : ℕ) → j ≤ k → a < 2 ^ j → a < 2 ^ k
wider a j k h l = lt_of_lt_of_le l (pow_mono h)
