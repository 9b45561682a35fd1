-- Lists of digits and the numbers that they spell.
use Rattle.std.proofs.Common.{get_or, drop, ◌⊎◌, inl, inr, ◌≡◌, ℕ, suc, ◌+◌, ◌-◌, ◌*◌, ◌/◌, ◌%◌, ◌^◌, ◌<◌, ◌≤◌, ◌==◌, nat_lt, Bool, true, false, not, cond, ◌||◌, ◌&&◌, if◌then◌else◌, List, [], ◌∷◌, length, refl, sym, ap, subst, ◌∙◌, arith, Option, Some, None}
use Rattle.std.specs.List.{prefix_len, list_all}
use Rattle.std.proofs.lemmas.Nat.{mod-pow-add, mul-mod_first}
use Rattle.std.proofs.lemmas.Nat.Bits.{ones_shr}
use Rattle.std.proofs.Math.Nat.{mul-add-mod_self_right, mod-mod, mod-add-mod, le-mul_of_pos_right}
use Rattle.std.proofs.lemmas.Bool.{lt-ltb, le-ltb, ltb-false}
use Rattle.std.proofs.lemmas.Bool.Decides.{eqb_tells}
use Rattle.vlog_tokens.specs.Numbers.{spelled, with_digit, digit_value, below}

-- ---- lists of digits

one_more : (n : ℕ) → 1 + n ≡ suc n
one_more n = omega arith

none_left : (n : ℕ) → (0 == suc n) ≡ false
none_left n = elim (eqb_tells 0 (suc n)) [ inl h ↦ absurd (omega (arith, h.1)) | inr h ↦ h.0 ]

suc_same : (m n : ℕ) → (suc m == suc n) ≡ (m == n)
suc_same m n = elim (eqb_tells (suc m) (suc n)) [
  | inl h ↦ (let same : m ≡ n = omega (arith, h.1) in h.0 ∙ sym (eqb-is m n same))
  | inr h ↦ elim (eqb_tells m n) [ inl k ↦ absurd (h.1 (ap suc k.1)) | inr k ↦ h.0 ∙ sym k.0 ]
]
  where
    eqb-is : (m n : ℕ) → m ≡ n → (m == n) ≡ true
    eqb-is m n e = elim (eqb_tells m n) [ inl k ↦ k.0 | inr k ↦ absurd (k.1 e) ]

-- a run goes through the whole list where each byte passes
pub whole_run : (p : ℕ → Bool) (bs : List ℕ) → (prefix_len p bs == length bs) ≡ list_all p bs
whole_run p [] = refl
whole_run p (b ∷ bs) = (elim (p b) as (λ v. p b ≡ v → (cond v (1 + prefix_len p bs) 0 == suc (length bs)) ≡ (v && list_all p bs)) [
  | true ↦ λ h. rw (one_more (prefix_len p bs)) (suc_same (prefix_len p bs) (length bs) ∙ whole_run p bs)
  | false ↦ λ h. none_left (length bs)
]) refl

-- ---- numbers of few bits

-- all ones of 128, moved down until w are left
pub ones_of : (w : ℕ) → w ≤ 128 → (2 ^ 128 - 1) / 2 ^ (128 - w) ≡ 2 ^ w - 1
ones_of w h =
    let back : 128 - (128 - w) ≡ w = omega arith in
    ones_shr 128 (128 - w) (omega arith) ∙ ap (λ (k : ℕ). 2 ^ k - 1) back

-- the low bits of the low 128 bits
pub low_of_low : (n w : ℕ) → w ≤ 128 → n % 2 ^ 128 % 2 ^ w ≡ n % 2 ^ w
low_of_low n w h =
    let split : 128 ≡ (128 - w) + w = omega arith in
    ap (λ (k : ℕ). n % 2 ^ k % 2 ^ w) split
    ∙ ap (λ (m : ℕ). m % 2 ^ w) (mod-pow-add n (128 - w) w)
    ∙ mul-add-mod_self_right (n / 2 ^ w % 2 ^ (128 - w)) (2 ^ w) (n % 2 ^ w)
    ∙ mod-mod n (2 ^ w)

-- numbers with the same low 128 bits have the same lower bits
pub cut_low : (x y w : ℕ) → w ≤ 128 → x % 2 ^ 128 ≡ y % 2 ^ 128 → x % 2 ^ w ≡ y % 2 ^ w
cut_low x y w h e = sym (low_of_low x w h) ∙ ap (λ (z : ℕ). z % 2 ^ w) e ∙ low_of_low y w h

pub low_sum : (x k m : ℕ) → (x % m + k) % m % m ≡ (x + k) % m
low_sum x k m = mod-mod (x % m + k) m ∙ mod-add-mod x m k

-- ---- what digits spell

-- one digit more, of numbers with the same low part
step_low : (x y r d m : ℕ) → x % m ≡ y % m → (x * r + d) % m ≡ (y * r + d) % m
step_low x y r d m e =
    sym (mod-add-mod (x * r) m d)
    ∙ ap (λ (z : ℕ). (z + d) % m) (sym (mul-mod_first x r m) ∙ ap (λ (z : ℕ). z * r % m) e ∙ mul-mod_first y r m)
    ∙ mod-add-mod (y * r) m d

same_digit : (weigh : ℕ → ℕ) (r m x y b : ℕ) → x % m ≡ y % m → with_digit weigh r x b % m ≡ with_digit weigh r y b % m
same_digit weigh r m x y b e = elim (b == 95) as (λ v. (if v then x else x * r + weigh b) % m ≡ (if v then y else y * r + weigh b) % m) [
  | true ↦ e
  | false ↦ step_low x y r (weigh b) m e
]

pub same_low : (weigh : ℕ → ℕ) (r m x y : ℕ) (bs : List ℕ) → x % m ≡ y % m → spelled weigh r x bs % m ≡ spelled weigh r y bs % m
same_low weigh r m x y [] e = e
same_low weigh r m x y (b ∷ bs) e = same_low weigh r m (with_digit weigh r x b) (with_digit weigh r y b) bs (same_digit weigh r m x y b e)

times_some : (x r : ℕ) → 1 ≤ r → x ≤ x * r
times_some x r h = le-mul_of_pos_right x (omega arith)

digit_grows : (weigh : ℕ → ℕ) (r x b : ℕ) → 1 ≤ r → x ≤ with_digit weigh r x b
digit_grows weigh r x b h = elim (b == 95) as (λ v. x ≤ (if v then x else x * r + weigh b)) [
  | true ↦ omega arith
  | false ↦ (let some = times_some x r h in omega (arith, some))
]

-- digits make a number no smaller
pub spelled_grows : (weigh : ℕ → ℕ) (r x : ℕ) (bs : List ℕ) → 1 ≤ r → x ≤ spelled weigh r x bs
spelled_grows weigh r x [] h = omega arith
spelled_grows weigh r x (b ∷ bs) h =
    let here = digit_grows weigh r x b h in
    let more = spelled_grows weigh r (with_digit weigh r x b) bs h in
    omega (arith, here, more)

-- ---- values within a limit

pub large_below : (limit n : ℕ) → limit ≤ n → below limit n ≡ None
large_below limit n h = ap (λ (v : Bool). if v then Some n else None) (le-ltb n limit h)

pub small_below : (limit n : ℕ) → n < limit → below limit n ≡ Some n
small_below limit n h = ap (λ (v : Bool). if v then Some n else None) (lt-ltb n limit h)

-- a value that isn't within the limit is past it
past_limit : (limit n : ℕ) → None ≡ below limit n → limit ≤ n
past_limit limit n e = (elim (nat_lt n limit) as (λ v. nat_lt n limit ≡ v → (let r : Option ℕ = if v then Some n else None in None ≡ r) → limit ≤ n) [
  | true ↦ λ h k. cc
  | false ↦ λ h k. ltb-false n limit h
]) refl e

-- ---- turns of the loops

pub none_turn : (r v limit : ℕ) (rest : List ℕ) (total : ℕ) → 1 ≤ r → 1 ≤ length rest → spelled digit_value r v rest ≡ total
    → None ≡ below limit (with_digit digit_value r v (get_or rest 0 0)) → None ≡ below limit total
none_turn r v limit [] total some le e past = absurd (omega (arith, le))
none_turn r v limit (b ∷ bs) total some le e past =
    let over : limit ≤ with_digit digit_value r v b = past_limit limit (with_digit digit_value r v b) past in
    let grown : with_digit digit_value r v b ≤ spelled digit_value r (with_digit digit_value r v b) bs = spelled_grows digit_value r (with_digit digit_value r v b) bs some in
    let whole : spelled digit_value r (with_digit digit_value r v b) bs ≡ total = e in
    sym (large_below limit total (omega (arith, over, grown, whole)))

pub all_read : (r v limit : ℕ) (rest : List ℕ) (total : ℕ) → v < limit → length rest < 1 → spelled digit_value r v rest ≡ total → Some v ≡ below limit total
all_read r v limit [] total small le e = let same : v ≡ total = e in sym (ap (λ (z : ℕ). below limit z) (sym same) ∙ small_below limit v small)
all_read r v limit (b ∷ bs) total small le e = absurd (omega (arith, le))

pub open_turn : (weigh : ℕ → ℕ) (r m bits next : ℕ) (rest more : List ℕ) (total : ℕ) → more ≡ drop 1 rest → 1 ≤ length rest → spelled weigh r bits rest % m ≡ total
    → next % m ≡ with_digit weigh r bits (get_or rest 0 0) % m → spelled weigh r next more % m ≡ total
open_turn weigh r m bits next [] more total d le e step = absurd (omega (arith, le))
open_turn weigh r m bits next (b ∷ bs) more total d le e step =
    ap (λ (z : List ℕ). spelled weigh r next z % m) d ∙ same_low weigh r m next (with_digit weigh r bits b) bs step ∙ e
