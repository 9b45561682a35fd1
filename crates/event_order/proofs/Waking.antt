-- Which processes a change wakes.
use Rattle.std.proofs.Common.{◌≡◌, ℕ, zero, suc, Bool, true, false, not, ◌&&◌, ◌||◌, List, [], ◌∷◌, refl, sym, ap, ◌∙◌, get_or, set, length, ◌<◌, ◌≤◌, ◌+◌, inl, inr, true≢false, arith}
use Rattle.std.proofs.lemmas.List.{get_or_default, get_or_past, ext_get_or, get_or-set_same, get_or-set_other, length-set}
use Rattle.std.proofs.lemmas.Bool.{cases_eq, cases_lt, cases_Bool, or_parts, or_cases, and_parts}
use Rattle.design_core.specs.declared.flat.Process.{Process}
use Rattle.bit_exprs.specs.Values.{bit_at}
use Rattle.design_core.specs.Exec.{xor}
use Rattle.design_core.specs.Drive.{needs}
use Rattle.design_core.specs.Settled.{is_clocked}
use Rattle.design_core.specs.Legality.{idle}
use mathlib.Core.Bool.{beq}
use Rattle.event_order.specs.States.{some_below, wakes, raised, woken}

pub none_below : (n : ℕ) (f : ℕ → Bool) → some_below n f ≡ false → (b : ℕ) → b < n → f b ≡ false
none_below zero f h b lt = absurd (omega arith)
none_below (suc n) f h b lt =
    let parts = or_parts (some_below n f) (f n) h in
    elim (cases_eq b n) [ inl e ↦ rw e parts.1 | inr ne ↦ none_below n f parts.0 b (omega arith) ]

pub one_below : (n : ℕ) (f : ℕ → Bool) → some_below n f ≡ true → (b : ℕ) × (b < n) × (f b ≡ true)
one_below zero f h = cc
one_below (suc n) f h = elim (or_cases (some_below n f) (f n) h) [ inl e ↦ let found = one_below n f e in (found.0, omega (arith, found.1), found.2) | inr e ↦ (n, omega arith, e) ]

same_bits : (a b : Bool) → xor a b ≡ false → a ≡ b
same_bits true true h = refl
same_bits true false h = cc
same_bits false true h = cc
same_bits false false h = refl

other_bits : (a b : Bool) → xor a b ≡ true → a ≡ b → ⊥
other_bits true true h e = cc
other_bits true false h e = cc
other_bits false true h e = cc
other_bits false false h e = cc

-- a combinational process that isn't woken needs no changed bit
pub unchanged : (p : Process) (v w : List Bool) → length w ≡ length v → is_clocked p.kind ≡ false → wakes p v w ≡ false → (b : ℕ) → needs p.body b ≡ true → bit_at v b ≡ bit_at w b
unchanged p v w len comb h b need =
    let none : some_below (length v) (λ c. needs p.body c && xor (bit_at v c) (bit_at w c)) ≡ false = rw comb at h in
    elim (cases_lt b (length v)) [
      | inl lt ↦ same_bits (bit_at v b) (bit_at w b) (ap (λ n. n && xor (bit_at v b) (bit_at w b)) (sym need) ∙ none_below (length v) _ none b lt)
      | inr le ↦ get_or_past v b false le ∙ sym (get_or_past w b false (omega arith))
    ]

-- one that needs no changed bit isn't woken
pub asleep : (p : Process) (v w : List Bool) → ((b : ℕ) → needs p.body b ≡ true → bit_at v b ≡ bit_at w b) → wakes p v w ≡ false
asleep p v w same = elim (cases_Bool (wakes p v w)) [
  | inl h ↦
      let parts = and_parts (not (is_clocked p.kind)) (some_below (length v) (λ c. needs p.body c && xor (bit_at v c) (bit_at w c))) h in
      let found = one_below (length v) (λ c. needs p.body c && xor (bit_at v c) (bit_at w c)) parts.1 in
      let both = and_parts (needs p.body found.0) (xor (bit_at v found.0) (bit_at w found.0)) found.2 in
      absurd (other_bits (bit_at v found.0) (bit_at w found.0) both.1 (same found.0 both.0))
  | inr h ↦ h
]

pub clocked_sleeps : (p : Process) (v w : List Bool) → is_clocked p.kind ≡ true → wakes p v w ≡ false
clocked_sleeps p v w c = rw c refl

pub length-raised : (test : Process → Bool) (ps : List Process) (flags : List Bool) → length flags ≡ length ps → length (raised test ps flags) ≡ length ps
length-raised test [] flags len = refl
length-raised test (p ∷ ps) [] len = absurd (omega arith)
length-raised test (p ∷ ps) (f ∷ flags) len = ap suc (length-raised test ps flags (omega arith))

pub raised_at : (test : Process → Bool) (ps : List Process) (flags : List Bool) (k : ℕ) (e : Process) → length flags ≡ length ps → k < length ps →
    bit_at (raised test ps flags) k ≡ (bit_at flags k || test (get_or ps k e))
raised_at test [] flags k e len lt = absurd (omega arith)
raised_at test (p ∷ ps) [] k e len lt = absurd (omega arith)
raised_at test (p ∷ ps) (f ∷ flags) zero e len lt = refl
raised_at test (p ∷ ps) (f ∷ flags) (suc k) e len lt = raised_at test ps flags k e (omega arith) (omega arith)

pub length-woken : (ps : List Process) (v w flags : List Bool) → length flags ≡ length ps → length (woken ps v w flags) ≡ length ps
length-woken ps v w flags len = length-raised (λ p. wakes p v w) ps flags len

pub woken_at : (ps : List Process) (v w flags : List Bool) (k : ℕ) (e : Process) → length flags ≡ length ps → k < length ps →
    bit_at (woken ps v w flags) k ≡ (bit_at flags k || wakes (get_or ps k e) v w)
woken_at ps v w flags k e len lt = raised_at (λ p. wakes p v w) ps flags k e len lt

-- a flag that is still down was down, and its process wasn't woken
pub still_down : (ps : List Process) (v w flags : List Bool) (k : ℕ) (e : Process) → length flags ≡ length ps → k < length ps →
    bit_at (woken ps v w flags) k ≡ false → (bit_at flags k ≡ false) × (wakes (get_or ps k e) v w ≡ false)
still_down ps v w flags k e len lt h = or_parts (bit_at flags k) (wakes (get_or ps k e) v w) (sym (woken_at ps v w flags k e len lt) ∙ h)

-- and the other way round
pub stays_down : (ps : List Process) (v w flags : List Bool) (k : ℕ) (e : Process) → length flags ≡ length ps → k < length ps →
    bit_at flags k ≡ false → wakes (get_or ps k e) v w ≡ false → bit_at (woken ps v w flags) k ≡ false
stays_down ps v w flags k e len lt down sleeps = woken_at ps v w flags k e len lt ∙ ap (λ f. f || wakes (get_or ps k e) v w) down ∙ sleeps

-- the flags after the processes before n were looked at
pub record RaisedBefore (test : Process → Bool) (ps : List Process) (flags : List Bool) (n : ℕ) (now : List Bool) : Type 0 where
  pub long : length now ≡ length flags
  pub before : (k : ℕ) (e : Process) → k < n → k < length ps → bit_at now k ≡ (bit_at flags k || test (get_or ps k e))
  pub rest : (k : ℕ) → n ≤ k → bit_at now k ≡ bit_at flags k

pub some_below_at : (n : ℕ) (f : ℕ → Bool) (b : ℕ) → b < n → f b ≡ true → some_below n f ≡ true
some_below_at n f b lt h = elim (cases_Bool (some_below n f)) [ inl e ↦ e | inr e ↦ absurd (true≢false (sym h ∙ none_below n f e b lt)) ]

pub raised_done : (test : Process → Bool) (ps : List Process) (flags : List Bool) (n : ℕ) (now : List Bool) → length flags ≡ length ps → length ps ≤ n → RaisedBefore test ps flags n now → now ≡ raised test ps flags
raised_done test ps flags n now long le h =
    ext_get_or false now (raised test ps flags) (h.long ∙ long ∙ sym (length-raised test ps flags long)) (λ k lt.
    let within : k < length ps = rw (← long) (rw (← h.long) lt) in
    h.before k idle (omega arith) within ∙ sym (raised_at test ps flags k idle long within))

pub changed_needed : (n a b : Bool) → n ≡ true → not (beq a b) ≡ true → (n && xor a b) ≡ true
changed_needed true true true h e = cc
changed_needed true true false h e = refl
changed_needed true false true h e = refl
changed_needed true false false h e = cc
changed_needed false a b h e = cc

pub raised_then : (test : Process → Bool) (ps : List Process) (flags : List Bool) (n : ℕ) (now : List Bool) (p : Process) → n < length ps → length flags ≡ length ps → p ≡ get_or ps n p → test p ≡ true →
    RaisedBefore test ps flags n now → RaisedBefore test ps flags (n + 1) (set now n true)
raised_then test ps flags n now p lt long at passes h = record {
  long = length-set now n true ∙ h.long;
  before = λ k e l lk. elim (cases_eq k n) [
    | inl q ↦
        let within : n < length now = rw h.long (rw long lt) in
        let is : get_or ps n e ≡ p = get_or_default ps n e p lt ∙ sym at in
        rw q (get_or-set_same now n true false within ∙ sym (ap (λ x. bit_at flags n || test x) is ∙ or_true (bit_at flags n) (test p) passes))
    | inr ne ↦ get_or-set_other now n k true false ne ∙ h.before k e (omega arith) lk
  ];
  rest = λ k le. get_or-set_other now n k true false (λ q. absurd (omega arith)) ∙ h.rest k (omega arith);
}
  where
    or_true : (a b : Bool) → b ≡ true → (a || b) ≡ true
    or_true true b e = refl
    or_true false b e = e

pub raised_else : (test : Process → Bool) (ps : List Process) (flags : List Bool) (n : ℕ) (now : List Bool) (p : Process) → n < length ps → p ≡ get_or ps n p → test p ≡ false →
    RaisedBefore test ps flags n now → RaisedBefore test ps flags (n + 1) now
raised_else test ps flags n now p lt at fails h = record {
  long = h.long;
  before = λ k e l lk. elim (cases_eq k n) [
    | inl q ↦
        let is : get_or ps n e ≡ p = get_or_default ps n e p lt ∙ sym at in
        rw q (h.rest n (omega arith) ∙ sym (ap (λ x. bit_at flags n || test x) is ∙ or_false (bit_at flags n) (test p) fails))
    | inr ne ↦ h.before k e (omega arith) lk
  ];
  rest = λ k le. h.rest k (omega arith);
}
  where
    or_false : (a b : Bool) → b ≡ false → (a || b) ≡ a
    or_false true b e = refl
    or_false false b e = e
