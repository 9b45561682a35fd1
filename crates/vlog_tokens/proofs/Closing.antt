-- Comments and attributes end at the first bytes that close them.
use Rattle.std.proofs.Common.{◌≡◌, ℕ, suc, ◌+◌, ◌<◌, ◌≤◌, ◌==◌, Bool, true, false, not, get_or, cond, ◌&&◌, if◌then◌else◌, List, [], ◌∷◌, ◌++◌, length, take, drop, refl, sym, ◌∙◌, ap, subst, arith}
use Rattle.std.specs.List.{list_all, prefix_len}
use Rattle.std.proofs.lemmas.Bool.{eqb-true}
use Rattle.vlog_tokens.specs.Gaps.{begins_with, begins_with_both, bytes_before, is_in_line, ends_line}
use Rattle.std.proofs.lemmas.List.{drop_more}
use Rattle.vlog_tokens.proofs.Tests.{split_and, eqb_same, run_front, run_stops}

pub short : (text : List ℕ) → length text < 2 → drop (length text) text ≡ drop 2 text
short [] h = refl
short (a ∷ []) h = refl
short (a ∷ b ∷ text) h = absurd (omega (arith, h))

-- the first two bytes are these
pub both_is : (a b : ℕ) (text : List ℕ) → begins_with_both a b text ≡ true → (rest : List ℕ) × (text ≡ a ∷ b ∷ rest)
both_is a b [] e = absurd (let no : false ≡ true = e in cc)
both_is a b (c ∷ []) e = absurd (let no : false ≡ true = (split_and (c == a) false e).1 in cc)
both_is a b (c ∷ d ∷ cs) e =
    let both = split_and (c == a) (d == b) e in
    (cs, ap (λ (z : ℕ). z ∷ d ∷ cs) (eqb-true c a both.0) ∙ ap (λ (z : ℕ). a ∷ z ∷ cs) (eqb-true d b both.1))

-- the two bytes that close are found no later than anywhere
pub before_within : (a b : ℕ) (before behind : List ℕ) → bytes_before a b (before ++ a ∷ b ∷ behind) ≤ length before
before_within a b [] behind = let here : begins_with_both a b (a ∷ b ∷ behind) ≡ true = both in
    let none : bytes_before a b (a ∷ b ∷ behind) ≡ 0 = ap (λ v. if v then 0 else suc (bytes_before a b (b ∷ behind))) here in
    omega (arith, none)
  where
    both : (a == a && b == b) ≡ true
    both = ap (λ v. v && b == b) (eqb_same a) ∙ eqb_same b
before_within a b (c ∷ cs) behind =
    let later = before_within a b cs behind in
    elim (begins_with_both a b (c ∷ (cs ++ a ∷ b ∷ behind))) as (λ v. (if v then 0 else suc (bytes_before a b (cs ++ a ∷ b ∷ behind))) ≤ suc (length cs)) [ true ↦ omega arith | false ↦ omega (arith, later) ]

-- where they are found, they are there
pub before_splits : (a b : ℕ) (text : List ℕ) → bytes_before a b text < length text → (rest : List ℕ) × (text ≡ take (bytes_before a b text) text ++ a ∷ b ∷ rest)
before_splits a b [] h = absurd (omega (arith, h))
before_splits a b (c ∷ cs) h = (elim (begins_with_both a b (c ∷ cs)) as (λ v. begins_with_both a b (c ∷ cs) ≡ v → (let n : ℕ = if v then 0 else suc (bytes_before a b cs) in n < suc (length cs) → (rest : List ℕ) × (c ∷ cs ≡ take n (c ∷ cs) ++ a ∷ b ∷ rest))) [
  | true ↦ λ e l. both_is a b (c ∷ cs) e
  | false ↦ λ e l. (let more = before_splits a b cs (omega (arith, l)) in (more.0, ap (λ (z : List ℕ). c ∷ z) more.1))
]) refl h

-- ---- lines

pub line_front : (text : List ℕ) → list_all is_in_line (take (prefix_len is_in_line text) text) ≡ true
line_front text = run_front is_in_line text

pub line_end : (text : List ℕ) → ends_line (drop (prefix_len is_in_line text) text) ≡ true
line_end text = end (drop (prefix_len is_in_line text) text) refl
  where
    feed : (b : ℕ) → is_in_line b ≡ false → (b == 10) ≡ true
    feed b e = (elim (b == 10) as (λ v. not v ≡ false → v ≡ true) [ true ↦ λ _. refl | false ↦ λ h. sym h ]) e

    end : (rest : List ℕ) → drop (prefix_len is_in_line text) text ≡ rest → ends_line rest ≡ true
    end [] e = refl
    end (b ∷ bs) e = feed b (run_stops is_in_line text b bs e)

-- ---- a turn of the loop that looks for the two bytes

pub before_turn : (a b n : ℕ) (text part : List ℕ) (v : Bool) (total : ℕ) → part ≡ drop n text → n < length text → n + bytes_before a b (drop n text) ≡ total
    → v ≡ begins_with_both a b part → v ≡ false → ((n + 1) + bytes_before a b (drop (n + 1) text) ≡ total) × (n + 1 ≤ length text)
before_turn a b n text part v total p l e t f =
    let split : drop n text ≡ get_or text n 0 ∷ drop (n + 1) text = drop_more text n 0 l in
    let here : begins_with_both a b (get_or text n 0 ∷ drop (n + 1) text) ≡ false = sym (t ∙ ap (λ (z : List ℕ). begins_with_both a b z) (p ∙ split)) ∙ f in
    let same : bytes_before a b (drop n text) ≡ suc (bytes_before a b (drop (n + 1) text)) =
    ap (λ (z : List ℕ). bytes_before a b z) split ∙ ap (λ w. if w then 0 else suc (bytes_before a b (drop (n + 1) text))) here in
    (omega (arith, e, same), omega (arith, l))
