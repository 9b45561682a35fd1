-- What is done at a place is what the place asks for.
use Rattle.std.proofs.Common.{◌≡◌, ℕ, zero, suc, ◌+◌, ◌≤◌, ◌<◌, ◌==◌, nat_lt, Bool, true, false, not, ◌&&◌, if◌then◌else◌, ◌⊎◌, inl, inr, List, [], ◌∷◌, ◌++◌, length, take, drop, refl, sym, ◌∙◌, ap, subst, arith, append_assoc, length-append}
use Rattle.std.specs.List.{list_all, prefix_len}
use Rattle.std.proofs.lemmas.Bool.{ltb-true, ltb-false, eqb-true, eqb-false}
use Rattle.std.proofs.lemmas.List.{take-append-drop, length-take-le}
use Rattle.std.proofs.lemmas.List.Sums.{prefix_len-le-length}
use Rattle.vlog_tokens.specs.declared.gap.Opening.{Opening}
use Rattle.vlog_tokens.specs.declared.gap.Opening.TheVariants.{Blank, Line, Block, Attribute, Other}
use Rattle.vlog_tokens.specs.declared.turn.Turn.{Turn}
use Rattle.vlog_tokens.specs.declared.turn.Turn.TheVariants.{Pass, Take, NoEnd, NoValue, Nothing}
use Rattle.vlog_tokens.specs.Bytes.{is_blank}
use Rattle.vlog_tokens.specs.Gaps.{begins_with, begins_with_both, behind_blanks, opens_attribute, opening_of_solid, opening, is_in_line, ends_line, Closes, IsGap, NeverCloses, IsUnclosed, bytes_before}
use Rattle.vlog_tokens.specs.Reads.{is_bad_number, closed, token_or_bad, close, turn_at, turn, TurnFits}
use Rattle.vlog_tokens.specs.Tokens.{IsToken, IsLongest, NoToken, token_length}
use Rattle.vlog_tokens.proofs.Tests.{differ, split_and}
use Rattle.vlog_tokens.proofs.Closing.{both_is, before_within, before_splits, line_front, line_end}
use Rattle.vlog_tokens.proofs.Longest.{token_taken, token_longest, token_none}

-- ---- what begins with what

abbrev pub Begins : Opening → List ℕ → Type 0
Begins Blank text = (b : ℕ) × (bs : List ℕ) × (text ≡ b ∷ bs)
Begins Line text = (bs : List ℕ) × (text ≡ 47 ∷ 47 ∷ bs)
Begins Block text = (bs : List ℕ) × (text ≡ 47 ∷ 42 ∷ bs)
Begins Attribute text = (bs : List ℕ) × (text ≡ 40 ∷ 42 ∷ bs)
Begins Other text = Unit {0}

attribute_begins : (text : List ℕ) → Begins (if opens_attribute text then Attribute else Other) text
attribute_begins text = (elim (opens_attribute text) as (λ v. opens_attribute text ≡ v → Begins (if v then Attribute else Other) text) [
  | true ↦ λ e. both_is 40 42 text (split_and (begins_with_both 40 42 text) (not (begins_with 41 (behind_blanks (drop 2 text)))) e).0
  | false ↦ λ e. tt
]) refl

block_begins : (text : List ℕ) → Begins (if begins_with_both 47 42 text then Block else if opens_attribute text then Attribute else Other) text
block_begins text = (elim (begins_with_both 47 42 text) as (λ v. begins_with_both 47 42 text ≡ v → Begins (if v then Block else if opens_attribute text then Attribute else Other) text) [
  | true ↦ λ e. both_is 47 42 text e
  | false ↦ λ e. attribute_begins text
]) refl

solid_begins : (text : List ℕ) → Begins (opening_of_solid text) text
solid_begins text = (elim (begins_with_both 47 47 text) as (λ v. begins_with_both 47 47 text ≡ v → Begins (if v then Line else if begins_with_both 47 42 text then Block else if opens_attribute text then Attribute else Other) text) [
  | true ↦ λ e. both_is 47 47 text e
  | false ↦ λ e. block_begins text
]) refl

pub opening_begins : (text : List ℕ) → Begins (opening text) text
opening_begins [] = tt
opening_begins (b ∷ bs) = elim (is_blank b) as (λ v. Begins (if v then Blank else opening_of_solid (b ∷ bs)) (b ∷ bs)) [ true ↦ (b, bs, refl) | false ↦ solid_begins (b ∷ bs) ]

-- ---- what the turns are

-- a gap of this length stands at the front
pub record IsPass (text : List ℕ) (n : ℕ) : Type 0 where
  pub gap : List ℕ
  pub rest : List ℕ
  pub whole : text ≡ gap ++ rest
  pub long : length gap ≡ n
  pub some : 0 < n
  pub is_gap : IsGap (opening text) gap rest

-- the longest token, which has this length, stands at the front
pub record IsTake (text : List ℕ) (n : ℕ) : Type 0 where
  pub solid : opening text ≡ Other
  pub some : 0 < n
  pub within : n ≤ length text
  pub longest : IsLongest (take n text) (drop n text)
  pub good : is_bad_number (take n text) ≡ false

-- the longest token at the front is a number without a value
pub record IsNoValue (text : List ℕ) : Type 0 where
  pub solid : opening text ≡ Other
  pub long : ℕ
  pub longest : IsLongest (take long text) (drop long text)
  pub bad : is_bad_number (take long text) ≡ true

pub record IsNothing (text : List ℕ) : Type 0 where
  pub solid : opening text ≡ Other
  pub none : NoToken text

abbrev pub IsTurn : List ℕ → Turn → Type 0
IsTurn text (Pass n) = IsPass text n
IsTurn text (Take n) = IsTake text n
IsTurn text NoEnd = IsUnclosed (opening text) text
IsTurn text NoValue = IsNoValue text
IsTurn text Nothing = IsNothing text

-- ---- gaps

blank_turn : (text : List ℕ) → opening text ≡ Blank → Begins Blank text → IsPass text 1
blank_turn text o B = record {
  gap = B.0 ∷ [];
  rest = B.1;
  whole = B.2;
  long = refl;
  some = omega arith;
  is_gap = subst (λ z. IsGap z (B.0 ∷ []) B.1) (sym o) refl;
}

pub line_turn : (text : List ℕ) → opening text ≡ Line → Begins Line text → IsPass text (prefix_len is_in_line text)
line_turn text o B = record {
  gap = take (prefix_len is_in_line text) text;
  rest = drop (prefix_len is_in_line text) text;
  whole = sym (take-append-drop (prefix_len is_in_line text) text);
  long = length-take-le (prefix_len is_in_line text) text (prefix_len-le-length is_in_line text);
  some = subst (λ z. 0 < prefix_len is_in_line z) (sym B.1) (omega arith);
  is_gap = subst (λ z. IsGap z (take (prefix_len is_in_line text) text) (drop (prefix_len is_in_line text) text)) (sym o) (line_front text, line_end text);
}

-- what the two bytes close, or that they never do
abbrev pub IsClose : ℕ → ℕ → List ℕ → Turn → Type 0
IsClose a b text (Pass n) = (gap : List ℕ) × (rest : List ℕ) × (text ≡ gap ++ rest) × (length gap ≡ n) × Closes a b gap rest
IsClose a b text (Take n) = ⊥
IsClose a b text NoEnd = NeverCloses a b text
IsClose a b text NoValue = ⊥
IsClose a b text Nothing = ⊥

body_closes : (a b : ℕ) (body front rest : List ℕ) → body ≡ front ++ a ∷ b ∷ rest → length front ≡ bytes_before a b body
    → (before behind : List ℕ) → front ++ a ∷ b ∷ rest ≡ before ++ a ∷ b ∷ behind → length front ≤ length before
body_closes a b body front rest whole long before behind e =
    let same : body ≡ before ++ a ∷ b ∷ behind = whole ∙ e in
    let within : bytes_before a b body ≤ length before = subst (λ z. bytes_before a b z ≤ length before) (sym same) (before_within a b before behind) in
    omega (arith, within, long)

pub close_is : (a b c d : ℕ) (body : List ℕ) → IsClose a b (c ∷ d ∷ body) (closed body (bytes_before a b body))
close_is a b c d body = (elim (nat_lt (bytes_before a b body) (length body)) as (λ v. nat_lt (bytes_before a b body) (length body) ≡ v → IsClose a b (c ∷ d ∷ body) (if v then Pass (bytes_before a b body + 4) else NoEnd)) [
  | true ↦ λ e. found (before_splits a b body (ltb-true (bytes_before a b body) (length body) e)) (ltb-true (bytes_before a b body) (length body) e)
  | false ↦ λ e before behind whole. never before behind whole (ltb-false (bytes_before a b body) (length body) e)
]) refl
  where
    found : (rest : List ℕ) × (body ≡ take (bytes_before a b body) body ++ a ∷ b ∷ rest) → bytes_before a b body < length body → IsClose a b (c ∷ d ∷ body) (Pass (bytes_before a b body + 4))
    found (rest, e) l =
        let front : List ℕ = take (bytes_before a b body) body in
        let n : length (take (bytes_before a b body) body) ≡ bytes_before a b body = length-take-le (bytes_before a b body) body (omega (arith, l)) in
        let whole : c ∷ d ∷ body ≡ (c ∷ d ∷ (take (bytes_before a b body) body ++ a ∷ b ∷ [])) ++ rest = ap (λ (z : List ℕ). c ∷ d ∷ z) (e ∙ sym (append_assoc (take (bytes_before a b body) body) (a ∷ b ∷ []) rest)) in
        let long : length (take (bytes_before a b body) body ++ a ∷ b ∷ []) ≡ length (take (bytes_before a b body) body) + 2 = length-append (take (bytes_before a b body) body) (a ∷ b ∷ []) in (
          c ∷ d ∷ (take (bytes_before a b body) body ++ a ∷ b ∷ []),
          rest,
          whole,
          omega (arith, long, n),
          record {
            opened = c ∷ d ∷ [];
            two = refl;
            body = take (bytes_before a b body) body;
            whole = refl;
            first = body_closes a b body (take (bytes_before a b body) body) rest e n;
          },
        )

    never : (before behind : List ℕ) → body ≡ before ++ a ∷ b ∷ behind → length body ≤ bytes_before a b body → ⊥
    never before behind whole l =
        let within : bytes_before a b body ≤ length before = subst (λ z. bytes_before a b z ≤ length before) (sym whole) (before_within a b before behind) in
        let long : length body ≡ length (before ++ a ∷ b ∷ behind) = ap (λ (z : List ℕ). length z) whole in
        let parts : length (before ++ a ∷ b ∷ behind) ≡ length before + length (a ∷ b ∷ behind) = length-append before (a ∷ b ∷ behind) in
        absurd (omega (arith, within, long, parts, l))

pub close_some : (a b : ℕ) (gap rest : List ℕ) (n : ℕ) → length gap ≡ n → Closes a b gap rest → 0 < n
close_some a b gap rest n long C =
    let e : length gap ≡ length ((C.opened ++ C.body) ++ a ∷ b ∷ []) = ap (λ (z : List ℕ). length z) C.whole in
    let parts : length ((C.opened ++ C.body) ++ a ∷ b ∷ []) ≡ length (C.opened ++ C.body) + 2 = length-append (C.opened ++ C.body) (a ∷ b ∷ []) in
    omega (arith, e, parts, long)

-- what a comment or an attribute asks for, where these two bytes close it
close_turn : (a b : ℕ) (text : List ℕ) (t : Turn) → IsClose a b text t → ((gap rest : List ℕ) → Closes a b gap rest → IsGap (opening text) gap rest)
    → (NeverCloses a b text → IsUnclosed (opening text) text) → IsTurn text t
close_turn a b text (Pass n) (gap, rest, whole, long, closes) pass stop = record {
  gap = gap;
  rest = rest;
  whole = whole;
  long = long;
  some = close_some a b gap rest n long closes;
  is_gap = pass gap rest closes;
}
close_turn a b text (Take n) C pass stop = absurd C
close_turn a b text NoEnd C pass stop = stop C
close_turn a b text NoValue C pass stop = absurd C
close_turn a b text Nothing C pass stop = absurd C

block_turn : (text : List ℕ) → opening text ≡ Block → Begins Block text → IsTurn text (close 42 47 text)
block_turn text o B = close_turn 42 47 text (close 42 47 text) (subst (λ z. IsClose 42 47 z (close 42 47 z)) (sym B.1) (close_is 42 47 47 42 B.0))
    (λ gap rest C. subst (λ z. IsGap z gap rest) (sym o) C) (λ N. subst (λ z. IsUnclosed z text) (sym o) N)

attribute_turn : (text : List ℕ) → opening text ≡ Attribute → Begins Attribute text → IsTurn text (close 42 41 text)
attribute_turn text o B = close_turn 42 41 text (close 42 41 text) (subst (λ z. IsClose 42 41 z (close 42 41 z)) (sym B.1) (close_is 42 41 40 42 B.0))
    (λ gap rest C. subst (λ z. IsGap z gap rest) (sym o) C) (λ N. subst (λ z. IsUnclosed z text) (sym o) N)

-- ---- tokens

positive : (n : ℕ) → (n ≡ 0 → ⊥) → 0 < n
positive zero h = absurd (h refl)
positive (suc n) h = omega arith

token_turn : (text : List ℕ) (n : ℕ) → opening text ≡ Other → n ≤ length text → (0 < n → IsLongest (take n text) (drop n text)) → (n ≡ 0 → NoToken text) → IsTurn text (token_or_bad text n)
token_turn text n o within longest none = (elim (n == 0) as (λ v. (n == 0) ≡ v → IsTurn text (if v then Nothing else if is_bad_number (take n text) then NoValue else Take n)) [
  | true ↦ λ e. record { solid = o; none = none (eqb-true n 0 e) }
  | false ↦ λ e. some (positive n (eqb-false n 0 e))
]) refl
  where
    some : 0 < n → IsTurn text (if is_bad_number (take n text) then NoValue else Take n)
    some h = (elim (is_bad_number (take n text)) as (λ v. is_bad_number (take n text) ≡ v → IsTurn text (if v then NoValue else Take n)) [
      | true ↦ λ e. record { solid = o; long = n; longest = longest h; bad = e }
      | false ↦ λ e. record { solid = o; some = h; within = within; longest = longest h; good = e }
    ]) refl

pub turn_is : (text : List ℕ) → IsTurn text (turn text)
unfolding turn
turn_is text = (elim (opening text) as (λ v. opening text ≡ v → Begins v text → IsTurn text (turn_at v text)) [
  | Blank ↦ λ o B. blank_turn text o B
  | Line ↦ λ o B. line_turn text o B
  | Block ↦ λ o B. block_turn text o B
  | Attribute ↦ λ o B. attribute_turn text o B
  | Other ↦ λ o B. token_turn text (token_length text) o (token_taken text).within (token_longest text) (token_none text)
]) refl (opening_begins text)

turn_within : (text : List ℕ) (t : Turn) → IsTurn text t → TurnFits text t
turn_within text (Pass n) T =
    let whole : length text ≡ length (T.gap ++ T.rest) = ap (λ (z : List ℕ). length z) T.whole in
    let parts = length-append T.gap T.rest in
    let long = T.long in
    (T.some, omega (arith, whole, parts, long))
turn_within text (Take n) T = (T.some, T.within)
turn_within text NoEnd T = tt
turn_within text NoValue T = tt
turn_within text Nothing T = tt

pub turn_fits : (text : List ℕ) → TurnFits text (turn text)
turn_fits text = turn_within text (turn text) (turn_is text)
