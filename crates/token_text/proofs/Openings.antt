-- Where a token stands before a blank or the end of the text, it is read as that token.
use Rattle.std.proofs.Common.{◌≡◌, ℕ, ◌==◌, Bool, true, false, not, ◌&&◌, if◌then◌else◌, inl, inr, List, [], ◌∷◌, ◌++◌, drop, refl, sym, ◌∙◌, ap, subst}
use Rattle.std.specs.List.{list_all}
use Rattle.std.proofs.lemmas.Bool.Decides.{eqb_tells}
use Rattle.vlog_tokens.specs.declared.gap.Opening.TheVariants.{Blank, Line, Block, Attribute, Other}
use Rattle.vlog_tokens.specs.Bytes.{is_blank, begins_name, is_decimal}
use Rattle.vlog_tokens.specs.Numbers.{or_underscore, is_digits}
use Rattle.vlog_tokens.specs.Words.{marks}
use Rattle.vlog_tokens.specs.Gaps.{begins_with, begins_with_both, behind_blanks, opens_attribute, opening_of_solid, opening}
use Rattle.vlog_tokens.specs.Tokens.{is_size, IsToken, name, system, sign, decimal, based, IsLongest}
use Rattle.vlog_tokens.proofs.Tests.{differ, split_and}
use Rattle.token_text.proofs.Solid.{join_and, all_back, apart, is_solid, name_solid, decimal_solid, marks_pass, token_solid}

-- ---- fronts of tokens

-- No blank stands first. A token of more than one byte begins no comment and no attribute.
abbrev is_settled : List ℕ → Bool
is_settled [] = false
is_settled (b ∷ []) = not (is_blank b)
is_settled (b ∷ c ∷ cs) = not (is_blank b) && not (b == 47) && not (b == 40)

settles : (b : ℕ) (bs : List ℕ) → is_solid b ≡ true → (b == 47) ≡ false → (b == 40) ≡ false → is_settled (b ∷ bs) ≡ true
settles b [] s h k = (split_and (not (is_blank b)) (not (b == 96)) s).0
settles b (c ∷ cs) s h k =
    let blank = (split_and (not (is_blank b)) (not (b == 96)) s).0 in
    join_and (not (is_blank b) && not (b == 47)) (not (b == 40)) (join_and (not (is_blank b)) (not (b == 47)) blank (ap not h)) (ap not k)

digits_settle : (bs more : List ℕ) → is_digits is_decimal bs ≡ true → is_settled (bs ++ more) ≡ true
digits_settle [] more e = absurd (differ false e refl)
digits_settle (b ∷ bs) more e =
    let first = (split_and (is_decimal b) (list_all (or_underscore is_decimal) bs) e).0 in
    settles b (bs ++ more) (decimal_solid b first) (apart is_decimal 47 b refl first) (apart is_decimal 40 b refl first)

size_settles : (size more : List ℕ) → is_size size ≡ true → is_settled (size ++ 39 ∷ more) ≡ true
size_settles [] more s = settles 39 more refl refl refl
size_settles (b ∷ bs) more s = digits_settle (b ∷ bs) (39 ∷ more) s

all_settled : list_all (λ e. is_settled e.0) marks ≡ true
unfolding marks
all_settled = refl

decimal_settles : (bs : List ℕ) → is_digits is_decimal bs ≡ true → is_settled bs ≡ true
decimal_settles [] e = absurd (differ false e refl)
decimal_settles (b ∷ bs) e =
    let first = (split_and (is_decimal b) (list_all (or_underscore is_decimal) bs) e).0 in
    settles b bs (decimal_solid b first) (apart is_decimal 47 b refl first) (apart is_decimal 40 b refl first)

token_settled : (t : List ℕ) → IsToken t → is_settled t ≡ true
token_settled t (name b bs e on) = settles b bs (name_solid b e) (apart begins_name 47 b refl e) (apart begins_name 40 b refl e)
token_settled t (system bs some on) = settles 36 bs refl refl refl
token_settled t (sign text m) = marks_pass is_settled all_settled text m
token_settled t (decimal text e) = decimal_settles text e
token_settled t (based size letter digits s some e) = size_settles size (letter ∷ digits) s

-- ---- what begins with a token

-- the end of the text, or a blank
abbrev pub ends_here : List ℕ → Bool
ends_here [] = true
ends_here (b ∷ bs) = is_blank b

begins_not : (a : ℕ) (back : List ℕ) → is_blank a ≡ false → ends_here back ≡ true → begins_with a back ≡ false
begins_not a [] h e = refl
begins_not a (b ∷ bs) h e = elim (eqb_tells b a) [
  | inl k ↦ absurd (differ (is_blank b) e (subst (λ z. is_blank z ≡ false) (sym k.1) h))
  | inr k ↦ k.0
]

and_not : (a b : Bool) → b ≡ false → (a && b) ≡ false
and_not true b e = e
and_not false b e = refl

not_and : (a b : Bool) → a ≡ false → (a && b) ≡ false
not_and a b e = ap (λ v. v && b) e

not_true : (b : Bool) → not b ≡ true → b ≡ false
not_true true e = absurd (differ false e refl)
not_true false e = refl

opens_other : (text : List ℕ) → begins_with_both 47 47 text ≡ false → begins_with_both 47 42 text ≡ false → begins_with_both 40 42 text ≡ false → opening_of_solid text ≡ Other
opens_other text line block attribute =
    ap (λ v. if v then Line else if begins_with_both 47 42 text then Block else if opens_attribute text then Attribute else Other) line
    ∙ ap (λ v. if v then Block else if opens_attribute text then Attribute else Other) block
    ∙ ap (λ v. if v then Attribute else Other) (not_and (begins_with_both 40 42 text) (not (begins_with 41 (behind_blanks (drop 2 text)))) attribute)

no_blank_first : (b : ℕ) (bs : List ℕ) → is_blank b ≡ false → opening (b ∷ bs) ≡ opening_of_solid (b ∷ bs)
no_blank_first b bs e = ap (λ v. if v then Blank else opening_of_solid (b ∷ bs)) e

settled_opens : (t back : List ℕ) → is_settled t ≡ true → ends_here back ≡ true → opening (t ++ back) ≡ Other
settled_opens [] back s e = absurd (differ false s refl)
settled_opens (b ∷ []) back s e =
    no_blank_first b back (not_true (is_blank b) s)
    ∙ opens_other (b ∷ back)
    (and_not (b == 47) (begins_with 47 back) (begins_not 47 back refl e))
    (and_not (b == 47) (begins_with 42 back) (begins_not 42 back refl e))
    (and_not (b == 40) (begins_with 42 back) (begins_not 42 back refl e))
settled_opens (b ∷ c ∷ cs) back s e =
    let both = split_and (not (is_blank b) && not (b == 47)) (not (b == 40)) s in
    let front = split_and (not (is_blank b)) (not (b == 47)) both.0 in
    let slash = not_true (b == 47) front.1 in
    no_blank_first b (c ∷ (cs ++ back)) (not_true (is_blank b) front.0)
    ∙ opens_other (b ∷ c ∷ (cs ++ back))
    (not_and (b == 47) (c == 47) slash)
    (not_and (b == 47) (c == 42) slash)
    (not_and (b == 40) (c == 42) (not_true (b == 40) both.1))

pub token_opens : (t back : List ℕ) → IsToken t → ends_here back ≡ true → opening (t ++ back) ≡ Other
token_opens t back k e = settled_opens t back (token_settled t k) e

-- ---- the longest token

no_more : (t back more behind : List ℕ) → ends_here back ≡ true → back ≡ more ++ behind → IsToken (t ++ more) → more ≡ []
no_more t back [] behind e whole k = refl
no_more t back (m ∷ ms) behind e whole k =
    let blank : is_blank m ≡ true = subst (λ z. ends_here z ≡ true) whole e in
    let solid = all_back is_solid t (m ∷ ms) (token_solid (t ++ m ∷ ms) k) in
    let first = (split_and (is_solid m) (list_all is_solid ms) solid).0 in
    absurd (differ (is_blank m) blank (not_true (is_blank m) (split_and (not (is_blank m)) (not (m == 96)) first).0))

pub token_longest : (t back : List ℕ) → IsToken t → ends_here back ≡ true → IsLongest t back
token_longest t back k e = record { token = k; longest = λ more behind whole l. no_more t back more behind e whole l }
