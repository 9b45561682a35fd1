-- What a token is, and which token begins at a byte (IEEE 1364-2001 clause 2.1).
use Rattle.std.specs.Prelude.{◌≡◌, ℕ, suc, ◌+◌, ◌<◌, ◌==◌, max, Bool, true, false, List, [], ◌∷◌, ◌++◌, length, take, drop, is_some, if◌then◌else◌}
use Rattle.std.specs.List.{list_all, prefix_len, starts_with}
use Rattle.word_core.specs.declared.place.Place.{Place}
use Rattle.vlog_tokens.specs.declared.word.Word.{Word}
use Rattle.vlog_tokens.specs.Bytes.{begins_name, goes_on, is_decimal, radix_of, is_digit_of}
use Rattle.vlog_tokens.specs.Numbers.{is_digits, digits_length}
use Rattle.vlog_tokens.specs.Words.{mark, marks}

-- A token of a text: its bytes, the place of its first byte, and how many bytes of the text stand before it.
pub record Token : Type 0 where
  pub text : List ℕ
  pub at : Place
  pub from : ℕ

-- the size of a number may be left out
abbrev pub is_size : List ℕ → Bool
is_size [] = true
is_size (b ∷ bs) = is_digits is_decimal (b ∷ bs)

-- A token is a name or a keyword; a `$` with letters, digits, `_` and `$` behind it; a mark; decimal digits; or a number with a base.
pub data IsToken : List ℕ → Type 0 where
  name : (b : ℕ) (bs : List ℕ) → begins_name b ≡ true → list_all goes_on bs ≡ true → IsToken (b ∷ bs)
  system : (bs : List ℕ) → 0 < length bs → list_all goes_on bs ≡ true → IsToken (36 ∷ bs)
  sign : (text : List ℕ) → is_some (mark text) ≡ true → IsToken text
  decimal : (text : List ℕ) → is_digits is_decimal text ≡ true → IsToken text
  based : (size : List ℕ) (letter : ℕ) (digits : List ℕ) → is_size size ≡ true → (radix_of letter == 0) ≡ false → is_digits (is_digit_of (radix_of letter)) digits ≡ true → IsToken (size ++ 39 ∷ letter ∷ digits)

-- Of several tokens that could begin here, this is the longest.
pub record IsLongest (taken rest : List ℕ) : Type 0 where
  pub token : IsToken taken
  pub longest : (more behind : List ℕ) → rest ≡ more ++ behind → IsToken (taken ++ more) → more ≡ []

-- no token begins here
abbrev pub NoToken : List ℕ → Type 0
NoToken text = (taken behind : List ℕ) → text ≡ taken ++ behind → IsToken taken → ⊥

-- ---- how the longest token is found

abbrev pub name_length : List ℕ → ℕ
name_length [] = 0
name_length (b ∷ bs) = if begins_name b then suc (prefix_len goes_on bs) else 0

-- one byte and more; 0 where there are no more
abbrev pub one_and : ℕ → ℕ
one_and n = if n == 0 then 0 else suc n

abbrev pub system_length : List ℕ → ℕ
system_length [] = 0
system_length (b ∷ bs) = if b == 36 then one_and (prefix_len goes_on bs) else 0

-- the length of an entry where the text begins with it
abbrev pub entry_length : List ℕ → List ℕ → ℕ
entry_length entry text = if starts_with ◌==◌ text entry then length entry else 0

abbrev pub longest_of : ℕ → List (List ℕ × Word) → List ℕ → ℕ
longest_of longest [] text = longest
longest_of longest (entry ∷ entries) text = longest_of (max longest (entry_length entry.0 text)) entries text

abbrev pub mark_length : List ℕ → ℕ
mark_length text = longest_of 0 marks text

-- two bytes and more; 0 where there are no more
abbrev pub two_and : ℕ → ℕ
two_and n = if n == 0 then 0 else suc (suc n)

-- what stands behind the `'` of a number: a base letter and digits
abbrev pub digits_behind : ℕ → List ℕ → ℕ
digits_behind radix digits = if radix == 0 then 0 else two_and (digits_length (is_digit_of radix) digits)

abbrev pub base_length : List ℕ → ℕ
base_length [] = 0
base_length (letter ∷ digits) = digits_behind (radix_of letter) digits

-- what stands behind the size of a number
abbrev pub tail_length : List ℕ → ℕ
tail_length [] = 0
tail_length (b ∷ bs) = if b == 39 then base_length bs else 0

abbrev pub number_length : List ℕ → ℕ
number_length text = digits_length is_decimal text + tail_length (drop (digits_length is_decimal text) text)

-- the length of the longest token that begins here; 0 where none does
abbrev pub token_length : List ℕ → ℕ
token_length text = max (max (name_length text) (system_length text)) (max (mark_length text) (number_length text))
