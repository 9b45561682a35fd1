-- Numbers: what they are made of, and the values that they have (IEEE 1364-2001 clause 2.5).
use Rattle.std.specs.Prelude.{ℕ, suc, ◌<◌, ◌≤◌, Bool, false, true, not, ◌&&◌, ◌||◌, ◌==◌, ◌+◌, ◌-◌, ◌*◌, ◌%◌, ◌^◌, nat_lt, nat_le, List, [], ◌∷◌, take, drop, Option, Some, None, if◌then◌else◌}
use Rattle.std.specs.List.{list_all, list_any, prefix_len}
use Rattle.vlog_tokens.specs.declared.number.Number.{Number}
use Rattle.vlog_tokens.specs.Bytes.{is_decimal, radix_of, is_digit_of, is_open, is_unknown, worth}

-- ---- lists of digits

-- a digit, or `_`, which may stand behind the first digit
abbrev pub or_underscore : (ℕ → Bool) → ℕ → Bool
or_underscore p b = p b || b == 95

-- one digit or more
abbrev pub is_digits : (ℕ → Bool) → List ℕ → Bool
is_digits p [] = false
is_digits p (b ∷ bs) = p b && list_all (or_underscore p) bs

-- the length of the longest such list at the front; 0 where there is none
abbrev pub digits_length : (ℕ → Bool) → List ℕ → ℕ
digits_length p [] = 0
digits_length p (b ∷ bs) = if p b then suc (prefix_len (or_underscore p) bs) else 0

-- ---- values

-- the number that the digits of `from` and one digit more spell; `_` is no digit
abbrev pub with_digit : (ℕ → ℕ) → ℕ → ℕ → ℕ → ℕ
with_digit weigh radix from b = if b == 95 then from else from * radix + weigh b

-- the number that the digits of `from` and these digits spell: a digit is worth `radix` times what it would be one place to the right
abbrev pub spelled : (ℕ → ℕ) → ℕ → ℕ → List ℕ → ℕ
spelled weigh radix from [] = from
spelled weigh radix from (b ∷ bs) = spelled weigh radix (with_digit weigh radix from b) bs

-- what a digit adds to the value: `?` counts as 0
abbrev pub digit_value : ℕ → ℕ
digit_value b = if is_open b then 0 else worth b

-- the bits of a digit that match anything: all or none
abbrev pub open_bits : ℕ → ℕ → ℕ
open_bits radix b = if is_open b then radix - 1 else 0

-- the number that the digits spell
abbrev pub numeral : ℕ → List ℕ → ℕ
numeral radix digits = spelled digit_value radix 0 digits

-- The bits above the digits: they match anything where the first digit does, and are 0 elsewhere.
abbrev pub filling : ℕ → List ℕ → ℕ
filling width [] = 0
filling width (b ∷ bs) = if is_open b then 2 ^ width - 1 else 0

-- the bits that match anything, of a number of so many bits
abbrev pub open_of : ℕ → ℕ → List ℕ → ℕ
open_of width radix digits = spelled (open_bits radix) radix (filling width digits) digits % 2 ^ width

-- the value as it is where it is below the limit
abbrev pub below : ℕ → ℕ → Option ℕ
below limit n = if nat_lt n limit then Some n else None

-- The width that a size gives: 32 where there is none, and none where it isn't from 1 to 128.
abbrev pub width_within : ℕ → Option ℕ
width_within n = if nat_le 1 n && nat_le n 128 then Some n else None

abbrev pub width_found : Option ℕ → Option ℕ
width_found (Some n) = width_within n
width_found None = None

abbrev pub width_of : List ℕ → Option ℕ
width_of [] = Some 32
width_of (b ∷ bs) = width_found (below (2 ^ 128) (numeral 10 (b ∷ bs)))

-- ---- numbers

-- A plain decimal has 32 bits and is signed.
abbrev pub signed_found : Option ℕ → Option Number
signed_found (Some n) = if nat_lt n (2 ^ 32) then Some (record { width = 32; value = n; wild = 0; is_signed = true }) else None
signed_found None = None

abbrev pub plain : List ℕ → Option Number
plain [] = None
plain (b ∷ bs) = signed_found (below (2 ^ 128) (numeral 10 (b ∷ bs)))

-- The digits of a number with a base give a value below 2^128, which is cut to the width.
abbrev pub cut_to : ℕ → ℕ → List ℕ → Option Number
cut_to width radix digits =
    if nat_lt (numeral radix digits) (2 ^ 128) then
    Some (record { width = width; value = numeral radix digits % 2 ^ width; wild = open_of width radix digits; is_signed = false })
    else None

abbrev pub sized : Option ℕ → ℕ → List ℕ → Option Number
sized None radix digits = None
sized (Some width) radix digits = if list_any is_unknown digits then None else cut_to width radix digits

abbrev pub in_base : List ℕ → ℕ → List ℕ → Option Number
in_base size radix digits = if not (radix == 0) && is_digits (is_digit_of radix) digits then sized (width_of size) radix digits else None

abbrev pub based : List ℕ → List ℕ → Option Number
based size [] = None
based size (letter ∷ digits) = in_base size (radix_of letter) digits

abbrev pub sized_or_plain : List ℕ → List ℕ → Option Number
sized_or_plain size [] = plain size
sized_or_plain size (b ∷ bs) = if b == 39 then based size bs else None

-- The number with this text. None where the text is no number, has a digit `x` or `X`, a size outside 1 to 128, or a value that is too large: 2^32
-- or more without a base, 2^128 or more with one.
unfoldable pub number_of : List ℕ → Option Number
number_of text = let n = digits_length is_decimal text in sized_or_plain (take n text) (drop n text)

-- the width is from 1 to 128, and the value and the bits that match anything have no bits beyond it
pub record IsWithin (number : Number) : Type 0 where
  pub some : 1 ≤ number.width
  pub most : number.width ≤ 128
  pub value : number.value < 2 ^ number.width
  pub wild : number.wild < 2 ^ number.width
