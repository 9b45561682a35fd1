-- Which bytes are blanks, and which make names and numbers (IEEE 1364-2001 clauses 2.2, 2.5 and 2.7).
use Rattle.std.specs.Prelude.{ℕ, Bool, not, ◌||◌, ◌&&◌, ◌==◌, ◌-◌, nat_lt, nat_le, if◌then◌else◌}
use Rattle.std.specs.Char.{is_ascii_alphabetic, is_ascii_alphanumeric, is_ascii_digit}

-- space, tab, line feed, form feed, carriage return
abbrev pub is_blank : ℕ → Bool
is_blank b = b == 32 || b == 9 || b == 10 || b == 12 || b == 13

-- a letter or `_`
abbrev pub begins_name : ℕ → Bool
begins_name b = is_ascii_alphabetic b || b == 95

-- a letter, a digit, `_` or `$`
abbrev pub goes_on : ℕ → Bool
goes_on b = is_ascii_alphanumeric b || b == 95 || b == 36

-- a decimal digit, which a size and a number without a base have
abbrev pub is_decimal : ℕ → Bool
is_decimal b = is_ascii_digit b

-- how many digits the base has that the letter names; 0 where the letter names none
abbrev pub radix_of : ℕ → ℕ
radix_of b =
    if b == 98 || b == 66 then 2
    else if b == 111 || b == 79 then 8
    else if b == 100 || b == 68 then 10
    else if b == 104 || b == 72 then 16
    else 0

-- `z`, `Z` or `?`: a digit whose bits match anything
abbrev pub is_open : ℕ → Bool
is_open b = b == 122 || b == 90 || b == 63

-- `x` or `X`: a digit whose bits are unknown
abbrev pub is_unknown : ℕ → Bool
is_unknown b = b == 120 || b == 88

-- what a digit is worth; 16 for a byte that is none
abbrev pub worth : ℕ → ℕ
worth b =
    if is_ascii_digit b then b - 48
    else if nat_le 97 b && nat_le b 102 then b - 87
    else if nat_le 65 b && nat_le b 70 then b - 55
    else 16

-- a digit of the base with so many digits
abbrev pub is_digit_of : ℕ → ℕ → Bool
is_digit_of radix b = nat_lt (worth b) radix || is_unknown b || (is_open b && not (radix == 10))
