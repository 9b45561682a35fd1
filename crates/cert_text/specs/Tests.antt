-- Whether a line names a point, tested.
use Rattle.std.specs.Prelude.{ℕ, Bool, false, ◌&&◌, ◌||◌, List, [], ◌∷◌, Option, Some, None, option_map, ◌==◌, nat_lt, is_some, codes, if◌then◌else◌}
use Rattle.std.specs.Str.{bytes_eq}
use Rattle.line_text.specs.Lines.{Line, cut, three_of}
use Rattle.line_text.specs.Number.{number_of}
use Rattle.cert_text.specs.Points.{is_name}

abbrev pub four_of : Line → Option (List ℕ × List ℕ × List ℕ × List ℕ)
four_of [] = None
four_of (a ∷ ws) = option_map (λ p. (a, p.0, p.1, p.2)) (three_of ws)

abbrev pub five_of : Line → Option (List ℕ × List ℕ × List ℕ × List ℕ × List ℕ)
five_of [] = None
five_of (a ∷ ws) = option_map (λ p. (a, p.0, p.1, p.2, p.3)) (four_of ws)

abbrev pub is_number : ℕ → List ℕ → Bool
is_number max w = is_some (number_of max w)

abbrev pub is_above_zero : Option ℕ → Bool
is_above_zero None = false
is_above_zero (Some n) = nat_lt 0 n

abbrev pub is_positive : ℕ → List ℕ → Bool
is_positive max w = is_above_zero (number_of max w)

abbrev pub is_ordinal : List ℕ → Bool
is_ordinal [] = false
is_ordinal (b ∷ bs) = b == 35 && is_number 9223372036854775807 bs

abbrev pub are_states : Option (List ℕ × List ℕ) → Bool
are_states None = false
are_states (Some p) = is_number 340282366920938463463374607431768211455 p.0 && is_number 340282366920938463463374607431768211455 p.1

abbrev pub is_arc : List ℕ → Bool
is_arc w = are_states (cut 62 w)

abbrev pub is_change : List ℕ → Bool
is_change w = bytes_eq w (codes "rise") || bytes_eq w (codes "fall")

abbrev pub is_plain : List ℕ → List ℕ → Bool
is_plain kind detail = if bytes_eq kind (codes "S") then is_ordinal detail else (if bytes_eq kind (codes "T") then is_change detail else (if bytes_eq kind (codes "F") then is_arc detail else false))

abbrev pub three_fit : Option (List ℕ × List ℕ × List ℕ) → Bool
three_fit None = false
three_fit (Some p) = is_name p.1 && is_plain p.0 p.2

abbrev pub is_three : Line → Bool
is_three l = three_fit (three_of l)

abbrev pub is_branch : List ℕ → Bool
is_branch w = bytes_eq w (codes "then") || bytes_eq w (codes "else") || bytes_eq w (codes "default")

abbrev pub is_arm : List ℕ → List ℕ → Bool
is_arm kind arm = if bytes_eq kind (codes "B") then is_branch arm else (if bytes_eq kind (codes "R") then bytes_eq arm (codes "all") else false)

abbrev pub four_fit : Option (List ℕ × List ℕ × List ℕ × List ℕ) → Bool
four_fit None = false
four_fit (Some p) = is_name p.1 && is_ordinal p.2 && is_arm p.0 p.3

abbrev pub is_four : Line → Bool
is_four l = four_fit (four_of l)

abbrev pub is_numbered : List ℕ → List ℕ → List ℕ → Bool
is_numbered kind arm n = if bytes_eq kind (codes "B") then bytes_eq arm (codes "item") && is_number 9223372036854775807 n else (if bytes_eq kind (codes "R") then bytes_eq arm (codes "only") && is_positive 9223372036854775807 n else false)

abbrev pub five_fit : Option (List ℕ × List ℕ × List ℕ × List ℕ × List ℕ) → Bool
five_fit None = false
five_fit (Some p) = is_name p.1 && is_ordinal p.2 && is_numbered p.0 p.3 p.4

abbrev pub is_five : Line → Bool
is_five l = five_fit (five_of l)

abbrev pub is_point : Line → Bool
is_point l = is_three l || is_four l || is_five l
