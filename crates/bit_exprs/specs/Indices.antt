-- Indices as natural numbers: an index is the difference of two of them.
use Rattle.std.specs.Prelude.{ℕ, ◌+◌, ◌-◌, ◌^◌, ◌==◌, nat_lt, Bool, false, cond, Option, Some, None}
use Rattle.bit_exprs.specs.declared.forms.Window.{Window}
use Rattle.word_core.specs.Words.{word_neg}
use Rattle.bit_exprs.specs.Values.{is_index, index_of}

-- `index_of` is the first less the second
abbrev pub up_of : Window → ℕ → ℕ → ℕ
up_of window k p =
    cond window.rising (window.right + k) (cond window.down (window.right + p + (window.count - 1)) (window.right + p))

abbrev pub down_of : Window → ℕ → ℕ → ℕ
down_of window k p =
    cond window.rising (cond window.down p (p + (window.count - 1))) k

-- the word of w bits that as an index is `up` less `down`, if there is one
abbrev pub code_of : ℕ → Bool → ℕ → ℕ → Option ℕ
code_of w signed up down =
    cond (nat_lt up down)
    (cond signed (cond (nat_lt (2 ^ (w - 1)) (down - up)) None (Some (word_neg w (down - up)))) None)
    (cond (nat_lt (up - down) (2 ^ cond signed (w - 1) w)) (Some (up - down)) None)

abbrev pub is_code : Option ℕ → ℕ → Bool
is_code None a = false
is_code (Some j) a = j == a

-- the word a of w bits is the index at which bit k of what is selected stands at place p
abbrev pub names_place : Window → ℕ → Bool → ℕ → ℕ → ℕ → Bool
names_place window w signed a k p = is_index w signed a (index_of window k p)
