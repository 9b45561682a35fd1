-- The kinds of cover points, as the letters that name them.
use Rattle.std.specs.Prelude.{◌≡◌, ℕ, Bool, true, false, ◌||◌, List, [], ◌++◌, Option, Some, None, option_and_then, codes, if◌then◌else◌}
use Rattle.std.specs.Str.{bytes_eq}
use Rattle.design_core.specs.declared.setup.Kinds.{Kinds}
use Rattle.line_text.specs.Lines.{Line}
use Rattle.line_text.specs.Tagged.{behind}

abbrev pub letter_of : Bool → List ℕ → List ℕ
letter_of chosen letter = if chosen then letter else []

-- the letters of the kinds, in this order
abbrev pub kinds_word : Kinds → List ℕ
kinds_word k = letter_of k.s (codes "s") ++ letter_of k.b (codes "b") ++ letter_of k.r (codes "r") ++ letter_of k.t (codes "t") ++ letter_of k.f (codes "f")

-- statements, branch arms, or both
abbrev pub kinds_named : Bool → Bool → Kinds
kinds_named s b = record { s = s; b = b; r = false; t = false; f = false }

-- one kind at least, and none but those that are judged so far
pub record AreBuilt (k : Kinds) : Type 0 where
  pub some : (k.s || k.b) ≡ true
  pub alone : k ≡ kinds_named k.s k.b

-- the kinds that are judged so far, by a word
abbrev pub kinds_of : List ℕ → Option Kinds
kinds_of w =
    if bytes_eq w (codes "s") then Some (kinds_named true false)
    else if bytes_eq w (codes "b") then Some (kinds_named false true)
    else if bytes_eq w (codes "sb") then Some (kinds_named true true)
    else None

abbrev pub kinds_line_of : List ℕ → Line → Option Kinds
kinds_line_of tag l = option_and_then kinds_of (behind tag l)
