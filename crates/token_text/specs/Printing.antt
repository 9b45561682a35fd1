-- The text that is written for tokens: one space between neighbours, and a line feed in its place behind each `;` and `endmodule`.
use Rattle.std.specs.Prelude.{ℕ, Bool, true, false, ◌||◌, List, [], ◌∷◌, ◌++◌, map, codes}
use Rattle.std.specs.Str.{bytes_eq}
use Rattle.vlog_tokens.specs.Tokens.{Token}

-- the bytes of each token
abbrev pub texts : List Token → List (List ℕ)
texts tokens = map (λ t. t.text) tokens

-- a line ends behind the token
unfoldable pub ends_line : List ℕ → Bool
ends_line text = bytes_eq text (codes ";") || bytes_eq text (codes "endmodule")

-- a space stands before each token that isn't the first of its line
abbrev pub space_before : Bool → List ℕ
space_before true = []
space_before false = 32 ∷ []

-- a line feed stands behind each token that is the last of its line
abbrev pub feed_behind : Bool → List ℕ
feed_behind true = 10 ∷ []
feed_behind false = []

-- the text of tokens, of which the first is the first of its line, or isn't
unfoldable pub printed_from : Bool → List (List ℕ) → List ℕ
printed_from is_fresh [] = []
printed_from is_fresh (t ∷ ts) = space_before is_fresh ++ (t ++ (feed_behind (ends_line t) ++ printed_from (ends_line t) ts))

-- the text of tokens
abbrev pub printed : List (List ℕ) → List ℕ
printed ts = printed_from true ts

-- ---- token by token

-- a text that is being written, and whether the next token is the first of its line
pub record Written : Type 0 where
  pub bytes : List ℕ
  pub is_fresh : Bool

abbrev pub nothing : Written
nothing = record { bytes = []; is_fresh = true }

-- one token more
abbrev pub with_token : Written → List ℕ → Written
with_token w t = record { bytes = w.bytes ++ space_before w.is_fresh ++ t ++ feed_behind (ends_line t); is_fresh = ends_line t }

-- these tokens more
unfoldable pub with_tokens : Written → List (List ℕ) → Written
with_tokens w [] = w
with_tokens w (t ∷ ts) = with_tokens (with_token w t) ts
