-- What stands between tokens: blanks, comments and attributes (IEEE 1364-2001 clauses 2.2, 2.3 and 2.8).
use Rattle.std.specs.Prelude.{◌≡◌, ℕ, suc, ◌≤◌, ◌==◌, Bool, true, false, not, ◌&&◌, List, [], ◌∷◌, ◌++◌, length, drop, if◌then◌else◌}
use Rattle.std.specs.List.{list_all, prefix_len}
use Rattle.vlog_tokens.specs.declared.gap.Opening.{Opening}
use Rattle.vlog_tokens.specs.declared.gap.Opening.TheVariants.{Blank, Line, Block, Attribute, Other}
use Rattle.vlog_tokens.specs.Bytes.{is_blank}

abbrev pub begins_with : ℕ → List ℕ → Bool
begins_with a [] = false
begins_with a (b ∷ bs) = b == a

abbrev pub begins_with_both : ℕ → ℕ → List ℕ → Bool
begins_with_both a b [] = false
begins_with_both a b (c ∷ cs) = c == a && begins_with b cs

abbrev pub behind_blanks : List ℕ → List ℕ
behind_blanks text = drop (prefix_len is_blank text) text

-- `(*`, unless `)` follows behind blanks
abbrev pub opens_attribute : List ℕ → Bool
opens_attribute text = begins_with_both 40 42 text && not (begins_with 41 (behind_blanks (drop 2 text)))

-- what begins at this place of a text that isn't at its end
abbrev pub opening_of_solid : List ℕ → Opening
opening_of_solid text =
    if begins_with_both 47 47 text then Line
    else if begins_with_both 47 42 text then Block
    else if opens_attribute text then Attribute
    else Other

abbrev pub opening : List ℕ → Opening
opening [] = Other
opening (b ∷ bs) = if is_blank b then Blank else opening_of_solid (b ∷ bs)

-- no line feed
abbrev pub is_in_line : ℕ → Bool
is_in_line b = not (b == 10)

-- the end of the text, or a line feed
abbrev pub ends_line : List ℕ → Bool
ends_line [] = true
ends_line (b ∷ bs) = b == 10

-- The gap has two bytes that open it, a body, and the two bytes that close it, which stand nowhere before.
pub record Closes (a b : ℕ) (gap rest : List ℕ) : Type 0 where
  pub opened : List ℕ
  pub two : length opened ≡ 2
  pub body : List ℕ
  pub whole : gap ≡ opened ++ body ++ a ∷ b ∷ []
  pub first : (before behind : List ℕ) → body ++ a ∷ b ∷ rest ≡ before ++ a ∷ b ∷ behind → length body ≤ length before

-- The gap is what was opened, to its end: one blank; a comment to the end of its line; one to the first `*/`; an attribute to the first `*)`.
abbrev pub IsGap : Opening → List ℕ → List ℕ → Type 0
IsGap Blank gap rest = length gap ≡ 1
IsGap Line gap rest = (list_all is_in_line gap ≡ true) × (ends_line rest ≡ true)
IsGap Block gap rest = Closes 42 47 gap rest
IsGap Attribute gap rest = Closes 42 41 gap rest
IsGap Other gap rest = ⊥

-- the two bytes that close stand nowhere behind the two that open
abbrev pub NeverCloses : ℕ → ℕ → List ℕ → Type 0
NeverCloses a b text = (before behind : List ℕ) → drop 2 text ≡ before ++ a ∷ b ∷ behind → ⊥

-- what was opened has no end
abbrev pub IsUnclosed : Opening → List ℕ → Type 0
IsUnclosed Blank text = ⊥
IsUnclosed Line text = ⊥
IsUnclosed Block text = NeverCloses 42 47 text
IsUnclosed Attribute text = NeverCloses 42 41 text
IsUnclosed Other text = ⊥

-- ---- how the end is found

-- how many bytes stand before the first two that close; all of them where none do
abbrev pub bytes_before : ℕ → ℕ → List ℕ → ℕ
bytes_before a b [] = 0
bytes_before a b (c ∷ cs) = if begins_with_both a b (c ∷ cs) then 0 else suc (bytes_before a b cs)
