-- The lines that name cover points.
use Rattle.std.specs.Prelude.{◌≡◌, ℕ, ◌<◌, ◌^◌, Bool, true, false, not, ◌&&◌, ◌==◌, List, [], ◌∷◌, ◌++◌, length, nat_le, nat_lt, codes, decimal}
use Rattle.std.specs.List.{list_all}
use Rattle.line_text.specs.Lines.{Line}

-- a byte that can stand in a name
abbrev pub is_visible : ℕ → Bool
is_visible b = nat_le 33 b && nat_le b 126

abbrev pub is_name : List ℕ → Bool
is_name bs = nat_lt 0 (length bs) && list_all is_visible bs

abbrev pub IsName : List ℕ → Type 0
IsName bs = is_name bs ≡ true

abbrev pub begins_with : ℕ → List ℕ → Bool
begins_with byte [] = false
begins_with byte (b ∷ bs) = b == byte

-- the name of a state bit: - in front of it negates the literal
abbrev pub is_state_name : List ℕ → Bool
is_state_name bs = is_name bs && not (begins_with 45 bs)

abbrev pub IsStateName : List ℕ → Type 0
IsStateName bs = is_state_name bs ≡ true

-- a number below a bound, in decimal digits
abbrev pub IsNumber : ℕ → List ℕ → Type 0
IsNumber bound word = (n : ℕ) × (n < bound) × (word ≡ decimal n)

-- the number of a statement, a branch or a chain in its scope, as #1
abbrev pub IsOrdinal : List ℕ → Type 0
IsOrdinal word = (n : ℕ) × (n < 2 ^ 63) × (word ≡ codes "#" ++ decimal n)

-- the words of a line that names a point: of a statement, of an arm of a branch, of a way in which a chain of operands decides, of a bit's change, of a register's change from one state to another
pub data IsPoint : Line → Type 0 where
  statement : (path ordinal : List ℕ) → IsName path → IsOrdinal ordinal → IsPoint (codes "S" ∷ path ∷ ordinal ∷ [])
  then_arm : (path ordinal : List ℕ) → IsName path → IsOrdinal ordinal → IsPoint (codes "B" ∷ path ∷ ordinal ∷ codes "then" ∷ [])
  else_arm : (path ordinal : List ℕ) → IsName path → IsOrdinal ordinal → IsPoint (codes "B" ∷ path ∷ ordinal ∷ codes "else" ∷ [])
  item_arm : (path ordinal item : List ℕ) → IsName path → IsOrdinal ordinal → IsNumber (2 ^ 63) item → IsPoint (codes "B" ∷ path ∷ ordinal ∷ codes "item" ∷ item ∷ [])
  default_arm : (path ordinal : List ℕ) → IsName path → IsOrdinal ordinal → IsPoint (codes "B" ∷ path ∷ ordinal ∷ codes "default" ∷ [])
  all_operands : (path ordinal : List ℕ) → IsName path → IsOrdinal ordinal → IsPoint (codes "R" ∷ path ∷ ordinal ∷ codes "all" ∷ [])
  only_operand : (path ordinal : List ℕ) (k : ℕ) → IsName path → IsOrdinal ordinal → 0 < k → k < 2 ^ 63 → IsPoint (codes "R" ∷ path ∷ ordinal ∷ codes "only" ∷ decimal k ∷ [])
  rise : (bit : List ℕ) → IsName bit → IsPoint (codes "T" ∷ bit ∷ codes "rise" ∷ [])
  fall : (bit : List ℕ) → IsName bit → IsPoint (codes "T" ∷ bit ∷ codes "fall" ∷ [])
  arc : (register : List ℕ) (v w : ℕ) → IsName register → v < 2 ^ 128 → w < 2 ^ 128 → IsPoint (codes "F" ∷ register ∷ (decimal v ++ (codes ">" ++ decimal w)) ∷ [])
