-- What an assignment writes (IEEE 1364-2001 clauses 9.2 and 4.2.1).
use Rattle.std.specs.Prelude.{ℕ, suc, ◌+◌, ◌^◌, ◌/◌, Bool, cond, List, [], ◌∷◌, ◌++◌, length, slice_set}
use Rattle.bit_exprs.specs.declared.forms.Part.{Part}
use Rattle.bit_exprs.specs.declared.forms.Part.TheVariants.{Bits, Select, Outside}
use Rattle.bit_exprs.specs.declared.forms.Target.{Target}
use Rattle.bit_exprs.specs.declared.forms.Window.{Window}
use Rattle.word_core.specs.Words.{bits_of}
use Rattle.bit_exprs.specs.Values.{width_of, sign_of, value_of, index_of, is_index}

-- how many bits of the value a part takes
abbrev pub part_width : Part → ℕ
part_width (Bits bits) = length bits
part_width (Select vector window index) = window.count
part_width (Outside count) = count

abbrev pub parts_width : List Part → ℕ
parts_width [] = 0
parts_width (p ∷ ps) = part_width p + parts_width ps

abbrev pub target_width : Target → ℕ
target_width t = parts_width t.parts

-- each bit with its value
abbrev pub written : List ℕ → List Bool → List (ℕ × Bool)
written [] word = []
written (b ∷ bits) [] = []
written (b ∷ bits) (x ∷ word) = (b, x) ∷ written bits word

-- the bit at the place, from p on, for which the test holds, is x; where there is none, nothing is written
abbrev pub written_where : (ℕ → Bool) → ℕ → List ℕ → Bool → List (ℕ × Bool)
written_where test p [] x = []
written_where test p (b ∷ bits) x = cond (test p) ((b, x) ∷ []) [] ++ written_where test (suc p) bits x

-- bits of the value, from bit k on, into what is selected of a vector by the index a, a word of w bits
abbrev pub selected_updates : Window → List ℕ → ℕ → Bool → ℕ → ℕ → List Bool → List (ℕ × Bool)
selected_updates window vector w signed a k [] = []
selected_updates window vector w signed a k (x ∷ word) =
    written_where (λ p. is_index w signed a (index_of window k p)) 0 vector x ++ selected_updates window vector w signed a (suc k) word

-- a part with the bits that it takes; indices are read before anything is written
abbrev pub part_updates : Part → List Bool → List Bool → List (ℕ × Bool)
part_updates (Bits bits) word v = written bits word
part_updates (Select vector window index) word v = selected_updates window vector (width_of index) (sign_of index) (value_of index v) 0 word
part_updates (Outside count) word v = []

-- The parts take the bits of the value a, the last part the lowest ones; they are written from the first part on.
abbrev pub parts_updates : List Part → ℕ → List Bool → List (ℕ × Bool)
parts_updates [] a v = []
parts_updates (p ∷ ps) a v = part_updates p (bits_of (part_width p) (a / 2 ^ parts_width ps)) v ++ parts_updates ps a v

-- what is written, in order, of the value a; a wider value is cut to the target, and a narrower one goes on with zeros
abbrev pub updates_of : Target → ℕ → List Bool → List (ℕ × Bool)
updates_of t a v = parts_updates t.parts a v

-- the values after the updates, performed in order
abbrev pub perform : List (ℕ × Bool) → List Bool → List Bool
perform [] v = v
perform (u ∷ us) v = perform us (slice_set v u.0 u.1)
