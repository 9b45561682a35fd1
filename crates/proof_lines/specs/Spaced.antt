-- The words of a line with a space behind each, as they are put.
use Rattle.std.specs.Prelude.{ℕ, List, [], ◌∷◌, ◌++◌, map, codes, decimal}
use Rattle.std.specs.List.{flat_map}
use Rattle.cnf_core.specs.Literal.{Literal}
use Rattle.proof_lines.specs.Spelling.{literal_word}

abbrev pub spaced : List (List ℕ) → List ℕ
spaced ws = flat_map (λ w. w ++ 32 ∷ []) ws

abbrev pub addition_text : ℕ → List Literal → List ℕ → List ℕ
addition_text id lits hints = decimal id ++ 32 ∷ [] ++ spaced (map literal_word lits) ++ codes "0 " ++ spaced (map decimal hints) ++ codes "0\n"

abbrev pub deletion_text : ℕ → List ℕ → List ℕ
deletion_text id ids = decimal id ++ codes " d " ++ spaced (map decimal ids) ++ codes "0\n"
