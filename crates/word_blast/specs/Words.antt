-- Words of literals, least significant first: what they spell, and the graph and literals that each operator makes.
-- The order in which gates are made counts, since a certificate cites their numbers.
use Rattle.std.specs.Prelude.{◌≡◌, ℕ, ◌*◌, nat_lt, Bool, List, [], ◌∷◌, ◌++◌, length, map, take, drop, replicate, if◌then◌else◌}
use Rattle.std.specs.List.{AllByRecursion, zip}
use Rattle.aig_core.specs.Graph.{Graph, leaf_count, negation, and_of, value_of, IsLiteral, IsWellFormed, Extends}
use Rattle.word_core.specs.Words.{bit, number_of, word_equal, word_less}
use Rattle.word_blast.specs.Bits.{or_of, or_of_ands, xor_of, mux_of, full_of}

-- ---- what literals spell

-- the bits
abbrev pub spelled : Graph → List Bool → List ℕ → List Bool
spelled g leaves xs = map (value_of g leaves) xs

-- the number
abbrev pub word_value : Graph → List Bool → List ℕ → ℕ
word_value g leaves xs = number_of (spelled g leaves xs)

abbrev pub AreLiterals : Graph → List ℕ → Type 0
AreLiterals g xs = AllByRecursion (IsLiteral g) xs

-- the new graph was made from the old one, and has literals rs that spell the number v of the leaves
pub record GivesWord (old new : Graph) (rs : List ℕ) (width : ℕ) (v : List Bool → ℕ) : Type 0 where
  pub extends : Extends old new
  pub well_formed : IsWellFormed new
  pub width_is : length rs ≡ width
  pub literals : AreLiterals new rs
  pub value : (leaves : List Bool) → length leaves ≡ leaf_count old → word_value new leaves rs ≡ v leaves

-- the values of leaves under operators of one and of two words
abbrev pub value_1 : (ℕ → ℕ → ℕ) → Graph → List ℕ → List Bool → ℕ
value_1 f g xs leaves = f (length xs) (word_value g leaves xs)

abbrev pub value_2 : (ℕ → ℕ → ℕ → ℕ) → Graph → List ℕ → List ℕ → List Bool → ℕ
value_2 f g xs ys leaves = f (length xs) (word_value g leaves xs) (word_value g leaves ys)

-- and under a shift by the number of a word of any width
abbrev pub shift_worth : (ℕ → ℕ → ℕ → ℕ) → Graph → List ℕ → List ℕ → List Bool → ℕ
shift_worth f g xs rs leaves = f (length xs) (word_value g leaves xs) (word_value g leaves rs)

-- the value of one bit, under a reduction and under a comparison
abbrev pub reduced : (List Bool → Bool) → Graph → List ℕ → List Bool → ℕ
reduced f g xs leaves = bit (f (spelled g leaves xs))

abbrev pub equality : Graph → List ℕ → List ℕ → List Bool → ℕ
equality g xs ys leaves = bit (word_equal (word_value g leaves xs) (word_value g leaves ys))

abbrev pub order : Bool → Graph → List ℕ → List ℕ → List Bool → ℕ
order signed g xs ys leaves = bit (word_less (length xs) signed (word_value g leaves xs) (word_value g leaves ys))

abbrev pub choice_of_words : Graph → ℕ → List ℕ → List ℕ → List Bool → ℕ
choice_of_words g c xs ys leaves = if value_of g leaves c then word_value g leaves xs else word_value g leaves ys

-- ---- combinators

-- a literal for each item, from the first
unfoldable pub each_of : {X : Type 0} → (Graph → X → Graph × ℕ) → Graph → List X → Graph × List ℕ
each_of step g [] = (g, [])
each_of step g (x ∷ xs) =
    let p = step g x in
    let rest = each_of step p.0 xs in
    (rest.0, p.1 ∷ rest.1)

-- one literal of all items, from e and the first
unfoldable pub fold_of : {X : Type 0} → (Graph → ℕ → X → Graph × ℕ) → Graph → ℕ → List X → Graph × ℕ
fold_of step g e [] = (g, e)
fold_of step g e (x ∷ xs) =
    let p = step g e x in
    fold_of step p.0 p.1 xs

-- the sum of two words and a carry; the carry of the top bit is made too
unfoldable pub sum_from : Graph → ℕ → List ℕ → List ℕ → Graph × List ℕ
sum_from g c [] ys = (g, [])
sum_from g c (x ∷ xs) [] = (g, [])
sum_from g c (x ∷ xs) (y ∷ ys) =
    let f = full_of g x y c in
    let rest = sum_from f.0 f.2 xs ys in
    (rest.0, f.1 ∷ rest.1)

-- a builder of one bit, at a pair
abbrev pub at_pair : (Graph → ℕ → ℕ → Graph × ℕ) → Graph → ℕ × ℕ → Graph × ℕ
at_pair f g p = f g p.0 p.1

abbrev pub each_pair : (Graph → ℕ → ℕ → Graph × ℕ) → Graph → List ℕ → List ℕ → Graph × List ℕ
each_pair f g xs ys = each_of (at_pair f) g (zip xs ys)

-- a word of one bit
abbrev pub one_bit : Graph × ℕ → Graph × List ℕ
one_bit p = (p.0, p.1 ∷ [])

-- ---- bitwise operators

abbrev pub circuit_not : Graph → List ℕ → Graph × List ℕ
circuit_not g xs = (g, map negation xs)

abbrev pub circuit_and : Graph → List ℕ → List ℕ → Graph × List ℕ
circuit_and g xs ys = each_pair and_of g xs ys

abbrev pub circuit_or : Graph → List ℕ → List ℕ → Graph × List ℕ
circuit_or g xs ys = each_pair or_of g xs ys

abbrev pub circuit_xor : Graph → List ℕ → List ℕ → Graph × List ℕ
circuit_xor g xs ys = each_pair xor_of g xs ys

abbrev pub circuit_xnor : Graph → List ℕ → List ℕ → Graph × List ℕ
circuit_xnor g xs ys =
    let r = circuit_xor g xs ys in
    (r.0, map negation r.1)

abbrev pub circuit_mux : Graph → ℕ → List ℕ → List ℕ → Graph × List ℕ
circuit_mux g c xs ys = each_pair (λ h x y. mux_of h c x y) g xs ys

-- ---- reductions

abbrev pub circuit_any : Graph → List ℕ → Graph × ℕ
circuit_any g xs = fold_of or_of g 0 xs

abbrev pub circuit_all : Graph → List ℕ → Graph × ℕ
circuit_all g xs = fold_of and_of g 1 xs

abbrev pub circuit_odd : Graph → List ℕ → Graph × ℕ
circuit_odd g xs = fold_of xor_of g 0 xs

-- ---- comparisons

-- e, and the bits are equal
unfoldable pub equal_step : Graph → ℕ → ℕ × ℕ → Graph × ℕ
equal_step g e p =
    let d = xor_of g p.0 p.1 in
    and_of d.0 e (negation d.1)

-- the carry of the first bit less the second
unfoldable pub borrow_step : Graph → ℕ → ℕ × ℕ → Graph × ℕ
borrow_step g c p =
    let d = xor_of g p.0 (negation p.1) in
    or_of_ands d.0 p.0 (negation p.1) d.1 c

abbrev pub circuit_equal : Graph → List ℕ → List ℕ → Graph × ℕ
circuit_equal g xs ys = fold_of equal_step g 1 (zip xs ys)

-- the top literal negated
abbrev pub top_negated : List ℕ → List ℕ
top_negated [] = []
top_negated (x ∷ []) = negation x ∷ []
top_negated (x ∷ y ∷ ys) = x ∷ top_negated (y ∷ ys)

-- the first word isn't below the second: nothing is borrowed at the top
abbrev pub not_below : Graph → List ℕ → List ℕ → Graph × ℕ
not_below g xs ys = fold_of borrow_step g 1 (zip xs ys)

abbrev pub circuit_less : Graph → Bool → List ℕ → List ℕ → Graph × ℕ
circuit_less g signed xs ys =
    let r = if signed then not_below g (top_negated xs) (top_negated ys) else not_below g xs ys in
    (r.0, negation r.1)

-- ---- arithmetic

abbrev pub circuit_add : Graph → List ℕ → List ℕ → Graph × List ℕ
circuit_add g xs ys = sum_from g 0 xs ys

abbrev pub circuit_sub : Graph → List ℕ → List ℕ → Graph × List ℕ
circuit_sub g xs ys = sum_from g 1 xs (map negation ys)

abbrev pub circuit_neg : Graph → List ℕ → Graph × List ℕ
circuit_neg g xs = sum_from g 1 (replicate (length xs) 0) (map negation xs)

-- moved up by n places, with the literal f moved in
abbrev pub moved_up : {X : Type 0} → X → ℕ → List X → List X
moved_up f n xs = take (length xs) (replicate n f ++ xs)

-- each literal and y
abbrev pub partial_product : Graph → ℕ → List ℕ → Graph × List ℕ
partial_product g y xs = each_pair and_of g xs (replicate (length xs) y)

-- r and the partial products of xs with each of ys
unfoldable pub products_from : Graph → List ℕ → List ℕ → List ℕ → Graph × List ℕ
products_from g r xs [] = (g, r)
products_from g r xs (y ∷ ys) =
    let row = partial_product g y xs in
    let sum = sum_from row.0 0 r row.1 in
    products_from sum.0 sum.1 (moved_up 0 1 xs) ys

abbrev pub circuit_mul : Graph → List ℕ → List ℕ → Graph × List ℕ
circuit_mul g xs ys = products_from g (replicate (length xs) 0) xs ys

-- ---- shifts

-- moved down by n places, with the literal f moved in
abbrev pub moved_down : {X : Type 0} → X → ℕ → List X → List X
moved_down f n xs = take (length xs) (drop n xs ++ replicate n f)

-- the literal of the sign
abbrev pub top_literal : List ℕ → ℕ
top_literal [] = 0
top_literal (x ∷ []) = x
top_literal (x ∷ y ∷ ys) = top_literal (y ∷ ys)

-- moved by p times the number that rs spell: stage by stage while p is below the width, and then all is f where a further bit is 1
unfoldable pub shift_from : (ℕ → List ℕ → List ℕ) → ℕ → Graph → List ℕ → ℕ → List ℕ → Graph × List ℕ
shift_from move f g xs p [] = (g, xs)
shift_from move f g xs p (r ∷ rs) =
    let m = circuit_mux g r (move p xs) xs in
    let further = circuit_any g (r ∷ rs) in
    if nat_lt p (length xs) then shift_from move f m.0 m.1 (2 * p) rs else circuit_mux further.0 further.1 (replicate (length xs) f) xs

abbrev pub circuit_shl : Graph → List ℕ → List ℕ → Graph × List ℕ
circuit_shl g xs rs = shift_from (moved_up 0) 0 g xs 1 rs

abbrev pub circuit_shr : Graph → List ℕ → List ℕ → Graph × List ℕ
circuit_shr g xs rs = shift_from (moved_down 0) 0 g xs 1 rs

abbrev pub circuit_sshr : Graph → List ℕ → List ℕ → Graph × List ℕ
circuit_sshr g xs rs = shift_from (moved_down (top_literal xs)) (top_literal xs) g xs 1 rs
