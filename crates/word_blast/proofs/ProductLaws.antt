-- What a product gives.
use Rattle.std.proofs.Common.{◌≡◌, ℕ, zero, suc, ◌+◌, ◌*◌, ◌%◌, ◌^◌, ◌<◌, ◌≤◌, Bool, true, false, ◌&&◌, List, [], ◌∷◌, length, get_or, take, drop, map, replicate, refl, sym, ap, ◌∙◌, subst, zero-add, arith}
use Rattle.std.specs.List.{All, take-map}
use Rattle.std.proofs.lemmas.List.{drop_more, drop_all, length-take, length-replicate}
use Rattle.std.proofs.lemmas.List.Elements.{All-from_recursion}
use Rattle.std.proofs.lemmas.Nat.{mul-mod_first}
use Rattle.std.proofs.Math.Nat.{mod-one, mod-add-mod, add-mod-mod, mod-eq_of_lt, zero-mod}
use Rattle.aig_core.specs.Graph.{Graph, value_of, IsLiteral, IsWellFormed, Extends}
use Rattle.aig_core.proofs.Values.{value_of-zero, Extends-refl, Extends-trans}
use Rattle.word_core.specs.Words.{bit, number_of, each_bit, word_mul}
use Rattle.word_core.proofs.WordLaws.{bit-lt}
use Rattle.word_blast.specs.declared.loops.Op.TheVariants.{And}
use Rattle.word_blast.specs.Words.{spelled, word_value, AreLiterals, GivesWord, value_2, moved_up, partial_product, sum_from, products_from, circuit_mul}
use Rattle.word_blast.proofs.Combinators.{AreLiterals-Extends, word_value-Extends, leaves-Extends, number_from_bits, word_as, recursion, spelled_width}
use Rattle.word_blast.proofs.GateLaws.{each_pair_gives}
use Rattle.word_blast.proofs.SumLaws.{mod_bit}
use Rattle.word_blast.proofs.OperatorLaws.{add_gives, word_value-lt, AreLiterals-replicate, spelled-replicate, word_value-zeros}

-- ---- one partial product

masked_step : (a b : Bool) (n : ℕ) → bit (a && b) + 2 * (bit b * n) ≡ bit b * (bit a + 2 * n)
masked_step true true n = omega arith
masked_step true false n = omega arith
masked_step false true n = omega arith
masked_step false false n = omega arith

masked : (bs : List Bool) (b : Bool) → number_of (each_bit ◌&&◌ bs (replicate (length bs) b)) ≡ bit b * number_of bs
masked [] b = omega arith
masked (a ∷ bs) b = ap (λ (n : ℕ). bit (a && b) + 2 * n) (masked bs b) ∙ masked_step a b (number_of bs)

abbrev pub masked_worth : Graph → ℕ → List ℕ → List Bool → ℕ
masked_worth g y xs leaves = bit (value_of g leaves y) * word_value g leaves xs

pub partial_gives : (g : Graph) (y : ℕ) (xs : List ℕ) → IsWellFormed g → IsLiteral g y → AreLiterals g xs
    → GivesWord g (partial_product g y xs).0 (partial_product g y xs).1 (length xs) (masked_worth g y xs)
partial_gives g y xs well ly lxs =
    number_from_bits (masked_worth g y xs)
    (each_pair_gives And g xs (replicate (length xs) y) well lxs (AreLiterals-replicate g (length xs) y ly) (length-replicate (length xs) y))
    (λ leaves.
    ap (λ (bs : List Bool). number_of (each_bit ◌&&◌ (spelled g leaves xs) bs)) (spelled-replicate g leaves (length xs) y ∙ ap (λ (n : ℕ). replicate n (value_of g leaves y)) (sym (spelled_width g leaves xs)))
    ∙ masked (spelled g leaves xs) (value_of g leaves y))

-- ---- moved by one place

-- the low bits of a number
pub number_of-take : (n : ℕ) (bs : List Bool) → number_of (take n bs) ≡ number_of bs % 2 ^ n
number_of-take zero bs = sym (mod-one (number_of bs))
number_of-take (suc n) [] = sym (zero-mod (2 ^ suc n))
number_of-take (suc n) (b ∷ bs) = ap (λ (m : ℕ). bit b + 2 * m) (number_of-take n bs) ∙ sym (mod_bit (bit b) (number_of bs) n (bit-lt b))

abbrev once_up : List ℕ → List ℕ
once_up xs = moved_up 0 1 xs

word_value-once_up : (g : Graph) (leaves : List Bool) (xs : List ℕ) → word_value g leaves (once_up xs) ≡ 2 * word_value g leaves xs % 2 ^ length xs
word_value-once_up g leaves xs =
    ap number_of (sym (take-map (value_of g leaves) (length xs) (0 ∷ xs)))
    ∙ number_of-take (length xs) (map (value_of g leaves) (0 ∷ xs))
    ∙ ap (λ (b : Bool). (bit b + 2 * word_value g leaves xs) % 2 ^ length xs) (value_of-zero g leaves)
    ∙ ap (λ (n : ℕ). n % 2 ^ length xs) (zero-add (2 * word_value g leaves xs))

length-once_up : (xs : List ℕ) → length (once_up xs) ≡ length xs
length-once_up xs = omega (arith, length-take (length xs) (0 ∷ xs))

pub AreLiterals-take : (g : Graph) (n : ℕ) (xs : List ℕ) → AreLiterals g xs → AreLiterals g (take n xs)
AreLiterals-take g zero xs l = tt
AreLiterals-take g (suc n) [] l = tt
AreLiterals-take g (suc n) (x ∷ xs) l = (l.0, AreLiterals-take g n xs l.1)

once_up_literals : (g : Graph) (xs : List ℕ) → AreLiterals g xs → AreLiterals g (once_up xs)
once_up_literals g xs l = AreLiterals-take g (length xs) (0 ∷ xs) (omega arith, l)

-- ---- all partial products

-- a step of the product
product_step : (r x y z m : ℕ) → ((r + y * x) % m + (2 * x % m) * z) % m ≡ (r + x * (y + 2 * z)) % m
product_step r x y z m =
    let same : (r + y * x) + (2 * x) * z ≡ r + x * (y + 2 * z) = omega arith in
    mod-add-mod (r + y * x) m ((2 * x % m) * z)
    ∙ sym (add-mod-mod (r + y * x) ((2 * x % m) * z) m)
    ∙ ap (λ (n : ℕ). (r + y * x + n) % m) (mul-mod_first (2 * x) z m)
    ∙ add-mod-mod (r + y * x) (2 * x * z) m
    ∙ ap (λ (n : ℕ). n % m) same

abbrev products_worth : Graph → List ℕ → List ℕ → List ℕ → List Bool → ℕ
products_worth g r xs ys leaves = (word_value g leaves r + word_value g leaves xs * word_value g leaves ys) % 2 ^ length xs

abbrev add_worth : Graph → List ℕ → List ℕ → List Bool → ℕ
add_worth g xs ys leaves = (word_value g leaves xs + word_value g leaves ys) % 2 ^ length xs

module _ (g h k m : Graph) (y : ℕ) (r row sum res xs ys : List ℕ) (ly : IsLiteral g y) (lr : AreLiterals g r) (lxs : AreLiterals g xs) (lys : AreLiterals g ys) (rlen : length r ≡ length xs)
    (one : GivesWord g h row (length xs) (masked_worth g y xs)) (two : GivesWord h k sum (length r) (add_worth h r row)) (rest : GivesWord k m res (length (once_up xs)) (products_worth k sum (once_up xs) ys)) where
  products_more : GivesWord g m res (length xs) (products_worth g r xs (y ∷ ys))
  products_more =
      let up : Extends g k = Extends-trans g h k one.extends two.extends in
      record {
        extends = Extends-trans g k m up rest.extends;
        well_formed = rest.well_formed;
        width_is = rest.width_is ∙ length-once_up xs;
        literals = rest.literals;
        value = λ leaves len.
            let lh = leaves-Extends g h leaves one.extends len in
            let lk = leaves-Extends g k leaves up len in
            rest.value leaves lk
            ∙ (λ j. ((two.value leaves lh ∙ (λ i. (word_value-Extends g h leaves r one.extends len lr i + one.value leaves len i) % 2 ^ rlen i)) j
            + (word_value-once_up k leaves xs ∙ (λ i. 2 * word_value-Extends g k leaves xs up len lxs i % 2 ^ length xs)) j * word_value-Extends g k leaves ys up len lys j) % 2 ^ length-once_up xs j)
            ∙ product_step (word_value g leaves r) (word_value g leaves xs) (bit (value_of g leaves y)) (word_value g leaves ys) (2 ^ length xs);
      }

products_give : (g : Graph) (r xs ys : List ℕ) → IsWellFormed g → AreLiterals g r → AreLiterals g xs → AreLiterals g ys → length r ≡ length xs
    → GivesWord g (products_from g r xs ys).0 (products_from g r xs ys).1 (length xs) (products_worth g r xs ys)
unfolding products_from
products_give g r xs [] well lr lxs lys rlen = record {
  extends = Extends-refl g;
  well_formed = well;
  width_is = rlen;
  literals = lr;
  value = λ leaves _.
      let below : word_value g leaves r < 2 ^ length xs = subst (λ (n : ℕ). word_value g leaves r < 2 ^ n) rlen (word_value-lt g leaves r) in
      let same : word_value g leaves r + word_value g leaves xs * 0 ≡ word_value g leaves r = omega arith in
      sym (ap (λ (n : ℕ). n % 2 ^ length xs) same ∙ mod-eq_of_lt below);
}
products_give g r xs (y ∷ ys) well lr lxs lys rlen =
    let row : Graph × List ℕ = partial_product g y xs in
    let sum : Graph × List ℕ = sum_from row.0 0 r row.1 in
    let one : GivesWord g row.0 row.1 (length xs) (masked_worth g y xs) = partial_gives g y xs well lys.0 lxs in
    let two : GivesWord row.0 sum.0 sum.1 (length r) (add_worth row.0 r row.1) = add_gives row.0 r row.1 one.well_formed (AreLiterals-Extends g row.0 r one.extends lr) one.literals (one.width_is ∙ sym rlen) in
    let up : Extends g sum.0 = Extends-trans g row.0 sum.0 one.extends two.extends in
    products_more g row.0 sum.0 _ y r row.1 sum.1 _ xs ys lys.0 lr lxs lys.1 rlen one two
    (products_give sum.0 sum.1 (once_up xs) ys two.well_formed two.literals (once_up_literals sum.0 xs (AreLiterals-Extends g sum.0 xs up lxs)) (AreLiterals-Extends g sum.0 ys up lys.1)
    (two.width_is ∙ rlen ∙ sym (length-once_up xs)))

pub mul_gives : (g : Graph) (xs ys : List ℕ) → IsWellFormed g → AreLiterals g xs → AreLiterals g ys → GivesWord g (circuit_mul g xs ys).0 (circuit_mul g xs ys).1 (length xs) (value_2 word_mul g xs ys)
mul_gives g xs ys well lxs lys =
    word_as (value_2 word_mul g xs ys) (products_give g (replicate (length xs) 0) xs ys well (AreLiterals-replicate g (length xs) 0 (omega arith)) lxs lys (length-replicate (length xs) 0))
    (λ leaves. (λ j. (word_value-zeros g leaves (length xs) j + word_value g leaves xs * word_value g leaves ys) % 2 ^ length xs)
    ∙ ap (λ (n : ℕ). n % 2 ^ length xs) (zero-add (word_value g leaves xs * word_value g leaves ys)))

-- ---- the code's steps

pub products_from-more : (g h k : Graph) (r row sum xs : List ℕ) (y : ℕ) (ys : List ℕ) (i : ℕ) → i < length ys → y ≡ get_or ys i 0
    → (h, row) ≡ partial_product g y xs → (k, sum) ≡ sum_from h 0 r row
    → products_from g r xs (drop i ys) ≡ products_from k sum (once_up xs) (drop (i + 1) ys)
unfolding products_from
products_from-more g h k r row sum xs y ys i lt ey er es =
    let whole : sum_from (partial_product g y xs).0 0 r (partial_product g y xs).1 ≡ (k, sum) = sym (es ∙ ap (λ (p : Graph × List ℕ). sum_from p.0 0 r p.1) er) in
    rw (drop_more ys i 0 lt, ← ey) (ap (λ (p : Graph × List ℕ). products_from p.0 p.1 (once_up xs) (drop (i + 1) ys)) whole)

pub products_from-done : (g : Graph) (r xs ys : List ℕ) (i : ℕ) → length ys ≤ i → products_from g r xs (drop i ys) ≡ (g, r)
unfolding products_from
products_from-done g r xs ys i h = rw (drop_all i ys h) refl

pub moved_exist : (g : Graph) (xs ys : List ℕ) → ys ≡ once_up xs → All (IsLiteral g) xs → All (IsLiteral g) ys
moved_exist g xs ys e l = subst (All (IsLiteral g)) (sym e) (All-from_recursion (IsLiteral g) (once_up xs) (once_up_literals g xs (recursion g xs l)))

pub moved_width : (xs ys : List ℕ) → ys ≡ once_up xs → length ys ≡ length xs
moved_width xs ys e = ap length e ∙ length-once_up xs
