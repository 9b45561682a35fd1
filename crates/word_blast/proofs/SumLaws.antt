-- What a sum gives.
use Rattle.std.proofs.Common.{◌≡◌, ℕ, suc, ◌+◌, ◌*◌, ◌/◌, ◌%◌, ◌^◌, ◌<◌, ◌≤◌, Bool, List, [], ◌∷◌, length, get_or, drop, refl, sym, ap, ◌∙◌, subst, arith}
use Rattle.std.specs.List.{All}
use Rattle.std.proofs.lemmas.List.{drop_more, drop_all}
use Rattle.std.proofs.lemmas.Nat.{mod-pow-add}
use Rattle.std.proofs.Math.Nat.{mod-one}
use Rattle.aig_core.specs.Graph.{Graph, leaf_count, value_of, IsLiteral, IsWellFormed}
use Rattle.aig_core.proofs.Values.{value_of-Extends, IsLiteral-Extends, Extends-refl, Extends-trans}
use Rattle.word_core.specs.Words.{bit}
use Rattle.word_core.proofs.WordLaws.{bit-lt}
use Rattle.word_blast.specs.Bits.{full_of}
use Rattle.word_blast.specs.Words.{word_value, AreLiterals, GivesWord, sum_from}
use Rattle.word_blast.proofs.BitLaws.{Adds, full_gives}
use Rattle.word_blast.proofs.Combinators.{AreLiterals-Extends, word_value-Extends, literals_exist, recursion}

-- ---- the code's steps

pub sum_from-more : (g h : Graph) (c s t x y : ℕ) (xs ys : List ℕ) (i : ℕ) → i < length xs → i < length ys → x ≡ get_or xs i 0 → y ≡ get_or ys i 0
    → h ≡ (full_of g x y c).0 → s ≡ (full_of g x y c).1 → t ≡ (full_of g x y c).2
    → sum_from g c (drop i xs) (drop i ys) ≡ ((sum_from h t (drop (i + 1) xs) (drop (i + 1) ys)).0, s ∷ (sum_from h t (drop (i + 1) xs) (drop (i + 1) ys)).1)
unfolding sum_from
sum_from-more g h c s t x y xs ys i lx ly ex ey eh es et =
    rw (drop_more xs i 0 lx, drop_more ys i 0 ly, ← ex, ← ey, eh, es, et) refl

pub sum_from-done : (g : Graph) (c : ℕ) (xs ys : List ℕ) (i : ℕ) → length xs ≤ i → sum_from g c (drop i xs) (drop i ys) ≡ (g, [])
unfolding sum_from
sum_from-done g c xs ys i h = rw (drop_all i xs h) refl

-- ---- its meaning

-- one bit more, modulo one power more
pub mod_bit : (s m n : ℕ) → s < 2 → (s + 2 * m) % 2 ^ suc n ≡ s + 2 * (m % 2 ^ n)
mod_bit s m n h =
    let half : (s + 2 * m) / 2 ^ 1 ≡ m = omega arith in
    let odd : (s + 2 * m) % 2 ^ 1 ≡ s = omega arith in
    let split = mod-pow-add (s + 2 * m) n 1 in
    let power : 2 ^ suc n ≡ 2 ^ (n + 1) = ap (λ (k : ℕ). 2 ^ k) (omega arith) in
    ap (λ (k : ℕ). (s + 2 * m) % k) power ∙ split ∙ (λ j. (half j % 2 ^ n) * 2 ^ 1 + odd j) ∙ omega arith

-- a step of the sum
sum_step : (s t a b c x y n : ℕ) → s < 2 → s + 2 * t ≡ a + b + c → s + 2 * ((t + x + y) % 2 ^ n) ≡ (c + (a + 2 * x) + (b + 2 * y)) % 2 ^ suc n
sum_step s t a b c x y n h e =
    let same : s + 2 * (t + x + y) ≡ c + (a + 2 * x) + (b + 2 * y) = omega arith in
    sym (mod_bit s (t + x + y) n h) ∙ ap (λ (k : ℕ). k % 2 ^ suc n) same

abbrev pub sum_worth : Graph → ℕ → List ℕ → List ℕ → List Bool → ℕ
sum_worth g c xs ys leaves = (bit (value_of g leaves c) + word_value g leaves xs + word_value g leaves ys) % 2 ^ length xs

module _ (g h : Graph) (c x y s t : ℕ) (xs ys : List ℕ) (f : Adds g h x y c s t) (lxs : AreLiterals g xs) (lys : AreLiterals g ys) where
  -- a bit, and then the others
  sums_more : (k : Graph) (rs : List ℕ) → GivesWord h k rs (length xs) (sum_worth h t xs ys) → GivesWord g k (s ∷ rs) (suc (length xs)) (sum_worth g c (x ∷ xs) (y ∷ ys))
  sums_more k rs rest = record {
    extends = Extends-trans g h k f.extends rest.extends;
    well_formed = rest.well_formed;
    width_is = ap suc rest.width_is;
    literals = (IsLiteral-Extends h k s rest.extends f.sum_exists, rest.literals);
    value = λ leaves len.
        let len' : length leaves ≡ leaf_count h = omega (arith, f.extends.inputs, f.extends.states) in
        (λ j. bit (value_of-Extends h k leaves s rest.extends len' f.sum_exists j) + 2 * rest.value leaves len' j)
        ∙ (λ j. bit (value_of h leaves s) + 2 * ((bit (value_of h leaves t) + word_value-Extends g h leaves xs f.extends len lxs j + word_value-Extends g h leaves ys f.extends len lys j) % 2 ^ length xs))
        ∙ sum_step (bit (value_of h leaves s)) (bit (value_of h leaves t)) (bit (value_of g leaves x)) (bit (value_of g leaves y)) (bit (value_of g leaves c)) (word_value g leaves xs) (word_value g leaves ys) (length xs) (bit-lt (value_of h leaves s)) (f.adds leaves len);
  }

pub sum_gives : (g : Graph) (c : ℕ) (xs ys : List ℕ) → IsWellFormed g → IsLiteral g c → AreLiterals g xs → AreLiterals g ys → length ys ≡ length xs
    → GivesWord g (sum_from g c xs ys).0 (sum_from g c xs ys).1 (length xs) (sum_worth g c xs ys)
unfolding sum_from
sum_gives g c [] ys well lc lxs lys len = record { extends = Extends-refl g; well_formed = well; width_is = refl; literals = tt; value = λ leaves _. sym (mod-one (bit (value_of g leaves c) + 0 + word_value g leaves ys)) }
sum_gives g c (x ∷ xs) [] well lc lxs lys len = absurd (omega arith)
sum_gives g c (x ∷ xs) (y ∷ ys) well lc lxs lys len =
    let f = full_gives g x y c well lxs.0 lys.0 lc in
    let h : Graph = (full_of g x y c).0 in
    sums_more g h c x y (full_of g x y c).1 (full_of g x y c).2 xs ys f lxs.1 lys.1 _ _
    (sum_gives h (full_of g x y c).2 xs ys f.well_formed f.carry_exists (AreLiterals-Extends g h xs f.extends lxs.1) (AreLiterals-Extends g h ys f.extends lys.1) (omega arith))

-- at what the code made
pub sum_exist : (c : ℕ) (g h : Graph) (xs ys rs : List ℕ) → IsWellFormed g → IsLiteral g c → All (IsLiteral g) xs → All (IsLiteral g) ys → length ys ≡ length xs → (h, rs) ≡ sum_from g c xs ys → All (IsLiteral h) rs × (length rs ≡ length xs)
sum_exist c g h xs ys rs well lc lxs lys len e =
    let a = sum_gives g c xs ys well lc (recursion g xs lxs) (recursion g ys lys) len in
    subst (λ (p : Graph × List ℕ). All (IsLiteral p.0) p.1 × (length p.1 ≡ length xs)) (sym e) (literals_exist a, a.width_is)
