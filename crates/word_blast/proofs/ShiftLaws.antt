-- What shifts give.
use Rattle.std.proofs.Common.{◌≡◌, ℕ, zero, suc, ◌+◌, ◌-◌, ◌*◌, ◌/◌, ◌%◌, ◌^◌, ◌<◌, ◌≤◌, nat_eq, nat_lt, Bool, true, false, not, ◌||◌, cond, List, [], ◌∷◌, ◌++◌, length, get_or, take, drop, map, replicate, refl, sym, ap, ◌∙◌, subst, arith, ◌⊎◌, inl, inr}
use Rattle.std.specs.List.{All, take-map, drop-map}
use Rattle.std.proofs.lemmas.Bool.{ltb-false, lt-ltb, le-ltb, ne_eqb}
use Rattle.std.proofs.lemmas.List.{drop_more, drop_all, length-take, length-drop, length-append, length-map, length-replicate, map-append}
use Rattle.std.proofs.lemmas.List.Elements.{All-from_recursion}
use Rattle.std.proofs.lemmas.Nat.{mul-mod_first, pow-add, shr-shr, pow_pos}
use Rattle.std.proofs.Math.Nat.{pow-suc, mul_assoc, mod-lt, mod-eq_of_lt, lt_of_le_of_lt, div-le_self}
use Rattle.aig_core.specs.Graph.{Graph, leaf_count, value_of, IsLiteral, IsWellFormed, Extends, Gives}
use Rattle.aig_core.proofs.Values.{value_of-Extends, value_of-zero, IsLiteral-Extends, Extends-refl, Extends-trans}
use Rattle.word_core.specs.Words.{bit, number_of, any, word_shl, word_shr, word_sshr, word_not}
use Rattle.word_core.proofs.Masks.{shl_all, shr_all}
use Rattle.word_core.proofs.WordLaws.{any-is, number_of-lt, number_of-not, word_not-is, bit-lt}
use Rattle.word_core.proofs.SignedLaws.{sshr_low, sshr_high}
use Rattle.word_blast.specs.declared.loops.Op.TheVariants.{Or}
use Rattle.word_blast.specs.declared.shifts.Direction.{Direction}
use Rattle.word_blast.specs.declared.shifts.Direction.TheVariants.{Left, Right}
use Rattle.word_blast.specs.Steps.{move_of}
use Rattle.word_blast.specs.Words.{spelled, word_value, AreLiterals, GivesWord, shift_worth, choice_of_words, circuit_mux, circuit_any, moved_up, moved_down, top_literal, shift_from, circuit_shl, circuit_shr, circuit_sshr}
use Rattle.word_blast.proofs.BitLaws.{kept_leaves}
use Rattle.word_blast.proofs.Combinators.{AreLiterals-Extends, word_value-Extends, leaves-Extends, word_as, recursion, spelled_width}
use Rattle.word_blast.proofs.GateLaws.{fold_word_gives}
use Rattle.word_blast.proofs.FoldLaws.{folded_or}
use Rattle.word_blast.proofs.OperatorLaws.{choice_gives, word_value-lt, AreLiterals-replicate, spelled-replicate, number_of-zeros}
use Rattle.word_blast.proofs.ProductLaws.{number_of-take, AreLiterals-take}

-- ---- lists that are moved

AreLiterals-append : (g : Graph) (xs ys : List ℕ) → AreLiterals g xs → AreLiterals g ys → AreLiterals g (xs ++ ys)
AreLiterals-append g [] ys lxs lys = lys
AreLiterals-append g (x ∷ xs) ys lxs lys = (lxs.0, AreLiterals-append g xs ys lxs.1 lys)

AreLiterals-drop : (g : Graph) (n : ℕ) (xs : List ℕ) → AreLiterals g xs → AreLiterals g (drop n xs)
AreLiterals-drop g zero xs l = l
AreLiterals-drop g (suc n) [] l = tt
AreLiterals-drop g (suc n) (x ∷ xs) l = AreLiterals-drop g n xs l.1

map-replicate : {A B : Type 0} (v : A → B) (n : ℕ) (x : A) → map v (replicate n x) ≡ replicate n (v x)
map-replicate v zero x = refl
map-replicate v (suc n) x = ap (λ l. v x ∷ l) (map-replicate v n x)

length-moved_up : {A : Type 0} (f : A) (n : ℕ) (xs : List A) → length (moved_up f n xs) ≡ length xs
length-moved_up f n xs = omega (arith, length-take (length xs) (replicate n f ++ xs), length-append (replicate n f) xs)

length-moved_down : {A : Type 0} (f : A) (n : ℕ) (xs : List A) → length (moved_down f n xs) ≡ length xs
length-moved_down f n xs = omega (arith, length-take (length xs) (drop n xs ++ replicate n f), length-append (drop n xs) (replicate n f), length-drop n xs, length-replicate n f)

map-moved_up : {A B : Type 0} (v : A → B) (f : A) (n : ℕ) (xs : List A) → map v (moved_up f n xs) ≡ moved_up (v f) n (map v xs)
map-moved_up v f n xs =
    sym (take-map v (length xs) (replicate n f ++ xs))
    ∙ (λ j. take (sym (length-map xs v) j) ((map-append v (replicate n f) xs ∙ ap (λ l. l ++ map v xs) (map-replicate v n f)) j))

map-moved_down : {A B : Type 0} (v : A → B) (f : A) (n : ℕ) (xs : List A) → map v (moved_down f n xs) ≡ moved_down (v f) n (map v xs)
map-moved_down v f n xs =
    sym (take-map v (length xs) (drop n xs ++ replicate n f))
    ∙ (λ j. take (sym (length-map xs v) j) ((map-append v (drop n xs) (replicate n f) ∙ (λ i. sym (drop-map v n xs) i ++ map-replicate v n f i)) j))

-- ---- numbers of lists that are moved

number_of-zeros_first : (n : ℕ) (bs : List Bool) → number_of (replicate n false ++ bs) ≡ number_of bs * 2 ^ n
number_of-zeros_first zero bs = omega arith
number_of-zeros_first (suc n) bs = ap (λ (m : ℕ). 0 + 2 * m) (number_of-zeros_first n bs) ∙ twice (number_of bs) (2 ^ n) (2 ^ suc n) (pow-suc 2 n)
  where
    twice : (x m k : ℕ) → k ≡ m * 2 → 0 + 2 * (x * m) ≡ x * k
    twice x m k e = rw e (omega arith)

number_of-zeros_last : (bs : List Bool) (n : ℕ) → number_of (bs ++ replicate n false) ≡ number_of bs
number_of-zeros_last [] n = number_of-zeros n
number_of-zeros_last (b ∷ bs) n = ap (λ (m : ℕ). bit b + 2 * m) (number_of-zeros_last bs n)

number_of-drop : (n : ℕ) (bs : List Bool) → number_of (drop n bs) ≡ number_of bs / 2 ^ n
number_of-drop zero bs = omega arith
number_of-drop (suc n) [] = none (2 ^ suc n) (pow_pos (suc n))
  where
    none : (m : ℕ) → 0 < m → 0 ≡ 0 / m
    none m h = omega arith
number_of-drop (suc n) (b ∷ bs) =
    number_of-drop n bs
    ∙ ap (λ (m : ℕ). m / 2 ^ n) (sym (half b (number_of bs)))
    ∙ shr-shr (bit b + 2 * number_of bs) 1 n
    ∙ ap (λ (m : ℕ). (bit b + 2 * number_of bs) / 2 ^ m) (omega arith)
  where
    half : (b : Bool) (n : ℕ) → (bit b + 2 * n) / 2 ^ 1 ≡ n
    half true n = omega arith
    half false n = omega arith

number_of-moved_up : (n : ℕ) (bs : List Bool) → number_of (moved_up false n bs) ≡ number_of bs * 2 ^ n % 2 ^ length bs
number_of-moved_up n bs = number_of-take (length bs) (replicate n false ++ bs) ∙ ap (λ (m : ℕ). m % 2 ^ length bs) (number_of-zeros_first n bs)

number_of-moved_down : (n : ℕ) (bs : List Bool) → number_of (moved_down false n bs) ≡ number_of bs / 2 ^ n
number_of-moved_down n bs =
    number_of-take (length bs) (drop n bs ++ replicate n false)
    ∙ ap (λ (m : ℕ). m % 2 ^ length bs) (number_of-zeros_last (drop n bs) n ∙ number_of-drop n bs)
    ∙ mod-eq_of_lt (lt_of_le_of_lt (div-le_self (number_of bs) (2 ^ n)) (number_of-lt bs))

-- the complement of a number of w bits
abbrev complement : ℕ → ℕ → ℕ
complement w x = 2 ^ w - 1 - x

-- where ones are moved in, the complement is moved down
number_of-ones_in : (n : ℕ) (bs : List Bool) → number_of (moved_down true n bs) ≡ complement (length bs) (complement (length bs) (number_of bs) / 2 ^ n)
number_of-ones_in n bs =
    let moved : List Bool = moved_down true n bs in
    let other : map not moved ≡ moved_down false n (map not bs) = map-moved_down not true n bs in
    let worth : number_of (map not moved) ≡ number_of (map not bs) / 2 ^ n = ap number_of other ∙ number_of-moved_down n (map not bs) in
    let whole : 2 ^ length moved ≡ 2 ^ length bs = ap (λ (m : ℕ). 2 ^ m) (length-moved_down true n bs) in
    let turned : number_of (map not bs) ≡ complement (length bs) (number_of bs) = omega (arith, number_of-not bs) in
    let quotient : number_of (map not bs) / 2 ^ n ≡ complement (length bs) (number_of bs) / 2 ^ n = ap (λ (m : ℕ). m / 2 ^ n) turned in
    omega (arith, number_of-not moved, worth, whole, quotient)

-- ---- shifts as functions on numbers

-- moved by k places, where b is moved in
abbrev pub up_by : ℕ → ℕ → ℕ → ℕ
up_by w k x = x * 2 ^ k % 2 ^ w

abbrev pub down_by : ℕ → Bool → ℕ → ℕ → ℕ
down_by w false k x = x / 2 ^ k
down_by w true k x = complement w (complement w x / 2 ^ k)

-- a shift of words of w bits by k places, where b is moved in
pub record IsShift (w : ℕ) (b : Bool) (move : ℕ → List Bool → List Bool) (n : ℕ → ℕ → ℕ) : Type 0 where
  pub fits : (k x : ℕ) → x < 2 ^ w → n k x < 2 ^ w
  pub none : (x : ℕ) → x < 2 ^ w → n 0 x ≡ x
  pub twice : (j k x : ℕ) → x < 2 ^ w → n j (n k x) ≡ n (k + j) x
  pub far : (k x : ℕ) → x < 2 ^ w → w ≤ k → n k x ≡ number_of (replicate w b)
  pub moves : (k : ℕ) (bs : List Bool) → length bs ≡ w → number_of (move k bs) ≡ n k (number_of bs)

up_shift : (w : ℕ) → IsShift w false (moved_up false) (up_by w)
up_shift w = record {
  fits = λ k x h. mod-lt (x * 2 ^ k) (pow_pos w);
  none = λ x h. let same : x * 2 ^ 0 ≡ x = omega arith in ap (λ (m : ℕ). m % 2 ^ w) same ∙ mod-eq_of_lt h;
  twice = λ j k x h.
      mul-mod_first (x * 2 ^ k) (2 ^ j) (2 ^ w)
      ∙ ap (λ (m : ℕ). m % 2 ^ w) (mul_assoc x (2 ^ k) (2 ^ j) ∙ ap (λ (m : ℕ). x * m) (sym (pow-add 2 k j)));
  far = λ k x h le. shl_all x k w le ∙ sym (number_of-zeros w);
  moves = λ k bs e. number_of-moved_up k bs ∙ ap (λ (m : ℕ). number_of bs * 2 ^ k % 2 ^ m) e;
}

zeros_shift : (w : ℕ) → IsShift w false (moved_down false) (down_by w false)
zeros_shift w = record {
  fits = λ k x h. lt_of_le_of_lt (div-le_self x (2 ^ k)) h;
  none = λ x h. omega arith;
  twice = λ j k x h. shr-shr x k j;
  far = λ k x h le. shr_all x k w h le ∙ sym (number_of-zeros w);
  moves = λ k bs e. number_of-moved_down k bs;
}

number_of-ones : (n : ℕ) → number_of (replicate n true) + 1 ≡ 2 ^ n
number_of-ones zero = refl
number_of-ones (suc n) = omega (arith, number_of-ones n, pow-suc 2 n)

module _ (w : ℕ) where
  complement-lt : (x : ℕ) → complement w x < 2 ^ w
  complement-lt x = omega (arith, pow_pos w)

  complement-complement : (x : ℕ) → x < 2 ^ w → complement w (complement w x) ≡ x
  complement-complement x h = omega arith

  quotient-lt : (k x : ℕ) → x < 2 ^ w → x / 2 ^ k < 2 ^ w
  quotient-lt k x h = lt_of_le_of_lt (div-le_self x (2 ^ k)) h

  ones_shift : IsShift w true (moved_down true) (down_by w true)
  ones_shift = record {
    fits = λ k x h. complement-lt (complement w x / 2 ^ k);
    none = λ x h. let same : complement w x / 2 ^ 0 ≡ complement w x = omega arith in ap (complement w) same ∙ complement-complement x h;
    twice = λ j k x h.
        ap (λ (m : ℕ). complement w (m / 2 ^ j)) (complement-complement (complement w x / 2 ^ k) (quotient-lt k (complement w x) (complement-lt x)))
        ∙ ap (complement w) (shr-shr (complement w x) k j);
    far = λ k x h le. let gone = shr_all (complement w x) k w (complement-lt x) le in omega (arith, gone, number_of-ones w);
    moves = λ k bs e. number_of-ones_in k bs ∙ ap (λ (m : ℕ). complement m (complement m (number_of bs) / 2 ^ k)) e;
  }

down_shift : (w : ℕ) (b : Bool) → IsShift w b (moved_down b) (down_by w b)
down_shift w true = ones_shift w
down_shift w false = zeros_shift w

-- ---- the stages

-- how a list of literals is moved, and the literal f that is moved in
pub record IsMove (move : ℕ → List ℕ → List ℕ) (f : ℕ) (spell : Bool → ℕ → List Bool → List Bool) : Type 0 where
  pub width : (n : ℕ) (xs : List ℕ) → length (move n xs) ≡ length xs
  pub literals : (g : Graph) (n : ℕ) (xs : List ℕ) → IsLiteral g f → AreLiterals g xs → AreLiterals g (move n xs)
  pub spells : (g : Graph) (leaves : List Bool) (n : ℕ) (xs : List ℕ) → spelled g leaves (move n xs) ≡ spell (value_of g leaves f) n (spelled g leaves xs)

up_move : (f : ℕ) → IsMove (moved_up f) f moved_up
up_move f = record {
  width = length-moved_up f;
  literals = λ g n xs lf lxs. AreLiterals-take g (length xs) (replicate n f ++ xs) (AreLiterals-append g (replicate n f) xs (AreLiterals-replicate g n f lf) lxs);
  spells = λ g leaves n xs. map-moved_up (value_of g leaves) f n xs;
}

down_move : (f : ℕ) → IsMove (moved_down f) f moved_down
down_move f = record {
  width = length-moved_down f;
  literals = λ g n xs lf lxs. AreLiterals-take g (length xs) (drop n xs ++ replicate n f) (AreLiterals-append g (drop n xs) (replicate n f) (AreLiterals-drop g n xs lxs) (AreLiterals-replicate g n f lf));
  spells = λ g leaves n xs. map-moved_down (value_of g leaves) f n xs;
}

any_of_gives : (g : Graph) (xs : List ℕ) → IsWellFormed g → AreLiterals g xs → Gives g (circuit_any g xs).0 (circuit_any g xs).1 (λ leaves. not (nat_eq (word_value g leaves xs) 0))
any_of_gives g xs well lxs =
    let a = fold_word_gives Or g 0 xs well (omega arith) lxs in
    record {
      extends = a.extends;
      well_formed = a.well_formed;
      literal = a.literal;
      value = λ leaves len.
          a.value leaves len
          ∙ folded_or (value_of g leaves 0) (spelled g leaves xs)
          ∙ ap (λ (b : Bool). b || any (spelled g leaves xs)) (value_of-zero g leaves)
          ∙ any-is (spelled g leaves xs);
    }

-- f is a literal that is worth b
abbrev IsFillOf : ℕ → (List Bool → Bool) → Graph → Type 0
IsFillOf f b g = IsLiteral g f × ((leaves : List Bool) → length leaves ≡ leaf_count g → value_of g leaves f ≡ b leaves)

zero_fill : (g : Graph) → IsFillOf 0 (λ leaves. false) g
zero_fill g = (omega arith, λ leaves len. value_of-zero g leaves)

module _ (move : ℕ → List ℕ → List ℕ) (f : ℕ) (spell : Bool → ℕ → List Bool → List Bool) (is_move : IsMove move f spell)
    (w : ℕ) (b : List Bool → Bool) (n : List Bool → ℕ → ℕ → ℕ) (law : (leaves : List Bool) → IsShift w (b leaves) (spell (b leaves)) (n leaves)) where
  abbrev IsFill : Graph → Type 0
  IsFill g = IsFillOf f b g

  abbrev stage_worth : Graph → List ℕ → ℕ → List ℕ → List Bool → ℕ
  stage_worth g xs p rs leaves = n leaves (p * word_value g leaves rs) (word_value g leaves xs)

  -- one bit of the distance
  stage : (leaves : List Bool) (r : Bool) (p m x y : ℕ) → x < 2 ^ w → y ≡ n leaves p x → n leaves (2 * p * m) (cond r y x) ≡ n leaves (p * (bit r + 2 * m)) x
  stage leaves true p m x y h e =
      let far : p + 2 * p * m ≡ p * (1 + 2 * m) = omega arith in
      ap (n leaves (2 * p * m)) e ∙ (law leaves).twice (2 * p * m) p x h ∙ ap (λ (k : ℕ). n leaves k x) far
  stage leaves false p m x y h e = let same : 2 * p * m ≡ p * (0 + 2 * m) = omega arith in ap (λ (k : ℕ). n leaves k x) same

  -- no place is left
  last : (leaves : List Bool) (p m x y : ℕ) → x < 2 ^ w → w ≤ p → y ≡ number_of (replicate w (b leaves)) → cond (not (nat_eq m 0)) y x ≡ n leaves (p * m) x
  last leaves p zero x y h le e = let none : p * 0 ≡ 0 = omega arith in sym (ap (λ (k : ℕ). n leaves k x) none ∙ (law leaves).none x h)
  last leaves p (suc m) x y h le e =
      let far : w ≤ p * suc m = omega arith in
      ap (λ (t : Bool). cond (not t) y x) (ne_eqb (suc m) 0 (λ q. omega arith)) ∙ e ∙ sym ((law leaves).far (p * suc m) x h far)

  leaves_back : (g h : Graph) (leaves : List Bool) → Extends g h → length leaves ≡ leaf_count h → length leaves ≡ leaf_count g
  leaves_back g h leaves e len = omega (arith, e.inputs, e.states)

  fill_kept : (g h : Graph) → Extends g h → IsFill g → IsFill h
  fill_kept g h e fill = (
    IsLiteral-Extends g h f e fill.0,
    λ leaves len. let back = leaves_back g h leaves e len in value_of-Extends g h leaves f e back fill.0 ∙ fill.1 leaves back,
  )

  module _ (g : Graph) (xs : List ℕ) (p : ℕ) (r : ℕ) (rs : List ℕ) (well : IsWellFormed g) (fill : IsFill g) (lxs : AreLiterals g xs) (lr : IsLiteral g r) (lrs : AreLiterals g rs) (width : length xs ≡ w) where
    below : (leaves : List Bool) → word_value g leaves xs < 2 ^ w
    below leaves = subst (λ (m : ℕ). word_value g leaves xs < 2 ^ m) width (word_value-lt g leaves xs)

    moved : (leaves : List Bool) → length leaves ≡ leaf_count g → word_value g leaves (move p xs) ≡ n leaves p (word_value g leaves xs)
    moved leaves len =
        ap number_of (is_move.spells g leaves p xs ∙ ap (λ (t : Bool). spell t p (spelled g leaves xs)) (fill.1 leaves len))
        ∙ (law leaves).moves p (spelled g leaves xs) (spelled_width g leaves xs ∙ width)

    module _ (h k : Graph) (ys res : List ℕ) (one : GivesWord g h ys (length (move p xs)) (choice_of_words g r (move p xs) xs)) (two : GivesWord h k res w (stage_worth h ys (2 * p) rs)) where
      stages_more : GivesWord g k res w (stage_worth g xs p (r ∷ rs))
      stages_more = record {
        extends = Extends-trans g h k one.extends two.extends;
        well_formed = two.well_formed;
        width_is = two.width_is;
        literals = two.literals;
        value = λ leaves len.
            two.value leaves (leaves-Extends g h leaves one.extends len)
            ∙ (λ j. n leaves (2 * p * word_value-Extends g h leaves rs one.extends len lrs j) (one.value leaves len j))
            ∙ stage leaves (value_of g leaves r) p (word_value g leaves rs) (word_value g leaves xs) (word_value g leaves (move p xs)) (below leaves) (moved leaves len);
      }

    module _ (far : w ≤ p) (h k : Graph) (any : ℕ) (res : List ℕ) (one : Gives g h any (λ leaves. not (nat_eq (word_value g leaves (r ∷ rs)) 0)))
        (two : GivesWord h k res (length (replicate (length xs) f)) (choice_of_words h any (replicate (length xs) f) xs)) where
      stages_end : GivesWord g k res w (stage_worth g xs p (r ∷ rs))
      stages_end = record {
        extends = Extends-trans g h k one.extends two.extends;
        well_formed = two.well_formed;
        width_is = two.width_is ∙ length-replicate (length xs) f ∙ width;
        literals = two.literals;
        value = λ leaves len.
            let filled : word_value h leaves (replicate (length xs) f) ≡ number_of (replicate w (b leaves))
            = ap number_of (spelled-replicate h leaves (length xs) f ∙ (λ j. replicate (width j) ((value_of-Extends g h leaves f one.extends len fill.0 ∙ fill.1 leaves len) j))) in
            two.value leaves (kept_leaves one leaves len)
            ∙ (λ j. cond (one.value leaves len j) (word_value h leaves (replicate (length xs) f)) (word_value-Extends g h leaves xs one.extends len lxs j))
            ∙ last leaves p (word_value g leaves (r ∷ rs)) (word_value g leaves xs) (word_value h leaves (replicate (length xs) f)) (below leaves) far filled;
      }

  pub shift_gives : (g : Graph) (xs : List ℕ) (p : ℕ) (rs : List ℕ) → IsWellFormed g → IsFill g → AreLiterals g xs → AreLiterals g rs → length xs ≡ w
      → GivesWord g (shift_from move f g xs p rs).0 (shift_from move f g xs p rs).1 w (stage_worth g xs p rs)
  unfolding shift_from
  shift_gives g xs p [] well fill lxs lrs width = record {
    extends = Extends-refl g;
    well_formed = well;
    width_is = width;
    literals = lxs;
    value = λ leaves _.
        let none : p * 0 ≡ 0 = omega arith in
        sym (ap (λ (k : ℕ). n leaves k (word_value g leaves xs)) none ∙ (law leaves).none (word_value g leaves xs) (subst (λ (m : ℕ). word_value g leaves xs < 2 ^ m) width (word_value-lt g leaves xs)));
  }
  shift_gives g xs p (r ∷ rs) well fill lxs lrs width =
      let m : Graph × List ℕ = circuit_mux g r (move p xs) xs in
      let one : GivesWord g m.0 m.1 (length (move p xs)) (choice_of_words g r (move p xs) xs) = choice_gives g (move p xs) xs well (is_move.literals g p xs fill.0 lxs) lxs (sym (is_move.width p xs)) r lrs.0 in
      by one (shift_gives m.0 m.1 (2 * p) rs one.well_formed (fill_kept g m.0 one.extends fill) one.literals (AreLiterals-Extends g m.0 rs one.extends lrs.1) (one.width_is ∙ is_move.width p xs ∙ width)) (nat_lt p (length xs)) refl
    where
      m : Graph × List ℕ
      m = circuit_mux g r (move p xs) xs

      further : Graph × ℕ
      further = circuit_any g (r ∷ rs)

      either_way : Bool → Graph × List ℕ
      either_way t = cond t (shift_from move f m.0 m.1 (2 * p) rs) (circuit_mux further.0 further.1 (replicate (length xs) f) xs)

      by : GivesWord g m.0 m.1 (length (move p xs)) (choice_of_words g r (move p xs) xs) → GivesWord m.0 (shift_from move f m.0 m.1 (2 * p) rs).0 (shift_from move f m.0 m.1 (2 * p) rs).1 w (stage_worth m.0 m.1 (2 * p) rs)
          → (t : Bool) → nat_lt p (length xs) ≡ t → GivesWord g (either_way t).0 (either_way t).1 w (stage_worth g xs p (r ∷ rs))
      by one two true e = stages_more g xs p r rs well fill lxs lrs.0 lrs.1 width m.0 _ m.1 _ one two
      by one two false e =
          let a : Gives g further.0 further.1 (λ leaves. not (nat_eq (word_value g leaves (r ∷ rs)) 0)) = any_of_gives g (r ∷ rs) well lrs in
          let far : w ≤ p = omega (arith, ltb-false p (length xs) e) in
          stages_end g xs p r rs well fill lxs lrs.0 lrs.1 width far further.0 _ further.1 _ a
          (choice_gives further.0 (replicate (length xs) f) xs a.well_formed (AreLiterals-replicate further.0 (length xs) f (IsLiteral-Extends g further.0 f a.extends fill.0)) (AreLiterals-Extends g further.0 xs a.extends lxs) (sym (length-replicate (length xs) f)) further.1 a.literal)

-- ---- the three shifts

once : (n : ℕ) → 1 * n ≡ n
once n = omega arith

-- the top bit
abbrev top_of : List Bool → Bool
top_of [] = false
top_of (b ∷ []) = b
top_of (b ∷ c ∷ bs) = top_of (c ∷ bs)

top_read : (g : Graph) (leaves : List Bool) (xs : List ℕ) → value_of g leaves (top_literal xs) ≡ top_of (spelled g leaves xs)
top_read g leaves [] = value_of-zero g leaves
top_read g leaves (x ∷ []) = refl
top_read g leaves (x ∷ y ∷ xs) = top_read g leaves (y ∷ xs)

pub top_exists : (g : Graph) (xs : List ℕ) → AreLiterals g xs → IsLiteral g (top_literal xs)
top_exists g [] l = omega arith
top_exists g (x ∷ []) l = l.0
top_exists g (x ∷ y ∷ xs) l = top_exists g (y ∷ xs) l.1

top_fill : (g : Graph) (xs : List ℕ) → AreLiterals g xs → IsFillOf (top_literal xs) (λ leaves. value_of g leaves (top_literal xs)) g
top_fill g xs l = (top_exists g xs l, λ leaves len. refl)

abbrev IsTop : ℕ → ℕ → Bool → Type 0
IsTop t a b = ((a < t) × (b ≡ false)) ⊎ ((t ≤ a) × (b ≡ true))

top_is : (bs : List Bool) (n : ℕ) → length bs ≡ suc n → IsTop (2 ^ n) (number_of bs) (top_of bs)
top_is [] n len = absurd (omega arith)
top_is (true ∷ []) n len = let n0 : n ≡ 0 = omega arith in rw n0 (inr (omega arith, refl))
top_is (false ∷ []) n len = let n0 : n ≡ 0 = omega arith in rw n0 (inl (omega arith, refl))
top_is (b ∷ c ∷ bs) zero len = absurd (omega arith)
top_is (b ∷ c ∷ bs) (suc n) len = by (top_is (c ∷ bs) n (omega arith))
  where
    k : ℕ
    k = number_of (c ∷ bs)

    by : IsTop (2 ^ n) k (top_of (c ∷ bs)) → IsTop (2 ^ suc n) (bit b + 2 * k) (top_of (c ∷ bs))
    by (inl h) = let lt = h.0 in inl (omega (arith, pow-suc 2 n, bit-lt b), h.1)
    by (inr h) = let le = h.0 in inr (omega (arith, pow-suc 2 n), h.1)

signed_down : (w k x : ℕ) (b : Bool) → x < 2 ^ w → IsTop (2 ^ (w - 1)) x b → down_by w b k x ≡ word_sshr w x k
signed_down w k x b h (inl t) = ap (λ (c : Bool). down_by w c k x) t.1 ∙ sym (sshr_low w x k t.0 h)
signed_down w k x b h (inr t) =
    ap (λ (c : Bool). down_by w c k x) t.1
    ∙ sym (word_not-is w (complement w x / 2 ^ k) (lt_of_le_of_lt (div-le_self (complement w x) (2 ^ k)) (omega (arith, pow_pos w))))
    ∙ ap (λ (m : ℕ). word_not w (m / 2 ^ k)) (sym (word_not-is w x h))
    ∙ sym (sshr_high w x k t.0 h)

module _ (g : Graph) (xs rs : List ℕ) (well : IsWellFormed g) (lxs : AreLiterals g xs) (lrs : AreLiterals g rs) where
  pub shl_gives : GivesWord g (circuit_shl g xs rs).0 (circuit_shl g xs rs).1 (length xs) (shift_worth word_shl g xs rs)
  shl_gives =
      word_as (shift_worth word_shl g xs rs)
      (shift_gives (moved_up 0) 0 moved_up (up_move 0) (length xs) (λ leaves. false) (λ leaves. up_by (length xs)) (λ leaves. up_shift (length xs)) g xs 1 rs well (zero_fill g) lxs lrs refl)
      (λ leaves. ap (λ (k : ℕ). word_shl (length xs) (word_value g leaves xs) k) (once (word_value g leaves rs)))

  pub shr_gives : GivesWord g (circuit_shr g xs rs).0 (circuit_shr g xs rs).1 (length xs) (shift_worth word_shr g xs rs)
  shr_gives =
      word_as (shift_worth word_shr g xs rs)
      (shift_gives (moved_down 0) 0 moved_down (down_move 0) (length xs) (λ leaves. false) (λ leaves. down_by (length xs) false) (λ leaves. down_shift (length xs) false) g xs 1 rs well (zero_fill g) lxs lrs refl)
      (λ leaves. ap (λ (k : ℕ). word_shr (length xs) (word_value g leaves xs) k) (once (word_value g leaves rs)))

  pub sshr_gives : 1 ≤ length xs → GivesWord g (circuit_sshr g xs rs).0 (circuit_sshr g xs rs).1 (length xs) (shift_worth word_sshr g xs rs)
  sshr_gives some =
      let f : ℕ = top_literal xs in
      let w : ℕ = length xs in
      let top : w ≡ suc (w - 1) = omega arith in
      word_as (shift_worth word_sshr g xs rs)
      (shift_gives (moved_down f) f moved_down (down_move f) w (λ leaves. value_of g leaves f) (λ leaves. down_by w (value_of g leaves f)) (λ leaves. down_shift w (value_of g leaves f)) g xs 1 rs well (top_fill g xs lxs) lxs lrs refl)
      (λ leaves.
      ap (λ (k : ℕ). down_by w (value_of g leaves f) k (word_value g leaves xs)) (once (word_value g leaves rs))
      ∙ signed_down w (word_value g leaves rs) (word_value g leaves xs) (value_of g leaves f) (word_value-lt g leaves xs)
      (subst (IsTop (2 ^ (w - 1)) (word_value g leaves xs)) (sym (top_read g leaves xs)) (top_is (spelled g leaves xs) (w - 1) (spelled_width g leaves xs ∙ top))))

-- ---- the code's steps

pub move_width : (d : Direction) (f n : ℕ) (xs : List ℕ) → length (move_of d f n xs) ≡ length xs
move_width Left f n xs = length-moved_up f n xs
move_width Right f n xs = length-moved_down f n xs

pub move_exist : (d : Direction) (g : Graph) (f n : ℕ) (xs ys : List ℕ) → ys ≡ move_of d f n xs → IsLiteral g f → All (IsLiteral g) xs → All (IsLiteral g) ys
move_exist d g f n xs ys e lf l = subst (All (IsLiteral g)) (sym e) (All-from_recursion (IsLiteral g) (move_of d f n xs) (by d))
  where
    by : (d : Direction) → AreLiterals g (move_of d f n xs)
    by Left = (up_move f).literals g n xs lf (recursion g xs l)
    by Right = (down_move f).literals g n xs lf (recursion g xs l)

module _ (move : ℕ → List ℕ → List ℕ) (f : ℕ) where
  pub shift_from-more : (g h : Graph) (xs ys : List ℕ) (p r : ℕ) (rs : List ℕ) (i : ℕ) → i < length rs → p < length xs → r ≡ get_or rs i 0
      → (h, ys) ≡ circuit_mux g r (move p xs) xs → shift_from move f g xs p (drop i rs) ≡ shift_from move f h ys (2 * p) (drop (i + 1) rs)
  unfolding shift_from
  shift_from-more g h xs ys p r rs i lt within er e =
      rw (drop_more rs i 0 lt, ← er, lt-ltb p (length xs) within) (ap (λ (q : Graph × List ℕ). shift_from move f q.0 q.1 (2 * p) (drop (i + 1) rs)) (sym e))

  far_end : (g h k : Graph) (xs res : List ℕ) (p any r : ℕ) (rest : List ℕ) → length xs ≤ p → (h, any) ≡ circuit_any g (r ∷ rest)
      → (k, res) ≡ circuit_mux h any (replicate (length xs) f) xs → shift_from move f g xs p (r ∷ rest) ≡ (k, res)
  unfolding shift_from
  far_end g h k xs res p any r rest far ea ek =
      rw (le-ltb p (length xs) far) (ap (λ (q : Graph × ℕ). circuit_mux q.0 q.1 (replicate (length xs) f) xs) (sym ea) ∙ sym ek)

  pub shift_from-end : (g h k : Graph) (xs res : List ℕ) (p any : ℕ) (rs : List ℕ) (i : ℕ) → i < length rs → length xs ≤ p → (h, any) ≡ circuit_any g (drop i rs)
      → (k, res) ≡ circuit_mux h any (replicate (length xs) f) xs → shift_from move f g xs p (drop i rs) ≡ (k, res)
  shift_from-end g h k xs res p any rs i lt far ea ek =
      let whole = drop_more rs i 0 lt in
      ap (shift_from move f g xs p) whole ∙ far_end g h k xs res p any (get_or rs i 0) (drop (i + 1) rs) far (ea ∙ ap (circuit_any g) whole) ek

  pub shift_from-done : (g : Graph) (xs : List ℕ) (p : ℕ) (rs : List ℕ) (i : ℕ) → length rs ≤ i → shift_from move f g xs p (drop i rs) ≡ (g, xs)
  unfolding shift_from
  shift_from-done g xs p rs i h = rw (drop_all i rs h) refl

pub top_at : (xs : List ℕ) (i : ℕ) → suc i ≡ length xs → get_or xs i 0 ≡ top_literal xs
top_at [] i len = absurd (omega arith)
top_at (x ∷ []) zero len = refl
top_at (x ∷ []) (suc i) len = absurd (omega arith)
top_at (x ∷ y ∷ xs) zero len = absurd (omega arith)
top_at (x ∷ y ∷ xs) (suc i) len = top_at (y ∷ xs) i (omega arith)
