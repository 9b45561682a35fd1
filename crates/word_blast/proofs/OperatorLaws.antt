-- Each circuit but the product and the shifts gives the word that its operator gives.
use Rattle.std.proofs.Common.{◌≡◌, ℕ, zero, suc, ◌+◌, ◌-◌, ◌%◌, ◌^◌, ◌<◌, ◌≤◌, Bool, true, false, not, ◌&&◌, ◌||◌, cond, List, [], ◌∷◌, length, map, replicate, refl, sym, ap, ◌∙◌, subst, arith}
use Rattle.std.proofs.lemmas.List.{length-map, length-replicate}
use Rattle.aig_core.specs.Graph.{Graph, leaf_count, negation, value_of, IsLiteral, IsWellFormed, Gives}
use Rattle.aig_core.proofs.Values.{value_of-negation, value_of-zero, value_of-one, IsLiteral-negation, Extends-refl}
use Rattle.word_core.specs.Words.{bit, number_of, bits_of, each_bit, xor, any, all, odd, word_not, word_neg, word_add, word_sub, word_and, word_or, word_xor, word_xnor}
use Rattle.word_core.proofs.WordLaws.{bits_of-number, number_of-lt, word_not-is}
use Rattle.word_blast.specs.declared.loops.Op.{Op}
use Rattle.word_blast.specs.declared.loops.Op.TheVariants.{And, Or, Xor}
use Rattle.word_blast.specs.declared.loops.Comparison.TheVariants.{Equal, NotBelow}
use Rattle.word_blast.specs.Steps.{gate_of}
use Rattle.word_blast.specs.Words.{spelled, word_value, AreLiterals, GivesWord, value_1, value_2, reduced, equality, order, choice_of_words, each_pair, one_bit, circuit_not, circuit_and, circuit_or, circuit_xor, circuit_xnor, circuit_mux, circuit_any, circuit_all, circuit_odd, circuit_equal, top_negated, circuit_less, circuit_add, circuit_sub, circuit_neg}
use Rattle.word_blast.proofs.Combinators.{folded, number_from_bits, number_from_bit, word_as, negated_literals, spelled_width}
use Rattle.word_blast.proofs.GateLaws.{worth_of, borrow_bit, each_pair_gives, fold_word_gives, mux_word_gives, compare_words_gives}
use Rattle.word_blast.proofs.FoldLaws.{folded_or, folded_and, folded_xor, folded_equal, folded_less, spelled-top_negated, flipped_less}
use Rattle.word_blast.proofs.SumLaws.{sum_gives}
use Rattle.std.specs.List.{zip}

-- ---- bits and numbers of literals

pub spelled_bits : (g : Graph) (leaves : List Bool) (xs : List ℕ) (w : ℕ) → length xs ≡ w → bits_of w (word_value g leaves xs) ≡ spelled g leaves xs
spelled_bits g leaves xs w e = ap (λ (n : ℕ). bits_of n (word_value g leaves xs)) (sym e ∙ sym (spelled_width g leaves xs)) ∙ bits_of-number (spelled g leaves xs)

pub word_value-lt : (g : Graph) (leaves : List Bool) (xs : List ℕ) → word_value g leaves xs < 2 ^ length xs
word_value-lt g leaves xs = subst (λ (n : ℕ). word_value g leaves xs < 2 ^ n) (spelled_width g leaves xs) (number_of-lt (spelled g leaves xs))

-- the bits that a word's literals spell, where their number is known
pub bits_from_word : {g h : Graph} {rs : List ℕ} {n : ℕ} {v : List Bool → ℕ} → GivesWord g h rs n v → (leaves : List Bool) → length leaves ≡ leaf_count g → spelled h leaves rs ≡ bits_of n (v leaves)
bits_from_word {h = h} {rs = rs} {n = n} a leaves len = sym (spelled_bits h leaves rs n a.width_is) ∙ ap (bits_of n) (a.value leaves len)

-- ---- bitwise operators

spelled-negated : (g : Graph) (leaves : List Bool) (xs : List ℕ) → spelled g leaves (map negation xs) ≡ map not (spelled g leaves xs)
spelled-negated g leaves [] = refl
spelled-negated g leaves (x ∷ xs) = λ j. value_of-negation g leaves x j ∷ spelled-negated g leaves xs j

word_value-negated : (g : Graph) (leaves : List Bool) (xs : List ℕ) (w : ℕ) → length xs ≡ w → word_value g leaves (map negation xs) ≡ word_not w (word_value g leaves xs)
word_value-negated g leaves xs w e = ap number_of (spelled-negated g leaves xs) ∙ sym (ap (λ (bs : List Bool). number_of (map not bs)) (spelled_bits g leaves xs w e))

negated_gives : {g h : Graph} {rs : List ℕ} {n : ℕ} {v : List Bool → ℕ} → GivesWord g h rs n v → GivesWord g h (map negation rs) n (λ leaves. word_not n (v leaves))
negated_gives {g} {h} {rs} {n} a = record {
  extends = a.extends;
  well_formed = a.well_formed;
  width_is = length-map rs negation ∙ a.width_is;
  literals = negated_literals h rs a.literals;
  value = λ leaves len. word_value-negated h leaves rs n a.width_is ∙ ap (word_not n) (a.value leaves len);
}

itself : (g : Graph) (xs : List ℕ) → IsWellFormed g → AreLiterals g xs → GivesWord g g xs (length xs) (λ leaves. word_value g leaves xs)
itself g xs well lxs = record { extends = Extends-refl g; well_formed = well; width_is = refl; literals = lxs; value = λ leaves _. refl }

pub not_gives : (g : Graph) (xs : List ℕ) → IsWellFormed g → AreLiterals g xs → GivesWord g (circuit_not g xs).0 (circuit_not g xs).1 (length xs) (value_1 word_not g xs)
not_gives g xs well lxs = negated_gives (itself g xs well lxs)

module _ (g : Graph) (xs ys : List ℕ) (well : IsWellFormed g) (lxs : AreLiterals g xs) (lys : AreLiterals g ys) (len : length ys ≡ length xs) where
  bitwise_gives : (op : Op) → GivesWord g (each_pair (gate_of op) g xs ys).0 (each_pair (gate_of op) g xs ys).1 (length xs)
      (λ leaves. number_of (each_bit (worth_of op) (bits_of (length xs) (word_value g leaves xs)) (bits_of (length xs) (word_value g leaves ys))))
  bitwise_gives op =
      number_from_bits (λ leaves. number_of (each_bit (worth_of op) (bits_of (length xs) (word_value g leaves xs)) (bits_of (length xs) (word_value g leaves ys))))
      (each_pair_gives op g xs ys well lxs lys len)
      (λ leaves. λ j. number_of (each_bit (worth_of op) (sym (spelled_bits g leaves xs (length xs) refl) j) (sym (spelled_bits g leaves ys (length xs) len) j)))

  pub and_word_gives : GivesWord g (circuit_and g xs ys).0 (circuit_and g xs ys).1 (length xs) (value_2 word_and g xs ys)
  and_word_gives = bitwise_gives And

  pub or_word_gives : GivesWord g (circuit_or g xs ys).0 (circuit_or g xs ys).1 (length xs) (value_2 word_or g xs ys)
  or_word_gives = bitwise_gives Or

  pub xor_word_gives : GivesWord g (circuit_xor g xs ys).0 (circuit_xor g xs ys).1 (length xs) (value_2 word_xor g xs ys)
  xor_word_gives = bitwise_gives Xor

  pub xnor_word_gives : GivesWord g (circuit_xnor g xs ys).0 (circuit_xnor g xs ys).1 (length xs) (value_2 word_xnor g xs ys)
  xnor_word_gives = negated_gives xor_word_gives

  pub choice_gives : (c : ℕ) → IsLiteral g c → GivesWord g (circuit_mux g c xs ys).0 (circuit_mux g c xs ys).1 (length xs) (choice_of_words g c xs ys)
  choice_gives c lc = number_from_bits (choice_of_words g c xs ys) (mux_word_gives c g xs ys well lc lxs lys len) (λ leaves. by (value_of g leaves c) (spelled g leaves xs) (spelled g leaves ys))
    where
      by : (b : Bool) (ones others : List Bool) → number_of (cond b ones others) ≡ cond b (number_of ones) (number_of others)
      by true ones others = refl
      by false ones others = refl

  -- ---- comparisons

  widths_alike : (leaves : List Bool) → length (spelled g leaves ys) ≡ length (spelled g leaves xs)
  widths_alike leaves = spelled_width g leaves ys ∙ len ∙ sym (spelled_width g leaves xs)

  pub equal_gives : GivesWord g (one_bit (circuit_equal g xs ys)).0 (one_bit (circuit_equal g xs ys)).1 1 (equality g xs ys)
  equal_gives = number_from_bit (equality g xs ys) (compare_words_gives Equal g xs ys well lxs lys) (λ leaves. ap bit (folded_equal true (spelled g leaves xs) (spelled g leaves ys) (widths_alike leaves)))

  -- ---- sums

  pub add_gives : GivesWord g (circuit_add g xs ys).0 (circuit_add g xs ys).1 (length xs) (value_2 word_add g xs ys)
  add_gives = word_as (value_2 word_add g xs ys) (sum_gives g 0 xs ys well (omega arith) lxs lys len)
      (λ leaves. (λ j. (bit (value_of-zero g leaves j) + word_value g leaves xs + word_value g leaves ys) % 2 ^ length xs) ∙ no_carry (word_value g leaves xs) (word_value g leaves ys) (length xs))
    where
      no_carry : (m k n : ℕ) → (0 + m + k) % 2 ^ n ≡ (m + k) % 2 ^ n
      no_carry m k n = let same : 0 + m + k ≡ m + k = omega arith in ap (λ (z : ℕ). z % 2 ^ n) same

-- the carry makes a negated word its negative
less_by : (w a b n : ℕ) → b < 2 ^ w → n ≡ word_not w b → (1 + a + n) % 2 ^ w ≡ (a + (2 ^ w - b)) % 2 ^ w
less_by w a b n h e =
    let turned = word_not-is w b h in
    let same : 1 + a + n ≡ a + (2 ^ w - b) = omega arith in
    ap (λ (k : ℕ). k % 2 ^ w) same

pub sub_gives : (g : Graph) (xs ys : List ℕ) → IsWellFormed g → AreLiterals g xs → AreLiterals g ys → length ys ≡ length xs
    → GivesWord g (circuit_sub g xs ys).0 (circuit_sub g xs ys).1 (length xs) (value_2 word_sub g xs ys)
sub_gives g xs ys well lxs lys len =
    word_as (value_2 word_sub g xs ys) (sum_gives g 1 xs (map negation ys) well (omega arith) lxs (negated_literals g ys lys) (length-map ys negation ∙ len))
    (λ leaves.
    (λ j. (bit (value_of-one g leaves j) + word_value g leaves xs + word_value g leaves (map negation ys)) % 2 ^ length xs)
    ∙ less_by (length xs) (word_value g leaves xs) (word_value g leaves ys) _ (subst (λ (n : ℕ). word_value g leaves ys < 2 ^ n) len (word_value-lt g leaves ys)) (word_value-negated g leaves ys (length xs) len))

-- a word of one literal, repeated
pub AreLiterals-replicate : (g : Graph) (n x : ℕ) → IsLiteral g x → AreLiterals g (replicate n x)
AreLiterals-replicate g zero x lx = tt
AreLiterals-replicate g (suc n) x lx = (lx, AreLiterals-replicate g n x lx)

pub spelled-replicate : (g : Graph) (leaves : List Bool) (n x : ℕ) → spelled g leaves (replicate n x) ≡ replicate n (value_of g leaves x)
spelled-replicate g leaves zero x = refl
spelled-replicate g leaves (suc n) x = ap (λ (bs : List Bool). value_of g leaves x ∷ bs) (spelled-replicate g leaves n x)

pub number_of-zeros : (n : ℕ) → number_of (replicate n false) ≡ 0
number_of-zeros zero = refl
number_of-zeros (suc n) = omega (arith, number_of-zeros n)

pub word_value-zeros : (g : Graph) (leaves : List Bool) (n : ℕ) → word_value g leaves (replicate n 0) ≡ 0
word_value-zeros g leaves n = ap number_of (spelled-replicate g leaves n 0 ∙ ap (replicate n) (value_of-zero g leaves)) ∙ number_of-zeros n

pub neg_gives : (g : Graph) (xs : List ℕ) → IsWellFormed g → AreLiterals g xs → GivesWord g (circuit_neg g xs).0 (circuit_neg g xs).1 (length xs) (value_1 word_neg g xs)
neg_gives g xs well lxs =
    subst (λ (n : ℕ). GivesWord g (circuit_neg g xs).0 (circuit_neg g xs).1 n (value_1 word_neg g xs)) wide
    (word_as (value_1 word_neg g xs) (sum_gives g 1 (replicate (length xs) 0) (map negation xs) well (omega arith) (AreLiterals-replicate g (length xs) 0 (omega arith)) (negated_literals g xs lxs) (length-map xs negation ∙ sym wide))
    (λ leaves.
    (λ j. (bit (value_of-one g leaves j) + word_value-zeros g leaves (length xs) j + word_value g leaves (map negation xs)) % 2 ^ wide j)
    ∙ less_by (length xs) 0 (word_value g leaves xs) _ (word_value-lt g leaves xs) (word_value-negated g leaves xs (length xs) refl)
    ∙ none (2 ^ length xs - word_value g leaves xs) (2 ^ length xs)))
  where
    zeros : List ℕ
    zeros = replicate (length xs) 0

    wide : length zeros ≡ length xs
    wide = length-replicate (length xs) 0

    none : (m n : ℕ) → (0 + m) % n ≡ m % n
    none m n = let same : 0 + m ≡ m = omega arith in ap (λ (k : ℕ). k % n) same

-- ---- reductions

module _ (g : Graph) (xs : List ℕ) (well : IsWellFormed g) (lxs : AreLiterals g xs) where
  pub any_gives : GivesWord g (one_bit (circuit_any g xs)).0 (one_bit (circuit_any g xs)).1 1 (reduced any g xs)
  any_gives = number_from_bit (reduced any g xs) (fold_word_gives Or g 0 xs well (omega arith) lxs)
      (λ leaves. ap bit (folded_or (value_of g leaves 0) (spelled g leaves xs) ∙ ap (λ (b : Bool). b || any (spelled g leaves xs)) (value_of-zero g leaves)))

  pub all_gives : GivesWord g (one_bit (circuit_all g xs)).0 (one_bit (circuit_all g xs)).1 1 (reduced all g xs)
  all_gives = number_from_bit (reduced all g xs) (fold_word_gives And g 1 xs well (omega arith) lxs)
      (λ leaves. ap bit (folded_and (value_of g leaves 1) (spelled g leaves xs) ∙ ap (λ (b : Bool). b && all (spelled g leaves xs)) (value_of-one g leaves)))

  pub odd_gives : GivesWord g (one_bit (circuit_odd g xs)).0 (one_bit (circuit_odd g xs)).1 1 (reduced odd g xs)
  odd_gives = number_from_bit (reduced odd g xs) (fold_word_gives Xor g 0 xs well (omega arith) lxs)
      (λ leaves. ap bit (folded_xor (value_of g leaves 0) (spelled g leaves xs) ∙ ap (λ (b : Bool). xor b (odd (spelled g leaves xs))) (value_of-zero g leaves)))

-- ---- order

negation_gives : {g h : Graph} {r : ℕ} {v : List Bool → Bool} (w : List Bool → Bool) → Gives g h r v → ((leaves : List Bool) → not (v leaves) ≡ w leaves) → Gives g h (negation r) w
negation_gives {g} {h} {r} w a same = record {
  extends = a.extends;
  well_formed = a.well_formed;
  literal = IsLiteral-negation h r a.literal;
  value = λ leaves len. value_of-negation h leaves r ∙ ap not (a.value leaves len) ∙ same leaves;
}

pub top_negated_literals : (g : Graph) (xs : List ℕ) → AreLiterals g xs → AreLiterals g (top_negated xs)
top_negated_literals g [] l = tt
top_negated_literals g (x ∷ []) l = (IsLiteral-negation g x l.0, tt)
top_negated_literals g (x ∷ y ∷ xs) l = (l.0, top_negated_literals g (y ∷ xs) l.1)

module _ (g : Graph) (xs ys : List ℕ) (well : IsWellFormed g) (lxs : AreLiterals g xs) (lys : AreLiterals g ys) (len : length ys ≡ length xs) (some : 1 ≤ length xs) where
  pub less_gives : (signed : Bool) → GivesWord g (one_bit (circuit_less g signed xs ys)).0 (one_bit (circuit_less g signed xs ys)).1 1 (order signed g xs ys)
  less_gives false =
      number_from_bit (order false g xs ys)
      (negation_gives (λ leaves. _) (compare_words_gives NotBelow g xs ys well lxs lys)
      (λ leaves. folded_less (spelled g leaves xs) (spelled g leaves ys) (spelled_width g leaves ys ∙ len ∙ sym (spelled_width g leaves xs))))
      (λ leaves. refl)
  less_gives true =
      number_from_bit (order true g xs ys)
      (negation_gives (λ leaves. _) (compare_words_gives NotBelow g (top_negated xs) (top_negated ys) well (top_negated_literals g xs lxs) (top_negated_literals g ys lys))
      (λ leaves. (λ j. not (folded borrow_bit true (zip (spelled-top_negated g leaves xs j) (spelled-top_negated g leaves ys j))))
      ∙ flipped_less (spelled g leaves xs) (spelled g leaves ys) (length xs) some (spelled_width g leaves xs) (spelled_width g leaves ys ∙ len)))
      (λ leaves. refl)
