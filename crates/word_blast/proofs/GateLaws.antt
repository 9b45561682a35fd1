-- What the builders that the loops take give.
use Rattle.std.proofs.Common.{◌≡◌, ℕ, Bool, true, false, not, ◌&&◌, ◌||◌, cond, List, [], ◌∷◌, length, map, refl, sym, ap, ◌∙◌, subst, arith}
use Rattle.std.specs.List.{All, AllByRecursion, zip}
use Rattle.std.proofs.lemmas.Slice.Zip.{length-zip}
use Rattle.aig_core.specs.Graph.{Graph, negation, and_of, value_of, both, IsLiteral, IsWellFormed, Gives}
use Rattle.aig_core.proofs.Values.{value_of-Extends, value_of-negation, value_of-one, IsLiteral-negation, IsLiteral-Extends, Extends-trans}
use Rattle.aig_core.proofs.AndLaw.{and_gives}
use Rattle.word_core.specs.Words.{xor, each_bit}
use Rattle.word_blast.specs.declared.loops.Op.{Op}
use Rattle.word_blast.specs.declared.loops.Op.TheVariants.{And, Or, Xor}
use Rattle.word_blast.specs.declared.loops.Comparison.{Comparison}
use Rattle.word_blast.specs.declared.loops.Comparison.TheVariants.{Equal, NotBelow}
use Rattle.word_blast.specs.Bits.{xor_of, or_of_ands, mux_of, one_of, choice}
use Rattle.word_blast.specs.Steps.{gate_of, compare_of}
use Rattle.word_blast.specs.Words.{spelled, AreLiterals, fold_of, at_pair, each_pair, circuit_mux, equal_step, borrow_step}
use Rattle.word_blast.proofs.BitLaws.{or_gives, or_of_ands_gives, xor_gives, mux_gives, kept_value, kept_literal, kept_leaves}
use Rattle.word_blast.proofs.Combinators.{IsBuilder, each_gives, GivesBits, bits_exist, IsFolder, fold_gives, folded, ArePair, pair_kept, pairs_exist, read_pair, pairs_read, recursion}

-- ---- from two bits

abbrev pub worth_of : Op → Bool → Bool → Bool
worth_of And = ◌&&◌
worth_of Or = ◌||◌
worth_of Xor = xor

pub gate_gives : (op : Op) (g : Graph) (x y : ℕ) → IsWellFormed g → IsLiteral g x → IsLiteral g y
    → Gives g (gate_of op g x y).0 (gate_of op g x y).1 (λ leaves. worth_of op (value_of g leaves x) (value_of g leaves y))
gate_gives And g x y well lx ly = and_gives g x y well lx ly
gate_gives Or g x y well lx ly = or_gives g x y well lx ly
gate_gives Xor g x y well lx ly = xor_gives g x y well lx ly

gate_builder : (op : Op) → IsBuilder (at_pair (gate_of op)) ArePair (λ (g : Graph) (p : ℕ × ℕ) (leaves : List Bool). worth_of op (value_of g leaves p.0) (value_of g leaves p.1))
gate_builder op = record {
  good = pair_kept;
  worth = λ g h p leaves e len l. λ j. worth_of op (value_of-Extends g h leaves p.0 e len l.0 j) (value_of-Extends g h leaves p.1 e len l.1 j);
  gives = λ g p well l. gate_gives op g p.0 p.1 well l.0 l.1;
}

gate_folder : (op : Op) → IsFolder (gate_of op) IsLiteral (λ (g : Graph) (leaves : List Bool) (x : ℕ). value_of g leaves x) (worth_of op)
gate_folder op = record {
  good = IsLiteral-Extends;
  reads = λ g h x leaves e len l. value_of-Extends g h leaves x e len l;
  gives = λ g e x well le lx. gate_gives op g e x well le lx;
}

zip_bits : (f : Bool → Bool → Bool) (v : ℕ → Bool) (xs ys : List ℕ) → map (λ (p : ℕ × ℕ). f (v p.0) (v p.1)) (zip xs ys) ≡ each_bit f (map v xs) (map v ys)
zip_bits f v [] ys = refl
zip_bits f v (x ∷ xs) [] = refl
zip_bits f v (x ∷ xs) (y ∷ ys) = ap (λ (bs : List Bool). f (v x) (v y) ∷ bs) (zip_bits f v xs ys)

zip_width : (xs ys : List ℕ) → length ys ≡ length xs → length (zip xs ys) ≡ length xs
zip_width xs ys e = omega (arith, length-zip xs ys)

module _ (op : Op) (g : Graph) (xs ys : List ℕ) (well : IsWellFormed g) (lxs : AreLiterals g xs) (lys : AreLiterals g ys) (len : length ys ≡ length xs) where
  pub each_pair_gives : GivesBits g (each_pair (gate_of op) g xs ys).0 (each_pair (gate_of op) g xs ys).1 (length xs) (λ leaves. each_bit (worth_of op) (spelled g leaves xs) (spelled g leaves ys))
  each_pair_gives =
      let a = each_gives (at_pair (gate_of op)) ArePair (λ (g : Graph) (p : ℕ × ℕ) (leaves : List Bool). worth_of op (value_of g leaves p.0) (value_of g leaves p.1)) (gate_builder op) g (zip xs ys) well (pairs_exist g xs ys lxs lys) in
      record {
        extends = a.extends;
        well_formed = a.well_formed;
        width_is = a.width_is ∙ zip_width xs ys len;
        literals = a.literals;
        bits = λ leaves l. a.bits leaves l ∙ zip_bits (worth_of op) (value_of g leaves) xs ys;
      }

pub fold_word_gives : (op : Op) (g : Graph) (e : ℕ) (xs : List ℕ) → IsWellFormed g → IsLiteral g e → AreLiterals g xs
    → Gives g (fold_of (gate_of op) g e xs).0 (fold_of (gate_of op) g e xs).1 (λ leaves. folded (worth_of op) (value_of g leaves e) (spelled g leaves xs))
fold_word_gives op g e xs well le lxs = fold_gives (gate_of op) IsLiteral (λ (g : Graph) (leaves : List Bool) (x : ℕ). value_of g leaves x) (worth_of op) (gate_folder op) g e xs well le lxs

-- ---- choice

abbrev AreChoosable : ℕ → Graph → ℕ × ℕ → Type 0
AreChoosable c g p = IsLiteral g c × IsLiteral g p.0 × IsLiteral g p.1

mux_builder : (c : ℕ) → IsBuilder (at_pair (λ (h : Graph) (x y : ℕ). mux_of h c x y)) (AreChoosable c) (λ (g : Graph) (p : ℕ × ℕ) (leaves : List Bool). choice g c p.0 p.1 leaves)
mux_builder c = record {
  good = λ g h p e l. (IsLiteral-Extends g h c e l.0, IsLiteral-Extends g h p.0 e l.1, IsLiteral-Extends g h p.1 e l.2);
  worth = λ g h p leaves e len l. λ j. cond (value_of-Extends g h leaves c e len l.0 j) (value_of-Extends g h leaves p.0 e len l.1 j) (value_of-Extends g h leaves p.1 e len l.2 j);
  gives = λ g p well l. mux_gives g c p.0 p.1 well l.0 l.1 l.2;
}

choosable : (c : ℕ) (g : Graph) (xs ys : List ℕ) → IsLiteral g c → AreLiterals g xs → AreLiterals g ys → AllByRecursion (AreChoosable c g) (zip xs ys)
choosable c g [] ys lc lxs lys = tt
choosable c g (x ∷ xs) [] lc lxs lys = tt
choosable c g (x ∷ xs) (y ∷ ys) lc lxs lys = ((lc, lxs.0, lys.0), choosable c g xs ys lc lxs.1 lys.1)

chosen_bits : (b : Bool) (v : ℕ → Bool) (xs ys : List ℕ) → length ys ≡ length xs → map (λ (p : ℕ × ℕ). cond b (v p.0) (v p.1)) (zip xs ys) ≡ cond b (map v xs) (map v ys)
chosen_bits true v [] [] e = refl
chosen_bits false v [] [] e = refl
chosen_bits b v [] (y ∷ ys) e = absurd (omega arith)
chosen_bits b v (x ∷ xs) [] e = absurd (omega arith)
chosen_bits true v (x ∷ xs) (y ∷ ys) e = ap (λ (bs : List Bool). v x ∷ bs) (chosen_bits true v xs ys (omega arith))
chosen_bits false v (x ∷ xs) (y ∷ ys) e = ap (λ (bs : List Bool). v y ∷ bs) (chosen_bits false v xs ys (omega arith))

module _ (c : ℕ) (g : Graph) (xs ys : List ℕ) (well : IsWellFormed g) (lc : IsLiteral g c) (lxs : AreLiterals g xs) (lys : AreLiterals g ys) (len : length ys ≡ length xs) where
  pub mux_word_gives : GivesBits g (circuit_mux g c xs ys).0 (circuit_mux g c xs ys).1 (length xs) (λ leaves. cond (value_of g leaves c) (spelled g leaves xs) (spelled g leaves ys))
  mux_word_gives =
      let a = each_gives (at_pair (λ (h : Graph) (x y : ℕ). mux_of h c x y)) (AreChoosable c) (λ (g : Graph) (p : ℕ × ℕ) (leaves : List Bool). choice g c p.0 p.1 leaves) (mux_builder c) g (zip xs ys) well (choosable c g xs ys lc lxs lys) in
      record {
        extends = a.extends;
        well_formed = a.well_formed;
        width_is = a.width_is ∙ zip_width xs ys len;
        literals = a.literals;
        bits = λ leaves l. a.bits leaves l ∙ chosen_bits (value_of g leaves c) (value_of g leaves) xs ys len;
      }

-- ---- comparisons

abbrev pub equal_bit : Bool → Bool × Bool → Bool
equal_bit b p = b && not (xor p.0 p.1)

-- the carry of one bit less another
abbrev pub borrow_bit : Bool → Bool × Bool → Bool
borrow_bit c p = (p.0 && not p.1) || (xor p.0 (not p.1) && c)

abbrev pub compared : Comparison → Bool → Bool × Bool → Bool
compared Equal = equal_bit
compared NotBelow = borrow_bit

module _ (g : Graph) (e x y : ℕ) (well : IsWellFormed g) (le : IsLiteral g e) (lx : IsLiteral g x) (ly : IsLiteral g y) where
  equal_step_gives : Gives g (equal_step g e (x, y)).0 (equal_step g e (x, y)).1 (λ leaves. equal_bit (value_of g leaves e) (value_of g leaves x, value_of g leaves y))
  unfolding equal_step
  equal_step_gives =
      let d : Graph × ℕ = xor_of g x y in
      let q : Graph × ℕ = and_of d.0 e (negation d.1) in
      let one : Gives g d.0 d.1 (one_of g x y) = xor_gives g x y well lx ly in
      let two : Gives d.0 q.0 q.1 (both d.0 e (negation d.1)) = and_gives d.0 e (negation d.1) one.well_formed (kept_literal one e le) (IsLiteral-negation d.0 d.1 one.literal) in
      record {
        extends = Extends-trans g d.0 q.0 one.extends two.extends;
        well_formed = two.well_formed;
        literal = two.literal;
        value = λ leaves len.
            two.value leaves (kept_leaves one leaves len)
            ∙ (λ j. kept_value one e le leaves len j && (value_of-negation d.0 leaves d.1 ∙ ap not (one.value leaves len)) j);
      }

  borrow_step_gives : Gives g (borrow_step g e (x, y)).0 (borrow_step g e (x, y)).1 (λ leaves. borrow_bit (value_of g leaves e) (value_of g leaves x, value_of g leaves y))
  unfolding borrow_step
  borrow_step_gives =
      let ny : ℕ = negation y in
      let lny : IsLiteral g ny = IsLiteral-negation g y ly in
      let d : Graph × ℕ = xor_of g x ny in
      let r : Graph × ℕ = or_of_ands d.0 x ny d.1 e in
      let one : Gives g d.0 d.1 (one_of g x ny) = xor_gives g x ny well lx lny in
      let two : Gives d.0 r.0 r.1 (λ leaves. (value_of d.0 leaves x && value_of d.0 leaves ny) || (value_of d.0 leaves d.1 && value_of d.0 leaves e))
      = or_of_ands_gives d.0 x ny d.1 e one.well_formed (kept_literal one x lx) (kept_literal one ny lny) one.literal (kept_literal one e le) in
      record {
        extends = Extends-trans g d.0 r.0 one.extends two.extends;
        well_formed = two.well_formed;
        literal = two.literal;
        value = λ leaves len.
            two.value leaves (kept_leaves one leaves len)
            ∙ (λ j. (kept_value one x lx leaves len j && (kept_value one ny lny leaves len ∙ value_of-negation g leaves y) j)
            || ((one.value leaves len ∙ ap (xor (value_of g leaves x)) (value_of-negation g leaves y)) j && kept_value one e le leaves len j));
      }

compare_gives : (k : Comparison) (g : Graph) (e : ℕ) (p : ℕ × ℕ) → IsWellFormed g → IsLiteral g e → ArePair g p
    → Gives g (compare_of k g e p).0 (compare_of k g e p).1 (λ leaves. compared k (value_of g leaves e) (read_pair g leaves p))
compare_gives Equal g e p well le l = equal_step_gives g e p.0 p.1 well le l.0 l.1
compare_gives NotBelow g e p well le l = borrow_step_gives g e p.0 p.1 well le l.0 l.1

compare_folder : (k : Comparison) → IsFolder (compare_of k) ArePair read_pair (compared k)
compare_folder k = record {
  good = pair_kept;
  reads = λ g h p leaves e len l. λ j. (value_of-Extends g h leaves p.0 e len l.0 j, value_of-Extends g h leaves p.1 e len l.1 j);
  gives = compare_gives k;
}

module _ (k : Comparison) (g : Graph) (xs ys : List ℕ) (well : IsWellFormed g) (lxs : AreLiterals g xs) (lys : AreLiterals g ys) where
  pub compare_words_gives : Gives g (fold_of (compare_of k) g 1 (zip xs ys)).0 (fold_of (compare_of k) g 1 (zip xs ys)).1 (λ leaves. folded (compared k) true (zip (spelled g leaves xs) (spelled g leaves ys)))
  compare_words_gives =
      let a = fold_gives (compare_of k) ArePair read_pair (compared k) (compare_folder k) g 1 (zip xs ys) well (omega arith) (pairs_exist g xs ys lxs lys) in
      record {
        extends = a.extends;
        well_formed = a.well_formed;
        literal = a.literal;
        value = λ leaves len. a.value leaves len ∙ (λ j. folded (compared k) (value_of-one g leaves j) (pairs_read g leaves xs ys j));
      }

-- ---- at what the code made

pub each_exist : (op : Op) (g h : Graph) (xs ys rs : List ℕ) → IsWellFormed g → All (IsLiteral g) xs → All (IsLiteral g) ys → length ys ≡ length xs → (h, rs) ≡ each_pair (gate_of op) g xs ys → All (IsLiteral h) rs × (length rs ≡ length xs)
each_exist op g h xs ys rs well lxs lys len e =
    let a = each_pair_gives op g xs ys well (recursion g xs lxs) (recursion g ys lys) len in
    subst (λ (p : Graph × List ℕ). All (IsLiteral p.0) p.1 × (length p.1 ≡ length xs)) (sym e) (bits_exist a, a.width_is)

pub mux_exist : (c : ℕ) (g h : Graph) (xs ys rs : List ℕ) → IsWellFormed g → IsLiteral g c → All (IsLiteral g) xs → All (IsLiteral g) ys → length ys ≡ length xs → (h, rs) ≡ circuit_mux g c xs ys → All (IsLiteral h) rs × (length rs ≡ length xs)
mux_exist c g h xs ys rs well lc lxs lys len e =
    let a = mux_word_gives c g xs ys well lc (recursion g xs lxs) (recursion g ys lys) len in
    subst (λ (p : Graph × List ℕ). All (IsLiteral p.0) p.1 × (length p.1 ≡ length xs)) (sym e) (bits_exist a, a.width_is)
