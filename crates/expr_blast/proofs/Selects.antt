-- What words equal to a number and selects give.
use Rattle.std.proofs.Common.{◌≡◌, ℕ, zero, suc, ◌-◌, ◌/◌, ◌%◌, ◌^◌, ◌<◌, ◌≤◌, nat_eq, nat_lt, Bool, true, false, not, ◌&&◌, ◌||◌, cond, Option, Some, None, List, [], ◌∷◌, length, refl, ap, ◌∙◌, ◌⊎◌, inl, inr, arith}
use Rattle.std.specs.Prelude.{IfSome, All}
use Rattle.std.proofs.lemmas.List.Elements.{All-from_recursion}
use Rattle.std.proofs.lemmas.Bool.{lt-ltb, le-ltb, cases_lt}
use Rattle.std.proofs.lemmas.Nat.{pow_pos}
use Rattle.std.proofs.Math.Nat.{pow-suc, mod-lt, lt_of_lt_of_le}
use Rattle.std.proofs.Math.Pow.{pow_mono}
use Rattle.aig_core.specs.Graph.{Graph, negation, and_of, value_of, IsLiteral, IsWellFormed, Gives}
use Rattle.aig_core.proofs.Values.{value_of-Extends, value_of-negation, value_of-zero, value_of-one, IsLiteral-Extends, IsLiteral-negation, Extends-refl, Extends-trans}
use Rattle.aig_core.proofs.AndLaw.{and_gives}
use Rattle.word_core.specs.Words.{all, word_neg}
use Rattle.word_blast.specs.declared.loops.Op.TheVariants.{And}
use Rattle.word_blast.specs.Bits.{or_of}
use Rattle.word_blast.specs.Words.{spelled, word_value, AreLiterals, GivesWord}
use Rattle.word_blast.proofs.BitLaws.{or_gives, kept_literal, kept_value, kept_leaves}
use Rattle.word_blast.proofs.Combinators.{AreLiterals-Extends, spelled-Extends, word_value-Extends, GivesBits, number_from_bits, recursion}
use Rattle.word_blast.proofs.GateLaws.{fold_word_gives}
use Rattle.word_blast.proofs.FoldLaws.{folded_and}
use Rattle.word_blast.proofs.OperatorLaws.{word_value-lt}
use Rattle.bit_exprs.specs.declared.forms.Window.{Window}
use Rattle.bit_exprs.specs.Values.{bit_where, listed, selected}
use Rattle.bit_exprs.specs.Indices.{up_of, down_of, code_of, is_code, names_place}
use Rattle.bit_exprs.proofs.IndexLaws.{names_code}
use Rattle.expr_blast.specs.Circuits.{matched, equal_to, place_of, bit_from, select_from}
use Rattle.expr_blast.proofs.Growing.{onwards_bit}
use Rattle.expr_blast.proofs.Numbers.{digit_same}

-- ---- equal to a number

matched_literals : (g : Graph) (xs : List ℕ) (j : ℕ) → AreLiterals g xs → AreLiterals g (matched xs j)
matched_literals g [] j l = tt
matched_literals g (x ∷ xs) j l = (by (nat_eq (j % 2) 1), matched_literals g xs (j / 2) l.1)
  where
    by : (b : Bool) → IsLiteral g (cond b x (negation x))
    by true = l.0
    by false = IsLiteral-negation g x l.0

pub matched_exist : (g : Graph) (xs : List ℕ) (j : ℕ) → All (IsLiteral g) xs → All (IsLiteral g) (matched xs j)
matched_exist g xs j l = All-from_recursion (IsLiteral g) (matched xs j) (matched_literals g xs j (recursion g xs l))

matched_bit : (g : Graph) (leaves : List Bool) (b : Bool) (x : ℕ) → value_of g leaves (cond b x (negation x)) ≡ cond b (value_of g leaves x) (not (value_of g leaves x))
matched_bit g leaves true x = refl
matched_bit g leaves false x = value_of-negation g leaves x

matched_is : (g : Graph) (leaves : List Bool) (xs : List ℕ) (j : ℕ) → j < 2 ^ length xs → all (spelled g leaves (matched xs j)) ≡ nat_eq j (word_value g leaves xs)
matched_is g leaves [] j lt = let none : j ≡ 0 = omega arith in rw none refl
matched_is g leaves (x ∷ xs) j lt =
    (λ i. matched_bit g leaves (nat_eq (j % 2) 1) x i && matched_is g leaves xs (j / 2) (omega (arith, pow-suc 2 (length xs))) i)
    ∙ digit_same j (word_value g leaves xs) (value_of g leaves x)

zero_gives : (g : Graph) → IsWellFormed g → Gives g g 0 (λ leaves. false)
zero_gives g well = record { extends = Extends-refl g; well_formed = well; literal = omega arith; value = λ leaves len. value_of-zero g leaves }

pub equal_gives : (g : Graph) (xs : List ℕ) (code : Option ℕ) → IsWellFormed g → AreLiterals g xs → IfSome code (λ j. j < 2 ^ length xs) →
    Gives g (equal_to g xs code).0 (equal_to g xs code).1 (λ leaves. is_code code (word_value g leaves xs))
equal_gives g xs None well lxs fits = zero_gives g well
equal_gives g xs (Some j) well lxs fits =
    onwards_bit (λ leaves. nat_eq j (word_value g leaves xs)) (Extends-refl g) (fold_word_gives And g 1 (matched xs j) well (omega arith) (matched_literals g xs j lxs))
    (λ leaves len. folded_and (value_of g leaves 1) (spelled g leaves (matched xs j)) ∙ ap (λ b. b && all (spelled g leaves (matched xs j))) (value_of-one g leaves) ∙ matched_is g leaves xs j fits)

-- ---- indices fit

fits_below : (m l w : ℕ) → l ≤ w → IfSome (cond (nat_lt m (2 ^ l)) (Some m) None) (λ j. j < 2 ^ w)
fits_below m l w le = by (cases_lt m (2 ^ l))
  where
    by : (m < 2 ^ l) ⊎ (2 ^ l ≤ m) → IfSome (cond (nat_lt m (2 ^ l)) (Some m) None) (λ j. j < 2 ^ w)
    by (inl y) = rw (lt-ltb m (2 ^ l) y) (lt_of_lt_of_le y (pow_mono le))
    by (inr n) = rw (le-ltb m (2 ^ l) n) tt

fits_unless : (b : Bool) (j w : ℕ) → j < 2 ^ w → IfSome (cond b None (Some j)) (λ k. k < 2 ^ w)
fits_unless true j w lt = tt
fits_unless false j w lt = lt

pub code_fits : (w : ℕ) (signed : Bool) (up down : ℕ) → IfSome (code_of w signed up down) (λ j. j < 2 ^ w)
code_fits w signed up down = by (nat_lt up down) signed
  where
    by : (b s : Bool) →
        IfSome (cond b (cond s (cond (nat_lt (2 ^ (w - 1)) (down - up)) None (Some (word_neg w (down - up)))) None) (cond (nat_lt (up - down) (2 ^ cond s (w - 1) w)) (Some (up - down)) None)) (λ j. j < 2 ^ w)
    by true true = fits_unless (nat_lt (2 ^ (w - 1)) (down - up)) (word_neg w (down - up)) w (mod-lt (2 ^ w - (down - up)) (pow_pos w))
    by true false = tt
    by false true = fits_below (up - down) (w - 1) w (omega arith)
    by false false = fits_below (up - down) w w (omega arith)

-- a number is the index of a place
pub named : (window : Window) (signed : Bool) (index : List ℕ) (k p : ℕ) (number : Option ℕ) (up down : ℕ) {g h : Graph} {r : ℕ} → 1 ≤ length index → up ≡ up_of window k p → down ≡ down_of window k p → number ≡ code_of (length index) signed up down →
    Gives g h r (λ leaves. is_code number (word_value g leaves index)) → Gives g h r (λ leaves. names_place window (length index) signed (word_value g leaves index) k p)
named window signed index k p number up down {g} some eu ed e a =
    onwards_bit (λ leaves. names_place window (length index) signed (word_value g leaves index) k p) (Extends-refl g) a
    (λ leaves len.
    ap (λ n. is_code n (word_value g leaves index)) (e ∙ (λ j. code_of (length index) signed (eu j) (ed j)))
    ∙ names_code window (length index) signed (word_value g leaves index) k p some (word_value-lt g leaves index))

pub place_gives : (window : Window) (signed : Bool) (index : List ℕ) (k p : ℕ) (g : Graph) → IsWellFormed g → AreLiterals g index → 1 ≤ length index →
    Gives g (place_of window signed index k p g).0 (place_of window signed index k p g).1 (λ leaves. names_place window (length index) signed (word_value g leaves index) k p)
place_gives window signed index k p g well l some =
    named window signed index k p (code_of (length index) signed (up_of window k p) (down_of window k p)) (up_of window k p) (down_of window k p) some refl refl refl
    (equal_gives g index (code_of (length index) signed (up_of window k p) (down_of window k p)) well l (code_fits (length index) signed (up_of window k p) (down_of window k p)))

-- ---- selects

or_none : (a : Bool) → a ≡ (a || false)
or_none true = refl
or_none false = refl

or_one_more : (a b c : Bool) → ((a || b) || c) ≡ (a || (b || c))
or_one_more true b c = refl
or_one_more false b c = refl

module _ (window : Window) (signed : Bool) (index : List ℕ) (some : 1 ≤ length index) where
  -- the index puts bit k at place p
  abbrev names : ℕ → ℕ → Graph → List Bool → Bool
  names k p g leaves = names_place window (length index) signed (word_value g leaves index) k p

  -- bit k of what is selected of the literals, the first of which is at place p
  abbrev shown : ℕ → Graph → ℕ → List ℕ → List Bool → Bool
  shown k g p xs leaves = bit_where (names_place window (length index) signed (word_value g leaves index) k) p (spelled g leaves xs)

  abbrev step_of : ℕ → Graph → ℕ → ℕ → ℕ → Graph × ℕ
  step_of k g e p x =
      let here = place_of window signed index k p g in
      let both = and_of here.0 here.1 x in
      or_of both.0 e both.1

  step_gives : (k : ℕ) (g : Graph) (e p x : ℕ) → IsWellFormed g → AreLiterals g index → IsLiteral g e → IsLiteral g x →
      Gives g (step_of k g e p x).0 (step_of k g e p x).1 (λ leaves. value_of g leaves e || (names k p g leaves && value_of g leaves x))
  step_gives k g e p x well li le lx =
      let here : Graph × ℕ = place_of window signed index k p g in
      let both : Graph × ℕ = and_of here.0 here.1 x in
      let one : Gives g here.0 here.1 (names k p g) = place_gives window signed index k p g well li some in
      let two : Gives g both.0 both.1 (λ leaves. names k p g leaves && value_of g leaves x)
      = onwards_bit (λ leaves. names k p g leaves && value_of g leaves x) one.extends (and_gives here.0 here.1 x one.well_formed one.literal (kept_literal one x lx))
      (λ leaves len. λ j. one.value leaves len j && kept_value one x lx leaves len j) in
      onwards_bit (λ leaves. value_of g leaves e || (names k p g leaves && value_of g leaves x)) two.extends (or_gives both.0 e both.1 two.well_formed (kept_literal two e le) two.literal)
      (λ leaves len. λ j. kept_value two e le leaves len j || two.value leaves len j)

  bit_from_gives : (k : ℕ) (g : Graph) (e p : ℕ) (xs : List ℕ) → IsWellFormed g → AreLiterals g index → IsLiteral g e → AreLiterals g xs →
      Gives g (bit_from window signed index k g e p xs).0 (bit_from window signed index k g e p xs).1 (λ leaves. value_of g leaves e || shown k g p xs leaves)
  unfolding bit_from
  bit_from_gives k g e p [] well li le lxs = record { extends = Extends-refl g; well_formed = well; literal = le; value = λ leaves len. or_none (value_of g leaves e) }
  bit_from_gives k g e p (x ∷ xs) well li le lxs =
      let more : Graph × ℕ = step_of k g e p x in
      let one : Gives g more.0 more.1 (λ leaves. value_of g leaves e || (names k p g leaves && value_of g leaves x)) = step_gives k g e p x well li le lxs.0 in
      onwards_bit (λ leaves. value_of g leaves e || shown k g p (x ∷ xs) leaves) one.extends
      (bit_from_gives k more.0 more.1 (suc p) xs one.well_formed (AreLiterals-Extends g more.0 index one.extends li) one.literal (AreLiterals-Extends g more.0 xs one.extends lxs.1))
      (λ leaves len.
      (λ j. one.value leaves len j || bit_where (names_place window (length index) signed (word_value-Extends g more.0 leaves index one.extends len li j) k) (suc p) (spelled-Extends g more.0 leaves xs one.extends len lxs.1 j))
      ∙ or_one_more (value_of g leaves e) (names k p g leaves && value_of g leaves x) (shown k g (suc p) xs leaves))

  -- a bit of what is selected
  pub selected_gives : (k : ℕ) (g : Graph) (vector : List ℕ) → IsWellFormed g → AreLiterals g index → AreLiterals g vector →
      Gives g (bit_from window signed index k g 0 0 vector).0 (bit_from window signed index k g 0 0 vector).1 (shown k g 0 vector)
  selected_gives k g vector well li lv =
      onwards_bit (shown k g 0 vector) (Extends-refl g) (bit_from_gives k g 0 0 vector well li (omega arith) lv) (λ leaves len. ap (λ b. b || shown k g 0 vector leaves) (value_of-zero g leaves))

  select_from_gives : (vector : List ℕ) (g : Graph) (k n : ℕ) → IsWellFormed g → AreLiterals g index → AreLiterals g vector →
      GivesBits g (select_from window signed index vector g k n).0 (select_from window signed index vector g k n).1 n (λ leaves. listed (λ i. shown i g 0 vector leaves) k n)
  unfolding select_from
  select_from_gives vector g k zero well li lv = record { extends = Extends-refl g; well_formed = well; width_is = refl; literals = tt; bits = λ leaves len. refl }
  select_from_gives vector g k (suc n) well li lv =
      let x : Graph × ℕ = bit_from window signed index k g 0 0 vector in
      let one : Gives g x.0 x.1 (shown k g 0 vector) = selected_gives k g vector well li lv in
      let rest = select_from_gives vector x.0 (suc k) n one.well_formed (AreLiterals-Extends g x.0 index one.extends li) (AreLiterals-Extends g x.0 vector one.extends lv) in
      record {
        extends = Extends-trans g x.0 _ one.extends rest.extends;
        well_formed = rest.well_formed;
        width_is = ap suc rest.width_is;
        literals = (IsLiteral-Extends x.0 _ x.1 rest.extends one.literal, rest.literals);
        bits = λ leaves len.
            let lh = kept_leaves one leaves len in
            λ j. (value_of-Extends x.0 _ leaves x.1 rest.extends lh one.literal ∙ one.value leaves len) j
            ∷ (rest.bits leaves lh
            ∙ (λ i. listed (λ m. bit_where (names_place window (length index) signed (word_value-Extends g x.0 leaves index one.extends len li i) m) 0 (spelled-Extends g x.0 leaves vector one.extends len lv i)) (suc k) n)) j;
      }

  pub select_gives : (vector : List ℕ) (g : Graph) → IsWellFormed g → AreLiterals g index → AreLiterals g vector →
      GivesWord g (select_from window signed index vector g 0 window.count).0 (select_from window signed index vector g 0 window.count).1 window.count
      (λ leaves. selected window (spelled g leaves vector) (length index) signed (word_value g leaves index))
  select_gives vector g well li lv =
      number_from_bits (λ leaves. selected window (spelled g leaves vector) (length index) signed (word_value g leaves index)) (select_from_gives vector g 0 window.count well li lv) (λ leaves. refl)
