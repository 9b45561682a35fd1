-- What the combinators give, for any builder of one bit.
use Rattle.std.proofs.Common.{◌≡◌, ℕ, suc, ◌+◌, ◌*◌, ◌<◌, ◌≤◌, Bool, List, [], ◌∷◌, ◌++◌, append_assoc, length, get_or, drop, map, refl, sym, ap, ◌∙◌, subst, arith}
use Rattle.std.specs.List.{All, AllByRecursion, zip}
use Rattle.std.proofs.lemmas.List.{append-nil, drop_more, drop_all, length-map}
use Rattle.std.proofs.lemmas.List.Elements.{recursion_from_All, All-from_recursion}
use Rattle.aig_core.specs.Graph.{Graph, leaf_count, negation, value_of, IsLiteral, IsWellFormed, Extends, KeepsValues, Gives}
use Rattle.aig_core.proofs.Values.{value_of-Extends, IsLiteral-negation, IsLiteral-Extends, Extends-refl, Extends-trans}
use Rattle.word_core.specs.Words.{bit, number_of}
use Rattle.word_blast.specs.Words.{spelled, word_value, AreLiterals, GivesWord, each_of, fold_of}
use Rattle.word_blast.proofs.BitLaws.{kept_leaves}

-- ---- words in a graph that grows

pub AreLiterals-Extends : (g h : Graph) (xs : List ℕ) → Extends g h → AreLiterals g xs → AreLiterals h xs
AreLiterals-Extends g h [] e l = tt
AreLiterals-Extends g h (x ∷ xs) e l = (IsLiteral-Extends g h x e l.0, AreLiterals-Extends g h xs e l.1)

pub All-literals-Extends : (g h : Graph) (xs : List ℕ) → Extends g h → All (IsLiteral g) xs → All (IsLiteral h) xs
All-literals-Extends g h xs e l = λ k d lt. IsLiteral-Extends g h (get_or xs k d) e (l k d lt)

pub spelled-Extends : (g h : Graph) (leaves : List Bool) (xs : List ℕ) → Extends g h → length leaves ≡ leaf_count g → AreLiterals g xs → spelled h leaves xs ≡ spelled g leaves xs
spelled-Extends g h leaves [] e len l = refl
spelled-Extends g h leaves (x ∷ xs) e len l = λ j. value_of-Extends g h leaves x e len l.0 j ∷ spelled-Extends g h leaves xs e len l.1 j

pub word_value-Extends : (g h : Graph) (leaves : List Bool) (xs : List ℕ) → Extends g h → length leaves ≡ leaf_count g → AreLiterals g xs → word_value h leaves xs ≡ word_value g leaves xs
word_value-Extends g h leaves xs e len l = ap number_of (spelled-Extends g h leaves xs e len l)

pub leaves-Extends : (g h : Graph) (leaves : List Bool) → Extends g h → length leaves ≡ leaf_count g → length leaves ≡ leaf_count h
leaves-Extends g h leaves e len = omega (arith, e.inputs, e.states)

pub keeps_values : (g h : Graph) → Extends g h → KeepsValues g h
keeps_values g h e leaves len x lx = value_of-Extends g h leaves x e len lx

-- what shows that words last and old literals keep their values
pub ruleset lasting = (All-literals-Extends, keeps_values)

-- ---- words of bits

-- the new graph was made from the old one, and has literals rs that spell the bits v of the leaves
pub record GivesBits (old new : Graph) (rs : List ℕ) (width : ℕ) (v : List Bool → List Bool) : Type 0 where
  pub extends : Extends old new
  pub well_formed : IsWellFormed new
  pub width_is : length rs ≡ width
  pub literals : AreLiterals new rs
  pub bits : (leaves : List Bool) → length leaves ≡ leaf_count old → spelled new leaves rs ≡ v leaves

pub number_from_bits : {g h : Graph} {rs : List ℕ} {n : ℕ} {v : List Bool → List Bool} (w : List Bool → ℕ) → GivesBits g h rs n v → ((leaves : List Bool) → number_of (v leaves) ≡ w leaves) → GivesWord g h rs n w
number_from_bits w a same = record {
  extends = a.extends;
  well_formed = a.well_formed;
  width_is = a.width_is;
  literals = a.literals;
  value = λ leaves len. ap number_of (a.bits leaves len) ∙ same leaves;
}

pub number_from_bit : {g h : Graph} {r : ℕ} {v : List Bool → Bool} (w : List Bool → ℕ) → Gives g h r v → ((leaves : List Bool) → bit (v leaves) ≡ w leaves) → GivesWord g h (r ∷ []) 1 w
number_from_bit w a same = record {
  extends = a.extends;
  well_formed = a.well_formed;
  width_is = refl;
  literals = (a.literal, tt);
  value = λ leaves len. low _ ∙ ap bit (a.value leaves len) ∙ same leaves;
}
  where
    low : (b : Bool) → bit b + 2 * 0 ≡ bit b
    low b = omega arith

pub word_as : {g h : Graph} {rs : List ℕ} {n : ℕ} {v : List Bool → ℕ} (w : List Bool → ℕ) → GivesWord g h rs n v → ((leaves : List Bool) → v leaves ≡ w leaves) → GivesWord g h rs n w
word_as w a same = record {
  extends = a.extends;
  well_formed = a.well_formed;
  width_is = a.width_is;
  literals = a.literals;
  value = λ leaves len. a.value leaves len ∙ same leaves;
}

-- at what the code made
pub word_at : {g h : Graph} {rs : List ℕ} {p : Graph × List ℕ} {n : ℕ} {v : List Bool → ℕ} → (h, rs) ≡ p → GivesWord g p.0 p.1 n v → GivesWord g h rs n v
word_at {g} {h} {rs} {p} {n} {v} e a = subst (λ (q : Graph × List ℕ). GivesWord g q.0 q.1 n v) (sym e) a

pub literals_exist : {g h : Graph} {rs : List ℕ} {n : ℕ} {v : List Bool → ℕ} → GivesWord g h rs n v → All (IsLiteral h) rs
literals_exist {h = h} {rs = rs} a = All-from_recursion (IsLiteral h) rs a.literals

pub bits_exist : {g : Graph} {h : Graph} {rs : List ℕ} {n : ℕ} {v : List Bool → List Bool} → GivesBits g h rs n v → All (IsLiteral h) rs
bits_exist {h = h} {rs = rs} a = All-from_recursion (IsLiteral h) rs a.literals

-- ---- a literal for each item

-- what a builder of one bit for an item has to keep, where v is the bit's worth
pub record IsBuilder {X : Type 0} (step : Graph → X → Graph × ℕ) (IsGood : Graph → X → Type 0) (v : Graph → X → List Bool → Bool) : Type 0 where
  pub good : (g h : Graph) (x : X) → Extends g h → IsGood g x → IsGood h x
  pub worth : (g h : Graph) (x : X) (leaves : List Bool) → Extends g h → length leaves ≡ leaf_count g → IsGood g x → v h x leaves ≡ v g x leaves
  pub gives : (g : Graph) (x : X) → IsWellFormed g → IsGood g x → Gives g (step g x).0 (step g x).1 (v g x)

module _ {X : Type 0} (step : Graph → X → Graph × ℕ) (IsGood : Graph → X → Type 0) (v : Graph → X → List Bool → Bool) (law : IsBuilder step IsGood v) where
  good_kept : (g h : Graph) (xs : List X) → Extends g h → AllByRecursion (IsGood g) xs → AllByRecursion (IsGood h) xs
  good_kept g h [] e a = tt
  good_kept g h (x ∷ xs) e a = (law.good g h x e a.0, good_kept g h xs e a.1)

  worth_kept : (g h : Graph) (xs : List X) (leaves : List Bool) → Extends g h → length leaves ≡ leaf_count g → AllByRecursion (IsGood g) xs → map (λ (x : X). v h x leaves) xs ≡ map (λ (x : X). v g x leaves) xs
  worth_kept g h [] leaves e len a = refl
  worth_kept g h (x ∷ xs) leaves e len a = λ j. law.worth g h x leaves e len a.0 j ∷ worth_kept g h xs leaves e len a.1 j

  pub each_gives : (g : Graph) (xs : List X) → IsWellFormed g → AllByRecursion (IsGood g) xs
      → GivesBits g (each_of step g xs).0 (each_of step g xs).1 (length xs) (λ leaves. map (λ (x : X). v g x leaves) xs)
  unfolding each_of
  each_gives g [] well a = record { extends = Extends-refl g; well_formed = well; width_is = refl; literals = tt; bits = λ leaves _. refl }
  each_gives g (x ∷ xs) well a =
      let p : Graph × ℕ = step g x in
      let one : Gives g p.0 p.1 (v g x) = law.gives g x well a.0 in
      let rest = each_gives p.0 xs one.well_formed (good_kept g p.0 xs one.extends a.1) in
      record {
        extends = Extends-trans g p.0 _ one.extends rest.extends;
        well_formed = rest.well_formed;
        width_is = ap suc rest.width_is;
        literals = (IsLiteral-Extends p.0 _ p.1 rest.extends one.literal, rest.literals);
        bits = λ leaves len.
            let lh = kept_leaves one leaves len in
            λ j. (value_of-Extends p.0 _ leaves p.1 rest.extends lh one.literal ∙ one.value leaves len) j ∷ (rest.bits leaves lh ∙ worth_kept g p.0 xs leaves one.extends len a.1) j;
      }

pub each_of-more : {X : Type 0} (step : Graph → X → Graph × ℕ) (g h : Graph) (r : ℕ) (x d : X) (xs : List X) (i : ℕ) → i < length xs → x ≡ get_or xs i d → h ≡ (step g x).0 → r ≡ (step g x).1
    → each_of step g (drop i xs) ≡ ((each_of step h (drop (i + 1) xs)).0, r ∷ (each_of step h (drop (i + 1) xs)).1)
unfolding each_of
each_of-more step g h r x d xs i lt ex eh er = rw (drop_more xs i d lt, ← ex, eh, er) refl

pub each_of-done : {X : Type 0} (step : Graph → X → Graph × ℕ) (g : Graph) (xs : List X) (i : ℕ) → length xs ≤ i → each_of step g (drop i xs) ≡ (g, [])
unfolding each_of
each_of-done step g xs i h = rw (drop_all i xs h) refl

-- a literal more is out
pub joined : (out out' rest rest' all : List ℕ) (s : ℕ) → out' ≡ out ++ s ∷ [] → rest ≡ s ∷ rest' → out ++ rest ≡ all → out' ++ rest' ≡ all
joined out out' rest rest' all s e r h = ap (λ (l : List ℕ). l ++ rest') e ∙ append_assoc out (s ∷ []) rest' ∙ sym (ap (λ (l : List ℕ). out ++ l) r) ∙ h

-- all are out
pub joined_all : (out rest all : List ℕ) → rest ≡ [] → out ++ rest ≡ all → out ≡ all
joined_all out rest all r h = sym (append-nil out) ∙ sym (ap (λ (l : List ℕ). out ++ l) r) ∙ h

-- ---- one literal of all items

abbrev pub folded : {Y : Type 0} → (Bool → Y → Bool) → Bool → List Y → Bool
folded f b [] = b
folded f b (y ∷ ys) = folded f (f b y) ys

-- what a builder of one bit from a literal and an item has to keep, where an item reads as a value of Y
pub record IsFolder {X Y : Type 0} (step : Graph → ℕ → X → Graph × ℕ) (IsGood : Graph → X → Type 0) (read : Graph → List Bool → X → Y) (f : Bool → Y → Bool) : Type 0 where
  pub good : (g h : Graph) (x : X) → Extends g h → IsGood g x → IsGood h x
  pub reads : (g h : Graph) (x : X) (leaves : List Bool) → Extends g h → length leaves ≡ leaf_count g → IsGood g x → read h leaves x ≡ read g leaves x
  pub gives : (g : Graph) (e : ℕ) (x : X) → IsWellFormed g → IsLiteral g e → IsGood g x → Gives g (step g e x).0 (step g e x).1 (λ leaves. f (value_of g leaves e) (read g leaves x))

module _ {X Y : Type 0} (step : Graph → ℕ → X → Graph × ℕ) (IsGood : Graph → X → Type 0) (read : Graph → List Bool → X → Y) (f : Bool → Y → Bool) (law : IsFolder step IsGood read f) where
  all_good : (g h : Graph) (xs : List X) → Extends g h → AllByRecursion (IsGood g) xs → AllByRecursion (IsGood h) xs
  all_good g h [] e a = tt
  all_good g h (x ∷ xs) e a = (law.good g h x e a.0, all_good g h xs e a.1)

  all_read : (g h : Graph) (xs : List X) (leaves : List Bool) → Extends g h → length leaves ≡ leaf_count g → AllByRecursion (IsGood g) xs → map (read h leaves) xs ≡ map (read g leaves) xs
  all_read g h [] leaves e len a = refl
  all_read g h (x ∷ xs) leaves e len a = λ j. law.reads g h x leaves e len a.0 j ∷ all_read g h xs leaves e len a.1 j

  pub fold_gives : (g : Graph) (e : ℕ) (xs : List X) → IsWellFormed g → IsLiteral g e → AllByRecursion (IsGood g) xs
      → Gives g (fold_of step g e xs).0 (fold_of step g e xs).1 (λ leaves. folded f (value_of g leaves e) (map (read g leaves) xs))
  unfolding fold_of
  fold_gives g e [] well le a = record { extends = Extends-refl g; well_formed = well; literal = le; value = λ leaves _. refl }
  fold_gives g e (x ∷ xs) well le a =
      let p : Graph × ℕ = step g e x in
      let one : Gives g p.0 p.1 (λ leaves. f (value_of g leaves e) (read g leaves x)) = law.gives g e x well le a.0 in
      let rest = fold_gives p.0 p.1 xs one.well_formed one.literal (all_good g p.0 xs one.extends a.1) in
      record {
        extends = Extends-trans g p.0 _ one.extends rest.extends;
        well_formed = rest.well_formed;
        literal = rest.literal;
        value = λ leaves len.
            rest.value leaves (kept_leaves one leaves len)
            ∙ (λ j. folded f (one.value leaves len j) (all_read g p.0 xs leaves one.extends len a.1 j));
      }

pub fold_of-more : {X : Type 0} (step : Graph → ℕ → X → Graph × ℕ) (g h : Graph) (e r : ℕ) (x d : X) (xs : List X) (i : ℕ) → i < length xs → x ≡ get_or xs i d → h ≡ (step g e x).0 → r ≡ (step g e x).1
    → fold_of step g e (drop i xs) ≡ fold_of step h r (drop (i + 1) xs)
unfolding fold_of
fold_of-more step g h e r x d xs i lt ex eh er = rw (drop_more xs i d lt, ← ex, eh, er) refl

pub fold_of-done : {X : Type 0} (step : Graph → ℕ → X → Graph × ℕ) (g : Graph) (e : ℕ) (xs : List X) (i : ℕ) → length xs ≤ i → fold_of step g e (drop i xs) ≡ (g, e)
unfolding fold_of
fold_of-done step g e xs i h = rw (drop_all i xs h) refl

-- ---- pairs

abbrev pub ArePair : Graph → ℕ × ℕ → Type 0
ArePair g p = IsLiteral g p.0 × IsLiteral g p.1

pub pair_kept : (g h : Graph) (p : ℕ × ℕ) → Extends g h → ArePair g p → ArePair h p
pair_kept g h p e l = (IsLiteral-Extends g h p.0 e l.0, IsLiteral-Extends g h p.1 e l.1)

pub pairs_exist : (g : Graph) (xs ys : List ℕ) → AreLiterals g xs → AreLiterals g ys → AllByRecursion (ArePair g) (zip xs ys)
pairs_exist g [] ys lxs lys = tt
pairs_exist g (x ∷ xs) [] lxs lys = tt
pairs_exist g (x ∷ xs) (y ∷ ys) lxs lys = ((lxs.0, lys.0), pairs_exist g xs ys lxs.1 lys.1)

abbrev pub read_pair : Graph → List Bool → ℕ × ℕ → Bool × Bool
read_pair g leaves p = (value_of g leaves p.0, value_of g leaves p.1)

pub pairs_read : (g : Graph) (leaves : List Bool) (xs ys : List ℕ) → map (read_pair g leaves) (zip xs ys) ≡ zip (spelled g leaves xs) (spelled g leaves ys)
pairs_read g leaves [] ys = refl
pairs_read g leaves (x ∷ xs) [] = refl
pairs_read g leaves (x ∷ xs) (y ∷ ys) = λ j. (value_of g leaves x, value_of g leaves y) ∷ pairs_read g leaves xs ys j

pub recursion : (g : Graph) (xs : List ℕ) → All (IsLiteral g) xs → AreLiterals g xs
recursion g xs l = recursion_from_All (IsLiteral g) xs l

pub spelled_width : (g : Graph) (leaves : List Bool) (xs : List ℕ) → length (spelled g leaves xs) ≡ length xs
spelled_width g leaves xs = length-map xs (value_of g leaves)

pub negated_literals : (g : Graph) (xs : List ℕ) → AreLiterals g xs → AreLiterals g (map negation xs)
negated_literals g [] l = tt
negated_literals g (x ∷ xs) l = (IsLiteral-negation g x l.0, negated_literals g xs l.1)

pub negated_exist : (g : Graph) (xs : List ℕ) → All (IsLiteral g) xs → All (IsLiteral g) (map negation xs)
negated_exist g xs l = All-from_recursion (IsLiteral g) (map negation xs) (negated_literals g xs (recursion g xs l))
