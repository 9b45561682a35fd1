-- What lists of literals spell.
use Rattle.std.proofs.Common.{◌≡◌, ℕ, ◌<◌, Bool, true, false, ◌||◌, cond, List, [], ◌∷◌, length, map, All, refl, sym, ◌∙◌, arith}
use Rattle.std.proofs.lemmas.List.{get_or-map}
use Rattle.std.proofs.lemmas.List.Elements.{All-head, All-tail, All-cons, All-nil}
use Rattle.bit_exprs.specs.Values.{bit_at}
use Rattle.aig_core.specs.Graph.{Graph, leaf_count, IsLiteral, IsWellFormed, value_of, Extends, Gives}
use Rattle.aig_core.proofs.Values.{Extends-refl, Extends-trans, leaf_count-Extends, value_of-Extends, IsLiteral-Extends}
use Rattle.word_blast.specs.Bits.{mux_of, choice}
use Rattle.word_blast.specs.Words.{spelled}
use Rattle.word_blast.proofs.BitLaws.{kept_value, kept_literal, kept_leaves, mux_gives}
use Rattle.expr_blast.specs.Circuits.{literal_at}
use Rattle.plain_blast.specs.Plain.{choose_of}
use Rattle.plain_blast.proofs.Existing.{all_kept}

pub spelled_kept : (g h : Graph) (leaves : List Bool) (xs : List ℕ) → Extends g h → length leaves ≡ leaf_count g → All (IsLiteral g) xs → spelled h leaves xs ≡ spelled g leaves xs
spelled_kept g h leaves [] e len all = refl
spelled_kept g h leaves (x ∷ xs) e len all =
    λ j. value_of-Extends g h leaves x e len (All-head (IsLiteral g) x xs all) j ∷ spelled_kept g h leaves xs e len (All-tail (IsLiteral g) x xs all) j

pub or_false : (a : Bool) → a ≡ (a || false)
or_false true = refl
or_false false = refl

pub or_assoc : (a b c : Bool) → ((a || b) || c) ≡ (a || (b || c))
or_assoc true b c = refl
or_assoc false b c = refl

pub same_leaves : (g h : Graph) (leaves : List Bool) → Extends g h → length leaves ≡ leaf_count g → length leaves ≡ leaf_count h
same_leaves g h leaves e len = len ∙ sym (leaf_count-Extends g h e)

pub picked_spell : (g : Graph) (leaves : List Bool) (xs bits : List ℕ) → All (λ b. b < length xs) bits → spelled g leaves (map (literal_at xs) bits) ≡ map (bit_at (spelled g leaves xs)) bits
picked_spell g leaves xs [] within = refl
picked_spell g leaves xs (b ∷ bits) within =
    λ j. sym (get_or-map (value_of g leaves) xs b 0 false (All-head (λ c. c < length xs) b bits within)) j
    ∷ picked_spell g leaves xs bits (All-tail (λ c. c < length xs) b bits within) j

-- ---- the choice

pub record Chosen (g h : Graph) (c : ℕ) (xs ys rs : List ℕ) : Type 0 where
  pub extends : Extends g h
  pub well_formed : IsWellFormed h
  pub exist : All (IsLiteral h) rs
  pub long : length rs ≡ length xs
  pub value : (leaves : List Bool) → length leaves ≡ leaf_count g → spelled h leaves rs ≡ cond (value_of g leaves c) (spelled g leaves xs) (spelled g leaves ys)

cond-same : (b : Bool) → ◌≡◌ {A = List Bool} [] (cond b [] [])
cond-same true = refl
cond-same false = refl

cond-cons : (b x y : Bool) (xs ys : List Bool) → (cond b x y ∷ cond b xs ys) ≡ cond b (x ∷ xs) (y ∷ ys)
cond-cons true x y xs ys = refl
cond-cons false x y xs ys = refl

module _ (g h k : Graph) (c x y p : ℕ) (xs ys rs : List ℕ) (lc : IsLiteral g c) (lxs : All (IsLiteral g) xs) (lys : All (IsLiteral g) ys)
    (one : Gives g h p (choice g c x y)) (rest : Chosen h k c xs ys rs) where
  chosen_more : Chosen g k c (x ∷ xs) (y ∷ ys) (p ∷ rs)
  chosen_more = record {
    extends = Extends-trans g h k one.extends rest.extends;
    well_formed = rest.well_formed;
    exist = All-cons (IsLiteral k) p rs (IsLiteral-Extends h k p rest.extends one.literal) rest.exist;
    long = omega (arith, rest.long);
    value = λ leaves len.
        let l1 = kept_leaves one leaves len in
        (λ j. (value_of-Extends h k leaves p rest.extends l1 one.literal ∙ one.value leaves len) j
        ∷ (rest.value leaves l1 ∙ (λ i. cond (kept_value one c lc leaves len i) (spelled_kept g h leaves xs one.extends len lxs i) (spelled_kept g h leaves ys one.extends len lys i))) j)
        ∙ cond-cons (value_of g leaves c) (value_of g leaves x) (value_of g leaves y) (spelled g leaves xs) (spelled g leaves ys);
  }

pub choose_gives : (g : Graph) (c : ℕ) (xs ys : List ℕ) → IsWellFormed g → IsLiteral g c → All (IsLiteral g) xs → All (IsLiteral g) ys → length ys ≡ length xs
    → Chosen g (choose_of g c xs ys).0 c xs ys (choose_of g c xs ys).1
choose_gives g c [] [] well lc lxs lys len = record { extends = Extends-refl g; well_formed = well; exist = All-nil (IsLiteral g); long = refl; value = λ leaves _. cond-same (value_of g leaves c) }
choose_gives g c [] (y ∷ ys) well lc lxs lys len = absurd (omega arith)
choose_gives g c (x ∷ xs) [] well lc lxs lys len = absurd (omega arith)
choose_gives g c (x ∷ xs) (y ∷ ys) well lc lxs lys len =
    let p : Graph × ℕ = mux_of g c x y in
    let one : Gives g p.0 p.1 (choice g c x y) = mux_gives g c x y well lc (All-head (IsLiteral g) x xs lxs) (All-head (IsLiteral g) y ys lys) in
    let lxs' : All (IsLiteral g) xs = All-tail (IsLiteral g) x xs lxs in
    let lys' : All (IsLiteral g) ys = All-tail (IsLiteral g) y ys lys in
    chosen_more g p.0 _ c x y p.1 xs ys _ lc lxs' lys' one
    (choose_gives p.0 c xs ys one.well_formed (kept_literal one c lc) (all_kept g p.0 xs one.extends lxs') (all_kept g p.0 ys one.extends lys') (omega arith))
