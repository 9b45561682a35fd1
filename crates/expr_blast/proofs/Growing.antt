-- Words in a graph that grows.
use Rattle.std.proofs.Common.{◌≡◌, ℕ, zero, suc, ◌<◌, nat_eq, Bool, false, not, ◌||◌, List, [], ◌∷◌, ◌++◌, length, map, get_or, refl, sym, ap, ◌∙◌, subst, arith}
use Rattle.std.specs.List.{All, AllByRecursion}
use Rattle.std.proofs.lemmas.List.{get_or-map}
use Rattle.std.proofs.lemmas.List.Elements.{recursion_from_All, All-from_recursion}
use Rattle.aig_core.specs.Graph.{Graph, leaf_count, value_of, IsLiteral, IsWellFormed, Extends, Gives}
use Rattle.aig_core.proofs.Values.{value_of-Extends, value_of-zero, IsLiteral-Extends, Extends-refl, Extends-trans}
use Rattle.word_core.specs.Words.{any}
use Rattle.word_core.proofs.WordLaws.{any-is}
use Rattle.word_blast.specs.declared.loops.Op.TheVariants.{Or}
use Rattle.word_blast.specs.Words.{spelled, word_value, AreLiterals, GivesWord, one_bit, circuit_any}
use Rattle.word_blast.proofs.Combinators.{AreLiterals-Extends, word_value-Extends, leaves-Extends, word_at, literals_exist, recursion}
use Rattle.word_blast.proofs.GateLaws.{fold_word_gives}
use Rattle.word_blast.proofs.FoldLaws.{folded_or}
use Rattle.bit_exprs.specs.Values.{bit_at}
use Rattle.expr_blast.specs.Circuits.{literal_at}

-- ---- what is made next

pub onwards : {g h k : Graph} {rs : List ℕ} {n : ℕ} {u : List Bool → ℕ} (w : List Bool → ℕ) → Extends g h → GivesWord h k rs n u → ((leaves : List Bool) → length leaves ≡ leaf_count g → u leaves ≡ w leaves) → GivesWord g k rs n w
onwards {g} {h} {k} w e a same = record {
  extends = Extends-trans g h k e a.extends;
  well_formed = a.well_formed;
  width_is = a.width_is;
  literals = a.literals;
  value = λ leaves len. a.value leaves (leaves-Extends g h leaves e len) ∙ same leaves len;
}

pub onwards_bit : {g h k : Graph} {r : ℕ} {u : List Bool → Bool} (w : List Bool → Bool) → Extends g h → Gives h k r u → ((leaves : List Bool) → length leaves ≡ leaf_count g → u leaves ≡ w leaves) → Gives g k r w
onwards_bit {g} {h} {k} w e a same = record {
  extends = Extends-trans g h k e a.extends;
  well_formed = a.well_formed;
  literal = a.literal;
  value = λ leaves len. a.value leaves (leaves-Extends g h leaves e len) ∙ same leaves len;
}

-- and what was made before lasts
pub lasts : {g h k : Graph} {rs : List ℕ} {n : ℕ} {v : List Bool → ℕ} → GivesWord g h rs n v → Extends h k → IsWellFormed k → GivesWord g k rs n v
lasts {g} {h} {k} {rs} a e well = record {
  extends = Extends-trans g h k a.extends e;
  well_formed = well;
  width_is = a.width_is;
  literals = AreLiterals-Extends h k rs e a.literals;
  value = λ leaves len. word_value-Extends h k leaves rs e (leaves-Extends g h leaves a.extends len) a.literals ∙ a.value leaves len;
}

pub lasts_bit : {g h k : Graph} {r : ℕ} {v : List Bool → Bool} → Gives g h r v → Extends h k → IsWellFormed k → Gives g k r v
lasts_bit {g} {h} {k} {r} a e well = record {
  extends = Extends-trans g h k a.extends e;
  well_formed = well;
  literal = IsLiteral-Extends h k r e a.literal;
  value = λ leaves len. value_of-Extends h k leaves r e (leaves-Extends g h leaves a.extends len) a.literal ∙ a.value leaves len;
}

-- at what the code made
pub gives_at : {g h : Graph} {r : ℕ} {p : Graph × ℕ} {v : List Bool → Bool} → (h, r) ≡ p → Gives g p.0 p.1 v → Gives g h r v
gives_at {g} {h} {r} {p} {v} e a = subst (λ (q : Graph × ℕ). Gives g q.0 q.1 v) (sym e) a

pub made_exist : {g h : Graph} {rs : List ℕ} {p : Graph × List ℕ} {n : ℕ} {v : List Bool → ℕ} → (h, rs) ≡ p → GivesWord g p.0 p.1 n v → All (IsLiteral h) rs × (length rs ≡ n)
made_exist e a = let w = word_at e a in (literals_exist w, w.width_is)

pub first_of : {h : Graph} {p : Graph × ℕ} (rs : List ℕ) (r d : ℕ) → (h, rs) ≡ one_bit p → r ≡ get_or rs 0 d → (h, r) ≡ p
first_of rs r d e er = λ j. ((e j).0, (er ∙ ap (λ (q : Graph × List ℕ). get_or q.1 0 d) e) j)

-- ---- lists of literals

pub AreLiterals-append : (g : Graph) (xs ys : List ℕ) → AreLiterals g xs → AreLiterals g ys → AreLiterals g (xs ++ ys)
AreLiterals-append g [] ys lxs lys = lys
AreLiterals-append g (x ∷ xs) ys lxs lys = (lxs.0, AreLiterals-append g xs ys lxs.1 lys)

literal_exists : (g : Graph) (bits : List ℕ) (b : ℕ) → b < length bits → AreLiterals g bits → IsLiteral g (literal_at bits b)
literal_exists g [] b lt l = absurd (omega arith)
literal_exists g (x ∷ bits) zero lt l = l.0
literal_exists g (x ∷ bits) (suc b) lt l = literal_exists g bits b (omega arith) l.1

picked_literals : (g : Graph) (bits from : List ℕ) → AllByRecursion (λ b. b < length bits) from → AreLiterals g bits → AreLiterals g (map (literal_at bits) from)
picked_literals g bits [] within l = tt
picked_literals g bits (b ∷ from) within l = (literal_exists g bits b within.0 l, picked_literals g bits from within.1 l)

picked_spelled : (g : Graph) (leaves : List Bool) (bits from : List ℕ) → AllByRecursion (λ b. b < length bits) from → spelled g leaves (map (literal_at bits) from) ≡ map (bit_at (spelled g leaves bits)) from
picked_spelled g leaves bits [] within = refl
picked_spelled g leaves bits (b ∷ from) within = λ j. sym (get_or-map (value_of g leaves) bits b 0 false within.0) j ∷ picked_spelled g leaves bits from within.1 j

-- the literals of some bits
module _ (g : Graph) (bits from : List ℕ) (within : All (λ b. b < length bits) from) where
  pub picked_exist : AreLiterals g bits → AreLiterals g (map (literal_at bits) from)
  picked_exist l = picked_literals g bits from (recursion_from_All (λ b. b < length bits) from within) l

  pub picked_bits : (leaves : List Bool) → spelled g leaves (map (literal_at bits) from) ≡ map (bit_at (spelled g leaves bits)) from
  picked_bits leaves = picked_spelled g leaves bits from (recursion_from_All (λ b. b < length bits) from within)

pub picked_all : (g : Graph) (bits from : List ℕ) → All (λ b. b < length bits) from → All (IsLiteral g) bits → All (IsLiteral g) (map (literal_at bits) from)
picked_all g bits from within l = All-from_recursion (IsLiteral g) (map (literal_at bits) from) (picked_exist g bits from within (recursion g bits l))

-- ---- whether a word isn't 0

pub any_word_gives : (g : Graph) (xs : List ℕ) → IsWellFormed g → AreLiterals g xs → Gives g (circuit_any g xs).0 (circuit_any g xs).1 (λ leaves. not (nat_eq (word_value g leaves xs) 0))
any_word_gives g xs well lxs =
    onwards_bit (λ leaves. not (nat_eq (word_value g leaves xs) 0)) (Extends-refl g) (fold_word_gives Or g 0 xs well (omega arith) lxs)
    (λ leaves len. folded_or (value_of g leaves 0) (spelled g leaves xs) ∙ ap (λ b. b || any (spelled g leaves xs)) (value_of-zero g leaves) ∙ any-is (spelled g leaves xs))
