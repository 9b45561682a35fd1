-- What the builders of one bit give.
use Rattle.std.proofs.Common.{◌≡◌, ℕ, ◌+◌, ◌*◌, nat_eq, Bool, true, false, not, ◌&&◌, ◌||◌, cond, List, length, refl, ap, ◌∙◌, arith}
use Rattle.std.proofs.lemmas.Bool.{eqb-true}
use Rattle.aig_core.specs.Graph.{Graph, leaf_count, negation, and_of, value_of, both, IsLiteral, IsWellFormed, Extends, Gives}
use Rattle.aig_core.proofs.Values.{value_of-Extends, value_of-negation, IsLiteral-negation, IsLiteral-Extends, Extends-refl, Extends-trans}
use Rattle.aig_core.proofs.AndLaw.{and_gives}
use Rattle.word_core.specs.Words.{bit, xor}
use Rattle.word_blast.specs.Bits.{or_of, or_of_ands, xor_of, mux_of, full_of, either, one_of, choice}

-- ---- on truth values

de_morgan : (a b : Bool) → not (not a && not b) ≡ (a || b)
de_morgan true b = not_not b
  where
    not_not : (b : Bool) → not (not true && not b) ≡ (true || b)
    not_not true = refl
    not_not false = refl
de_morgan false true = refl
de_morgan false false = refl

xor_is : (a b : Bool) → ((a && not b) || (not a && b)) ≡ xor a b
xor_is true true = refl
xor_is true false = refl
xor_is false true = refl
xor_is false false = refl

mux_is : (c a b : Bool) → ((c && a) || (not c && b)) ≡ cond c a b
mux_is true true b = refl
mux_is true false true = refl
mux_is true false false = refl
mux_is false true b = refl
mux_is false false b = refl

-- ---- composition

-- a literal of g is worth the same in what was made from g
pub kept_value : {g h : Graph} {r : ℕ} {v : List Bool → Bool} → Gives g h r v → (x : ℕ) → IsLiteral g x → (leaves : List Bool) → length leaves ≡ leaf_count g → value_of h leaves x ≡ value_of g leaves x
kept_value {g} {h} a x lx leaves len = value_of-Extends g h leaves x a.extends len lx

pub kept_literal : {g h : Graph} {r : ℕ} {v : List Bool → Bool} → Gives g h r v → (x : ℕ) → IsLiteral g x → IsLiteral h x
kept_literal {g} {h} a x lx = IsLiteral-Extends g h x a.extends lx

-- leaves of g are leaves of what was made from g
pub kept_leaves : {g h : Graph} {r : ℕ} {v : List Bool → Bool} → Gives g h r v → (leaves : List Bool) → length leaves ≡ leaf_count g → length leaves ≡ leaf_count h
kept_leaves a leaves len = omega (arith, a.extends.inputs, a.extends.states)

module _ (g : Graph) (x y : ℕ) (well : IsWellFormed g) (lx : IsLiteral g x) (ly : IsLiteral g y) where
  pub or_gives : Gives g (or_of g x y).0 (or_of g x y).1 (either g x y)
  unfolding or_of
  or_gives =
      let p = and_gives g (negation x) (negation y) well (IsLiteral-negation g x lx) (IsLiteral-negation g y ly) in
      record {
        extends = p.extends;
        well_formed = p.well_formed;
        literal = IsLiteral-negation (and_of g (negation x) (negation y)).0 (and_of g (negation x) (negation y)).1 p.literal;
        value = λ leaves len.
            value_of-negation (and_of g (negation x) (negation y)).0 leaves (and_of g (negation x) (negation y)).1
            ∙ ap not (p.value leaves len)
            ∙ (λ j. not (value_of-negation g leaves x j && value_of-negation g leaves y j))
            ∙ de_morgan (value_of g leaves x) (value_of g leaves y);
      }

-- two conjunctions and a disjunction
module _ (g g1 g2 g3 : Graph) (x y u v p q r : ℕ) (lx : IsLiteral g x) (ly : IsLiteral g y) (lu : IsLiteral g u) (lv : IsLiteral g v)
    (one : Gives g g1 p (both g x y)) (two : Gives g1 g2 q (both g1 u v)) (three : Gives g2 g3 r (either g2 p q)) where
  two_ands_or : Gives g g3 r (λ leaves. (value_of g leaves x && value_of g leaves y) || (value_of g leaves u && value_of g leaves v))
  two_ands_or = record {
    extends = Extends-trans g g2 g3 (Extends-trans g g1 g2 one.extends two.extends) three.extends;
    well_formed = three.well_formed;
    literal = three.literal;
    value = λ leaves len.
        let l1 = kept_leaves one leaves len in
        let l2 = kept_leaves two leaves l1 in
        three.value leaves l2
        ∙ (λ j. (kept_value two p one.literal leaves l1 ∙ one.value leaves len) j || (two.value leaves l1 ∙ (λ i. kept_value one u lu leaves len i && kept_value one v lv leaves len i)) j);
  }

pub Gives-as : {g h : Graph} {r : ℕ} (v w : List Bool → Bool) → Gives g h r v → ((leaves : List Bool) → v leaves ≡ w leaves) → Gives g h r w
Gives-as v w a same = record { extends = a.extends; well_formed = a.well_formed; literal = a.literal; value = λ leaves len. a.value leaves len ∙ same leaves }

module _ (g : Graph) (x y u v : ℕ) (well : IsWellFormed g) (lx : IsLiteral g x) (ly : IsLiteral g y) (lu : IsLiteral g u) (lv : IsLiteral g v) where
  pub or_of_ands_gives : Gives g (or_of_ands g x y u v).0 (or_of_ands g x y u v).1 (λ leaves. (value_of g leaves x && value_of g leaves y) || (value_of g leaves u && value_of g leaves v))
  unfolding or_of_ands
  or_of_ands_gives =
      let p : Graph × ℕ = and_of g x y in
      let q : Graph × ℕ = and_of p.0 u v in
      let r : Graph × ℕ = or_of q.0 p.1 q.1 in
      let one : Gives g p.0 p.1 (both g x y) = and_gives g x y well lx ly in
      let two : Gives p.0 q.0 q.1 (both p.0 u v) = and_gives p.0 u v one.well_formed (kept_literal one u lu) (kept_literal one v lv) in
      let three : Gives q.0 r.0 r.1 (either q.0 p.1 q.1) = or_gives q.0 p.1 q.1 two.well_formed (kept_literal two p.1 one.literal) two.literal in
      two_ands_or g p.0 q.0 r.0 x y u v p.1 q.1 r.1 lx ly lu lv one two three

module _ (g : Graph) (x y : ℕ) (well : IsWellFormed g) (lx : IsLiteral g x) (ly : IsLiteral g y) where
  pub xor_gives : Gives g (xor_of g x y).0 (xor_of g x y).1 (one_of g x y)
  unfolding xor_of
  xor_gives =
      Gives-as _ _ (or_of_ands_gives g x (negation y) (negation x) y well lx (IsLiteral-negation g y ly) (IsLiteral-negation g x lx) ly)
      (λ leaves. (λ j. (value_of g leaves x && value_of-negation g leaves y j) || (value_of-negation g leaves x j && value_of g leaves y)) ∙ xor_is (value_of g leaves x) (value_of g leaves y))

pub xor_gives_at : (g h : Graph) (x y r : ℕ) → IsWellFormed g → IsLiteral g x → IsLiteral g y → h ≡ (xor_of g x y).0 → r ≡ (xor_of g x y).1 → Gives g h r (one_of g x y)
xor_gives_at g h x y r well lx ly eh er = rw (eh, er) (xor_gives g x y well lx ly)

module _ (g : Graph) (c x y : ℕ) (well : IsWellFormed g) (lc : IsLiteral g c) (lx : IsLiteral g x) (ly : IsLiteral g y) where
  pub mux_gives : Gives g (mux_of g c x y).0 (mux_of g c x y).1 (choice g c x y)
  unfolding mux_of
  mux_gives = by (nat_eq x y) refl
    where
      same_value : (b : Bool) (v : Bool) → v ≡ cond b v v
      same_value true v = refl
      same_value false v = refl

      by : (b : Bool) → nat_eq x y ≡ b → Gives g (cond b (g, x) (or_of_ands g c x (negation c) y)).0 (cond b (g, x) (or_of_ands g c x (negation c) y)).1 (choice g c x y)
      by true e = record {
        extends = Extends-refl g;
        well_formed = well;
        literal = lx;
        value = λ leaves _. same_value (value_of g leaves c) (value_of g leaves x) ∙ ap (λ (z : ℕ). cond (value_of g leaves c) (value_of g leaves x) (value_of g leaves z)) (eqb-true x y e);
      }
      by false e = Gives-as _ _ (or_of_ands_gives g c x (negation c) y well lc lx (IsLiteral-negation g c lc) ly)
          (λ leaves. (λ j. (value_of g leaves c && value_of g leaves x) || (value_of-negation g leaves c j && value_of g leaves y)) ∙ mux_is (value_of g leaves c) (value_of g leaves x) (value_of g leaves y))

-- what the sum and the carry are
pub record Adds (g h : Graph) (a b c s carry : ℕ) : Type 0 where
  pub extends : Extends g h
  pub well_formed : IsWellFormed h
  pub sum_exists : IsLiteral h s
  pub carry_exists : IsLiteral h carry
  pub adds : (leaves : List Bool) → length leaves ≡ leaf_count g
      → bit (value_of h leaves s) + 2 * bit (value_of h leaves carry) ≡ bit (value_of g leaves a) + bit (value_of g leaves b) + bit (value_of g leaves c)

adds_up : (a b c : Bool) → bit (xor (xor a b) c) + 2 * bit ((a && b) || (xor a b && c)) ≡ bit a + bit b + bit c
adds_up true true true = refl
adds_up true true false = refl
adds_up true false true = refl
adds_up true false false = refl
adds_up false true true = refl
adds_up false true false = refl
adds_up false false true = refl
adds_up false false false = refl

module _ (g : Graph) (a b c : ℕ) (well : IsWellFormed g) (la : IsLiteral g a) (lb : IsLiteral g b) (lc : IsLiteral g c) where
  pub full_gives : Adds g (full_of g a b c).0 a b c (full_of g a b c).1 (full_of g a b c).2
  unfolding full_of
  full_gives =
      let x : Graph × ℕ = xor_of g a b in
      let s : Graph × ℕ = xor_of x.0 x.1 c in
      let r : Graph × ℕ = or_of_ands s.0 a b x.1 c in
      let one : Gives g x.0 x.1 (one_of g a b) = xor_gives g a b well la lb in
      let two : Gives x.0 s.0 s.1 (one_of x.0 x.1 c) = xor_gives x.0 x.1 c one.well_formed one.literal (kept_literal one c lc) in
      let up : (z : ℕ) → IsLiteral g z → IsLiteral s.0 z = λ z h. kept_literal two z (kept_literal one z h) in
      let three = or_of_ands_gives s.0 a b x.1 c two.well_formed (up a la) (up b lb) (kept_literal two x.1 one.literal) (up c lc) in
      record {
        extends = Extends-trans g s.0 r.0 (Extends-trans g x.0 s.0 one.extends two.extends) three.extends;
        well_formed = three.well_formed;
        sum_exists = kept_literal three s.1 two.literal;
        carry_exists = three.literal;
        adds = λ leaves len.
            let l1 = kept_leaves one leaves len in
            let l2 = kept_leaves two leaves l1 in
            let was : (z : ℕ) → IsLiteral g z → value_of s.0 leaves z ≡ value_of g leaves z = λ z h. kept_value two z (kept_literal one z h) leaves l1 ∙ kept_value one z h leaves len in
            let sum_is : value_of r.0 leaves s.1 ≡ xor (xor (value_of g leaves a) (value_of g leaves b)) (value_of g leaves c)
            = kept_value three s.1 two.literal leaves l2 ∙ two.value leaves l1 ∙ (λ j. xor (one.value leaves len j) (kept_value one c lc leaves len j)) in
            let carry_is : value_of r.0 leaves r.1 ≡ ((value_of g leaves a && value_of g leaves b) || (xor (value_of g leaves a) (value_of g leaves b) && value_of g leaves c))
            = three.value leaves l2 ∙ (λ j. (was a la j && was b lb j) || ((kept_value two x.1 one.literal leaves l1 ∙ one.value leaves len) j && was c lc j)) in
            (λ j. bit (sum_is j) + 2 * bit (carry_is j)) ∙ adds_up (value_of g leaves a) (value_of g leaves b) (value_of g leaves c);
      }
