-- The circuit of a formed expression gives the expression's value.
use Rattle.std.proofs.Common.{◌≡◌, ℕ, ◌<◌, ◌≤◌, ◌^◌, nat_eq, Bool, true, false, not, ◌&&◌, ◌||◌, cond, List, [], ◌∷◌, length, map, refl, sym, ap, ◌∙◌, subst, arith}
use Rattle.std.specs.List.{All}
use Rattle.std.proofs.lemmas.List.{length-map}
use Rattle.aig_core.specs.Graph as aig
use Rattle.aig_core.specs.Graph.{Graph, leaf_count, IsLiteral, IsWellFormed, Extends, Gives}
use Rattle.aig_core.proofs.Values.{value_of-zero, value_of-one, Extends-refl, Extends-trans}
use Rattle.word_core.specs.Words.{bit, number_of, bits_of}
use Rattle.word_core.proofs.WordLaws.{number_of-bits_of, length-bits_of}
use Rattle.word_blast.specs.Words.{spelled, word_value, AreLiterals, GivesWord, circuit_any, circuit_mux}
use Rattle.word_blast.proofs.Combinators.{AreLiterals-Extends, spelled-Extends, number_from_bit}
use Rattle.word_blast.proofs.OperatorLaws.{choice_gives}
use Rattle.bit_exprs.specs.declared.forms.Expr.{Expr, Row_of-Expr, end_of-Expr, more_of-Expr}
use Rattle.bit_exprs.specs.declared.forms.Expr.TheVariants.{Const, Read, Select', Unary', Binary', Choose', Logical'}
use Rattle.bit_exprs.specs.declared.forms.UnaryOp.{UnaryOp}
use Rattle.bit_exprs.specs.declared.forms.BinaryOp.{BinaryOp}
use Rattle.bit_exprs.specs.declared.forms.Window.{Window}
use Rattle.bit_exprs.specs.Operators.{unary_width, unary_value, binary_width, binary_value}
use Rattle.bit_exprs.specs.Values.{bit_at, width_of, operand_width, operand_sign, value_of, operand_value, values_of, selected, row_holds}
use Rattle.bit_exprs.specs.Formed.{Takes, TakesBoth, IsFormed, OperandFormed, AreFormed}
use Rattle.bit_exprs.proofs.Rows.{after, after_first, after_last, after_cons}
use Rattle.bit_exprs.proofs.Widths.{operand_some}
use Rattle.expr_blast.specs.Circuits.{constant, literal_at, unary_of, binary_of, logic_of, select_from, word_of, operand_of, row_of, test_of}
use Rattle.expr_blast.proofs.Growing.{onwards, onwards_bit, lasts, lasts_bit, picked_exist, picked_bits, any_word_gives}
use Rattle.expr_blast.proofs.OperatorWords.{unary_gives, binary_gives, logic_gives}
use Rattle.expr_blast.proofs.Selects.{select_gives}

-- ---- leaves

constant_exists : (g : Graph) (b : Bool) → IsLiteral g (constant b)
constant_exists g true = omega arith
constant_exists g false = omega arith

constant_is : (g : Graph) (leaves : List Bool) (b : Bool) → aig.value_of g leaves (constant b) ≡ b
constant_is g leaves true = value_of-one g leaves
constant_is g leaves false = value_of-zero g leaves

constants_exist : (g : Graph) (bs : List Bool) → AreLiterals g (map constant bs)
constants_exist g [] = tt
constants_exist g (b ∷ bs) = (constant_exists g b, constants_exist g bs)

constants_are : (g : Graph) (leaves : List Bool) (bs : List Bool) → spelled g leaves (map constant bs) ≡ bs
constants_are g leaves [] = refl
constants_are g leaves (b ∷ bs) = λ j. constant_is g leaves b j ∷ constants_are g leaves bs j

constant_gives : (g : Graph) (w a : ℕ) → a < 2 ^ w → IsWellFormed g → GivesWord g g (map constant (bits_of w a)) w (λ leaves. a)
constant_gives g w a fits well = record {
  extends = Extends-refl g;
  well_formed = well;
  width_is = length-map (bits_of w a) constant ∙ length-bits_of w a;
  literals = constants_exist g (bits_of w a);
  value = λ leaves len. ap number_of (constants_are g leaves (bits_of w a)) ∙ number_of-bits_of w a fits;
}

read_gives : (g : Graph) (bits from : List ℕ) → All (λ b. b < length bits) from → IsWellFormed g → AreLiterals g bits →
    GivesWord g g (map (literal_at bits) from) (length from) (λ leaves. number_of (map (bit_at (spelled g leaves bits)) from))
read_gives g bits from within well l = record {
  extends = Extends-refl g;
  well_formed = well;
  width_is = length-map from (literal_at bits);
  literals = picked_exist g bits from within l;
  value = λ leaves len. ap number_of (picked_bits g bits from within leaves);
}

-- ---- on operands that are made

-- the bits read the same in a graph that has grown
later : {g h k : Graph} {rs : List ℕ} {n : ℕ} (bits : List ℕ) (v : List Bool → ℕ) → Extends g h → AreLiterals g bits → GivesWord h k rs n (λ leaves. v (spelled h leaves bits)) → GivesWord g k rs n (λ leaves. v (spelled g leaves bits))
later {g} {h} bits v e l a = onwards (λ leaves. v (spelled g leaves bits)) e a (λ leaves len. ap v (spelled-Extends g h leaves bits e len l))

unary_made : (op : UnaryOp) (g h : Graph) (xs : List ℕ) (w : ℕ) (v : List Bool → ℕ) → 1 ≤ w → Takes op w → GivesWord g h xs w v → GivesWord g (unary_of op h xs).0 (unary_of op h xs).1 (unary_width op w) (λ leaves. unary_value op w (v leaves))
unary_made op g h xs w v some takes a =
    onwards (λ leaves. unary_value op w (v leaves)) a.extends
    (subst (λ n. GivesWord h (unary_of op h xs).0 (unary_of op h xs).1 (unary_width op n) (λ leaves. unary_value op n (word_value h leaves xs))) a.width_is
    (unary_gives h xs a.well_formed a.literals op (subst (λ n. 1 ≤ n) (sym a.width_is) some) (subst (Takes op) (sym a.width_is) takes)))
    (λ leaves len. ap (unary_value op w) (a.value leaves len))

binary_made : (op : BinaryOp) (signed : Bool) (g h : Graph) (xs ys : List ℕ) (w u : ℕ) (v z : List Bool → ℕ) → 1 ≤ w → TakesBoth op w u → GivesWord g h xs w v → GivesWord g h ys u z →
    GivesWord g (binary_of op signed h xs ys).0 (binary_of op signed h xs ys).1 (binary_width op w u) (λ leaves. binary_value op signed w u (v leaves) (z leaves))
binary_made op signed g h xs ys w u v z some takes a b =
    let at : GivesWord h (binary_of op signed h xs ys).0 (binary_of op signed h xs ys).1 (binary_width op (length xs) (length ys)) (λ leaves. binary_value op signed (length xs) (length ys) (word_value h leaves xs) (word_value h leaves ys))
    = binary_gives h xs ys a.well_formed a.literals b.literals signed (subst (λ n. 1 ≤ n) (sym a.width_is) some) op (subst (λ n. TakesBoth op n (length ys)) (sym a.width_is) (subst (TakesBoth op w) (sym b.width_is) takes)) in
    onwards (λ leaves. binary_value op signed w u (v leaves) (z leaves)) a.extends
    (subst (λ n. GivesWord h (binary_of op signed h xs ys).0 (binary_of op signed h xs ys).1 (binary_width op w n) (λ leaves. binary_value op signed w n (word_value h leaves xs) (word_value h leaves ys))) b.width_is
    (subst (λ n. GivesWord h (binary_of op signed h xs ys).0 (binary_of op signed h xs ys).1 (binary_width op n (length ys)) (λ leaves. binary_value op signed n (length ys) (word_value h leaves xs) (word_value h leaves ys))) a.width_is at))
    (λ leaves len. λ j. binary_value op signed w u (a.value leaves len j) (b.value leaves len j))

select_made : (window : Window) (signed : Bool) (g h : Graph) (xs bits vector : List ℕ) (w : ℕ) (v : List Bool → ℕ) → 1 ≤ w → All (λ b. b < length bits) vector → AreLiterals g bits → GivesWord g h xs w v →
    GivesWord g (select_from window signed xs (map (literal_at bits) vector) h 0 window.count).0 (select_from window signed xs (map (literal_at bits) vector) h 0 window.count).1 window.count
    (λ leaves. selected window (map (bit_at (spelled g leaves bits)) vector) w signed (v leaves))
select_made window signed g h xs bits vector w v some within l a =
    onwards (λ leaves. selected window (map (bit_at (spelled g leaves bits)) vector) w signed (v leaves)) a.extends
    (select_gives window signed xs (subst (λ n. 1 ≤ n) (sym a.width_is) some) (map (literal_at bits) vector) h a.well_formed a.literals (picked_exist h bits vector within (AreLiterals-Extends g h bits a.extends l)))
    (λ leaves len.
    λ j. selected window ((picked_bits h bits vector within leaves ∙ ap (λ bs. map (bit_at bs) vector) (spelled-Extends g h leaves bits a.extends len l)) j) (a.width_is j) signed (a.value leaves len j))

turned_choice : (b : Bool) (x y : ℕ) → cond (not b) x y ≡ cond b y x
turned_choice true x y = refl
turned_choice false x y = refl

choose_made : (g h : Graph) (c : ℕ) (xs ys : List ℕ) (w u : ℕ) (t v z : List Bool → ℕ) → u ≡ w → Gives g h c (λ leaves. not (nat_eq (t leaves) 0)) → GivesWord g h xs w v → GivesWord g h ys u z →
    GivesWord g (circuit_mux h c xs ys).0 (circuit_mux h c xs ys).1 w (λ leaves. cond (nat_eq (t leaves) 0) (z leaves) (v leaves))
choose_made g h c xs ys w u t v z same a x y =
    onwards (λ leaves. cond (nat_eq (t leaves) 0) (z leaves) (v leaves)) x.extends
    (subst (λ n. GivesWord h (circuit_mux h c xs ys).0 (circuit_mux h c xs ys).1 n (λ leaves. cond (aig.value_of h leaves c) (word_value h leaves xs) (word_value h leaves ys))) x.width_is
    (choice_gives h xs ys x.well_formed x.literals y.literals (y.width_is ∙ same ∙ sym x.width_is) c a.literal))
    (λ leaves len. (λ j. cond (a.value leaves len j) (x.value leaves len j) (y.value leaves len j)) ∙ turned_choice (nat_eq (t leaves) 0) (v leaves) (z leaves))

test_made : (g h : Graph) (xs : List ℕ) (w : ℕ) (v : List Bool → ℕ) → GivesWord g h xs w v → Gives g (circuit_any h xs).0 (circuit_any h xs).1 (λ leaves. not (nat_eq (v leaves) 0))
test_made g h xs w v a =
    onwards_bit (λ leaves. not (nat_eq (v leaves) 0)) a.extends (any_word_gives h xs a.well_formed a.literals) (λ leaves len. ap (λ n. not (nat_eq n 0)) (a.value leaves len))

logic_made : (and : Bool) (g h : Graph) (x y : ℕ) (v z : List Bool → Bool) → Gives g h x v → Gives g h y z → Gives g (logic_of and h x y).0 (logic_of and h x y).1 (λ leaves. cond and (v leaves && z leaves) (v leaves || z leaves))
logic_made and g h x y v z a b =
    onwards_bit (λ leaves. cond and (v leaves && z leaves) (v leaves || z leaves)) a.extends (logic_gives and h x y a.well_formed a.literal b.literal)
    (λ leaves len. λ j. cond and (a.value leaves len j && b.value leaves len j) (a.value leaves len j || b.value leaves len j))

itself : (g : Graph) (x : ℕ) → IsWellFormed g → IsLiteral g x → Gives g g x (λ leaves. aig.value_of g leaves x)
itself g x well lx = record { extends = Extends-refl g; well_formed = well; literal = lx; value = λ leaves len. refl }

-- ---- expressions

mutual
  pub word_gives : (e : Expr) (g : Graph) (bits : List ℕ) → IsFormed e (length bits) → IsWellFormed g → AreLiterals g bits →
      GivesWord g (word_of e g bits).0 (word_of e g bits).1 (width_of e) (λ leaves. value_of e (spelled g leaves bits))
  word_gives (Const word signed) g bits f well l = constant_gives g word.width word.bits word.fits well
  word_gives (Read from) g bits f well l = read_gives g bits from f.1 well l
  word_gives (Select' vector window p index) g bits f well l =
      select_made window (operand_sign index) g _ (operand_of index g bits).1 bits vector (operand_width index) (λ leaves. operand_value index (spelled g leaves bits)) (operand_some index (length bits) f.2) f.0.1 l (operand_gives index g bits f.2 well l)
  word_gives (Unary' op p a) g bits f well l =
      unary_made op g _ (operand_of a g bits).1 (operand_width a) (λ leaves. operand_value a (spelled g leaves bits)) (operand_some a (length bits) f.1) f.0 (operand_gives a g bits f.1 well l)
  word_gives (Binary' op p a q b) g bits f well l =
      let x = operand_gives a g bits f.1 well l in
      let made = operand_gives b (operand_of a g bits).0 bits f.2 x.well_formed (AreLiterals-Extends g _ bits x.extends l) in
      binary_made op (operand_sign a && operand_sign b) g _ (operand_of a g bits).1 _ (operand_width a) (operand_width b) (λ leaves. operand_value a (spelled g leaves bits)) (λ leaves. operand_value b (spelled g leaves bits))
      (operand_some a (length bits) f.1) f.0 (lasts x made.extends made.well_formed) (later bits (operand_value b) x.extends l made)
  word_gives (Choose' p test q a r b) g bits f well l =
      let c = operand_gives test g bits f.1 well l in
      let t = test_made g _ (operand_of test g bits).1 (operand_width test) (λ leaves. operand_value test (spelled g leaves bits)) c in
      let made = operand_gives a _ bits f.2 t.well_formed (AreLiterals-Extends g _ bits t.extends l) in
      let x = later bits (operand_value a) t.extends l made in
      let last = operand_gives b _ bits f.3 x.well_formed (AreLiterals-Extends g _ bits x.extends l) in
      choose_made g _ _ _ _ (operand_width a) (operand_width b) (λ leaves. operand_value test (spelled g leaves bits)) (λ leaves. operand_value a (spelled g leaves bits)) (λ leaves. operand_value b (spelled g leaves bits))
      f.0 (lasts_bit t (Extends-trans _ _ _ made.extends last.extends) last.well_formed) (lasts x last.extends last.well_formed) (later bits (operand_value b) x.extends l last)
  word_gives (Logical' and chain shape all) g bits f well l =
      number_from_bit (λ leaves. bit (row_holds and (values_of all (spelled g leaves bits)))) (row_gives all and g (constant and) bits f well (constant_exists g and) l)
      (λ leaves. ap bit (ap (λ b. after and b (row_holds and (values_of all (spelled g leaves bits)))) (constant_is g leaves and) ∙ after_first and (row_holds and (values_of all (spelled g leaves bits)))))

  operand_gives : {m : _} (a : Row_of-Expr m) (g : Graph) (bits : List ℕ) → OperandFormed a (length bits) → IsWellFormed g → AreLiterals g bits →
      GivesWord g (operand_of a g bits).0 (operand_of a g bits).1 (operand_width a) (λ leaves. operand_value a (spelled g leaves bits))
  operand_gives end_of-Expr g bits f well l = absurd f
  operand_gives (more_of-Expr e rest) g bits f well l = word_gives e g bits f well l

  row_gives : {m : _} (row : Row_of-Expr m) (and : Bool) (g : Graph) (x : ℕ) (bits : List ℕ) → AreFormed row (length bits) → IsWellFormed g → IsLiteral g x → AreLiterals g bits →
      Gives g (row_of row and g x bits).0 (row_of row and g x bits).1 (λ leaves. after and (aig.value_of g leaves x) (row_holds and (values_of row (spelled g leaves bits))))
  row_gives end_of-Expr and g x bits f well lx l =
      onwards_bit (λ leaves. after and (aig.value_of g leaves x) and) (Extends-refl g) (itself g x well lx) (λ leaves len. sym (after_last and (aig.value_of g leaves x)))
  row_gives (more_of-Expr e rest) and g x bits f well lx l =
      let w = word_gives e g bits f.0 well l in
      let t = test_made g _ (word_of e g bits).1 (width_of e) (λ leaves. value_of e (spelled g leaves bits)) w in
      let s = logic_made and g _ x _ (λ leaves. aig.value_of g leaves x) (λ leaves. not (nat_eq (value_of e (spelled g leaves bits)) 0)) (lasts_bit (itself g x well lx) t.extends t.well_formed) t in
      onwards_bit (λ leaves. after and (aig.value_of g leaves x) (row_holds and (values_of (more_of-Expr e rest) (spelled g leaves bits)))) s.extends
      (row_gives rest and _ _ bits f.1 s.well_formed s.literal (AreLiterals-Extends g _ bits s.extends l))
      (λ leaves len.
      (λ j. after and (s.value leaves len j) (row_holds and (values_of rest (spelled-Extends g _ leaves bits s.extends len l j))))
      ∙ sym (after_cons and (aig.value_of g leaves x) (not (nat_eq (value_of e (spelled g leaves bits)) 0)) (row_holds and (values_of rest (spelled g leaves bits)))))

pub test_gives : (e : Expr) (g : Graph) (bits : List ℕ) → IsFormed e (length bits) → IsWellFormed g → AreLiterals g bits →
    Gives g (test_of e g bits).0 (test_of e g bits).1 (λ leaves. not (nat_eq (value_of e (spelled g leaves bits)) 0))
test_gives e g bits f well l = test_made g _ (word_of e g bits).1 (width_of e) (λ leaves. value_of e (spelled g leaves bits)) (word_gives e g bits f well l)
