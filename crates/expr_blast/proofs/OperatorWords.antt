-- What the circuits of operators give.
use Rattle.std.proofs.Common.{◌≡◌, ℕ, zero, suc, ◌+◌, ◌-◌, ◌*◌, ◌^◌, ◌≤◌, nat_eq, Bool, true, false, not, ◌&&◌, ◌||◌, cond, List, [], ◌∷◌, ◌++◌, length, replicate, refl, sym, ap, ◌∙◌, subst, length-append, arith}
use Rattle.std.proofs.lemmas.List.{map-append, length-replicate}
use Rattle.std.proofs.Math.Nat.{suc-mul}
use Rattle.aig_core.specs.Graph.{Graph, value_of, IsLiteral, IsWellFormed, Gives}
use Rattle.aig_core.proofs.Values.{value_of-zero, Extends-refl}
use Rattle.aig_core.proofs.AndLaw.{and_gives}
use Rattle.word_core.specs.Words.{bit, number_of, bits_of, all, any, odd, word_not, word_join, word_less, word_extend}
use Rattle.word_blast.specs.Words.{spelled, word_value, AreLiterals, GivesWord, one_bit, top_literal, circuit_not, circuit_less}
use Rattle.word_blast.proofs.BitLaws.{or_gives}
use Rattle.word_blast.proofs.Combinators.{spelled_width, word_as}
use Rattle.word_blast.proofs.OperatorLaws.{spelled_bits, not_gives, neg_gives, and_word_gives, or_word_gives, xor_word_gives, xnor_word_gives, equal_gives, less_gives, add_gives, sub_gives, any_gives, all_gives, odd_gives, AreLiterals-replicate, spelled-replicate}
use Rattle.word_blast.proofs.ProductLaws.{mul_gives}
use Rattle.word_blast.proofs.ShiftLaws.{shl_gives, shr_gives, top_exists}
use Rattle.bit_exprs.specs.declared.forms.UnaryOp.{UnaryOp}
use Rattle.bit_exprs.specs.declared.forms.UnaryOp.TheVariants as one
use Rattle.bit_exprs.specs.declared.forms.BinaryOp.{BinaryOp}
use Rattle.bit_exprs.specs.declared.forms.BinaryOp.TheVariants.{Add, Sub, Mul, And, Or, Xor, Xnor, Equal, NotEqual, Less, LessEqual, Greater, GreaterEqual, Shl, Shr, Join}
use Rattle.bit_exprs.specs.Operators.{unary_width, unary_value, binary_width, binary_value, repeated}
use Rattle.bit_exprs.specs.Formed.{Takes, TakesBoth}
use Rattle.expr_blast.specs.Circuits.{turned, extended, copies, unary_of, binary_of, logic_of}
use Rattle.expr_blast.proofs.Growing.{onwards, AreLiterals-append}
use Rattle.expr_blast.proofs.Numbers.{number_of-append, top_of, extended_number}

-- ---- one bit

turned_bit : (b : Bool) → word_not 1 (bit b) ≡ bit (not b)
turned_bit true = refl
turned_bit false = refl

turned_gives : {g h : Graph} {rs : List ℕ} (v w : List Bool → Bool) → GivesWord g h rs 1 (λ leaves. bit (v leaves)) → ((leaves : List Bool) → not (v leaves) ≡ w leaves) → GivesWord g (turned (h, rs)).0 (turned (h, rs)).1 1 (λ leaves. bit (w leaves))
turned_gives {g} {h} {rs} v w a same =
    onwards (λ leaves. bit (w leaves)) a.extends
    (subst (λ n. GivesWord h h (circuit_not h rs).1 n (λ leaves. word_not n (word_value h leaves rs))) a.width_is (not_gives h rs a.well_formed a.literals))
    (λ leaves len. ap (word_not 1) (a.value leaves len) ∙ turned_bit (v leaves) ∙ ap bit (same leaves))

-- ---- other widths

word_value-append : (g : Graph) (leaves : List Bool) (xs ys : List ℕ) → word_value g leaves (xs ++ ys) ≡ word_value g leaves xs + 2 ^ length xs * word_value g leaves ys
word_value-append g leaves xs ys =
    ap number_of (map-append (value_of g leaves) xs ys) ∙ number_of-append (spelled g leaves xs) (spelled g leaves ys)
    ∙ ap (λ n. word_value g leaves xs + 2 ^ n * word_value g leaves ys) (spelled_width g leaves xs)

top_read : (g : Graph) (leaves : List Bool) (xs : List ℕ) → value_of g leaves (top_literal xs) ≡ top_of (spelled g leaves xs)
top_read g leaves [] = value_of-zero g leaves
top_read g leaves (x ∷ []) = refl
top_read g leaves (x ∷ y ∷ xs) = top_read g leaves (y ∷ xs)

sign_exists : (g : Graph) (signed : Bool) (xs : List ℕ) → AreLiterals g xs → IsLiteral g (cond signed (top_literal xs) 0)
sign_exists g true xs l = top_exists g xs l
sign_exists g false xs l = omega arith

sign_read : (g : Graph) (leaves : List Bool) (signed : Bool) (xs : List ℕ) → value_of g leaves (cond signed (top_literal xs) 0) ≡ cond signed (top_of (spelled g leaves xs)) false
sign_read g leaves true xs = top_read g leaves xs
sign_read g leaves false xs = value_of-zero g leaves

module _ (g : Graph) (xs : List ℕ) (well : IsWellFormed g) (lxs : AreLiterals g xs) where
  extended_gives : (width : ℕ) (signed : Bool) → 1 ≤ length xs → length xs ≤ width → GivesWord g g (extended width signed xs) width (λ leaves. word_extend (length xs) width signed (word_value g leaves xs))
  extended_gives width signed some le = record {
    extends = Extends-refl g;
    well_formed = well;
    width_is = omega (arith, length-append xs (replicate (width - length xs) (cond signed (top_literal xs) 0)), length-replicate (width - length xs) (cond signed (top_literal xs) 0));
    literals = AreLiterals-append g xs _ lxs (AreLiterals-replicate g (width - length xs) _ (sign_exists g signed xs lxs));
    value = λ leaves len.
        let wide = spelled_width g leaves xs in
        ap number_of (map-append (value_of g leaves) xs (replicate (width - length xs) (cond signed (top_literal xs) 0)))
        ∙ ap (λ bs. number_of (spelled g leaves xs ++ bs)) (spelled-replicate g leaves (width - length xs) (cond signed (top_literal xs) 0))
        ∙ (λ j. number_of (spelled g leaves xs ++ replicate (width - sym wide j) (sign_read g leaves signed xs j)))
        ∙ extended_number (spelled g leaves xs) width signed (omega (arith, wide)) (omega (arith, wide))
        ∙ ap (λ n. word_extend n width signed (word_value g leaves xs)) wide;
  }

  copies_width : (n : ℕ) → length (copies n xs) ≡ n * length xs
  copies_width zero = omega arith
  copies_width (suc n) = omega (arith, length-append xs (copies n xs), copies_width n, suc-mul n (length xs))

  copies_literals : (n : ℕ) → AreLiterals g (copies n xs)
  copies_literals zero = tt
  copies_literals (suc n) = AreLiterals-append g xs (copies n xs) lxs (copies_literals n)

  joined : (leaves : List Bool) (ys : List ℕ) (n : ℕ) → word_value g leaves ys ≡ n → word_value g leaves (xs ++ ys) ≡ word_join (length xs) n (word_value g leaves xs)
  joined leaves ys n e = word_value-append g leaves xs ys ∙ ap (λ m. word_value g leaves xs + 2 ^ length xs * m) e ∙ turn (word_value g leaves xs) (2 ^ length xs) n
    where
      turn : (a p m : ℕ) → a + p * m ≡ m * p + a
      turn a p m = omega arith

  copies_value : (leaves : List Bool) (n : ℕ) → word_value g leaves (copies n xs) ≡ repeated n (length xs) (word_value g leaves xs)
  copies_value leaves zero = refl
  copies_value leaves (suc n) = joined leaves (copies n xs) (repeated n (length xs) (word_value g leaves xs)) (copies_value leaves n)

  -- ---- on one word

  abbrev GivesUnary : UnaryOp → Type 0
  GivesUnary op = GivesWord g (unary_of op g xs).0 (unary_of op g xs).1 (unary_width op (length xs)) (λ leaves. unary_value op (length xs) (word_value g leaves xs))

  -- a reduction, whose bits are those of the number
  reduced_as : {h : Graph} {rs : List ℕ} (f : List Bool → Bool) → GivesWord g h rs 1 (λ leaves. bit (f (spelled g leaves xs))) → GivesWord g h rs 1 (λ leaves. bit (f (bits_of (length xs) (word_value g leaves xs))))
  reduced_as f a = word_as (λ leaves. bit (f (bits_of (length xs) (word_value g leaves xs)))) a (λ leaves. ap (λ bs. bit (f bs)) (sym (spelled_bits g leaves xs (length xs) refl)))

  turned_as : {h : Graph} {rs : List ℕ} (f : List Bool → Bool) → GivesWord g h rs 1 (λ leaves. bit (f (spelled g leaves xs))) →
      GivesWord g (turned (h, rs)).0 (turned (h, rs)).1 1 (λ leaves. bit (not (f (bits_of (length xs) (word_value g leaves xs)))))
  turned_as f a = turned_gives (λ leaves. f (spelled g leaves xs)) (λ leaves. not (f (bits_of (length xs) (word_value g leaves xs)))) a (λ leaves. ap (λ bs. not (f bs)) (sym (spelled_bits g leaves xs (length xs) refl)))

  pub unary_gives : (op : UnaryOp) → 1 ≤ length xs → Takes op (length xs) → GivesUnary op
  unary_gives one.Not some t = not_gives g xs well lxs
  unary_gives one.Neg some t = neg_gives g xs well lxs
  unary_gives (one.Extend width signed) some t = extended_gives width signed some t.0
  unary_gives (one.Repeat count) some t = record { extends = Extends-refl g; well_formed = well; width_is = copies_width count; literals = copies_literals count; value = λ leaves len. copies_value leaves count }
  unary_gives one.All some t = reduced_as all (all_gives g xs well lxs)
  unary_gives one.NotAll some t = turned_as all (all_gives g xs well lxs)
  unary_gives one.Any some t = reduced_as any (any_gives g xs well lxs)
  unary_gives one.NotAny some t = turned_as any (any_gives g xs well lxs)
  unary_gives one.Odd some t = reduced_as odd (odd_gives g xs well lxs)
  unary_gives one.NotOdd some t = turned_as odd (odd_gives g xs well lxs)

-- ---- on two words

module _ (g : Graph) (xs ys : List ℕ) (well : IsWellFormed g) (lxs : AreLiterals g xs) (lys : AreLiterals g ys) (signed : Bool) (some : 1 ≤ length xs) where
  abbrev GivesBinary : BinaryOp → Type 0
  GivesBinary op =
      GivesWord g (binary_of op signed g xs ys).0 (binary_of op signed g xs ys).1 (binary_width op (length xs) (length ys))
      (λ leaves. binary_value op signed (length xs) (length ys) (word_value g leaves xs) (word_value g leaves ys))

  -- the order of the words, and of the words the other way round
  below : length ys ≡ length xs → GivesWord g (one_bit (circuit_less g signed xs ys)).0 (one_bit (circuit_less g signed xs ys)).1 1 (λ leaves. bit (word_less (length xs) signed (word_value g leaves xs) (word_value g leaves ys)))
  below len = less_gives g xs ys well lxs lys len some signed

  above : length ys ≡ length xs → GivesWord g (one_bit (circuit_less g signed ys xs)).0 (one_bit (circuit_less g signed ys xs)).1 1 (λ leaves. bit (word_less (length xs) signed (word_value g leaves ys) (word_value g leaves xs)))
  above len =
      word_as (λ leaves. bit (word_less (length xs) signed (word_value g leaves ys) (word_value g leaves xs))) (less_gives g ys xs well lys lxs (sym len) (omega arith) signed)
      (λ leaves. ap (λ n. bit (word_less n signed (word_value g leaves ys) (word_value g leaves xs))) len)

  pub binary_gives : (op : BinaryOp) → TakesBoth op (length xs) (length ys) → GivesBinary op
  binary_gives Add t = add_gives g xs ys well lxs lys t
  binary_gives Sub t = sub_gives g xs ys well lxs lys t
  binary_gives Mul t = mul_gives g xs ys well lxs lys
  binary_gives And t = and_word_gives g xs ys well lxs lys t
  binary_gives Or t = or_word_gives g xs ys well lxs lys t
  binary_gives Xor t = xor_word_gives g xs ys well lxs lys t
  binary_gives Xnor t = xnor_word_gives g xs ys well lxs lys t
  binary_gives Equal t = equal_gives g xs ys well lxs lys t
  binary_gives NotEqual t = turned_gives (λ leaves. nat_eq (word_value g leaves xs) (word_value g leaves ys)) (λ leaves. not (nat_eq (word_value g leaves xs) (word_value g leaves ys))) (equal_gives g xs ys well lxs lys t) (λ leaves. refl)
  binary_gives Less t = below t
  binary_gives LessEqual t = turned_gives (λ leaves. word_less (length xs) signed (word_value g leaves ys) (word_value g leaves xs)) (λ leaves. not (word_less (length xs) signed (word_value g leaves ys) (word_value g leaves xs))) (above t) (λ leaves. refl)
  binary_gives Greater t = above t
  binary_gives GreaterEqual t = turned_gives (λ leaves. word_less (length xs) signed (word_value g leaves xs) (word_value g leaves ys)) (λ leaves. not (word_less (length xs) signed (word_value g leaves xs) (word_value g leaves ys))) (below t) (λ leaves. refl)
  binary_gives Shl t = shl_gives g xs ys well lxs lys
  binary_gives Shr t = shr_gives g xs ys well lxs lys
  binary_gives Join t = record {
    extends = Extends-refl g;
    well_formed = well;
    width_is = omega (arith, length-append ys xs);
    literals = AreLiterals-append g ys xs lys lxs;
    value = λ leaves len. joined g ys well lys leaves xs (word_value g leaves xs) refl;
  }

-- ---- rows

pub logic_gives : (and : Bool) (g : Graph) (x y : ℕ) → IsWellFormed g → IsLiteral g x → IsLiteral g y →
    Gives g (logic_of and g x y).0 (logic_of and g x y).1 (λ leaves. cond and (value_of g leaves x && value_of g leaves y) (value_of g leaves x || value_of g leaves y))
logic_gives true g x y well lx ly = and_gives g x y well lx ly
logic_gives false g x y well lx ly = or_gives g x y well lx ly
