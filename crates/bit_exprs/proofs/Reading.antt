-- Values and updates depend on the bits that are read.
use Rattle.std.proofs.Common.{◌≡◌, ℕ, Bool, true, cond, ◌&&◌, ◌||◌, nat_eq, ◌/◌, ◌^◌, List, [], ◌∷◌, ◌++◌, refl, ap, map}
use Rattle.std.proofs.lemmas.Bool.{eq-eqb, or_left, or_right}
use Rattle.word_core.specs.Words.{bit, bits_of, number_of}
use Rattle.bit_exprs.specs.declared.forms.Expr.{Expr, Row_of-Expr, end_of-Expr, more_of-Expr}
use Rattle.bit_exprs.specs.declared.forms.Expr.TheVariants.{Const, Read, Select', Unary', Binary', Choose', Logical'}
use Rattle.bit_exprs.specs.declared.forms.Part.{Part}
use Rattle.bit_exprs.specs.declared.forms.Part.TheVariants as parts
use Rattle.bit_exprs.specs.declared.forms.Target.{Target}
use Rattle.bit_exprs.specs.Operators.{unary_value, binary_value}
use Rattle.bit_exprs.specs.Values.{bit_at, width_of, operand_width, sign_of, operand_sign, selected, row_holds, value_of, operand_value, values_of}
use Rattle.bit_exprs.specs.Updates.{part_width, parts_width, selected_updates, part_updates, parts_updates, updates_of}
use Rattle.bit_exprs.specs.Named.{among, reads, any_reads, part_reads, parts_read, target_reads}

-- the values agree on the known bits
abbrev pub Agree : (ℕ → Bool) → List Bool → List Bool → Type 0
Agree known v w = (b : ℕ) → known b ≡ true → bit_at v b ≡ bit_at w b

pub same_bits : (bits : List ℕ) (v w : List Bool) → Agree (among bits) v w → map (bit_at v) bits ≡ map (bit_at w) bits
same_bits [] v w h = refl
same_bits (a ∷ bits) v w h =
    λ j. h a (or_left (nat_eq a a) (among bits a) (eq-eqb a a refl)) j ∷ same_bits bits v w (λ b r. h b (or_right (nat_eq a b) (among bits b) r)) j

mutual
  pub same_value : (e : Expr) (v w : List Bool) → Agree (reads e) v w → value_of e v ≡ value_of e w
  same_value (Const word signed) v w h = refl
  same_value (Read bits) v w h = ap number_of (same_bits bits v w h)
  same_value (Select' vector window p index) v w h =
      λ j. selected window (same_bits vector v w (λ b r. h b (or_left (among vector b) (any_reads index b) r)) j) (operand_width index) (operand_sign index)
      (same_operand index v w (λ b r. h b (or_right (among vector b) (any_reads index b) r)) j)
  same_value (Unary' op p x) v w h = ap (unary_value op (operand_width x)) (same_operand x v w h)
  same_value (Binary' op p x q y) v w h =
      λ j. binary_value op (operand_sign x && operand_sign y) (operand_width x) (operand_width y)
      (same_operand x v w (λ b r. h b (or_left (any_reads x b) (any_reads y b) r)) j)
      (same_operand y v w (λ b r. h b (or_right (any_reads x b) (any_reads y b) r)) j)
  same_value (Choose' p test q x r y) v w h =
      λ j. cond (nat_eq (same_operand test v w (λ b r. h b (or_left (any_reads test b) (any_reads x b || any_reads y b) r)) j) 0)
      (same_operand y v w (λ b r. h b (or_right (any_reads test b) (any_reads x b || any_reads y b) (or_right (any_reads x b) (any_reads y b) r))) j)
      (same_operand x v w (λ b r. h b (or_right (any_reads test b) (any_reads x b || any_reads y b) (or_left (any_reads x b) (any_reads y b) r))) j)
  same_value (Logical' and chain shape all) v w h = ap (λ xs. bit (row_holds and xs)) (same_values all v w h)

  same_operand : {m : _} (x : Row_of-Expr m) (v w : List Bool) → Agree (any_reads x) v w → operand_value x v ≡ operand_value x w
  same_operand end_of-Expr v w h = refl
  same_operand (more_of-Expr e rest) v w h = same_value e v w (λ b r. h b (or_left (reads e b) (any_reads rest b) r))

  same_values : {m : _} (all : Row_of-Expr m) (v w : List Bool) → Agree (any_reads all) v w → values_of all v ≡ values_of all w
  same_values end_of-Expr v w h = refl
  same_values (more_of-Expr e rest) v w h =
      λ j. same_value e v w (λ b r. h b (or_left (reads e b) (any_reads rest b) r)) j
      ∷ same_values rest v w (λ b r. h b (or_right (reads e b) (any_reads rest b) r)) j

-- ---- updates

same_part : (p : Part) (word v w : List Bool) → Agree (part_reads p) v w → part_updates p word v ≡ part_updates p word w
same_part (parts.Bits bits) word v w h = refl
same_part (parts.Select vector window index) word v w h =
    ap (λ a. selected_updates window vector (width_of index) (sign_of index) a 0 word) (same_value index v w h)
same_part (parts.Outside count) word v w h = refl

same_parts : (ps : List Part) (a : ℕ) (v w : List Bool) → Agree (parts_read ps) v w → parts_updates ps a v ≡ parts_updates ps a w
same_parts [] a v w h = refl
same_parts (p ∷ ps) a v w h =
    λ j. same_part p (bits_of (part_width p) (a / 2 ^ parts_width ps)) v w (λ b r. h b (or_left (part_reads p b) (parts_read ps b) r)) j
    ++ same_parts ps a v w (λ b r. h b (or_right (part_reads p b) (parts_read ps b) r)) j

pub same_updates : (t : Target) (a : ℕ) (v w : List Bool) → Agree (target_reads t) v w → updates_of t a v ≡ updates_of t a w
same_updates t a v w h = same_parts t.parts a v w h
