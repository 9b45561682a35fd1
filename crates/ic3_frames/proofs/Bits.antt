-- Literals, cubes and lemmas, before and after a step.
use Rattle.std.proofs.Common.{◌≡◌, ℕ, ◌<◌, Bool, true, false, not, cond, ◌&&◌, ◌||◌, List, [], ◌∷◌, ◌++◌, map, length, get_or, refl, sym, ap, ◌∙◌, arith}
use Rattle.std.specs.Prelude.{All as Each}
use Rattle.std.specs.List.{list_any, list_all}
use Rattle.std.proofs.lemmas.List.{get_or-map, length-map}
use Rattle.std.proofs.lemmas.List.Elements.{All-nil, All-cons, All-head, All-tail}
use Rattle.aig_core.specs.Graph.{IsLiteral, negation}
use Rattle.aig_core.proofs.Values.{value_of-negation, IsLiteral-negation}
use Rattle.bit_system.specs.declared.ladder.Depth.{Depth}
use Rattle.bit_system.specs.declared.ladder.StateLit.{StateLit}
use Rattle.bit_system.specs.Machine.{Machine, IsMachine, IsState, next_literal, next_state, value_in_step}
use Rattle.bit_system.specs.Ladders.{lit_true, lemma_true}
use Rattle.bit_system.specs.Queries.{false_after}
use Rattle.generalise.specs.Cubes.{opposite, in_cube, HasBits, lemma_of}
use Rattle.ic3_frames.specs.Queries.{true_after, all_true_after}

-- ---- truth

pub not_not : (b : Bool) → not (not b) ≡ b
not_not true = refl
not_not false = refl

pub not_true : (b : Bool) → not b ≡ true → b ≡ false
not_true true e = sym e
not_true false e = refl

pub not_false : (b : Bool) → not b ≡ false → b ≡ true
not_false true e = refl
not_false false e = sym e

or-first : (a b : Bool) → (a || b) ≡ false → a ≡ false
or-first true b h = h
or-first false b h = refl

or-second : (a b : Bool) → (a || b) ≡ false → b ≡ false
or-second true b h = absurd cc
or-second false b h = h

neither : (a b : Bool) → a ≡ false → b ≡ false → (a || b) ≡ false
neither true b p q = p
neither false b p q = q

and-first : (a b : Bool) → (a && b) ≡ true → a ≡ true
and-first true b h = refl
and-first false b h = h

and-second : (a b : Bool) → (a && b) ≡ true → b ≡ true
and-second true b h = h
and-second false b h = absurd cc

both : (a b : Bool) → a ≡ true → b ≡ true → (a && b) ≡ true
both true b p q = q
both false b p q = p

-- ---- a cube and its lemma

opposite-true : (p v : Bool) → cond (not p) v (not v) ≡ not (cond p v (not v))
opposite-true true v = refl
opposite-true false v = sym (not_not v)

neither-both : (a b : Bool) → (not a || not b) ≡ not (a && b)
neither-both true b = refl
neither-both false b = refl

any-opposite : (s : List Bool) (cube : List StateLit) → list_any (lit_true s) (map opposite cube) ≡ not (list_all (lit_true s) cube)
any-opposite s [] = refl
any-opposite s (l ∷ ls) =
    ap (λ (b : Bool). b || list_any (lit_true s) (map opposite ls)) (opposite-true l.positive (get_or s l.state false))
    ∙ ap (λ (b : Bool). not (lit_true s l) || b) (any-opposite s ls)
    ∙ neither-both (lit_true s l) (list_all (lit_true s) ls)

-- the lemma holds outside the cube
pub lemma_outside : (s : List Bool) (level : Depth) (cube : List StateLit) → lemma_true s (lemma_of level cube) ≡ not (in_cube s cube)
lemma_outside s level cube = any-opposite s cube

-- ---- the opposite of the opposite

opposite-twice : (l : StateLit) → opposite (opposite l) ≡ l
opposite-twice l = ap (λ (p : Bool). record { state = l.state; positive = p }) (not_not l.positive)

pub twice : (lits : List StateLit) → map opposite (map opposite lits) ≡ lits
twice [] = refl
twice (l ∷ ls) = ap (λ (k : StateLit). k ∷ map opposite (map opposite ls)) (opposite-twice l) ∙ ap (λ (ks : List StateLit). l ∷ ks) (twice ls)

pub bits_opposite : (m : Machine) (lits : List StateLit) → HasBits m lits → HasBits m (map opposite lits)
bits_opposite m [] h = All-nil (λ (l : StateLit). l.state < length m.states)
bits_opposite m (l ∷ ls) h =
    All-cons (λ (l : StateLit). l.state < length m.states) (opposite l) (map opposite ls)
    (All-head (λ (l : StateLit). l.state < length m.states) l ls h)
    (bits_opposite m ls (All-tail (λ (l : StateLit). l.state < length m.states) l ls h))

-- ---- after a step

module _ (m : Machine) (v : IsMachine m) where
  literal-exists : (i : ℕ) → i < length m.states → IsLiteral m.graph (next_literal m i)
  literal-exists i low = v.next_exist i 0 (omega (arith, v.next_count))

  false-exists : (l : StateLit) → l.state < length m.states → IsLiteral m.graph (false_after m l)
  false-exists l low = by l.positive
    where
      by : (p : Bool) → IsLiteral m.graph (cond p (negation (next_literal m l.state)) (next_literal m l.state))
      by true = IsLiteral-negation m.graph (next_literal m l.state) (literal-exists l.state low)
      by false = literal-exists l.state low

  pub all_false_exist : (lits : List StateLit) → HasBits m lits → Each (IsLiteral m.graph) (map (false_after m) lits)
  all_false_exist [] h = All-nil (IsLiteral m.graph)
  all_false_exist (l ∷ ls) h =
      All-cons (IsLiteral m.graph) (false_after m l) (map (false_after m) ls)
      (false-exists l (All-head (λ (l : StateLit). l.state < length m.states) l ls h))
      (all_false_exist ls (All-tail (λ (l : StateLit). l.state < length m.states) l ls h))

  module _ (s x : List Bool) where
    pub is_state_after : IsState m (next_state m s x)
    is_state_after = omega (arith, v.next_count, length-map m.next (value_in_step m s x))

    bit-after : (i : ℕ) → i < length m.states → get_or (next_state m s x) i false ≡ value_in_step m s x (next_literal m i)
    bit-after i h = get_or-map (value_in_step m s x) m.next i 0 false (omega (arith, v.next_count))

    false-value : (l : StateLit) → l.state < length m.states → value_in_step m s x (false_after m l) ≡ not (lit_true (next_state m s x) l)
    false-value l low = by l.positive (bit-after l.state low)
      where
        by : (p : Bool) → get_or (next_state m s x) l.state false ≡ value_in_step m s x (next_literal m l.state)
            → value_in_step m s x (cond p (negation (next_literal m l.state)) (next_literal m l.state))
            ≡ not (cond p (get_or (next_state m s x) l.state false) (not (get_or (next_state m s x) l.state false)))
        by true e = value_of-negation m.graph (x ++ s) (next_literal m l.state) ∙ ap not (sym e)
        by false e = sym e ∙ sym (not_not (get_or (next_state m s x) l.state false))

    true-value : (l : StateLit) → l.state < length m.states → value_in_step m s x (true_after m l) ≡ lit_true (next_state m s x) l
    true-value l low = by l.positive (bit-after l.state low)
      where
        by : (p : Bool) → get_or (next_state m s x) l.state false ≡ value_in_step m s x (next_literal m l.state)
            → value_in_step m s x (cond p (next_literal m l.state) (negation (next_literal m l.state)))
            ≡ cond p (get_or (next_state m s x) l.state false) (not (get_or (next_state m s x) l.state false))
        by true e = sym e
        by false e = value_of-negation m.graph (x ++ s) (next_literal m l.state) ∙ ap not (sym e)

    abbrev Holds : ℕ → Type 0
    Holds y = value_in_step m s x y ≡ true

    pub none_after : (lits : List StateLit) → HasBits m lits → Each Holds (map (false_after m) lits) → list_any (lit_true (next_state m s x)) lits ≡ false
    none_after [] h e = refl
    none_after (l ∷ ls) h e =
        neither (lit_true (next_state m s x) l) (list_any (lit_true (next_state m s x)) ls)
        (not_true (lit_true (next_state m s x) l)
        (sym (false-value l (All-head (λ (l : StateLit). l.state < length m.states) l ls h)) ∙ All-head Holds (false_after m l) (map (false_after m) ls) e))
        (none_after ls (All-tail (λ (l : StateLit). l.state < length m.states) l ls h) (All-tail Holds (false_after m l) (map (false_after m) ls) e))

    pub after_none : (lits : List StateLit) → HasBits m lits → list_any (lit_true (next_state m s x)) lits ≡ false → Each Holds (map (false_after m) lits)
    after_none [] h e = All-nil Holds
    after_none (l ∷ ls) h e =
        All-cons Holds (false_after m l) (map (false_after m) ls)
        (false-value l (All-head (λ (l : StateLit). l.state < length m.states) l ls h)
        ∙ ap not (or-first (lit_true (next_state m s x) l) (list_any (lit_true (next_state m s x)) ls) e))
        (after_none ls (All-tail (λ (l : StateLit). l.state < length m.states) l ls h)
        (or-second (lit_true (next_state m s x) l) (list_any (lit_true (next_state m s x)) ls) e))

    pub all_after : (cube : List StateLit) → HasBits m cube → Each Holds (all_true_after m cube) → in_cube (next_state m s x) cube ≡ true
    all_after [] h e = refl
    all_after (l ∷ ls) h e =
        both (lit_true (next_state m s x) l) (in_cube (next_state m s x) ls)
        (sym (true-value l (All-head (λ (l : StateLit). l.state < length m.states) l ls h)) ∙ All-head Holds (true_after m l) (all_true_after m ls) e)
        (all_after ls (All-tail (λ (l : StateLit). l.state < length m.states) l ls h) (All-tail Holds (true_after m l) (all_true_after m ls) e))

    pub after_all : (cube : List StateLit) → HasBits m cube → in_cube (next_state m s x) cube ≡ true → Each Holds (all_true_after m cube)
    after_all [] h e = All-nil Holds
    after_all (l ∷ ls) h e =
        All-cons Holds (true_after m l) (all_true_after m ls)
        (true-value l (All-head (λ (l : StateLit). l.state < length m.states) l ls h)
        ∙ and-first (lit_true (next_state m s x) l) (in_cube (next_state m s x) ls) e)
        (after_all ls (All-tail (λ (l : StateLit). l.state < length m.states) l ls h)
        (and-second (lit_true (next_state m s x) l) (in_cube (next_state m s x) ls) e))
