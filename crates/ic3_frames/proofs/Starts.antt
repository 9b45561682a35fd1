-- A start makes a lemma true where the starting values make a literal true.
use Rattle.std.proofs.Common.{◌≡◌, ◌<◌, Bool, true, false, not, cond, ◌||◌, Option, Some, None, List, [], ◌∷◌, length, get_or, refl, ◌∙◌}
use Rattle.std.specs.Prelude.{All as Each}
use Rattle.std.specs.List.{list_any}
use Rattle.std.proofs.lemmas.List.Elements.{All-head, All-tail}
use Rattle.cnf_core.proofs.Truth.{same_sign-same}
use Rattle.bit_system.specs.declared.ladder.StateLit.{StateLit}
use Rattle.bit_system.specs.declared.ladder.Lemma.{Lemma}
use Rattle.bit_system.specs.Machine.{Machine, IsStart}
use Rattle.bit_system.specs.Ladders.{HasStates, lit_true, lemma_true}
use Rattle.bit_system.specs.Accepted.{starts_as, true_at_start}

with-sign : (p v : Bool) → v ≡ p → cond p v (not v) ≡ true
with-sign true v e = e
with-sign false v e = rw e refl

lit-holds : (o : Option Bool) (p v : Bool) → ((b : Bool) → o ≡ Some b → v ≡ b) → starts_as o p ≡ true → cond p v (not v) ≡ true
lit-holds None p v h e = absurd cc
lit-holds (Some b) p v h e = with-sign p v (h b refl ∙ same_sign-same b p e)

or-right : (a b : Bool) → b ≡ true → (a || b) ≡ true
or-right true b e = refl
or-right false b e = e

or-both : (a b c d : Bool) → (a || b) ≡ true → (a ≡ true → c ≡ true) → (b ≡ true → d ≡ true) → (c || d) ≡ true
or-both true b c d e f g = rw (f refl) refl
or-both false b c d e f g = or-right c d (g e)

module _ (m : Machine) (s : List Bool) (st : IsStart m s) where
  any-holds : (lits : List StateLit) → Each (λ l. l.state < length m.states) lits →
      list_any (λ l. starts_as (get_or m.states l.state (record { name = []; start = None })).start l.positive) lits ≡ true → list_any (lit_true s) lits ≡ true
  any-holds [] h e = absurd cc
  any-holds (l ∷ ls) h e =
      or-both (starts_as (get_or m.states l.state (record { name = []; start = None })).start l.positive)
      (list_any (λ l. starts_as (get_or m.states l.state (record { name = []; start = None })).start l.positive) ls)
      (lit_true s l) (list_any (lit_true s) ls) e
      (lit-holds (get_or m.states l.state (record { name = []; start = None })).start l.positive (get_or s l.state false)
      (λ b is. st.agrees l.state b (record { name = []; start = None }) (All-head (λ (l : StateLit). l.state < length m.states) l ls h) is))
      (any-holds ls (All-tail (λ (l : StateLit). l.state < length m.states) l ls h))

pub start_holds : (m : Machine) (s : List Bool) (l : Lemma) → IsStart m s → HasStates m l → true_at_start m l ≡ true → lemma_true s l ≡ true
start_holds m s l st h e = any-holds m s st l.lits h e
