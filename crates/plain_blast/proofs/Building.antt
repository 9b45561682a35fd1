-- Processes, as the code goes over them, and the system that it makes in the end.
use Rattle.std.proofs.Common.{◌≡◌, ℕ, ◌<◌, List, [], length, map, All, get_or, sym, ap, ◌∙◌, subst}
use Rattle.std.proofs.lemmas.List.{length-map, get_or-map, get_or_default}
use Rattle.design_core.specs.declared.flat.BitInfo.{BitInfo}
use Rattle.design_core.specs.declared.flat.Process.{Process}
use Rattle.design_core.specs.declared.flat.Design.{Design}
use Rattle.design_core.specs.Bounds.{IsWithin}
use Rattle.design_core.specs.Legality.{idle, process_at, bodies}
use Rattle.aig_core.specs.Graph.{Graph, IsLiteral, Extends}
use Rattle.bit_system.specs.declared.system.StateInfo.{StateInfo}
use Rattle.bit_system.specs.Machine.{Machine}
use Rattle.plain_blast.specs.declared.bodies.Passed.{Passed}
use Rattle.expr_blast.specs.Circuits.{literal_at}
use Rattle.plain_blast.specs.Plain.{state_of, first_graph, first_literals, process_of, hits_of, plain_of, wiring}
use Rattle.plain_blast.proofs.Existing.{all_kept, picked_exist}

-- a body of the order, as the code finds it
pub body_at : (d : Design) (order : List ℕ) (ps : List Process) (i : ℕ) (p : Process) → i < length order →
    get_or order i 0 < length d.processes → ps ≡ d.processes → p ≡ get_or ps (get_or order i 0) p → p.body ≡ get_or (bodies d order) i p.body
body_at d order ps i p lt named listed is =
    ap (λ (q : Process). q.body) (is ∙ ap (λ (qs : List Process). get_or qs (get_or order i 0) p) listed ∙ get_or_default d.processes (get_or order i 0) p idle named)
    ∙ sym (get_or-map (λ k. (process_at d k).body) order i 0 p.body lt)

pub bodies_long : (d : Design) (order : List ℕ) (i : ℕ) → i < length order → i < length (bodies d order)
bodies_long d order i lt = rw length-map lt

pub process_within : (ps qs : List Process) (k : ℕ) (p : Process) (n bits sites : ℕ) → All (λ (q : Process). IsWithin q.body bits sites) ps → k < length ps → qs ≡ ps → p ≡ get_or qs k p → n ≡ bits →
    IsWithin p.body n sites
process_within ps qs k p n bits sites within lt listed at is =
    rw is (subst (λ (q : Process). IsWithin q.body bits sites) (sym (at ∙ ap (λ (xs : List Process). get_or xs k p) listed)) (within k p lt))

-- what `translate` makes
pub record Built (d : Design) (order sites : List ℕ) (inputs states : ℕ) (g0 g1 g2 : Graph) (first next picked registers hits : List ℕ) (paths : List Passed) (bits : List BitInfo) (infos : List StateInfo) : Type 0 where
  pub input_count : inputs ≡ length d.inputs
  pub state_count : states ≡ length d.registers
  pub made : g0 ≡ record { inputs = inputs; states = states; gates = [] }
  pub listed : first ≡ first_literals d
  pub processed : wiring g1 next paths ≡ process_of d order g0 first
  pub hit : (g2, hits) ≡ hits_of g1 paths sites
  pub registers_are : registers ≡ d.registers
  pub next_is : picked ≡ map (literal_at next) registers
  pub bits_are : bits ≡ d.bits
  pub infos_are : infos ≡ map (state_of bits) registers

module _ (d : Design) (order sites : List ℕ) (inputs states : ℕ) (g0 g1 g2 : Graph) (first next picked registers hits : List ℕ) (paths : List Passed) (bits : List BitInfo) (infos : List StateInfo) where
  pub is_plain : Built d order sites inputs states g0 g1 g2 first next picked registers hits paths bits infos →
      (let m : Machine = record { graph = g2; states = infos; next = picked; hits = hits; prelude = 0 } in m) ≡ plain_of d order sites
  unfolding plain_of
  is_plain b =
      let start : g0 ≡ first_graph d = b.made ∙ (λ j. record { inputs = b.input_count j; states = b.state_count j; gates = [] }) in
      let n : wiring g1 next paths ≡ process_of d order (first_graph d) (first_literals d) = b.processed ∙ (λ j. process_of d order (start j) (b.listed j)) in
      (λ j. let m : Machine = record {
        graph = (b.hit j).0;
        states = (b.infos_are ∙ (λ i. map (state_of (b.bits_are i)) (b.registers_are i))) j;
        next = (b.next_is ∙ ap (map (literal_at next)) b.registers_are) j;
        hits = (b.hit j).1;
        prelude = 0;
      } in m)
      ∙ (λ j. let m : Machine = record {
        graph = (hits_of (n j).graph (n j).paths sites).0;
        states = map (state_of d.bits) d.registers;
        next = map (literal_at (n j).targets) d.registers;
        hits = (hits_of (n j).graph (n j).paths sites).1;
        prelude = 0;
      } in m)

-- the literals picked at the end exist
pub next_exist : (g h : Graph) (xs ys bits rs : List ℕ) (n : ℕ) → Extends g h → All (IsLiteral g) xs → length xs ≡ n → All (λ b. b < n) bits → ys ≡ xs → rs ≡ map (literal_at ys) bits → All (IsLiteral h) rs
next_exist g h xs ys bits rs n e exist long within same is =
    subst (All (IsLiteral h)) (sym (is ∙ ap (λ zs. map (literal_at zs) bits) same)) (all_kept g h (map (literal_at xs) bits) e (picked_exist g xs bits exist (rw long within)))
