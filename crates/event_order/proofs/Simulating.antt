-- What a simulated cycle is.
use Rattle.std.proofs.Common.{◌≡◌, ℕ, zero, suc, map, replicate, Bool, false, List, [], ◌∷◌, ◌++◌, refl, ap, ◌∙◌, subst, length, take, drop, ◌≤◌, arith}
use Rattle.std.specs.Prelude.{zip}
use Rattle.std.proofs.lemmas.List.{append-nil, drop_all, take_all, length-replicate}
use Rattle.design_core.specs.declared.flat.Process.{Process}
use Rattle.design_core.specs.declared.flat.Design.{Design}
use Rattle.design_core.specs.Ordered.{Ordered}
use Rattle.design_core.specs.Legality.{IsLegal}
use Rattle.bit_exprs.proofs.Performing.{length-perform}
use Rattle.design_core.proofs.OneSettling.{alike}
use Rattle.design_core.proofs.Settling.{registers_put}
use Rattle.event_order.specs.Cycles.{begun}
use Rattle.event_order.specs.Registers.{registers_in}
use Rattle.event_order.specs.Ready.{IsReady}
use Rattle.event_order.specs.Sims.{between, started, Turns, Simulated, AllCanEnd}
use Rattle.event_order.proofs.Drivers.{one_driver_each}
use Rattle.event_order.proofs.Settled.{cycle_is}
use Rattle.event_order.proofs.Ending.{ends}
use Rattle.event_order.proofs.Turning.{turns_cycle}

-- what is written over the whole of a list
pub written : (n : ℕ) (a b : List Bool) → n ≡ length b → length a ≡ length b → take n (a ++ drop (length a) b) ≡ a
written n a b len same =
    let past : length b ≤ length a = omega arith in
    let whole : length a ≤ n = omega arith in
    ap (λ x. take n (a ++ x)) (drop_all (length a) b past) ∙ ap (take n) (append-nil a) ∙ take_all n a whole

pub simulated : (l : Ordered) (x : ℕ) (is_fresh : Bool) (held i v w : List Bool) (n : ℕ) → IsLegal l.design l.order → length i ≡ length l.design.inputs → IsReady l.design (between l.design is_fresh held) →
    Turns l.design x (begun l.design i (between l.design is_fresh held)) v (between l.design false w) n → Simulated l is_fresh held i v w
simulated l x is_fresh held i v w n legal long ready turns =
    let d = l.design in
    let one = one_driver_each d l.order legal in
    let here = cycle_is d l.order legal one i (between d is_fresh held) v (between d false w) ready long (turns_cycle d x i (between d is_fresh held) v w n turns) in
    record {
      settled = here.settled;
      registers = here.registers;
      every = record {
        each = λ u t c.
            let other = cycle_is d l.order legal one i (between d is_fresh held) u t ready long c in
            let same = alike d l.order legal (registers_in d held) i u v other.settled here.settled in
            (same, other.registers ∙ same.next);
      };
      ready = here.ready;
    }

pub turns_same : (d d' : Design) (x : ℕ) (is_fresh : Bool) (held held' i v w : List Bool) (n : ℕ) → d' ≡ d → held' ≡ held →
    Turns d' x (begun d' i (between d' is_fresh held')) v (between d' false w) n → Turns d x (begun d i (between d is_fresh held)) v (between d false w) n
turns_same d d' x is_fresh held held' i v w n same kept h =
    subst (λ u. Turns d x (begun d i (between d is_fresh u)) v (between d false w) n) kept
    (subst (λ a. Turns a x (begun a i (between a is_fresh held')) v (between a false w) n) same h)

pub false_flags : (ps : List Process) (n : ℕ) → n ≡ length ps → replicate n false ≡ map (λ (p : Process). false) ps
false_flags [] zero len = refl
false_flags [] (suc n) len = absurd (omega arith)
false_flags (p ∷ ps) zero len = absurd (omega arith)
false_flags (p ∷ ps) (suc n) len = ap (λ fs. false ∷ fs) (false_flags ps n (omega arith))

pub started_wide : (d : Design) (start : List Bool) → length (started d start) ≡ length d.bits
started_wide d start = length-perform (zip d.registers start) (replicate (length d.bits) false) ∙ length-replicate (length d.bits) false

pub started_registers : (d : Design) (order : List ℕ) (start : List Bool) → IsLegal d order → length start ≡ length d.registers → registers_in d (started d start) ≡ start
started_registers d order start legal wide =
    registers_put d start (replicate (length d.bits) false) (started d start) legal.registers_distinct legal.registers_within (length-replicate (length d.bits) false) wide refl

pub all_can_end : (d : Design) (order : List ℕ) → IsLegal d order → AllCanEnd d
all_can_end d order legal = record { each = λ s long. ends d order legal s long }
