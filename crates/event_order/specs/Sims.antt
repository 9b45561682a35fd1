-- What a simulator that runs processes in any order is to its callers.
use Rattle.std.specs.Prelude.{ℕ, ◌≡◌, ◌+◌, ◌-◌, ◌^◌, min, Bool, false, cond, List, [], length, map, zip, replicate, refl}
use Rattle.std.specs.Coded.{Coded, code_by, coded×, coded_list, coded_bool, coded_ℕ}
use Rattle.design_core.specs.declared.flat.Design.{Design}
use Rattle.bit_exprs.specs.Updates.{perform}
use Rattle.design_core.specs.Settled.{Settled, next_of}
use Rattle.design_core.specs.Alike.{Alike}
use Rattle.design_core.specs.Ordered.{Ordered, ordered_code}
use Rattle.event_order.specs.States.{State, Fresh, Clocked, IsQuiet}
use Rattle.event_order.specs.Steps.{Step}
use Rattle.event_order.specs.Numbers.{Follows}
use Rattle.event_order.specs.Cycles.{clocked, Cycle}
use Rattle.event_order.specs.Ready.{IsReady}
use Rattle.event_order.specs.Registers.{registers_in}
use Rattle.event_order.specs.Laws.{CanEnd}

-- between two cycles, or before the first, nothing is pending or waiting
abbrev pub between : Design → Bool → List Bool → State
between d is_fresh v = record { values = v; pending = map (λ p. false) d.processes; waiting = []; phase = cond is_fresh Fresh Clocked }

-- the values at the start: the registers have these, and all other bits are 0
abbrev pub started : Design → List Bool → List Bool
started d start = perform (zip d.registers start) (replicate (length d.bits) false)

-- its legal design, whether no cycle was run, all values after the last cycle, the values at which that cycle settled, and how many steps it took
pub record EventMachine : Type 0 where
  pub legal : Ordered
  pub is_fresh : Bool
  pub held : List Bool
  pub settled : List Bool
  pub turns : ℕ

-- the machine's state
abbrev pub state_of : EventMachine → State
state_of m = between m.legal.design m.is_fresh m.held

pub record IsEventMachine (m : EventMachine) : Type 0 where
  pub ready : IsReady m.legal.design (state_of m)
  pub settled_long : length m.settled ≡ length m.legal.design.bits

abbrev bits_code : Coded (List Bool)
bits_code = coded_list coded_bool

abbrev pub machine_code : Coded EventMachine
machine_code =
    code_by (Ordered × (Bool × (List Bool × (List Bool × ℕ)))) (coded× ordered_code (coded× coded_bool (coded× bits_code (coded× bits_code coded_ℕ))))
    (λ m. (m.legal, (m.is_fresh, (m.held, (m.settled, m.turns))))) (λ t. record { legal = t.0; is_fresh = t.1.0; held = t.1.1.0; settled = t.1.1.1.0; turns = t.1.1.1.1 }) (λ _. refl)

-- The number x names the steps of a cycle that settles at v: some from s, where the inputs are new, to a quiet state, and behind the clock's edge some to t.
-- They are counted, up to the greatest number of 64 bits.
pub record Turns (d : Design) (x : ℕ) (s : State) (v : List Bool) (t : State) (turns : ℕ) : Type 0 where
  pub first : List Step
  pub middle : State
  pub second : List Step
  pub number : ℕ
  pub last : ℕ
  pub settles : Follows d x s first number middle
  pub clocks : Follows d number (clocked d middle) second last t
  pub quiet : IsQuiet middle
  pub at : middle.values ≡ v
  pub counted : turns ≡ min (length first + length second) (2 ^ 64 - 1)

-- Any steps of a cycle from s under these inputs settle at values alike to v, and leave the registers next to it.
pub record AllSettleAt (l : Ordered) (inputs : List Bool) (s : State) (v : List Bool) : Type 0 where
  pub each : (u : List Bool) (t : State) → Cycle l.design inputs s u t → Alike l.design l.order u v × (registers_in l.design t.values ≡ next_of l.design v)

-- from every state with a flag for each process, some steps lead to a quiet one
pub record AllCanEnd (d : Design) : Type 0 where
  pub each : (s : State) → length s.pending ≡ length d.processes → CanEnd d s

-- a cycle of a legal design from a state at which one may begin
pub record Simulated (l : Ordered) (is_fresh : Bool) (held inputs v w : List Bool) : Type 0 where
  pub settled : Settled l.design (registers_in l.design held) inputs v
  pub registers : registers_in l.design w ≡ next_of l.design v
  pub every : AllSettleAt l inputs (between l.design is_fresh held) v
  pub ready : IsReady l.design (between l.design false w)
