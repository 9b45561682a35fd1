-- The ladders of certificates, whose lemmas name state bits.
use Rattle.std.specs.Prelude.{ℕ, List, map}
use Rattle.std.specs.List.{position_or_len}
use Rattle.std.specs.Str.{bytes_eq}
use Rattle.bit_system.specs.declared.system.StateInfo.{StateInfo}
use Rattle.bit_system.specs.declared.ladder.Depth.{Depth}
use Rattle.bit_system.specs.declared.ladder.StateLit.{StateLit}
use Rattle.bit_system.specs.declared.ladder.Lemma.{Lemma}
use Rattle.bit_system.specs.declared.ladder.Ladder.{Ladder}
use Rattle.bit_system.specs.Machine.{Machine}
use Rattle.cert_text.specs.declared.cert.NamedLit.{NamedLit}
use Rattle.cert_text.specs.declared.cert.NamedLemma.{NamedLemma}
use Rattle.cert_text.specs.declared.cert.NamedLadder.{NamedLadder}
use Rattle.ladder_check.specs.declared.fault.LadderFault.{LadderFault}
use Rattle.ladder_check.specs.declared.fault.LadderFault.TheVariants.{Shape, StartFails, Line, Memory}
use Rattle.ladder_check.specs.Faults.{IsLadderFault}

-- the names of state bits, in order
abbrev pub state_names : List StateInfo → List (List ℕ)
state_names states = map (λ s. s.name) states

-- the number of the first state bit with this name; where none has it, a number that none has either
abbrev pub state_of : List (List ℕ) → List ℕ → ℕ
state_of names name = position_or_len (bytes_eq name) names

-- a literal and a lemma, where names have these numbers
abbrev pub lit_of : (List ℕ → ℕ) → NamedLit → StateLit
lit_of number l = record { state = number l.name; positive = l.positive }

abbrev pub lemma_of : (List ℕ → ℕ) → NamedLemma → Lemma
lemma_of number l = record { level = l.level; lits = map (lit_of number) l.lits }

-- the ladder of this depth, with the numbers of state bits in place of their names
abbrev pub ladder_of : List (List ℕ) → Depth → NamedLadder → Ladder
ladder_of names depth l = record { depth = depth; lemmas = map (lemma_of (state_of names)) l.lemmas; steps = l.steps; hit = l.hit }

-- the ladder is refused for this reason, which isn't want of memory
abbrev pub LadderRefused : Machine → ℕ → Ladder → LadderFault → Type 0
LadderRefused m k l Shape = IsLadderFault m k l Shape
LadderRefused m k l (StartFails n) = IsLadderFault m k l (StartFails n)
LadderRefused m k l (Line query fault) = IsLadderFault m k l (Line query fault)
LadderRefused m k l Memory = ⊥
