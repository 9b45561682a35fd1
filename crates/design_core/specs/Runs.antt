-- Whole runs, cycle by cycle.
use Rattle.word_core.specs.Words.{number_of}
use Rattle.word_core.specs.declared.name.Name.{Name}
use Rattle.std.specs.Prelude.{ℕ, ◌≡◌, ◌<◌, ◌==◌, Bool, false, cond, List, [], ◌∷◌, length, map, slice_get, Some, All}
use Rattle.std.specs.Str.{bytes_eq}
use Rattle.design_core.specs.declared.flat.Declared.{Declared}
use Rattle.design_core.specs.declared.flat.BitInfo.{BitInfo}
use Rattle.design_core.specs.declared.flat.Design.{Design}
use Rattle.design_core.specs.declared.setup.Held.{Held}
use Rattle.design_core.specs.declared.setup.Setup.{Setup}
use Rattle.design_core.specs.declared.setup.Stimulus.{Stimulus}
use Rattle.bit_exprs.specs.Values.{bit_at}
use Rattle.design_core.specs.Settled.{Settled, next_of}

-- from these values of the registers, under these inputs, each cycle settles at these values
abbrev pub IsRun : Design → List Bool → List (List Bool) → List (List Bool) → Type 0
IsRun d held [] [] = Unit {0}
IsRun d held (line ∷ lines) (v ∷ vs) = Settled d held line v × IsRun d (next_of d v) lines vs
IsRun d held [] (v ∷ vs) = ⊥
IsRun d held (line ∷ lines) [] = ⊥

-- what the registers hold before each cycle of a run that settled at these values
abbrev pub held_before : Design → List Bool → List (List Bool) → List (List Bool)
held_before d held [] = []
held_before d held (v ∷ vs) = held ∷ held_before d (next_of d v) vs

-- a run may begin with these values of the registers: each that has a declared starting value has it
pub record MayStart (d : Design) (start : List Bool) : Type 0 where
  pub wide : length start ≡ length d.registers
  pub agrees : (k b : ℕ) (info : BitInfo) (x : Bool) → slice_get d.registers k ≡ Some b → slice_get d.bits b ≡ Some info → info.start ≡ Some x → bit_at start k ≡ x

-- the value that a line gives an input bit
abbrev pub line_at : List ℕ → List Bool → ℕ → Bool
line_at [] line b = false
line_at (a ∷ inputs) [] b = false
line_at (a ∷ inputs) (x ∷ line) b = cond (a == b) x (line_at inputs line b)

-- the bits of a declared name, the least significant first
abbrev pub bits_named : List Declared → Name → List ℕ
bits_named [] name = []
bits_named (x ∷ xs) name = cond (bytes_eq x.whole name) (x.bit ∷ bits_named xs name) (bits_named xs name)

-- the held inputs have their values
abbrev pub Holds : Design → Setup → List Bool → Type 0
Holds d setup line = All (λ (h : Held). number_of (map (line_at d.inputs line) (bits_named d.declared h.name)) ≡ h.value) setup.hold

-- The stimulus fits: one value for each register, in each line one for each input, the declared starting values, and in the prelude the held inputs.
pub record Fits (d : Design) (setup : Setup) (s : Stimulus) : Type 0 where
  pub start : MayStart d s.start
  pub wide : All (λ line. length line ≡ length d.inputs) s.lines
  pub held : (k : ℕ) (line : List Bool) → k < setup.cycles → slice_get s.lines k ≡ Some line → Holds d setup line
