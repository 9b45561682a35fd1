-- What was found out of a point, in the words of certificates, which name state bits.
use Rattle.std.specs.Prelude.{ℕ, ◌-◌, ◌<◌, List, [], map, length, slice_index_or, None, All}
use Rattle.bit_system.specs.declared.system.StateInfo.{StateInfo}
use Rattle.bit_system.specs.declared.ladder.StateLit.{StateLit}
use Rattle.bit_system.specs.declared.ladder.Lemma.{Lemma}
use Rattle.bit_system.specs.declared.ladder.Ladder.{Ladder}
use Rattle.design_core.specs.declared.setup.Stimulus.{Stimulus}
use Rattle.ic3_frames.specs.declared.walk.Walk.{Walk}
use Rattle.cert_text.specs.declared.cert.NamedLit.{NamedLit}
use Rattle.cert_text.specs.declared.cert.NamedLemma.{NamedLemma}
use Rattle.cert_text.specs.declared.cert.NamedLadder.{NamedLadder}
use Rattle.cert_text.specs.declared.cert.Body.{Body}
use Rattle.cert_text.specs.declared.cert.Body.TheVariants.{Reached, Excluded, Open}
use Rattle.point_prover.specs.declared.prover.Proved.{Proved}
use Rattle.point_prover.specs.declared.prover.Proved.TheVariants as found

-- the name of a state bit
abbrev pub name_of : List StateInfo → ℕ → List ℕ
name_of states k = (slice_index_or states k (record { name = []; start = None })).name

abbrev pub named_lit : List StateInfo → StateLit → NamedLit
named_lit states l = record { name = name_of states l.state; positive = l.positive }

abbrev pub named_lemma : List StateInfo → Lemma → NamedLemma
named_lemma states l = record { level = l.level; lits = map (named_lit states) l.lits }

-- the ladder with the names of state bits in place of their numbers
abbrev pub named_ladder : List StateInfo → Ladder → NamedLadder
named_ladder states l = record { lemmas = map (named_lemma states) l.lemmas; steps = l.steps; hit = l.hit }

-- the registers at the start of a walk, and its inputs
abbrev pub stimulus_of : Walk → Stimulus
stimulus_of w = record { start = w.start; lines = w.lines }

-- what is claimed of a point of which this was found out
abbrev pub body_of : List StateInfo → Proved → Body
body_of states (found.Excluded l) = Excluded (named_ladder states l)
body_of states (found.Reached w) = Reached (length w.lines - 1) (stimulus_of w)
body_of states (found.Open cycles l used) = Open cycles (named_ladder states l)

-- the lemma is about state bits of which there are so many
abbrev pub HasBits : ℕ → Lemma → Type 0
HasBits count l = All (λ (x : StateLit). x.state < count) l.lits
