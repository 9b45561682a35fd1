-- Whether certificates can hold the numbers of what was found out of a point.
use Rattle.std.specs.Prelude.{◌<◌, ◌^◌, List, length, Option, Some, None}
use Rattle.std.specs.List.{AllByRecursion}
use Rattle.bit_system.specs.ProofLines.{ProofLine}
use Rattle.bit_system.specs.declared.ladder.Ladder.{Ladder}
use Rattle.cert_text.specs.Spelling.{FitsProof}
use Rattle.point_prover.specs.declared.prover.Proved.{Proved}
use Rattle.point_prover.specs.declared.prover.Proved.TheVariants.{Excluded, Reached, Open}

abbrev pub FitsIfAny : Option (List ProofLine) → Type 0
FitsIfAny None = Unit {0}
FitsIfAny (Some proof) = FitsProof proof

-- there are fewer than 2^63 lemmas, lines and literals, and the lines name clauses by numbers from 1 to 2^63 - 1
pub record LadderFits (l : Ladder) : Type 0 where
  pub count : length l.lemmas < 2 ^ 63
  pub steps : AllByRecursion FitsProof l.steps
  pub hit : FitsIfAny l.hit

abbrev pub NumbersFit : Proved → Type 0
NumbersFit (Excluded l) = LadderFits l
NumbersFit (Reached w) = length w.lines < 2 ^ 63
NumbersFit (Open cycles l used) = LadderFits l
