-- How a run ends.
use Rattle.std.specs.Prelude.{ℕ, Bool, List, ◌++◌, Result, Ok, Err, codes}
use Rattle.unr_io.specs.declared.desk.Kind.{Kind}
use Rattle.unr_io.specs.declared.desk.Kind.TheVariants.{Load, Store}
use Rattle.unr_engine.specs.declared.stop.Refusal.{Refusal}
use Rattle.unr_engine.specs.declared.stop.Ending.{Ending}
use Rattle.unr_engine.specs.declared.stop.Ending.TheVariants.{Cert, Excl}
use Rattle.unr_engine.specs.declared.stop.Stop.{Stop}
use Rattle.unr_engine.specs.declared.stop.Stop.TheVariants as stop

-- How the names of stored files end.
abbrev pub ending_text : Ending → List ℕ
ending_text Cert = codes ".cert"
ending_text Excl = codes ".excl"

-- Why a run does not do what its words say.
pub data Why : Type 0 where
  Not_words : Why
  -- a fault of the desk, in a call of that kind at that file
  Fault_at : (kind : Kind) (name : List ℕ) → Why
  Fault_of_output : Why
  Out_of_memory : Why
  -- the content of the files is refused
  Not_taken : (refusal : Refusal) → Why

pub data End : Type 0 where
  -- the command is done; and whether a claim that it wrote is left open
  Done : (left_open : Bool) → End
  Stopped : (why : Why) → End

-- How the code tells why.
abbrev pub why_of : Stop → Why
why_of stop.Words = Not_words
why_of (stop.NotLoaded name) = Fault_at Load name.now
why_of (stop.NotStored prefix ending) = Fault_at Store (prefix.now ++ ending_text ending)
why_of stop.Output = Fault_of_output
why_of stop.Memory = Out_of_memory
why_of (stop.Refused refusal) = Not_taken refusal

-- How the code tells the end.
abbrev pub end_of : Result Bool Stop → End
end_of (Ok left_open) = Done left_open
end_of (Err stop) = Stopped (why_of stop)
