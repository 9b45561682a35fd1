use Rattle.event_order.proofs.Main.{every_stimulus_runs}
use Rattle.event_order.proofs.laws.law_every_stimulus_runs.Goals as goal

pub returns : goal.returns
returns c = every_stimulus_runs
