-- No steps go on for ever.
use Rattle.std.proofs.Common.{◌≡◌, ℕ, List, [], ◌∷◌, refl, ◌∙◌, length, ◌<◌, ◌≤◌, false, arith}
use Rattle.std.proofs.lemmas.List.{length-set}
use Rattle.design_core.specs.declared.flat.Design.{Design}
use Rattle.bit_exprs.specs.Updates.{perform}
use Rattle.design_core.specs.Exec.{exec}
use Rattle.design_core.specs.Legality.{IsLegal, process_at}
use Rattle.event_order.specs.States.{State, woken}
use Rattle.event_order.specs.Steps.{Step, Run, Update, MayTake, after, Leads}
use Rattle.event_order.specs.Work.{work}
use Rattle.event_order.specs.Laws.{EveryOrderEnds}
use Rattle.event_order.proofs.Waking.{length-woken}
use Rattle.event_order.proofs.Working.{work_update}
use Rattle.event_order.proofs.Turning.{ran_work}

module _ (d : Design) (order : List ℕ) (legal : IsLegal d order) where
  pub still_flagged : (s : State) (x : Step) → length s.pending ≡ length d.processes → length (after d s x).pending ≡ length d.processes
  still_flagged s (Run k) long =
      let w = (exec (process_at d k).body s.values).values in
      length-set (woken d.processes s.values w s.pending) k false ∙ length-woken d.processes s.values w s.pending long
  still_flagged s Update long = length-woken d.processes s.values (perform s.waiting s.values) s.pending long

  pub less : (s : State) (x : Step) → length s.pending ≡ length d.processes → MayTake d s x → work d order (after d s x).pending (after d s x).waiting < work d order s.pending s.waiting
  less s (Run k) long may =
      ran_work d k s.values s.pending s.waiting (after d s (Run k)).values (after d s (Run k)).pending (after d s (Run k)).waiting may.0 (record { values = refl; pending = refl; waiting = refl }) long may.1 order legal
  less s Update long may = work_update d order legal s.values (perform s.waiting s.values) s.pending s.waiting long may.0 may.1

  bounded : (s : State) (xs : List Step) (t : State) → length s.pending ≡ length d.processes → Leads d s xs t → length xs ≤ work d order s.pending s.waiting
  bounded s [] t long l = omega arith
  bounded s (x ∷ xs) t long l =
      let here = less s x long l.0 in
      let there = bounded (after d s x) xs t (still_flagged s x long) l.1 in
      omega arith

pub every_order_ends : EveryOrderEnds
every_order_ends d order s xs t legal long l = bounded d order legal s xs t long l
