-- The steps of the machine.
use Rattle.std.specs.Prelude.{ℕ, ◌≡◌, ◌≢◌, ◌<◌, true, false, List, [], ◌∷◌, ◌++◌, length, slice_set}
use Rattle.design_core.specs.declared.flat.Design.{Design}
use Rattle.bit_exprs.specs.Updates.{perform}
use Rattle.bit_exprs.specs.Values.{bit_at}
use Rattle.design_core.specs.Exec.{exec}
use Rattle.design_core.specs.Legality.{process_at}
use Rattle.event_order.specs.States.{State, IsIdle, woken}

-- a process runs, or all waiting updates are performed
pub data Step : Type 0 where
  Run : ℕ → Step
  Update : Step

-- a pending process may run; where nothing is pending and updates wait, they may be performed
abbrev pub MayTake : Design → State → Step → Type 0
MayTake d s (Run k) = (k < length d.processes) × (bit_at s.pending k ≡ true)
MayTake d s Update = IsIdle s × (s.waiting ≢ [])

-- Process k was executed: the values are what it leaves, its updates wait behind the others, what reads a changed bit is pending, and the process itself is not.
abbrev pub ran : Design → ℕ → State → State
ran d k s = record {
  values = (exec (process_at d k).body s.values).values;
  pending = slice_set (woken d.processes s.values (exec (process_at d k).body s.values).values s.pending) k false;
  waiting = s.waiting ++ (exec (process_at d k).body s.values).updates;
  phase = s.phase;
}

-- all waiting updates were performed in order, and what reads a changed bit is pending
abbrev pub updated : Design → State → State
updated d s = record {
  values = perform s.waiting s.values;
  pending = woken d.processes s.values (perform s.waiting s.values) s.pending;
  waiting = [];
  phase = s.phase;
}

abbrev pub after : Design → State → Step → State
after d s (Run k) = ran d k s
after d s Update = updated d s

-- these steps may be taken one after another from s, and end at t
abbrev pub Leads : Design → State → List Step → State → Type 0
Leads d s [] t = s ≡ t
Leads d s (x ∷ xs) t = MayTake d s x × Leads d (after d s x) xs t
