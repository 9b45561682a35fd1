-- Flags set by a test of each process.
use Rattle.std.proofs.Common.{◌≡◌, ℕ, Bool, false, List, sym, ◌∙◌, get_or, set, map, length, ◌<◌, ◌≤◌, ◌+◌, inl, inr, arith, ap}
use Rattle.std.proofs.lemmas.List.{ext_get_or, length-map, get_or-map, get_or-set_same, get_or-set_other, length-set}
use Rattle.std.proofs.lemmas.Bool.{cases_eq}
use Rattle.design_core.specs.declared.flat.Process.{Process}
use Rattle.bit_exprs.specs.Values.{bit_at}

pub record MarkedBefore (f : Process → Bool) (ps : List Process) (n : ℕ) (flags : List Bool) : Type 0 where
  pub long : length flags ≡ length ps
  pub marked : (k : ℕ) → k < n → k < length ps → bit_at flags k ≡ bit_at (map f ps) k

pub marked_none : (f : Process → Bool) (ps : List Process) (flags : List Bool) → length flags ≡ length ps → MarkedBefore f ps 0 flags
marked_none f ps flags long = record { long = long; marked = λ k lt. absurd (omega arith) }

pub marked_more : (f : Process → Bool) (ps : List Process) (n : ℕ) (flags : List Bool) (p : Process) → n < length ps → p ≡ get_or ps n p →
    MarkedBefore f ps n flags → MarkedBefore f ps (n + 1) (set flags n (f p))
marked_more f ps n flags p lt at h = record {
  long = length-set flags n (f p) ∙ h.long;
  marked = λ k l lk. elim (cases_eq k n) [
    | inl e ↦
        let within : n < length flags = rw h.long lt in
        rw e (get_or-set_same flags n (f p) false within ∙ sym (get_or-map f ps n p false lt ∙ ap f (sym at)))
    | inr ne ↦ get_or-set_other flags n k (f p) false ne ∙ h.marked k (omega arith) lk
  ];
}

pub marked_all : (f : Process → Bool) (ps : List Process) (n : ℕ) (flags : List Bool) → length ps ≤ n → MarkedBefore f ps n flags → flags ≡ map f ps
marked_all f ps n flags le h =
    ext_get_or false flags (map f ps) (h.long ∙ sym (length-map ps f)) (λ k lt. let within : k < length ps = rw (← h.long) lt in h.marked k (omega arith) within)
