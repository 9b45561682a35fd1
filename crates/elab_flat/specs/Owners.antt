-- The owners of bits: which process drives each.
use Rattle.std.specs.Prelude.{ℕ, ◌≡◌, ◌≢◌, ◌<◌, ◌⊎◌, Bool, true, List, length, get_or, Contains}
use Rattle.design_core.specs.declared.flat.Process.{Process}
use Rattle.elab_flat.specs.declared.drivers.Owner.{Owner}
use Rattle.elab_flat.specs.declared.drivers.Owner.TheVariants as owner
use Rattle.elab_flat.specs.Driven.{DrivesBit}

-- no process may own a bit behind the last place
abbrev pub owner_at : List Owner → ℕ → Owner
owner_at owners b = get_or owners b owner.Barred

-- nobody owns a register, and no process may own another bit
pub record AreFree (registers : List ℕ) (owners : List Owner) : Type 0 where
  pub free : (b : ℕ) → Contains registers b → owner_at owners b ≡ owner.Nobody
  pub others : (b : ℕ) → (Contains registers b) ⊎ (owner_at owners b ≡ owner.Barred)

-- the process became the owner of the bits that pass the test, and all other bits keep theirs
pub record Owns (test : ℕ → Bool) (process : ℕ) (old new : List Owner) : Type 0 where
  pub long : length new ≡ length old
  pub mine : (b : ℕ) → test b ≡ true → owner_at new b ≡ owner.Process process
  pub kept : (b k : ℕ) → owner_at old b ≡ owner.Process k → owner_at new b ≡ owner.Process k
  pub only : (b k : ℕ) → owner_at new b ≡ owner.Process k → (owner_at old b ≡ owner.Process k) ⊎ ((k ≡ process) × (test b ≡ true))
  pub barred : (b : ℕ) → owner_at old b ≡ owner.Barred → owner_at new b ≡ owner.Barred
  pub opened : (b : ℕ) → owner_at new b ≡ owner.Barred → owner_at old b ≡ owner.Barred

-- another process owns one of the bits that pass the test, or none may
abbrev pub Clashes : (ℕ → Bool) → ℕ → List Owner → Type 0
Clashes test process owners =
    (b : ℕ) × (test b ≡ true) × ((owner_at owners b ≡ owner.Barred) ⊎ ((k : ℕ) × (k ≢ process) × (owner_at owners b ≡ owner.Process k)))

-- the owners of the bits are the processes that drive them, as far as the first n processes go; those that none may own are no registers
pub record AreOwners (ps : List Process) (registers : List ℕ) (n : ℕ) (owners : List Owner) : Type 0 where
  pub sound : (b k : ℕ) → owner_at owners b ≡ owner.Process k → (k < n) × DrivesBit ps k b
  pub whole : (b k : ℕ) → k < n → DrivesBit ps k b → owner_at owners b ≡ owner.Process k
  pub allowed : (b : ℕ) → Contains registers b → owner_at owners b ≢ owner.Barred
  pub others : (b : ℕ) → (Contains registers b) ⊎ (owner_at owners b ≡ owner.Barred)
