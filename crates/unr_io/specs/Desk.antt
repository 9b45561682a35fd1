-- What the calls of a desk do to its files, and what is known of a desk that tells.
use Rattle.std.specs.Prelude.{◌≡◌, ◌≢◌, ℕ, ◌+◌, ◌-◌, ◌^◌, ◌≤◌, min, List, [], ◌∷◌, ◌++◌, take, Option, Some, None, Result, Ok, Err, if◌then◌else◌, bytes_eq, IsErrOf, Vec, ⊤}
use Rattle.std.specs.declared.alloc.Global.{Global}
use Rattle.unr_io.specs.declared.desk.Kind.{Kind}
use Rattle.unr_io.specs.declared.desk.Kind.TheVariants.{Load, Store}
use Rattle.unr_io.specs.declared.desk.DeskError.{DeskError}
use Rattle.unr_io.specs.declared.desk.DeskError.TheVariants.{Failed, Memory}

-- A count with one more. It ends at the greatest u64.
abbrev pub counted : ℕ → ℕ
counted count = min (count + 1) (2 ^ 64 - 1)

-- The count rose. At its end a further one counts as a rise.
abbrev pub Rose : ℕ → ℕ → Type 0
Rose before now = counted before ≤ now

-- The bytes of the first file with that name.
abbrev pub file_at : List (List ℕ × List ℕ) → List ℕ → Option (List ℕ)
file_at [] name = None
file_at (file ∷ files) name = if bytes_eq file.0 name then Some file.1 else file_at files name

-- What a desk tells: its files, by name, and each call so far, by kind and name.
pub record Told : Type 0 where
  pub files : List (List ℕ × List ℕ)
  pub calls : List (Kind × List ℕ)

-- What is known of a desk: how often it has failed, and what it tells, if it does.
pub record DeskState : Type 0 where
  pub faults : ℕ
  pub told : Option Told

-- A desk that tells goes on telling, and R leads from what it told to what it tells.
abbrev pub Tells : Option Told → Option Told → (Told → Told → Type 0) → Type 0
Tells None None R = ⊤
Tells (Some was) (Some is) R = R was is
Tells None (Some is) R = ⊥
Tells (Some was) None R = ⊥

-- The file holds these bytes, and each other file stays.
pub record Holds (name bytes : List ℕ) (was is : List (List ℕ × List ℕ)) : Type 0 where
  pub held : file_at is name ≡ Some bytes
  pub others : (other : List ℕ) → other ≢ name → file_at is other ≡ file_at was other

-- The same desk, asked once more.
abbrev pub asked : Told → Kind → List ℕ → Told
asked was kind name = record { files = was.files; calls = was.calls ++ (kind, name) ∷ [] }

-- A load answers the file's first bytes. It leaves every file as it is.
abbrev pub Loads : List ℕ → ℕ → Result (Vec ℕ Global) DeskError → Told → Told → Type 0
Loads name max (Ok bytes) was is = (file : List ℕ) × (file_at was.files name ≡ Some file) × (bytes.items ≡ take max file) × (is ≡ asked was Load name)
Loads name max (Err Failed) was is = is ≡ asked was Load name
Loads name max (Err Memory) was is = is ≡ was

-- A store leaves the file with exactly these bytes, or a failed one with a front of them.
abbrev pub Stores : List ℕ → List ℕ → Result Unit DeskError → Told → Told → Type 0
Stores name bytes (Ok done) was is = Holds name bytes was.files is.files × (is.calls ≡ was.calls ++ (Store, name) ∷ [])
Stores name bytes (Err Failed) was is = ((kept : ℕ) × Holds name (take kept bytes) was.files is.files) × (is.calls ≡ was.calls ++ (Store, name) ∷ [])
Stores name bytes (Err Memory) was is = is ≡ was

-- The count never falls, and `Failed` is told only where it rose.
pub record HasCause {T : Type 0} (before now : ℕ) (result : Result T DeskError) : Type 0 where
  pub later : before ≤ now
  pub failed : IsErrOf result Failed → Rose before now
