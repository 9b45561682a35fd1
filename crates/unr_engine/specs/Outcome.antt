-- What a run promises.
use Rattle.std.specs.Prelude.{◌≡◌, ◌⊎◌, ℕ, ◌-◌, ◌^◌, List, [], ◌∷◌, ◌++◌, take, Option, Some, None, ⊤}
use Rattle.unr_io.specs.declared.desk.Kind.{Kind}
use Rattle.unr_io.specs.declared.desk.Kind.TheVariants.{Load, Store}
use Rattle.unr_io.specs.Desk.{DeskState, Told, Tells, Rose, Holds, file_at}
use Rattle.unr_io.specs.Sink.{SinkState, appended}
use Rattle.unr_engine.specs.Words.{Command, Check_files, Prove_file, Names, NamesNothing}
use Rattle.unr_engine.specs.Content.{Work, cert_name, list_name, Answers, Refuses}
use Rattle.unr_engine.specs.Ends.{End, Done, Stopped, Not_words, Fault_at, Fault_of_output, Out_of_memory, Not_taken}
use Rattle.unr_engine.specs.Statuses.{status_of}
use Rattle.unr_engine.specs.Messages.{message_of}

-- A list begins with this one.
abbrev pub IsFrontOf : {A : Type 0} → List A → List A → Type 0
IsFrontOf {A} part all = (rest : List A) × (part ++ rest ≡ all)

-- ---- loads

-- The file's first bytes, that many at most.
abbrev pub IsFrontOfFile : List ℕ × ℕ → List (List ℕ × List ℕ) → List ℕ → Type 0
IsFrontOfFile load files bytes = (file : List ℕ) × (file_at files load.0 ≡ Some file) × (bytes ≡ take load.1 file)

-- What a command loads, in order: a file's name, and how many bytes of it at most.
abbrev pub loads_of : Command → List (List ℕ × ℕ)
loads_of (Check_files file cert) = (file, 4194305) ∷ (cert, 2 ^ 64 - 1) ∷ []
loads_of (Prove_file file top clock prefix kinds effort) = (file, 4194305) ∷ []

-- The bytes that were loaded are those of the files.
abbrev pub AreLoaded : List (List ℕ × ℕ) → List (List ℕ) → List (List ℕ × List ℕ) → Type 0
AreLoaded loads [] files = ⊤
AreLoaded [] (bytes ∷ loaded) files = ⊥
AreLoaded (load ∷ loads) (bytes ∷ loaded) files = IsFrontOfFile load files bytes × AreLoaded loads loaded files

-- The load that comes after these.
abbrev pub next_load : List (List ℕ × ℕ) → List (List ℕ) → Option (List ℕ × ℕ)
next_load [] loaded = None
next_load (load ∷ loads) [] = Some load
next_load (load ∷ loads) (bytes ∷ loaded) = next_load loads loaded

-- The calls that gave these.
abbrev pub load_calls : List (List ℕ × ℕ) → List (List ℕ) → List (Kind × List ℕ)
load_calls loads [] = []
load_calls [] (bytes ∷ loaded) = []
load_calls (load ∷ loads) (bytes ∷ loaded) = (Load, load.0) ∷ load_calls loads loaded

-- ---- stores, which come after all loads

-- The files that a command stores, in order.
abbrev pub stores_of : Command → List (List ℕ)
stores_of (Check_files file cert) = []
stores_of (Prove_file file top clock prefix kinds effort) = cert_name prefix ∷ list_name prefix ∷ []

-- These files were written, one after the other, and each other file stays.
abbrev pub Written : List (List ℕ × List ℕ) → List (List ℕ × List ℕ) → List (List ℕ × List ℕ) → Type 0
Written [] was is = is ≡ was
Written (file ∷ files) was is = (between : List (List ℕ × List ℕ)) × Holds file.0 file.1 was between × Written files between is

-- The calls that wrote them.
abbrev pub store_calls : List (List ℕ × List ℕ) → List (Kind × List ℕ)
store_calls [] = []
store_calls (file ∷ files) = (Store, file.0) ∷ store_calls files

-- A store of this name failed: those before it are whole, and its file was left with a front of the bytes.
pub record StoreFailed (stores held : List (List ℕ × List ℕ)) (name : List ℕ) : Type 0 where
  pub before : List (List ℕ × List ℕ)
  pub bytes : List ℕ
  pub after : List (List ℕ × List ℕ)
  pub kept : ℕ
  pub all : stores ≡ before ++ (name, bytes) ∷ after
  pub left : held ≡ before ++ (name, take kept bytes) ∷ []

-- ---- a run

-- The load that failed.
abbrev pub failed_call : End → List (Kind × List ℕ)
failed_call (Done left_open) = []
failed_call (Stopped Not_words) = []
failed_call (Stopped (Fault_at Load name)) = (Load, name) ∷ []
failed_call (Stopped (Fault_at Store name)) = []
failed_call (Stopped Fault_of_output) = []
failed_call (Stopped Out_of_memory) = []
failed_call (Stopped (Not_taken refusal)) = []

-- On a desk that tells: what was loaded is the files'; these files were written, and each other file stays; and the calls are those that
-- loaded, those that wrote, and the load that failed.
pub record DeskKept (command : Command) (loaded : List (List ℕ)) (held : List (List ℕ × List ℕ)) (failed : List (Kind × List ℕ)) (was is : Told) : Type 0 where
  pub bytes : AreLoaded (loads_of command) loaded was.files
  pub files : Written held was.files is.files
  pub calls : is.calls ≡ was.calls ++ (load_calls (loads_of command) loaded ++ (store_calls held ++ failed))

-- All files are stored, and a front of the command's text is put out.
abbrev pub PutsFront : Command → List (List ℕ) → List (List ℕ × List ℕ) → List ℕ → Type 0
PutsFront command loaded held piece = (work : Work) × Answers command loaded work × (held ≡ work.stores) × IsFrontOf piece work.text

-- The first of the files are stored.
abbrev pub StoresFront : Command → List (List ℕ) → List (List ℕ × List ℕ) → Type 0
StoresFront command loaded held = (work : Work) × Answers command loaded work × IsFrontOf held work.stores

-- Why a run ends so, what it wrote and what it put out.
abbrev pub HasReason : Command → List (List ℕ) → List (List ℕ × List ℕ) → End → List ℕ → DeskState → DeskState → SinkState → SinkState → Type 0
HasReason command loaded held (Done left_open) piece desk desk' out out' =
    Answers command loaded (record { stores = held; text = piece; left_open = left_open })
HasReason command loaded held (Stopped Not_words) piece desk desk' out out' = ⊥
HasReason command loaded held (Stopped (Fault_at Load name)) piece desk desk' out out' =
    ((most : ℕ) × (next_load (loads_of command) loaded ≡ Some (name, most))) × Rose desk.faults desk'.faults × (held ≡ []) × (piece ≡ [])
HasReason command loaded held (Stopped (Fault_at Store name)) piece desk desk' out out' =
    ((work : Work) × Answers command loaded work × StoreFailed work.stores held name) × Rose desk.faults desk'.faults × (piece ≡ [])
HasReason command loaded held (Stopped Fault_of_output) piece desk desk' out out' =
    PutsFront command loaded held piece × Rose out.faults out'.faults
HasReason command loaded held (Stopped Out_of_memory) piece desk desk' out out' =
    ((held ≡ []) × (piece ≡ [])) ⊎ ((StoresFront command loaded held × (piece ≡ [])) ⊎ PutsFront command loaded held piece)
HasReason command loaded held (Stopped (Not_taken refusal)) piece desk desk' out out' =
    Refuses command loaded refusal × (held ≡ []) × (piece ≡ [])

-- What a run of a command did: some bytes were loaded, some files written and some bytes put out, and the rest follows from these.
pub record Ran (command : Command) (end : End) (desk desk' : DeskState) (out out' : SinkState) : Type 0 where
  pub loaded : List (List ℕ)
  pub held : List (List ℕ × List ℕ)
  pub desk_kept : Tells desk.told desk'.told (DeskKept command loaded held (failed_call end))
  pub piece : List ℕ
  pub written : out'.written ≡ appended out.written piece
  pub reason : HasReason command loaded held end piece desk desk' out out'

-- Words that name nothing leave all as it was.
pub record LeftAlone (end : End) (desk desk' : DeskState) (out out' : SinkState) : Type 0 where
  pub why : end ≡ Stopped Not_words
  pub desk_same : desk' ≡ desk
  pub out_same : out' ≡ out

-- The command that the words name, and what it did; or that they name none.
abbrev pub Ended : List (List ℕ) → End → DeskState → DeskState → SinkState → SinkState → Type 0
Ended words end desk desk' out out' =
    ((command : Command) × Names words command × Ran command end desk desk' out out')
    ⊎ (NamesNothing words × LeftAlone end desk desk' out out')

-- The message, or a front of it where a count of the error output rose.
pub record Says (message : List ℕ) (err err' : SinkState) : Type 0 where
  pub said : List ℕ
  pub written : err'.written ≡ appended err.written said
  pub whole : (said ≡ message) ⊎ (IsFrontOf said message × (Rose err.faults err'.faults ⊎ Rose err.refusals err'.refusals))

-- The whole promise.
pub record Outcome (words : List (List ℕ)) (status : ℕ) (desk desk' : DeskState) (out out' err err' : SinkState) : Type 0 where
  pub end : End
  pub status_is : status ≡ status_of end
  pub ended : Ended words end desk desk' out out'
  pub says : Says (message_of end) err err'
