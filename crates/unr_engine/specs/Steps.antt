-- What the steps of a command do.
use Rattle.std.specs.Prelude.{◌≡◌, ℕ, ◌≤◌, List, [], ◌∷◌, ◌++◌, take, Result, Ok, Err, Vec, ⊤}
use Rattle.std.specs.declared.alloc.Global.{Global}
use Rattle.unr_io.specs.declared.desk.Kind.{Kind}
use Rattle.unr_io.specs.declared.desk.Kind.TheVariants.{Load, Store}
use Rattle.unr_io.specs.Desk.{DeskState, Told, Tells, Rose, Holds, asked}
use Rattle.unr_io.specs.Sink.{SinkState, appended}
use Rattle.unr_engine.specs.declared.stop.Stop.{Stop}
use Rattle.unr_engine.specs.Ends.{Why, Not_words, Fault_at, Fault_of_output, Out_of_memory, Not_taken, why_of}
use Rattle.unr_engine.specs.Outcome.{IsFrontOfFile}

-- What a load tells that stops: a call at the file, or none for want of memory.
abbrev pub LoadStops : List ℕ → Why → Told → Told → Type 0
LoadStops name (Fault_at kind other) was is = is ≡ asked was Load name
LoadStops name Out_of_memory was is = is ≡ was
LoadStops name Not_words was is = ⊥
LoadStops name Fault_of_output was is = ⊥
LoadStops name (Not_taken refusal) was is = ⊥

abbrev pub Fetches : List ℕ → ℕ → Result (Vec ℕ Global) Stop → Told → Told → Type 0
Fetches name most (Ok bytes) was is = IsFrontOfFile (name, most) was.files bytes.items × (is ≡ asked was Load name)
Fetches name most (Err stop) was is = LoadStops name (why_of stop) was is

-- The desk is the cause: it failed in such a call at this file, or memory ran out.
abbrev pub IsByDesk : Kind → List ℕ → Why → ℕ → ℕ → Type 0
IsByDesk kind name (Fault_at other place) before now = (other ≡ kind) × (place ≡ name) × Rose before now
IsByDesk kind name Out_of_memory before now = ⊤
IsByDesk kind name Not_words before now = ⊥
IsByDesk kind name Fault_of_output before now = ⊥
IsByDesk kind name (Not_taken refusal) before now = ⊥

abbrev pub HasDeskCause : {T : Type 0} → Kind → List ℕ → Result T Stop → ℕ → ℕ → Type 0
HasDeskCause {T} kind name (Ok done) before now = ⊤
HasDeskCause {T} kind name (Err stop) before now = IsByDesk kind name (why_of stop) before now

-- A file's front, or a stop that has its cause.
pub record Fetched (name : List ℕ) (most : ℕ) (result : Result (Vec ℕ Global) Stop) (desk desk' : DeskState) : Type 0 where
  pub told : Tells desk.told desk'.told (Fetches name most result)
  pub later : desk.faults ≤ desk'.faults
  pub cause : HasDeskCause Load name result desk.faults desk'.faults

-- What a store tells that stops: a call that left a front of the bytes, or none for want of memory.
abbrev pub StoreStops : List ℕ → List ℕ → Why → Told → Told → Type 0
StoreStops name bytes (Fault_at kind other) was is = ((kept : ℕ) × Holds name (take kept bytes) was.files is.files) × (is.calls ≡ was.calls ++ (Store, name) ∷ [])
StoreStops name bytes Out_of_memory was is = is ≡ was
StoreStops name bytes Not_words was is = ⊥
StoreStops name bytes Fault_of_output was is = ⊥
StoreStops name bytes (Not_taken refusal) was is = ⊥

abbrev pub Keeps : List ℕ → List ℕ → Result Unit Stop → Told → Told → Type 0
Keeps name bytes (Ok done) was is = Holds name bytes was.files is.files × (is.calls ≡ was.calls ++ (Store, name) ∷ [])
Keeps name bytes (Err stop) was is = StoreStops name bytes (why_of stop) was is

-- The file holds the bytes, or a stop that has its cause.
pub record Kept (name bytes : List ℕ) (result : Result Unit Stop) (desk desk' : DeskState) : Type 0 where
  pub told : Tells desk.told desk'.told (Keeps name bytes result)
  pub later : desk.faults ≤ desk'.faults
  pub cause : HasDeskCause Store name result desk.faults desk'.faults

-- The output is the cause.
abbrev pub IsByOutput : Why → ℕ → ℕ → Type 0
IsByOutput Fault_of_output before now = Rose before now
IsByOutput Out_of_memory before now = ⊤
IsByOutput Not_words before now = ⊥
IsByOutput (Fault_at kind name) before now = ⊥
IsByOutput (Not_taken refusal) before now = ⊥

-- The text is put out, or a front of it.
abbrev pub Delivers : List ℕ → Result Unit Stop → SinkState → SinkState → Type 0
Delivers text (Ok done) out out' = out'.written ≡ appended out.written text
Delivers text (Err stop) out out' =
    ((count : ℕ) × (out'.written ≡ appended out.written (take count text))) × IsByOutput (why_of stop) out.faults out'.faults
