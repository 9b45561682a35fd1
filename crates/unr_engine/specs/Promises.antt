-- What a run promises, one by one.
use Rattle.std.specs.Prelude.{◌≡◌, ◌≢◌, ◌⊎◌, ◌↔◌, ℕ, ◌≤◌, List, [], ◌∷◌, ◌++◌, Option, Some, None, Result, Ok, Err, ⊤}
use Rattle.design_core.specs.declared.setup.Kinds.{Kinds}
use Rattle.unr_io.specs.declared.desk.Kind.{Kind}
use Rattle.unr_io.specs.declared.desk.Kind.TheVariants.{Load, Store}
use Rattle.unr_io.specs.Desk.{DeskState, Told, Tells, Rose, file_at}
use Rattle.unr_io.specs.Sink.{SinkState, appended}
use Rattle.vlog_modules.specs.declared.error.TextError.{TextError}
use Rattle.vlog_modules.specs.Answers.{TextAnswers}
use Rattle.cert_text.specs.declared.error.CertError.{CertError}
use Rattle.cert_text.specs.declared.claim.Claim.{Claim}
use Rattle.source_check.specs.declared.error.CheckError.{CheckError}
use Rattle.source_check.specs.declared.error.SourceError.{SourceError}
use Rattle.source_check.specs.declared.listing.Front.{Front}
use Rattle.source_check.specs.Checking.{ReadAndJudged, FrontAnswers}
use Rattle.every_order.specs.Truth.{AreTrueInEveryOrder}
use Rattle.text_prover.specs.declared.proving.Proven.{Proven}
use Rattle.text_prover.specs.Proving.{setup_of, IsProven}
use Rattle.unr_engine.specs.declared.stop.Refusal.{Refusal}
use Rattle.unr_engine.specs.Words.{Command, Check_files, Prove_file}
use Rattle.unr_engine.specs.Report.{report, is_open, count, proof_report, exclusions}
use Rattle.unr_engine.specs.Content.{Work, SpellNothing, CheckRefuses, cert_name, list_name, Answers}
use Rattle.unr_engine.specs.Statuses.{text_status, cert_status, check_status, source_status, refusal_status}
use Rattle.unr_engine.specs.Ends.{Fault_at, Fault_of_output}
use Rattle.unr_engine.specs.Messages.{why_message, refusal_message, source_message}
use Rattle.unr_engine.specs.Outcome.{IsFrontOfFile, AreLoaded, IsFrontOf, Says, next_load, load_calls, loads_of, stores_of}

-- These bytes are the files', where the desk tells its files.
abbrev pub AreTold : Option Told → Command → List (List ℕ) → Type 0
AreTold None command loaded = ⊤
AreTold (Some told) command loaded = AreLoaded (loads_of command) loaded told.files

-- ---- check

-- The certificate in CERT is accepted for the text in FILE, each of its claims is true of the text in every order of its processes, and their
-- report is put out.
pub record Accepts (file cert : List ℕ) (desk : DeskState) (out out' : SinkState) : Type 0 where
  pub text : List ℕ
  pub spelling : List ℕ
  pub told : AreTold desk.told (Check_files file cert) (text ∷ spelling ∷ [])
  pub claims : List Claim
  pub judged : ReadAndJudged text spelling (Ok claims)
  pub are_true : AreTrueInEveryOrder judged.0 judged.1 claims
  pub reported : out'.written ≡ appended out.written (report claims)

-- The files are refused, with that status and a message of it.
pub record Rejects (file cert : List ℕ) (status : ℕ) (desk : DeskState) (err err' : SinkState) : Type 0 where
  pub loaded : List (List ℕ)
  pub told : AreTold desk.told (Check_files file cert) loaded
  pub refusal : Refusal
  pub refused : CheckRefuses loaded refusal
  pub status_is : status ≡ refusal_status refusal
  pub says : Says (refusal_message refusal) err err'

-- FILE has these bytes, on a desk that tells its files.
abbrev pub HasText : Option Told → List ℕ → List ℕ → Type 0
HasText told file text = (known : Told) × (told ≡ Some known) × IsFrontOfFile (file, 4194305) known.files text

-- FILE and CERT have these bytes, on a desk that tells its files.
abbrev pub HaveBytes : Option Told → List ℕ → List ℕ → List ℕ → List ℕ → Type 0
HaveBytes told file cert text spelling =
    (known : Told) × (told ≡ Some known) × AreLoaded (loads_of (Check_files file cert)) (text ∷ spelling ∷ []) known.files

abbrev pub judged_status : Result (List Claim) CheckError → ℕ
judged_status (Ok claims) = 0
judged_status (Err error) = check_status error

-- The status that the bytes deserve: the text is refused; or it has a tree and the certificate is none; or the one is judged for the other.
abbrev pub Deserve : List ℕ → List ℕ → ℕ → Type 0
Deserve text spelling status =
    ((error : TextError) × TextAnswers text (Err error) × (status ≡ text_status error))
    ⊎ (((error : CertError) × SpellNothing text spelling error × (status ≡ cert_status error))
    ⊎ ((result : Result (List Claim) CheckError) × ReadAndJudged text spelling result × (status ≡ judged_status result)))

-- The same status, or one of the two is that of want of memory.
abbrev pub Agree : ℕ → ℕ → Type 0
Agree status other = (status ≡ other) ⊎ ((status ≡ 7) ⊎ (other ≡ 7))

-- ---- prove

-- The two files hold these bytes.
pub record AreStored (prefix cert list : List ℕ) (was is : Told) : Type 0 where
  pub cert_held : file_at is.files (cert_name prefix) ≡ Some cert
  pub list_held : file_at is.files (list_name prefix) ≡ Some list

-- Claims are proved of the text in FILE, one for each of its points, and each is true in every order of its processes. PREFIX.cert holds their certificate, which is
-- accepted, PREFIX.excl the points of those that are excluded, and their report is put out, by which each open one used the whole effort.
-- The status is 1 exactly where one is open.
pub record Proves (file top clock prefix : List ℕ) (kinds : Kinds) (effort status : ℕ) (desk desk' : DeskState) (out out' : SinkState) : Type 0 where
  pub text : List ℕ
  pub told : AreTold desk.told (Prove_file file top clock prefix kinds effort) (text ∷ [])
  pub proven : Proven
  pub is_proven : IsProven text top clock kinds effort proven
  pub are_true : AreTrueInEveryOrder is_proven.tree is_proven.cert proven.claims
  pub stored : Tells desk.told desk'.told (AreStored prefix proven.cert.items (exclusions proven.claims))
  pub reported : out'.written ≡ appended out.written (proof_report effort proven.claims proven.used)
  pub left_open : (status ≡ 1) ↔ (1 ≤ count is_open proven.claims)

-- The text in FILE is refused, or its design, with that status and a message of it.
pub record ProofRefused (file top clock prefix : List ℕ) (kinds : Kinds) (effort status : ℕ) (desk : DeskState) (err err' : SinkState) : Type 0 where
  pub text : List ℕ
  pub told : AreTold desk.told (Prove_file file top clock prefix kinds effort) (text ∷ [])
  pub error : SourceError
  pub refused : FrontAnswers text (setup_of top clock kinds) (Err error)
  pub status_is : status ≡ source_status error
  pub says : Says (source_message error) err err'

-- The status that fits what is answered of the text: 0 or 1 for its points, else that of the refusal; or that of want of memory.
abbrev pub Fits : Result Front SourceError → ℕ → Type 0
Fits (Ok front) status = (status ≡ 0) ⊎ ((status ≡ 1) ⊎ (status ≡ 7))
Fits (Err error) status = Agree status (source_status error)

-- PREFIX.excl holds a front of the new list, and PREFIX.cert the new certificate whole.
pub record ListBehindCert (file top clock prefix : List ℕ) (kinds : Kinds) (effort : ℕ) (was is : Told) : Type 0 where
  pub text : List ℕ
  pub loaded : AreLoaded (loads_of (Prove_file file top clock prefix kinds effort)) (text ∷ []) was.files
  pub proven : Proven
  pub is_proven : IsProven text top clock kinds effort proven
  pub cert_held : file_at is.files (cert_name prefix) ≡ Some proven.cert.items
  pub part : List ℕ
  pub list_held : file_at is.files (list_name prefix) ≡ Some part
  pub front : IsFrontOf part (exclusions proven.claims)

-- PREFIX.excl is what it was, or the new list comes after the new certificate.
abbrev pub ListComesLast : List ℕ → List ℕ → List ℕ → List ℕ → Kinds → ℕ → Told → Told → Type 0
ListComesLast file top clock prefix kinds effort was is =
    (file_at is.files (list_name prefix) ≡ file_at was.files (list_name prefix)) ⊎ ListBehindCert file top clock prefix kinds effort was is

-- ---- calls and files

-- The calls of these loads, and of stores at these names.
abbrev pub calls_for : List (List ℕ × ℕ) → List (Kind × List ℕ)
calls_for [] = []
calls_for (load ∷ loads) = (Load, load.0) ∷ calls_for loads

abbrev pub stores_at : List (List ℕ) → List (Kind × List ℕ)
stores_at [] = []
stores_at (name ∷ names) = (Store, name) ∷ stores_at names

-- All calls of a command, in order.
abbrev pub all_calls : Command → List (Kind × List ℕ)
all_calls command = calls_for (loads_of command) ++ stores_at (stores_of command)

-- The calls that a command makes: the first of those that it names, and all of them where it is done. Each load gave its file's bytes, but for one that failed, the last call.
pub record MakesCalls (command : Command) (status : ℕ) (was is : Told) : Type 0 where
  pub made : List (Kind × List ℕ)
  pub calls : is.calls ≡ was.calls ++ made
  pub front : IsFrontOf made (all_calls command)
  pub whole : (status ≡ 0) ⊎ (status ≡ 1) → made ≡ all_calls command
  pub loaded : List (List ℕ)
  pub given : AreLoaded (loads_of command) loaded was.files
  pub each : ((names : List (List ℕ)) × (made ≡ load_calls (loads_of command) loaded ++ stores_at names))
      ⊎ ((name : List ℕ) × (made ≡ load_calls (loads_of command) loaded ++ (Load, name) ∷ []))

-- The last call.
abbrev pub CalledLast : Kind → List ℕ → Told → Told → Type 0
CalledLast kind name was is = (before : List (Kind × List ℕ)) × (is.calls ≡ before ++ (kind, name) ∷ [])

-- The desk failed at the load that came next.
abbrev pub BlamesLoad : Command → DeskState → DeskState → SinkState → SinkState → Type 0
BlamesLoad command desk desk' err err' =
    (loaded : List (List ℕ)) × (name : List ℕ) × (most : ℕ) × AreTold desk.told command loaded × (next_load (loads_of command) loaded ≡ Some (name, most))
    × Tells desk.told desk'.told (CalledLast Load name) × Rose desk.faults desk'.faults × Says (why_message (Fault_at Load name)) err err'

-- The desk failed at a store that the command names.
abbrev pub BlamesStore : Command → DeskState → DeskState → SinkState → SinkState → Type 0
BlamesStore command desk desk' err err' =
    (before : List (List ℕ)) × (name : List ℕ) × (after : List (List ℕ)) × (stores_of command ≡ before ++ name ∷ after)
    × Tells desk.told desk'.told (CalledLast Store name) × Rose desk.faults desk'.faults × Says (why_message (Fault_at Store name)) err err'

-- The fault of a run, and its message: the desk failed at the last call, or the output failed.
abbrev pub Blames : Command → DeskState → DeskState → SinkState → SinkState → SinkState → SinkState → Type 0
Blames command desk desk' out out' err err' =
    BlamesLoad command desk desk' err err'
    ⊎ (BlamesStore command desk desk' err err' ⊎ (Rose out.faults out'.faults × Says (why_message Fault_of_output) err err'))

-- A front of the text that the command puts out, or nothing.
pub record PutsPart (command : Command) (desk : DeskState) (out out' : SinkState) : Type 0 where
  pub piece : List ℕ
  pub written : out'.written ≡ appended out.written piece
  pub part : (piece ≡ []) ⊎ ((loaded : List (List ℕ)) × AreTold desk.told command loaded × ((work : Work) × Answers command loaded work × IsFrontOf piece work.text))

-- Every file stays.
abbrev pub FilesStay : Told → Told → Type 0
FilesStay was is = is.files ≡ was.files

-- The name is none of these.
abbrev pub IsNoneOf : List (List ℕ) → List ℕ → Type 0
IsNoneOf [] name = ⊤
IsNoneOf (other ∷ names) name = (name ≢ other) × IsNoneOf names name

-- Every file stays that the command doesn't store.
abbrev pub OthersStay : Command → Told → Told → Type 0
OthersStay command was is = (name : List ℕ) → IsNoneOf (stores_of command) name → file_at is.files name ≡ file_at was.files name
