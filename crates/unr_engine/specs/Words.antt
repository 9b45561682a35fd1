-- Which lists of words name which command. The words leave out the program's name.
use Rattle.std.specs.Prelude.{◌≡◌, ◌≢◌, ◌⊎◌, ℕ, true, ◌+◌, ◌-◌, ◌*◌, ◌^◌, ◌≤◌, List, [], ◌∷◌, ◌++◌, length, ◌==◌, if◌then◌else◌, String, string_bytes, codes, ⊤}
use Rattle.std.specs.declared.alloc.Global.{Global}
use Rattle.design_core.specs.declared.setup.Kinds.{Kinds}
use Rattle.cert_text.specs.Kinds.{kinds_word, kinds_named, AreBuilt}
use Rattle.unr_engine.specs.declared.options.Key.{Key}
use Rattle.unr_engine.specs.declared.options.Key.TheVariants.{File, Top, Clock, Out, Effort, Cycles, Points}

pub data Command : Type 0 where
  -- check FILE CERT
  Check_files : (file cert : List ℕ) → Command
  -- prove FILE --top TOP --clock CLOCK --out PREFIX, the kinds of points, and how many units of effort each may take
  Prove_file : (file top clock prefix : List ℕ) (kinds : Kinds) (effort : ℕ) → Command

-- A word that begins with a hyphen is an option.
abbrev pub IsNoOption : List ℕ → Type 0
IsNoOption word = (rest : List ℕ) → word ≢ codes "-" ++ rest

-- What one or two words give: a file, or the value of an option.
abbrev pub Entry : Type 0
Entry = Key × List ℕ

-- The words begin with this option, as `--name=value` or as `--name value`. The value isn't empty, and in a word of its own it begins with no hyphen.
abbrev pub BeginWithOption : List ℕ → List ℕ → List (List ℕ) → List (List ℕ) → Type 0
BeginWithOption name value words rest =
    ((words ≡ (codes "--" ++ (name ++ (codes "=" ++ value))) ∷ rest) × (value ≢ []))
    ⊎ ((words ≡ (codes "--" ++ name) ∷ value ∷ rest) × (value ≢ []) × IsNoOption value)

-- The words begin with this entry.
abbrev pub BeginWith : Entry → List (List ℕ) → List (List ℕ) → Type 0
BeginWith (File, value) words rest = (words ≡ value ∷ rest) × IsNoOption value
BeginWith (Top, value) words rest = BeginWithOption (codes "top") value words rest
BeginWith (Clock, value) words rest = BeginWithOption (codes "clock") value words rest
BeginWith (Out, value) words rest = BeginWithOption (codes "out") value words rest
BeginWith (Effort, value) words rest = BeginWithOption (codes "effort") value words rest
BeginWith (Cycles, value) words rest = BeginWithOption (codes "cycles") value words rest
BeginWith (Points, value) words rest = BeginWithOption (codes "points") value words rest

-- The words are these entries, one after the other.
abbrev pub AreEntries : List Entry → List (List ℕ) → Type 0
AreEntries [] words = words ≡ []
AreEntries (entry ∷ entries) words = (rest : List (List ℕ)) × BeginWith entry words rest × AreEntries entries rest

abbrev pub place_of : Key → ℕ
place_of File = 0
place_of Top = 1
place_of Clock = 2
place_of Out = 3
place_of Effort = 4
place_of Cycles = 5
place_of Points = 6

-- The values that these entries give for one key, in order.
abbrev pub values : Key → List Entry → List (List ℕ)
values key [] = []
values key (entry ∷ entries) = if place_of entry.0 == place_of key then entry.1 ∷ values key entries else values key entries

-- Decimal digits, and the number that they spell behind those of n.
abbrev pub AreDigits : List ℕ → Type 0
AreDigits [] = ⊤
AreDigits (digit ∷ digits) = (48 ≤ digit) × (digit ≤ 57) × AreDigits digits

abbrev pub spelled_after : ℕ → List ℕ → ℕ
spelled_after n [] = n
spelled_after n (digit ∷ digits) = spelled_after (n * 10 + (digit - 48)) digits

-- A number has 1 to 19 digits.
pub record IsNumber (word : List ℕ) (n : ℕ) : Type 0 where
  pub some : 1 ≤ length word
  pub most : length word ≤ 19
  pub digits : AreDigits word
  pub value : n ≡ spelled_after 0 word

-- The effort is a number from 1 to 10^18, and 1,000,000 where none is given.
abbrev pub IsEffort : List (List ℕ) → ℕ → Type 0
IsEffort [] effort = effort ≡ 1000000
IsEffort (word ∷ []) effort = IsNumber word effort × (1 ≤ effort) × (effort ≤ 10 ^ 18)
IsEffort (word ∷ other ∷ more) effort = ⊥

-- No cycle of a prelude: its number is 0, or none is given.
abbrev pub IsNoPrelude : List (List ℕ) → Type 0
IsNoPrelude [] = ⊤
IsNoPrelude (word ∷ []) = IsNumber word 0
IsNoPrelude (word ∷ other ∷ more) = ⊥

-- The kinds of points: their letters, or those of all kinds that are built where none are given.
abbrev pub AreKinds : List (List ℕ) → Kinds → Type 0
AreKinds [] kinds = kinds ≡ kinds_named true true
AreKinds (word ∷ []) kinds = (word ≡ kinds_word kinds) × AreBuilt kinds
AreKinds (word ∷ other ∷ more) kinds = ⊥

-- These words stand after `prove`: one file, and each option once at most, in any order.
pub record AskToProve (words : List (List ℕ)) (file top clock prefix : List ℕ) (kinds : Kinds) (effort : ℕ) : Type 0 where
  pub entries : List Entry
  pub are_entries : AreEntries entries words
  pub one_file : values File entries ≡ file ∷ []
  pub one_top : values Top entries ≡ top ∷ []
  pub one_clock : values Clock entries ≡ clock ∷ []
  pub one_prefix : values Out entries ≡ prefix ∷ []
  pub effort_given : IsEffort (values Effort entries) effort
  pub no_prelude : IsNoPrelude (values Cycles entries)
  pub kinds_given : AreKinds (values Points entries) kinds

-- The words name this command.
abbrev pub Names : List (List ℕ) → Command → Type 0
Names words (Check_files file cert) = (words ≡ codes "check" ∷ file ∷ cert ∷ []) × IsNoOption file × IsNoOption cert
Names words (Prove_file file top clock prefix kinds effort) = (rest : List (List ℕ)) × (words ≡ codes "prove" ∷ rest) × AskToProve rest file top clock prefix kinds effort

-- They name none.
abbrev pub NamesNothing : List (List ℕ) → Type 0
NamesNothing words = (command : Command) → ¬ Names words command

-- The texts of strings.
abbrev pub texts : List (String Global) → List (List ℕ)
texts [] = []
texts (word ∷ words) = string_bytes word ∷ texts words
