-- How the words are read, one after the other, and the code's form of a command.
use Rattle.std.specs.Prelude.{◌≡◌, ℕ, ◌+◌, ◌-◌, ◌*◌, ◌^◌, ◌≤◌, List, [], ◌∷◌, length, Bool, true, false, ◌&&◌, Option, Some, None, if◌then◌else◌, ◌==◌, nat_le, bytes_eq, codes, ⊤}
use Rattle.std.specs.Option.{option_map, option_and_then}
use Rattle.std.specs.Char.{is_ascii_digit}
use Rattle.design_core.specs.declared.setup.Kinds.{Kinds}
use Rattle.cert_text.specs.Kinds.{kinds_named, AreBuilt, kinds_of}
use Rattle.unr_engine.specs.declared.options.Key.{Key}
use Rattle.unr_engine.specs.declared.options.Key.TheVariants.{File, Top, Clock, Out, Effort, Cycles, Points}
use Rattle.unr_engine.specs.declared.options.Read.{Read as CodeRead}
use Rattle.unr_engine.specs.declared.options.Read.TheVariants as read
use Rattle.unr_engine.specs.declared.options.Given.{Given as CodeGiven}
use Rattle.unr_engine.specs.declared.options.Given.TheVariants as given
use Rattle.unr_engine.specs.declared.options.Givens.{Givens as CodeGivens}
use Rattle.unr_engine.specs.declared.options.Scan.{Scan as CodeScan}
use Rattle.unr_engine.specs.declared.words.Request.{Request}
use Rattle.unr_engine.specs.declared.words.Request.TheVariants.{Check, Prove}
use Rattle.unr_engine.specs.Words.{Command, Check_files, Prove_file}

abbrev pub is_option : List ℕ → Bool
is_option [] = false
is_option (byte ∷ bytes) = byte == 45

-- ---- one word

-- What stands after a hyphen.
abbrev pub after_hyphen : List ℕ → Option (List ℕ)
after_hyphen [] = None
after_hyphen (byte ∷ bytes) = if byte == 45 then Some bytes else None

abbrev pub behind : ℕ → List ℕ × List ℕ → List ℕ × List ℕ
behind byte parts = (byte ∷ parts.0, parts.1)

-- What stands before the first equals sign, and what stands after it.
abbrev pub cut_at_equals : List ℕ → Option (List ℕ × List ℕ)
cut_at_equals [] = None
cut_at_equals (byte ∷ bytes) = if byte == 61 then Some ([], bytes) else option_map (behind byte) (cut_at_equals bytes)

abbrev pub key_named : List ℕ → Option Key
key_named name =
    if bytes_eq name (codes "top") then Some Top
    else if bytes_eq name (codes "clock") then Some Clock
    else if bytes_eq name (codes "out") then Some Out
    else if bytes_eq name (codes "effort") then Some Effort
    else if bytes_eq name (codes "cycles") then Some Cycles
    else if bytes_eq name (codes "points") then Some Points
    else None

-- What a word gives: the value of a key; an option whose value stands in the next word; nothing that is right.
pub data Read : Type 0 where
  Gives : (key : Key) (value : List ℕ) → Read
  Awaits : (key : Key) → Read
  Wrong : Read

abbrev pub read_value : Key → List ℕ → Read
read_value key [] = Wrong
read_value key (byte ∷ bytes) = Gives key (byte ∷ bytes)

abbrev pub read_joined : Option Key → List ℕ → Read
read_joined None value = Wrong
read_joined (Some key) value = read_value key value

abbrev pub read_flag : Option Key → Read
read_flag None = Wrong
read_flag (Some key) = Awaits key

abbrev pub read_cut : Option (List ℕ × List ℕ) → List ℕ → Read
read_cut None named = read_flag (key_named named)
read_cut (Some parts) named = read_joined (key_named parts.0) parts.1

abbrev pub read_option : Option (List ℕ) → Read
read_option None = Wrong
read_option (Some named) = read_cut (cut_at_equals named) named

abbrev pub read_behind : Option (List ℕ) → List ℕ → Read
read_behind None word = Gives File word
read_behind (Some rest) word = read_option (after_hyphen rest)

-- The word, where this option awaits its value.
abbrev pub read_word : Option Key → List ℕ → Read
read_word None word = read_behind (after_hyphen word) word
read_word (Some key) word = if is_option word then Wrong else read_value key word

-- ---- all words

-- The values of a key so far.
pub data Given : Type 0 where
  Absent : Given
  Once : (value : List ℕ) → Given
  Twice : Given

abbrev pub with_value : Given → List ℕ → Given
with_value Absent value = Once value
with_value (Once other) value = Twice
with_value Twice value = Twice

pub record Givens : Type 0 where
  pub file : Given
  pub top : Given
  pub clock : Given
  pub out : Given
  pub effort : Given
  pub cycles : Given
  pub points : Given

abbrev pub nothing_given : Givens
nothing_given = record { file = Absent; top = Absent; clock = Absent; out = Absent; effort = Absent; cycles = Absent; points = Absent }

abbrev pub with_entry : Givens → Key → List ℕ → Givens
with_entry g File value = record { file = with_value g.file value; top = g.top; clock = g.clock; out = g.out; effort = g.effort; cycles = g.cycles; points = g.points }
with_entry g Top value = record { file = g.file; top = with_value g.top value; clock = g.clock; out = g.out; effort = g.effort; cycles = g.cycles; points = g.points }
with_entry g Clock value = record { file = g.file; top = g.top; clock = with_value g.clock value; out = g.out; effort = g.effort; cycles = g.cycles; points = g.points }
with_entry g Out value = record { file = g.file; top = g.top; clock = g.clock; out = with_value g.out value; effort = g.effort; cycles = g.cycles; points = g.points }
with_entry g Effort value = record { file = g.file; top = g.top; clock = g.clock; out = g.out; effort = with_value g.effort value; cycles = g.cycles; points = g.points }
with_entry g Cycles value = record { file = g.file; top = g.top; clock = g.clock; out = g.out; effort = g.effort; cycles = with_value g.cycles value; points = g.points }
with_entry g Points value = record { file = g.file; top = g.top; clock = g.clock; out = g.out; effort = g.effort; cycles = g.cycles; points = with_value g.points value }

-- What was read so far, and the option that awaits its value.
pub record Scan : Type 0 where
  pub awaits : Option Key
  pub givens : Givens

abbrev pub with_read : Read → Givens → Option Scan
with_read (Gives key value) g = Some (record { awaits = None; givens = with_entry g key value })
with_read (Awaits key) g = Some (record { awaits = Some key; givens = g })
with_read Wrong g = None

abbrev pub step : Scan → List ℕ → Option Scan
step scan word = with_read (read_word scan.awaits word) scan.givens

abbrev pub scanned : List (List ℕ) → Scan → Option Scan
scanned [] scan = Some scan
scanned (word ∷ words) scan = option_and_then (λ (next : Scan). scanned words next) (step scan word)

abbrev pub first_scan : Scan
first_scan = record { awaits = None; givens = nothing_given }

-- What was given, where no option awaits its value.
abbrev pub ended : Option Key → Givens → Option Givens
ended None g = Some g
ended (Some key) g = None

abbrev pub givens_at : Scan → Option Givens
givens_at scan = ended scan.awaits scan.givens

abbrev pub givens_of : List (List ℕ) → Option Givens
givens_of words = option_and_then givens_at (scanned words first_scan)

-- ---- the values

abbrev pub once : Given → Option (List ℕ)
once Absent = None
once (Once value) = Some value
once Twice = None

-- The number that digits spell behind those of n, if it is at most max.
abbrev pub value_after : ℕ → ℕ → List ℕ → Option ℕ
value_after max n [] = Some n
value_after max n (digit ∷ digits) = if is_ascii_digit digit && nat_le (n * 10 + (digit - 48)) max then value_after max (n * 10 + (digit - 48)) digits else None

-- The number that the word spells, if it is at most 10^18.
abbrev pub number_of : List ℕ → Option ℕ
number_of word = if nat_le 1 (length word) && nat_le (length word) 19 then value_after (10 ^ 18) 0 word else None

abbrev pub if_positive : ℕ → Option ℕ
if_positive n = if n == 0 then None else Some n

abbrev pub effort_of : Given → Option ℕ
effort_of Absent = Some 1000000
effort_of (Once word) = option_and_then if_positive (number_of word)
effort_of Twice = None

abbrev pub is_zero : Option ℕ → Bool
is_zero None = false
is_zero (Some n) = n == 0

abbrev pub no_prelude : Given → Bool
no_prelude Absent = true
no_prelude (Once word) = is_zero (number_of word)
no_prelude Twice = false

abbrev pub kinds_given : Given → Option Kinds
kinds_given Absent = Some (kinds_named true true)
kinds_given (Once word) = kinds_of word
kinds_given Twice = None

-- The command that these values make.
abbrev pub prove_given : Givens → Option Command
prove_given g =
    if no_prelude g.cycles then
    option_and_then (λ (file : List ℕ). option_and_then (λ (top : List ℕ). option_and_then (λ (clock : List ℕ). option_and_then (λ (prefix : List ℕ). option_and_then (λ (kinds : Kinds).
    option_map (λ (effort : ℕ). Prove_file file top clock prefix kinds effort) (effort_of g.effort)) (kinds_given g.points)) (once g.out)) (once g.clock)) (once g.top)) (once g.file)
    else None

-- ---- commands

-- The words after `check`.
abbrev pub check_of : List (List ℕ) → Option Command
check_of (file ∷ cert ∷ []) = if is_option file then None else if is_option cert then None else Some (Check_files file cert)
check_of _ = None

-- The words after `prove`.
abbrev pub prove_of : List (List ℕ) → Option Command
prove_of words = option_and_then prove_given (givens_of words)

abbrev pub command_of : List (List ℕ) → Option Command
command_of [] = None
command_of (name ∷ words) = if bytes_eq name (codes "check") then check_of words else if bytes_eq name (codes "prove") then prove_of words else None

-- ---- the code's forms

abbrev pub read_is : CodeRead → Read
read_is (read.Gives key value) = Gives key value.now
read_is (read.Awaits key) = Awaits key
read_is read.Wrong = Wrong

abbrev pub given_is : CodeGiven → Given
given_is given.Absent = Absent
given_is (given.Once value) = Once value.now
given_is given.Twice = Twice

abbrev pub givens_are : CodeGivens → Givens
givens_are g = record { file = given_is g.file; top = given_is g.top; clock = given_is g.clock; out = given_is g.out; effort = given_is g.effort; cycles = given_is g.cycles; points = given_is g.points }

abbrev pub scan_is : CodeScan → Scan
scan_is s = record { awaits = s.awaits; givens = givens_are s.givens }

abbrev pub meaning : Request → Command
meaning (Check file cert) = Check_files file.now cert.now
meaning (Prove file top clock prefix kinds effort) = Prove_file file.now top.now clock.now prefix.now kinds effort

-- The kinds and the effort of a command are such that `prove` can be given them.
abbrev pub CanRun : Command → Type 0
CanRun (Check_files file cert) = ⊤
CanRun (Prove_file file top clock prefix kinds effort) = (1 ≤ effort) × (effort ≤ 10 ^ 18) × AreBuilt kinds

-- The code's form of what the words name.
abbrev pub ReadsAs : Option Command → Option Request → Type 0
ReadsAs command answer = option_map meaning answer ≡ command
