-- What words that are read one after the other give, and which entries they are.
use Rattle.std.proofs.Common.{◌≡◌, ◌≢◌, ℕ, ◌+◌, ◌-◌, ◌*◌, ◌^◌, ◌≤◌, List, [], ◌∷◌, ◌++◌, length, Option, Some, None, refl, ap, ◌∙◌, sym, subst, Bool, cond, eqb, leb, ◌&&◌, true, false, codes, inl, inr, arith}
use Rattle.std.specs.Option.{option_map, option_and_then}
use Rattle.std.specs.Str.{bytes_eq}
use Rattle.std.specs.Char.{is_ascii_digit}
use Rattle.std.proofs.lemmas.Slice.Eq.{bytes_eq-Decides}
use Rattle.std.proofs.lemmas.Bool.{leb-true, le-leb, ne_eqb, and_parts, and_from}
use Rattle.std.proofs.lemmas.Bool.Decides.{Decides-eqb}
use Rattle.unr_engine.specs.declared.options.Key.{Key}
use Rattle.unr_engine.specs.declared.options.Key.TheVariants.{File, Top, Clock, Out, Effort, Cycles, Points}
use Rattle.design_core.specs.declared.setup.Kinds.{Kinds}
use Rattle.cert_text.specs.Kinds.{kinds_named, kinds_of}
use Rattle.cert_text.proofs.KindLaws.{kinds_take, kinds_again}
use Rattle.unr_engine.specs.Words.{Entry, IsNoOption, BeginWithOption, BeginWith, AreEntries, values, AreDigits, spelled_after, IsNumber, IsEffort, IsNoPrelude, AreKinds, AskToProve, Command, Prove_file}
use Rattle.unr_engine.specs.Requests.{is_option, after_hyphen, behind, cut_at_equals, key_named, Read, Gives, Awaits, Wrong, read_value, read_joined, read_flag, read_cut, read_option, read_behind, read_word, Given, Absent, Twice, with_value, Givens, nothing_given, with_entry, Scan, with_read, scanned, first_scan, ended, givens_at, givens_of, once, value_after, number_of, if_positive, effort_of, is_zero, no_prelude, kinds_given, prove_given, prove_of}

-- ---- words that begin with no hyphen

pub no_option : (word : List ℕ) → is_option word ≡ false → IsNoOption word
no_option word e = λ rest h. let k : false ≡ true = sym e ∙ ap is_option h in cc

pub plain : (word : List ℕ) → IsNoOption word → is_option word ≡ false
plain [] kept = refl
plain (byte ∷ bytes) kept =
    (elim (eqb byte 45) as (λ b. (b ≡ true → byte ≡ 45) → b ≡ false) [ true ↦ λ h. absurd (kept bytes (ap (λ x. x ∷ bytes) (h refl))) | false ↦ λ h. refl ]) ((Decides-eqb byte 45).0)

-- what stands behind a hyphen, and that there is none
hyphen_is : (byte : ℕ) (bytes rest : List ℕ) (b : Bool) → (b ≡ true → byte ≡ 45) → cond b (Some bytes) None ≡ Some rest → byte ∷ bytes ≡ 45 ∷ rest
hyphen_is byte bytes rest true same e = let r : bytes ≡ rest = cc in ap (λ x. x ∷ bytes) (same refl) ∙ ap (λ xs. 45 ∷ xs) r
hyphen_is byte bytes rest false same e = cc

with_hyphen : (word rest : List ℕ) → after_hyphen word ≡ Some rest → word ≡ 45 ∷ rest
with_hyphen [] rest e = cc
with_hyphen (byte ∷ bytes) rest e = hyphen_is byte bytes rest (eqb byte 45) ((Decides-eqb byte 45).0) e

without_hyphen : (word : List ℕ) → after_hyphen word ≡ None → IsNoOption word
without_hyphen word e = λ rest h. let k : None ≡ Some rest = sym e ∙ ap after_hyphen h in cc

none_without : (word : List ℕ) → IsNoOption word → after_hyphen word ≡ None
none_without [] kept = refl
none_without (byte ∷ bytes) kept =
    (elim (eqb byte 45) as (λ b. (b ≡ true → byte ≡ 45) → cond b (Some bytes) None ≡ None) [ true ↦ λ h. absurd (kept bytes (ap (λ x. x ∷ bytes) (h refl))) | false ↦ λ h. refl ]) ((Decides-eqb byte 45).0)

-- ---- an equals sign

cut_here : (byte : ℕ) (bytes : List ℕ) (parts : List ℕ × List ℕ) (b : Bool) (later : Option (List ℕ × List ℕ)) → (b ≡ true → byte ≡ 61) → ((more : List ℕ × List ℕ) → later ≡ Some more → bytes ≡ more.0 ++ 61 ∷ more.1)
    → cond b (Some ([], bytes)) (option_map (behind byte) later) ≡ Some parts → byte ∷ bytes ≡ parts.0 ++ 61 ∷ parts.1
cut_here byte bytes parts true later same more e =
    let k : Some ([], bytes) ≡ Some parts = e in
    let p : ([], bytes) ≡ parts = cc in
    ap (λ x. x ∷ bytes) (same refl) ∙ ap (λ (q : List ℕ × List ℕ). q.0 ++ 61 ∷ q.1) p
cut_here byte bytes parts false None same more e = cc
cut_here byte bytes parts false (Some found) same more e =
    let p : behind byte found ≡ parts = cc in
    ap (λ xs. byte ∷ xs) (more found refl) ∙ ap (λ (q : List ℕ × List ℕ). q.0 ++ 61 ∷ q.1) p

cut_parts : (word : List ℕ) (parts : List ℕ × List ℕ) → cut_at_equals word ≡ Some parts → word ≡ parts.0 ++ 61 ∷ parts.1
cut_parts [] parts e = cc
cut_parts (byte ∷ bytes) parts e = cut_here byte bytes parts (eqb byte 61) (cut_at_equals bytes) ((Decides-eqb byte 61).0) (λ more h. cut_parts bytes more h) e

-- ---- the names of options

abbrev name_of : Key → List ℕ
name_of File = []
name_of Top = codes "top"
name_of Clock = codes "clock"
name_of Out = codes "out"
name_of Effort = codes "effort"
name_of Cycles = codes "cycles"
name_of Points = codes "points"

-- the key, which isn't that of files, has this name
record IsNameOf (name : List ℕ) (key : Key) : Type 0 where
  same : name ≡ name_of key
  option : (value : List ℕ) (words rest : List (List ℕ)) → BeginWithOption (name_of key) value words rest → BeginWith (key, value) words rest

named_top : (name : List ℕ) → name ≡ codes "top" → IsNameOf name Top
named_top name e = record { same = e; option = λ value words rest h. h }

named_clock : (name : List ℕ) → name ≡ codes "clock" → IsNameOf name Clock
named_clock name e = record { same = e; option = λ value words rest h. h }

named_out : (name : List ℕ) → name ≡ codes "out" → IsNameOf name Out
named_out name e = record { same = e; option = λ value words rest h. h }

named_effort : (name : List ℕ) → name ≡ codes "effort" → IsNameOf name Effort
named_effort name e = record { same = e; option = λ value words rest h. h }

named_cycles : (name : List ℕ) → name ≡ codes "cycles" → IsNameOf name Cycles
named_cycles name e = record { same = e; option = λ value words rest h. h }

named_points : (name : List ℕ) → name ≡ codes "points" → IsNameOf name Points
named_points name e = record { same = e; option = λ value words rest h. h }

-- one name of a chain of them
if_named : (name text : List ℕ) (this key : Key) (later : Option Key) → (name ≡ text → IsNameOf name this) → (later ≡ Some key → IsNameOf name key) → cond (bytes_eq name text) (Some this) later ≡ Some key → IsNameOf name key
if_named name text this key later here there e =
    (elim (bytes_eq name text) as (λ b. (b ≡ true → name ≡ text) → cond b (Some this) later ≡ Some key → IsNameOf name key) [
      | true ↦ λ h k. let same : this ≡ key = cc in subst (λ x. IsNameOf name x) same (here (h refl))
      | false ↦ λ h k. there k
    ]) ((bytes_eq-Decides name text).0) e

name_is : (name : List ℕ) (key : Key) → key_named name ≡ Some key → IsNameOf name key
name_is name key e =
    if_named name (codes "top") Top key _ (named_top name)
    (if_named name (codes "clock") Clock key _ (named_clock name)
    (if_named name (codes "out") Out key _ (named_out name)
    (if_named name (codes "effort") Effort key _ (named_effort name)
    (if_named name (codes "cycles") Cycles key _ (named_cycles name)
    (if_named name (codes "points") Points key None (named_points name) (λ h. cc)))))) e

-- ---- what a word means

-- an option before the word of its value
abbrev AwaitsNext : Key → List ℕ → Type 0
AwaitsNext key word = (value : List ℕ) (rest : List (List ℕ)) → value ≢ [] → IsNoOption value → BeginWith (key, value) (word ∷ value ∷ rest) rest

abbrev Means : Read → List ℕ → Type 0
Means (Gives key value) word = (rest : List (List ℕ)) → BeginWith (key, value) (word ∷ rest) rest
Means (Awaits key) word = AwaitsNext key word
Means Wrong word = Unit {0}

joined_means : (name value word : List ℕ) (found : Option Key) → ((key : Key) → found ≡ Some key → IsNameOf name key) → word ≡ codes "--" ++ (name ++ (codes "=" ++ value)) → Means (read_joined found value) word
joined_means name value word None is same = tt
joined_means name [] word (Some key) is same = tt
joined_means name (byte ∷ bytes) word (Some key) is same =
    λ rest. (is key refl).option (byte ∷ bytes) (word ∷ rest) rest (inl (ap (λ w. w ∷ rest) (same ∙ ap (λ n. codes "--" ++ (n ++ (codes "=" ++ byte ∷ bytes))) ((is key refl).same)), λ h. cc))

flag_means : (name word : List ℕ) (found : Option Key) → ((key : Key) → found ≡ Some key → IsNameOf name key) → word ≡ codes "--" ++ name → Means (read_flag found) word
flag_means name word None is same = tt
flag_means name word (Some key) is same =
    λ value rest some kept. (is key refl).option value (word ∷ value ∷ rest) rest (inr (ap (λ w. w ∷ value ∷ rest) (same ∙ ap (λ n. codes "--" ++ n) ((is key refl).same)), some, kept))

cut_means : (named word : List ℕ) (cut : Option (List ℕ × List ℕ)) → cut_at_equals named ≡ cut → word ≡ codes "--" ++ named → Means (read_cut cut named) word
cut_means named word None e same = flag_means named word (key_named named) (λ key h. name_is named key h) same
cut_means named word (Some parts) e same =
    joined_means parts.0 parts.1 word (key_named parts.0) (λ key h. name_is parts.0 key h) (same ∙ ap (λ n. codes "--" ++ n) (cut_parts named parts e))

option_means : (rest word : List ℕ) (found : Option (List ℕ)) → after_hyphen rest ≡ found → word ≡ 45 ∷ rest → Means (read_option found) word
option_means rest word None e same = tt
option_means rest word (Some named) e same = cut_means named word (cut_at_equals named) refl (same ∙ ap (λ n. 45 ∷ n) (with_hyphen rest named e))

behind_means : (word : List ℕ) (found : Option (List ℕ)) → after_hyphen word ≡ found → Means (read_behind found word) word
behind_means word None e = λ rest. (refl, without_hyphen word e)
behind_means word (Some rest) e = option_means rest word (after_hyphen rest) refl (with_hyphen word rest e)

first_means : (word : List ℕ) → Means (read_word None word) word
first_means word = behind_means word (after_hyphen word) refl

-- the word is the awaited value of this key
abbrev IsAwaited : Key → Read → List ℕ → Type 0
IsAwaited key (Gives other value) word = (other ≡ key) × (value ≡ word) × (word ≢ []) × IsNoOption word
IsAwaited key (Awaits other) word = ⊥
IsAwaited key Wrong word = Unit {0}

awaited_by : (key : Key) (word : List ℕ) (b : Bool) → is_option word ≡ b → IsAwaited key (cond b Wrong (read_value key word)) word
awaited_by key word true e = tt
awaited_by key [] false e = tt
awaited_by key (byte ∷ bytes) false e = (refl, refl, (λ h. cc), no_option (byte ∷ bytes) e)

awaited_means : (key : Key) (word : List ℕ) → IsAwaited key (read_word (Some key) word) word
awaited_means key word = awaited_by key word (is_option word) refl

-- ---- words that were read are entries

abbrev added : List Entry → Givens → Givens
added [] g = g
added (entry ∷ entries) g = added entries (with_entry g entry.0 entry.1)

-- the value of this key comes first
record ComesFirst (key : Key) (entries : List Entry) (words : List (List ℕ)) : Type 0 where
  value : List ℕ
  rest : List (List ℕ)
  later : List Entry
  words_are : words ≡ value ∷ rest
  entries_are : entries ≡ (key, value) ∷ later
  some : value ≢ []
  kept : IsNoOption value
  more : AreEntries later rest

abbrev AreFrom : Option Key → List Entry → List (List ℕ) → Type 0
AreFrom None entries words = AreEntries entries words
AreFrom (Some key) entries words = ComesFirst key entries words

record Sound (words : List (List ℕ)) (awaits : Option Key) (g last : Givens) : Type 0 where
  entries : List Entry
  are : AreFrom awaits entries words
  same : added entries g ≡ last

sound_first : (word : List ℕ) (words : List (List ℕ)) (g last : Givens) (read : Read) (end : Scan) → Means read word
    → ((s : Scan) → scanned words s ≡ Some end → Sound words s.awaits s.givens last)
    → option_and_then (λ (next : Scan). scanned words next) (with_read read g) ≡ Some end → Sound (word ∷ words) None g last
sound_first word words g last (Gives key value) end means ih e =
    let s = ih (record { awaits = None; givens = with_entry g key value }) e in
    record { entries = (key, value) ∷ s.entries; are = (words, means words, s.are); same = s.same }
sound_first word words g last (Awaits key) end means ih e =
    let s = ih (record { awaits = Some key; givens = g }) e in
    let f = s.are in
    record {
      entries = s.entries;
      are = (let P : List Entry → Type 0 = λ es. AreEntries es (word ∷ words) in subst P (sym f.entries_are)
          (f.rest, (let Q : List (List ℕ) → Type 0 = λ ws. BeginWith (key, f.value) (word ∷ ws) f.rest in subst Q (sym f.words_are) (means f.value f.rest f.some f.kept)), f.more));
      same = s.same;
    }
sound_first word words g last Wrong end means ih e = absurd (cc)

sound_awaited : (key : Key) (word : List ℕ) (words : List (List ℕ)) (g last : Givens) (read : Read) (end : Scan) → IsAwaited key read word
    → ((s : Scan) → scanned words s ≡ Some end → Sound words s.awaits s.givens last)
    → option_and_then (λ (next : Scan). scanned words next) (with_read read g) ≡ Some end → Sound (word ∷ words) (Some key) g last
sound_awaited key word words g last (Gives other value) end means ih e =
    let s = ih (record { awaits = None; givens = with_entry g other value }) e in
    record {
      entries = (key, word) ∷ s.entries;
      are = record { value = word; rest = words; later = s.entries; words_are = refl; entries_are = refl; some = means.2; kept = means.3; more = s.are };
      same = ap (λ k. added s.entries (with_entry g k word)) (sym means.0) ∙ (ap (λ v. added s.entries (with_entry g other v)) (sym means.1) ∙ s.same);
    }
sound_awaited key word words g last (Awaits other) end means ih e = absurd means
sound_awaited key word words g last Wrong end means ih e = absurd (cc)

sound_word : (word : List ℕ) (words : List (List ℕ)) (awaits : Option Key) (g last : Givens) (end : Scan)
    → ((s : Scan) → scanned words s ≡ Some end → Sound words s.awaits s.givens last)
    → option_and_then (λ (next : Scan). scanned words next) (with_read (read_word awaits word) g) ≡ Some end → Sound (word ∷ words) awaits g last
sound_word word words None g last end ih e = sound_first word words g last (read_word None word) end (first_means word) ih e
sound_word word words (Some key) g last end ih e = sound_awaited key word words g last (read_word (Some key) word) end (awaited_means key word) ih e

nothing_left : (awaits : Option Key) → awaits ≡ None → AreFrom awaits [] []
nothing_left None e = refl
nothing_left (Some key) e = absurd (cc)

sound : (words : List (List ℕ)) (s end : Scan) → scanned words s ≡ Some end → end.awaits ≡ None → Sound words s.awaits s.givens end.givens
sound [] s end e none =
    let same : s ≡ end = cc in
    record { entries = []; are = nothing_left s.awaits (ap (λ (x : Scan). x.awaits) same ∙ none); same = ap (λ (x : Scan). x.givens) same }
sound (word ∷ words) s end e none = sound_word word words s.awaits s.givens end.givens end (λ t h. sound words t end h none) e

-- what was given, and no option awaits its value
ended_is : (awaits : Option Key) (g last : Givens) → ended awaits g ≡ Some last → (awaits ≡ None) × (g ≡ last)
ended_is None g last e = (refl, cc)
ended_is (Some key) g last e = absurd (cc)

then_some : {A B : Type 0} (f : A → Option B) (o : Option A) (y : B) → option_and_then f o ≡ Some y → (x : A) × (o ≡ Some x) × (f x ≡ Some y)
then_some f None y e = absurd (cc)
then_some f (Some x) y e = (x, refl, e)

given_by : (words : List (List ℕ)) (last : Givens) → givens_of words ≡ Some last → (entries : List Entry) × AreEntries entries words × (added entries nothing_given ≡ last)
given_by words last e =
    let h = then_some givens_at (scanned words first_scan) last e in
    let end = h.0 in
    let last_is = ended_is end.awaits end.givens last h.2 in
    let s = sound words first_scan end h.1 last_is.0 in
    (s.entries, s.are, s.same ∙ last_is.1)

-- ---- entries are read

option_read : (name value : List ℕ) (key : Key) (words rest : List (List ℕ)) (g : Givens) → ((byte : ℕ) (bytes : List ℕ) → read_word None (codes "--" ++ (name ++ (codes "=" ++ byte ∷ bytes))) ≡ Gives key (byte ∷ bytes))
    → read_word None (codes "--" ++ name) ≡ Awaits key → BeginWithOption name value words rest
    → scanned words (record { awaits = None; givens = g }) ≡ scanned rest (record { awaits = None; givens = with_entry g key value })
option_read name [] key words rest g joined flag (inl h) = absurd (h.1 refl)
option_read name (byte ∷ bytes) key words rest g joined flag (inl h) =
    ap (λ ws. scanned ws (record { awaits = None; givens = g })) h.0 ∙ ap (λ r. option_and_then (λ (next : Scan). scanned rest next) (with_read r g)) (joined byte bytes)
option_read name [] key words rest g joined flag (inr h) = absurd (h.1 refl)
option_read name (byte ∷ bytes) key words rest g joined flag (inr h) =
    ap (λ ws. scanned ws (record { awaits = None; givens = g })) h.0
    ∙ (ap (λ r. option_and_then (λ (next : Scan). scanned ((byte ∷ bytes) ∷ rest) next) (with_read r g)) flag
    ∙ ap (λ b. option_and_then (λ (next : Scan). scanned rest next) (with_read (cond b Wrong (read_value key (byte ∷ bytes))) g)) (plain (byte ∷ bytes) h.2))

entry_read : (key : Key) (value : List ℕ) (words rest : List (List ℕ)) (g : Givens) → BeginWith (key, value) words rest → scanned words (record { awaits = None; givens = g }) ≡ scanned rest (record { awaits = None; givens = with_entry g key value })
entry_read File value words rest g h =
    ap (λ ws. scanned ws (record { awaits = None; givens = g })) h.0 ∙ ap (λ f. option_and_then (λ (next : Scan). scanned rest next) (with_read (read_behind f value) g)) (none_without value h.1)
entry_read Top value words rest g h = option_read (codes "top") value Top words rest g (λ byte bytes. refl) refl h
entry_read Clock value words rest g h = option_read (codes "clock") value Clock words rest g (λ byte bytes. refl) refl h
entry_read Out value words rest g h = option_read (codes "out") value Out words rest g (λ byte bytes. refl) refl h
entry_read Effort value words rest g h = option_read (codes "effort") value Effort words rest g (λ byte bytes. refl) refl h
entry_read Cycles value words rest g h = option_read (codes "cycles") value Cycles words rest g (λ byte bytes. refl) refl h
entry_read Points value words rest g h = option_read (codes "points") value Points words rest g (λ byte bytes. refl) refl h

entries_read : (entries : List Entry) (words : List (List ℕ)) (g : Givens) → AreEntries entries words → scanned words (record { awaits = None; givens = g }) ≡ Some (record { awaits = None; givens = added entries g })
entries_read [] words g e = ap (λ ws. scanned ws (record { awaits = None; givens = g })) e
entries_read (entry ∷ entries) words g (rest, begin, more) = entry_read entry.0 entry.1 words rest g begin ∙ entries_read entries rest (with_entry g entry.0 entry.1) more

all_given : (entries : List Entry) (words : List (List ℕ)) → AreEntries entries words → givens_of words ≡ Some (added entries nothing_given)
all_given entries words are = ap (λ o. option_and_then givens_at o) (entries_read entries words nothing_given are)

-- ---- the values of each key

abbrev more : List (List ℕ) → Given → Given
more [] given = given
more (value ∷ rest) given = more rest (with_value given value)

abbrev all_more : List Entry → Givens → Givens
all_more es g = record {
  file = more (values File es) g.file;
  top = more (values Top es) g.top;
  clock = more (values Clock es) g.clock;
  out = more (values Out es) g.out;
  effort = more (values Effort es) g.effort;
  cycles = more (values Cycles es) g.cycles;
  points = more (values Points es) g.points;
}

added_is : (es : List Entry) (g : Givens) → added es g ≡ all_more es g
added_is [] g = refl
added_is ((File, value) ∷ es) g = added_is es (with_entry g File value)
added_is ((Top, value) ∷ es) g = added_is es (with_entry g Top value)
added_is ((Clock, value) ∷ es) g = added_is es (with_entry g Clock value)
added_is ((Out, value) ∷ es) g = added_is es (with_entry g Out value)
added_is ((Effort, value) ∷ es) g = added_is es (with_entry g Effort value)
added_is ((Cycles, value) ∷ es) g = added_is es (with_entry g Cycles value)
added_is ((Points, value) ∷ es) g = added_is es (with_entry g Points value)

twice_stays : (vs : List (List ℕ)) → more vs Twice ≡ Twice
twice_stays [] = refl
twice_stays (v ∷ vs) = twice_stays vs

-- the only value
one_value : (vs : List (List ℕ)) (value : List ℕ) → once (more vs Absent) ≡ Some value → vs ≡ value ∷ []
one_value [] value e = cc
one_value (v ∷ []) value e = let same : v ≡ value = cc in ap (λ x. x ∷ []) same
one_value (v ∷ w ∷ vs) value e = let k : None ≡ Some value = ap once (sym (twice_stays vs)) ∙ e in cc

-- numbers
record IsDigit (c : ℕ) : Type 0 where
  low : 48 ≤ c
  high : c ≤ 57

digit_tested : (c : ℕ) → is_ascii_digit c ≡ true → IsDigit c
digit_tested c e =
    let p = and_parts (leb 48 c) (leb c 57) e in
    record { low = leb-true 48 c p.0; high = leb-true c 57 p.1 }

chosen : {X : Type 0} (b : Bool) (x : Option X) (y : X) → cond b x None ≡ Some y → (b ≡ true) × (x ≡ Some y)
chosen true x y e = (refl, e)
chosen false x y e = absurd (cc)

value_is : (max m : ℕ) (ds : List ℕ) (n : ℕ) → m ≤ max → value_after max m ds ≡ Some n → AreDigits ds × (n ≡ spelled_after m ds) × (n ≤ max)
value_is max m [] n le e = let q : m ≡ n = cc in (tt, sym q, omega (arith, q, le))
value_is max m (d ∷ ds) n le e =
    let k : ℕ = m * 10 + (d - 48) in
    let c = chosen (is_ascii_digit d && leb k max) (value_after max k ds) n e in
    let p = and_parts (is_ascii_digit d) (leb k max) c.0 in
    let t = digit_tested d p.0 in
    let i = value_is max k ds n (leb-true k max p.1) c.1 in
    ((t.low, t.high, i.0), i.1, i.2)

grows : (m : ℕ) (ds : List ℕ) → m ≤ spelled_after m ds
grows m [] = omega arith
grows m (d ∷ ds) = omega (arith, grows (m * 10 + (d - 48)) ds)

value_again : (max m : ℕ) (ds : List ℕ) → AreDigits ds → spelled_after m ds ≤ max → value_after max m ds ≡ Some (spelled_after m ds)
value_again max m [] h le = refl
value_again max m (d ∷ ds) (low, high, more_digits) le =
    let k : ℕ = m * 10 + (d - 48) in
    let test : (is_ascii_digit d && leb k max) ≡ true = and_from (is_ascii_digit d) (leb k max) (and_from (leb 48 d) (leb d 57) (le-leb 48 d low) (le-leb d 57 high)) (le-leb k max (omega (arith, grows k ds, le))) in
    ap (λ (t : Bool). cond t (value_after max k ds) None) test ∙ value_again max k ds more_digits le

number_is : (word : List ℕ) (n : ℕ) → number_of word ≡ Some n → IsNumber word n × (n ≤ 10 ^ 18)
number_is word n e =
    let c = chosen (leb 1 (length word) && leb (length word) 19) (value_after (10 ^ 18) 0 word) n e in
    let p = and_parts (leb 1 (length word)) (leb (length word) 19) c.0 in
    let v = value_is (10 ^ 18) 0 word n (omega arith) c.1 in
    (record { some = leb-true 1 (length word) p.0; most = leb-true (length word) 19 p.1; digits = v.0; value = v.1 }, v.2)

number_again : (word : List ℕ) (n : ℕ) → IsNumber word n → n ≤ 10 ^ 18 → number_of word ≡ Some n
number_again word n is le =
    ap (λ (t : Bool). cond t (value_after (10 ^ 18) 0 word) None) (and_from (leb 1 (length word)) (leb (length word) 19) (le-leb 1 (length word) is.some) (le-leb (length word) 19 is.most))
    ∙ (value_again (10 ^ 18) 0 word is.digits (let v = is.value in omega (arith, v, le)) ∙ ap (λ x. Some x) (sym is.value))

-- the effort
positive_by : (k n : ℕ) (b : Bool) → (k ≡ 0 → b ≡ true) → cond b None (Some k) ≡ Some n → (k ≡ n) × (1 ≤ n)
positive_by k n true zero_test e = absurd (cc)
positive_by k n false zero_test e =
    let same : k ≡ n = cc in
    let ne : k ≡ 0 → ⊥ = λ z. let h : false ≡ true = zero_test z in cc in
    (same, omega (arith, same, ne))

positive_is : (k n : ℕ) → if_positive k ≡ Some n → (k ≡ n) × (1 ≤ n)
positive_is k n e = positive_by k n (eqb k 0) ((Decides-eqb k 0).1) e

positive_again : (n : ℕ) → 1 ≤ n → if_positive n ≡ Some n
positive_again n le = ap (λ b. cond b None (Some n)) (ne_eqb n 0 (λ z. omega (arith, le, z)))

effort_is : (vs : List (List ℕ)) (n : ℕ) → effort_of (more vs Absent) ≡ Some n → IsEffort vs n
effort_is [] n e = cc
effort_is (word ∷ []) n e =
    let h = then_some if_positive (number_of word) n e in
    let p = positive_is h.0 n h.2 in
    let is = number_is word n (h.1 ∙ ap (λ x. Some x) p.0) in
    (is.0, p.1, is.1)
effort_is (word ∷ other ∷ vs) n e = let k : None ≡ Some n = ap effort_of (sym (twice_stays vs)) ∙ e in cc

effort_again : (vs : List (List ℕ)) (n : ℕ) → IsEffort vs n → effort_of (more vs Absent) ≡ Some n
effort_again [] n is = ap (λ x. Some x) (sym is)
effort_again (word ∷ []) n (is, some, most) = ap (λ o. option_and_then if_positive o) (number_again word n is most) ∙ positive_again n some
effort_again (word ∷ other ∷ vs) n is = absurd is

-- no prelude
zero_is : (o : Option ℕ) → is_zero o ≡ true → o ≡ Some 0
zero_is None e = absurd (cc)
zero_is (Some n) e = ap (λ x. Some x) ((Decides-eqb n 0).0 e)

prelude_is : (vs : List (List ℕ)) → no_prelude (more vs Absent) ≡ true → IsNoPrelude vs
prelude_is [] e = tt
prelude_is (word ∷ []) e = (number_is word 0 (zero_is (number_of word) e)).0
prelude_is (word ∷ other ∷ vs) e = let k : false ≡ true = ap no_prelude (sym (twice_stays vs)) ∙ e in cc

prelude_again : (vs : List (List ℕ)) → IsNoPrelude vs → no_prelude (more vs Absent) ≡ true
prelude_again [] is = refl
prelude_again (word ∷ []) is = ap is_zero (number_again word 0 is (omega arith))
prelude_again (word ∷ other ∷ vs) is = absurd is

-- the kinds of points
kinds_are : (vs : List (List ℕ)) (kinds : Kinds) → kinds_given (more vs Absent) ≡ Some kinds → AreKinds vs kinds
kinds_are [] kinds e = let same : kinds_named true true ≡ kinds = cc in sym same
kinds_are (word ∷ []) kinds e = kinds_take word kinds e
kinds_are (word ∷ other ∷ vs) kinds e = let k : None ≡ Some kinds = ap kinds_given (sym (twice_stays vs)) ∙ e in cc

kinds_given_again : (vs : List (List ℕ)) (kinds : Kinds) → AreKinds vs kinds → kinds_given (more vs Absent) ≡ Some kinds
kinds_given_again [] kinds is = ap (λ (k : Kinds). Some k) (sym is)
kinds_given_again (word ∷ []) kinds (is, built) = ap kinds_of is ∙ kinds_again kinds built
kinds_given_again (word ∷ other ∷ vs) kinds is = absurd is

-- ---- the words after `prove`

map_some : {A B : Type 0} (f : A → B) (o : Option A) (y : B) → option_map f o ≡ Some y → (x : A) × (o ≡ Some x) × (f x ≡ y)
map_some f None y e = absurd (cc)
map_some f (Some x) y e = (x, refl, cc)

-- what these words ask for
pub record Asked (words : List (List ℕ)) (command : Command) : Type 0 where
  pub file : List ℕ
  pub top : List ℕ
  pub clock : List ℕ
  pub prefix : List ℕ
  pub kinds : Kinds
  pub effort : ℕ
  pub is : Prove_file file top clock prefix kinds effort ≡ command
  pub ask : AskToProve words file top clock prefix kinds effort

prove_from : (words : List (List ℕ)) (es : List Entry) (command : Command) → AreEntries es words → prove_given (all_more es nothing_given) ≡ Some command → Asked words command
prove_from words es command are e =
    let g = all_more es nothing_given in
    let c = chosen (no_prelude g.cycles) _ command e in
    let file = then_some _ (once g.file) command c.1 in
    let top = then_some _ (once g.top) command file.2 in
    let clock = then_some _ (once g.clock) command top.2 in
    let out = then_some _ (once g.out) command clock.2 in
    let kinds = then_some _ (kinds_given g.points) command out.2 in
    let effort = map_some _ (effort_of g.effort) command kinds.2 in
    record {
      file = file.0;
      top = top.0;
      clock = clock.0;
      prefix = out.0;
      kinds = kinds.0;
      effort = effort.0;
      is = effort.2;
      ask = record {
        entries = es;
        are_entries = are;
        one_file = one_value (values File es) file.0 file.1;
        one_top = one_value (values Top es) top.0 top.1;
        one_clock = one_value (values Clock es) clock.0 clock.1;
        one_prefix = one_value (values Out es) out.0 out.1;
        effort_given = effort_is (values Effort es) effort.0 effort.1;
        no_prelude = prelude_is (values Cycles es) c.0;
        kinds_given = kinds_are (values Points es) kinds.0 kinds.1;
      };
    }

pub prove_named : (words : List (List ℕ)) (command : Command) → prove_of words ≡ Some command → Asked words command
prove_named words command e =
    let h = then_some prove_given (givens_of words) command e in
    let b = given_by words h.0 h.1 in
    prove_from words b.0 command b.1 (ap prove_given (sym (added_is b.0 nothing_given) ∙ b.2) ∙ h.2)

given_again : (g : Givens) (file top clock prefix : List ℕ) (kinds : Kinds) (effort : ℕ) → no_prelude g.cycles ≡ true → once g.file ≡ Some file → once g.top ≡ Some top → once g.clock ≡ Some clock → once g.out ≡ Some prefix → kinds_given g.points ≡ Some kinds → effort_of g.effort ≡ Some effort
    → prove_given g ≡ Some (Prove_file file top clock prefix kinds effort)
given_again g file top clock prefix kinds effort t a b c d k e = rw (t, a, b, c, d, k, e) refl

once_more : (vs : List (List ℕ)) (value : List ℕ) → vs ≡ value ∷ [] → once (more vs Absent) ≡ Some value
once_more vs value e = ap (λ xs. once (more xs Absent)) e

pub prove_found : (words : List (List ℕ)) (file top clock prefix : List ℕ) (kinds : Kinds) (effort : ℕ) → AskToProve words file top clock prefix kinds effort → prove_of words ≡ Some (Prove_file file top clock prefix kinds effort)
prove_found words file top clock prefix kinds effort ask =
    let es = ask.entries in
    let g = all_more es nothing_given in
    ap (λ o. option_and_then prove_given o) (all_given es words ask.are_entries ∙ ap (λ x. Some x) (added_is es nothing_given))
    ∙ given_again g file top clock prefix kinds effort (prelude_again (values Cycles es) ask.no_prelude) (once_more (values File es) file ask.one_file) (once_more (values Top es) top ask.one_top) (once_more (values Clock es) clock ask.one_clock) (once_more (values Out es) prefix ask.one_prefix) (kinds_given_again (values Points es) kinds ask.kinds_given) (effort_again (values Effort es) effort ask.effort_given)
