-- What one word gives, by the code's steps and by the words' definition.
use Rattle.std.proofs.Common.{◌≡◌, ◌≢◌, ℕ, suc, ◌+◌, ◌<◌, List, [], ◌∷◌, ◌++◌, length, get_or, drop, String, string_bytes, Option, Some, None, Bor, MatchOption, refl, ap, ◌∙◌, sym, Bool, cond, eqb, true, false, arith}
use Rattle.std.specs.Option.{option_map, option_and_then}
use Rattle.std.specs.declared.alloc.Global.{Global}
use Rattle.std.proofs.lemmas.Bool.Decides.{Decides-eqb}
use Rattle.std.proofs.lemmas.List.{at_drop_more}
use Rattle.unr_engine.specs.declared.options.Givens.{Givens as CodeGivens}
use Rattle.unr_engine.specs.Words.{texts}
use Rattle.unr_engine.specs.Requests.{after_hyphen, cut_at_equals, Scan, step, scanned, givens_at, givens_are}

-- ---- a hyphen

hyphen_or_none : (byte : ℕ) (bytes : List ℕ) (b : Bool) → (b ≡ true → byte ≡ 45) → ((rest : List ℕ) → byte ∷ bytes ≢ 45 ∷ rest) → cond b (Some bytes) None ≡ None
hyphen_or_none byte bytes true same never = absurd (never bytes (ap (λ x. x ∷ bytes) (same refl)))
hyphen_or_none byte bytes false same never = refl

no_hyphen : (word : List ℕ) → ((rest : List ℕ) → word ≢ 45 ∷ rest) → after_hyphen word ≡ None
no_hyphen [] never = refl
no_hyphen (byte ∷ bytes) never = hyphen_or_none byte bytes (eqb byte 45) ((Decides-eqb byte 45).0) never

pub after_hyphen_is : (word : List ℕ) (r : Option (Bor (List ℕ))) → MatchOption r ((rest : List ℕ) → word ≢ 45 ∷ rest) (λ x. word ≡ 45 ∷ x.now) → MatchOption r (after_hyphen word ≡ None) (λ rest. after_hyphen word ≡ Some rest.now)
after_hyphen_is word None never = no_hyphen word never
after_hyphen_is word (Some x) same = ap after_hyphen same

-- ---- an equals sign

-- no byte of these is the equals sign
abbrev HasNone : List ℕ → Type 0
HasNone bytes = (i : ℕ) → i < length bytes → get_or bytes i 0 ≢ 61

none_behind : (byte : ℕ) (bytes : List ℕ) → HasNone (byte ∷ bytes) → HasNone bytes
none_behind byte bytes none = λ i lt. none (suc i) (omega (arith, lt))

not_equals : (byte : ℕ) (bytes : List ℕ) → HasNone (byte ∷ bytes) → eqb byte 61 ≡ false
not_equals byte bytes none =
    (elim (eqb byte 61) as (λ b. (b ≡ true → byte ≡ 61) → b ≡ false) [ true ↦ λ h. absurd (none 0 (omega arith) (h refl)) | false ↦ λ h. refl ]) ((Decides-eqb byte 61).0)

no_cut : (bytes : List ℕ) → HasNone bytes → cut_at_equals bytes ≡ None
no_cut [] none = refl
no_cut (byte ∷ bytes) none = rw (not_equals byte bytes none, no_cut bytes (none_behind byte bytes none)) refl

cut_after : (name value : List ℕ) → HasNone name → cut_at_equals (name ++ 61 ∷ value) ≡ Some (name, value)
cut_after [] value none = refl
cut_after (byte ∷ name) value none = rw (not_equals byte name none, cut_after name value (none_behind byte name none)) refl

pub cut_is : (word : List ℕ) (r : Option (Bor (List ℕ) × Bor (List ℕ))) → MatchOption r ((i : ℕ) → i < length word → get_or word i 0 ≢ 61) (λ x. (word ≡ x.0.now ++ (61 ∷ x.1.now)) × ((i : ℕ) → i < length x.0.now → get_or x.0.now i 0 ≢ 61))
    → MatchOption r (cut_at_equals word ≡ None) (λ parts. cut_at_equals word ≡ Some (parts.0.now, parts.1.now))
cut_is word None none = no_cut word none
cut_is word (Some x) (same, none) = ap cut_at_equals same ∙ cut_after x.0.now x.1.now none

-- ---- the next word

pub next_word : (words : List (String Global)) (i : ℕ) (word : String Global) (text : List ℕ) (s : Scan) (total : Option Scan) → i < length words → word ≡ get_or words i word → text ≡ string_bytes word
    → scanned (texts (drop i words)) s ≡ total → option_and_then (λ (next : Scan). scanned (texts (drop (i + 1) words)) next) (step s text) ≡ total
next_word words i word text s total lt item same before =
    let F : List (String Global) → Option Scan = λ ws. scanned (texts ws) s in
    let G : String Global → Option Scan = λ w. F (w ∷ drop (i + 1) words) in
    let H : List ℕ → Option Scan = λ t. option_and_then (λ (next : Scan). scanned (texts (drop (i + 1) words)) next) (step s t) in
    ap H same ∙ (ap G item ∙ (sym (at_drop_more F words i word lt) ∙ before))

-- a word that is wrong
pub word_stops : (rest : Scan → Option Scan) (total next : Option Scan) (result : Option CodeGivens) → option_and_then rest next ≡ total → next ≡ None → result ≡ None → option_map givens_are result ≡ option_and_then givens_at total
word_stops rest total next result all none stopped =
    ap (λ r. option_map givens_are r) stopped ∙ ap (λ t. option_and_then givens_at t) (sym (ap (λ n. option_and_then rest n) none) ∙ all)

-- a word that is read
pub word_read : (rest : Scan → Option Scan) (total next : Option Scan) (after : Scan) → option_and_then rest next ≡ total → next ≡ Some after → rest after ≡ total
word_read rest total next after all some = sym (ap (λ n. option_and_then rest n) some) ∙ all
