-- The one spelling of each certificate, and which certificates have one.
use Rattle.std.specs.Prelude.{◌≡◌, ℕ, zero, suc, ◌+◌, ◌<◌, ◌^◌, Bool, true, false, List, [], ◌∷◌, ◌++◌, length, map, sum_by, Option, Some, None, codes, decimal, if◌then◌else◌}
use Rattle.std.specs.List.{flat_map, AllByRecursion}
use Rattle.bit_system.specs.declared.ladder.Depth.{Depth}
use Rattle.bit_system.specs.declared.ladder.Depth.TheVariants.{All, Steps}
use Rattle.bit_system.specs.ProofLines.{ProofLine, addition, deletion}
use Rattle.proof_lines.specs.Spelling.{PlainLine, Addition, Deletion, line_words, Fits as FitsLine}
use Rattle.design_core.specs.declared.setup.Kinds.{Kinds}
use Rattle.design_core.specs.declared.setup.Setup.{Setup}
use Rattle.cert_text.specs.declared.cert.Body.{Body}
use Rattle.cert_text.specs.declared.cert.Body.TheVariants.{Reached, Excluded, Open}
use Rattle.cert_text.specs.declared.cert.NamedLit.{NamedLit}
use Rattle.cert_text.specs.declared.cert.NamedLemma.{NamedLemma}
use Rattle.cert_text.specs.declared.cert.NamedLadder.{NamedLadder}
use Rattle.cert_text.specs.declared.cert.CertClaim.{CertClaim}
use Rattle.cert_text.specs.declared.cert.Cert.{Cert}
use Rattle.line_text.specs.Lines.{Line, words, text_of}
use Rattle.line_text.specs.Tagged.{tagged}
use Rattle.line_text.specs.Texts.{IsFirstBad as IsFirstBadOf}
use Rattle.cert_text.specs.Points.{IsName, IsStateName, IsPoint}
use Rattle.cert_text.specs.Kinds.{kinds_word, AreBuilt}

-- ---- lines, each the list of its words

abbrev pub bit : Bool → ℕ
bit b = if b then 49 else 48

abbrev pub bits_word : List Bool → List ℕ
bits_word [] = codes "-"
bits_word (b ∷ bs) = bit b ∷ map bit bs

abbrev pub setup_lines : Setup → List Line
setup_lines s =
    tagged (codes "unr") (codes "1") ∷
    tagged (codes "top") s.top ∷
    tagged (codes "clock") s.clock ∷
    tagged (codes "cycles") (codes "0") ∷
    tagged (codes "points") (kinds_word s.kinds) ∷ []

-- a state bit's name, with - in front where the literal is negative
abbrev pub lit_word : NamedLit → List ℕ
lit_word l = if l.positive then l.name else 45 ∷ l.name

abbrev pub level_word : Depth → List ℕ
level_word All = codes "all"
level_word (Steps level) = decimal level

abbrev pub lemma_line : NamedLemma → Line
lemma_line lemma = codes "l" ∷ level_word lemma.level ∷ map lit_word lemma.lits

-- what a line of a proof says, as the format of proofs spells it
abbrev pub plain_line : ProofLine → PlainLine
plain_line (addition id lits hints) = Addition id lits hints
plain_line (deletion id ids) = Deletion id ids

abbrev pub proof_line : ProofLine → Line
proof_line x = line_words (plain_line x)

-- how many literals a line of a proof adds
abbrev pub added : ProofLine → ℕ
added (addition id lits hints) = length lits
added (deletion id ids) = 0

abbrev pub all_added : List ProofLine → ℕ
all_added proof = sum_by added proof

-- the words of a head, with how many lines follow and how many literals they add, and these lines
abbrev pub proof_lines : Line → List ProofLine → List Line
proof_lines head proof = (head ++ decimal (length proof) ∷ decimal (all_added proof) ∷ []) ∷ map proof_line proof

-- the proofs of lemmas, of which the first has the number i
abbrev pub step_lines : ℕ → List (List ProofLine) → List Line
step_lines i [] = []
step_lines i (proof ∷ proofs) = proof_lines (codes "step" ∷ decimal i ∷ []) proof ++ step_lines (i + 1) proofs

abbrev pub hit_lines : Option (List ProofLine) → List Line
hit_lines None = []
hit_lines (Some proof) = proof_lines (codes "hit" ∷ []) proof

abbrev pub ladder_lines : NamedLadder → List Line
ladder_lines l = map lemma_line l.lemmas ++ step_lines 1 l.steps ++ hit_lines l.hit ++ (codes "end" ∷ []) ∷ []

abbrev pub body_lines : Body → List Line
body_lines (Reached cycle stimulus) =
    tagged (codes "reached") (decimal cycle) ∷
    tagged (codes "start") (bits_word stimulus.start) ∷
    map (λ b. tagged (codes "in") (bits_word b)) stimulus.lines ++
    (codes "end" ∷ []) ∷ []
body_lines (Excluded ladder) = tagged (codes "excluded") (decimal (length ladder.lemmas)) ∷ ladder_lines ladder
body_lines (Open cycles ladder) = (codes "open" ∷ decimal cycles ∷ decimal (length ladder.lemmas) ∷ []) ∷ ladder_lines ladder

abbrev pub claim_lines : CertClaim → List Line
claim_lines c = words c.point ∷ body_lines c.body

abbrev pub cert_lines : Cert → List Line
cert_lines c = setup_lines c.setup ++ tagged (codes "claims") (decimal (length c.claims)) ∷ flat_map claim_lines c.claims

-- its lines, each with its words divided by one space and ended by one line feed
abbrev pub spelling : Cert → List ℕ
spelling c = text_of (cert_lines c)

-- ---- what has a spelling

-- the setting without held inputs, prelude and registers whose arcs are judged
abbrev pub plain_setup : List ℕ → List ℕ → Kinds → Setup
plain_setup top clock kinds = record { top = top; clock = clock; hold = []; cycles = 0; kinds = kinds; fsm = [] }

pub record FitsSetup (s : Setup) : Type 0 where
  pub top : IsName s.top
  pub clock : IsName s.clock
  pub kinds : AreBuilt s.kinds
  pub plain : s ≡ plain_setup s.top s.clock s.kinds

abbrev pub FitsLevel : Depth → Type 0
FitsLevel All = Unit {0}
FitsLevel (Steps level) = level < 2 ^ 63

-- a lemma has a literal at least
pub record FitsLemma (lemma : NamedLemma) : Type 0 where
  pub level : FitsLevel lemma.level
  pub some : 0 < length lemma.lits
  pub names : AllByRecursion (λ l. IsStateName l.name) lemma.lits

pub record FitsProof (proof : List ProofLine) : Type 0 where
  pub lines : AllByRecursion (λ x. FitsLine (plain_line x)) proof
  pub count : length proof < 2 ^ 63
  pub added : all_added proof < 2 ^ 63

-- a proof for each lemma, and one for the hit
pub record FitsLadder (l : NamedLadder) : Type 0 where
  pub lemmas : AllByRecursion FitsLemma l.lemmas
  pub count : length l.lemmas < 2 ^ 63
  pub paired : length l.steps ≡ length l.lemmas
  pub steps : AllByRecursion FitsProof l.steps
  pub hit : (proof : List ProofLine) × (l.hit ≡ Some proof) × FitsProof proof

abbrev pub empty_ladder : NamedLadder
empty_ladder = record { lemmas = []; steps = []; hit = None }

-- a ladder for so many cycles: of none, no lemma and no proof
abbrev pub FitsCycles : ℕ → NamedLadder → Type 0
FitsCycles zero l = l ≡ empty_ladder
FitsCycles (suc k) l = FitsLadder l

abbrev pub FitsBody : Body → Type 0
FitsBody (Reached cycle stimulus) = cycle < 2 ^ 63
FitsBody (Excluded ladder) = FitsLadder ladder × AllByRecursion (λ lemma. lemma.level ≡ All) ladder.lemmas
FitsBody (Open cycles ladder) = (cycles < 2 ^ 63) × FitsCycles cycles ladder

-- claims of which the first begins at line n, each with the number of its line
abbrev pub FitClaims : ℕ → List CertClaim → Type 0
FitClaims n [] = Unit {0}
FitClaims n (c ∷ cs) = ((c.line ≡ n) × IsPoint (words c.point) × FitsBody c.body) × FitClaims (n + length (claim_lines c)) cs

-- a certificate whose first line is line n
pub record FitsAt (n : ℕ) (c : Cert) : Type 0 where
  pub setup : FitsSetup c.setup
  pub count : length c.claims < 2 ^ 63
  pub claims : FitClaims (n + length (setup_lines c.setup) + 1) c.claims

abbrev pub Fits : Cert → Type 0
Fits c = FitsAt 1 c

-- ---- where a text is bad

-- the lines before this one begin a certificate, and with it they don't; or it is the line after the last line feed of a text that ends too early
abbrev pub IsFirstBad : List ℕ → ℕ → Type 0
IsFirstBad text line = IsFirstBadOf cert_lines Fits text line
