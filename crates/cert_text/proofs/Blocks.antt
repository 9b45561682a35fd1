-- The laws of the blocks of a certificate, and of the whole.
use Rattle.std.proofs.Common.{◌≡◌, ℕ, zero, suc, ◌+◌, ◌^◌, ◌<◌, ◌≤◌, Bool, true, List, [], ◌∷◌, ◌++◌, length, map, Option, Some, None, option_map, Ok, refl, ap, subst, ◌∙◌, arith, lit<, ◌⊎◌, decimal, codes}
use Rattle.std.specs.List.{flat_map}
use Rattle.std.proofs.lemmas.List.{append-nil}
use Rattle.design_core.specs.declared.setup.Setup.{Setup}
use Rattle.design_core.specs.declared.setup.Stimulus.{Stimulus}
use Rattle.cert_text.specs.declared.cert.Body.{Body}
use Rattle.cert_text.specs.declared.cert.Body.TheVariants.{Reached, Excluded, Open}
use Rattle.cert_text.specs.declared.body.Claimed.{Claimed}
use Rattle.cert_text.specs.declared.body.Claimed.TheVariants.{HitAt, Never, NotWithin}
use Rattle.cert_text.specs.declared.cert.NamedLadder.{NamedLadder}
use Rattle.cert_text.specs.declared.cert.CertClaim.{CertClaim}
use Rattle.cert_text.specs.declared.cert.Cert.{Cert}
use Rattle.line_text.specs.Lines.{Line, Source, IsWord, IsLine, words}
use Rattle.line_text.specs.Reading.{Read, ◌>>=◌, line_by, times, until, or_else}
use Rattle.line_text.specs.Tagged.{tagged, numbered_of, exact_of, alone_of}
use Rattle.line_text.proofs.Laws.{IsLineOf, IsReaderOf, some_is, law_line, law_then, law_done, law_as, law_here, law_times, law_until, spell_from, FitFrom, spell_until, FitUntil}
use Rattle.line_text.proofs.Words.{law_tagged, law_number, law_either, spell_either, FitEither, law_alone, word_from, exact_reader, number_reader}
use Rattle.cert_text.specs.Points.{IsName}
use Rattle.cert_text.specs.Kinds.{kinds_word, AreBuilt, kinds_line_of}
use Rattle.cert_text.specs.Spelling.{bits_word, setup_lines, ladder_lines, body_lines, claim_lines, cert_lines, plain_setup, empty_ladder, FitsSetup, FitsCycles, FitsBody, FitClaims, FitsAt}
use Rattle.cert_text.specs.Certs.{named_of, point_of, bits_line_of, in_or_end, setup_at, stimulus_at, head_of, behind_head, body_at, claim_from, claim_at, cert_at}
use Rattle.cert_text.specs.Ladders.{tagged_pair_of, ladder_at, cycles_at}
use Rattle.cert_text.proofs.Names.{named_reader}
use Rattle.cert_text.proofs.KindLaws.{kinds_reader}
use Rattle.cert_text.proofs.ProofLaws.{FitsPair, pair_words, law_pair}
use Rattle.cert_text.proofs.LadderLaws.{LadderOf, ladder_reader, CyclesOf, cycles_reader}
use Rattle.cert_text.proofs.PointLaws.{IsPointText, point_reader}
use Rattle.cert_text.proofs.BitLaws.{law_bits, bits_reader}

abbrev most : ℕ
most = 9223372036854775807

-- ---- the setup

abbrev spell_from_5 : Setup → List Line
spell_from_5 z = (tagged (codes "points") (kinds_word z.kinds) ∷ []) ++ []

abbrev read_from_5 : List ℕ → List ℕ → Source → Read Setup
read_from_5 top clock s = line_by (kinds_line_of (codes "points")) s >>= λ points. Ok (plain_setup top clock points.0, points.1)

abbrev fits_from_5 : List ℕ → List ℕ → Setup → Type 0
fits_from_5 top clock z = AreBuilt z.kinds × (z ≡ plain_setup top clock z.kinds)

law_from_5 : (top clock : List ℕ) → IsReaderOf spell_from_5 (λ _ z. fits_from_5 top clock z) (read_from_5 top clock)
law_from_5 top clock = law_then (λ k. tagged (codes "points") (kinds_word k) ∷ []) (λ _ k. AreBuilt k) (line_by (kinds_line_of (codes "points"))) (λ _ _. []) (λ k _ z. z ≡ plain_setup top clock k) (λ k s. Ok (plain_setup top clock k, s)) (λ z. z.kinds)
    (kinds_reader (codes "points") (word_from (codes "points") refl)) (λ n k f. law_done (plain_setup top clock k)) (λ k n z f. ap (λ (y : Setup). y.kinds) f)

abbrev spell_from_4 : Setup → List Line
spell_from_4 z = (tagged (codes "cycles") (codes "0") ∷ []) ++ spell_from_5 z

abbrev read_from_4 : List ℕ → List ℕ → Source → Read Setup
read_from_4 top clock s = line_by (exact_of (codes "cycles") (codes "0")) s >>= λ cycles. read_from_5 top clock cycles.1

abbrev fits_from_4 : List ℕ → List ℕ → Setup → Type 0
fits_from_4 top clock z = Unit {0} × fits_from_5 top clock z

law_from_4 : (top clock : List ℕ) → IsReaderOf spell_from_4 (λ _ z. fits_from_4 top clock z) (read_from_4 top clock)
law_from_4 top clock = law_then (λ _. tagged (codes "cycles") (codes "0") ∷ []) (λ _ _. Unit {0}) (line_by (exact_of (codes "cycles") (codes "0"))) (λ _ z. spell_from_5 z) (λ _ _ z. fits_from_5 top clock z) (λ _ s. read_from_5 top clock s) (λ z. tt)
    (exact_reader (codes "cycles") (codes "0") (word_from (codes "cycles") refl) (word_from (codes "0") refl)) (λ n x f. law_from_5 top clock) (λ x n z f. refl)

abbrev spell_from_3 : Setup → List Line
spell_from_3 z = (tagged (codes "clock") z.clock ∷ []) ++ spell_from_4 z

abbrev fits_from_3 : List ℕ → Setup → Type 0
fits_from_3 top z = IsName z.clock × fits_from_4 top z.clock z

abbrev read_from_3 : List ℕ → Source → Read Setup
read_from_3 top s = line_by (named_of (codes "clock")) s >>= λ clock. read_from_4 top clock.0 clock.1

law_from_3 : (top : List ℕ) → IsReaderOf spell_from_3 (λ _ z. fits_from_3 top z) (read_from_3 top)
law_from_3 top = law_then (λ x. tagged (codes "clock") x ∷ []) (λ _ x. IsName x) (line_by (named_of (codes "clock"))) (λ _ z. spell_from_4 z) (λ clock _ z. fits_from_4 top clock z) (λ clock s. read_from_4 top clock s) (λ z. z.clock)
    (named_reader (codes "clock") (word_from (codes "clock") refl)) (λ n clock f. law_from_4 top clock) (λ clock n z f. ap (λ (y : Setup). y.clock) f.1.1)

abbrev spell_from_2 : Setup → List Line
spell_from_2 z = (tagged (codes "top") z.top ∷ []) ++ spell_from_3 z

abbrev fits_from_2 : Setup → Type 0
fits_from_2 z = IsName z.top × fits_from_3 z.top z

abbrev read_from_2 : Source → Read Setup
read_from_2 s = line_by (named_of (codes "top")) s >>= λ top. read_from_3 top.0 top.1

law_from_2 : IsReaderOf spell_from_2 (λ _ z. fits_from_2 z) read_from_2
law_from_2 = law_then (λ x. tagged (codes "top") x ∷ []) (λ _ x. IsName x) (line_by (named_of (codes "top"))) (λ _ z. spell_from_3 z) (λ top _ z. fits_from_3 top z) (λ top s. read_from_3 top s) (λ z. z.top)
    (named_reader (codes "top") (word_from (codes "top") refl)) (λ n top f. law_from_3 top) (λ top n z f. ap (λ (y : Setup). y.top) f.1.1.1)

setup_reader : IsReaderOf setup_lines (λ _ z. FitsSetup z) setup_at
unfolding setup_at
setup_reader = law_as (λ z. (tagged (codes "unr") (codes "1") ∷ []) ++ spell_from_2 z) setup_lines (λ _ z. Unit {0} × fits_from_2 z) (λ _ z. FitsSetup z) setup_at
    (law_then (λ _. tagged (codes "unr") (codes "1") ∷ []) (λ _ _. Unit {0}) (line_by (exact_of (codes "unr") (codes "1"))) (λ _ z. spell_from_2 z) (λ _ _ z. fits_from_2 z) (λ _ s. read_from_2 s) (λ z. tt)
    (exact_reader (codes "unr") (codes "1") (word_from (codes "unr") refl) (word_from (codes "1") refl)) (λ n x f. law_from_2) (λ x n z f. refl))
    (λ n z f. refl)
    (λ n z f. record { top = f.1.0; clock = f.1.1.0; kinds = f.1.1.1.1.0; plain = f.1.1.1.1.1 })
    (λ n z f. (tt, (f.top, (f.clock, (tt, (f.kinds, f.plain))))))

-- ---- stimuli

abbrev input_spell : List Bool ⊎ Unit {0} → Line
input_spell = spell_either (λ b. tagged (codes "in") (bits_word b)) (λ _. codes "end" ∷ [])

abbrev InputFits : List (List Bool) → List Bool ⊎ Unit {0} → Type 0
InputFits seen = FitEither (λ _. Unit {0}) (λ _. Unit {0})

input_line_law : (seen : List (List Bool)) → IsLineOf input_spell (InputFits seen) (in_or_end seen)
unfolding in_or_end
input_line_law seen = law_either (λ b. tagged (codes "in") (bits_word b)) (λ _. codes "end" ∷ []) (λ _. Unit {0}) (λ _. Unit {0}) (bits_line_of (codes "in")) (alone_of (codes "end"))
    (law_tagged (codes "in") bits_word (λ _. Unit {0}) _ (word_from (codes "in") refl) law_bits) (law_alone (codes "end") (word_from (codes "end") refl)) (λ y. refl)

inputs_reader : IsReaderOf (λ z. spell_until input_spell z.0 z.1) (λ _ z. FitUntil InputFits [] z.0 z.1) (until in_or_end)
inputs_reader = law_until input_spell InputFits in_or_end input_line_law (λ seen. (tt, tt))

inputs_fit : (bs seen : List (List Bool)) → FitUntil InputFits seen bs tt
inputs_fit [] seen = tt
inputs_fit (b ∷ bs) seen = (tt, inputs_fit bs (seen ++ b ∷ []))

inputs_lines : (bs : List (List Bool)) → spell_until input_spell bs tt ++ [] ≡ map (λ b. tagged (codes "in") (bits_word b)) bs ++ (codes "end" ∷ []) ∷ []
inputs_lines [] = refl
inputs_lines (b ∷ bs) = ap (λ (ls : List Line). tagged (codes "in") (bits_word b) ∷ ls) (inputs_lines bs)

abbrev make_stimulus : List Bool → List (List Bool) → Stimulus
make_stimulus start inputs = record { start = start; lines = inputs }

abbrev stimulus_lines : Stimulus → List Line
stimulus_lines z = tagged (codes "start") (bits_word z.start) ∷ map (λ b. tagged (codes "in") (bits_word b)) z.lines ++ (codes "end" ∷ []) ∷ []

abbrev spell_inputs : Stimulus → List Line
spell_inputs z = spell_until input_spell z.lines tt ++ []

abbrev fits_inputs : List Bool → Stimulus → Type 0
fits_inputs start z = FitUntil InputFits [] z.lines tt × (z ≡ make_stimulus start z.lines)

abbrev read_inputs : List Bool → Source → Read Stimulus
read_inputs start s = until in_or_end s >>= λ inputs. Ok (make_stimulus start inputs.0.0, inputs.1)

rest_reader : (start : List Bool) → IsReaderOf spell_inputs (λ _ z. fits_inputs start z) (read_inputs start)
rest_reader start = law_then (λ z. spell_until input_spell z.0 z.1) (λ _ z. FitUntil InputFits [] z.0 z.1) (until in_or_end) (λ _ _. []) (λ i _ z. z ≡ make_stimulus start i.0) (λ i s. Ok (make_stimulus start i.0, s)) (λ z. (z.lines, tt))
    inputs_reader (λ n i f. law_done (make_stimulus start i.0)) (λ i n z f. ap (λ (y : Stimulus). (y.lines, tt)) f)

stimulus_reader : IsReaderOf stimulus_lines (λ _ _. Unit {0}) stimulus_at
unfolding stimulus_at
stimulus_reader = law_as (λ z. (tagged (codes "start") (bits_word z.start) ∷ []) ++ spell_inputs z) stimulus_lines (λ _ z. Unit {0} × fits_inputs z.start z) (λ _ _. Unit {0}) stimulus_at
    (law_then (λ b. tagged (codes "start") (bits_word b) ∷ []) (λ _ _. Unit {0}) (line_by (bits_line_of (codes "start"))) (λ _ z. spell_inputs z) (λ start _ z. fits_inputs start z) (λ start s. read_inputs start s) (λ z. z.start)
    (bits_reader (codes "start") (word_from (codes "start") refl)) (λ n start f. rest_reader start) (λ start n z f. ap (λ (y : Stimulus). y.start) f.1))
    (λ n z f. ap (λ (ls : List Line). tagged (codes "start") (bits_word z.start) ∷ ls) (inputs_lines z.lines))
    (λ n z f. tt)
    (λ n z f. (tt, (inputs_fit z.lines [], refl)))

-- ---- bodies

abbrev claimed_line : Claimed → Line
claimed_line (HitAt cycle) = tagged (codes "reached") (decimal cycle)
claimed_line (Never count) = tagged (codes "excluded") (decimal count)
claimed_line (NotWithin cycles count) = (codes "open" ∷ []) ++ pair_words (cycles, count)

abbrev ClaimedFits : Claimed → Type 0
ClaimedFits (HitAt cycle) = cycle ≤ most
ClaimedFits (Never count) = count ≤ most
ClaimedFits (NotWithin cycles count) = FitsPair (cycles, count)

number_law : (tag : List ℕ) → IsWord tag → IsLineOf (λ n. tagged tag (decimal n)) (λ n. n ≤ most) (numbered_of tag most)
number_law tag w = law_tagged tag decimal (λ n. n ≤ most) _ w (law_number most (lit< tt))

reached_law : IsLineOf (λ n. tagged (codes "reached") (decimal n)) (λ n. n ≤ most) (numbered_of (codes "reached") most)
reached_law = number_law (codes "reached") (word_from (codes "reached") refl)

excluded_law : IsLineOf (λ n. tagged (codes "excluded") (decimal n)) (λ n. n ≤ most) (numbered_of (codes "excluded") most)
excluded_law = number_law (codes "excluded") (word_from (codes "excluded") refl)

open_law : IsLineOf (λ p. (codes "open" ∷ []) ++ pair_words p) FitsPair (tagged_pair_of (codes "open"))
open_law = law_pair (codes "open") (word_from (codes "open") refl)

abbrev not_within : ℕ × ℕ → Claimed
not_within p = NotWithin p.0 p.1

claimed_by : (l : Line) (z : Claimed) (a b : Option ℕ) (c : Option (ℕ × ℕ)) → numbered_of (codes "reached") most l ≡ a → numbered_of (codes "excluded") most l ≡ b → tagged_pair_of (codes "open") l ≡ c
    → or_else (option_map HitAt a) (or_else (option_map Never b) (option_map not_within c)) ≡ Some z → (l ≡ claimed_line z) × ClaimedFits z
claimed_by l z (Some n) b c e g h w = subst (λ (y : Claimed). (l ≡ claimed_line y) × ClaimedFits y) (some_is (HitAt n) z w) (reached_law.takes l n e)
claimed_by l z None (Some n) c e g h w = subst (λ (y : Claimed). (l ≡ claimed_line y) × ClaimedFits y) (some_is (Never n) z w) (excluded_law.takes l n g)
claimed_by l z None None (Some p) e g h w = subst (λ (y : Claimed). (l ≡ claimed_line y) × ClaimedFits y) (some_is (not_within p) z w) (open_law.takes l p h)
claimed_by l z None None None e g h w = absurd cc

claimed_again : (z : Claimed) → ClaimedFits z → head_of (claimed_line z) ≡ Some z
claimed_again (HitAt n) f = ap (λ (o : Option ℕ). or_else (option_map HitAt o) None) (reached_law.again n f)
claimed_again (Never n) f = ap (λ (o : Option ℕ). or_else (option_map Never o) None) (excluded_law.again n f)
claimed_again (NotWithin cycles n) f = ap (option_map not_within) (open_law.again (cycles, n) f)

claimed_is_line : (z : Claimed) → ClaimedFits z → IsLine (claimed_line z)
claimed_is_line (HitAt n) f = reached_law.line n f
claimed_is_line (Never n) f = excluded_law.line n f
claimed_is_line (NotWithin cycles n) f = open_law.line (cycles, n) f

claimed_reader : IsReaderOf (λ z. claimed_line z ∷ []) (λ _ z. ClaimedFits z) (line_by head_of)
claimed_reader = law_line claimed_line ClaimedFits head_of (record {
  takes = λ l z e. claimed_by l z (numbered_of (codes "reached") most l) (numbered_of (codes "excluded") most l) (tagged_pair_of (codes "open") l) refl refl refl e;
  again = claimed_again;
  line = claimed_is_line;
}) (HitAt 0, omega arith)

-- what a body claims, and what stands behind the line that says so
abbrev claimed : Body → Claimed
claimed (Reached cycle stimulus) = HitAt cycle
claimed (Excluded ladder) = Never (length ladder.lemmas)
claimed (Open cycles ladder) = NotWithin cycles (length ladder.lemmas)

abbrev stimulus_of : Body → Stimulus
stimulus_of (Reached cycle stimulus) = stimulus
stimulus_of (Excluded ladder) = make_stimulus [] []
stimulus_of (Open cycles ladder) = make_stimulus [] []

abbrev ladder_of : Body → NamedLadder
ladder_of (Reached cycle stimulus) = empty_ladder
ladder_of (Excluded ladder) = ladder
ladder_of (Open cycles ladder) = ladder

abbrev rest_lines : Claimed → Body → List Line
rest_lines (HitAt cycle) z = stimulus_lines (stimulus_of z) ++ []
rest_lines (Never count) z = ladder_lines (ladder_of z) ++ []
rest_lines (NotWithin cycles count) z = ladder_lines (ladder_of z) ++ []

abbrev RestFits : Claimed → Body → Type 0
RestFits (HitAt cycle) z = Unit {0} × (z ≡ Reached cycle (stimulus_of z))
RestFits (Never count) z = LadderOf true count (ladder_of z) × (z ≡ Excluded (ladder_of z))
RestFits (NotWithin cycles count) z = CyclesOf cycles count (ladder_of z) × (z ≡ Open cycles (ladder_of z))

rest_law : (h : Claimed) → ClaimedFits h → IsReaderOf (rest_lines h) (λ _ z. RestFits h z) (behind_head h)
rest_law (HitAt cycle) f = law_then stimulus_lines (λ _ _. Unit {0}) stimulus_at (λ _ _. []) (λ x _ z. z ≡ Reached cycle x) (λ x s. Ok (Reached cycle x, s)) stimulus_of stimulus_reader (λ n x g. law_done (Reached cycle x)) (λ x n z g. ap stimulus_of g)
rest_law (Never count) f = law_then ladder_lines (λ _ x. LadderOf true count x) (ladder_at true count) (λ _ _. []) (λ x _ z. z ≡ Excluded x) (λ x s. Ok (Excluded x, s)) ladder_of (ladder_reader true count f) (λ n x g. law_done (Excluded x)) (λ x n z g. ap ladder_of g)
rest_law (NotWithin cycles count) f = law_then ladder_lines (λ _ x. CyclesOf cycles count x) (cycles_at cycles count) (λ _ _. []) (λ x _ z. z ≡ Open cycles x) (λ x s. Ok (Open cycles x, s)) ladder_of (cycles_reader cycles count f.second f.none) (λ n x g. law_done (Open cycles x)) (λ x n z g. ap ladder_of g)

claimed_is : (h : Claimed) (z : Body) → RestFits h z → claimed z ≡ h
claimed_is (HitAt cycle) z f = ap claimed f.1
claimed_is (Never count) z f = ap claimed f.1 ∙ ap Never f.0.counted
claimed_is (NotWithin cycles count) z f = ap claimed f.1 ∙ ap (NotWithin cycles) f.0.1

body_to : (z : Body) → ClaimedFits (claimed z) → RestFits (claimed z) z → FitsBody z
body_to (Reached cycle stimulus) k f = omega (arith, k)
body_to (Excluded ladder) k f = (f.0.fits, f.0.levels refl)
body_to (Open cycles ladder) k f = (omega (arith, k.first), f.0.0)

open_counts : (cycles : ℕ) (l : NamedLadder) → cycles < 2 ^ 63 → FitsCycles cycles l → FitsPair (cycles, length l.lemmas)
open_counts zero l lt f =
    let none : length l.lemmas ≡ 0 = ap (λ (y : NamedLadder). length y.lemmas) f in
    record { first = omega arith; second = omega (arith, none); none = λ _. none }
open_counts (suc k) l lt f = record { first = omega (arith, lt); second = omega (arith, f.count); none = λ e. absurd (omega (arith, e)) }

body_back : (z : Body) → FitsBody z → ClaimedFits (claimed z) × RestFits (claimed z) z
body_back (Reached cycle stimulus) lt = (omega (arith, lt), (tt, refl))
body_back (Excluded ladder) f = (omega (arith, f.0.count), (record { fits = f.0; counted = refl; levels = λ _. f.1 }, refl))
body_back (Open cycles ladder) f = (open_counts cycles ladder f.0 f.1, ((f.1, refl), refl))

body_same : (z : Body) → (claimed_line (claimed z) ∷ []) ++ rest_lines (claimed z) z ≡ body_lines z
body_same (Reached cycle stimulus) = ap (λ (ls : List Line). tagged (codes "reached") (decimal cycle) ∷ ls) (append-nil (stimulus_lines stimulus))
body_same (Excluded ladder) = ap (λ (ls : List Line). tagged (codes "excluded") (decimal (length ladder.lemmas)) ∷ ls) (append-nil (ladder_lines ladder))
body_same (Open cycles ladder) = ap (λ (ls : List Line). (codes "open" ∷ decimal cycles ∷ decimal (length ladder.lemmas) ∷ []) ∷ ls) (append-nil (ladder_lines ladder))

body_reader : IsReaderOf body_lines (λ _ z. FitsBody z) body_at
unfolding body_at
body_reader = law_as (λ z. (claimed_line (claimed z) ∷ []) ++ rest_lines (claimed z) z) body_lines (λ _ z. ClaimedFits (claimed z) × RestFits (claimed z) z) (λ _ z. FitsBody z) body_at
    (law_then (λ h. claimed_line h ∷ []) (λ _ h. ClaimedFits h) (line_by head_of) rest_lines (λ h _ z. RestFits h z) behind_head claimed
    claimed_reader (λ n h f. rest_law h f) (λ h n z f. claimed_is h z f))
    (λ n z f. body_same z) (λ n z f. body_to z f.0 f.1) (λ n z f. body_back z f)

-- ---- claims

abbrev make_claim : ℕ → List ℕ → Body → CertClaim
make_claim line point body = record { line = line; point = point; body = body }

claim2 : (h : ℕ) (point : List ℕ) → IsReaderOf (λ z. body_lines z.body ++ []) (λ _ z. FitsBody z.body × (z ≡ make_claim h point z.body)) (λ s. body_at s >>= λ body. Ok (make_claim h point body.0, body.1))
claim2 h point = law_then body_lines (λ _ z. FitsBody z) body_at (λ _ _. []) (λ body _ z. z ≡ make_claim h point body) (λ body s. Ok (make_claim h point body, s)) (λ z. z.body) body_reader (λ n body f. law_done (make_claim h point body)) (λ body n z f. ap (λ (y : CertClaim). y.body) f)

abbrev FitsClaim : ℕ → CertClaim → Type 0
FitsClaim n c = (c.line ≡ n) × IsPointText c.point × FitsBody c.body

claim1 : (h : ℕ) → IsReaderOf claim_lines (λ _ c. FitsClaim h c) (claim_from h)
unfolding claim_from
claim1 h = law_as (λ z. (words z.point ∷ []) ++ (body_lines z.body ++ [])) claim_lines (λ _ z. IsPointText z.point × (FitsBody z.body × (z ≡ make_claim h z.point z.body))) (λ _ c. FitsClaim h c) (claim_from h)
    (law_then (λ p. words p ∷ []) (λ _ p. IsPointText p) (line_by point_of) (λ _ z. body_lines z.body ++ []) (λ point _ z. FitsBody z.body × (z ≡ make_claim h point z.body)) (λ point s. body_at s >>= λ body. Ok (make_claim h point body.0, body.1)) (λ z. z.point)
    point_reader (λ n point f. claim2 h point) (λ point n z f. ap (λ (y : CertClaim). y.point) f.1))
    (λ n z f. ap (λ (ls : List Line). words z.point ∷ ls) (append-nil (body_lines z.body)))
    (λ n z f. (ap (λ (y : CertClaim). y.line) f.1.1, f.0, f.1.0))
    (λ n z f. (f.1, (f.2, ap (λ (l : ℕ). make_claim l z.point z.body) f.0)))

claim_reader : IsReaderOf claim_lines FitsClaim claim_at
unfolding claim_at
claim_reader = law_here claim_lines (λ h _ c. FitsClaim h c) claim_from claim1

claims_same : (i : ℕ) (cs : List CertClaim) → spell_from (λ _. claim_lines) i cs ≡ flat_map claim_lines cs
claims_same i [] = refl
claims_same i (c ∷ cs) = ap (λ (ls : List Line). claim_lines c ++ ls) (claims_same (i + 1) cs)

claims_to : (i n : ℕ) (cs : List CertClaim) → FitFrom (λ _. claim_lines) (λ _. FitsClaim) i n cs → FitClaims n cs
claims_to i n [] f = tt
claims_to i n (c ∷ cs) f = (f.0, claims_to (i + 1) (n + length (claim_lines c)) cs f.1)

claims_back : (i n : ℕ) (cs : List CertClaim) → FitClaims n cs → FitFrom (λ _. claim_lines) (λ _. FitsClaim) i n cs
claims_back i n [] f = tt
claims_back i n (c ∷ cs) f = (f.0, claims_back (i + 1) (n + length (claim_lines c)) cs f.1)

-- ---- certificates

abbrev claims_of : ℕ → Source → Read (List CertClaim)
claims_of k = times k 0 (λ _. claim_at)

abbrev ClaimsFit : ℕ → ℕ → List CertClaim → Type 0
ClaimsFit k n cs = (length cs ≡ k) × FitFrom (λ _. claim_lines) (λ _. FitsClaim) 0 n cs

claims_reader : (k : ℕ) → IsReaderOf (spell_from (λ _. claim_lines) 0) (ClaimsFit k) (claims_of k)
claims_reader k = law_times (λ _. claim_lines) (λ _. FitsClaim) (λ _. claim_at) (λ _. claim_reader) k 0

abbrev make_cert : Setup → List CertClaim → Cert
make_cert setup claims = record { setup = setup; claims = claims }

cert3 : (setup : Setup) (k : ℕ) → IsReaderOf (λ z. spell_from (λ _. claim_lines) 0 z.claims ++ []) (λ n z. ClaimsFit k n z.claims × (z ≡ make_cert setup z.claims)) (λ s. claims_of k s >>= λ cs. Ok (make_cert setup cs.0, cs.1))
cert3 setup k = law_then (spell_from (λ _. claim_lines) 0) (ClaimsFit k) (claims_of k) (λ _ _. []) (λ cs _ z. z ≡ make_cert setup cs) (λ cs s. Ok (make_cert setup cs, s)) (λ z. z.claims) (claims_reader k) (λ n cs f. law_done (make_cert setup cs)) (λ cs n z f. ap (λ (y : Cert). y.claims) f)

abbrev CertFits2 : Setup → ℕ → Cert → Type 0
CertFits2 setup n z = (length z.claims ≤ most) × (ClaimsFit (length z.claims) (n + 1) z.claims × (z ≡ make_cert setup z.claims))

cert2 : (setup : Setup) → IsReaderOf (λ z. (tagged (codes "claims") (decimal (length z.claims)) ∷ []) ++ (spell_from (λ _. claim_lines) 0 z.claims ++ [])) (CertFits2 setup) (λ s. line_by (numbered_of (codes "claims") most) s >>= λ count. claims_of count.0 count.1 >>= λ cs. Ok (make_cert setup cs.0, cs.1))
cert2 setup = law_then (λ n. tagged (codes "claims") (decimal n) ∷ []) (λ _ n. n ≤ most) (line_by (numbered_of (codes "claims") most)) (λ _ z. spell_from (λ _. claim_lines) 0 z.claims ++ []) (λ k n z. ClaimsFit k n z.claims × (z ≡ make_cert setup z.claims)) (λ k s. claims_of k s >>= λ cs. Ok (make_cert setup cs.0, cs.1)) (λ z. length z.claims)
    (number_reader (codes "claims") most (word_from (codes "claims") refl) (lit< tt)) (λ n k f. cert3 setup k) (λ k n z f. f.0.0)

cert_to : (n : ℕ) (z : Cert) → FitsSetup z.setup → CertFits2 z.setup (n + length (setup_lines z.setup)) z → FitsAt n z
cert_to n z s f = record { setup = s; count = omega (arith, f.0); claims = claims_to 0 (n + length (setup_lines z.setup) + 1) z.claims f.1.0.1 }

cert_back : (n : ℕ) (z : Cert) → FitsAt n z → FitsSetup z.setup × CertFits2 z.setup (n + length (setup_lines z.setup)) z
cert_back n z f = (f.setup, (omega (arith, f.count), ((refl, claims_back 0 (n + length (setup_lines z.setup) + 1) z.claims f.claims), refl)))

pub cert_reader : IsReaderOf cert_lines FitsAt cert_at
unfolding cert_at
cert_reader = law_as (λ z. setup_lines z.setup ++ ((tagged (codes "claims") (decimal (length z.claims)) ∷ []) ++ (spell_from (λ _. claim_lines) 0 z.claims ++ []))) cert_lines
    (λ n z. FitsSetup z.setup × CertFits2 z.setup (n + length (setup_lines z.setup)) z) FitsAt cert_at
    (law_then setup_lines (λ _ s. FitsSetup s) setup_at (λ _ z. (tagged (codes "claims") (decimal (length z.claims)) ∷ []) ++ (spell_from (λ _. claim_lines) 0 z.claims ++ [])) CertFits2 (λ setup s. line_by (numbered_of (codes "claims") most) s >>= λ count. claims_of count.0 count.1 >>= λ cs. Ok (make_cert setup cs.0, cs.1)) (λ z. z.setup)
    setup_reader (λ n setup f. cert2 setup) (λ setup n z f. ap (λ (y : Cert). y.setup) f.1.1))
    (λ n z f. ap (λ (ls : List Line). setup_lines z.setup ++ tagged (codes "claims") (decimal (length z.claims)) ∷ ls) (append-nil (spell_from (λ _. claim_lines) 0 z.claims) ∙ claims_same 0 z.claims))
    (λ n z f. cert_to n z f.0 f.1) (λ n z f. cert_back n z f)
