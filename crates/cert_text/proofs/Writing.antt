-- How the lines of a ladder are put.
use Rattle.std.proofs.Common.{◌≡◌, ℕ, ◌+◌, List, [], ◌∷◌, ◌++◌, length, map, decimal, codes, refl, sym, ap, ◌∙◌, append_assoc, arith, add-zero, ◌<◌, take, get_or}
use Rattle.std.specs.List.{flat_map, join_with_byte}
use Rattle.std.proofs.lemmas.List.{append-nil, take_more, length-take-le}
use Rattle.std.proofs.lemmas.List.Concat.{flat_map-append}
use Rattle.cnf_core.specs.declared.Line.{Line as Told}
use Rattle.cnf_core.specs.declared.Line.TheVariants.{Add, Delete}
use Rattle.bit_system.specs.ProofLines.{ProofLine, seen}
use Rattle.proof_lines.specs.Spelling.{plain, line_words}
use Rattle.cert_text.specs.declared.cert.NamedLemma.{NamedLemma}
use Rattle.line_text.specs.Lines.{Line, line_text, text_of}
use Rattle.cert_text.specs.Spelling.{lit_word, level_word, lemma_line, proof_line, proof_lines, step_lines}

-- words behind another, each with a space in front
join_mapped : {A : Type 0} (f : A → List ℕ) (w : List ℕ) (xs : List A) → join_with_byte 32 (w ∷ map f xs) ≡ w ++ flat_map (λ x. 32 ∷ f x) xs
join_mapped f w [] = sym (append-nil w)
join_mapped f w (x ∷ xs) = ap (λ (t : List ℕ). w ++ (32 ∷ t)) (join_mapped f (f x) xs)

pub lemma_text : (lemma : NamedLemma) → line_text (lemma_line lemma) ≡ codes "l " ++ (level_word lemma.level ++ flat_map (λ l. 32 ∷ lit_word l) lemma.lits) ++ 10 ∷ []
lemma_text lemma = ap (λ (t : List ℕ). 108 ∷ 32 ∷ (t ++ 10 ∷ [])) (join_mapped lit_word (level_word lemma.level) lemma.lits)

-- a line of a proof is spelled as the format of proofs spells it
told_line : (line : Told) → line_words (plain line) ≡ proof_line (seen line)
told_line (Add id lits hints) = refl
told_line (Delete id ids) = refl

pub told_lines : (lines : List Told) → map line_words (map plain lines) ≡ map proof_line (map seen lines)
told_lines [] = refl
told_lines (l ∷ ls) = ap (λ (w : Line). w ∷ map line_words (map plain ls)) (told_line l) ∙ ap (λ (ws : List Line). proof_line (seen l) ∷ ws) (told_lines ls)

abbrev step_head : ℕ → Line
step_head i = codes "step" ∷ decimal i ∷ []

-- the proof of one more lemma
one_more_step : (i : ℕ) (proofs : List (List ProofLine)) (proof : List ProofLine) → step_lines i (proofs ++ proof ∷ []) ≡ step_lines i proofs ++ proof_lines (codes "step" ∷ decimal (i + length proofs) ∷ []) proof
one_more_step i [] proof =
    append-nil (proof_lines (step_head i) proof) ∙ ap (λ (k : ℕ). proof_lines (step_head k) proof) (sym (add-zero i))
one_more_step i (p ∷ ps) proof =
    let number : i + 1 + length ps ≡ i + length (p ∷ ps) = omega arith in
    ap (λ (ls : List Line). proof_lines (step_head i) p ++ ls) (one_more_step (i + 1) ps proof)
    ∙ sym (append_assoc (proof_lines (step_head i) p) (step_lines (i + 1) ps) (proof_lines (step_head (i + 1 + length ps)) proof))
    ∙ ap (λ (k : ℕ). (proof_lines (step_head i) p ++ step_lines (i + 1) ps) ++ proof_lines (step_head k) proof) number

steps_more : (proofs : List (List ProofLine)) (i : ℕ) (proof : List ProofLine) → i < length proofs
    → text_of (step_lines 1 (take (i + 1) proofs)) ≡ text_of (step_lines 1 (take i proofs)) ++ text_of (proof_lines (step_head (i + 1)) (get_or proofs i proof))
steps_more proofs i proof lt =
    let number : 1 + length (take i proofs) ≡ i + 1 = omega (arith, length-take-le i proofs (omega (arith, lt))) in
    ap (λ (ps : List (List ProofLine)). text_of (step_lines 1 ps)) (take_more proofs i proof lt)
    ∙ ap text_of (one_more_step 1 (take i proofs) (get_or proofs i proof))
    ∙ ap (λ (k : ℕ). text_of (step_lines 1 (take i proofs) ++ proof_lines (step_head k) (get_or proofs i proof))) number
    ∙ flat_map-append line_text (step_lines 1 (take i proofs)) (proof_lines (step_head (i + 1)) (get_or proofs i proof))

-- the lines of one more proof are put
pub step_put : (old before now : List ℕ) (proofs : List (List ProofLine)) (i : ℕ) (proof : List ProofLine) → i < length proofs → proof ≡ get_or proofs i proof
    → before ≡ old ++ text_of (step_lines 1 (take i proofs)) → now ≡ before ++ text_of (proof_lines (step_head (i + 1)) proof) → now ≡ old ++ text_of (step_lines 1 (take (i + 1) proofs))
step_put old before now proofs i proof lt is b n =
    let so_far : List ℕ = text_of (step_lines 1 (take i proofs)) in
    n
    ∙ ap (λ (t : List ℕ). t ++ text_of (proof_lines (step_head (i + 1)) proof)) b
    ∙ append_assoc old so_far (text_of (proof_lines (step_head (i + 1)) proof))
    ∙ ap (λ (p : List ProofLine). old ++ (so_far ++ text_of (proof_lines (step_head (i + 1)) p))) is
    ∙ ap (λ (t : List ℕ). old ++ t) (sym (steps_more proofs i proof lt))
