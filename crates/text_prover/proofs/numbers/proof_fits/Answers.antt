use Rattle.std.proofs.Common.{◌≡◌, ℕ, ◌+◌, ◌<◌, ◌^◌, List, [], ◌∷◌, length, map, sum_by, fold, All, IsTrue, false, refl, sym, ap, ◌∙◌, subst, arith}
use Rattle.std.specs.List.{AllByRecursion}
use Rattle.std.proofs.lemmas.List.{length-map}
use Rattle.std.proofs.lemmas.List.Elements.{All-nil, All-cons, All-map, recursion_from_All}
use Rattle.cnf_core.specs.declared.Line.{Line}
use Rattle.bit_system.specs.ProofLines.{ProofLine, seen}
use Rattle.proof_lines.specs.Spelling.{Fits}
use Rattle.cert_text.specs.Spelling.{plain_line, added, all_added, FitsProof}
use Rattle.text_prover.proofs.numbers.proof_fits.Goals as goal

same_from : (n : ℕ) (lines : List Line) → fold (λ (a : ℕ) (x : ProofLine). a + added x) n (map seen lines) ≡ fold (λ (a : ℕ) (x : Line). a + added (seen x)) n lines
same_from n [] = refl
same_from n (x ∷ xs) = same_from (n + added (seen x)) xs

same_sum : (lines : List Line) → all_added (map seen lines) ≡ sum_by (λ (x : Line). added (seen x)) lines
same_sum lines = same_from 0 lines

fits_seen : (lines : List Line) → length lines < 2 ^ 63 → All (λ (x : Line). Fits (plain_line (seen x))) lines → sum_by (λ (x : Line). added (seen x)) lines < 2 ^ 63 → FitsProof (map seen lines)
fits_seen lines few fit sum = record {
  lines = recursion_from_All (λ (x : ProofLine). Fits (plain_line x)) (map seen lines) (All-map (λ (x : ProofLine). Fits (plain_line x)) seen lines fit);
  count = omega (arith, few, length-map lines seen);
  added = omega (arith, sum, same_sum lines);
}

-- what lines that fit have
few_lines : (lines : List Line) (proof : List ProofLine) → map seen lines ≡ proof → FitsProof proof → length lines < 2 ^ 63
few_lines lines proof is h = omega (arith, h.count, ap length is, length-map lines seen)

each_from_seen : (lines : List Line) → AllByRecursion (λ (x : ProofLine). Fits (plain_line x)) (map seen lines) → All (λ (x : Line). Fits (plain_line (seen x))) lines
each_from_seen [] h = All-nil (λ (x : Line). Fits (plain_line (seen x)))
each_from_seen (x ∷ xs) h = All-cons (λ (x : Line). Fits (plain_line (seen x))) x xs h.0 (each_from_seen xs h.1)

each_fits : (lines : List Line) (proof : List ProofLine) → map seen lines ≡ proof → FitsProof proof → All (λ (x : Line). Fits (plain_line (seen x))) lines
each_fits lines proof is h = each_from_seen lines (subst (λ (xs : List ProofLine). AllByRecursion (λ (x : ProofLine). Fits (plain_line x)) xs) (sym is) h.lines)

few_literals : (lines : List Line) (proof : List ProofLine) → map seen lines ≡ proof → FitsProof proof → sum_by (λ (x : Line). added (seen x)) lines < 2 ^ 63
few_literals lines proof is h = omega (arith, h.added, ap all_added is, same_sum lines)

false_fits : (proof : List ProofLine) → IsTrue false → FitsProof proof
false_fits proof claimed = absurd cc

pub returns-then-lines : goal.returns-then-lines
returns-then-lines c = (
  false_fits c.args.proof.now,
  λ fits. (let few = few_lines c.lines-lines.result.now c.args.proof.now c.lines-lines.ensures fits in absurd (omega (arith, few, c.if-lines.true))),
)

pub returns-then-not-lines_fit : goal.returns-then-not-lines_fit
returns-then-not-lines_fit c = (
  false_fits c.args.proof.now,
  λ fits. sym c.if-not-lines_fit.true ∙ c.lines_fit.ensures.1 (each_fits c.lines-lines.result.now c.args.proof.now c.lines-lines.ensures fits),
)

pub returns : goal.returns
returns c = (
  λ few. subst FitsProof c.lines-lines.ensures (fits_seen c.lines-lines.result.now c.if-lines.false (c.lines_fit.ensures.0 c.if-not-lines_fit.false) (c.few_added.ensures.0 few)),
  λ fits. c.few_added.ensures.1 (few_literals c.lines-lines.result.now c.args.proof.now c.lines-lines.ensures fits),
)
