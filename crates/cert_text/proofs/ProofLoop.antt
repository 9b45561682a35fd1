-- Reading the lines of a proof, as a loop does.
use Rattle.std.proofs.Common.{◌≡◌, ℕ, suc, ◌+◌, ◌-◌, ◌<◌, Bool, eqb, List, [], ◌∷◌, ◌++◌, Ok, Err, refl, sym, ap, ◌∙◌, append_assoc, arith, ◌⊎◌, inl, inr}
use Rattle.std.proofs.lemmas.Bool.{eq-eqb, ne_eqb, cases_eq}
use Rattle.bit_system.specs.ProofLines.{ProofLine}
use Rattle.line_text.specs.Lines.{Source}
use Rattle.line_text.specs.Reading.{Read, ◌>>=◌, line_by}
use Rattle.line_text.proofs.Loop.{with_front}
use Rattle.cert_text.specs.Spelling.{added}
use Rattle.cert_text.specs.Ladders.{line_within, lines_from}

regroup : (front : List ProofLine) (x : ProofLine) (read : Read (List ProofLine)) → with_front front (read >>= λ xs. Ok (x ∷ xs.0, xs.1)) ≡ with_front (front ++ x ∷ []) read
regroup front x (Ok xs) = ap (λ ys. Ok (ys, xs.1)) (sym (append_assoc front (x ∷ []) xs.0))
regroup front x (Err n) = refl

last_by : (count i : ℕ) → i < count → (i + 1 ≡ count) ⊎ (i + 1 ≡ count → ⊥) → eqb (count - (i + 1)) 0 ≡ eqb (i + 1) count
last_by count i lt (inl e) = eq-eqb (count - (i + 1)) 0 (omega arith) ∙ sym (eq-eqb (i + 1) count e)
last_by count i lt (inr n) = ne_eqb (count - (i + 1)) 0 (λ e. absurd (omega (arith, e, n))) ∙ sym (ne_eqb (i + 1) count n)

step : (front : List ProofLine) (count i left : ℕ) (u : Source) → i < count
    → with_front front (lines_from (count - i) left u) ≡ with_front front (line_by (line_within left (eqb (i + 1) count)) u >>= λ x. lines_from (count - (i + 1)) (left - added x.0) x.1 >>= λ xs. Ok (x.0 ∷ xs.0, xs.1))
step front count i left u lt =
    let k : count - i ≡ suc (count - (i + 1)) = omega arith in
    ap (λ (c : ℕ). with_front front (lines_from c left u)) k
    ∙ ap (λ (b : Bool). with_front front (line_by (line_within left b) u >>= λ x. lines_from (count - (i + 1)) (left - added x.0) x.1 >>= λ xs. Ok (x.0 ∷ xs.0, xs.1))) (last_by count i lt (cases_eq (i + 1) count))

pub lines_on : (front : List ProofLine) (count i left : ℕ) (u : Source) (x : ProofLine) (s : Source) (total : Read (List ProofLine)) → i < count → line_by (line_within left (eqb (i + 1) count)) u ≡ Ok (x, s)
    → with_front front (lines_from (count - i) left u) ≡ total → with_front (front ++ x ∷ []) (lines_from (count - (i + 1)) (left - added x) s) ≡ total
lines_on front count i left u x s total lt h so_far =
    sym (step front count i left u lt
    ∙ ap (λ (a : Read ProofLine). with_front front (a >>= λ x. lines_from (count - (i + 1)) (left - added x.0) x.1 >>= λ xs. Ok (x.0 ∷ xs.0, xs.1))) h
    ∙ regroup front x (lines_from (count - (i + 1)) (left - added x) s)) ∙ so_far
