-- What numbering keeps.
use Rattle.std.proofs.Common.{◌≡◌, ℕ, ◌+◌, ◌≤◌, List, [], ◌∷◌, map, length, ◌∙◌, subst, arith, ◌⊎◌, inl, inr}
use Rattle.std.specs.Prelude.{◌^◌, All as Each}
use Rattle.std.proofs.lemmas.List.Elements.{All-nil, All-cons}
use Rattle.cnf_core.specs.Literal.{Literal, HaveVarsUpTo, HaveNoSolution}
use Rattle.cnf_core.specs.Lrat.{State, Closes, Refutes}
use Rattle.cnf_core.specs.declared.Line.{Line}
use Rattle.cnf_core.specs.declared.Line.TheVariants.{Add, Delete}
use Rattle.bit_system.specs.Accepted.{IsRefutedBy}
use Rattle.bit_system.specs.ProofLines.{ProofLine, seen}
use Rattle.clause_names.specs.Naming.{variable_at, named_line, HasVarsBelow}
use Rattle.clause_names.specs.Numbering.{IsInClauses, IsNumbering}
use Rattle.clause_names.specs.declared.numbering.Numbered.{Numbered}
use Rattle.clause_names.proofs.Inverse.{number_at, back, one}
use Rattle.clause_names.proofs.Renamed.{refutes, none_before}

pub unsolvable : (clauses : List (List Literal)) (n : Numbered) → IsNumbering clauses n → HaveNoSolution clauses → HaveNoSolution n.clauses
unsolvable clauses n h none =
    none_before (variable_at n.names.keys) (number_at n.names.keys) (back n.names.keys h.naming) n.clauses (rw h.numbered.same none)

-- the variables of lines that pass are at most the greatest one
pub lines_below : (most count : ℕ) (lines : List Line) (s : State) → most + 1 ≡ count → Closes most s lines → Each (λ l. HasVarsBelow count (seen l)) lines
lines_below most count [] s e h = All-nil (λ (l : Line). HasVarsBelow count (seen l))
lines_below most count (Add id lits hints ∷ ls) s e h =
    All-cons (λ (l : Line). HasVarsBelow count (seen l)) (Add id lits hints) ls (λ k d low. let most_is = h.1.0.good_vars.0 k d low in omega arith) (lines_below most count ls h.0 e h.2)
lines_below most count (Delete id ids ∷ ls) s e h = All-cons (λ (l : Line). HasVarsBelow count (seen l)) (Delete id ids) ls tt (lines_below most count ls h.0 e h.2)

-- a variable of the clauses is at most the greatest one
up_to : (clauses : List (List Literal)) (vars n : ℕ) → HaveVarsUpTo vars clauses → (n ≡ 0) ⊎ IsInClauses clauses n → n ≤ vars
up_to clauses vars n fits (inl none) = omega (arith, none)
up_to clauses vars n fits (inr (c, in_clauses, in_clause)) =
    let l = in_clause.0 in
    let at = in_clause.1 in
    let each : Each (λ (l : Literal). l.variable ≤ vars) c = subst (λ (c : List Literal). Each (λ (l : Literal). l.variable ≤ vars) c) in_clauses.2 (fits in_clauses.0 c in_clauses.1) in
    let most : l.variable ≤ vars = subst (λ (l : Literal). l.variable ≤ vars) at.2 (each at.0 l at.1) in
    omega (arith, in_clause.2)

pub refuted : (clauses : List (List Literal)) (n : Numbered) (vars most : ℕ) (lines new : List Line) (proof : List ProofLine) → IsNumbering clauses n → HaveVarsUpTo vars clauses →
    most + 1 ≡ length n.names.keys → Refutes most n.clauses lines → map seen new ≡ proof → proof ≡ map (named_line n.names.keys) (map seen lines) → IsRefutedBy vars clauses proof
refuted clauses n vars most lines new proof h fits count r said is =
    let bound : (k : ℕ) → k ≤ most → variable_at n.names.keys k ≤ vars = λ k le. up_to clauses vars (variable_at n.names.keys k) fits (h.alone k (2 ^ 31 + k) (omega arith)) in
    let all = refutes (variable_at n.names.keys) (one n.names.keys h.naming) most vars bound n.clauses lines new (said ∙ is) r in
    record { lines = new; said = said; refutes = rw h.numbered.same at all }
