-- A ladder that has a fault isn't accepted.
use Rattle.std.proofs.Common.{◌≡◌, ◌≢◌, ℕ, inl, inr, true, false, List, [], ◌∷◌, map, get_or, sym, ap, ◌∙◌, subst, arith, refl}
use Rattle.std.specs.Prelude.{IfSome}
use Rattle.cnf_core.specs.Literal.{Literal}
use Rattle.cnf_core.specs.Lrat.{State, Passes, Closes, start}
use Rattle.cnf_core.specs.declared.Ending.TheVariants.{Falsified, NoHint as EndsNoHint, NotUnit as EndsNotUnit, RanOut}
use Rattle.cnf_core.specs.declared.Line.{Line as CheckedLine}
use Rattle.bit_system.specs.ProofLines.{ProofLine, seen}
use Rattle.cnf_core.specs.declared.Line.TheVariants.{Add, Delete}
use Rattle.aig_core.specs.Graph.{node_count}
use Rattle.lrat_check.specs.Faults.{IsFault}
use Rattle.lrat_check.specs.declared.checker.LineFault.{LineFault}
use Rattle.lrat_check.specs.declared.checker.LineFault.TheVariants.{OldId, BadVar, NoHint, NotUnit, NotClosed}
use Rattle.bit_system.specs.declared.ladder.Depth.TheVariants.{All}
use Rattle.bit_system.specs.declared.ladder.Lemma.{Lemma}
use Rattle.bit_system.specs.declared.ladder.Ladder.{Ladder}
use Rattle.bit_system.specs.Machine.{Machine}
use Rattle.bit_system.specs.Queries.{step_clauses, hit_clauses}
use Rattle.bit_system.specs.Accepted.{IsAccepted, IsRefutedBy, HitIsRefuted}
use Rattle.ladder_check.specs.declared.fault.Query.TheVariants.{Step, Hit}
use Rattle.ladder_check.specs.declared.fault.QueryFault.{QueryFault}
use Rattle.ladder_check.specs.declared.fault.LadderFault.{LadderFault}
use Rattle.ladder_check.specs.declared.fault.LadderFault.TheVariants.{Shape, StartFails, Line, Memory}
use Rattle.ladder_check.specs.Faults.{FailsBy, FailsAs, IsLadderFault}

fault-stops : (vars : ℕ) (s : State) (line : CheckedLine) (g : LineFault) (t : State) → IsFault vars s line g → Passes vars s line t → ⊥
fault-stops vars s (Add id lits hints) (OldId n) t f p = let rup = p.0 in omega (arith, rup.new_id, f.1)
fault-stops vars s (Add id lits hints) (BadVar n) t f p = f.2 p.0.good_vars
fault-stops vars s (Add id lits hints) (NoHint n) t f p = let e : EndsNoHint n ≡ Falsified = sym f.2 ∙ p.0.closes in cc
fault-stops vars s (Add id lits hints) (NotUnit n) t f p = let e : EndsNotUnit n ≡ Falsified = sym f.2 ∙ p.0.closes in cc
fault-stops vars s (Add id lits hints) (NotClosed n) t f p = let e : RanOut ≡ Falsified = sym f.3 ∙ p.0.closes in cc
fault-stops vars s (Delete id ids) (OldId n) t f p = f
fault-stops vars s (Delete id ids) (BadVar n) t f p = f
fault-stops vars s (Delete id ids) (NoHint n) t f p = let e = sym f ∙ p.1 in cc
fault-stops vars s (Delete id ids) (NotUnit n) t f p = f
fault-stops vars s (Delete id ids) (NotClosed n) t f p = f

passes-one : (vars : ℕ) (s : State) (line : CheckedLine) (t u : State) → Passes vars s line t → Passes vars s line u → u ≡ t
passes-one vars s (Add id lits hints) t u p q = q.1 ∙ sym p.1
passes-one vars s (Delete id ids) t u p q =
    let both = sym q.1 ∙ p.1 in
    let same : q.0 ≡ p.0 = cc in
    q.2 ∙ ap (λ live. record s { live = live }) same ∙ sym p.2

pub fails-not_closes : (vars : ℕ) (lines : List CheckedLine) (s : State) (f : QueryFault) → FailsBy vars s lines f → Closes vars s lines → ⊥
fails-not_closes vars [] s f h c = cc
fails-not_closes vars (line ∷ lines) s f (inl h) c = fault-stops vars s line h.0 c.0 h.1 c.1
fails-not_closes vars (line ∷ lines) s f (inr h) c =
    fails-not_closes vars lines h.0 f h.2 (subst (λ (t : State). Closes vars t lines) (passes-one vars s line h.0 c.0 h.1 c.1) c.2)

-- a line that says the same passes to the same state
passes-alike : (vars : ℕ) (s : State) (a b : CheckedLine) (t : State) → seen a ≡ seen b → Passes vars s a t → Passes vars s b t
passes-alike vars s (Add i ls hs) (Add j ms gs) t e p =
    let id : i ≡ j = cc in
    let lits : ls.items ≡ ms.items = cc in
    let hints : hs.items ≡ gs.items = cc in
    rw (← id, ← lits, ← hints) p
passes-alike vars s (Add i ls hs) (Delete j is) t e p = absurd cc
passes-alike vars s (Delete i is) (Add j ms gs) t e p = absurd cc
passes-alike vars s (Delete i is) (Delete j js) t e p =
    let ids : is.items ≡ js.items = cc in
    rw (← ids) p

-- and lines that say the same close as well
closes-alike :
    (vars : ℕ) (s : State) (lines more : List CheckedLine) → map seen lines ≡ map seen more → Closes vars s lines → Closes vars s more
closes-alike vars s [] [] e c = c
closes-alike vars s [] (y ∷ ys) e c = absurd cc
closes-alike vars s (x ∷ xs) [] e c = absurd cc
closes-alike vars s (x ∷ xs) (y ∷ ys) e c =
    let first : seen x ≡ seen y = cc in
    let others : map seen xs ≡ map seen ys = cc in
    (c.0, passes-alike vars s x y c.0 first c.1, closes-alike vars c.0 xs ys others c.2)

fails-not_refuted : (vars : ℕ) (clauses : List (List Literal)) (proof : List ProofLine) (f : QueryFault) → FailsAs vars clauses proof f → IsRefutedBy vars clauses proof → ⊥
fails-not_refuted vars clauses proof f h r =
    fails-not_closes vars h.lines (start clauses) f h.fails
    (closes-alike vars (start clauses) r.lines h.lines (r.said ∙ sym h.said) r.refutes)

no_lemma : Lemma
no_lemma = record { level = All; lits = [] }

pub refused : (m : Machine) (point : ℕ) (ladder : Ladder) (f : LadderFault) → IsLadderFault m point ladder f → f ≢ Memory → IsAccepted m point ladder → ⊥
refused m point ladder Shape h n a = h a.shape
refused m point ladder (StartFails k) h n a =
    let s = h.1.2 in
    let e : true ≡ false = sym (a.starts h.1.0 no_lemma s.within) ∙ s.fails no_lemma in
    cc
refused m point ladder (Line (Step k) f) h n a =
    let s = h.2.2 in
    let i : ℕ = h.2.0 in
    fails-not_refuted (node_count m.graph) (step_clauses m ladder.lemmas (get_or ladder.lemmas i no_lemma)) (get_or ladder.steps i []) f
    (s.fails no_lemma []) (a.steps i s.within no_lemma [])
refused m point ladder (Line Hit f) h n a =
    fails-not_refuted (node_count m.graph) (hit_clauses m ladder.depth ladder.lemmas point) h.3.0 f h.3.2
    (subst (λ o. IfSome o (HitIsRefuted m point ladder)) h.3.1 a.hit)
refused m point ladder Memory h n a = n refl
