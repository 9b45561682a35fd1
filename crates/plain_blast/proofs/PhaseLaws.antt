-- What the phases of the translation are worth.
use Rattle.std.proofs.Common.{◌≡◌, ℕ, zero, suc, ◌+◌, ◌*◌, ◌<◌, Bool, true, false, cond, List, [], ◌∷◌, ◌++◌, length, All, get_or, set, replicate, refl, sym, ap, subst, ◌∙◌, append_assoc, arith, true≢false}
use Rattle.std.specs.Prelude.{zip, flat_map}
use Rattle.std.proofs.lemmas.List.{map-set, append-nil}
use Rattle.std.proofs.lemmas.List.Elements.{All-head, All-tail, All-nil}
use Rattle.design_core.specs.declared.flat.Stmt.{Stmt}
use Rattle.design_core.specs.declared.flat.Process.{Process}
use Rattle.bit_exprs.specs.Updates.{perform}
use Rattle.design_core.specs.Exec.{exec, exec_each}
use Rattle.design_core.specs.Bounds.{IsWithin, AssignsBy}
use Rattle.design_core.specs.Settled.{is_clocked, clocked_updates}
use Rattle.bit_exprs.proofs.Performing.{perform-append}
use Rattle.aig_core.specs.Graph.{Graph, IsLiteral, value_of}
use Rattle.aig_core.proofs.Values.{Extends-refl, Extends-trans, value_of-zero, value_of-one, value_in-node}
use Rattle.word_blast.specs.Words.{spelled}
use Rattle.plain_blast.specs.Plain.{Wiring, run_of, run_each, clocked_of, leaves_at}
use Rattle.plain_blast.proofs.BodyLaws.{Reads, Spells, Runs, run_means, reads_kept}

combinational_reads : (g : Graph) (leaves : List Bool) (n : ℕ) → Reads false [] 1 g leaves n [] true
combinational_reads g leaves n = record {
  settled_long = λ e. absurd (true≢false (sym e));
  settled_exist = All-nil (IsLiteral g);
  settled_spell = refl;
  path_exists = omega arith;
  path_is = value_of-one g leaves;
}

pub each_means : (ss : List Stmt) (w : Wiring) (leaves : List Bool) (n sites : ℕ) (tv : List Bool) (ps : List ℕ) →
    All (λ s. IsWithin s n sites) ss → All (AssignsBy false) ss → Spells w leaves n tv ps →
    Runs w (run_each ss false [] 1 w) leaves n (exec_each ss tv).values (ps ++ (exec_each ss tv).marks)
each_means [] w leaves n sites tv ps within by s = record { extends = Extends-refl w.graph; spells = subst (Spells w leaves n tv) (sym (append-nil ps)) s }
each_means (one ∷ rest) w leaves n sites tv ps within by s =
    let first = run_means one false [] 1 w leaves n sites [] tv true ps (All-head (λ x. IsWithin x n sites) one rest within) (All-head (AssignsBy false) one rest by) (combinational_reads w.graph leaves n) s in
    let w1 : Wiring = run_of one false [] 1 w in
    let second = each_means rest w1 leaves n sites (exec one tv).values (ps ++ (exec one tv).marks) (All-tail (λ x. IsWithin x n sites) one rest within) (All-tail (AssignsBy false) one rest by) first.spells in
    record {
      extends = Extends-trans w.graph w1.graph _ first.extends second.extends;
      spells = subst (Spells (run_each rest false [] 1 w1) leaves n (exec_each rest (exec one tv).values).values) (append_assoc ps (exec one tv).marks (exec_each rest (exec one tv).values).marks) second.spells;
    }

-- the sites that a clocked body passes
abbrev pub clocked_marks : List Bool → Process → List ℕ
clocked_marks v p = cond (is_clocked p.kind) (exec p.body v).marks []

-- one process at the clock's edge
clocked_one : (body : Stmt) (k : Bool) (settled : List ℕ) (w : Wiring) (leaves : List Bool) (n sites : ℕ) (v tv : List Bool) (ps : List ℕ) →
    IsWithin body n sites → AssignsBy k body → Reads true settled 1 w.graph leaves n v true → Spells w leaves n tv ps →
    Runs w (cond k (run_of body true settled 1 w) w) leaves n (perform (cond k (exec body v).updates []) tv) (ps ++ cond k (exec body v).marks [])
clocked_one body true settled w leaves n sites v tv ps within by r s = run_means body true settled 1 w leaves n sites v tv true ps within by r s
clocked_one body false settled w leaves n sites v tv ps within by r s = record { extends = Extends-refl w.graph; spells = subst (Spells w leaves n tv) (sym (append-nil ps)) s }

pub clocked_means : (procs : List Process) (settled : List ℕ) (w : Wiring) (leaves : List Bool) (n sites : ℕ) (v tv : List Bool) (ps : List ℕ) →
    All (λ (p : Process). IsWithin p.body n sites) procs → All (λ (p : Process). AssignsBy (is_clocked p.kind) p.body) procs → Reads true settled 1 w.graph leaves n v true → Spells w leaves n tv ps →
    Runs w (clocked_of procs settled w) leaves n (perform (clocked_updates procs v) tv) (ps ++ flat_map (clocked_marks v) procs)
clocked_means [] settled w leaves n sites v tv ps within by r s = record { extends = Extends-refl w.graph; spells = subst (Spells w leaves n tv) (sym (append-nil ps)) s }
clocked_means (p ∷ rest) settled w leaves n sites v tv ps within by r s =
    let first = clocked_one p.body (is_clocked p.kind) settled w leaves n sites v tv ps (All-head (λ (x : Process). IsWithin x.body n sites) p rest within)
    (All-head (λ (x : Process). AssignsBy (is_clocked x.kind) x.body) p rest by) r s in
    let w1 : Wiring = cond (is_clocked p.kind) (run_of p.body true settled 1 w) w in
    let us : List (ℕ × Bool) = cond (is_clocked p.kind) (exec p.body v).updates [] in
    let ms : List ℕ = clocked_marks v p in
    let second = clocked_means rest settled w1 leaves n sites v (perform us tv) (ps ++ ms) (All-tail (λ (x : Process). IsWithin x.body n sites) p rest within)
    (All-tail (λ (x : Process). AssignsBy (is_clocked x.kind) x.body) p rest by) (reads_kept true settled 1 w.graph w1.graph leaves n v true first.extends s.leaves_long r) first.spells in
    record {
      extends = Extends-trans w.graph w1.graph _ first.extends second.extends;
      spells = subst (Spells (clocked_of rest settled w1) leaves n (perform (us ++ clocked_updates rest v) tv)) (append_assoc ps ms (flat_map (clocked_marks v) rest))
          (subst (λ x. Spells (clocked_of rest settled w1) leaves n x ((ps ++ ms) ++ flat_map (clocked_marks v) rest)) (sym (perform-append us (clocked_updates rest v) tv)) second.spells);
    }

-- ---- the leaves

module _ (inputs states : ℕ) (leaves : List Bool) where
  abbrev pub bare : Graph
  bare = record { inputs = inputs; states = states; gates = [] }

  pub leaves_spell : (bs : List ℕ) (n : ℕ) (xs : List ℕ) (values : List Bool) → length values ≡ length bs →
      ((k : ℕ) → k < length values → get_or (false ∷ leaves) (n + k) false ≡ get_or values k false) →
      spelled bare leaves (leaves_at bs n xs) ≡ perform (zip bs values) (spelled bare leaves xs)
  leaves_spell [] n xs values long at = refl
  leaves_spell (b ∷ bs) n xs [] long at = absurd (omega arith)
  leaves_spell (b ∷ bs) n xs (x ∷ values) long at =
      leaves_spell bs (n + 1) (set xs b (2 * n)) values (omega arith) (λ k lt. ap (λ i. get_or (false ∷ leaves) i false) (more k) ∙ at (suc k) (omega arith))
      ∙ ap (perform (zip bs values)) (map-set (value_of bare leaves) xs b (2 * n) ∙ ap (set (spelled bare leaves xs) b) (value_in-node (false ∷ leaves) n ∙ ap (λ i. get_or (false ∷ leaves) i false) none ∙ at zero (omega arith)))
    where
      more : (k : ℕ) → (n + 1) + k ≡ n + suc k
      more k = omega arith

      none : n ≡ n + zero
      none = omega arith

pub zeros_spell : (g : Graph) (leaves : List Bool) (n : ℕ) → spelled g leaves (replicate n 0) ≡ replicate n false
zeros_spell g leaves zero = refl
zeros_spell g leaves (suc n) = λ j. value_of-zero g leaves j ∷ zeros_spell g leaves n j
