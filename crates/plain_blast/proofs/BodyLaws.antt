-- What the literals of bodies are worth: what executing the bodies gives.
use Rattle.std.proofs.Common.{◌≡◌, ℕ, ◌+◌, Bool, true, false, not, ◌&&◌, nat_eq, cond, List, [], ◌∷◌, ◌++◌, length, All, refl, sym, ap, subst, ◌∙◌, append_assoc}
use Rattle.std.specs.Prelude.{Option, Some, None}
use Rattle.std.proofs.lemmas.List.{append-nil}
use Rattle.std.proofs.lemmas.List.Elements.{All-head, All-tail, All-append, All-cons, All-nil}
use Rattle.bit_exprs.specs.declared.forms.Expr.{Expr}
use Rattle.bit_exprs.specs.declared.forms.Target.{Target}
use Rattle.bit_exprs.specs.Values.{value_of}
use Rattle.bit_exprs.specs.Updates.{updates_of, perform}
use Rattle.bit_exprs.proofs.Performing.{perform-append}
use Rattle.design_core.specs.declared.flat.Stmt.{Stmt, Row_of-Stmt, end_of-Stmt, more_of-Stmt}
use Rattle.design_core.specs.declared.flat.Stmt.TheVariants.{Assign, Branch', Block'}
use Rattle.design_core.specs.Exec.{Effect, listed, exec, exec_all}
use Rattle.design_core.specs.Exec as effects
use Rattle.design_core.specs.Bounds.{IsWithin, AreWithin, AssignsBy, AssignBy}
use Rattle.design_core.proofs.Effects.{waits}
use Rattle.aig_core.specs.Graph.{Graph, leaf_count, IsLiteral, IsWellFormed, Extends, value_of as literal_value}
use Rattle.aig_core.proofs.Values.{Extends-refl, Extends-trans, value_of-Extends, IsLiteral-Extends, leaf_count-Extends}
use Rattle.word_blast.specs.Words.{spelled}
use Rattle.plain_blast.specs.declared.bodies.Fork.{Fork}
use Rattle.plain_blast.specs.declared.bodies.Passed.{Passed}
use Rattle.plain_blast.specs.Plain.{Wiring, wiring, past, past_any, assign_of, fork_of, choose_of, run_of, run_all}
use Rattle.plain_blast.specs.Exist.{Exist, PathsExist}
use Rattle.plain_blast.proofs.Existing.{all_kept, paths_kept}
use Rattle.plain_blast.proofs.Literals.{spelled_kept, same_leaves, choose_gives, Chosen}
use Rattle.plain_blast.proofs.StepLaws.{Assigns, assign_gives, Forks, fork_gives}

-- ---- the sites whose path literals are 1

abbrev pub passed_on : Graph → List Bool → List Passed → List ℕ
passed_on g leaves [] = []
passed_on g leaves (p ∷ ps) = cond (literal_value g leaves p.path) (p.site ∷ []) [] ++ passed_on g leaves ps

pub passed_on-append : (g : Graph) (leaves : List Bool) (ps qs : List Passed) → passed_on g leaves (ps ++ qs) ≡ passed_on g leaves ps ++ passed_on g leaves qs
passed_on-append g leaves [] qs = refl
passed_on-append g leaves (p ∷ ps) qs =
    ap (λ r. cond (literal_value g leaves p.path) (p.site ∷ []) [] ++ r) (passed_on-append g leaves ps qs)
    ∙ sym (append_assoc (cond (literal_value g leaves p.path) (p.site ∷ []) []) (passed_on g leaves ps) (passed_on g leaves qs))

pub passed_on_kept : (g h : Graph) (leaves : List Bool) (ps : List Passed) → Extends g h → length leaves ≡ leaf_count g → PathsExist g ps → passed_on h leaves ps ≡ passed_on g leaves ps
passed_on_kept g h leaves [] e len all = refl
passed_on_kept g h leaves (p ∷ ps) e len all =
    λ j. cond (value_of-Extends g h leaves p.path e len (All-head (λ (q : Passed). IsLiteral g q.path) p ps all) j) (p.site ∷ []) []
    ++ passed_on_kept g h leaves ps e len (All-tail (λ (q : Passed). IsLiteral g q.path) p ps all) j

-- ---- what executing a body leaves in its targets, and the sites that it passes

abbrev pub after : Stmt → Bool → List Bool → List Bool → List Bool
after s clocked sv tv = cond clocked (perform (exec s (cond clocked sv tv)).updates tv) (exec s (cond clocked sv tv)).values

abbrev pub marks_of : Stmt → Bool → List Bool → List Bool → List ℕ
marks_of s clocked sv tv = (exec s (cond clocked sv tv)).marks

abbrev pub after_all : {m : _} → Row_of-Stmt m → Bool → List Bool → List Bool → List Bool
after_all all clocked sv tv = cond clocked (perform (exec_all all (cond clocked sv tv)).updates tv) (exec_all all (cond clocked sv tv)).values

abbrev pub marks_all : {m : _} → Row_of-Stmt m → Bool → List Bool → List Bool → List ℕ
marks_all all clocked sv tv = (exec_all all (cond clocked sv tv)).marks

module _ (site : Option ℕ) (target : Target) (value : Expr) where
  after_assign : (clocked delayed : Bool) (sv tv : List Bool) → delayed ≡ clocked →
      after (Assign site delayed target value) clocked sv tv ≡ (let v = cond clocked sv tv in perform (updates_of target (value_of value v) v) tv)
  after_assign true true sv tv e = refl
  after_assign false false sv tv e = refl
  after_assign true false sv tv e = cc
  after_assign false true sv tv e = cc

  marks_assign : (clocked delayed : Bool) (sv tv : List Bool) → marks_of (Assign site delayed target value) clocked sv tv ≡ listed site
  marks_assign clocked true sv tv = append-nil (listed site)
  marks_assign clocked false sv tv = append-nil (listed site)

-- the second arm is taken where z is true
marks_cond : (z : Bool) (x y : Effect) → (cond z y x).marks ≡ cond z y.marks x.marks
marks_cond true x y = refl
marks_cond false x y = refl

after_cond : (clocked z : Bool) (x y : Effect) (tv : List Bool) →
    cond clocked (perform (cond z y x).updates tv) (cond z y x).values ≡ cond (not z) (cond clocked (perform x.updates tv) x.values) (cond clocked (perform y.updates tv) y.values)
after_cond clocked true x y tv = refl
after_cond clocked false x y tv = refl

after_end : (clocked : Bool) (sv tv : List Bool) → after_all end_of-Stmt clocked sv tv ≡ tv
after_end true sv tv = refl
after_end false sv tv = refl

module _ {m : _} (s : Stmt) (rest : Row_of-Stmt m) where
  after_more : (clocked : Bool) (sv tv : List Bool) → AssignsBy clocked s → after_all (more_of-Stmt s rest) clocked sv tv ≡ after_all rest clocked sv (after s clocked sv tv)
  after_more true sv tv by =
      ap (λ v. perform ((exec s sv).updates ++ (exec_all rest v).updates) tv) (waits s sv by)
      ∙ perform-append (exec s sv).updates (exec_all rest sv).updates tv
  after_more false sv tv by = refl

  marks_more : (clocked : Bool) (sv tv : List Bool) → AssignsBy clocked s → marks_all (more_of-Stmt s rest) clocked sv tv ≡ marks_of s clocked sv tv ++ marks_all rest clocked sv (after s clocked sv tv)
  marks_more true sv tv by = ap (λ v. (exec s sv).marks ++ (exec_all rest v).marks) (waits s sv by)
  marks_more false sv tv by = refl

-- ---- what a wiring stands for

-- what a body reads and the path that it is under: the settled literals spell sv, the path is `on`
pub record Reads (clocked : Bool) (settled : List ℕ) (path : ℕ) (g : Graph) (leaves : List Bool) (n : ℕ) (sv : List Bool) (on : Bool) : Type 0 where
  pub settled_long : clocked ≡ true → length settled ≡ n
  pub settled_exist : All (IsLiteral g) settled
  pub settled_spell : spelled g leaves settled ≡ sv
  pub path_exists : IsLiteral g path
  pub path_is : literal_value g leaves path ≡ on

-- the targets spell tv, and the sites passed are ps
pub record Spells (w : Wiring) (leaves : List Bool) (n : ℕ) (tv : List Bool) (ps : List ℕ) : Type 0 where
  pub well_formed : IsWellFormed w.graph
  pub leaves_long : length leaves ≡ leaf_count w.graph
  pub targets_long : length w.targets ≡ n
  pub exist : Exist w
  pub targets_spell : spelled w.graph leaves w.targets ≡ tv
  pub passed : passed_on w.graph leaves w.paths ≡ ps

pub record Runs (old new : Wiring) (leaves : List Bool) (n : ℕ) (tv : List Bool) (ps : List ℕ) : Type 0 where
  pub extends : Extends old.graph new.graph
  pub spells : Spells new leaves n tv ps

pub reads_kept : (clocked : Bool) (settled : List ℕ) (path : ℕ) (g h : Graph) (leaves : List Bool) (n : ℕ) (sv : List Bool) (on : Bool) →
    Extends g h → length leaves ≡ leaf_count g → Reads clocked settled path g leaves n sv on → Reads clocked settled path h leaves n sv on
reads_kept clocked settled path g h leaves n sv on e len r = record {
  settled_long = r.settled_long;
  settled_exist = all_kept g h settled e r.settled_exist;
  settled_spell = spelled_kept g h leaves settled e len r.settled_exist ∙ r.settled_spell;
  path_exists = IsLiteral-Extends g h path e r.path_exists;
  path_is = value_of-Extends g h leaves path e len r.path_exists ∙ r.path_is;
}

-- the same under another path
under : (clocked : Bool) (settled : List ℕ) (path path' : ℕ) (g : Graph) (leaves : List Bool) (n : ℕ) (sv : List Bool) (on on' : Bool) →
    Reads clocked settled path g leaves n sv on → IsLiteral g path' → literal_value g leaves path' ≡ on' → Reads clocked settled path' g leaves n sv on'
under clocked settled path path' g leaves n sv on on' r l v = record {
  settled_long = r.settled_long;
  settled_exist = r.settled_exist;
  settled_spell = r.settled_spell;
  path_exists = l;
  path_is = v;
}

-- a graph that has grown, and a site that is passed
past_spells : (w : Wiring) (h : Graph) (leaves : List Bool) (n : ℕ) (tv : List Bool) (ps : List ℕ) (site path : ℕ) (on : Bool) →
    Extends w.graph h → IsWellFormed h → IsLiteral h path → literal_value h leaves path ≡ on → Spells w leaves n tv ps →
    Spells (wiring h w.targets (past site path w.paths)) leaves n tv (ps ++ cond on (site ∷ []) [])
past_spells w h leaves n tv ps site path on e well l v s = record {
  well_formed = well;
  leaves_long = s.leaves_long ∙ sym (leaf_count-Extends w.graph h e);
  targets_long = s.targets_long;
  exist = record {
    targets_exist = all_kept w.graph h w.targets e s.exist.targets_exist;
    paths_exist = All-append (λ (p : Passed). IsLiteral h p.path) w.paths (record { site = site; path = path } ∷ []) (paths_kept w.graph h w.paths e s.exist.paths_exist)
        (All-cons (λ (p : Passed). IsLiteral h p.path) (record { site = site; path = path }) [] l (All-nil (λ (p : Passed). IsLiteral h p.path)));
  };
  targets_spell = spelled_kept w.graph h leaves w.targets e s.leaves_long s.exist.targets_exist ∙ s.targets_spell;
  passed = passed_on-append h leaves w.paths (record { site = site; path = path } ∷ [])
      ∙ (λ j. (passed_on_kept w.graph h leaves w.paths e s.leaves_long s.exist.paths_exist ∙ s.passed) j ++ (append-nil (cond (literal_value h leaves path) (site ∷ []) []) ∙ ap (λ b. cond b (site ∷ []) []) v) j);
}

-- the literals that are read
module _ (clocked : Bool) (settled : List ℕ) (path : ℕ) (w : Wiring) (leaves : List Bool) (n : ℕ) (sv tv : List Bool) (on : Bool) (ps : List ℕ)
    (r : Reads clocked settled path w.graph leaves n sv on) (s : Spells w leaves n tv ps) where
  read_exist : All (IsLiteral w.graph) (cond clocked settled w.targets)
  read_exist = by clocked
    where
      by : (c : Bool) → All (IsLiteral w.graph) (cond c settled w.targets)
      by true = r.settled_exist
      by false = s.exist.targets_exist

  read_long : length (cond clocked settled w.targets) ≡ n
  read_long = by clocked r.settled_long
    where
      by : (c : Bool) → (c ≡ true → length settled ≡ n) → length (cond c settled w.targets) ≡ n
      by true h = h refl
      by false h = s.targets_long

  read_spelled : spelled w.graph leaves (cond clocked settled w.targets) ≡ cond clocked sv tv
  read_spelled = by clocked
    where
      by : (c : Bool) → spelled w.graph leaves (cond c settled w.targets) ≡ cond c sv tv
      by true = r.settled_spell
      by false = s.targets_spell

past_any_spells : (w : Wiring) (h : Graph) (leaves : List Bool) (n : ℕ) (tv : List Bool) (ps : List ℕ) (site : Option ℕ) (path : ℕ) (on : Bool) →
    Extends w.graph h → IsWellFormed h → IsLiteral h path → literal_value h leaves path ≡ on → Spells w leaves n tv ps →
    Spells (wiring h w.targets (past_any site path w.paths)) leaves n tv (ps ++ cond on (listed site) [])
past_any_spells w h leaves n tv ps (Some site) path on e well l v s = past_spells w h leaves n tv ps site path on e well l v s
past_any_spells w h leaves n tv ps None path on e well l v s = record {
  well_formed = well;
  leaves_long = s.leaves_long ∙ sym (leaf_count-Extends w.graph h e);
  targets_long = s.targets_long;
  exist = record { targets_exist = all_kept w.graph h w.targets e s.exist.targets_exist; paths_exist = paths_kept w.graph h w.paths e s.exist.paths_exist };
  targets_spell = spelled_kept w.graph h leaves w.targets e s.leaves_long s.exist.targets_exist ∙ s.targets_spell;
  passed = passed_on_kept w.graph h leaves w.paths e s.leaves_long s.exist.paths_exist ∙ s.passed ∙ nothing on;
}
  where
    nothing : (b : Bool) → ps ≡ ps ++ cond b [] []
    nothing true = sym (append-nil ps)
    nothing false = sym (append-nil ps)

append_cond : (on : Bool) (ps a b : List ℕ) → (ps ++ cond on a []) ++ cond on b [] ≡ ps ++ cond on (a ++ b) []
append_cond true ps a b = append_assoc ps a b
append_cond false ps a b = append-nil (ps ++ [])

nothing_more : (on : Bool) (ps : List ℕ) → ps ≡ ps ++ cond on [] []
nothing_more true ps = sym (append-nil ps)
nothing_more false ps = sym (append-nil ps)

-- the sites that a branch passes
branch_passes : (on z : Bool) (ps a b : List ℕ) (x y : ℕ) →
    (((ps ++ cond (on && not z) (x ∷ []) []) ++ cond (on && not z) a []) ++ cond (on && z) (y ∷ []) []) ++ cond (on && z) b [] ≡ ps ++ cond on (cond z (y ∷ b) (x ∷ a)) []
branch_passes true false ps a b x y = append-nil _ ∙ append-nil _ ∙ append_assoc ps (x ∷ []) a
branch_passes true true ps a b x y = (λ j. (append-nil (append-nil ps j) j ++ y ∷ []) ++ b) ∙ append_assoc ps (y ∷ []) b
branch_passes false z ps a b x y = append-nil _ ∙ append-nil _ ∙ append-nil _

-- ---- the induction over bodies

mutual
  pub run_means : (s : Stmt) (clocked : Bool) (settled : List ℕ) (path : ℕ) (w : Wiring) (leaves : List Bool) (n sites : ℕ) (sv tv : List Bool) (on : Bool) (ps : List ℕ) →
      IsWithin s n sites → AssignsBy clocked s → Reads clocked settled path w.graph leaves n sv on → Spells w leaves n tv ps →
      Runs w (run_of s clocked settled path w) leaves n (after s clocked sv tv) (ps ++ cond on (marks_of s clocked sv tv) [])
  run_means (Assign site delayed target value) clocked settled path w leaves n sites sv tv on ps within by r s =
      let bits : List ℕ = cond clocked settled w.targets in
      let wide = read_long clocked settled path w leaves n sv tv on ps r s in
      let x : Graph × List ℕ = assign_of target value bits w.graph w.targets in
      let a : Assigns w.graph x.0 w.targets x.1 (λ ls. perform (updates_of target (value_of value (spelled w.graph ls bits)) (spelled w.graph ls bits)) (spelled w.graph ls w.targets)) =
      assign_gives target value bits w.graph w.targets s.well_formed (read_exist clocked settled path w leaves n sv tv on ps r s) s.exist.targets_exist (rw wide within.1) within.2 (rw wide within.3) in
      let r' = reads_kept clocked settled path w.graph x.0 leaves n sv on a.extends s.leaves_long r in
      let t = past_any_spells w x.0 leaves n tv ps site path on a.extends a.well_formed r'.path_exists r'.path_is s in
      record {
        extends = a.extends;
        spells = record {
          well_formed = t.well_formed;
          leaves_long = t.leaves_long;
          targets_long = a.long ∙ s.targets_long;
          exist = record { targets_exist = a.exist; paths_exist = t.exist.paths_exist };
          targets_spell = a.value leaves s.leaves_long
              ∙ (λ j. let v = read_spelled clocked settled path w leaves n sv tv on ps r s j in perform (updates_of target (value_of value v) v) (s.targets_spell j))
              ∙ sym (after_assign site target value clocked delayed sv tv by);
          passed = t.passed ∙ ap (λ m. ps ++ cond on m []) (sym (marks_assign site target value clocked delayed sv tv));
        };
      }
  run_means (Branch' site test p a q b) clocked settled path w leaves n sites sv tv on ps within by r s =
      let bits : List ℕ = cond clocked settled w.targets in
      let h : Graph = (fork_of test path bits w.graph).0 in
      let f : Fork = (fork_of test path bits w.graph).1 in
      let z : Bool = nat_eq (value_of test (cond clocked sv tv)) 0 in
      let fork : Forks w.graph h path f (λ ls. nat_eq (value_of test (spelled w.graph ls bits)) 0) =
      fork_gives test path bits w.graph s.well_formed (read_exist clocked settled path w leaves n sv tv on ps r s) r.path_exists (rw (read_long clocked settled path w leaves n sv tv on ps r s) within.1) in
      let z_is : nat_eq (value_of test (spelled w.graph leaves bits)) 0 ≡ z = ap (λ v. nat_eq (value_of test v) 0) (read_spelled clocked settled path w leaves n sv tv on ps r s) in
      let test_is : literal_value h leaves f.test ≡ not z = fork.test_is leaves s.leaves_long ∙ ap not z_is in
      let then_is : literal_value h leaves f.then_path ≡ (on && not z) = fork.then_is leaves s.leaves_long ∙ (λ j. r.path_is j && not (z_is j)) in
      let else_is : literal_value h leaves f.else_path ≡ (on && z) = fork.else_is leaves s.leaves_long ∙ (λ j. r.path_is j && z_is j) in
      let le = same_leaves w.graph h leaves fork.extends s.leaves_long in
      let re = reads_kept clocked settled path w.graph h leaves n sv on fork.extends s.leaves_long r in
      let w1 : Wiring = wiring h w.targets (past site f.then_path w.paths) in
      let s1 = past_spells w h leaves n tv ps site f.then_path (on && not z) fork.extends fork.well_formed fork.then_exists then_is s in
      let x : Wiring = run_all a clocked settled f.then_path w1 in
      let ran_a = run_all_means a clocked settled f.then_path w1 leaves n sites sv tv (on && not z) (ps ++ cond (on && not z) (site ∷ []) []) within.2 by.0
      (under clocked settled path f.then_path h leaves n sv on (on && not z) re fork.then_exists then_is) s1 in
      let rx = reads_kept clocked settled path h x.graph leaves n sv on ran_a.extends le re in
      let else_exists : IsLiteral x.graph f.else_path = IsLiteral-Extends h x.graph f.else_path ran_a.extends fork.else_exists in
      let else_is_x : literal_value x.graph leaves f.else_path ≡ (on && z) = value_of-Extends h x.graph leaves f.else_path ran_a.extends le fork.else_exists ∙ else_is in
      let lx = ran_a.spells.leaves_long in
      let psx : List ℕ = (ps ++ cond (on && not z) (site ∷ []) []) ++ cond (on && not z) (marks_all a clocked sv tv) [] in
      let mid : Spells (wiring x.graph w.targets x.paths) leaves n tv psx = record {
        well_formed = ran_a.spells.well_formed;
        leaves_long = lx;
        targets_long = s.targets_long;
        exist = record { targets_exist = all_kept h x.graph w.targets ran_a.extends s1.exist.targets_exist; paths_exist = ran_a.spells.exist.paths_exist };
        targets_spell = spelled_kept h x.graph leaves w.targets ran_a.extends le s1.exist.targets_exist ∙ s1.targets_spell;
        passed = ran_a.spells.passed;
      } in
      let w2 : Wiring = wiring x.graph w.targets (past (site + 1) f.else_path x.paths) in
      let s2 = past_spells (wiring x.graph w.targets x.paths) x.graph leaves n tv psx (site + 1) f.else_path (on && z) (Extends-refl x.graph) ran_a.spells.well_formed else_exists else_is_x mid in
      let y : Wiring = run_all b clocked settled f.else_path w2 in
      let ran_b = run_all_means b clocked settled f.else_path w2 leaves n sites sv tv (on && z) (psx ++ cond (on && z) ((site + 1) ∷ []) []) within.3 by.1
      (under clocked settled path f.else_path x.graph leaves n sv on (on && z) rx else_exists else_is_x) s2 in
      let ly = ran_b.spells.leaves_long in
      let late : Extends h y.graph = Extends-trans h x.graph y.graph ran_a.extends ran_b.extends in
      let test_is_y : literal_value y.graph leaves f.test ≡ not z = value_of-Extends h y.graph leaves f.test late le fork.test_exists ∙ test_is in
      let then_effect : Effect = effects.past (site ∷ []) (exec_all a (cond clocked sv tv)) in
      let else_effect : Effect = effects.past ((site + 1) ∷ []) (exec_all b (cond clocked sv tv)) in
      let m : Graph × List ℕ = choose_of y.graph f.test x.targets y.targets in
      let ch : Chosen y.graph m.0 f.test x.targets y.targets m.1 =
      choose_gives y.graph f.test x.targets y.targets ran_b.spells.well_formed (IsLiteral-Extends h y.graph f.test late fork.test_exists) (all_kept x.graph y.graph x.targets ran_b.extends ran_a.spells.exist.targets_exist)
      ran_b.spells.exist.targets_exist (ran_b.spells.targets_long ∙ sym ran_a.spells.targets_long) in
      record {
        extends = Extends-trans w.graph y.graph m.0 (Extends-trans w.graph h y.graph fork.extends late) ch.extends;
        spells = record {
          well_formed = ch.well_formed;
          leaves_long = ly ∙ sym (leaf_count-Extends y.graph m.0 ch.extends);
          targets_long = ch.long ∙ ran_a.spells.targets_long;
          exist = record { targets_exist = ch.exist; paths_exist = paths_kept y.graph m.0 y.paths ch.extends ran_b.spells.exist.paths_exist };
          targets_spell = ch.value leaves ly
              ∙ (λ j. cond (test_is_y j) ((spelled_kept x.graph y.graph leaves x.targets ran_b.extends lx ran_a.spells.exist.targets_exist ∙ ran_a.spells.targets_spell) j) (ran_b.spells.targets_spell j))
              ∙ sym (after_cond clocked z then_effect else_effect tv);
          passed = passed_on_kept y.graph m.0 leaves y.paths ch.extends ly ran_b.spells.exist.paths_exist ∙ ran_b.spells.passed
              ∙ branch_passes on z ps (marks_all a clocked sv tv) (marks_all b clocked sv tv) site (site + 1)
              ∙ ap (λ ms. ps ++ cond on ms []) (sym (marks_cond z then_effect else_effect));
        };
      }
  run_means (Block' shape all) clocked settled path w leaves n sites sv tv on ps within by r s = run_all_means all clocked settled path w leaves n sites sv tv on ps within by r s

  pub run_all_means : {m : _} (all : Row_of-Stmt m) (clocked : Bool) (settled : List ℕ) (path : ℕ) (w : Wiring) (leaves : List Bool) (n sites : ℕ) (sv tv : List Bool) (on : Bool) (ps : List ℕ) →
      AreWithin all n sites → AssignBy clocked all → Reads clocked settled path w.graph leaves n sv on → Spells w leaves n tv ps →
      Runs w (run_all all clocked settled path w) leaves n (after_all all clocked sv tv) (ps ++ cond on (marks_all all clocked sv tv) [])
  run_all_means end_of-Stmt clocked settled path w leaves n sites sv tv on ps within by r s = record {
    extends = Extends-refl w.graph;
    spells = rw (after_end clocked sv tv, ← nothing_more on ps) s;
  }
  run_all_means (more_of-Stmt one rest) clocked settled path w leaves n sites sv tv on ps within by r s =
      let first = run_means one clocked settled path w leaves n sites sv tv on ps within.0 by.0 r s in
      let w1 : Wiring = run_of one clocked settled path w in
      let tv1 : List Bool = after one clocked sv tv in
      let r1 = reads_kept clocked settled path w.graph w1.graph leaves n sv on first.extends s.leaves_long r in
      let second = run_all_means rest clocked settled path w1 leaves n sites sv tv1 on (ps ++ cond on (marks_of one clocked sv tv) []) within.1 by.1 r1 first.spells in
      record {
        extends = Extends-trans w.graph w1.graph _ first.extends second.extends;
        spells = subst (λ v. Spells (run_all rest clocked settled path w1) leaves n v (ps ++ cond on (marks_all (more_of-Stmt one rest) clocked sv tv) [])) (sym (after_more one rest clocked sv tv by.0))
            (subst (Spells (run_all rest clocked settled path w1) leaves n (after_all rest clocked sv tv1))
            (append_cond on ps (marks_of one clocked sv tv) (marks_all rest clocked sv tv1) ∙ ap (λ m. ps ++ cond on m []) (sym (marks_more one rest clocked sv tv by.0))) second.spells);
      }
