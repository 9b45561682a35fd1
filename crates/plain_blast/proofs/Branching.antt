-- A branch, as the code makes it: at the bits that its arms assign.
use Rattle.std.proofs.Common.{◌≡◌, ℕ, ◌+◌, ◌<◌, ◌≤◌, ◌||◌, Bool, false, cond, List, [], ◌∷◌, ◌++◌, length, All, get_or, drop, map, sym, ap, ◌∙◌, subst, arith}
use Rattle.std.specs.Prelude.{Option, Some, None}
use Rattle.std.specs.List.Sorted.{IsStrictlyIncreasing}
use Rattle.std.proofs.lemmas.List.Kept.{AllPairs-from_increasing}
use Rattle.std.proofs.lemmas.List.{at_drop_more, drop_all}
use Rattle.std.proofs.lemmas.List.Elements.{All-append, All-cons, All-nil}
use Rattle.bit_exprs.specs.declared.forms.Expr.{Expr}
use Rattle.design_core.specs.declared.flat.Stmt.{Stmt, Branch, Block}
use Rattle.bit_exprs.specs.Named.{among}
use Rattle.bit_exprs.specs.Formed.{IsFormed}
use Rattle.bit_exprs.proofs.Given.{among-append}
use Rattle.design_core.specs.Bounds.{IsWithin}
use Rattle.design_core.proofs.Equations.{within-Block, within-Branch}
use Rattle.design_core.proofs.Truth.{or_false_left, or_false_right}
use Rattle.aig_core.specs.Graph.{Graph, IsLiteral}
use Rattle.expr_blast.specs.Circuits.{literal_at}
use Rattle.plain_blast.specs.declared.bodies.Fork.{Fork}
use Rattle.plain_blast.specs.declared.bodies.Passed.{Passed}
use Rattle.plain_blast.specs.Plain.{fork_of, choose_of, Wiring, wiring, past, past_any, run_of, run_each}
use Rattle.plain_blast.specs.Exist.{PathsExist}
use Rattle.plain_blast.specs.Choice.{IsSaved, set_at, choose_at}
use Rattle.plain_blast.specs.Assigned.{targets_of}
use Rattle.plain_blast.proofs.Written.{set_exist, set_back}
use Rattle.plain_blast.proofs.Existing.{picked_exist}
use Rattle.plain_blast.proofs.Collecting.{targets_below}
use Rattle.plain_blast.proofs.Chosen.{Rises, rises, choose_is}
use Rattle.plain_blast.proofs.Forms.{branch_of, run-Branch, run-Block}
use Rattle.plain_blast.proofs.Untouched.{run_other}

-- ---- a body that assigns at most these bits

module _ (s : Stmt) (bits : List ℕ) (covers : (b : ℕ) → among bits b ≡ false → among (targets_of s) b ≡ false) (clocked : Bool) (settled : List ℕ) (path : ℕ)
    (g h : Graph) (ts ts' : List ℕ) (ps ps' : List Passed) (ran : wiring h ts' ps' ≡ run_of s clocked settled path (wiring g ts ps)) where
  pub ran_other : (b : ℕ) → among bits b ≡ false → get_or ts' b 0 ≡ get_or ts b 0
  ran_other b none = ap (λ (w : Wiring). get_or w.targets b 0) ran ∙ run_other s clocked settled path (wiring g ts ps) b (covers b none)

  pub restored : (before back : List ℕ) → length ts' ≡ length ts → before ≡ map (literal_at ts) bits → back ≡ set_at bits before ts' → back ≡ ts
  restored before back long was put = put ∙ ap (λ xs. set_at bits xs ts') was ∙ set_back bits ts ts' long ran_other

pub in_order : (bits : List ℕ) → IsStrictlyIncreasing bits → Rises 0 bits
in_order bits up = rises 0 bits (λ k d lt. omega arith) (AllPairs-from_increasing bits up)

-- the two arms assign these bits
module _ (x y : Stmt) (bits : List ℕ) (same : (b : ℕ) → among bits b ≡ among (targets_of x ++ targets_of y) b) where
  neither : (b : ℕ) → among bits b ≡ false → among (targets_of x) b || among (targets_of y) b ≡ false
  neither b none = sym (among-append (targets_of x) (targets_of y) b) ∙ sym (same b) ∙ none

  pub covers_then : (b : ℕ) → among bits b ≡ false → among (targets_of x) b ≡ false
  covers_then b none = or_false_left _ _ (neither b none)

  pub covers_else : (b : ℕ) → among bits b ≡ false → among (targets_of y) b ≡ false
  covers_else b none = or_false_right (among (targets_of x) b) _ (neither b none)

-- what the code makes of a branch
pub record Made (site : ℕ) (test : Expr) (x y : Stmt) (clocked : Bool) (settled : List ℕ) (path : ℕ) (g gf gx gy gm : Graph) (ts tx back ty tm : List ℕ) (ps p1 px p2 py : List Passed)
    (f : Fork) (bits before thens : List ℕ) : Type 0 where
  pub forked : (gf, f) ≡ fork_of test path (cond clocked settled ts) g
  pub saved : IsSaved (targets_of x ++ targets_of y) ts bits before
  pub then_passed : p1 ≡ past_any (Some site) f.then_path ps
  pub then_ran : wiring gx tx px ≡ run_of x clocked settled f.then_path (wiring gf ts p1)
  pub then_long : length tx ≡ length ts
  pub kept : thens ≡ map (literal_at tx) bits
  pub put : back ≡ set_at bits before tx
  pub else_passed : p2 ≡ past_any (Some (site + 1)) f.else_path px
  pub else_ran : wiring gy ty py ≡ run_of y clocked settled f.else_path (wiring gx back p2)
  pub else_long : length ty ≡ length back
  pub chosen : (gm, tm) ≡ choose_at gy f.test bits thens ty

module _ (site : ℕ) (test : Expr) (x y : Stmt) (clocked : Bool) (settled : List ℕ) (path : ℕ) (g gf gx gy gm : Graph) (ts tx back ty tm : List ℕ) (ps p1 px p2 py : List Passed)
    (f : Fork) (bits before thens : List ℕ) (m : Made site test x y clocked settled path g gf gx gy gm ts tx back ty tm ps p1 px p2 py f bits before thens) where
  then_covered : (b : ℕ) → among bits b ≡ false → get_or tx b 0 ≡ get_or ts b 0
  then_covered = ran_other x bits (covers_then x y bits m.saved.same) clocked settled f.then_path gf gx ts tx p1 px m.then_ran

  is_back : back ≡ ts
  is_back = restored x bits (covers_then x y bits m.saved.same) clocked settled f.then_path gf gx ts tx p1 px m.then_ran before back m.then_long m.saved.literals_are m.put

  else_covered : (b : ℕ) → among bits b ≡ false → get_or ty b 0 ≡ get_or ts b 0
  else_covered b none = ran_other y bits (covers_else x y bits m.saved.same) clocked settled f.else_path gx gy back ty p2 py m.else_ran b none ∙ ap (λ (xs : List ℕ). get_or xs b 0) is_back

  all_chosen : (gm, tm) ≡ choose_of gy f.test tx ty
  all_chosen =
      m.chosen ∙ ap (λ xs. choose_at gy f.test bits xs ty) m.kept
      ∙ choose_is gy f.test bits tx ty (m.else_long ∙ ap length is_back ∙ sym m.then_long) (in_order bits m.saved.rises) (rw m.then_long m.saved.within) (λ b none. then_covered b none ∙ sym (else_covered b none))

  pub branch_made : wiring gm tm py ≡ branch_of site test x y clocked settled path (wiring g ts ps)
  branch_made =
      let f0 : Graph × Fork = fork_of test path (cond clocked settled ts) g in
      let x0 : Wiring = run_of x clocked settled f0.1.then_path (wiring f0.0 ts (past site f0.1.then_path ps)) in
      let x_is : wiring gx tx px ≡ x0 = m.then_ran ∙ ap (λ qs. run_of x clocked settled f.then_path (wiring gf ts qs)) m.then_passed
      ∙ ap (λ (p : Graph × Fork). run_of x clocked settled p.1.then_path (wiring p.0 ts (past site p.1.then_path ps))) m.forked in
      let y0 : Wiring = run_of y clocked settled f0.1.else_path (wiring x0.graph ts (past (site + 1) f0.1.else_path x0.paths)) in
      let y_is : wiring gy ty py ≡ y0 = m.else_ran ∙ (λ j. run_of y clocked settled f.else_path (wiring gx (is_back j) (m.else_passed j)))
      ∙ (λ j. run_of y clocked settled (m.forked j).1.else_path (wiring (x_is j).graph ts (past (site + 1) (m.forked j).1.else_path (x_is j).paths))) in
      let m_is : (gm, tm) ≡ choose_of y0.graph f0.1.test x0.targets y0.targets = all_chosen ∙ (λ j. choose_of (y_is j).graph (m.forked j).1.test (x_is j).targets (y_is j).targets) in
      λ j. wiring (m_is j).0 (m_is j).1 (y_is j).paths

pub branch_is : (body : Stmt) (site : ℕ) (test : Expr) (x y : Stmt) (clocked : Bool) (settled : List ℕ) (path : ℕ) (w v : Wiring) → body ≡ Branch site test x y →
    v ≡ branch_of site test x y clocked settled path w → v ≡ run_of body clocked settled path w
branch_is body site test x y clocked settled path w v is made = made ∙ sym (run-Branch site test x y clocked settled path w) ∙ ap (λ b. run_of b clocked settled path w) (sym is)

-- ---- a block

-- the loop over a block has come to its end
pub block_done : (body : Stmt) (all items : List Stmt) (i : ℕ) (clocked : Bool) (settled : List ℕ) (path : ℕ) (w w0 : Wiring) →
    body ≡ Block all → items ≡ all → length items ≤ i →
    run_each (drop i items) clocked settled path w ≡ run_each items clocked settled path w0 → w ≡ run_of body clocked settled path w0
block_done body all items i clocked settled path w w0 is listed past so_far =
    sym (ap (λ r. run_each r clocked settled path w) (drop_all i items past)) ∙ so_far ∙ ap (λ r. run_each r clocked settled path w0) listed
    ∙ sym (run-Block all clocked settled path w0) ∙ ap (λ b. run_of b clocked settled path w0) (sym is)

-- one body on
pub each_more : (ss : List Stmt) (i : ℕ) (s : Stmt) (clocked : Bool) (settled : List ℕ) (path : ℕ) (w w' total : Wiring) →
    i < length ss → s ≡ get_or ss i s → w' ≡ run_of s clocked settled path w →
    run_each (drop i ss) clocked settled path w ≡ total → run_each (drop (i + 1) ss) clocked settled path w' ≡ total
each_more ss i s clocked settled path w w' total lt at ran so_far =
    ap (run_each (drop (i + 1) ss) clocked settled path) ran
    ∙ ap (λ x. run_each (drop (i + 1) ss) clocked settled path (run_of x clocked settled path w)) at
    ∙ sym (at_drop_more (λ r. run_each r clocked settled path w) ss i s lt) ∙ so_far

-- what a block may name, each of its statements may
pub within_item : (body : Stmt) (all items : List Stmt) (s : Stmt) (i n n' sites : ℕ) →
    IsWithin body n sites → body ≡ Block all → items ≡ all → s ≡ get_or items i s → i < length items → n' ≡ n → IsWithin s n' sites
within_item body all items s i n n' sites within is listed at lt same =
    let each = within-Block all n sites (subst (λ b. IsWithin b n sites) is within) in
    rw same (subst (λ x. IsWithin x n sites) (sym at)
    (subst (λ xs. (k : ℕ) (d : Stmt) → k < length xs → IsWithin (get_or xs k d) n sites) (sym listed) each i s lt))

pub branch_within : (body : Stmt) (site : ℕ) (test : Expr) (x y : Stmt) (n sites : ℕ) → body ≡ Branch site test x y → IsWithin body n sites →
    (site + 1 < sites) × IsFormed test n × IsWithin x n sites × IsWithin y n sites
branch_within body site test x y n sites is h = within-Branch site test x y n sites (subst (λ b. IsWithin b n sites) is h)

-- ---- what holds between the steps of a branch

pub arms_below : (body : Stmt) (site : ℕ) (test : Expr) (x y x' y' : Stmt) (n sites : ℕ) → body ≡ Branch site test x y → IsWithin body n sites → x' ≡ x → y' ≡ y →
    All (λ b. b < n) (targets_of x' ++ targets_of y')
arms_below body site test x y x' y' n sites is within same_x same_y =
    let at = branch_within body site test x y n sites is within in
    rw (same_x, same_y) (All-append (λ b. b < n) (targets_of x) (targets_of y) (targets_below x n sites at.2) (targets_below y n sites at.3))

pub past_exist : (g : Graph) (site : Option ℕ) (path : ℕ) (ps ps' : List Passed) → PathsExist g ps → IsLiteral g path → ps' ≡ past_any site path ps → PathsExist g ps'
past_exist g None path ps ps' all l is = subst (PathsExist g) (sym is) all
past_exist g (Some site) path ps ps' all l is =
    subst (PathsExist g) (sym is) (All-append (λ (p : Passed). IsLiteral g p.path) ps (record { site = site; path = path } ∷ []) all
    (All-cons (λ (p : Passed). IsLiteral g p.path) (record { site = site; path = path }) [] l (All-nil (λ (p : Passed). IsLiteral g p.path))))

-- literals picked from some that exist
pub picked_all : (g : Graph) (xs bits rs : List ℕ) → All (IsLiteral g) xs → All (λ b. b < length xs) bits → rs ≡ map (literal_at xs) bits → All (IsLiteral g) rs
picked_all g xs bits rs all within is = subst (All (IsLiteral g)) (sym is) (picked_exist g xs bits all within)

-- literals that exist, given to bits
pub set_all : (g : Graph) (bits given xs ys : List ℕ) → All (IsLiteral g) given → All (IsLiteral g) xs → ys ≡ set_at bits given xs → All (IsLiteral g) ys
set_all g bits given xs ys lgs lxs is = subst (All (IsLiteral g)) (sym is) (set_exist g bits given xs lgs lxs)
