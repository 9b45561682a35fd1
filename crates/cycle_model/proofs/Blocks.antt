-- What is left of a block to execute.
use Rattle.std.proofs.Common.{◌≡◌, ℕ, Bool, true, false, not, cond, nat_eq, List, [], ◌∷◌, ◌++◌, refl, sym, ap, ◌∙◌, subst, get_or, drop, length, ◌<◌, ◌≤◌, ◌+◌}
use Rattle.std.proofs.lemmas.List.{at_drop_more, drop_all}
use Rattle.bit_exprs.specs.declared.forms.Expr.{Expr}
use Rattle.design_core.specs.declared.flat.Stmt.{Stmt, Block, Branch}
use Rattle.bit_exprs.specs.Updates.{perform}
use Rattle.bit_exprs.specs.Values.{value_of}
use Rattle.design_core.specs.Exec.{Effect, past, exec, exec_each}
use Rattle.bit_exprs.specs.Formed.{IsFormed}
use Rattle.design_core.specs.Bounds.{IsWithin}
use Rattle.design_core.proofs.Equations.{exec-Block, within-Block, exec-Branch, within-Branch}
use Rattle.bit_exprs.proofs.Performing.{perform-append}
use Rattle.cycle_model.specs.Flags.{flagged}

-- what executing leaves: the values, those to come, and the flags
pub record Held : Type 0 where
  pub values : List Bool
  pub next : List Bool
  pub marks : List Bool

abbrev pub onto : Effect → Held → Held
onto e h = record { values = e.values; next = perform e.updates h.next; marks = flagged e.marks h.marks }

abbrev pub after : Stmt → Held → Held
after s h = onto (exec s h.values) h

abbrev pub after_each : List Stmt → Held → Held
after_each ss h = onto (exec_each ss h.values) h

pub flagged-append : (a b : List ℕ) (v : List Bool) → flagged (a ++ b) v ≡ flagged b (flagged a v)
flagged-append [] b v = refl
flagged-append (u ∷ us) b v = flagged-append us b _

pub after_each-cons : (s : Stmt) (rest : List Stmt) (h : Held) → after_each (s ∷ rest) h ≡ after_each rest (after s h)
after_each-cons s rest h =
    let e = exec s h.values in
    let f = exec_each rest e.values in
    ap (λ n. let x : Held = record { values = f.values; next = n; marks = flagged (e.marks ++ f.marks) h.marks } in x) (perform-append e.updates f.updates h.next)
    ∙ ap (λ m. let x : Held = record { values = f.values; next = perform f.updates (perform e.updates h.next); marks = m } in x) (flagged-append e.marks f.marks h.marks)

-- one statement of a block on
pub after_each_more : (ss : List Stmt) (i : ℕ) (d : Stmt) (h : Held) → i < length ss →
    after_each (drop i ss) h ≡ after_each (drop (i + 1) ss) (after (get_or ss i d) h)
after_each_more ss i d h lt = at_drop_more (λ r. after_each r h) ss i d lt ∙ after_each-cons (get_or ss i d) (drop (i + 1) ss) h

turned : (b : Bool) (x y : Effect) → cond b y x ≡ cond (not b) x y
turned true x y = refl
turned false x y = refl

-- what a block may name, each of its statements may
pub within_item : (body : Stmt) (all items : List Stmt) (s : Stmt) (i bits sites bits' sites' : ℕ) →
    IsWithin body bits sites → body ≡ Block all → items ≡ all → s ≡ get_or items i s → i < length items →
    bits' ≡ bits → sites' ≡ sites → IsWithin s bits' sites'
within_item body all items s i bits sites bits' sites' within is listed at lt same_bits same_sites =
    let each = within-Block all bits sites (subst (λ b. IsWithin b bits sites) is within) in
    rw (same_bits, same_sites) (subst (λ x. IsWithin x bits sites) (sym at)
    (subst (λ xs. (k : ℕ) (d : Stmt) → k < length xs → IsWithin (get_or xs k d) bits sites) (sym listed) each i s lt))

pub block_more : (items : List Stmt) (i : ℕ) (s : Stmt) (h h0 : Held) (values next marks : List Bool) → i < length items → s ≡ get_or items i s →
    values ≡ (after s h).values → next ≡ (after s h).next → marks ≡ (after s h).marks →
    after_each (drop i items) h ≡ after_each items h0 →
    after_each (drop (i + 1) items) (record { values = values; next = next; marks = marks }) ≡ after_each items h0
block_more items i s h h0 values next marks lt at v n m so_far =
    let one : after_each (drop i items) h ≡ after_each (drop (i + 1) items) (after s h) =
    subst (λ x. after_each (drop i items) h ≡ after_each (drop (i + 1) items) (after x h)) (sym at) (after_each_more items i s h lt) in
    rw (v, n, m) (sym one ∙ so_far)

pub block_done : (body : Stmt) (all items : List Stmt) (i : ℕ) (h h0 : Held) →
    body ≡ Block all → items ≡ all → length items ≤ i →
    after_each (drop i items) h ≡ after_each items h0 → h ≡ after body h0
block_done body all items i h h0 is listed past_end so_far =
    sym (ap (λ r. after_each r h) (drop_all i items past_end)) ∙ so_far ∙ ap (λ r. after_each r h0) listed
    ∙ sym (ap (λ e. onto e h0) (exec-Block all h0.values)) ∙ ap (λ b. after b h0) (sym is)

-- ---- a branch

module _ (body : Stmt) (site : ℕ) (test : Expr) (x y : Stmt) (is : body ≡ Branch site test x y) where
  pub branch_within : (bits sites : ℕ) → IsWithin body bits sites → (site + 1 < sites) × IsFormed test bits × IsWithin x bits sites × IsWithin y bits sites
  branch_within bits sites h = within-Branch site test x y bits sites (subst (λ b. IsWithin b bits sites) is h)

  effect : (v : List Bool) → exec body v ≡ cond (nat_eq (value_of test v) 0) (past ((site + 1) ∷ []) (exec y v)) (past (site ∷ []) (exec x v))
  effect v = ap (λ b. exec b v) is ∙ exec-Branch site test x y v

  arm : (v : List Bool) (c : Bool) → c ≡ not (nat_eq (value_of test v) 0) → exec body v ≡ cond c (past (site ∷ []) (exec x v)) (past ((site + 1) ∷ []) (exec y v))
  arm v c e = effect v ∙ turned (nat_eq (value_of test v) 0) _ _ ∙ ap (λ t. cond t (past (site ∷ []) (exec x v)) (past ((site + 1) ∷ []) (exec y v))) (sym e)

  pub branch_then : (v : List Bool) (c : Bool) → c ≡ true → c ≡ not (nat_eq (value_of test v) 0) → exec body v ≡ past (site ∷ []) (exec x v)
  branch_then v c on e = arm v c e ∙ ap (λ t. cond t (past (site ∷ []) (exec x v)) (past ((site + 1) ∷ []) (exec y v))) on

  pub branch_else : (v : List Bool) (c : Bool) → c ≡ false → c ≡ not (nat_eq (value_of test v) 0) → exec body v ≡ past ((site + 1) ∷ []) (exec y v)
  branch_else v c off e = arm v c e ∙ ap (λ t. cond t (past (site ∷ []) (exec x v)) (past ((site + 1) ∷ []) (exec y v))) off
