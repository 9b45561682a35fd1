-- A reset, as the code makes it: at the bits that the first arm assigns.
use Rattle.std.proofs.Common.{◌≡◌, ℕ, ◌<◌, true, false, List, [], length, All, map, sym, ap, ◌∙◌}
use Rattle.std.specs.Prelude.{Some}
use Rattle.bit_exprs.specs.declared.forms.Expr.{Expr}
use Rattle.bit_exprs.specs.Named.{among}
use Rattle.design_core.specs.declared.flat.Reset.{Reset}
use Rattle.design_core.specs.declared.flat.Stmt.{Stmt, Branch}
use Rattle.design_core.specs.Bounds.{IsWithin}
use Rattle.aig_core.specs.Graph.{Graph}
use Rattle.expr_blast.specs.Circuits.{literal_at}
use Rattle.plain_blast.specs.declared.bodies.Passed.{Passed}
use Rattle.plain_blast.specs.Plain.{choose_of, wiring, run_of, active_of, reset_by}
use Rattle.plain_blast.specs.Choice.{IsSaved, set_at, choose_at}
use Rattle.plain_blast.specs.Assigned.{targets_of}
use Rattle.plain_blast.proofs.Chosen.{choose_is}
use Rattle.plain_blast.proofs.Forms.{reset-Branch}
use Rattle.plain_blast.proofs.Collecting.{targets_below}
use Rattle.plain_blast.proofs.Branching.{ran_other, restored, in_order, branch_within}

-- what the code makes of a reset
pub record Reset_made (r : Reset) (x : Stmt) (first : List ℕ) (g gx gm : Graph) (ts tx back tm : List ℕ) (px : List Passed) (a : ℕ) (bits before given : List ℕ) : Type 0 where
  pub saved : IsSaved (targets_of x) ts bits before
  pub ran : wiring gx tx px ≡ run_of x true first 1 (wiring g ts [])
  pub long : length tx ≡ length ts
  pub kept : given ≡ map (literal_at tx) bits
  pub put : back ≡ set_at bits before tx
  pub active : a ≡ active_of r first
  pub chosen : (gm, tm) ≡ choose_at gx a bits given back

module _ (r : Reset) (x : Stmt) (first : List ℕ) (g gx gm : Graph) (ts tx back tm : List ℕ) (px : List Passed) (a : ℕ) (bits before given : List ℕ) (m : Reset_made r x first g gx gm ts tx back tm px a bits before given) where
  covers : (b : ℕ) → among bits b ≡ false → among (targets_of x) b ≡ false
  covers b none = sym (m.saved.same b) ∙ none

  is_back : back ≡ ts
  is_back = restored x bits covers true first 1 g gx ts tx [] px m.ran before back m.long m.saved.literals_are m.put

  pub reset_made : (body : Stmt) (site : ℕ) (test : Expr) (y : Stmt) → body ≡ Branch site test x y → (gm, tm) ≡ reset_by (Some r) body first g ts
  reset_made body site test y is =
      m.chosen ∙ (λ j. choose_at gx a bits (m.kept j) (is_back j))
      ∙ choose_is gx a bits tx ts (sym m.long) (in_order bits m.saved.rises) (rw m.long m.saved.within) (λ b none. ran_other x bits covers true first 1 g gx ts tx [] px m.ran b none)
      ∙ (λ j. choose_of (m.ran j).graph (m.active j) (m.ran j).targets ts)
      ∙ sym (ap (λ b. reset_by (Some r) b first g ts) is ∙ reset-Branch r site test x y first g ts)

pub arm_below : (body : Stmt) (site : ℕ) (test : Expr) (x y x' : Stmt) (n sites : ℕ) → body ≡ Branch site test x y → IsWithin body n sites → x' ≡ x → All (λ b. b < n) (targets_of x')
arm_below body site test x y x' n sites is within same_x = rw same_x (targets_below x n sites (branch_within body site test x y n sites is within).2)
