-- A hit literal is 1 where the site is among those that were passed.
use Rattle.std.proofs.Common.{◌≡◌, ℕ, ◌==◌, Bool, true, false, ◌&&◌, ◌||◌, cond, List, [], ◌∷◌, ◌++◌, length, map, All, refl, sym, ap, ◌∙◌, arith}
use Rattle.std.proofs.lemmas.List.Elements.{All-head, All-tail, All-cons, All-nil}
use Rattle.bit_exprs.specs.Named.{among}
use Rattle.aig_core.specs.Graph.{Graph, leaf_count, IsLiteral, IsWellFormed, value_of, Extends}
use Rattle.aig_core.proofs.Values.{Extends-refl, Extends-trans, value_of-Extends, value_of-zero, IsLiteral-Extends, leaf_count-Extends}
use Rattle.word_blast.specs.Bits.{or_of}
use Rattle.word_blast.specs.Words.{spelled}
use Rattle.word_blast.proofs.BitLaws.{or_gives}
use Rattle.plain_blast.specs.declared.bodies.Passed.{Passed}
use Rattle.plain_blast.specs.Plain.{any_of, hits_of}
use Rattle.plain_blast.specs.Exist.{PathsExist}
use Rattle.plain_blast.proofs.Existing.{paths_kept}
use Rattle.plain_blast.proofs.Literals.{or_assoc, or_false}
use Rattle.plain_blast.proofs.BodyLaws.{passed_on, passed_on_kept}

-- a literal of a grown graph that is worth b
pub record Worth (g h : Graph) (leaves : List Bool) (r : ℕ) (b : Bool) : Type 0 where
  pub extends : Extends g h
  pub well_formed : IsWellFormed h
  pub literal : IsLiteral h r
  pub value : value_of h leaves r ≡ b

and_true : (b : Bool) → b ≡ (b && true)
and_true true = refl
and_true false = refl

or_nothing : (a b : Bool) → a ≡ (a || (b && false))
or_nothing true b = refl
or_nothing false true = refl
or_nothing false false = refl

among_cond : (on : Bool) (site x : ℕ) (rest : List ℕ) → ((on && (site == x)) || among rest x) ≡ among (cond on (site ∷ []) [] ++ rest) x
among_cond true site x rest = refl
among_cond false site x rest = refl

-- one path more
one_gives : (g : Graph) (x y : ℕ) (leaves : List Bool) (k : Bool) → IsWellFormed g → IsLiteral g x → IsLiteral g y → length leaves ≡ leaf_count g →
    Worth g (cond k (or_of g x y) (g, x)).0 leaves (cond k (or_of g x y) (g, x)).1 (value_of g leaves x || (value_of g leaves y && k))
one_gives g x y leaves true well lx ly len =
    let o = or_gives g x y well lx ly in
    record { extends = o.extends; well_formed = o.well_formed; literal = o.literal; value = o.value leaves len ∙ ap (λ b. value_of g leaves x || b) (and_true (value_of g leaves y)) }
one_gives g x y leaves false well lx ly len =
    record { extends = Extends-refl g; well_formed = well; literal = lx; value = or_nothing (value_of g leaves x) (value_of g leaves y) }

pub any_gives : (g : Graph) (x : ℕ) (paths : List Passed) (site : ℕ) (leaves : List Bool) → IsWellFormed g → IsLiteral g x → PathsExist g paths → length leaves ≡ leaf_count g →
    Worth g (any_of g x paths site).0 leaves (any_of g x paths site).1 (value_of g leaves x || among (passed_on g leaves paths) site)
any_gives g x [] site leaves well lx lps len = record { extends = Extends-refl g; well_formed = well; literal = lx; value = or_false (value_of g leaves x) }
any_gives g x (p ∷ ps) site leaves well lx lps len =
    let q : Graph × ℕ = cond (p.site == site) (or_of g x p.path) (g, x) in
    let lp : IsLiteral g p.path = All-head (λ (r : Passed). IsLiteral g r.path) p ps lps in
    let lps' : PathsExist g ps = All-tail (λ (r : Passed). IsLiteral g r.path) p ps lps in
    let one : Worth g q.0 leaves q.1 (value_of g leaves x || (value_of g leaves p.path && (p.site == site))) = one_gives g x p.path leaves (p.site == site) well lx lp len in
    let rest = any_gives q.0 q.1 ps site leaves one.well_formed one.literal (paths_kept g q.0 ps one.extends lps') (len ∙ sym (leaf_count-Extends g q.0 one.extends)) in
    record {
      extends = Extends-trans g q.0 _ one.extends rest.extends;
      well_formed = rest.well_formed;
      literal = rest.literal;
      value = rest.value
          ∙ (λ j. one.value j || among (passed_on_kept g q.0 leaves ps one.extends len lps' j) site)
          ∙ or_assoc (value_of g leaves x) (value_of g leaves p.path && (p.site == site)) (among (passed_on g leaves ps) site)
          ∙ ap (λ b. value_of g leaves x || b) (among_cond (value_of g leaves p.path) p.site site (passed_on g leaves ps));
    }

pub record Hits (g h : Graph) (leaves : List Bool) (rs : List ℕ) (bs : List Bool) : Type 0 where
  pub extends : Extends g h
  pub well_formed : IsWellFormed h
  pub exist : All (IsLiteral h) rs
  pub value : spelled h leaves rs ≡ bs

pub hits_give : (g : Graph) (paths : List Passed) (sites : List ℕ) (leaves : List Bool) → IsWellFormed g → PathsExist g paths → length leaves ≡ leaf_count g →
    Hits g (hits_of g paths sites).0 leaves (hits_of g paths sites).1 (map (among (passed_on g leaves paths)) sites)
hits_give g paths [] leaves well lps len = record { extends = Extends-refl g; well_formed = well; exist = All-nil (IsLiteral g); value = refl }
hits_give g paths (site ∷ sites) leaves well lps len =
    let x : Graph × ℕ = any_of g 0 paths site in
    let one : Worth g x.0 leaves x.1 (value_of g leaves 0 || among (passed_on g leaves paths) site) = any_gives g 0 paths site leaves well (omega arith) lps len in
    let r : Graph × List ℕ = hits_of x.0 paths sites in
    let len' = len ∙ sym (leaf_count-Extends g x.0 one.extends) in
    let rest : Hits x.0 r.0 leaves r.1 (map (among (passed_on x.0 leaves paths)) sites) = hits_give x.0 paths sites leaves one.well_formed (paths_kept g x.0 paths one.extends lps) len' in
    record {
      extends = Extends-trans g x.0 r.0 one.extends rest.extends;
      well_formed = rest.well_formed;
      exist = All-cons (IsLiteral r.0) x.1 r.1 (IsLiteral-Extends x.0 r.0 x.1 rest.extends one.literal) rest.exist;
      value = λ j. (value_of-Extends x.0 r.0 leaves x.1 rest.extends len' one.literal ∙ one.value ∙ ap (λ b. b || among (passed_on g leaves paths) site) (value_of-zero g leaves)) j
          ∷ (rest.value ∙ ap (λ ps. map (among ps) sites) (passed_on_kept g x.0 leaves paths one.extends len lps)) j;
    }
