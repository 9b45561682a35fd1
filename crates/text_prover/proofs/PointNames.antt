-- The names of the points of a text's design are lines of certificates.
use Rattle.std.proofs.Common.{◌≡◌, ℕ, zero, suc, ◌+◌, ◌<◌, ◌≤◌, ◌^◌, Bool, true, false, cond, List, [], ◌∷◌, ◌++◌, length, refl, sym, ap, ◌∙◌, subst, arith, codes, decimal, append_assoc, length-append}
use Rattle.std.specs.Prelude.{All}
use Rattle.std.specs.List.{join_with_byte}
use Rattle.std.proofs.lemmas.List.{append-nil}
use Rattle.std.proofs.lemmas.List.Elements.{All-nil, All-cons, All-append}
use Rattle.line_text.specs.Lines.{Line, words, IsWord, IsLine}
use Rattle.line_text.proofs.Cutting.{words_join}
use Rattle.line_text.proofs.Words.{word_from}
use Rattle.line_text.proofs.Numerals.{number_word}
use Rattle.design_core.specs.declared.flat.Design.{Design}
use Rattle.design_core.specs.declared.flat.Site.{Site}
use Rattle.design_core.specs.declared.flat.SiteKind.{SiteKind}
use Rattle.design_core.specs.declared.flat.SiteKind.TheVariants.{Assignment, Arm}
use Rattle.design_core.specs.declared.flat.ArmKind.TheVariants.{Then, Else}
use Rattle.design_core.specs.declared.setup.Setup.{Setup}
use Rattle.vlog_syntax.specs.declared.module.Tree.{Tree}
use Rattle.elab_flat.specs.Bodies.{sites_from, arms_from}
use Rattle.elab_flat.specs.Designs.{IsDesignOf}
use Rattle.elab_flat.proofs.SiteCounts.{has_sites}
use Rattle.cert_text.specs.Points.{IsName, IsPoint}
use Rattle.cert_text.specs.Points.IsPoint.{statement, then_arm, else_arm}
use Rattle.cert_text.proofs.Names.{name_word}
use Rattle.cover_points.specs.declared.listing.PointKind.TheVariants.{Statement, Branch}
use Rattle.cover_points.specs.declared.point.Point.{Point}
use Rattle.cover_points.specs.Points.{name_of, point_of, points_from, points_of}

-- ---- the name of a site's point

hash_word : (n : ℕ) → n < 10 ^ 64 → IsWord (35 ∷ decimal n)
hash_word n lt = let w = number_word n lt in ((refl, w.0), (refl, w.1))

-- what the words of a line spell is a point's name, where these words name a point
spelled : (line : Line) (text : List ℕ) → IsLine line → join_with_byte 32 line ≡ text → IsPoint line → IsPoint (words text)
spelled line text is joined point = subst IsPoint (sym (ap words (sym joined) ∙ words_join line is)) point

module _ (scope : List ℕ) (n : ℕ) (named : IsName scope) (small : n < 2 ^ 63) where
  abbrev ordinal : List ℕ
  ordinal = codes "#" ++ decimal n

  abbrev site : SiteKind → Site
  site kind = record { scope = scope; kind = kind; ordinal = n }

  ordinal_word : IsWord ordinal
  ordinal_word = hash_word n (omega (arith, small))

  statement_named : IsPoint (words (name_of (site Assignment)))
  statement_named =
      let line : Line = codes "S" ∷ scope ∷ ordinal ∷ [] in
      spelled line (name_of (site Assignment)) (omega arith, (word_from (codes "S") refl, (name_word scope named, (ordinal_word, tt))))
      (sym (append-nil (((83 ∷ 32 ∷ scope) ++ (32 ∷ 35 ∷ [])) ++ decimal n) ∙ append_assoc (83 ∷ 32 ∷ scope) (32 ∷ 35 ∷ []) (decimal n)))
      (statement scope ordinal named (n, small, refl))

  -- a branch's arm that one word names
  arm_named : (word : List ℕ) → IsWord word → IsPoint (codes "B" ∷ scope ∷ ordinal ∷ word ∷ []) → IsPoint (words (codes "B" ++ codes " " ++ scope ++ codes " #" ++ decimal n ++ (codes " " ++ word)))
  arm_named word is point =
      let line : Line = codes "B" ∷ scope ∷ ordinal ∷ word ∷ [] in
      spelled line (codes "B" ++ codes " " ++ scope ++ codes " #" ++ decimal n ++ (codes " " ++ word)) (omega arith, (word_from (codes "B") refl, (name_word scope named, (ordinal_word, (is, tt)))))
      (sym (append_assoc ((66 ∷ 32 ∷ scope) ++ (32 ∷ 35 ∷ [])) (decimal n) (32 ∷ word) ∙ append_assoc (66 ∷ 32 ∷ scope) (32 ∷ 35 ∷ []) (decimal n ++ (32 ∷ word))))
      point

  site_named : (kind : SiteKind) → IsPoint (words (name_of (site kind)))
  site_named Assignment = statement_named
  site_named (Arm Then) = arm_named (codes "then") (word_from (codes "then") refl) (then_arm scope ordinal named (n, small, refl))
  site_named (Arm Else) = arm_named (codes "else") (word_from (codes "else") refl) (else_arm scope ordinal named (n, small, refl))

-- ---- the points of sites

abbrev Named : Point → Type 0
Named p = IsPoint (words p.name)

module _ (path : List ℕ) where
  no_statements : (number ordinal n : ℕ) → points_from Statement number (arms_from path ordinal n) ≡ []
  no_statements number ordinal zero = refl
  no_statements number ordinal (suc n) = no_statements (number + 1 + 1) (ordinal + 1) n

  arms_long : (number ordinal n : ℕ) → length (points_from Branch number (arms_from path ordinal n)) ≡ n + n
  arms_long number ordinal zero = omega arith
  arms_long number ordinal (suc n) = omega (arith, arms_long (number + 1 + 1) (ordinal + 1) n)

  -- the arms behind so many assignments
  branches_long : (number ordinal n branches : ℕ) → length (points_from Branch number (sites_from path ordinal n ++ arms_from path 1 branches)) ≡ branches + branches
  branches_long number ordinal zero branches = arms_long number 1 branches
  branches_long number ordinal (suc n) branches = branches_long (number + 1) (ordinal + 1) n branches

  module _ (named : IsName path) where
    abbrev site_at : ℕ → SiteKind → Site
    site_at ordinal kind = record { scope = path; kind = kind; ordinal = ordinal }

    statements_named : (number ordinal n branches : ℕ) → ordinal + n < 2 ^ 63 → All Named (points_from Statement number (sites_from path ordinal n ++ arms_from path 1 branches))
    statements_named number ordinal zero branches small = subst (All Named) (sym (no_statements number 1 branches)) (All-nil Named)
    statements_named number ordinal (suc n) branches small =
        All-cons Named (point_of number (site_at ordinal Assignment)) (points_from Statement (number + 1) (sites_from path (ordinal + 1) n ++ arms_from path 1 branches))
        (site_named path ordinal named (omega (arith, small)) Assignment)
        (statements_named (number + 1) (ordinal + 1) n branches (omega (arith, small)))

    arms_named : (number ordinal n : ℕ) → ordinal + n < 2 ^ 63 → All Named (points_from Branch number (arms_from path ordinal n))
    arms_named number ordinal zero small = All-nil Named
    arms_named number ordinal (suc n) small =
        let small' : ordinal < 2 ^ 63 = omega (arith, small) in
        let rest = points_from Branch (number + 1 + 1) (arms_from path (ordinal + 1) n) in
        All-cons Named (point_of number (site_at ordinal (Arm Then))) (point_of (number + 1) (site_at ordinal (Arm Else)) ∷ rest) (site_named path ordinal named small' (Arm Then))
        (All-cons Named (point_of (number + 1) (site_at ordinal (Arm Else))) rest (site_named path ordinal named small' (Arm Else))
        (arms_named (number + 1 + 1) (ordinal + 1) n (omega (arith, small))))

    branches_named : (number ordinal n branches : ℕ) → 1 + branches < 2 ^ 63 → All Named (points_from Branch number (sites_from path ordinal n ++ arms_from path 1 branches))
    branches_named number ordinal zero branches small = arms_named number 1 branches small
    branches_named number ordinal (suc n) branches small = branches_named (number + 1) (ordinal + 1) n branches small

-- ---- the points of a design

-- those of the kinds that are named, where there are few
chosen_named : (statements branches : List Point) (s b : Bool) → All Named statements → (length branches ≤ 200000 → All Named branches) →
    length (cond s statements [] ++ cond b branches []) ≤ 200000 → All Named (cond s statements [] ++ cond b branches [])
chosen_named statements branches s b all_statements all_branches few =
    All-append Named (cond s statements []) (cond b branches []) (first s) (second b (omega (arith, few, length-append (cond s statements []) (cond b branches []))))
  where
    first : (s : Bool) → All Named (cond s statements [])
    first true = all_statements
    first false = All-nil Named

    second : (b : Bool) → length (cond b branches []) ≤ 200000 → All Named (cond b branches [])
    second true few = all_branches few
    second false few = All-nil Named

module _ (tree : Tree) (setup : Setup) (d : Design) (is : IsDesignOf tree setup d) where
  abbrev listed : List Site → List Point
  listed sites = cond setup.kinds.s (points_from Statement 0 sites) [] ++ cond setup.kinds.b (points_from Branch 0 sites) []

  -- their names are lines that name points
  pub all_named : length (points_of d setup) ≤ 200000 → IsName is.0.name.name → All Named (points_of d setup)
  all_named few named =
      let path = is.0.name.name in
      let sites = has_sites tree setup d is in
      let all = sites_from path 1 sites.statements ++ arms_from path 1 sites.branches in
      let P : List Site → Type 0 = λ ss. length (listed ss) ≤ 200000 → All Named (listed ss) in
      subst P (sym sites.are)
      (chosen_named (points_from Statement 0 all) (points_from Branch 0 all) setup.kinds.s setup.kinds.b
      (statements_named path named 0 1 sites.statements sites.branches (omega (arith, sites.few)))
      (λ short. branches_named path named 0 1 sites.statements sites.branches (omega (arith, short, branches_long path 0 1 sites.statements sites.branches))))
      few
