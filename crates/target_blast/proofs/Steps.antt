-- What loops over parts, places and bits have done so far.
use Rattle.std.proofs.Common.{◌≡◌, ℕ, ◌+◌, ◌-◌, ◌<◌, ◌≤◌, Bool, List, [], ◌∷◌, ◌++◌, append_assoc, length, map, take, drop, get_or, set, sym, ap, ◌∙◌, subst, add-one, arith}
use Rattle.std.specs.List.{All}
use Rattle.std.proofs.lemmas.List.{append-nil, at_drop_more, at_drop_all, length-map, get_or-map, map-append, map_more}
use Rattle.std.proofs.lemmas.List.Elements.{All-weaker, All-push, All-head, All-tail, All-set}
use Rattle.bit_exprs.specs.declared.forms.Expr.{Expr}
use Rattle.bit_exprs.specs.declared.forms.Part.{Part}
use Rattle.bit_exprs.specs.declared.forms.Part.TheVariants.{Select}
use Rattle.bit_exprs.specs.declared.forms.Window.{Window}
use Rattle.bit_exprs.specs.Updates.{part_width, parts_width}
use Rattle.bit_exprs.specs.Formed.{IsWidth, PartFormed}
use Rattle.bit_exprs.proofs.Widths.{width_some, width_most}
use Rattle.aig_core.specs.Graph.{Graph, IsLiteral, Extends}
use Rattle.aig_core.proofs.Values.{IsLiteral-Extends}
use Rattle.word_blast.proofs.Combinators.{All-literals-Extends}
use Rattle.expr_blast.specs.Circuits.{place_of}
use Rattle.target_blast.specs.Writes.{index_of, index_width, indices_of, replaced, put_chosen, put_where, put_selected, put_part, written_of}

-- ---- literals in a graph that grows

pub words_kept : (g h : Graph) (ws : List (List ℕ)) → Extends g h → All (All (IsLiteral g)) ws → All (All (IsLiteral h)) ws
words_kept g h ws e = All-weaker (All (IsLiteral g)) (All (IsLiteral h)) (λ xs l. All-literals-Extends g h xs e l) ws

pub ruleset growing = (IsLiteral-Extends, All-literals-Extends, words_kept)

-- ---- indices

joined : {X : Type 0} (out out' rest rest' all : List X) (s : X) → out' ≡ out ++ s ∷ [] → rest ≡ s ∷ rest' → out ++ rest ≡ all → out' ++ rest' ≡ all
joined out out' rest rest' all s e r h = ap (λ l. l ++ rest') e ∙ append_assoc out (s ∷ []) rest' ∙ sym (ap (λ l. out ++ l) r) ∙ h

module _ (read : List ℕ) (ps : List Part) (g0 : Graph) where
  -- the graph and the words are those of the first i parts
  pub record Made (i : ℕ) (g : Graph) (so_far : List (List ℕ)) : Type 0 where
    pub graph : (indices_of (drop i ps) g read).0 ≡ (indices_of ps g0 read).0
    pub words : so_far ++ (indices_of (drop i ps) g read).1 ≡ (indices_of ps g0 read).1

  more : (i : ℕ) (p : Part) (g h : Graph) (w : List ℕ) → i < length ps → p ≡ get_or ps i p → (h, w) ≡ index_of p g read →
      indices_of (drop i ps) g read ≡ ((indices_of (drop (i + 1) ps) h read).0, w ∷ (indices_of (drop (i + 1) ps) h read).1)
  unfolding indices_of
  more i p g h w lt at e =
      at_drop_more (λ qs. indices_of qs g read) ps i p lt
      ∙ ap (λ q. let x = index_of q g read in let rest = indices_of (drop (i + 1) ps) x.0 read in (rest.0, x.1 ∷ rest.1)) (sym at)
      ∙ ap (λ (x : Graph × List ℕ). let rest = indices_of (drop (i + 1) ps) x.0 read in (rest.0, x.1 ∷ rest.1)) (sym e)

  pub made_more : (i : ℕ) (p : Part) (g h : Graph) (w : List ℕ) (words words' : List (List ℕ)) → i < length ps → p ≡ get_or ps i p → (h, w) ≡ index_of p g read →
      words' ≡ words ++ w ∷ [] → Made i g words → Made (i + 1) h words'
  made_more i p g h w words words' lt at e pushed m =
      let step = more i p g h w lt at e in
      record {
        graph = sym (ap (λ (x : Graph × List (List ℕ)). x.0) step) ∙ m.graph;
        words = joined words words' _ _ _ w pushed (ap (λ (x : Graph × List (List ℕ)). x.1) step) m.words;
      }

  pub made_all : (i : ℕ) (g : Graph) (words : List (List ℕ)) → length ps ≤ i → Made i g words → (g, words) ≡ indices_of ps g0 read
  unfolding indices_of
  made_all i g words done m =
      let none : indices_of (drop i ps) g read ≡ (g, []) = at_drop_all (λ qs. indices_of qs g read) ps i done in
      let graph = sym (ap (λ (x : Graph × List (List ℕ)). x.0) none) ∙ m.graph in
      let all = sym (append-nil words) ∙ sym (ap (λ (x : Graph × List (List ℕ)). words ++ x.1) none) ∙ m.words in
      λ j. (graph j, all j)

-- one word more has the width that its part wants
pub widths_more : (ps : List Part) (i : ℕ) (p : Part) (w : List ℕ) (words words' : List (List ℕ)) → i < length ps → p ≡ get_or ps i p → length w ≡ index_width p → words' ≡ words ++ w ∷ [] →
    map length words ≡ map index_width (take i ps) → map length words' ≡ map index_width (take (i + 1) ps)
widths_more ps i p w words words' lt at wide pushed so_far =
    ap (map length) pushed ∙ map-append length words (w ∷ []) ∙ (λ j. so_far j ++ (wide ∙ ap index_width at) j ∷ []) ∙ sym (map_more index_width ps i p lt)

pub words_more : (g h : Graph) (w : List ℕ) (words words' : List (List ℕ)) → Extends g h → All (IsLiteral h) w → words' ≡ words ++ w ∷ [] → All (All (IsLiteral g)) words → All (All (IsLiteral h)) words'
words_more g h w words words' e lw pushed so_far = subst (All (All (IsLiteral h))) (sym pushed) (All-push (All (IsLiteral h)) words w (words_kept g h words e so_far) lw)

-- the index of the i-th part has the width that it wants
pub index_long : (ps : List Part) (ws : List (List ℕ)) (i : ℕ) (p : Part) (w : List ℕ) → map length ws ≡ map index_width ps → i < length ps → p ≡ get_or ps i p → w ≡ get_or ws i w → length w ≡ index_width p
index_long ps ws i p w e lt ep ew =
    let long : length ws ≡ length ps = sym (length-map ws length) ∙ ap length e ∙ length-map ps index_width in
    ap length ew ∙ sym (get_or-map length ws i w 0 (omega (arith, long))) ∙ ap (λ ns. get_or ns i 0) e ∙ get_or-map index_width ps i p 0 lt ∙ ap index_width (sym ep)

pub as_many : (ps : List Part) (ws : List (List ℕ)) → map length ws ≡ map index_width ps → length ws ≡ length ps
as_many ps ws e = sym (length-map ws length) ∙ ap length e ∙ length-map ps index_width

-- ---- widths

pub parts_width-drop : (ps : List Part) (i : ℕ) (p : Part) → i < length ps → p ≡ get_or ps i p → parts_width (drop i ps) ≡ part_width p + parts_width (drop (i + 1) ps)
parts_width-drop ps i p lt at = at_drop_more parts_width ps i p lt ∙ ap (λ q. part_width q + parts_width (drop (i + 1) ps)) (sym at)

pub parts_width-end : (ps : List Part) (i : ℕ) → length ps ≤ i → parts_width (drop i ps) ≡ 0
parts_width-end ps i done = at_drop_all parts_width ps i done

-- ---- places

module _ (window : Window) (signed : Bool) (at : List ℕ) where
  pub place_more : (vector : List ℕ) (k x p : ℕ) (f g h : Graph) (c : ℕ) (targets chosen : List ℕ) (total : Graph × List ℕ) → p < length vector → (f, c) ≡ place_of window signed at k p g →
      (h, chosen) ≡ put_chosen c x (get_or vector p 0) f targets →
      put_where window signed at k x p (drop p vector) g targets ≡ total → put_where window signed at k x (p + 1) (drop (p + 1) vector) h chosen ≡ total
  unfolding put_where
  place_more vector k x p f g h c targets chosen total lt here put so_far =
      ap (λ (r : Graph × List ℕ). put_where window signed at k x (p + 1) (drop (p + 1) vector) r.0 r.1) (put ∙ ap (λ (z : Graph × ℕ). put_chosen z.1 x (get_or vector p 0) z.0 targets) here)
      ∙ ap (λ n. let z = place_of window signed at k p g in let r = put_chosen z.1 x (get_or vector p 0) z.0 targets in put_where window signed at k x n (drop (p + 1) vector) r.0 r.1) (add-one p)
      ∙ sym (at_drop_more (λ bs. put_where window signed at k x p bs g targets) vector p 0 lt) ∙ so_far

  pub place_done : (vector : List ℕ) (k x p : ℕ) (g : Graph) (targets : List ℕ) (total : Graph × List ℕ) → length vector ≤ p → put_where window signed at k x p (drop p vector) g targets ≡ total → (g, targets) ≡ total
  unfolding put_where
  place_done vector k x p g targets total done so_far = sym (at_drop_all (λ bs. put_where window signed at k x p bs g targets) vector p done) ∙ so_far

  pub bit_more : (vector word : List ℕ) (k : ℕ) (g h : Graph) (targets chosen : List ℕ) (total : Graph × List ℕ) → k < length word →
      (h, chosen) ≡ put_where window signed at k (get_or word k 0) 0 vector g targets →
      put_selected window signed at vector k (drop k word) g targets ≡ total → put_selected window signed at vector (k + 1) (drop (k + 1) word) h chosen ≡ total
  unfolding put_selected
  bit_more vector word k g h targets chosen total lt put so_far =
      ap (λ (r : Graph × List ℕ). put_selected window signed at vector (k + 1) (drop (k + 1) word) r.0 r.1) put
      ∙ ap (λ n. let r = put_where window signed at k (get_or word k 0) 0 vector g targets in put_selected window signed at vector n (drop (k + 1) word) r.0 r.1) (add-one k)
      ∙ sym (at_drop_more (λ xs. put_selected window signed at vector k xs g targets) word k 0 lt) ∙ so_far

  pub bit_done : (vector word : List ℕ) (k : ℕ) (g : Graph) (targets : List ℕ) (total : Graph × List ℕ) → length word ≤ k → put_selected window signed at vector k (drop k word) g targets ≡ total → (g, targets) ≡ total
  unfolding put_selected
  bit_done vector word k g targets total done so_far = sym (at_drop_all (λ xs. put_selected window signed at vector k xs g targets) word k done) ∙ so_far

-- ---- bits and parts

pub replaced_exist : (g : Graph) (bits word targets : List ℕ) → All (IsLiteral g) word → All (IsLiteral g) targets → All (IsLiteral g) (replaced bits word targets)
replaced_exist g [] word targets lws lts = lts
replaced_exist g (b ∷ bits) [] targets lws lts = lts
replaced_exist g (b ∷ bits) (x ∷ word) targets lws lts =
    replaced_exist g bits word (set targets b x) (All-tail (IsLiteral g) x word lws) (All-set (IsLiteral g) targets b x (All-head (IsLiteral g) x word lws) lts)

pub select_wide : (part : Part) (vector : List ℕ) (window : Window) (e : Expr) (n w : ℕ) → part ≡ Select vector window e → PartFormed part n → w ≡ index_width part → IsWidth w
select_wide part vector window e n w is formed wide =
    let f : PartFormed (Select vector window e) n = subst (λ p. PartFormed p n) is formed in
    subst IsWidth (sym (wide ∙ ap index_width is)) (width_some e n f.2, width_most e n f.2)

module _ (ps : List Part) (ws : List (List ℕ)) (value : List ℕ) where
  pub part_more : (i : ℕ) (p : Part) (w taken : List ℕ) (g h : Graph) (targets chosen : List ℕ) (total : Graph × List ℕ) → i < length ps → i < length ws → p ≡ get_or ps i p → w ≡ get_or ws i w →
      taken ≡ take (part_width p) (drop (parts_width (drop (i + 1) ps)) value) → (h, chosen) ≡ put_part p w taken g targets →
      written_of (drop i ps) (drop i ws) value g targets ≡ total → written_of (drop (i + 1) ps) (drop (i + 1) ws) value h chosen ≡ total
  unfolding written_of
  part_more i p w taken g h targets chosen total lt lt' ep ew et put so_far =
      ap (λ (r : Graph × List ℕ). written_of (drop (i + 1) ps) (drop (i + 1) ws) value r.0 r.1) (put ∙ ap (λ xs. put_part p w xs g targets) et)
      ∙ (λ j. written_of (ep j ∷ drop (i + 1) ps) (ew j ∷ drop (i + 1) ws) value g targets)
      ∙ sym (at_drop_more (λ qs. written_of qs (drop i ws) value g targets) ps i p lt
      ∙ at_drop_more (λ vs. written_of (get_or ps i p ∷ drop (i + 1) ps) vs value g targets) ws i w lt') ∙ so_far

  pub taken_is : (low width v w : ℕ) → low ≡ v → width ≡ w → take (low + width - low) (drop low value) ≡ take w (drop v value)
  taken_is low width v w el ew = let n : low + width - low ≡ w = omega (arith, ew) in λ j. take (n j) (drop (el j) value)

  pub part_done : (i : ℕ) (g : Graph) (targets : List ℕ) (total : Graph × List ℕ) → length ps ≤ i → written_of (drop i ps) (drop i ws) value g targets ≡ total → (g, targets) ≡ total
  unfolding written_of
  part_done i g targets total done so_far = sym (at_drop_all (λ qs. written_of qs (drop i ws) value g targets) ps i done) ∙ so_far

pub ruleset widths = (parts_width-drop, parts_width-end)
