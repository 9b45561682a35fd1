-- The paths of a site, one after another.
use Rattle.std.proofs.Common.{◌≡◌, ℕ, suc, ◌+◌, ◌<◌, ◌≤◌, cond, ◌==◌, List, [], ◌∷◌, length, drop, take, max, All, get_or, set, replicate, Some, refl, sym, ap, ◌∙◌, subst, inl, inr, arith}
use Rattle.std.specs.Prelude.{slice_get}
use Rattle.std.proofs.lemmas.List.{at_drop_more, drop_all, drop-drop, get_or-drop, length-drop, get_or-replicate, get_or_past, length-replicate, get_or-set_same, get_or-set_other, length-set, take_more, take_all}
use Rattle.std.proofs.lemmas.List.Elements.{All-append, All-cons, All-nil, All-weaker}
use Rattle.std.proofs.lemmas.Bool.{cases_eq, cases_lt, eq-eqb, ne_eqb}
use Rattle.std.proofs.lemmas.Option.{slice_get_within, get_or_from_slice_get}
use Rattle.aig_core.specs.Graph.{Graph}
use Rattle.word_blast.specs.Bits.{or_of}
use Rattle.plain_blast.specs.declared.bodies.Passed.{Passed}
use Rattle.plain_blast.specs.Plain.{any_of}
use Rattle.plain_blast.specs.Chains.{place_of, place_from, IsChain}

-- a path at the front
place-here : (site : ℕ) (p : Passed) (ps : List Passed) → p.site ≡ site → place_of site (p ∷ ps) ≡ 0
place-here site p ps e = ap (λ b. cond b 0 (suc (place_of site ps))) (eq-eqb p.site site e)

place-there : (site : ℕ) (p : Passed) (ps : List Passed) → (p.site ≡ site → ⊥) → place_of site (p ∷ ps) ≡ suc (place_of site ps)
place-there site p ps ne = ap (λ b. cond b 0 (suc (place_of site ps))) (ne_eqb p.site site ne)

-- paths of other sites are passed over
any_skip : (g : Graph) (x site : ℕ) (ps : List Passed) → any_of g x ps site ≡ any_of g x (drop (place_of site ps) ps) site
any_skip g x site [] = refl
any_skip g x site (p ∷ ps) = elim (cases_eq p.site site) [
  | inl e ↦ ap (λ n. any_of g x (drop n (p ∷ ps)) site) (sym (place-here site p ps e))
  | inr ne ↦ ap (λ b. any_of (cond b (or_of g x p.path) (g, x)).0 (cond b (or_of g x p.path) (g, x)).1 ps site) (ne_eqb p.site site ne) ∙ any_skip g x site ps
      ∙ ap (λ n. any_of g x (drop n (p ∷ ps)) site) (sym (place-there site p ps ne))
]

-- the path at the place is one of the site
place_is : (site : ℕ) (ps : List Passed) (d : Passed) → place_of site ps < length ps → (get_or ps (place_of site ps) d).site ≡ site
place_is site [] d lt = absurd (omega arith)
place_is site (p ∷ ps) d lt = elim (cases_eq p.site site) [
  | inl e ↦ ap (λ n. (get_or (p ∷ ps) n d).site) (place-here site p ps e) ∙ e
  | inr ne ↦ ap (λ n. (get_or (p ∷ ps) n d).site) (place-there site p ps ne) ∙ place_is site ps d (omega (arith, place-there site p ps ne))
]

pub skip : (g : Graph) (x site k : ℕ) (ps : List Passed) → any_of g x (drop k ps) site ≡ any_of g x (drop (place_from site ps k) ps) site
skip g x site k ps = any_skip g x site (drop k ps) ∙ ap (λ r. any_of g x r site) (drop-drop (place_of site (drop k ps)) k ps)

-- ---- along a chain

pub at_site : (site k at : ℕ) (ps : List Passed) (d : Passed) → at ≡ place_from site ps k → at < length ps → (get_or ps at d).site ≡ site
at_site site k at ps d e lt =
    let n : ℕ = place_of site (drop k ps) in
    let lt' : n < length (drop k ps) = omega (arith, length-drop k ps, e, lt) in
    ap (λ i. (get_or ps i d).site) e ∙ ap (λ (p : Passed). p.site) (sym (get_or-drop k ps n d)) ∙ place_is site (drop k ps) d lt'

-- the path at the place, and then the next of its site
pub chain_step : (g : Graph) (x site at later : ℕ) (ps : List Passed) (p : Passed) → at < length ps → p ≡ get_or ps at p → p.site ≡ site → later ≡ place_from p.site ps (at + 1) →
    any_of g x (drop at ps) site ≡ any_of (or_of g x p.path).0 (or_of g x p.path).1 (drop later ps) site
chain_step g x site at later ps p lt is same next =
    at_drop_more (λ r. any_of g x r site) ps at p lt
    ∙ ap (λ (q : Passed). any_of g x (q ∷ drop (at + 1) ps) site) (sym is)
    ∙ ap (λ b. any_of (cond b (or_of g x p.path) (g, x)).0 (cond b (or_of g x p.path) (g, x)).1 (drop (at + 1) ps) site) (eq-eqb p.site site same)
    ∙ skip (or_of g x p.path).0 (or_of g x p.path).1 site (at + 1) ps
    ∙ ap (λ n. any_of (or_of g x p.path).0 (or_of g x p.path).1 (drop n ps) site) (sym (next ∙ ap (λ s. place_from s ps (at + 1)) same))

-- ---- how chains are made, from the last path on

-- one path more
place_step : (site k : ℕ) (ps : List Passed) (p : Passed) → k < length ps → p ≡ get_or ps k p → place_from site ps k ≡ k + cond (p.site == site) 0 (suc (place_of site (drop (k + 1) ps)))
place_step site k ps p lt is = ap (λ n. k + n) (at_drop_more (λ r. place_of site r) ps k p lt ∙ ap (λ (q : Passed). place_of site (q ∷ drop (k + 1) ps)) (sym is))

-- what is made of the paths from place m on
pub record Linked (ps : List Passed) (first next : List ℕ) (m : ℕ) : Type 0 where
  pub within : All (λ (p : Passed). p.site < length first) ps
  pub first_is : (site : ℕ) → get_or first site (length ps) ≡ place_from site ps m
  pub next_is : IsChain ps next m

nowhere : (n i m : ℕ) → get_or (replicate n m) i m ≡ m
nowhere n i m = elim (cases_lt i n) [
  | inl lt ↦ get_or-replicate n i m m lt
  | inr ge ↦ get_or_past (replicate n m) i m (omega (arith, length-replicate n m))
]

pub linked_none : (ps : List Passed) (first next : List ℕ) (n m : ℕ) → All (λ (p : Passed). p.site < n) ps → first ≡ replicate n (length ps) → next ≡ replicate (length ps) (length ps) → m ≡ length ps → Linked ps first next m
linked_none ps first next n m within first_is next_is end =
    rw (first_is, next_is, end) record {
      within = rw length-replicate within;
      first_is = λ site. nowhere n site (length ps) ∙ sym (past site);
      next_is = record { long = length-replicate (length ps) (length ps); each = λ k p le at. let lt = slice_get_within ps k p at in absurd (omega (arith, le, lt)) };
    }
  where
    past : (site : ℕ) → place_from site ps (length ps) ≡ length ps
    past site = ap (λ r. length ps + place_of site r) (drop_all (length ps) ps (omega arith)) ∙ (omega arith)

module _ (ps : List Passed) (first next : List ℕ) (m k : ℕ) (p : Passed) (l : Linked ps first next m) (one : m ≡ k + 1) (lt : k < length ps) (is : p ≡ get_or ps k p) where
  low : p.site < length first
  low = subst (λ (q : Passed). q.site < length first) (sym is) (l.within k p lt)

  after : (site : ℕ) → get_or first site (length ps) ≡ (k + 1) + place_of site (drop (k + 1) ps)
  after site = l.first_is site ∙ ap (place_from site ps) one

  first_at : (site : ℕ) → get_or (set first p.site k) site (length ps) ≡ place_from site ps k
  first_at site = elim (cases_eq p.site site) [
    | inl e ↦ subst (λ s. get_or (set first p.site k) s (length ps) ≡ place_from s ps k) e
        (get_or-set_same first p.site k (length ps) low ∙ sym (place_step p.site k ps p lt is ∙ ap (λ b. k + cond b 0 (suc (place_of p.site (drop (k + 1) ps)))) (eq-eqb p.site p.site refl) ∙ (omega arith)))
    | inr ne ↦ get_or-set_other first p.site site k (length ps) (λ e. ne (sym e)) ∙ after site ∙ later (place_of site (drop (k + 1) ps))
        ∙ sym (place_step site k ps p lt is ∙ ap (λ b. k + cond b 0 (suc (place_of site (drop (k + 1) ps)))) (ne_eqb p.site site ne))
  ]
    where
      later : (n : ℕ) → (k + 1) + n ≡ k + suc n
      later n = omega arith

  next_at : (x : ℕ) → x ≡ get_or first p.site (length ps) → (j : ℕ) (q : Passed) → k ≤ j → slice_get ps j ≡ Some q → get_or (set next k x) j 0 ≡ place_from q.site ps (j + 1)
  next_at x made j q le at = elim (cases_eq k j) [
    | inl e ↦
        let at_k : slice_get ps k ≡ Some q = ap (slice_get ps) e ∙ at in
        let same : p ≡ q = is ∙ get_or_from_slice_get ps k q p at_k in
        subst (λ i. get_or (set next k x) i 0 ≡ place_from q.site ps (i + 1)) e
        (get_or-set_same next k x 0 (omega (arith, l.next_is.long)) ∙ made ∙ l.first_is p.site ∙ (λ i. place_from (ap (λ (r : Passed). r.site) same i) ps (one i)))
    | inr ne ↦ get_or-set_other next k j x 0 (λ e. ne (sym e)) ∙ l.next_is.each j q (omega (arith, one, le, ne)) at
  ]

  pub linked_more : (x : ℕ) → x ≡ get_or first p.site (length ps) → Linked ps (set first p.site k) (set next k x) k
  linked_more x made = record {
    within = rw length-set l.within;
    first_is = first_at;
    next_is = record { long = length-set next k x ∙ l.next_is.long; each = next_at x made };
  }

-- ---- a number above each site

pub bound_more : (ps : List Passed) (i b b' : ℕ) (d : Passed) → i < length ps → All (λ (p : Passed). p.site < b) (take i ps) → b' ≡ max b ((get_or ps i d).site + 1) → All (λ (p : Passed). p.site < b') (take (i + 1) ps)
bound_more ps i b b' d lt all is =
    subst (All (λ (p : Passed). p.site < b')) (sym (take_more ps i d lt))
    (All-append (λ (p : Passed). p.site < b') (take i ps) (get_or ps i d ∷ []) (All-weaker (λ (p : Passed). p.site < b) (λ (p : Passed). p.site < b') (λ p h. omega (arith, h, is)) (take i ps) all)
    (All-cons (λ (p : Passed). p.site < b') (get_or ps i d) [] (omega (arith, is)) (All-nil (λ (p : Passed). p.site < b'))))

pub bound_all : (ps : List Passed) (i b : ℕ) → length ps ≤ i → All (λ (p : Passed). p.site < b) (take i ps) → All (λ (p : Passed). p.site < b) ps
bound_all ps i b done all = subst (All (λ (p : Passed). p.site < b)) (take_all i ps done) all
