-- Tokens with the same texts: what the ones spell, the others spell but for what isn't read from a text.
use Rattle.std.proofs.Common.{◌≡◌, ℕ, zero, suc, ◌⊎◌, inl, inr, List, [], ◌∷◌, ◌++◌, Option, Some, None, map, refl, sym, ◌∙◌, ap}
use Rattle.std.specs.Prelude.{option_map}
use Rattle.std.proofs.lemmas.List.{map-append}
use Rattle.parsing.specs.Forms.{Language, Form, token, nothing, both, either, many, run, tailed, made, part, Rule, node, one_of, grown, within, next_in, Each, Spells, Makes, Within, Stands}

module _ (G : Language) (T : Type 0) (text : G.Token → T) (word : T → G.Word) (worded : (t : G.Token) → G.word t ≡ word (text t)) where
  -- ---- lists with the same texts

  abbrev Split : List G.Token → List G.Token → List G.Token → Type 0
  Split us vs ts' = (us' : List G.Token) × (vs' : List G.Token) × (ts' ≡ us' ++ vs') × (map text us' ≡ map text us) × (map text vs' ≡ map text vs)

  split : (us vs ts' : List G.Token) → map text ts' ≡ map text (us ++ vs) → Split us vs ts'
  split [] vs ts' e = ([], ts', refl, refl, e)
  split (u ∷ us) vs [] e = absurd cc
  split (u ∷ us) vs (t ∷ ts') e =
      let head : text t ≡ text u = cc in
      let tail : map text ts' ≡ map text (us ++ vs) = cc in
      let s = split us vs ts' tail in
      (t ∷ s.0, s.1, ap (λ (z : List G.Token). t ∷ z) s.2, ap (λ (z : List T). text t ∷ z) s.3 ∙ ap (λ z. z ∷ map text us) head, s.4)

  same_words : (t u : G.Token) → text t ≡ text u → G.word t ≡ G.word u
  same_words t u e = worded t ∙ ap word e ∙ sym (worded u)

  behind : (vs vs' r r' : List G.Token) → map text vs' ≡ map text vs → map text r' ≡ map text r → map text (vs' ++ r') ≡ map text (vs ++ r)
  behind vs vs' r r' e f = map-append text vs' r' ∙ ap (λ z. z ++ map text r') e ∙ ap (λ z. map text vs ++ z) f ∙ sym (map-append text vs r)

  none_left : (ts : List G.Token) → map text ts ≡ [] → ts ≡ []
  none_left [] e = refl
  none_left (t ∷ ts) e = absurd cc

  one_left : (ts : List G.Token) (x : G.Token) → map text ts ≡ text x ∷ [] → (t : G.Token) × (ts ≡ t ∷ []) × (text t ≡ text x)
  one_left [] x e = absurd cc
  one_left (t ∷ ts) x e =
      let head : text t ≡ text x = cc in
      let tail : map text ts ≡ [] = cc in
      (t, ap (λ (z : List G.Token). t ∷ z) (none_left ts tail), head)

  same_next : (ws : List G.Word) (r r' : List G.Token) → map text r' ≡ map text r → next_in G ws r' ≡ next_in G ws r
  same_next ws [] [] e = refl
  same_next ws [] (t ∷ r') e = absurd cc
  same_next ws (u ∷ r) [] e = absurd cc
  same_next ws (u ∷ r) (t ∷ r') e = let head : text t ≡ text u = cc in ap (within G ws) (same_words t u head)

  -- ---- forms

  module _ (N : (s : G.Sort) → ℕ → G.Part s → List G.Token → List G.Token → Type 0) where
    -- a value of which the same is kept, spelled by these tokens
    abbrev pub Other : {A E : Type 0} → (A → List G.Token → List G.Token → Type 0) → (A → E) → A → List G.Token → List G.Token → Type 0
    Other {A = A} Spelled keep x ts r = (y : A) × Spelled y ts r × (keep y ≡ keep x)

    -- Tokens with the same texts spell a value of which the same is kept.
    pub record Follows {A E : Type 0} (f : Form G A) (keep : A → E) : Type 0 where
      pub other : (l : ℕ) (x : A) (ts r ts' r' : List G.Token) → Spells G N f l x ts r → map text ts' ≡ map text ts → map text r' ≡ map text r → Other (Spells G N f l) keep x ts' r'

    pub token_follows : {w : G.Word} {ws : List G.Word} → Follows (token w ws) text
    token_follows {w = w} {ws = ws} = record {
      other = λ l x ts r ts' r' d e f.
          let o = one_left ts' x (e ∙ ap (map text) d.1) in
          (o.0, (ap (within G (w ∷ ws)) (same_words o.0 x o.2) ∙ d.0, o.1), o.2);
    }

    pub nothing_follows : Follows nothing (λ x. x)
    nothing_follows = record { other = λ l x ts r ts' r' d e f. (x, none_left ts' (e ∙ ap (map text) d), refl) }

    pub both_follows : {A B E F : Type 0} {a : Form G A} {b : Form G B} {p : A → E} {q : B → F} → Follows a p → Follows b q → Follows {A = A × B} {E = E × F} (both a b) (λ x. (p x.0, q x.1))
    both_follows {E = E} {F = F} {p = p} {q = q} ha hb = record {
      other = λ l x ts r ts' r' d e f.
          let s = split d.0 d.1 ts' (e ∙ ap (map text) d.2) in
          let u = ha.other l x.0 d.0 (d.1 ++ r) s.0 (s.1 ++ r') d.3 s.3 (behind d.1 s.1 r r' s.4 f) in
          let v = hb.other l x.1 d.1 r s.1 r' d.4 s.4 f in
          let left : E → E × F = λ z. (z, q v.0) in
          let right : F → E × F = λ z. (p x.0, z) in
          ((u.0, v.0), (s.0, s.1, s.2, u.1, v.1), ap left u.2 ∙ ap right v.2);
    }

    pub either_follows : {A E : Type 0} {a b : Form G A} {p : A → E} → Follows a p → Follows b p → Follows (either a b) p
    either_follows {A = A} {a = a} {b = b} {p = p} ha hb = record { other = by }
      where
        by : (l : ℕ) (x : A) (ts r ts' r' : List G.Token) → Spells G N a l x ts r ⊎ Spells G N b l x ts r → map text ts' ≡ map text ts → map text r' ≡ map text r → Other (Spells G N (either a b) l) p x ts' r'
        by l x ts r ts' r' (inl d) e f = let u = ha.other l x ts r ts' r' d e f in (u.0, inl u.1, u.2)
        by l x ts r ts' r' (inr d) e f = let u = hb.other l x ts r ts' r' d e f in (u.0, inr u.1, u.2)

    each_other : {A E : Type 0} {a : Form G A} {p : A → E} → Follows a p → (l : ℕ) (xs : List A) (ts r ts' r' : List G.Token) → Each (Spells G N a l) xs ts r → map text ts' ≡ map text ts → map text r' ≡ map text r
        → Other (Each (Spells G N a l)) (map p) xs ts' r'
    each_other ha l [] ts r ts' r' d e f = ([], none_left ts' (e ∙ ap (map text) d), refl)
    each_other {p = p} ha l (x ∷ xs) ts r ts' r' d e f =
        let s = split d.0 d.1 ts' (e ∙ ap (map text) d.2) in
        let u = ha.other l x d.0 (d.1 ++ r) s.0 (s.1 ++ r') d.3 s.3 (behind d.1 s.1 r r' s.4 f) in
        let v = each_other ha l xs d.1 r s.1 r' d.4 s.4 f in
        (u.0 ∷ v.0, (s.0, s.1, s.2, u.1, v.1), ap (λ z. z ∷ map p v.0) u.2 ∙ ap (λ z. p x ∷ z) v.2)

    pub many_follows : {A E : Type 0} {a : Form G A} {p : A → E} → Follows a p → Follows (many a) (map p)
    many_follows ha = record { other = λ l xs ts r ts' r' d e f. each_other ha l xs ts r ts' r' d e f }

    run_other : {A E : Type 0} {a b : Form G A} {p : A → E} → Follows a p → Follows b p → (l : ℕ) (xs : List A) (ts r ts' r' : List G.Token) → Spells G N (run a b) l xs ts r → map text ts' ≡ map text ts → map text r' ≡ map text r
        → Other (Spells G N (run a b) l) (map p) xs ts' r'
    run_other ha hb l [] ts r ts' r' d e f = absurd d
    run_other {p = p} ha hb l (x ∷ xs) ts r ts' r' d e f =
        let s = split d.0 d.1 ts' (e ∙ ap (map text) d.2) in
        let u = ha.other l x d.0 (d.1 ++ r) s.0 (s.1 ++ r') d.3 s.3 (behind d.1 s.1 r r' s.4 f) in
        let v = each_other hb l xs d.1 r s.1 r' d.4 s.4 f in
        (u.0 ∷ v.0, (s.0, s.1, s.2, u.1, v.1), ap (λ z. z ∷ map p v.0) u.2 ∙ ap (λ z. p x ∷ z) v.2)

    pub run_follows : {A E : Type 0} {a b : Form G A} {p : A → E} → Follows a p → Follows b p → Follows (run a b) (map p)
    run_follows ha hb = record { other = run_other ha hb }

    tailed_other : {A B E F : Type 0} (ws : List G.Word) {a : Form G A} {b : Form G B} {p : A → E} {q : B → F} → Follows a p → Follows b q
        → (l : ℕ) (x : A × Option B) (ts r ts' r' : List G.Token) → Spells G N (tailed a ws b) l x ts r → map text ts' ≡ map text ts → map text r' ≡ map text r
        → Other {A = A × Option B} {E = E × Option F} (Spells G N (tailed a ws b) l) (λ x. (p x.0, option_map q x.1)) x ts' r'
    tailed_other {E = E} {F = F} ws ha hb l (x, None) ts r ts' r' d e f =
        let u = ha.other l x ts r ts' r' d.0 e f in
        let left : E → E × Option F = λ z. (z, None) in
        ((u.0, None), (u.1, same_next ws r r' f ∙ d.1), ap left u.2)
    tailed_other {E = E} {F = F} ws {p = p} {q = q} ha hb l (x, Some y) ts r ts' r' d e f =
        let s = split d.0 d.1 ts' (e ∙ ap (map text) d.2) in
        let u = ha.other l x d.0 (d.1 ++ r) s.0 (s.1 ++ r') d.3 s.3 (behind d.1 s.1 r r' s.4 f) in
        let v = hb.other l y d.1 r s.1 r' d.4 s.4 f in
        let left : E → E × Option F = λ z. (z, Some (q v.0)) in
        let right : F → E × Option F = λ z. (p x, Some z) in
        ((u.0, Some v.0), (s.0, s.1, s.2, u.1, v.1), ap left u.2 ∙ ap right v.2)

    pub tailed_follows : {A B E F : Type 0} {a : Form G A} {ws : List G.Word} {b : Form G B} {p : A → E} {q : B → F} → Follows a p → Follows b q
        → Follows {A = A × Option B} {E = E × Option F} (tailed a ws b) (λ x. (p x.0, option_map q x.1))
    tailed_follows {ws = ws} ha hb = record { other = tailed_other ws ha hb }

    -- what is kept of what is made is a function of what is kept
    pub made_follows : {A B E F : Type 0} {f : A → B} {a : Form G A} {p : A → E} {q : B → F} (g : E → F) → ((x : A) → q (f x) ≡ g (p x)) → Follows a p → Follows (made f a) q
    made_follows {f = f} {q = q} g h ha = record {
      other = λ l y ts r ts' r' d e k.
          let u = ha.other l d.0 ts r ts' r' d.2 e k in
          (f u.0, (u.0, refl, u.1), h u.0 ∙ ap g u.2 ∙ sym (h d.0) ∙ ap q (sym d.1));
    }

    -- ---- rules

    pub record RuleFollows {A E : Type 0} (rule : Rule G A) (keep : A → E) : Type 0 where
      pub other : (l : ℕ) (x : A) (ts r ts' r' : List G.Token) → Makes G N rule l x ts r → map text ts' ≡ map text ts → map text r' ≡ map text r → Other (Makes G N rule l) keep x ts' r'

    node_other : {A E : Type 0} {a : Form G A} {p : A → E} → Follows a p → (l : ℕ) (x : A) (ts r ts' r' : List G.Token) → Makes G N (node a) l x ts r → map text ts' ≡ map text ts → map text r' ≡ map text r
        → Other (Makes G N (node a) l) p x ts' r'
    node_other ha zero x ts r ts' r' d e f = absurd d
    node_other ha (suc l) x ts r ts' r' d e f = ha.other l x ts r ts' r' d e f

    pub node_follows : {A E : Type 0} {a : Form G A} {p : A → E} → Follows a p → RuleFollows (node a) p
    node_follows ha = record { other = node_other ha }

    pub one_of_follows : {A E : Type 0} {a b : Rule G A} {p : A → E} → RuleFollows a p → RuleFollows b p → RuleFollows (one_of a b) p
    one_of_follows {A = A} {a = a} {b = b} {p = p} ha hb = record { other = by }
      where
        by : (l : ℕ) (x : A) (ts r ts' r' : List G.Token) → Makes G N a l x ts r ⊎ Makes G N b l x ts r → map text ts' ≡ map text ts → map text r' ≡ map text r → Other (Makes G N (one_of a b) l) p x ts' r'
        by l x ts r ts' r' (inl d) e f = let u = ha.other l x ts r ts' r' d e f in (u.0, inl u.1, u.2)
        by l x ts r ts' r' (inr d) e f = let u = hb.other l x ts r ts' r' d e f in (u.0, inr u.1, u.2)

    grown_other : {A B E F : Type 0} (f : A → B → A) {a : Rule G A} {b : Form G B} {p : A → E} {q : B → F} (g : E → F → E) → ((x : A) (y : B) → p (f x y) ≡ g (p x) (q y)) → RuleFollows a p → Follows b q
        → (l : ℕ) (x : A) (ts r ts' r' : List G.Token) → Makes G N (grown a b f) l x ts r → map text ts' ≡ map text ts → map text r' ≡ map text r → Other (Makes G N (grown a b f) l) p x ts' r'
    grown_other f g h ha hb zero x ts r ts' r' d e k = absurd d
    grown_other f g h ha hb (suc l) x ts r ts' r' (inl d) e k = let u = ha.other (suc l) x ts r ts' r' d e k in (u.0, inl u.1, u.2)
    grown_other f {p = p} {q = q} g h ha hb (suc l) x ts r ts' r' (inr d) e k =
        let s = split d.2 d.3 ts' (e ∙ ap (map text) d.5) in
        let u = ha.other l d.0 d.2 (d.3 ++ r) s.0 (s.1 ++ r') d.6 s.3 (behind d.3 s.1 r r' s.4 k) in
        let v = hb.other l d.1 d.3 r s.1 r' d.7 s.4 k in
        (f u.0 v.0, inr (u.0, v.0, s.0, s.1, refl, s.2, u.1, v.1), h u.0 v.0 ∙ ap (λ z. g z (q v.0)) u.2 ∙ ap (λ z. g (p d.0) z) v.2 ∙ sym (h d.0 d.1) ∙ ap p (sym d.4))

    pub grown_follows : {A B E F : Type 0} {a : Rule G A} {b : Form G B} {f : A → B → A} {p : A → E} {q : B → F} (g : E → F → E) → ((x : A) (y : B) → p (f x y) ≡ g (p x) (q y)) → RuleFollows a p → Follows b q → RuleFollows (grown a b f) p
    grown_follows {f = f} g h ha hb = record { other = grown_other f g h ha hb }

  -- ---- parts

  module _ (E : G.Sort → Type 0) (rules : (s : G.Sort) → Rule G (G.Part s)) (keep : (s : G.Sort) → G.Part s → E s)
      (all : (N : (s : G.Sort) → ℕ → G.Part s → List G.Token → List G.Token → Type 0) → ((s : G.Sort) → Follows N (part s) (keep s)) → (s : G.Sort) → RuleFollows N (rules s) (keep s)) where
    within_other : (n : ℕ) (s : G.Sort) (l : ℕ) (x : G.Part s) (ts r ts' r' : List G.Token) → Within G rules n s l x ts r → map text ts' ≡ map text ts → map text r' ≡ map text r
        → (y : G.Part s) × Within G rules n s l y ts' r' × (keep s y ≡ keep s x)
    within_other zero s l x ts r ts' r' d e f = absurd d
    within_other (suc n) s l x ts r ts' r' d e f = (all (Within G rules n) (λ s'. record { other = within_other n s' }) s).other l x ts r ts' r' d e f

    pub part_follows : (s : G.Sort) → Follows (Stands G rules) (part s) (keep s)
    part_follows s = record { other = λ l x ts r ts' r' d e f. within_other l s l x ts r ts' r' d e f }
