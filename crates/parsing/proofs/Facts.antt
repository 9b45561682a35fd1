-- What the tokens are like that a form spells.
use Rattle.std.proofs.Common.{Bool, true, false, if◌then◌else◌, ◌≡◌, ℕ, suc, ◌≤◌, ◌⊎◌, inl, inr, Some, None, List, [], ◌∷◌, ◌++◌, refl, sym, ◌∙◌, ap, subst, append_assoc, arith}
use Rattle.std.proofs.lemmas.List.{append-nil}
use Rattle.std.proofs.lemmas.Bool.{false≢true}
use Rattle.parsing.specs.Forms.{Language, Form, token, nothing, both, either, many, run, tailed, made, part, Each, Spells}
use Rattle.parsing.specs.Reading.{begins, nullable, needs, first, both_hold, or_else}
use Rattle.parsing.specs.Sound.{Lexical, sound, led, inverse}
use Rattle.parsing.proofs.Words.{by_test, hold_left, hold_right, one_holds, inverse_of, not_both, begins_none, begins_is, begins_append, sample_begins}

-- what is known of the parts of each sort
pub record Parts (G : Language) (firsts : G.Sort → List G.Word) (N : (s : G.Sort) → ℕ → G.Part s → List G.Token → List G.Token → Type 0) : Type 0 where
  pub raise : (s : G.Sort) (l m : ℕ) (x : G.Part s) (ts r : List G.Token) → l ≤ m → N s l x ts r → N s m x ts r
  pub leads : (s : G.Sort) (l : ℕ) (x : G.Part s) (ts r q : List G.Token) → N s l x ts q → begins G (firsts s) (ts ++ r) ≡ true
  pub level : (s : G.Sort) (l : ℕ) (x : G.Part s) (ts r : List G.Token) → N s l x ts r → 1 ≤ l
  pub small : (s : G.Sort) → (x : G.Part s) × (ts : List G.Token) × ((r : List G.Token) → N s 1 x ts r)

-- each first word begins some part of the sort
abbrev pub EveryAt : (G : Language) (firsts : G.Sort → List G.Word) (N : (s : G.Sort) → ℕ → G.Part s → List G.Token → List G.Token → Type 0) → G.Sort → Type 0
EveryAt G firsts N s = (t : G.Token) (i : List G.Token) → begins G (firsts s) (t ∷ i) ≡ true → (l : ℕ) × (x : G.Part s) × (ts : List G.Token) × ((r : List G.Token) → N s l x (t ∷ ts) r)

abbrev pub Every : (G : Language) (firsts : G.Sort → List G.Word) (N : (s : G.Sort) → ℕ → G.Part s → List G.Token → List G.Token → Type 0) → Type 0
Every G firsts N = (s : G.Sort) → EveryAt G firsts N s

pub each_changed : {A T : Type 0} (P Q : A → List T → List T → Type 0) → ((x : A) (ts r : List T) → P x ts r → Q x ts r) → (xs : List A) (ts r : List T) → Each P xs ts r → Each Q xs ts r
each_changed P Q h [] ts r d = d
each_changed P Q h (x ∷ xs) ts r d = (d.0, d.1, d.2, h x d.0 (d.1 ++ r) d.3, each_changed P Q h xs d.1 r d.4)

either_left : (x y : Bool) → both_hold x y ≡ false → (x ≡ true → ⊥) → x ≡ false
either_left true y e h = absurd (h refl)
either_left false y e h = refl

pub false_left : (x y : Bool) → x ≡ false → both_hold x y ≡ false
false_left true y e = absurd (false≢true (sym e))
false_left false y e = refl

pub false_right : (x y : Bool) → y ≡ false → both_hold x y ≡ false
false_right true y e = e
false_right false y e = refl

pub true_left : (x y : Bool) → x ≡ true → or_else x y ≡ true
true_left true y e = refl
true_left false y e = absurd (false≢true e)

pub true_right : (x y : Bool) → y ≡ true → or_else x y ≡ true
true_right true y e = refl
true_right false y e = e

two_led : (x z y : Bool) → x ≡ true → y ≡ true → both_hold x (if z then y else true) ≡ true
two_led true true y e h = h
two_led true false y e h = refl
two_led false z y e h = absurd (false≢true e)

pub both_false : (x y : Bool) → x ≡ false → y ≡ false → or_else x y ≡ false
both_false true y e h = e
both_false false y e h = h

module _ (G : Language) (firsts : G.Sort → List G.Word) (N : (s : G.Sort) → ℕ → G.Part s → List G.Token → List G.Token → Type 0) where
  -- what is spelled over other parts, at another level
  pub spells_changed : (N' : (s : G.Sort) → ℕ → G.Part s → List G.Token → List G.Token → Type 0) {A : Type 0} (f : Form G A) (l m : ℕ)
      → ((s : G.Sort) (x : G.Part s) (ts r : List G.Token) → N s l x ts r → N' s m x ts r) → (x : A) (ts r : List G.Token) → Spells G N f l x ts r → Spells G N' f m x ts r
  spells_changed N' (token w ws) l m h x ts r d = d
  spells_changed N' nothing l m h x ts r d = d
  spells_changed N' (both a b) l m h x ts r d = (d.0, d.1, d.2, spells_changed N' a l m h x.0 d.0 (d.1 ++ r) d.3, spells_changed N' b l m h x.1 d.1 r d.4)
  spells_changed N' (either a b) l m h x ts r (inl d) = inl (spells_changed N' a l m h x ts r d)
  spells_changed N' (either a b) l m h x ts r (inr d) = inr (spells_changed N' b l m h x ts r d)
  spells_changed N' (many a) l m h xs ts r d = each_changed (Spells G N a l) (Spells G N' a m) (spells_changed N' a l m h) xs ts r d
  spells_changed N' (run a b) l m h [] ts r d = d
  spells_changed N' (run a b) l m h (x ∷ xs) ts r d =
      (d.0, d.1, d.2, spells_changed N' a l m h x d.0 (d.1 ++ r) d.3, each_changed (Spells G N b l) (Spells G N' b m) (spells_changed N' b l m h) xs d.1 r d.4)
  spells_changed N' (tailed a ws b) l m h (x, None) ts r d = (spells_changed N' a l m h x ts r d.0, d.1)
  spells_changed N' (tailed a ws b) l m h (x, Some y) ts r d = (d.0, d.1, d.2, spells_changed N' a l m h x d.0 (d.1 ++ r) d.3, spells_changed N' b l m h y d.1 r d.4)
  spells_changed N' (made f a) l m h y ts r d = (d.0, d.1, spells_changed N' a l m h d.0 ts r d.2)
  spells_changed N' (part s) l m h x ts r d = h s x ts r d

  -- The tokens are none, or begin with one of the first words.
  abbrev pub LeadsBy : {A : Type 0} → Form G A → List G.Token → List G.Token → Type 0
  LeadsBy f ts r = ((ts ≡ []) × (nullable G f ≡ true)) ⊎ (begins G (first G firsts f) (ts ++ r) ≡ true)

  pub each_leads : {A : Type 0} (a : Form G A) (l : ℕ) → nullable G a ≡ false → ((x : A) (ts r q : List G.Token) → Spells G N a l x ts q → LeadsBy a ts r) → (xs : List A) (ts r q : List G.Token) → Each (Spells G N a l) xs ts q
      → (ts ≡ []) ⊎ (begins G (first G firsts a) (ts ++ r) ≡ true)
  each_leads a l no_blank h [] ts r q d = inl d
  each_leads a l no_blank h (x ∷ xs) ts r q d = by_lead (h x d.0 (d.1 ++ r) (d.1 ++ q) d.3)
    where
      by_lead : LeadsBy a d.0 (d.1 ++ r) → (ts ≡ []) ⊎ (begins G (first G firsts a) (ts ++ r) ≡ true)
      by_lead (inl e) = absurd (not_both e.1 no_blank)
      by_lead (inr e) = inr (subst (λ z. begins G (first G firsts a) z ≡ true) (sym (append_assoc d.0 d.1 r) ∙ ap (λ z. z ++ r) (sym d.2)) e)

  -- two in a row
  two_lead : (z : Bool) (ws vs0 : List G.Word) (nb : Bool) (us vs ts r : List G.Token) → ts ≡ us ++ vs
      → ((us ≡ []) × (z ≡ true)) ⊎ (begins G ws (us ++ (vs ++ r)) ≡ true) → ((vs ≡ []) × (nb ≡ true)) ⊎ (begins G vs0 (vs ++ r) ≡ true)
      → ((ts ≡ []) × (both_hold z nb ≡ true)) ⊎ (begins G (if z then ws ++ vs0 else ws) (ts ++ r) ≡ true)
  two_lead true ws vs0 nb us vs ts r e (inl p) (inl q) = inl (e ∙ ap (λ z. z ++ vs) p.0 ∙ q.0, q.1)
  two_lead true ws vs0 nb us vs ts r e (inl p) (inr q) =
      let same : vs ++ r ≡ ts ++ r = ap (λ z. (z ++ vs) ++ r) (sym p.0) ∙ ap (λ z. z ++ r) (sym e) in
      inr (subst (λ i. begins G (ws ++ vs0) i ≡ true) same (begins_append G ws vs0 (vs ++ r) ∙ true_right (begins G ws (vs ++ r)) (begins G vs0 (vs ++ r)) q))
  two_lead true ws vs0 nb us vs ts r e (inr p) q =
      let same : us ++ (vs ++ r) ≡ ts ++ r = sym (append_assoc us vs r) ∙ ap (λ z. z ++ r) (sym e) in
      inr (subst (λ i. begins G (ws ++ vs0) i ≡ true) same (begins_append G ws vs0 (us ++ (vs ++ r)) ∙ true_left (begins G ws (us ++ (vs ++ r))) (begins G vs0 (us ++ (vs ++ r))) p))
  two_lead false ws vs0 nb us vs ts r e (inl p) q = absurd (false≢true p.1)
  two_lead false ws vs0 nb us vs ts r e (inr p) q =
      let same : us ++ (vs ++ r) ≡ ts ++ r = sym (append_assoc us vs r) ∙ ap (λ z. z ++ r) (sym e) in
      inr (subst (λ i. begins G ws i ≡ true) same p)

  run_lead : (z : Bool) (ws vs0 : List G.Word) (us vs ts r : List G.Token) → ts ≡ us ++ vs
      → ((us ≡ []) × (z ≡ true)) ⊎ (begins G ws (us ++ (vs ++ r)) ≡ true) → (vs ≡ []) ⊎ (begins G vs0 (vs ++ r) ≡ true)
      → ((ts ≡ []) × (z ≡ true)) ⊎ (begins G (if z then ws ++ vs0 else ws) (ts ++ r) ≡ true)
  run_lead true ws vs0 us vs ts r e p (inl q) = two_lead true ws vs0 true us vs ts r e p (inl (q, refl))
  run_lead true ws vs0 us vs ts r e p (inr q) = two_lead true ws vs0 true us vs ts r e p (inr q)
  run_lead false ws vs0 us vs ts r e (inl p) q = absurd (false≢true p.1)
  run_lead false ws vs0 us vs ts r e (inr p) q =
      let same : us ++ (vs ++ r) ≡ ts ++ r = sym (append_assoc us vs r) ∙ ap (λ z. z ++ r) (sym e) in
      inr (subst (λ i. begins G ws i ≡ true) same p)

  one_lead : (x y : Bool) (ws vs0 : List G.Word) (ts r : List G.Token) → (((ts ≡ []) × (x ≡ true)) ⊎ (begins G ws (ts ++ r) ≡ true)) ⊎ (((ts ≡ []) × (y ≡ true)) ⊎ (begins G vs0 (ts ++ r) ≡ true))
      → ((ts ≡ []) × (or_else x y ≡ true)) ⊎ (begins G (ws ++ vs0) (ts ++ r) ≡ true)
  one_lead x y ws vs0 ts r (inl (inl p)) = inl (p.0, true_left x y p.1)
  one_lead x y ws vs0 ts r (inl (inr p)) = inr (begins_append G ws vs0 (ts ++ r) ∙ true_left (begins G ws (ts ++ r)) (begins G vs0 (ts ++ r)) p)
  one_lead x y ws vs0 ts r (inr (inl p)) = inl (p.0, true_right x y p.1)
  one_lead x y ws vs0 ts r (inr (inr p)) = inr (begins_append G ws vs0 (ts ++ r) ∙ true_right (begins G ws (ts ++ r)) (begins G vs0 (ts ++ r)) p)

  module _ (mores : G.Sort → List G.Word) (begin : (s : G.Sort) (l : ℕ) (x : G.Part s) (ts r q : List G.Token) → N s l x ts q → begins G (firsts s) (ts ++ r) ≡ true) where
    many_lead : (ws : List G.Word) (ts r : List G.Token) → (ts ≡ []) ⊎ (begins G ws (ts ++ r) ≡ true) → ((ts ≡ []) × (true ≡ true)) ⊎ (begins G ws (ts ++ r) ≡ true)
    many_lead ws ts r (inl e) = inl (e, refl)
    many_lead ws ts r (inr e) = inr e

    -- a form with a tail begins as its first part does
    tailed_lead : {A B : Type 0} (a : Form G A) (ws : List G.Word) (b : Form G B) → sound G firsts mores (tailed a ws b) ≡ true → (ts r us vs : List G.Token) → ts ≡ us ++ vs → LeadsBy a us (vs ++ r) → LeadsBy (tailed a ws b) ts r
    tailed_lead a ws b s ts r us vs e (inl q) = absurd (not_both q.1 (inverse_of (nullable G a) (hold_left (inverse (nullable G a)) _ (hold_right (sound G firsts mores b) _ (hold_right (sound G firsts mores a) _ s)))))
    tailed_lead a ws b s ts r us vs e (inr q) = inr (subst (λ z. begins G (first G firsts a) z ≡ true) (sym (append_assoc us vs r) ∙ ap (λ z. z ++ r) (sym e)) q)

    pub leads_by : {A : Type 0} (f : Form G A) → sound G firsts mores f ≡ true → (l : ℕ) (x : A) (ts r q : List G.Token) → Spells G N f l x ts q → LeadsBy f ts r
    leads_by (token w ws) s l x ts r q d = inr (subst (λ z. begins G (w ∷ ws) (z ++ r) ≡ true) (sym d.1) (begins_is G (w ∷ ws) x r ∙ d.0))
    leads_by nothing s l x ts r q d = inl (d, refl)
    leads_by (both a b) s l x ts r q d =
        let g = hold_right (sound G firsts mores a) _ s in
        two_lead (nullable G a) (first G firsts a) (first G firsts b) (nullable G b) d.0 d.1 ts r d.2
        (leads_by a (hold_left (sound G firsts mores a) _ s) l x.0 d.0 (d.1 ++ r) (d.1 ++ q) d.3) (leads_by b (hold_left (sound G firsts mores b) _ g) l x.1 d.1 r q d.4)
    leads_by (either a b) s l x ts r q (inl d) = one_lead (nullable G a) (nullable G b) (first G firsts a) (first G firsts b) ts r (inl (leads_by a (hold_left (sound G firsts mores a) _ s) l x ts r q d))
    leads_by (either a b) s l x ts r q (inr d) = one_lead (nullable G a) (nullable G b) (first G firsts a) (first G firsts b) ts r
        (inr (leads_by b (hold_left (sound G firsts mores b) _ (hold_right (sound G firsts mores a) _ s)) l x ts r q d))
    leads_by (many a) s l xs ts r q d =
        let g = hold_right (sound G firsts mores a) _ s in
        many_lead (first G firsts a) ts r (each_leads a l (inverse_of (nullable G a) (hold_left (inverse (nullable G a)) _ g)) (leads_by a (hold_left (sound G firsts mores a) _ s) l) xs ts r q d)
    leads_by (run a b) s l [] ts r q d = absurd d
    leads_by (run a b) s l (x ∷ xs) ts r q d =
        let g = hold_right (sound G firsts mores a) _ s in
        let g' = hold_right (sound G firsts mores b) _ g in
        run_lead (nullable G a) (first G firsts a) (first G firsts b) d.0 d.1 ts r d.2
        (leads_by a (hold_left (sound G firsts mores a) _ s) l x d.0 (d.1 ++ r) (d.1 ++ q) d.3)
        (each_leads b l (inverse_of (nullable G b) (hold_left (inverse (nullable G b)) _ g')) (leads_by b (hold_left (sound G firsts mores b) _ g) l) xs d.1 r q d.4)
    leads_by (tailed a ws b) s l (x, None) ts r q d = tailed_lead a ws b s ts r ts [] (sym (append-nil ts)) (leads_by a (hold_left (sound G firsts mores a) _ s) l x ts r q d.0)
    leads_by (tailed a ws b) s l (x, Some y) ts r q d = tailed_lead a ws b s ts r d.0 d.1 d.2 (leads_by a (hold_left (sound G firsts mores a) _ s) l x d.0 (d.1 ++ r) (d.1 ++ q) d.3)
    leads_by (made f a) s l y ts r q d = leads_by a s l d.0 ts r q d.2
    leads_by (part n) s l x ts r q d = inr (begin n l x ts r q d)

  module _ (L : Lexical G) where
    -- what is spelled with as few levels as can be, before whatever rest
    pub some_by : (l : ℕ) → ((s : G.Sort) → 1 ≤ l → (x : G.Part s) × (ts : List G.Token) × ((r : List G.Token) → N s l x ts r)) → {A : Type 0} (f : Form G A) → (needs G f ≡ true → 1 ≤ l)
        → (x : A) × (ts : List G.Token) × ((r : List G.Token) → Spells G N f l x ts r)
    some_by l small (token w ws) h = (L.sample w, L.sample w ∷ [], λ r. (sample_begins G L w ws, refl))
    some_by l small nothing h = (tt, [], λ r. refl)
    some_by l small (both a b) h =
        let p = some_by l small a (λ e. h (true_left (needs G a) (needs G b) e)) in
        let q = some_by l small b (λ e. h (true_right (needs G a) (needs G b) e)) in
        ((p.0, q.0), p.1 ++ q.1, λ r. (p.1, q.1, refl, p.2 (q.1 ++ r), q.2 r))
    some_by l small (either {A = A} a b) h = by_need (by_test (needs G a)) (λ k. some_by l small a k) (λ k. some_by l small b k)
      where
        by_need : (needs G a ≡ true) ⊎ (needs G a ≡ false) → ((needs G a ≡ true → 1 ≤ l) → (x : A) × (ts : List G.Token) × ((r : List G.Token) → Spells G N a l x ts r))
            → ((needs G b ≡ true → 1 ≤ l) → (x : A) × (ts : List G.Token) × ((r : List G.Token) → Spells G N b l x ts r)) → (x : A) × (ts : List G.Token) × ((r : List G.Token) → Spells G N a l x ts r ⊎ Spells G N b l x ts r)
        by_need (inl e) p q = let d = q (λ k. h (ap (λ z. both_hold z (needs G b)) e ∙ k)) in (d.0, d.1, λ r. inr (d.2 r))
        by_need (inr e) p q = let d = p (λ k. absurd (not_both k e)) in (d.0, d.1, λ r. inl (d.2 r))
    some_by l small (many a) h = ([], [], λ r. refl)
    some_by l small (run a b) h = let p = some_by l small a h in (p.0 ∷ [], p.1, λ r. (p.1, [], sym (append-nil p.1), p.2 r, refl))
    some_by l small (tailed a ws b) h =
        let p = some_by l small a (λ e. h (true_left (needs G a) (needs G b) e)) in
        let q = some_by l small b (λ e. h (true_right (needs G a) (needs G b) e)) in
        ((p.0, Some q.0), p.1 ++ q.1, λ r. (p.1, q.1, refl, p.2 (q.1 ++ r), q.2 r))
    some_by l small (made f a) h = let p = some_by l small a h in (f p.0, p.1, λ r. (p.0, refl, p.2 r))
    some_by l small (part s) h = small s (h refl)

module _ (G : Language) (L : Lexical G) (firsts : G.Sort → List G.Word) (N : (s : G.Sort) → ℕ → G.Part s → List G.Token → List G.Token → Type 0) (H : Parts G firsts N) where
  pub raise : {A : Type 0} (f : Form G A) (l m : ℕ) (x : A) (ts r : List G.Token) → l ≤ m → Spells G N f l x ts r → Spells G N f m x ts r
  raise f l m x ts r le d = spells_changed G firsts N N f l m (λ s x ts r e. H.raise s l m x ts r le e) x ts r d

  abbrev pub Leads : {A : Type 0} → Form G A → List G.Token → List G.Token → Type 0
  Leads f ts r = LeadsBy G firsts N f ts r

  pub leads : (mores : G.Sort → List G.Word) {A : Type 0} (f : Form G A) → sound G firsts mores f ≡ true → (l : ℕ) (x : A) (ts r : List G.Token) → Spells G N f l x ts r → Leads f ts r
  leads mores f s l x ts r d = leads_by G firsts N mores H.leads f s l x ts r r d

  -- what is never blank spells some token
  pub spells_some : (mores : G.Sort → List G.Word) {A : Type 0} (f : Form G A) → sound G firsts mores f ≡ true → nullable G f ≡ false → (l : ℕ) (x : A) (r : List G.Token) → Spells G N f l x [] r → ⊥
  spells_some mores f s no_blank l x r d = by_lead (leads_by G firsts N mores H.leads f s l x [] [] r d)
    where
      by_lead : Leads f [] [] → ⊥
      by_lead (inl q) = not_both q.1 no_blank
      by_lead (inr q) = not_both q (begins_none G (first G firsts f))

  -- a tail needs no level where its first part needs none
  need_of_two : (mores : G.Sort → List G.Word) {A B : Type 0} (a : Form G A) (ws : List G.Word) (b : Form G B) → sound G firsts mores (tailed a ws b) ≡ true → needs G a ≡ false → or_else (needs G a) (needs G b) ≡ false
  need_of_two mores a ws b s e = both_false (needs G a) (needs G b) e
      (by_first (needs G a) (needs G b) e (hold_left (or_else (needs G a) (inverse (needs G b))) _ (hold_right (inverse (nullable G b)) _ (hold_right (inverse (nullable G a)) _ (hold_right (sound G firsts mores b) _ (hold_right (sound G firsts mores a) _ s))))))
    where
      by_first : (x y : Bool) → x ≡ false → or_else x (inverse y) ≡ true → y ≡ false
      by_first true y e h = absurd (false≢true (sym e))
      by_first false y e h = inverse_of y h

  -- Without a level below only what needs none is spelled.
  pub no_need : (mores : G.Sort → List G.Word) {A : Type 0} (f : Form G A) → sound G firsts mores f ≡ true → (x : A) (ts r : List G.Token) → Spells G N f 0 x ts r → needs G f ≡ false
  no_need mores (token w ws) s x ts r d = refl
  no_need mores nothing s x ts r d = refl
  no_need mores (both a b) s x ts r d =
      let q = hold_right (sound G firsts mores a) _ s in
      both_false (needs G a) (needs G b) (no_need mores a (hold_left (sound G firsts mores a) _ s) x.0 d.0 (d.1 ++ r) d.3) (no_need mores b (hold_left (sound G firsts mores b) _ q) x.1 d.1 r d.4)
  no_need mores (either a b) s x ts r (inl d) = false_left (needs G a) (needs G b) (no_need mores a (hold_left (sound G firsts mores a) _ s) x ts r d)
  no_need mores (either a b) s x ts r (inr d) = false_right (needs G a) (needs G b) (no_need mores b (hold_left (sound G firsts mores b) _ (hold_right (sound G firsts mores a) _ s)) x ts r d)
  no_need mores (many a) s xs ts r d = refl
  no_need mores (run a b) s [] ts r d = absurd d
  no_need mores (run a b) s (x ∷ xs) ts r d = no_need mores a (hold_left (sound G firsts mores a) _ s) x d.0 (d.1 ++ r) d.3
  no_need mores (tailed a ws b) s (x, None) ts r d = need_of_two mores a ws b s (no_need mores a (hold_left (sound G firsts mores a) _ s) x ts r d.0)
  no_need mores (tailed a ws b) s (x, Some y) ts r d = need_of_two mores a ws b s (no_need mores a (hold_left (sound G firsts mores a) _ s) x d.0 (d.1 ++ r) d.3)
  no_need mores (made f a) s y ts r d = no_need mores a s d.0 ts r d.2
  no_need mores (part n) s x ts r d = let k : 1 ≤ 0 = H.level n 0 x ts r d in absurd (omega (arith, k))

  -- what spells nothing
  pub spelled_blank : {A : Type 0} (f : Form G A) → nullable G f ≡ true → (l : ℕ) → (x : A) × ((r : List G.Token) → Spells G N f l x [] r)
  spelled_blank (token w ws) e l = absurd (false≢true e)
  spelled_blank nothing e l = (tt, λ r. refl)
  spelled_blank (both a b) e l =
      let p = spelled_blank a (hold_left (nullable G a) (nullable G b) e) l in
      let q = spelled_blank b (hold_right (nullable G a) (nullable G b) e) l in
      ((p.0, q.0), λ r. ([], [], refl, p.1 r, q.1 r))
  spelled_blank (either {A = A} a b) e l = by_or (one_holds (nullable G a) (nullable G b) e) (λ z. spelled_blank a z l) (λ z. spelled_blank b z l)
    where
      by_or : (nullable G a ≡ true) ⊎ (nullable G b ≡ true) → (nullable G a ≡ true → (x : A) × ((r : List G.Token) → Spells G N a l x [] r)) → (nullable G b ≡ true → (x : A) × ((r : List G.Token) → Spells G N b l x [] r))
          → (x : A) × ((r : List G.Token) → Spells G N a l x [] r ⊎ Spells G N b l x [] r)
      by_or (inl z) p q = let d = p z in (d.0, λ r. inl (d.1 r))
      by_or (inr z) p q = let d = q z in (d.0, λ r. inr (d.1 r))
  spelled_blank (many a) e l = ([], λ r. refl)
  spelled_blank (run a b) e l = let p = spelled_blank a e l in (p.0 ∷ [], λ r. ([], [], refl, p.1 r, refl))
  spelled_blank (tailed a ws b) e l = absurd (false≢true e)
  spelled_blank (made f a) e l = let p = spelled_blank a e l in (f p.0, λ r. (p.0, refl, p.1 r))
  spelled_blank (part s) e l = absurd (false≢true e)

  pub blank_needs : (mores : G.Sort → List G.Word) {A : Type 0} (f : Form G A) → sound G firsts mores f ≡ true → nullable G f ≡ true → needs G f ≡ false
  blank_needs mores f s e = let p = spelled_blank f e 0 in no_need mores f s p.0 [] [] (p.1 [])

  pub some_spelled : {A : Type 0} (f : Form G A) (l : ℕ) → (needs G f ≡ true → 1 ≤ l) → (x : A) × (ts : List G.Token) × ((r : List G.Token) → Spells G N f l x ts r)
  some_spelled f l h = some_by G firsts N L l (λ s le. let p = H.small s in (p.0, p.1, λ r. H.raise s 1 l p.0 p.1 r le (p.2 r))) f h

  abbrev pub Started : {A : Type 0} → Form G A → G.Token → Type 0
  Started {A = A} f t = (l : ℕ) × (x : A) × (ts : List G.Token) × ((r : List G.Token) → Spells G N f l x (t ∷ ts) r)

  -- one part that starts, and another one behind it
  both_started : {A B : Type 0} (a : Form G A) (b : Form G B) (t : G.Token) → Started a t → Started (both a b) t
  both_started a b t d =
      let q = some_spelled b (suc d.0) (λ e. omega arith) in
      (suc d.0, (d.1, q.0), d.2 ++ q.1, λ r. (t ∷ d.2, q.1, refl, raise a d.0 (suc d.0) d.1 (t ∷ d.2) (q.1 ++ r) (omega arith) (d.3 (q.1 ++ r)), q.2 r))

  tailed_started : {A B : Type 0} (a : Form G A) (ws : List G.Word) (b : Form G B) (t : G.Token) → Started a t → Started (tailed a ws b) t
  tailed_started a ws b t d =
      let q = some_spelled b (suc d.0) (λ e. omega arith) in
      (suc d.0, (d.1, Some q.0), d.2 ++ q.1, λ r. (t ∷ d.2, q.1, refl, raise a d.0 (suc d.0) d.1 (t ∷ d.2) (q.1 ++ r) (omega arith) (d.3 (q.1 ++ r)), q.2 r))

  both_later : {A B : Type 0} (a : Form G A) (b : Form G B) (t : G.Token) → nullable G a ≡ true → Started b t → Started (both a b) t
  both_later a b t e d = let p = spelled_blank a e d.0 in (d.0, (p.0, d.1), d.2, λ r. ([], t ∷ d.2, refl, p.1 ((t ∷ d.2) ++ r), d.3 r))

  run_started : {A : Type 0} (a b : Form G A) (t : G.Token) → Started a t → Started (run a b) t
  run_started a b t d = (d.0, d.1 ∷ [], d.2, λ r. (t ∷ d.2, [], sym (append-nil (t ∷ d.2)), d.3 r, refl))

  run_later : {A : Type 0} (a b : Form G A) (t : G.Token) → nullable G a ≡ true → Started b t → Started (run a b) t
  run_later a b t e d = let p = spelled_blank a e d.0 in (d.0, p.0 ∷ d.1 ∷ [], d.2, λ r. ([], t ∷ d.2, refl, p.1 ((t ∷ d.2) ++ r), (t ∷ d.2, [], sym (append-nil (t ∷ d.2)), d.3 r, refl)))

  either_started : {A : Type 0} (a b : Form G A) (t : G.Token) → Started a t ⊎ Started b t → Started (either a b) t
  either_started a b t (inl d) = (d.0, d.1, d.2, λ r. inl (d.3 r))
  either_started a b t (inr d) = (d.0, d.1, d.2, λ r. inr (d.3 r))

  -- where the first words are those of one part, or of it and the next one
  from_two : (z : Bool) (ws vs : List G.Word) (i : List G.Token) → begins G (if z then ws ++ vs else ws) i ≡ true → (begins G ws i ≡ true) ⊎ ((z ≡ true) × (begins G vs i ≡ true))
  from_two false ws vs i e = inl e
  from_two true ws vs i e = by_one (one_holds (begins G ws i) (begins G vs i) (sym (begins_append G ws vs i) ∙ e))
    where
      by_one : (begins G ws i ≡ true) ⊎ (begins G vs i ≡ true) → (begins G ws i ≡ true) ⊎ ((true ≡ true) × (begins G vs i ≡ true))
      by_one (inl d) = inl d
      by_one (inr d) = inr (refl, d)

  if_holds : (z y : Bool) → z ≡ true → (if z then y else true) ≡ true → y ≡ true
  if_holds true y e h = h
  if_holds false y e h = absurd (false≢true e)

  -- Each first word begins some of what is spelled. This has to be known of the parts that it begins with.
  pub starts : (allowed : G.Sort → Bool) → ((s : G.Sort) → allowed s ≡ true → EveryAt G firsts N s) → {A : Type 0} (f : Form G A) → led G allowed f ≡ true → (t : G.Token) (i : List G.Token) → begins G (first G firsts f) (t ∷ i) ≡ true → Started f t
  starts allowed E (token w ws) g t i e = (0, t, [], λ r. (sym (begins_is G (w ∷ ws) t i) ∙ e, refl))
  starts allowed E nothing g t i e = absurd (false≢true e)
  starts allowed E (both a b) g t i e = by_part (from_two (nullable G a) (first G firsts a) (first G firsts b) (t ∷ i) e)
      (λ d. starts allowed E a (hold_left (led G allowed a) _ g) t i d) (λ z d. starts allowed E b (if_holds (nullable G a) (led G allowed b) z (hold_right (led G allowed a) _ g)) t i d)
    where
      by_part : (begins G (first G firsts a) (t ∷ i) ≡ true) ⊎ ((nullable G a ≡ true) × (begins G (first G firsts b) (t ∷ i) ≡ true)) → (begins G (first G firsts a) (t ∷ i) ≡ true → Started a t)
          → (nullable G a ≡ true → begins G (first G firsts b) (t ∷ i) ≡ true → Started b t) → Started (both a b) t
      by_part (inl d) p q = both_started a b t (p d)
      by_part (inr d) p q = both_later a b t d.0 (q d.0 d.1)
  starts allowed E (either a b) g t i e = by_part (one_holds (begins G (first G firsts a) (t ∷ i)) (begins G (first G firsts b) (t ∷ i)) (sym (begins_append G (first G firsts a) (first G firsts b) (t ∷ i)) ∙ e))
      (λ d. starts allowed E a (hold_left (led G allowed a) _ g) t i d) (λ d. starts allowed E b (hold_right (led G allowed a) _ g) t i d)
    where
      by_part : (begins G (first G firsts a) (t ∷ i) ≡ true) ⊎ (begins G (first G firsts b) (t ∷ i) ≡ true) → (begins G (first G firsts a) (t ∷ i) ≡ true → Started a t)
          → (begins G (first G firsts b) (t ∷ i) ≡ true → Started b t) → Started (either a b) t
      by_part (inl d) p q = either_started a b t (inl (p d))
      by_part (inr d) p q = either_started a b t (inr (q d))
  starts allowed E (many a) g t i e = let d = starts allowed E a g t i e in (d.0, d.1 ∷ [], d.2, λ r. (t ∷ d.2, [], sym (append-nil (t ∷ d.2)), d.3 r, refl))
  starts allowed E (run a b) g t i e = by_part (from_two (nullable G a) (first G firsts a) (first G firsts b) (t ∷ i) e)
      (λ d. starts allowed E a (hold_left (led G allowed a) _ g) t i d) (λ z d. starts allowed E b (if_holds (nullable G a) (led G allowed b) z (hold_right (led G allowed a) _ g)) t i d)
    where
      by_part : (begins G (first G firsts a) (t ∷ i) ≡ true) ⊎ ((nullable G a ≡ true) × (begins G (first G firsts b) (t ∷ i) ≡ true)) → (begins G (first G firsts a) (t ∷ i) ≡ true → Started a t)
          → (nullable G a ≡ true → begins G (first G firsts b) (t ∷ i) ≡ true → Started b t) → Started (run a b) t
      by_part (inl d) p q = run_started a b t (p d)
      by_part (inr d) p q = run_later a b t d.0 (q d.0 d.1)
  starts allowed E (tailed a ws b) g t i e = tailed_started a ws b t (starts allowed E a g t i e)
  starts allowed E (made f a) g t i e = let d = starts allowed E a g t i e in (d.0, f d.1, d.2, λ r. (d.1, refl, d.3 r))
  starts allowed E (part s) g t i e = E s g t i e

  all_led : {A : Type 0} (f : Form G A) → led G (λ s. true) f ≡ true
  all_led (token w ws) = refl
  all_led nothing = refl
  all_led (both a b) = two_led (led G (λ s. true) a) (nullable G a) (led G (λ s. true) b) (all_led a) (all_led b)
  all_led (either a b) = ap (λ z. both_hold z (led G (λ s. true) b)) (all_led a) ∙ all_led b
  all_led (many a) = all_led a
  all_led (run a b) = two_led (led G (λ s. true) a) (nullable G a) (led G (λ s. true) b) (all_led a) (all_led b)
  all_led (tailed a ws b) = all_led a
  all_led (made f a) = all_led a
  all_led (part s) = refl

  pub starts_any : Every G firsts N → {A : Type 0} (f : Form G A) → (t : G.Token) (i : List G.Token) → begins G (first G firsts f) (t ∷ i) ≡ true → Started f t
  starts_any E f t i e = starts (λ s. true) (λ s k. E s) f (all_led f) t i e
