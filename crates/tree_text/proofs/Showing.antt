-- What the tokens of a derivation are: where each form shows its values as texts, they are those of the tokens.
use Rattle.std.proofs.Common.{◌≡◌, ℕ, zero, suc, ◌⊎◌, true, inl, inr, List, [], ◌∷◌, ◌++◌, Option, Some, None, map, sym, ◌∙◌, ap}
use Rattle.std.proofs.lemmas.List.{map-append}
use Rattle.parsing.specs.Forms.{Language, Form, token, nothing, both, either, many, run, tailed, made, part, Rule, node, one_of, grown, within, Each, Spells, Makes, Within, Stands}

-- what values in a row show, and one with others of another form behind it
abbrev pub all_shown : {A T : Type 0} → (A → List T) → List A → List T
all_shown show [] = []
all_shown show (x ∷ xs) = show x ++ all_shown show xs

abbrev pub run_shown : {A T : Type 0} → (A → List T) → (A → List T) → List A → List T
run_shown show more [] = []
run_shown show more (x ∷ xs) = show x ++ all_shown more xs

abbrev pub tail_shown : {A B T : Type 0} → (A → List T) → (B → List T) → A × Option B → List T
tail_shown show tail (x, None) = show x
tail_shown show tail (x, Some y) = show x ++ tail y

module _ (G : Language) (T : Type 0) (text : G.Token → T) where
  two : (ts us vs : List G.Token) (xs ys : List T) → ts ≡ us ++ vs → map text us ≡ xs → map text vs ≡ ys → map text ts ≡ xs ++ ys
  two ts us vs xs ys e f g = ap (map text) e ∙ map-append text us vs ∙ ap (λ z. z ++ map text vs) f ∙ ap (λ z. xs ++ z) g

  module _ (N : (s : G.Sort) → ℕ → G.Part s → List G.Token → List G.Token → Type 0) where
    -- what is shown of a value are the texts of the tokens that spell it
    pub record Shows {A : Type 0} (f : Form G A) (show : A → List T) : Type 0 where
      pub texts : (l : ℕ) (x : A) (ts r : List G.Token) → Spells G N f l x ts r → map text ts ≡ show x

    pub token_shows : {w : G.Word} {ws : List G.Word} (show : G.Token → List T) → ((t : G.Token) → within G (w ∷ ws) (G.word t) ≡ true → text t ∷ [] ≡ show t) → Shows (token w ws) show
    token_shows show h = record { texts = λ l x ts r d. ap (map text) d.1 ∙ h x d.0 }

    pub nothing_shows : Shows nothing (λ x. [])
    nothing_shows = record { texts = λ l x ts r d. ap (map text) d }

    pub both_shows : {A B : Type 0} {a : Form G A} {b : Form G B} {p : A → List T} {q : B → List T} → Shows a p → Shows b q → Shows (both a b) (λ x. p x.0 ++ q x.1)
    both_shows {p = p} {q = q} ha hb = record { texts = λ l x ts r d. two ts d.0 d.1 (p x.0) (q x.1) d.2 (ha.texts l x.0 d.0 (d.1 ++ r) d.3) (hb.texts l x.1 d.1 r d.4) }

    pub either_shows : {A : Type 0} {a b : Form G A} {p : A → List T} → Shows a p → Shows b p → Shows (either a b) p
    either_shows {a = a} {b = b} {p = p} ha hb = record { texts = by }
      where
        by : (l : ℕ) (x : _) (ts r : List G.Token) → Spells G N a l x ts r ⊎ Spells G N b l x ts r → map text ts ≡ p x
        by l x ts r (inl d) = ha.texts l x ts r d
        by l x ts r (inr d) = hb.texts l x ts r d

    each_shows : {A : Type 0} {a : Form G A} {p : A → List T} → Shows a p → (l : ℕ) (xs : List A) (ts r : List G.Token) → Each (Spells G N a l) xs ts r → map text ts ≡ all_shown p xs
    each_shows ha l [] ts r d = ap (map text) d
    each_shows {p = p} ha l (x ∷ xs) ts r d = two ts d.0 d.1 (p x) (all_shown p xs) d.2 (ha.texts l x d.0 (d.1 ++ r) d.3) (each_shows ha l xs d.1 r d.4)

    pub many_shows : {A : Type 0} {a : Form G A} {p : A → List T} → Shows a p → Shows (many a) (all_shown p)
    many_shows ha = record { texts = λ l xs ts r d. each_shows ha l xs ts r d }

    run_texts : {A : Type 0} {a b : Form G A} {p q : A → List T} → Shows a p → Shows b q → (l : ℕ) (xs : List A) (ts r : List G.Token) → Spells G N (run a b) l xs ts r → map text ts ≡ run_shown p q xs
    run_texts ha hb l [] ts r d = absurd d
    run_texts {p = p} {q = q} ha hb l (x ∷ xs) ts r d = two ts d.0 d.1 (p x) (all_shown q xs) d.2 (ha.texts l x d.0 (d.1 ++ r) d.3) (each_shows hb l xs d.1 r d.4)

    pub run_shows : {A : Type 0} {a b : Form G A} {p q : A → List T} → Shows a p → Shows b q → Shows (run a b) (run_shown p q)
    run_shows ha hb = record { texts = run_texts ha hb }

    tailed_texts : {A B : Type 0} (ws : List G.Word) {a : Form G A} {b : Form G B} {p : A → List T} {q : B → List T} → Shows a p → Shows b q
        → (l : ℕ) (x : A × Option B) (ts r : List G.Token) → Spells G N (tailed a ws b) l x ts r → map text ts ≡ tail_shown p q x
    tailed_texts ws ha hb l (x, None) ts r d = ha.texts l x ts r d.0
    tailed_texts ws {p = p} {q = q} ha hb l (x, Some y) ts r d = two ts d.0 d.1 (p x) (q y) d.2 (ha.texts l x d.0 (d.1 ++ r) d.3) (hb.texts l y d.1 r d.4)

    pub tailed_shows : {A B : Type 0} {a : Form G A} {ws : List G.Word} {b : Form G B} {p : A → List T} {q : B → List T} → Shows a p → Shows b q → Shows (tailed a ws b) (tail_shown p q)
    tailed_shows {ws = ws} ha hb = record { texts = tailed_texts ws ha hb }

    pub made_shows : {A B : Type 0} {f : A → B} {a : Form G A} {p : A → List T} {q : B → List T} → ((x : A) → p x ≡ q (f x)) → Shows a p → Shows (made f a) q
    made_shows {q = q} h ha = record { texts = λ l y ts r d. ha.texts l d.0 ts r d.2 ∙ h d.0 ∙ ap q (sym d.1) }

    -- the same for a rule
    pub record RuleShows {A : Type 0} (rule : Rule G A) (show : A → List T) : Type 0 where
      pub texts : (l : ℕ) (x : A) (ts r : List G.Token) → Makes G N rule l x ts r → map text ts ≡ show x

    node_texts : {A : Type 0} {a : Form G A} {p : A → List T} → Shows a p → (l : ℕ) (x : A) (ts r : List G.Token) → Makes G N (node a) l x ts r → map text ts ≡ p x
    node_texts ha zero x ts r d = absurd d
    node_texts ha (suc l) x ts r d = ha.texts l x ts r d

    pub node_shows : {A : Type 0} {a : Form G A} {p : A → List T} → Shows a p → RuleShows (node a) p
    node_shows ha = record { texts = node_texts ha }

    pub one_of_shows : {A : Type 0} {a b : Rule G A} {p : A → List T} → RuleShows a p → RuleShows b p → RuleShows (one_of a b) p
    one_of_shows {a = a} {b = b} {p = p} ha hb = record { texts = by }
      where
        by : (l : ℕ) (x : _) (ts r : List G.Token) → Makes G N a l x ts r ⊎ Makes G N b l x ts r → map text ts ≡ p x
        by l x ts r (inl d) = ha.texts l x ts r d
        by l x ts r (inr d) = hb.texts l x ts r d

    grown_texts : {A B : Type 0} (f : A → B → A) {a : Rule G A} {b : Form G B} {p : A → List T} {q : B → List T} → ((x : A) (y : B) → p x ++ q y ≡ p (f x y)) → RuleShows a p → Shows b q
        → (l : ℕ) (x : A) (ts r : List G.Token) → Makes G N (grown a b f) l x ts r → map text ts ≡ p x
    grown_texts f h ha hb zero x ts r d = absurd d
    grown_texts f h ha hb (suc l) x ts r (inl d) = ha.texts (suc l) x ts r d
    grown_texts f {p = p} {q = q} h ha hb (suc l) x ts r (inr d) = two ts d.2 d.3 (p d.0) (q d.1) d.5 (ha.texts l d.0 d.2 (d.3 ++ r) d.6) (hb.texts l d.1 d.3 r d.7) ∙ h d.0 d.1 ∙ ap p (sym d.4)

    pub grown_shows : {A B : Type 0} {a : Rule G A} {b : Form G B} {f : A → B → A} {p : A → List T} {q : B → List T} → ((x : A) (y : B) → p x ++ q y ≡ p (f x y)) → RuleShows a p → Shows b q → RuleShows (grown a b f) p
    grown_shows {f = f} h ha hb = record { texts = grown_texts f h ha hb }

  -- Parts within any number of levels, where each rule shows its parts if the parts in it are shown.
  module _ (rules : (s : G.Sort) → Rule G (G.Part s)) (show : (s : G.Sort) → G.Part s → List T)
      (all : (N : (s : G.Sort) → ℕ → G.Part s → List G.Token → List G.Token → Type 0) → ((s : G.Sort) → Shows N (part s) (show s)) → (s : G.Sort) → RuleShows N (rules s) (show s)) where
    within_texts : (n : ℕ) (s : G.Sort) (l : ℕ) (x : G.Part s) (ts r : List G.Token) → Within G rules n s l x ts r → map text ts ≡ show s x
    within_texts zero s l x ts r d = absurd d
    within_texts (suc n) s l x ts r d = (all (Within G rules n) (λ s'. record { texts = within_texts n s' }) s).texts l x ts r d

    pub part_shows : (s : G.Sort) → Shows (Stands G rules) (part s) (show s)
    part_shows s = record { texts = λ l x ts r d. within_texts l s l x ts r d }
