-- Reading a part of a sort is exact, by every grammar that is sound.
use Rattle.std.proofs.Common.{true, ◌≡◌, ℕ, zero, suc, ◌≤◌, ◌==◌, false, nat_lt, List, [], ◌∷◌, ◌++◌, length, Ok, Err, refl, sym, ◌∙◌, subst, append_assoc, arith}
use Rattle.std.proofs.lemmas.Bool.{eqb-true}
use Rattle.std.proofs.lemmas.List.{append-nil}
use Rattle.parsing.specs.declared.fault.Fault.TheVariants.{Memory, Expected, TooDeep}
use Rattle.parsing.specs.declared.tall.Tall.{Tall}
use Rattle.parsing.specs.Forms.{Language, Form, Rule, Spells, Makes, Within, Stands, Derives}
use Rattle.parsing.specs.Reading.{Outcome, begins, read, read_part, scan}
use Rattle.parsing.specs.Sound.{Lexical, Sound, sound, more, rule_more}
use Rattle.parsing.specs.Answers.{GoesOn, IsRefused, IsTooDeep, IsTree}
use Rattle.parsing.proofs.Laws.{head, Law, Stuck, Ends, same_law}
use Rattle.parsing.proofs.Words.{begins_none, ends_inside}
use Rattle.parsing.proofs.Facts.{Parts, Every, EveryAt, raise}
use Rattle.parsing.proofs.Rules.{below_of, rule_level, makes_changed, rule_leads, some_made, rule_starts}
use Rattle.parsing.proofs.Exact.{form_law}
use Rattle.parsing.proofs.RuleLaw.{rule_law}
use Rattle.parsing.proofs.Scanning.{bare, scan_is}

lower : (a b n : ℕ) → nat_lt a b ≡ true → suc b ≤ suc n → suc a ≤ n
lower a b n h le = let k = below_of a b h in omega (arith, k)

some_levels : (l : ℕ) → 1 ≤ l → (l == 0) ≡ false
some_levels l le = (elim (l == 0) as (λ z. (l == 0) ≡ z → z ≡ false) [ true ↦ λ e. let h = eqb-true l 0 e in absurd (omega (arith, h, le)) | false ↦ λ e. refl ]) refl

module _ (G : Language) (L : Lexical G) (rules : (s : G.Sort) → Rule G (G.Part s)) (firsts mores : G.Sort → List G.Word) (S : Sound G rules firsts mores) where
  abbrev D : (s : G.Sort) → ℕ → G.Part s → List G.Token → List G.Token → Type 0
  D = Stands G rules

  -- a higher limit, and a bound that is no smaller than it
  lift : (n : ℕ) (s : G.Sort) (l m k : ℕ) (x : G.Part s) (ts r : List G.Token) → l ≤ m → m ≤ k → Within G rules n s l x ts r → Within G rules k s m x ts r
  lift zero s l m k x ts r lm mk d = absurd d
  lift (suc n) s l m zero x ts r lm mk d = let h = rule_level G firsts (Within G rules n) (rules s) l x ts r d in absurd (omega (arith, h))
  lift (suc n) s l m (suc k) x ts r lm mk d = makes_changed G firsts (Within G rules n) (Within G rules k) (rules s) l m lm
      (λ s' p q y us r pq qm e. lift n s' p q k y us r pq (omega arith) e) x ts r d

  level_of : (n : ℕ) (s : G.Sort) (l : ℕ) (x : G.Part s) (ts r : List G.Token) → Within G rules n s l x ts r → 1 ≤ l
  level_of zero s l x ts r d = absurd d
  level_of (suc n) s l x ts r d = rule_level G firsts (Within G rules n) (rules s) l x ts r d

  unfold_part : (s : G.Sort) (l : ℕ) (x : G.Part s) (ts r : List G.Token) → D s l x ts r → Makes G D (rules s) l x ts r
  unfold_part s zero x ts r d = absurd d
  unfold_part s (suc l) x ts r d = makes_changed G firsts (Within G rules l) D (rules s) (suc l) (suc l) (omega arith) (λ s' p q y us r pq qm e. lift l s' p q q y us r pq (omega arith) e) x ts r d

  fold_part : (s : G.Sort) (l : ℕ) (x : G.Part s) (ts r : List G.Token) → Makes G D (rules s) (suc l) x ts r → D s (suc l) x ts r
  fold_part s l x ts r d = makes_changed G firsts D (Within G rules l) (rules s) (suc l) (suc l) (omega arith) (λ s' p q y us r pq qm e. lift p s' p q l y us r pq (omega arith) e) x ts r d

  begin_part : (n : ℕ) (s : G.Sort) (l : ℕ) (x : G.Part s) (ts r q : List G.Token) → Within G rules n s l x ts q → begins G (firsts s) (ts ++ r) ≡ true
  begin_part zero s l x ts r q d = absurd d
  begin_part (suc n) s l x ts r q d = subst (λ z. begins G z (ts ++ r) ≡ true) (S.begin s) (rule_leads G firsts (Within G rules n) mores (begin_part n) (rules s) (S.is_sound s) l x ts r q d)

  parts : Parts G firsts D
  parts = record {
    raise = λ s l m x ts r le d. lift l s l m m x ts r le (omega arith) d;
    leads = λ s l x ts r q d. begin_part l s l x ts r q d;
    level = λ s l x ts r d. level_of l s l x ts r d;
    small = λ s. some_made G firsts (Within G rules 0) L (rules s) (S.is_shallow s);
  }

  -- by rank, since a rule may begin with a part of lower rank
  every_below : (n : ℕ) (s : G.Sort) → suc (S.rank s) ≤ n → EveryAt G firsts D s
  every_below zero s le t i e = absurd (omega arith)
  every_below (suc n) s le t i e =
      let d = rule_starts G L firsts mores D parts (λ k. nat_lt (S.rank k) (S.rank s)) (λ k h. every_below n k (lower (S.rank k) (S.rank s) n h le)) (rules s) (S.is_led s) t i (subst (λ z. begins G z (t ∷ i) ≡ true) (sym (S.begin s)) e) in
      (suc d.0, d.1, d.2, λ r. fold_part s d.0 d.1 (t ∷ d.2) r (made d.0 d.1 (t ∷ d.2) r (d.3 r)))
    where
      made : (l : ℕ) (x : G.Part s) (ts r : List G.Token) → Makes G D (rules s) l x ts r → Makes G D (rules s) (suc l) x ts r
      made l x ts r d = makes_changed G firsts D D (rules s) l (suc l) (omega arith) (λ s' p q y us r pq qm e. lift p s' p q q y us r pq (omega arith) e) x ts r d

  every : Every G firsts D
  every s = every_below (suc (S.rank s)) s (omega arith)

  pub part_law : (l : ℕ) (s : G.Sort) (i : List G.Token) → 1 ≤ l → Law G (Stands G rules s) (mores s) l i (read_part G firsts rules l s i)
  unfolding read_part
  part_law zero s i le = absurd (omega arith)
  part_law (suc l) s i le = same_law G (Makes G D (rules s)) (rule_more G firsts mores (rules s)) (suc l) (D s) (mores s) i into
      (λ m y ts j r' d w same ends. (unfold_part s m y ts r' d, ends_inside G L (rule_more G firsts mores (rules s)) (mores s) r' (S.continue s) ends)) _
      (rule_law G L firsts mores D parts every (read_part G firsts rules l) l (λ s' j le'. part_law l s' j le') (rules s) (S.is_sound s) (S.is_shallow s) i)
    where
      into : (m : ℕ) (x : G.Part s) (ts r : List G.Token) → Makes G D (rules s) m x ts r → D s m x ts r
      into zero x ts r d = let h = rule_level G firsts D (rules s) 0 x ts r d in absurd (omega (arith, h))
      into (suc m) x ts r d = fold_part s m x ts r d

  -- ---- all of the tokens

  -- what the outcome of reading by a form says of all the tokens
  abbrev pub Says : {A : Type 0} → Form G A → ℕ → List G.Token → Outcome G.Token A → Type 0
  Says f limit tokens (Ok (x, [])) = IsTree (Derives G rules f) limit tokens x
  Says f limit tokens (Ok (x, t ∷ rest)) = (front : List G.Token) × (tokens ≡ front ++ t ∷ rest) × IsRefused (Derives G rules f) limit front (t ∷ rest)
  Says f limit tokens (Err Memory) = ⊥
  Says f limit tokens (Err (Expected left)) = (front : List G.Token) × (rest : List G.Token) × (tokens ≡ front ++ rest) × (left ≡ length rest) × IsRefused (Derives G rules f) limit front rest
  Says f limit tokens (Err (TooDeep left)) = (front : List G.Token) × (rest : List G.Token) × (tokens ≡ front ++ rest) × (left ≡ length rest) × IsTooDeep (Derives G rules f) limit front rest

  module _ {A : Type 0} (f : Form G A) (limit : ℕ) (tokens : List G.Token) where
    abbrev K : List G.Word
    K = more G firsts mores f

    abbrev P : ℕ → A → List G.Token → List G.Token → Type 0
    P = Spells G D f

    stopped : (C : ℕ → Type 0) (left : ℕ) (T : Stuck G P K limit tokens left C) (m : ℕ) → C m → GoesOn (Derives G rules f) m T.front T.rest → ⊥
    stopped C left T m c g = by_rest T.front T.rest T.never g
      where
        by_rest : (front rest : List G.Token) → ((m : ℕ) (y : A) (ts r r' : List G.Token) → C m → P m y ts r' → front ++ r ≡ ts ++ r' → head rest ≡ head r → Ends G K r' → ⊥) → GoesOn (Derives G rules f) m front rest → ⊥
        by_rest front [] h g = h m g.0 front [] [] c g.1 refl refl (begins_none G K)
        by_rest front (t ∷ rest) h g = h m g.0 (front ++ t ∷ g.1) (t ∷ g.1) [] c (subst (λ z. P m g.0 z []) (append_assoc front (t ∷ []) g.1) g.2) (sym (append-nil (front ++ t ∷ g.1))) refl (begins_none G K)

    says : (o : Outcome G.Token (Tall A)) → Law G P K limit tokens o → Says f limit tokens (bare o)
    says (Ok (x, [])) T =
        let all : tokens ≡ T.front = T.whole ∙ append-nil T.front in
        record {
          derived = subst (λ z. P limit x.tree z []) (sym all) (raise G L firsts D parts f x.height limit x.tree T.front [] T.limit (T.derived [] refl));
          only = λ l y d. (T.only l y tokens [] [] tt d (append-nil T.front ∙ sym all ∙ sym (append-nil tokens)) refl (begins_none G K)).0;
        }
    says (Ok (x, t ∷ rest)) T = (
      T.front,
      T.whole,
      record {
        viable = (T.completed.0, T.completed.1, T.completed.2 []);
        first = λ l g.
            let u = T.only l g.0 (T.front ++ t ∷ g.1) (t ∷ g.1) [] tt (subst (λ z. P l g.0 z []) (append_assoc T.front (t ∷ []) g.1) g.2) (sym (append-nil (T.front ++ t ∷ g.1))) refl (begins_none G K) in
            let no : [] ≡ t ∷ g.1 = u.1 in cc;
      },
    )
    says (Err Memory) T = T
    says (Err (Expected left)) T = (
      T.front,
      T.rest,
      T.whole,
      T.left_is,
      record {
        viable = (T.goes_on.0, T.goes_on.1, T.goes_on.2 []);
        first = λ l g. stopped (λ m. Unit {0}) left T l tt g;
      },
    )
    says (Err (TooDeep left)) T = (
      T.stuck.front,
      T.stuck.rest,
      T.stuck.whole,
      T.stuck.left_is,
      record {
        viable = (T.stuck.goes_on.0, T.stuck.goes_on.1, T.stuck.goes_on.2 []);
        first = λ g. stopped (λ m. m ≤ limit) left T.stuck limit (omega arith) g;
        next = T.next;
        later = T.later;
        is_next = T.rest_is;
        deeper = (T.level, (T.tree, T.more, subst (λ z. P T.level T.tree z []) (sym (append_assoc T.stuck.front (T.next ∷ []) T.more)) (T.deeper [])));
      },
    )

    -- Reading by a sound form is exact.
    pub exact : sound G firsts mores f ≡ true → 1 ≤ limit → Says f limit tokens (scan G firsts (read_part G firsts rules limit) f tokens)
    exact g le = subst (λ z. Says f limit tokens z) (scan_is G firsts (read_part G firsts rules limit) f tokens)
        (says _ (subst (λ z. Law G P K limit tokens (read G firsts (read_part G firsts rules limit) z f tokens)) (some_levels limit le)
        (form_law G L firsts mores D parts every (read_part G firsts rules limit) limit (λ s i le'. part_law limit s i le') f g (λ need. le) tokens)))
