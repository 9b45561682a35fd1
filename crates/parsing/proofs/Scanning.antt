-- Reading by a form that is in no node is reading by it, without the heights.
use Rattle.std.proofs.Common.{◌≡◌, ℕ, zero, suc, max, Bool, true, false, if◌then◌else◌, List, [], ◌∷◌, ◌++◌, length, Some, None, Ok, Err, refl, ◌∙◌, ap}
use Rattle.parsing.specs.declared.tall.Tall.{Tall}
use Rattle.parsing.specs.Forms.{Language, Form, token, nothing, both, either, many, run, tailed, made, part}
use Rattle.parsing.specs.Reading.{Outcome, Parser, and_then, begins, first, needs, guarded, turns, read, scans, scan, next, after, expected}

-- the outcome without the height
abbrev pub bare : {T A : Type 0} → Outcome T (Tall A) → Outcome T A
bare o = and_then o (λ x j. Ok (x.tree, j))

module _ (G : Language) (firsts : G.Sort → List G.Word) (inner : (s : G.Sort) → Parser G.Token (Tall (G.Part s))) where
  abbrev R : {A : Type 0} → Form G A → Parser G.Token (Tall A)
  R a = read G firsts inner false a

  abbrev S : {A : Type 0} → Form G A → Parser G.Token A
  S a = scan G firsts inner a

  -- what follows reads alike
  then_is : {A B : Type 0} (o : Outcome G.Token (Tall A)) (q : Tall A → Parser G.Token (Tall B)) (p : A → Parser G.Token B) → ((x : Tall A) (j : List G.Token) → bare (q x j) ≡ p x.tree j) → bare (and_then o q) ≡ and_then (bare o) p
  then_is (Ok x) q p h = h x.0 x.1
  then_is (Err fault) q p h = refl

  guard_is : {A : Type 0} (a : Form G A) (p : Parser G.Token (Tall A)) (i : List G.Token) → guarded G firsts inner false a p i ≡ p i
  guard_is a p i = elim (needs G a) as (λ z. (if z then p i else p i) ≡ p i) [ true ↦ refl | false ↦ refl ]

  test_is : {A : Type 0} (z : Bool) (o q : Outcome G.Token (Tall A)) (o' q' : Outcome G.Token A) → bare o ≡ o' → bare q ≡ q' → bare (if z then o else q) ≡ (if z then o' else q')
  test_is true o q o' q' e f = e
  test_is false o q o' q' e f = f

  turns_is : {A : Type 0} (a : Form G A) → ((i : List G.Token) → bare (R a i) ≡ S a i) → (n : ℕ) (found : Tall (List A)) (i : List G.Token) → bare (turns G firsts inner false a (R a) n found i) ≡ scans G firsts inner a (S a) n found.tree i
  unfolding turns scans
  turns_is a h zero found i = refl
  turns_is a h (suc n) found i = test_is (begins G (first G firsts a) i) _ _ _ _
      (then_is (guarded G firsts inner false a (R a) i) _ _ (λ x j. turns_is a h n (record { tree = found.tree ++ x.tree ∷ []; height = max found.height x.height }) j)
      ∙ ap (λ o. and_then o (λ x. scans G firsts inner a (S a) n (found.tree ++ x ∷ []))) (ap bare (guard_is a (R a) i) ∙ h i)) refl

  pub scan_is : {A : Type 0} (f : Form G A) (i : List G.Token) → bare (read G firsts inner false f i) ≡ scan G firsts inner f i
  scan_is (token w ws) i = test_is (begins G (w ∷ ws) i) (Ok (record { tree = next G i; height = 0 }, after G i)) (expected i) (Ok (next G i, after G i)) (expected i) refl refl
  scan_is nothing i = refl
  scan_is (both a b) i = then_is (R a i) _ _ (λ x j. then_is (R b j) _ (λ y k. Ok ((x.tree, y), k)) (λ y k. refl) ∙ ap (λ o. and_then o (λ y k. Ok ((x.tree, y), k))) (scan_is b j))
      ∙ ap (λ o. and_then o (λ x j. and_then (S b j) (λ y k. Ok ((x, y), k)))) (scan_is a i)
  scan_is (either a b) i = test_is (begins G (first G firsts a) i) _ _ _ _ (ap bare (guard_is a (R a) i) ∙ scan_is a i) (ap bare (guard_is b (R b) i) ∙ scan_is b i)
  scan_is (many a) i = turns_is a (scan_is a) (length i) (record { tree = []; height = 0 }) i
  scan_is (run a b) i = then_is (R a i) _ _ (λ x j. turns_is b (scan_is b) (length j) (record { tree = x.tree ∷ []; height = x.height }) j)
      ∙ ap (λ o. and_then o (λ x j. scans G firsts inner b (S b) (length j) (x ∷ []) j)) (scan_is a i)
  scan_is (tailed a ws b) i = then_is (R a i) _ _ (λ x j. test_is (begins G ws j) _ _ _ _
      (then_is (R b j) _ (λ y k. Ok ((x.tree, Some y), k)) (λ y k. refl) ∙ ap (λ o. and_then o (λ y k. Ok ((x.tree, Some y), k))) (scan_is b j)) refl)
      ∙ ap (λ o. and_then o (λ x j. if begins G ws j then and_then (S b j) (λ y k. Ok ((x, Some y), k)) else Ok ((x, None), j))) (scan_is a i)
  scan_is (made f a) i = then_is (R a i) _ (λ x j. Ok (f x, j)) (λ x j. refl) ∙ ap (λ o. and_then o (λ x j. Ok (f x, j))) (scan_is a i)
  scan_is (part s) i = refl
