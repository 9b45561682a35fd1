-- What the text of a token is, where its word has one text alone.
use Rattle.std.proofs.Common.{◌≡◌, ℕ, Bool, true, false, not, ◌&&◌, if◌then◌else◌, List, [], ◌∷◌, Option, Some, None, refl, sym, ◌∙◌, ap}
use Rattle.std.specs.Str.{bytes_eq}
use Rattle.std.proofs.lemmas.Slice.Eq.{bytes_eq-Decides}
use Rattle.vlog_tokens.specs.declared.word.Word.{Word}
use Rattle.vlog_tokens.specs.declared.word.Word.TheVariants as w
use Rattle.vlog_tokens.specs.Bytes.{begins_name}
use Rattle.vlog_tokens.specs.Tokens.{Token}
use Rattle.vlog_tokens.specs.Words.{keywords, marks, lookup, keyword, mark, begins_number, unspelled, or_unspelled, or_mark, word_of}
use Rattle.vlog_tokens.proofs.Tests.{differ, split_and}
use Rattle.parsing.specs.Forms.{within}
use Rattle.vlog_rules.specs.Grammar.{V, same}
use Rattle.vlog_rules.proofs.Sound.{lexical}

-- the text of a token
abbrev pub text_of : Token → List ℕ
text_of t = t.text

-- each entry with this word has this text
abbrev pub only_in : List (List ℕ × Word) → Word → List ℕ → Bool
only_in [] v text = true
only_in (e ∷ es) v text = (if same e.1 v then bytes_eq e.0 text else true) && only_in es v text

-- the word is one of the tables, and has no other text there
abbrev pub is_only : Word → List ℕ → Bool
is_only v text = not (same w.Name v) && (not (same w.Number v) && (not (same w.LeftOut v) && (only_in keywords v text && only_in marks v text)))

-- each of these words has the one text that is given
abbrev pub are_only : (Word → List ℕ) → List Word → Bool
are_only spelled [] = true
are_only spelled (v ∷ vs) = is_only v (spelled v) && are_only spelled vs

in_table : (es : List (List ℕ × Word)) (v : Word) (text t : List ℕ) → only_in es v text ≡ true → lookup es t ≡ Some v → t ≡ text
in_table [] v text t o h = absurd cc
in_table (e ∷ es) v text t o h =
    let both = split_and (if same e.1 v then bytes_eq e.0 text else true) (only_in es v text) o in
    (elim (bytes_eq e.0 t) as (λ b. bytes_eq e.0 t ≡ b → (if b then Some e.1 else lookup es t) ≡ Some v → t ≡ text) [
      | true ↦ λ eq found. (let is : e.1 ≡ v = cc in
          sym ((bytes_eq-Decides e.0 t).0 eq)
          ∙ (bytes_eq-Decides e.0 text).0 (sym (ap (λ z. if z then bytes_eq e.0 text else true) (ap (λ z. same z v) is ∙ lexical.same_self v)) ∙ both.0))
      | false ↦ λ eq found. in_table es v text t both.1 found
    ]) refl h

no_word : (u v : Word) → not (same u v) ≡ true → u ≡ v → ⊥
no_word u v n e = differ (same u v) (ap (λ z. same z v) e ∙ lexical.same_self v) (inverted (same u v) n)
  where
    inverted : (b : Bool) → not b ≡ true → b ≡ false
    inverted true h = absurd (differ false h refl)
    inverted false h = refl

not_unspelled : (v : Word) (t : List ℕ) → (w.Name ≡ v → ⊥) → (w.Number ≡ v → ⊥) → (w.LeftOut ≡ v → ⊥) → unspelled t ≡ v → ⊥
not_unspelled v [] name number other e = other e
not_unspelled v (b ∷ bs) name number other e =
    by (begins_number b) (begins_name b) e
  where
    by : (x y : Bool) → (if x then w.Number else if y then w.Name else w.LeftOut) ≡ v → ⊥
    by true y h = number h
    by false true h = name h
    by false false h = other h

pub text_is : (v : Word) (text t : List ℕ) → is_only v text ≡ true → word_of t ≡ v → t ≡ text
unfolding word_of keyword mark
text_is v text t o h =
    let a = split_and (not (same w.Name v)) (not (same w.Number v) && (not (same w.LeftOut v) && (only_in keywords v text && only_in marks v text))) o in
    let b = split_and (not (same w.Number v)) (not (same w.LeftOut v) && (only_in keywords v text && only_in marks v text)) a.1 in
    let c = split_and (not (same w.LeftOut v)) (only_in keywords v text && only_in marks v text) b.1 in
    let d = split_and (only_in keywords v text) (only_in marks v text) c.1 in
    let never = not_unspelled v t (no_word w.Name v a.0) (no_word w.Number v b.0) (no_word w.LeftOut v c.0) in
    by_keyword d.0 d.1 never (lookup keywords t) refl h
  where
    by_mark : only_in marks v text ≡ true → (unspelled t ≡ v → ⊥) → (x : Option Word) → lookup marks t ≡ x → or_unspelled t x ≡ v → t ≡ text
    by_mark m never (Some u) e h = in_table marks v text t m (e ∙ ap Some h)
    by_mark m never None e h = absurd (never h)

    by_keyword : only_in keywords v text ≡ true → only_in marks v text ≡ true → (unspelled t ≡ v → ⊥) → (x : Option Word) → lookup keywords t ≡ x → or_mark t x ≡ v → t ≡ text
    by_keyword k m never (Some u) e h = in_table keywords v text t k (e ∙ ap Some h)
    by_keyword k m never None e h = by_mark m never (lookup marks t) refl h

pub one_of_texts : (spelled : Word → List ℕ) (vs : List Word) (t : List ℕ) → are_only spelled vs ≡ true → within V vs (word_of t) ≡ true → t ≡ spelled (word_of t)
one_of_texts spelled [] t o h = absurd (differ false h refl)
one_of_texts spelled (v ∷ vs) t o h =
    let both = split_and (is_only v (spelled v)) (are_only spelled vs) o in
    (elim (same v (word_of t)) as (λ b. same v (word_of t) ≡ b → (if b then true else within V vs (word_of t)) ≡ true → t ≡ spelled (word_of t)) [
      | true ↦ λ e k. (let is : v ≡ word_of t = lexical.same_is v (word_of t) e in text_is v (spelled v) t both.0 (sym is) ∙ ap spelled is)
      | false ↦ λ e k. one_of_texts spelled vs t both.1 k
    ]) refl h
