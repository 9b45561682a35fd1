-- Kinds of cover points as words.
use Rattle.std.proofs.Common.{◌≡◌, ℕ, Bool, true, false, cond, List, [], ◌∷◌, ◌||◌, Option, Some, None, refl, sym, ap, ◌∙◌, subst, codes}
use Rattle.std.specs.Str.{bytes_eq}
use Rattle.design_core.specs.declared.setup.Kinds.{Kinds}
use Rattle.line_text.specs.Lines.{IsWord}
use Rattle.line_text.specs.Reading.{line_by}
use Rattle.line_text.specs.Tagged.{tagged}
use Rattle.line_text.proofs.Laws.{IsReaderOf, law_line, some_is}
use Rattle.line_text.proofs.Words.{IsWordOf, law_tagged, same_bytes, word_from}
use Rattle.cert_text.specs.Kinds.{kinds_word, kinds_named, AreBuilt, kinds_of, kinds_line_of}

abbrev Takes : List ℕ → Kinds → Type 0
Takes w k = (w ≡ kinds_word k) × AreBuilt k

kinds_by : (w : List ℕ) (k : Kinds) (s b both : Bool) → bytes_eq w (codes "s") ≡ s → bytes_eq w (codes "b") ≡ b → bytes_eq w (codes "sb") ≡ both →
    cond s (Some (kinds_named true false)) (cond b (Some (kinds_named false true)) (cond both (Some (kinds_named true true)) None)) ≡ Some k → Takes w k
kinds_by w k true b both e g h t = subst (Takes w) (some_is (kinds_named true false) k t) (same_bytes w (codes "s") e, record { some = refl; alone = refl })
kinds_by w k false true both e g h t = subst (Takes w) (some_is (kinds_named false true) k t) (same_bytes w (codes "b") g, record { some = refl; alone = refl })
kinds_by w k false false true e g h t = subst (Takes w) (some_is (kinds_named true true) k t) (same_bytes w (codes "sb") h, record { some = refl; alone = refl })
kinds_by w k false false false e g h t = absurd cc

named_again : (s b : Bool) → (s || b) ≡ true → kinds_of (kinds_word (kinds_named s b)) ≡ Some (kinds_named s b)
named_again true true some = refl
named_again true false some = refl
named_again false true some = refl
named_again false false some = absurd cc

named_word : (s b : Bool) → IsWord (kinds_word (kinds_named s b))
named_word true true = word_from (codes "sb") refl
named_word true false = word_from (codes "s") refl
named_word false true = word_from (codes "b") refl
named_word false false = word_from (codes "") refl

pub kinds_again : (k : Kinds) → AreBuilt k → kinds_of (kinds_word k) ≡ Some k
kinds_again k built = ap (λ (x : Kinds). kinds_of (kinds_word x)) built.alone ∙ named_again k.s k.b built.some ∙ sym (ap (λ (x : Kinds). Some x) built.alone)

pub kinds_take : (w : List ℕ) (k : Kinds) → kinds_of w ≡ Some k → (w ≡ kinds_word k) × AreBuilt k
kinds_take w k e = kinds_by w k (bytes_eq w (codes "s")) (bytes_eq w (codes "b")) (bytes_eq w (codes "sb")) refl refl refl e

law_kinds : IsWordOf kinds_word AreBuilt kinds_of
law_kinds = record {
  takes = kinds_take;
  again = kinds_again;
  some = (kinds_named true false, record { some = refl; alone = refl });
  word = λ k built. let P : Kinds → Type 0 = λ x. IsWord (kinds_word x) in subst P (sym built.alone) (named_word k.s k.b);
}

pub kinds_reader : (tag : List ℕ) → IsWord tag → IsReaderOf (λ k. tagged tag (kinds_word k) ∷ []) (λ _ k. AreBuilt k) (line_by (kinds_line_of tag))
kinds_reader tag w = law_line (λ k. tagged tag (kinds_word k)) AreBuilt (kinds_line_of tag) (law_tagged tag kinds_word AreBuilt kinds_of w law_kinds) law_kinds.some
