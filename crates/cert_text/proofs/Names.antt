-- Names as words.
use Rattle.std.proofs.Common.{◌≡◌, ℕ, ◌<◌, Bool, true, cond, ltb, leb, List, [], ◌∷◌, length, Some, None, refl, ap, subst, arith}
use Rattle.std.specs.List.{list_all}
use Rattle.std.proofs.lemmas.Bool.{leb-true, ne_eqb, and_parts}
use Rattle.line_text.specs.Lines.{Lacks, IsWord}
use Rattle.line_text.specs.Reading.{line_by}
use Rattle.line_text.specs.Tagged.{tagged}
use Rattle.line_text.proofs.Laws.{IsReaderOf, law_line, some_is}
use Rattle.line_text.proofs.Words.{IsWordOf, law_tagged, chosen}
use Rattle.cert_text.specs.Points.{is_visible, is_name, IsName}
use Rattle.cert_text.specs.Certs.{name_of, named_of}

visible_lacks : (byte : ℕ) → byte < 33 → (bs : List ℕ) → list_all is_visible bs ≡ true → Lacks byte bs
visible_lacks byte lt [] e = tt
visible_lacks byte lt (b ∷ bs) e =
    let p = and_parts (is_visible b) (list_all is_visible bs) e in
    let q = and_parts (leb 33 b) (leb b 126) p.0 in
    (ne_eqb b byte (λ w. absurd (omega (arith, leb-true 33 b q.0, w))), visible_lacks byte lt bs p.1)

pub name_word : (bs : List ℕ) → IsName bs → IsWord bs
name_word bs e =
    let p = and_parts (ltb 0 (length bs)) (list_all is_visible bs) e in
    (visible_lacks 32 (omega arith) bs p.1, visible_lacks 10 (omega arith) bs p.1)

pub law_name : IsWordOf (λ w. w) IsName name_of
law_name = record {
  takes = λ w x e.
      let c = chosen (is_name w) (Some w) x e in
      let q : w ≡ x = some_is w x c.1 in
      (q, subst IsName q c.0);
  again = λ x fits. ap (λ (t : Bool). cond t (Some x) None) fits;
  some = (97 ∷ [], refl);
  word = name_word;
}

pub named_reader : (tag : List ℕ) → IsWord tag → IsReaderOf (λ x. tagged tag x ∷ []) (λ _ x. IsName x) (line_by (named_of tag))
named_reader tag w = law_line (λ x. tagged tag x) IsName (named_of tag) (law_tagged tag (λ x. x) IsName name_of w law_name) law_name.some
