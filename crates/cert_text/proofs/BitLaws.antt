-- Lists of bits as words.
use Rattle.std.proofs.Common.{◌≡◌, ℕ, ◌<◌, Bool, true, false, cond, eqb, List, [], ◌∷◌, ◌++◌, length, map, Some, None, refl, sym, ap, ◌∙◌, append_assoc, arith}
use Rattle.std.specs.Prelude.{option_and_then}
use Rattle.std.specs.Str.{bytes_eq}
use Rattle.std.proofs.lemmas.Bool.{eqb-true, ne_eqb}
use Rattle.std.proofs.lemmas.List.{append-nil}
use Rattle.line_text.specs.Lines.{Lacks, IsWord}
use Rattle.line_text.specs.Reading.{line_by}
use Rattle.line_text.specs.Tagged.{tagged}
use Rattle.line_text.proofs.Laws.{IsReaderOf, law_line, some_is}
use Rattle.line_text.proofs.Words.{IsWordOf, law_tagged, and_then_some, same_bytes}
use Rattle.cert_text.specs.Spelling.{bit, bits_word}
use Rattle.cert_text.specs.Certs.{bit_of, bits_after, bits_of, bits_line_of}

bit_is : (b : ℕ) (x : Bool) (s t : Bool) → eqb b 48 ≡ s → eqb b 49 ≡ t → cond s (Some false) (cond t (Some true) None) ≡ Some x → b ≡ bit x
bit_is b x true t e h w = eqb-true b 48 e ∙ ap bit (some_is false x w)
bit_is b x false true e h w = eqb-true b 49 h ∙ ap bit (some_is true x w)
bit_is b x false false e h w = absurd cc

bit_again : (x : Bool) → bit_of (bit x) ≡ Some x
bit_again true = refl
bit_again false = refl

record Bits (seen : List Bool) (w : List ℕ) (xs : List Bool) : Type 0 where
  new : List Bool
  all : xs ≡ seen ++ new
  word : w ≡ map bit new

bits_take : (w : List ℕ) (seen xs : List Bool) → bits_after seen w ≡ Some xs → Bits seen w xs
bits_take [] seen xs e = record { new = []; all = sym (some_is seen xs e) ∙ sym (append-nil seen); word = refl }
bits_take (b ∷ bs) seen xs e =
    let a = and_then_some (λ x. bits_after (seen ++ x ∷ []) bs) (bit_of b) xs e in
    let i = bits_take bs (seen ++ a.0 ∷ []) xs a.2 in
    record {
      new = a.0 ∷ i.new;
      all = i.all ∙ append_assoc seen (a.0 ∷ []) i.new;
      word = ap (λ (x : ℕ). x ∷ bs) (bit_is b a.0 (eqb b 48) (eqb b 49) refl refl a.1) ∙ ap (λ (x : List ℕ). bit a.0 ∷ x) i.word;
    }

bits_again_after : (xs seen : List Bool) → bits_after seen (map bit xs) ≡ Some (seen ++ xs)
bits_again_after [] seen = ap (λ (x : List Bool). Some x) (sym (append-nil seen))
bits_again_after (x ∷ xs) seen =
    ap (option_and_then (λ x. bits_after (seen ++ x ∷ []) (map bit xs))) (bit_again x)
    ∙ bits_again_after xs (seen ++ x ∷ []) ∙ ap (λ (y : List Bool). Some y) (append_assoc seen (x ∷ []) xs)

bits_more : (b : ℕ) (bs : List ℕ) (xs new : List Bool) → xs ≡ new → b ∷ bs ≡ map bit new → b ∷ bs ≡ bits_word xs
bits_more b bs xs [] e h = absurd cc
bits_more b bs xs (x ∷ ys) e h = h ∙ ap bits_word (sym e)

bits_by : (w : List ℕ) (xs : List Bool) (dash empty : Bool) → bytes_eq w (45 ∷ []) ≡ dash → eqb (length w) 0 ≡ empty → cond dash (Some []) (cond empty None (bits_after [] w)) ≡ Some xs → w ≡ bits_word xs
bits_by w xs true empty d n e = same_bytes w (45 ∷ []) d ∙ ap bits_word (some_is [] xs e)
bits_by w xs false true d n e = absurd cc
bits_by [] xs false false d n e = absurd cc
bits_by (b ∷ bs) xs false false d n e =
    let t = bits_take (b ∷ bs) [] xs e in
    bits_more b bs xs t.new t.all t.word

dashed : (x : Bool) (xs : List Bool) → bytes_eq (bit x ∷ map bit xs) (45 ∷ []) ≡ false
dashed true xs = refl
dashed false xs = refl

bits_again : (xs : List Bool) → bits_of (bits_word xs) ≡ Some xs
bits_again [] = refl
bits_again (x ∷ xs) =
    ap (λ (t : Bool). cond t (Some []) (cond (eqb (length (bit x ∷ map bit xs)) 0) None (bits_after [] (bit x ∷ map bit xs)))) (dashed x xs)
    ∙ ap (λ (t : Bool). cond t None (bits_after [] (bit x ∷ map bit xs))) (ne_eqb (length (bit x ∷ map bit xs)) 0 (λ e. absurd (omega arith)))
    ∙ bits_again_after (x ∷ xs) []

bit_apart : (byte : ℕ) → byte < 48 → (x : Bool) → eqb (bit x) byte ≡ false
bit_apart byte lt true = ne_eqb 49 byte (λ e. absurd (omega (arith, e)))
bit_apart byte lt false = ne_eqb 48 byte (λ e. absurd (omega (arith, e)))

bits_lack : (byte : ℕ) → byte < 48 → (xs : List Bool) → Lacks byte (map bit xs)
bits_lack byte lt [] = tt
bits_lack byte lt (x ∷ xs) = (bit_apart byte lt x, bits_lack byte lt xs)

bits_are_word : (xs : List Bool) → IsWord (bits_word xs)
bits_are_word [] = ((refl, tt), (refl, tt))
bits_are_word (x ∷ xs) = (bits_lack 32 (omega arith) (x ∷ xs), bits_lack 10 (omega arith) (x ∷ xs))

pub law_bits : IsWordOf bits_word (λ _. Unit {0}) bits_of
law_bits = record {
  takes = λ w xs e. (bits_by w xs (bytes_eq w (45 ∷ [])) (eqb (length w) 0) refl refl e, tt);
  again = λ xs fits. bits_again xs;
  some = ([], tt);
  word = λ xs fits. bits_are_word xs;
}

pub bits_reader : (tag : List ℕ) → IsWord tag → IsReaderOf (λ b. tagged tag (bits_word b) ∷ []) (λ _ _. Unit {0}) (line_by (bits_line_of tag))
bits_reader tag w = law_line (λ b. tagged tag (bits_word b)) (λ _. Unit {0}) (bits_line_of tag) (law_tagged tag bits_word (λ _. Unit {0}) bits_of w law_bits) law_bits.some
