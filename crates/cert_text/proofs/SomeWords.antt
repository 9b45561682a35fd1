-- A text has a word at least.
use Rattle.std.proofs.Common.{◌≡◌, ℕ, List, [], Option, Some, None, refl, sym, ap, ◌∙◌}
use Rattle.line_text.specs.Lines.{Line, cut, words, words_after}
use Rattle.line_text.proofs.Cutting.{words_of_cut, words_at_cut}
use Rattle.cert_text.specs.Ladders.{lits_after, lits_of}

some_cut : (bs : List ℕ) (o : Option (List ℕ × List ℕ)) → lits_of (words_of_cut bs o) ≡ lits_after [] (words_of_cut bs o)
some_cut bs None = refl
some_cut bs (Some p) = refl

some_words : (bs : List ℕ) → lits_of (words bs) ≡ lits_after [] (words bs)
some_words bs =
    let e = words_at_cut bs (cut 32 bs) refl in
    ap lits_of e ∙ some_cut bs (cut 32 bs) ∙ ap (λ (l : Line). lits_after [] l) (sym e)

pub lits_some : (o : Option (List ℕ)) (bs : List ℕ) → o ≡ Some bs → lits_of (words_after o) ≡ lits_after [] (words_after o)
lits_some o bs e = ap (λ (p : Option (List ℕ)). lits_of (words_after p)) e ∙ some_words bs ∙ ap (λ (p : Option (List ℕ)). lits_after [] (words_after p)) (sym e)
