-- Words where none may be left.
use Rattle.std.proofs.Common.{◌≡◌, ℕ, false, List, Option, Some, None, refl, ap, ◌∙◌}
use Rattle.line_text.specs.Lines.{cut, words}
use Rattle.line_text.proofs.Cutting.{words_of_cut, words_at_cut}
use Rattle.proof_lines.specs.Reading.{only, is_nothing}

only_cut : {X : Type 0} (x : X) (bs : List ℕ) (o : Option (List ℕ × List ℕ)) → only x (words_of_cut bs o) ≡ None
only_cut x bs None = refl
only_cut x bs (Some p) = refl

pub only_more : {X : Type 0} (x : X) (bs : List ℕ) → only x (words bs) ≡ None
only_more x bs = ap (only x) (words_at_cut bs (cut 32 bs) refl) ∙ only_cut x bs (cut 32 bs)

nothing_cut : (bs : List ℕ) (o : Option (List ℕ × List ℕ)) → is_nothing (words_of_cut bs o) ≡ false
nothing_cut bs None = refl
nothing_cut bs (Some p) = refl

pub nothing_more : (bs : List ℕ) → is_nothing (words bs) ≡ false
nothing_more bs = ap is_nothing (words_at_cut bs (cut 32 bs) refl) ∙ nothing_cut bs (cut 32 bs)
