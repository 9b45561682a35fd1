-- What loops that list updates have still to do.
use Rattle.std.proofs.Common.{◌≡◌, ℕ, suc, ◌+◌, ◌-◌, ◌/◌, ◌%◌, ◌<◌, nat_eq, Bool, List, [], ◌∷◌, ◌++◌, length, drop, get_or, sym, ap, ◌∙◌, add-one, arith}
use Rattle.std.proofs.lemmas.List.{append_assoc, drop_more}
use Rattle.word_core.specs.Words.{bits_of}
use Rattle.bit_exprs.specs.declared.forms.Window.{Window}
use Rattle.bit_exprs.specs.Indices.{names_place}
use Rattle.bit_exprs.specs.Updates.{written, written_where, selected_updates}

-- some of what is left was listed
pub one_more : (us us' a left rest total : List (ℕ × Bool)) → us' ≡ us ++ a → left ≡ a ++ rest → us ++ left ≡ total → us' ++ rest ≡ total
one_more us us' a left rest total e split so_far =
    ap (λ x. x ++ rest) e ∙ append_assoc us a rest ∙ ap (λ x. us ++ x) (sym split) ∙ so_far

-- ---- what is left, apart

bits_more : (n m k : ℕ) → n ≡ suc m → bits_of n k ≡ nat_eq (k % 2) 1 ∷ bits_of m (k / 2)
bits_more n m k e = ap (λ j. bits_of j k) e

pub bits_split : (bits : List ℕ) (i rest : ℕ) → i < length bits →
    written (drop i bits) (bits_of (length bits - i) rest) ≡ ((get_or bits i 0, nat_eq (rest % 2) 1) ∷ []) ++ written (drop (i + 1) bits) (bits_of (length bits - (i + 1)) (rest / 2))
bits_split bits i rest lt =
    ap (λ bs. written bs (bits_of (length bits - i) rest)) (drop_more bits i 0 lt)
    ∙ ap (written (get_or bits i 0 ∷ drop (i + 1) bits)) (bits_more (length bits - i) (length bits - (i + 1)) rest (omega arith))

pub selected_split : (window : Window) (vector : List ℕ) (w : ℕ) (signed : Bool) (a n k rest : ℕ) → k < n →
    selected_updates window vector w signed a k (bits_of (n - k) rest)
    ≡ written_where (names_place window w signed a k) 0 vector (nat_eq (rest % 2) 1) ++ selected_updates window vector w signed a (k + 1) (bits_of (n - (k + 1)) (rest / 2))
selected_split window vector w signed a n k rest lt =
    ap (selected_updates window vector w signed a k) (bits_more (n - k) (n - (k + 1)) rest (omega arith))
    ∙ ap (λ j. written_where (names_place window w signed a k) 0 vector (nat_eq (rest % 2) 1) ++ selected_updates window vector w signed a j (bits_of (n - (k + 1)) (rest / 2))) (sym (add-one k))
