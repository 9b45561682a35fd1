-- What is written token by token is the text of the tokens.
use Rattle.std.proofs.Common.{◌≡◌, ℕ, ◌<◌, List, [], ◌∷◌, ◌++◌, length, sym, ◌∙◌, ap, arith, append_assoc}
use Rattle.std.proofs.lemmas.List.{append-nil}
use Rattle.vlog_tokens.specs.Tokens.{Token}
use Rattle.token_text.specs.Printing.{texts, ends_line, space_before, feed_behind, printed_from, printed, Written, nothing, with_token, with_tokens}

parts : (a s t f p : List ℕ) → (((a ++ s) ++ t) ++ f) ++ p ≡ a ++ (s ++ (t ++ (f ++ p)))
parts a s t f p = simp append_assoc

pub written_is : (w : Written) (ts : List (List ℕ)) → (with_tokens w ts).bytes ≡ w.bytes ++ printed_from w.is_fresh ts
unfolding with_tokens printed_from
written_is w [] = sym (append-nil w.bytes)
written_is w (t ∷ ts) =
    written_is (with_token w t) ts
    ∙ parts w.bytes (space_before w.is_fresh) t (feed_behind (ends_line t)) (printed_from (ends_line t) ts)

-- what is written when no token is left
pub all_written : (w : Written) (rest : List Token) (ts : List (List ℕ)) → length rest < 1 → with_tokens w (texts rest) ≡ with_tokens nothing ts → w.bytes ≡ printed ts
unfolding with_tokens
all_written w [] ts l e = ap (λ (z : Written). z.bytes) e ∙ written_is nothing ts
all_written w (t ∷ more) ts l e = absurd (omega (arith, l))
