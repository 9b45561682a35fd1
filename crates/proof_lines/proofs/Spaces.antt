-- Words of a line, put one by one with a space behind each.
use Rattle.std.proofs.Common.{◌≡◌, ℕ, List, [], ◌∷◌, ◌++◌, map, decimal, codes, refl, sym, ap, ◌∙◌, append_assoc}
use Rattle.std.specs.List.{join_with_byte}
use Rattle.cnf_core.specs.Literal.{Literal}
use Rattle.line_text.specs.Lines.{Line as Words, line_text}
use Rattle.proof_lines.specs.Spelling.{literal_word, addition_words, deletion_words}
use Rattle.proof_lines.specs.Spaced.{spaced, addition_text, deletion_text}

join-spaced : (xs : Words) (w : List ℕ) (ws : Words) → join_with_byte 32 (xs ++ w ∷ ws) ≡ spaced xs ++ join_with_byte 32 (w ∷ ws)
join-spaced [] w ws = refl
join-spaced (x ∷ []) w ws = sym (simp append_assoc)
join-spaced (x ∷ y ∷ ys) w ws =
    ap (λ (t : List ℕ). x ++ (32 ∷ t)) (join-spaced (y ∷ ys) w ws)
    ∙ sym (append_assoc x (32 ∷ []) (spaced (y ∷ ys) ++ join_with_byte 32 (w ∷ ws)))
    ∙ sym (append_assoc (x ++ 32 ∷ []) (spaced (y ∷ ys)) (join_with_byte 32 (w ∷ ws)))

line_text-spaced : (xs : Words) (w : List ℕ) (ws : Words) → line_text (xs ++ w ∷ ws) ≡ spaced xs ++ line_text (w ∷ ws)
line_text-spaced xs w ws =
    ap (λ (t : List ℕ). t ++ 10 ∷ []) (join-spaced xs w ws) ∙ append_assoc (spaced xs) (join_with_byte 32 (w ∷ ws)) (10 ∷ [])

spaced-append : (xs ys : Words) → spaced (xs ++ ys) ≡ spaced xs ++ spaced ys
spaced-append [] ys = refl
spaced-append (x ∷ xs) ys = ap (λ (t : List ℕ). (x ++ 32 ∷ []) ++ t) (spaced-append xs ys) ∙ sym (append_assoc (x ++ 32 ∷ []) (spaced xs) (spaced ys))

pub addition-text : (id : ℕ) (lits : List Literal) (hints : List ℕ) → line_text (addition_words id lits hints) ≡ addition_text id lits hints
addition-text id lits hints =
    let ls : Words = map literal_word lits in
    let hs : Words = map decimal hints in
    line_text-spaced (decimal id ∷ ls ++ codes "0" ∷ hs) (codes "0") []
    ∙ ap (λ (t : List ℕ). t ++ (48 ∷ 10 ∷ [])) (spaced-append (decimal id ∷ ls) (codes "0" ∷ hs) ∙ sym (append_assoc ((decimal id ++ 32 ∷ []) ++ spaced ls) (48 ∷ 32 ∷ []) (spaced hs)))

pub deletion-text : (id : ℕ) (ids : List ℕ) → line_text (deletion_words id ids) ≡ deletion_text id ids
deletion-text id ids =
    line_text-spaced (decimal id ∷ codes "d" ∷ map decimal ids) (codes "0") []
    ∙ ap (λ (t : List ℕ). t ++ (48 ∷ 10 ∷ [])) (append_assoc (decimal id) (32 ∷ []) (100 ∷ 32 ∷ spaced (map decimal ids)) ∙ sym (append_assoc (decimal id) (32 ∷ 100 ∷ 32 ∷ []) (spaced (map decimal ids))))
