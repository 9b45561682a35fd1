-- Turn by turn, what was found and the tokens of the rest are the tokens of the text.
use Rattle.std.proofs.Common.{◌≡◌, ◌≤◌, ◌<◌, ◌+◌, ◌==◌, ℕ, Bool, true, false, if◌then◌else◌, List, [], ◌∷◌, ◌++◌, length, take, drop, refl, sym, ◌∙◌, ap, subst, arith, append_assoc, length-append, Option, Some, None, Ok, Err}
use Rattle.std.proofs.lemmas.List.{append-nil, take-append-drop, take_at, drop_at, length-take-le}
use Rattle.word_core.specs.declared.place.Place.{Place}
use Rattle.vlog_tokens.specs.declared.error.LexError.{LexError}
use Rattle.vlog_tokens.specs.declared.error.LexError.TheVariants.{BadChar, BadNumber, Unclosed}
use Rattle.vlog_tokens.specs.declared.gap.Opening.TheVariants.{Other}
use Rattle.vlog_tokens.specs.declared.turn.Turn.TheVariants.{NoEnd, NoValue, Nothing}
use Rattle.vlog_tokens.specs.Gaps.{opening, IsGap, IsUnclosed}
use Rattle.vlog_tokens.specs.Places.{start, step, past}
use Rattle.vlog_tokens.specs.Reads.{is_bad_number, Stops, unclosed, bad_number, bad_char, Reads, ends, stops, gap, token, Divided}
use Rattle.vlog_tokens.specs.Tokens.{Token, IsLongest}
use Rattle.vlog_tokens.proofs.Turns.{IsPass, IsTake, IsNoValue, IsNothing}

-- ---- bounds

step_line : (at : Place) (b : ℕ) → (step at b).line ≤ at.line + 1
step_line at b = elim (b == 10) as (λ v. let q : Place = if v then record { line = at.line + 1; col = 1 } else record { line = at.line; col = at.col + 1 } in q.line ≤ at.line + 1) [ true ↦ omega arith | false ↦ omega arith ]

step_col : (at : Place) (b : ℕ) → (step at b).col ≤ at.col + 1
step_col at b = elim (b == 10) as (λ v. let q : Place = if v then record { line = at.line + 1; col = 1 } else record { line = at.line; col = at.col + 1 } in q.col ≤ at.col + 1) [ true ↦ omega arith | false ↦ omega arith ]

pub past_line : (at : Place) (bs : List ℕ) → (past at bs).line ≤ at.line + length bs
past_line at [] = omega arith
past_line at (b ∷ bs) = let h = past_line (step at b) bs in omega (arith, h, step_line at b)

pub past_col : (at : Place) (bs : List ℕ) → (past at bs).col ≤ at.col + length bs
past_col at [] = omega arith
past_col at (b ∷ bs) = let h = past_col (step at b) bs in omega (arith, h, step_col at b)

-- ---- the tokens so far

pub record IsUpTo (text : List ℕ) (from : ℕ) (at : Place) (rest : List ℕ) (found : List Token) : Type 0 where
  pub line : at.line + length rest ≤ 4194305
  pub col : at.col + length rest ≤ 4194305
  pub whole : from + length rest ≤ 4194304
  pub reads : (ts : List Token) (stop : Option LexError) → Reads from at rest ts stop → Reads 0 start text (found ++ ts) stop

pub begun : (text : List ℕ) → length text ≤ 4194304 → IsUpTo text 0 start text []
begun text h = record { line = omega (arith, h); col = omega (arith, h); whole = omega (arith, h); reads = λ ts stop r. r }

-- the fields that speak of bounds, behind some bytes
pass_at : (text : List ℕ) (from : ℕ) (at : Place) (taken more : List ℕ) (found : List Token) → IsUpTo text from at (taken ++ more) found → IsGap (opening (taken ++ more)) taken more
    → IsUpTo text (from + length taken) (past at taken) more found
pass_at text from at taken more found u g =
    let parts = length-append taken more in
    record {
      line = let l = past_line at taken in omega (arith, l, u.line, parts);
      col = let l = past_col at taken in omega (arith, l, u.col, parts);
      whole = omega (arith, u.whole, parts);
      reads = λ ts stop r. u.reads ts stop (gap from at taken more ts stop g r);
    }

take_at_front : (text : List ℕ) (from : ℕ) (at : Place) (taken more : List ℕ) (found : List Token) → IsUpTo text from at (taken ++ more) found → opening (taken ++ more) ≡ Other
    → IsLongest taken more → is_bad_number taken ≡ false → IsUpTo text (from + length taken) (past at taken) more (found ++ record { text = taken; at = at; from = from } ∷ [])
take_at_front text from at taken more found u o l good =
    let parts = length-append taken more in
    let t : Token = record { text = taken; at = at; from = from } in
    record {
      line = let l = past_line at taken in omega (arith, l, u.line, parts);
      col = let l = past_col at taken in omega (arith, l, u.col, parts);
      whole = omega (arith, u.whole, parts);
      reads = λ ts stop r. subst (λ z. Reads 0 start text z stop) (sym (append_assoc found (record { text = taken; at = at; from = from } ∷ []) ts)) (u.reads (record { text = taken; at = at; from = from } ∷ ts) stop (token from at taken more ts stop o l good r));
    }

pub moved : (text : List ℕ) (from f : ℕ) (at place : Place) (rest behind : List ℕ) (found further : List Token) → f ≡ from → place ≡ at → behind ≡ rest → further ≡ found
    → IsUpTo text from at rest found → IsUpTo text f place behind further
moved text from f at place rest behind found further e p b m u =
    subst (λ z. IsUpTo text z place behind further) (sym e) (subst (λ z. IsUpTo text from z behind further) (sym p) (subst (λ z. IsUpTo text from at z further) (sym b) (subst (λ z. IsUpTo text from at rest z) (sym m) u)))

pub pass_turn : (text : List ℕ) (from : ℕ) (at : Place) (rest : List ℕ) (found : List Token) (n : ℕ) → IsUpTo text from at rest found → IsPass rest n
    → IsUpTo text (from + n) (past at (take n rest)) (drop n rest) found
pass_turn text from at rest found n u P =
    let front : take n rest ≡ P.gap = ap (λ (z : List ℕ). take n z) P.whole ∙ take_at P.gap P.rest n P.long in
    let back : drop n rest ≡ P.rest = ap (λ (z : List ℕ). drop n z) P.whole ∙ drop_at P.gap P.rest n P.long in
    let up : IsUpTo text from at (P.gap ++ P.rest) found = subst (λ z. IsUpTo text from at z found) P.whole u in
    let g : IsGap (opening (P.gap ++ P.rest)) P.gap P.rest = subst (λ z. IsGap (opening z) P.gap P.rest) P.whole P.is_gap in
    moved text (from + length P.gap) (from + n) (past at P.gap) (past at (take n rest)) P.rest (drop n rest) found found
    (ap (λ (z : ℕ). from + z) (sym P.long)) (ap (λ (z : List ℕ). past at z) front) back refl (pass_at text from at P.gap P.rest found up g)

pub take_turn : (text : List ℕ) (from : ℕ) (at : Place) (rest : List ℕ) (found : List Token) (n : ℕ) → IsUpTo text from at rest found → IsTake rest n
    → IsUpTo text (from + n) (past at (take n rest)) (drop n rest) (found ++ record { text = take n rest; at = at; from = from } ∷ [])
take_turn text from at rest found n u T =
    let whole : rest ≡ take n rest ++ drop n rest = sym (take-append-drop n rest) in
    let long : length (take n rest) ≡ n = length-take-le n rest T.within in
    let up : IsUpTo text from at (take n rest ++ drop n rest) found = subst (λ z. IsUpTo text from at z found) whole u in
    let o : opening (take n rest ++ drop n rest) ≡ Other = subst (λ z. opening z ≡ Other) whole T.solid in
    subst (λ z. IsUpTo text (from + z) (past at (take n rest)) (drop n rest) (found ++ record { text = take n rest; at = at; from = from } ∷ [])) long
    (take_at_front text from at (take n rest) (drop n rest) found up o T.longest T.good)

-- ---- the ends

pub all_read : (text : List ℕ) (from : ℕ) (at : Place) (rest : List ℕ) (found : List Token) → IsUpTo text from at rest found → length rest < 1 → Divided text (Ok found)
all_read text from at [] found u le = subst (λ z. Reads 0 start text z None) (append-nil found) (u.reads [] None (ends from at))
all_read text from at (b ∷ bs) found u le = absurd (omega (arith, le))

stopped : (text : List ℕ) (from : ℕ) (at : Place) (rest : List ℕ) (found : List Token) (error : LexError) → IsUpTo text from at rest found → Stops at rest error → Reads 0 start text (found ++ []) (Some error)
stopped text from at rest found error u s = u.reads [] (Some error) (stops from at rest error s)

pub no_end : (text : List ℕ) (from : ℕ) (at : Place) (rest : List ℕ) (found : List Token) → IsUpTo text from at rest found → IsUnclosed (opening rest) rest → Divided text (Err (Unclosed at))
no_end text from at rest found u h = (found ++ [], stopped text from at rest found (Unclosed at) u (unclosed at rest h))

pub no_value : (text : List ℕ) (from : ℕ) (at : Place) (rest : List ℕ) (found : List Token) → IsUpTo text from at rest found → IsNoValue rest → Divided text (Err (BadNumber at))
no_value text from at rest found u N =
    let whole : rest ≡ take N.long rest ++ drop N.long rest = sym (take-append-drop N.long rest) in
    let o : opening (take N.long rest ++ drop N.long rest) ≡ Other = subst (λ z. opening z ≡ Other) whole N.solid in
    let s : Stops at (take N.long rest ++ drop N.long rest) (BadNumber at) = bad_number at (take N.long rest) (drop N.long rest) o N.longest N.bad in
    (found ++ [], stopped text from at rest found (BadNumber at) u (subst (λ z. Stops at z (BadNumber at)) (sym whole) s))

pub nothing : (text : List ℕ) (from : ℕ) (at : Place) (rest : List ℕ) (found : List Token) → IsUpTo text from at rest found → 1 ≤ length rest → IsNothing rest → Divided text (Err (BadChar at))
nothing text from at [] found u le N = absurd (omega (arith, le))
nothing text from at (b ∷ bs) found u le N = (found ++ [], stopped text from at (b ∷ bs) found (BadChar at) u (bad_char at b bs N.solid N.none))
