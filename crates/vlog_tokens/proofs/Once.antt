-- A text is read in one way: its tokens, and where they end, are determined.
use Rattle.std.proofs.Common.{◌≡◌, ◌≤◌, ◌<◌, ◌+◌, ◌==◌, ℕ, suc, Bool, true, false, not, cond, List, [], ◌∷◌, ◌++◌, ◌⊎◌, inl, inr, length, take, drop, refl, sym, ◌∙◌, ap, subst, arith, append_assoc, length-append, Option, Some, None}
use Rattle.std.specs.List.{list_all, prefix_len}
use Rattle.std.proofs.lemmas.List.{take-append-drop, take_at, drop_at, append-nil, length-take-le}
use Rattle.word_core.specs.declared.place.Place.{Place}
use Rattle.vlog_tokens.specs.declared.error.LexError.{LexError}
use Rattle.vlog_tokens.specs.declared.error.LexError.TheVariants.{BadChar, BadNumber, Unclosed}
use Rattle.vlog_tokens.specs.declared.gap.Opening.{Opening}
use Rattle.vlog_tokens.specs.declared.gap.Opening.TheVariants.{Blank, Line, Block, Attribute, Other}
use Rattle.vlog_tokens.specs.declared.turn.Turn.{Turn}
use Rattle.vlog_tokens.specs.declared.turn.Turn.TheVariants.{Pass, Take, NoEnd, NoValue, Nothing}
use Rattle.vlog_tokens.specs.Gaps.{opening, is_in_line, ends_line, Closes, IsGap, NeverCloses, IsUnclosed}
use Rattle.vlog_tokens.specs.Places.{past}
use Rattle.vlog_tokens.specs.Reads.{is_bad_number, Stops, unclosed, bad_number, bad_char, Reads, ends, stops, gap, token, turn}
use Rattle.vlog_tokens.specs.Tokens.{Token, IsToken, IsLongest, NoToken}
use Rattle.vlog_tokens.proofs.Tests.{differ, run_on}
use Rattle.vlog_tokens.proofs.Longest.{token_some}
use Rattle.vlog_tokens.proofs.Turns.{IsPass, IsTake, IsNoValue, IsNothing, IsTurn, turn_is}

-- ---- two ways to cut a list

abbrev Cut : List ℕ → List ℕ → List ℕ → List ℕ → Type 0
Cut us r vs q = ((more : List ℕ) × (vs ≡ us ++ more) × (r ≡ more ++ q)) ⊎ ((more : List ℕ) × (us ≡ vs ++ more) × (q ≡ more ++ r))

cut : (us r vs q : List ℕ) → us ++ r ≡ vs ++ q → Cut us r vs q
cut [] r vs q e = inl (vs, refl, e)
cut (u ∷ us) r [] q e = inr (u ∷ us, refl, sym e)
cut (u ∷ us) r (v ∷ vs) q e =
    let same : u ≡ v = cc in
    let rest : us ++ r ≡ vs ++ q = cc in
    elim (cut us r vs q rest) [
      | inl h ↦ inl (h.0, subst (λ z. v ∷ vs ≡ z ∷ (us ++ h.0)) (sym same) (ap (λ (z : List ℕ). v ∷ z) h.1), h.2)
      | inr h ↦ inr (h.0, subst (λ z. u ∷ us ≡ z ∷ (vs ++ h.0)) same (ap (λ (z : List ℕ). u ∷ z) h.1), h.2)
    ]

-- fronts of one length are the same
pub same_front : (us r vs q : List ℕ) → us ++ r ≡ vs ++ q → length us ≡ length vs → (us ≡ vs) × (r ≡ q)
same_front us r vs q e l = (
  sym (take_at us r (length us) refl) ∙ ap (λ (z : List ℕ). take (length us) z) e ∙ take_at vs q (length us) (sym l),
  sym (drop_at us r (length us) refl) ∙ ap (λ (z : List ℕ). drop (length us) z) e ∙ drop_at vs q (length us) (sym l),
)

same_longest : (us r vs q : List ℕ) → IsLongest us r → IsLongest vs q → us ++ r ≡ vs ++ q → us ≡ vs
same_longest us r vs q L M e = elim (cut us r vs q e) [
  | inl h ↦ (let none_more : h.0 ≡ [] = L.longest h.0 q h.2 (subst (λ z. IsToken z) h.1 M.token) in sym (h.1 ∙ ap (λ (z : List ℕ). us ++ z) none_more ∙ append-nil us))
  | inr h ↦ (let none_more : h.0 ≡ [] = M.longest h.0 r h.2 (subst (λ z. IsToken z) h.1 L.token) in h.1 ∙ ap (λ (z : List ℕ). vs ++ z) none_more ∙ append-nil vs)
]

-- ---- gaps

line_long : (space rest : List ℕ) → list_all is_in_line space ≡ true → ends_line rest ≡ true → prefix_len is_in_line (space ++ rest) ≡ length space
line_long space rest on e = let run = run_on is_in_line space rest on in let stop = stopped rest e in omega (arith, run, stop)
  where
    stopped : (rest : List ℕ) → ends_line rest ≡ true → prefix_len is_in_line rest ≡ 0
    stopped [] e = refl
    stopped (b ∷ bs) e = ap (λ v. cond (not v) (1 + prefix_len is_in_line bs) 0) e

closes_drop : (a b : ℕ) (space rest : List ℕ) (C : Closes a b space rest) → drop 2 (space ++ rest) ≡ C.body ++ a ∷ b ∷ rest
closes_drop a b space rest C =
    let whole : space ++ rest ≡ C.opened ++ (C.body ++ a ∷ b ∷ rest) =
    ap (λ (z : List ℕ). z ++ rest) C.whole
    ∙ append_assoc (C.opened ++ C.body) (a ∷ b ∷ []) rest
    ∙ append_assoc C.opened C.body (a ∷ b ∷ rest) in
    ap (λ (z : List ℕ). drop 2 z) whole ∙ drop_at C.opened (C.body ++ a ∷ b ∷ rest) 2 C.two

closes_long : (a b : ℕ) (space rest : List ℕ) (C : Closes a b space rest) → length space ≡ length C.body + 4
closes_long a b space rest C =
    let e : length space ≡ length ((C.opened ++ C.body) ++ a ∷ b ∷ []) = ap (λ (z : List ℕ). length z) C.whole in
    let back : length ((C.opened ++ C.body) ++ a ∷ b ∷ []) ≡ length (C.opened ++ C.body) + 2 = length-append (C.opened ++ C.body) (a ∷ b ∷ []) in
    let front : length (C.opened ++ C.body) ≡ length C.opened + length C.body = length-append C.opened C.body in
    let two : length C.opened ≡ 2 = C.two in
    omega (arith, e, back, front, two)

closes_once : (a b : ℕ) (space rest other behind : List ℕ) → Closes a b space rest → Closes a b other behind → space ++ rest ≡ other ++ behind → length space ≡ length other
closes_once a b space rest other behind C D e =
    let bodies : C.body ++ a ∷ b ∷ rest ≡ D.body ++ a ∷ b ∷ behind = sym (closes_drop a b space rest C) ∙ ap (λ (z : List ℕ). drop 2 z) e ∙ closes_drop a b other behind D in
    let up : length C.body ≤ length D.body = C.first D.body behind bodies in
    let down : length D.body ≤ length C.body = D.first C.body rest (sym bodies) in
    let long = closes_long a b space rest C in
    let wide = closes_long a b other behind D in
    omega (arith, up, down, long, wide)

pub gap_once : (o : Opening) (space rest other behind : List ℕ) → IsGap o space rest → IsGap o other behind → space ++ rest ≡ other ++ behind → length space ≡ length other
gap_once Blank space rest other behind g h e = g ∙ sym h
gap_once Line space rest other behind g h e = sym (line_long space rest g.0 g.1) ∙ ap (λ (z : List ℕ). prefix_len is_in_line z) e ∙ line_long other behind h.0 h.1
gap_once Block space rest other behind g h e = closes_once 42 47 space rest other behind g h e
gap_once Attribute space rest other behind g h e = closes_once 42 41 space rest other behind g h e
gap_once Other space rest other behind g h e = absurd g

pub gap_ends : (o : Opening) (space rest : List ℕ) → IsGap o space rest → IsUnclosed o (space ++ rest) → ⊥
gap_ends Blank space rest g u = u
gap_ends Line space rest g u = u
gap_ends Block space rest g u = u g.body rest (closes_drop 42 47 space rest g)
gap_ends Attribute space rest g u = u g.body rest (closes_drop 42 41 space rest g)
gap_ends Other space rest g u = g

no_gap : (o : Opening) (space rest : List ℕ) → o ≡ Other → IsGap o space rest → ⊥
no_gap o space rest e g = subst (λ z. IsGap z space rest) e g

no_unclosed : (o : Opening) (text : List ℕ) → o ≡ Other → IsUnclosed o text → ⊥
no_unclosed o text e u = subst (λ z. IsUnclosed z text) e u

-- ---- each way to read on is the one turn of the place

gap_turn : (taken rest : List ℕ) (t : Turn) → IsGap (opening (taken ++ rest)) taken rest → IsTurn (taken ++ rest) t → t ≡ Pass (length taken)
gap_turn taken rest (Pass n) g P = ap (λ (k : ℕ). Pass k) (sym P.long ∙ gap_once (opening (taken ++ rest)) P.gap P.rest taken rest P.is_gap g (sym P.whole))
gap_turn taken rest (Take n) g T = absurd (no_gap (opening (taken ++ rest)) taken rest T.solid g)
gap_turn taken rest NoEnd g u = absurd (gap_ends (opening (taken ++ rest)) taken rest g u)
gap_turn taken rest NoValue g N = absurd (no_gap (opening (taken ++ rest)) taken rest N.solid g)
gap_turn taken rest Nothing g N = absurd (no_gap (opening (taken ++ rest)) taken rest N.solid g)

token_turn : (taken rest : List ℕ) (t : Turn) → opening (taken ++ rest) ≡ Other → IsLongest taken rest → is_bad_number taken ≡ false → IsTurn (taken ++ rest) t → t ≡ Take (length taken)
token_turn taken rest (Pass n) o L good P = absurd (no_gap (opening (taken ++ rest)) P.gap P.rest o P.is_gap)
token_turn taken rest (Take n) o L good T =
    let same : take n (taken ++ rest) ≡ taken = same_longest (take n (taken ++ rest)) (drop n (taken ++ rest)) taken rest T.longest L (take-append-drop n (taken ++ rest)) in
    let long : length (take n (taken ++ rest)) ≡ length taken = ap (λ (z : List ℕ). length z) same in
    ap (λ (k : ℕ). Take k) (sym (length-take-le n (taken ++ rest) T.within) ∙ long)
token_turn taken rest NoEnd o L good u = absurd (no_unclosed (opening (taken ++ rest)) (taken ++ rest) o u)
token_turn taken rest NoValue o L good N =
    let same : take N.long (taken ++ rest) ≡ taken = same_longest (take N.long (taken ++ rest)) (drop N.long (taken ++ rest)) taken rest N.longest L (take-append-drop N.long (taken ++ rest)) in
    absurd (differ (is_bad_number taken) (subst (λ z. is_bad_number z ≡ true) same N.bad) good)
token_turn taken rest Nothing o L good N = absurd (N.none taken rest refl L.token)

-- the error of a turn at this place
abbrev error_of : Place → Turn → Option LexError
error_of at (Pass n) = None
error_of at (Take n) = None
error_of at NoEnd = Some (Unclosed at)
error_of at NoValue = Some (BadNumber at)
error_of at Nothing = Some (BadChar at)

unclosed_turn : (at : Place) (text : List ℕ) (t : Turn) → IsUnclosed (opening text) text → IsTurn text t → error_of at t ≡ Some (Unclosed at)
unclosed_turn at text (Pass n) u P = absurd (gap_ends (opening text) P.gap P.rest P.is_gap (subst (λ z. IsUnclosed (opening text) z) P.whole u))
unclosed_turn at text (Take n) u T = absurd (no_unclosed (opening text) text T.solid u)
unclosed_turn at text NoEnd u v = refl
unclosed_turn at text NoValue u N = absurd (no_unclosed (opening text) text N.solid u)
unclosed_turn at text Nothing u N = absurd (no_unclosed (opening text) text N.solid u)

number_turn : (at : Place) (taken rest : List ℕ) (t : Turn) → opening (taken ++ rest) ≡ Other → IsLongest taken rest → is_bad_number taken ≡ true → IsTurn (taken ++ rest) t → error_of at t ≡ Some (BadNumber at)
number_turn at taken rest (Pass n) o L bad P = absurd (no_gap (opening (taken ++ rest)) P.gap P.rest o P.is_gap)
number_turn at taken rest (Take n) o L bad T =
    let same : take n (taken ++ rest) ≡ taken = same_longest (take n (taken ++ rest)) (drop n (taken ++ rest)) taken rest T.longest L (take-append-drop n (taken ++ rest)) in
    absurd (differ (is_bad_number taken) bad (subst (λ z. is_bad_number z ≡ false) same T.good))
number_turn at taken rest NoEnd o L bad u = absurd (no_unclosed (opening (taken ++ rest)) (taken ++ rest) o u)
number_turn at taken rest NoValue o L bad N = refl
number_turn at taken rest Nothing o L bad N = absurd (N.none taken rest refl L.token)

char_turn : (at : Place) (text : List ℕ) (t : Turn) → opening text ≡ Other → NoToken text → IsTurn text t → error_of at t ≡ Some (BadChar at)
char_turn at text (Pass n) o none P = absurd (no_gap (opening text) P.gap P.rest o P.is_gap)
char_turn at text (Take n) o none T = absurd (none (take n text) (drop n text) (sym (take-append-drop n text)) T.longest.token)
char_turn at text NoEnd o none u = absurd (no_unclosed (opening text) text o u)
char_turn at text NoValue o none N = absurd (none (take N.long text) (drop N.long text) (sym (take-append-drop N.long text)) N.longest.token)
char_turn at text Nothing o none N = refl

stop_turn : (at : Place) (text : List ℕ) (error : LexError) → Stops at text error → error_of at (turn text) ≡ Some error
stop_turn at text error (unclosed _ _ u) = unclosed_turn at text (turn text) u (turn_is text)
stop_turn at text error (bad_number _ taken rest o L bad) = number_turn at taken rest (turn (taken ++ rest)) o L bad (turn_is (taken ++ rest))
stop_turn at text error (bad_char _ b bs o none) = char_turn at (b ∷ bs) (turn (b ∷ bs)) o none (turn_is (b ∷ bs))

-- ---- a text that is read on isn't at its end

gap_some : (text space rest : List ℕ) → IsGap (opening text) space rest → text ≡ [] → ⊥
gap_some text space rest g e = subst (λ z. IsGap (opening z) space rest) e g

token_not_empty : (taken rest : List ℕ) → IsLongest taken rest → taken ++ rest ≡ [] → ⊥
token_not_empty taken rest L e =
    let some = token_some taken L.token in
    let long : length (taken ++ rest) ≡ 0 = ap (λ (z : List ℕ). length z) e in
    let parts = length-append taken rest in
    absurd (omega (arith, some, long, parts))

stop_not_empty : (at : Place) (text : List ℕ) (error : LexError) → Stops at text error → text ≡ [] → ⊥
stop_not_empty at text error (unclosed _ _ u) e = subst (λ z. IsUnclosed (opening z) z) e u
stop_not_empty at text error (bad_number _ taken rest o L bad) e = token_not_empty taken rest L e
stop_not_empty at text error (bad_char _ b bs o none) e = cc

-- ---- the tokens

abbrev Same : List Token → Option LexError → List Token → Option LexError → Type 0
Same ts s us r = (ts ≡ us) × (s ≡ r)

-- a place where the text is read on isn't one where it stops
goes_no_further : (at place : Place) (text other : List ℕ) (error : LexError) (t : Turn) → text ≡ other → Stops at text error → turn other ≡ t → error_of at t ≡ None → ⊥
goes_no_further at place text other error t e s f none =
    let some : error_of at (turn text) ≡ Some error = stop_turn at text error s in
    let same : error_of at (turn text) ≡ None = ap (λ (z : List ℕ). error_of at (turn z)) e ∙ ap (λ z. error_of at z) f ∙ none in
    let no : Some error ≡ None = sym some ∙ same in
    cc

same_stop : (at place : Place) (text other : List ℕ) (error fault : LexError) → at ≡ place → text ≡ other → Stops at text error → Stops place other fault → Some error ≡ Some fault
same_stop at place text other error fault p e s f =
    sym (stop_turn at text error s) ∙ ap (λ (z : Place). error_of z (turn text)) p ∙ ap (λ (z : List ℕ). error_of place (turn z)) e ∙ stop_turn place other fault f

no_both : (n k : ℕ) (t u : Turn) → t ≡ Pass n → u ≡ Take k → t ≡ u → ⊥
no_both n k t u e f g = let no : Pass n ≡ Take k = sym e ∙ g ∙ f in cc

same_pass : (m n : ℕ) (t u : Turn) → t ≡ Pass m → u ≡ Pass n → t ≡ u → m ≡ n
same_pass m n t u e f g = let same : Pass m ≡ Pass n = sym e ∙ g ∙ f in cc

same_take : (m n : ℕ) (t u : Turn) → t ≡ Take m → u ≡ Take n → t ≡ u → m ≡ n
same_take m n t u e f g = let same : Take m ≡ Take n = sym e ∙ g ∙ f in cc

gap_is : (taken rest : List ℕ) → IsGap (opening (taken ++ rest)) taken rest → turn (taken ++ rest) ≡ Pass (length taken)
gap_is taken rest g = gap_turn taken rest (turn (taken ++ rest)) g (turn_is (taken ++ rest))

token_is : (taken rest : List ℕ) → opening (taken ++ rest) ≡ Other → IsLongest taken rest → is_bad_number taken ≡ false → turn (taken ++ rest) ≡ Take (length taken)
token_is taken rest o L good = token_turn taken rest (turn (taken ++ rest)) o L good (turn_is (taken ++ rest))

once : (from f : ℕ) (at place : Place) (text other : List ℕ) (ts us : List Token) (s r : Option LexError) → from ≡ f → at ≡ place → text ≡ other
    → Reads from at text ts s → Reads f place other us r → Same ts s us r
once from f at place text other ts us s r n p e (ends _ _) (ends _ _) = (refl, refl)
once from f at place text other ts us s r n p e (ends _ _) (stops _ _ _ error S) = absurd (stop_not_empty place other error S (sym e))
once from f at place text other ts us s r n p e (ends _ _) (gap _ _ taken rest _ _ g d) = absurd (gap_some (taken ++ rest) taken rest g (sym e))
once from f at place text other ts us s r n p e (ends _ _) (token _ _ taken rest _ _ o L good d) = absurd (token_not_empty taken rest L (sym e))
once from f at place text other ts us s r n p e (stops _ _ _ error S) (ends _ _) = absurd (stop_not_empty at text error S e)
once from f at place text other ts us s r n p e (stops _ _ _ error S) (stops _ _ _ fault F) = (refl, same_stop at place text other error fault p e S F)
once from f at place text other ts us s r n p e (stops _ _ _ error S) (gap _ _ taken rest _ _ g d) = absurd (goes_no_further at place text (taken ++ rest) error (Pass (length taken)) e S (gap_is taken rest g) refl)
once from f at place text other ts us s r n p e (stops _ _ _ error S) (token _ _ taken rest _ _ o L good d) = absurd (goes_no_further at place text (taken ++ rest) error (Take (length taken)) e S (token_is taken rest o L good) refl)
once from f at place text other ts us s r n p e (gap _ _ taken rest _ _ g d) (ends _ _) = absurd (gap_some (taken ++ rest) taken rest g e)
once from f at place text other ts us s r n p e (gap _ _ taken rest _ _ g d) (stops _ _ _ fault F) = absurd (goes_no_further place at other (taken ++ rest) fault (Pass (length taken)) (sym e) F (gap_is taken rest g) refl)
once from f at place text other ts us s r n p e (gap _ _ taken rest _ _ g d) (gap _ _ taken' rest' _ _ g' d') =
    let long : length taken ≡ length taken' = same_pass (length taken) (length taken') (turn (taken ++ rest)) (turn (taken' ++ rest')) (gap_is taken rest g) (gap_is taken' rest' g') (ap turn e) in
    let same = same_front taken rest taken' rest' e long in
    once (from + length taken) (f + length taken') (past at taken) (past place taken') rest rest' ts us s r
    (ap (λ (z : ℕ). z + length taken) n ∙ ap (λ (z : ℕ). f + z) long) (ap (λ (z : Place). past z taken) p ∙ ap (λ (z : List ℕ). past place z) same.0) same.1 d d'
once from f at place text other ts us s r n p e (gap _ _ taken rest _ _ g d) (token _ _ taken' rest' _ _ o L good d') =
    absurd (no_both (length taken) (length taken') (turn (taken ++ rest)) (turn (taken' ++ rest')) (gap_is taken rest g) (token_is taken' rest' o L good) (ap turn e))
once from f at place text other ts us s r n p e (token _ _ taken rest _ _ o L good d) (ends _ _) = absurd (token_not_empty taken rest L e)
once from f at place text other ts us s r n p e (token _ _ taken rest _ _ o L good d) (stops _ _ _ fault F) = absurd (goes_no_further place at other (taken ++ rest) fault (Take (length taken)) (sym e) F (token_is taken rest o L good) refl)
once from f at place text other ts us s r n p e (token _ _ taken rest _ _ o L good d) (gap _ _ taken' rest' _ _ g d') =
    absurd (no_both (length taken') (length taken) (turn (taken' ++ rest')) (turn (taken ++ rest)) (gap_is taken' rest' g) (token_is taken rest o L good) (ap turn (sym e)))
once from f at place text other ts us s r n p e (token _ _ taken rest ts' _ o L good d) (token _ _ taken' rest' us' _ o' L' good' d') =
    let long : length taken ≡ length taken' = same_take (length taken) (length taken') (turn (taken ++ rest)) (turn (taken' ++ rest')) (token_is taken rest o L good) (token_is taken' rest' o' L' good') (ap turn e) in
    let same = same_front taken rest taken' rest' e long in
    let tail = once (from + length taken) (f + length taken') (past at taken) (past place taken') rest rest' ts' us' s r
    (ap (λ (z : ℕ). z + length taken) n ∙ ap (λ (z : ℕ). f + z) long) (ap (λ (z : Place). past z taken) p ∙ ap (λ (z : List ℕ). past place z) same.0) same.1 d d' in (
      ap (λ (z : Place). record { text = taken; at = z; from = from } ∷ ts') p
          ∙ ap (λ (z : List ℕ). record { text = z; at = place; from = from } ∷ ts') same.0
          ∙ ap (λ (z : ℕ). record { text = taken'; at = place; from = z } ∷ ts') n
          ∙ ap (λ (z : List Token). record { text = taken'; at = place; from = f } ∷ z) tail.0,
      tail.1,
    )

pub reads_once : (from : ℕ) (at : Place) (text : List ℕ) (ts us : List Token) (s r : Option LexError) → Reads from at text ts s → Reads from at text us r → (ts ≡ us) × (s ≡ r)
reads_once from at text ts us s r d e = once from from at at text text ts us s r refl refl refl d e
