-- A text has one answer: one tree, or one refusal at one place.
use Rattle.std.proofs.Common.{◌≡◌, ◌⊎◌, inl, inr, ℕ, List, [], ◌∷◌, ◌++◌, Ok, Err, refl, sym, ◌∙◌, ap, subst, append_assoc}
use Rattle.std.proofs.lemmas.List.{append-nil}
use Rattle.word_core.specs.declared.place.Place.{Place}
use Rattle.vlog_syntax.specs.declared.module.Tree.{Tree}
use Rattle.vlog_tokens.specs.Places.{start, past}
use Rattle.vlog_tokens.specs.Tokens.{Token}
use Rattle.vlog_tokens.specs.Directives.{LexAnswers}
use Rattle.vlog_tokens.specs.declared.error.LexError.{LexError}
use Rattle.vlog_tokens.specs.declared.error.LexError.TheVariants as lex_error
use Rattle.vlog_tokens.proofs.Only.{only_answer}
use Rattle.parsing.specs.Answers.{Viable, GoesOn, IsTree, IsRefused, IsTooDeep}
use Rattle.vlog_rules.specs.Grammar.{IsSource}
use Rattle.vlog_expr.specs.declared.error.ParseError.{ParseError}
use Rattle.vlog_expr.specs.declared.error.ParseError.TheVariants as parse_error
use Rattle.vlog_expr.specs.Answers.{start_of}
use Rattle.vlog_modules.specs.declared.error.TextError.TheVariants as text_error
use Rattle.vlog_modules.specs.Answers.{TextAnswers}

abbrev Input : Type 0
Input = List Token

tokens_once : (text : List ℕ) (ts us : Input) → LexAnswers text (Ok ts) → LexAnswers text (Ok us) → ts ≡ us
tokens_once text ts us a b = elim (only_answer text (Ok ts) a (Ok us) b) [
  | inl same ↦ cc
  | inr h ↦ elim h [ inl none ↦ absurd cc | inr none ↦ absurd cc ]
]

pub one_tree : (text : List ℕ) (x y : Tree) → TextAnswers text (Ok x) → TextAnswers text (Ok y) → x ≡ y
one_tree text x y a b =
    let same = tokens_once text a.1 b.1 a.2 b.2 in
    b.3.only 256 x (subst (λ z. IsSource 256 x z) same a.3.derived)

-- ---- where reading stops

-- The front begins a tree of at most 256 levels, and with the rest none goes on.
pub record Stops (front rest : Input) : Type 0 where
  pub viable : Viable IsSource 256 front
  pub first : GoesOn IsSource 256 front rest → ⊥

refused_stops : (front rest : Input) → IsRefused IsSource 256 front rest → Stops front rest
refused_stops front rest r = record { viable = r.viable; first = λ g. r.first 256 g }

deep_stops : (front rest : Input) → IsTooDeep IsSource 256 front rest → Stops front rest
deep_stops front rest d = record { viable = d.viable; first = d.first }

no_tree : (tokens front rest : Input) (x : Tree) → tokens ≡ front ++ rest → IsTree IsSource 256 tokens x → Stops front rest → ⊥
no_tree tokens front [] x e t s = s.first (x, subst (λ z. IsSource 256 x z) (e ∙ append-nil front) t.derived)
no_tree tokens front (u ∷ us) x e t s = s.first (x, us, subst (λ z. IsSource 256 x z) (e ∙ sym (append_assoc front (u ∷ []) us)) t.derived)

-- what begins a tree goes on with each of its tokens
goes_on : (front : Input) (t : Token) (ts behind : Input) → Viable IsSource 256 (front ++ t ∷ ts) → GoesOn IsSource 256 front (t ∷ behind)
goes_on front t ts behind v = (v.0, ts ++ v.1, subst (λ z. IsSource 256 v.0 z) (append_assoc front (t ∷ ts) v.1 ∙ sym (append_assoc front (t ∷ []) (ts ++ v.1))) v.2)

-- two ways to cut the tokens
abbrev Cut : Input → Input → Input → Input → Type 0
Cut us r vs q = ((more : Input) × (vs ≡ us ++ more) × (r ≡ more ++ q)) ⊎ ((more : Input) × (us ≡ vs ++ more) × (q ≡ more ++ r))

cut : (us r vs q : Input) → us ++ r ≡ vs ++ q → Cut us r vs q
cut [] r vs q e = inl (vs, refl, e)
cut (u ∷ us) r [] q e = inr (u ∷ us, refl, sym e)
cut (u ∷ us) r (v ∷ vs) q e =
    let same : u ≡ v = cc in
    let rest : us ++ r ≡ vs ++ q = cc in
    elim (cut us r vs q rest) [
      | inl h ↦ inl (h.0, subst (λ z. v ∷ vs ≡ z ∷ (us ++ h.0)) (sym same) (ap (λ (z : Input). v ∷ z) h.1), h.2)
      | inr h ↦ inr (h.0, subst (λ z. u ∷ us ≡ z ∷ (vs ++ h.0)) same (ap (λ (z : Input). u ∷ z) h.1), h.2)
    ]

-- the longer of two fronts can't go on where the shorter one stops
no_longer : (us r vs q more : Input) → vs ≡ us ++ more → r ≡ more ++ q → Stops us r → Stops vs q → more ≡ []
no_longer us r vs q [] e f s t = refl
no_longer us r vs q (m ∷ ms) e f s t = absurd (s.first (subst (λ z. GoesOn IsSource 256 us z) (sym f) (goes_on us m ms (ms ++ q) (subst (λ z. Viable IsSource 256 z) e t.viable))))

same_stop : (us r vs q : Input) → us ++ r ≡ vs ++ q → Stops us r → Stops vs q → (us ≡ vs) × (r ≡ q)
same_stop us r vs q e s t = elim (cut us r vs q e) [
  | inl h ↦ (let none_more : h.0 ≡ [] = no_longer us r vs q h.0 h.1 h.2 s t in
      (sym (h.1 ∙ ap (λ (z : Input). us ++ z) none_more ∙ append-nil us), h.2 ∙ ap (λ (z : Input). z ++ q) none_more))
  | inr h ↦ (let none_more : h.0 ≡ [] = no_longer vs q us r h.0 h.1 h.2 t s in
      (h.1 ∙ ap (λ (z : Input). vs ++ z) none_more ∙ append-nil vs, sym (h.2 ∙ ap (λ (z : Input). z ++ r) none_more)))
]

-- ---- what a text answers

-- the refusal stands at this place
abbrev pub StandsAt : ParseError → Place → Type 0
StandsAt (parse_error.Expected at what) place = at ≡ place
StandsAt (parse_error.NotInProfile at) place = at ≡ place
StandsAt (parse_error.TooDeep at) place = at ≡ place
StandsAt parse_error.Memory place = ⊥

abbrev Stopped : List ℕ → Place → Type 0
Stopped text place = (tokens : Input) × (front : Input) × (rest : Input) × LexAnswers text (Ok tokens) × (tokens ≡ front ++ rest) × (place ≡ start_of rest (past start text)) × Stops front rest

stopped : (text : List ℕ) (error : ParseError) (place : Place) → StandsAt error place → TextAnswers text (Err (text_error.Parse error)) → Stopped text place
stopped text (parse_error.Expected at what) place s a = (a.1, a.3.0, a.3.1, a.2, a.3.2, sym s ∙ a.3.3, refused_stops a.3.0 a.3.1 a.3.5)
stopped text (parse_error.NotInProfile at) place s a = (a.1, a.3.0, a.3.1, a.2, a.3.2, sym s ∙ a.3.3, refused_stops a.3.0 a.3.1 a.3.5)
stopped text (parse_error.TooDeep at) place s a = (a.1, a.3.0, a.3.1, a.2, a.3.2, sym s ∙ a.3.3, deep_stops a.3.0 a.3.1 a.3.4)
stopped text parse_error.Memory place s a = absurd s

no_refusal : (text : List ℕ) (x : Tree) (error : ParseError) (place : Place) → StandsAt error place → TextAnswers text (Ok x) → TextAnswers text (Err (text_error.Parse error)) → ⊥
no_refusal text x error place s a b =
    let r = stopped text error place s b in
    no_tree a.1 r.1 r.2 x (tokens_once text a.1 r.0 a.2 r.3 ∙ r.4) a.3 r.6

-- A text that has a tree isn't refused, and isn't too deep.
pub not_both : (text : List ℕ) (x : Tree) (at : Place) (what : List ℕ) → TextAnswers text (Ok x) → TextAnswers text (Err (text_error.Parse (parse_error.Expected at what))) → ⊥
not_both text x at what a b = no_refusal text x (parse_error.Expected at what) at refl a b

pub not_left_out : (text : List ℕ) (x : Tree) (at : Place) → TextAnswers text (Ok x) → TextAnswers text (Err (text_error.Parse (parse_error.NotInProfile at))) → ⊥
not_left_out text x at a b = no_refusal text x (parse_error.NotInProfile at) at refl a b

pub not_too_deep : (text : List ℕ) (x : Tree) (at : Place) → TextAnswers text (Ok x) → TextAnswers text (Err (text_error.Parse (parse_error.TooDeep at))) → ⊥
not_too_deep text x at a b = no_refusal text x (parse_error.TooDeep at) at refl a b

-- What is refused is refused at one place.
pub one_place : (text : List ℕ) (error other : ParseError) (at place : Place) → StandsAt error at → StandsAt other place → TextAnswers text (Err (text_error.Parse error)) → TextAnswers text (Err (text_error.Parse other)) → at ≡ place
one_place text error other at place s t a b =
    let u = stopped text error at s a in
    let v = stopped text other place t b in
    let same = same_stop u.1 u.2 v.1 v.2 (sym u.4 ∙ tokens_once text u.0 v.0 u.3 v.3 ∙ v.4) u.6 v.6 in
    u.5 ∙ ap (λ z. start_of z (past start text)) same.1 ∙ sym v.5

not_read : (text : List ℕ) (ts : Input) (cause : LexError) → (cause ≡ lex_error.Memory → ⊥) → LexAnswers text (Ok ts) → LexAnswers text (Err cause) → ⊥
not_read text ts cause m a b = elim (only_answer text (Ok ts) a (Err cause) b) [
  | inl same ↦ absurd cc
  | inr h ↦ elim h [ inl same ↦ m cc | inr none ↦ absurd cc ]
]

-- A text that has a tree divides into tokens.
pub not_lexical : (text : List ℕ) (x : Tree) (cause : LexError) → TextAnswers text (Ok x) → TextAnswers text (Err (text_error.Lex cause)) → ⊥
not_lexical text x lex_error.Memory a b = b
not_lexical text x (lex_error.BadDirective at) a b = not_read text a.1 (lex_error.BadDirective at) (λ e. cc) a.2 b.1
not_lexical text x (lex_error.BadChar at) a b = not_read text a.1 (lex_error.BadChar at) (λ e. cc) a.2 b.1
not_lexical text x (lex_error.BadNumber at) a b = not_read text a.1 (lex_error.BadNumber at) (λ e. cc) a.2 b.1
not_lexical text x (lex_error.Unclosed at) a b = not_read text a.1 (lex_error.Unclosed at) (λ e. cc) a.2 b.1

deep_not_refused : (us r vs q : Input) → us ≡ vs → r ≡ q → IsTooDeep IsSource 256 us r → IsRefused IsSource 256 vs q → ⊥
deep_not_refused us r vs q e f d s = s.first d.deeper.0 (subst (λ z. GoesOn IsSource d.deeper.0 vs z) (sym d.is_next ∙ f) (subst (λ z. Viable IsSource d.deeper.0 (z ++ d.next ∷ [])) e d.deeper.1))

-- And for one reason: where only a deeper tree goes on, one does.
pub one_reason : (text : List ℕ) (at place : Place) (what : List ℕ) → TextAnswers text (Err (text_error.Parse (parse_error.TooDeep at))) → TextAnswers text (Err (text_error.Parse (parse_error.Expected place what))) → ⊥
one_reason text at place what a b =
    let d = a.3 in
    let r = b.3 in
    let same = same_stop d.0 d.1 r.0 r.1 (sym d.2 ∙ tokens_once text a.1 b.1 a.2 b.2 ∙ r.2) (deep_stops d.0 d.1 d.4) (refused_stops r.0 r.1 r.5) in
    deep_not_refused d.0 d.1 r.0 r.1 same.0 same.1 d.4 r.5
