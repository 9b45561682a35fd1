-- What reading all of the tokens by a form has to say.
use Rattle.std.proofs.Common.{◌≢◌, ◌≡◌, true, ℕ, ◌-◌, List, [], ◌∷◌, ◌++◌, length, drop, Ok, Err, refl, sym, ◌∙◌, ap, subst, arith, length-append}
use Rattle.std.proofs.Math.Seq.{drop-append_seam}
use Rattle.word_core.specs.declared.place.Place.{Place}
use Rattle.vlog_tokens.specs.Tokens.{Token}
use Rattle.parsing.specs.declared.fault.Fault.{Fault}
use Rattle.parsing.specs.declared.fault.Fault.TheVariants.{Memory, Expected, TooDeep}
use Rattle.parsing.specs.Forms.{Form, Derives}
use Rattle.parsing.specs.Reading.{Outcome, and_then}
use Rattle.parsing.specs.Sound.{sound}
use Rattle.parsing.specs.Answers.{IsTree, IsRefused, IsTooDeep}
use Rattle.parsing.proofs.Knot.{Says, exact}
use Rattle.vlog_rules.specs.Grammar.{V, rules, firsts, mores}
use Rattle.vlog_rules.proofs.Sound.{lexical, grammar_sound}
use Rattle.vlog_expr.specs.declared.error.ParseError.{ParseError}
use Rattle.vlog_expr.specs.declared.error.ParseError.TheVariants as parse_error
use Rattle.vlog_expr.specs.Reading.{inner, at_end, all_read}
use Rattle.vlog_expr.specs.Answers.{start_of, left_out, last, IsRefusalOf, IsErrorOf, Answers}

abbrev Input : Type 0
Input = List Token

last_is : (i front rest : Input) (left : ℕ) → i ≡ front ++ rest → left ≡ length rest → last i left ≡ rest
last_is i front rest left e h =
    let k : length i ≡ length (front ++ rest) = ap length e in
    let m : length i - left ≡ length front = omega (arith, k, h, length-append front rest) in
    ap (λ n. drop n i) m ∙ ap (λ z. drop (length front) z) e ∙ drop-append_seam front rest

module _ {A : Type 0} (f : Form V A) (g : sound V firsts mores f ≡ true) where
  abbrev Spells : ℕ → A → Input → Type 0
  Spells = Derives V rules f

  abbrev Refused : Input → ℕ → Type 0
  Refused i left = (front : Input) × (rest : Input) × (i ≡ front ++ rest) × (left ≡ length rest) × IsRefused Spells 256 front rest

  abbrev Deep : Input → ℕ → Type 0
  Deep i left = (front : Input) × (rest : Input) × (i ≡ front ++ rest) × (left ≡ length rest) × IsTooDeep Spells 256 front rest

  abbrev All : Input → Outcome Token A → Type 0
  All i (Ok (x, rest)) = IsTree Spells 256 i x
  All i (Err Memory) = ⊥
  All i (Err (Expected left)) = Refused i left
  All i (Err (TooDeep left)) = Deep i left

  all_says : (i : Input) (o : Outcome Token A) → Says V lexical rules firsts mores grammar_sound f 256 i o → All i (and_then o (λ x j. at_end x j))
  all_says i (Ok (x, [])) s = s
  all_says i (Ok (x, t ∷ ts)) s = (s.0, t ∷ ts, s.1, refl, s.2)
  all_says i (Err Memory) s = s
  all_says i (Err (Expected left)) s = s
  all_says i (Err (TooDeep left)) s = s

  says : (i : Input) → All i (all_read f i)
  unfolding all_read inner
  says i = all_says i _ (exact V lexical rules firsts mores grammar_sound f 256 i g (omega arith))

  pub read_all : (i : Input) (x : A) (rest : Input) → all_read f i ≡ Ok (x, rest) → IsTree Spells 256 i x
  read_all i x rest e = subst (All i) e (says i)

  refused_answers : (i : Input) (end : Place) (left : ℕ) (error : ParseError) → Refused i left → IsRefusalOf (last i left) end error → Answers Spells i end (Err error)
  refused_answers i end left (parse_error.Expected at what) r q = let same = last_is i r.0 r.1 left r.2 r.3 in
      (r.0, r.1, r.2, q.0 ∙ ap (λ z. start_of z end) same, ap left_out (sym same) ∙ q.1, r.4)
  refused_answers i end left (parse_error.NotInProfile at) r q = let same = last_is i r.0 r.1 left r.2 r.3 in
      (r.0, r.1, r.2, q.0 ∙ ap (λ z. start_of z end) same, ap left_out (sym same) ∙ q.1, r.4)
  refused_answers i end left (parse_error.TooDeep at) r q = absurd q
  refused_answers i end left parse_error.Memory r q = tt

  deep_answers : (i : Input) (end : Place) (left : ℕ) → Deep i left → Answers Spells i end (Err (parse_error.TooDeep (start_of (last i left) end)))
  deep_answers i end left d = (d.0, d.1, d.2, ap (λ z. start_of z end) (last_is i d.0 d.1 left d.2 d.3), d.4)

  pub error_answers : (i : Input) (end : Place) (fault : Fault) (error : ParseError) → (fault ≢ Memory → all_read f i ≡ Err fault) → IsErrorOf i end fault error → Answers Spells i end (Err error)
  error_answers i end Memory error h q = subst (λ z. Answers Spells i end (Err z)) (sym q) tt
  error_answers i end (Expected left) error h q =
      let e : all_read f i ≡ Err (Expected left) = h (λ m. let no : Expected left ≡ Memory = m in cc) in
      refused_answers i end left error (subst (All i) e (says i)) q
  error_answers i end (TooDeep left) error h q =
      let e : all_read f i ≡ Err (TooDeep left) = h (λ m. let no : TooDeep left ≡ Memory = m in cc) in
      subst (λ z. Answers Spells i end (Err z)) (sym q) (deep_answers i end left (subst (All i) e (says i)))
