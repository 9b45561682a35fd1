-- Reading by a form or a rule, with one token of sight.
use Rattle.std.specs.Prelude.{◌≡◌, ◌≢◌, ℕ, zero, suc, ◌+◌, ◌==◌, max, nat_lt, Bool, true, false, if◌then◌else◌, List, [], ◌∷◌, ◌++◌, length, Result, Ok, Err, Some, None}
use Rattle.parsing.specs.declared.fault.Fault.{Fault}
use Rattle.parsing.specs.declared.fault.Fault.TheVariants.{Memory, Expected, TooDeep}
use Rattle.parsing.specs.declared.tall.Tall.{Tall}
use Rattle.parsing.specs.Forms.{Language, Form, token, nothing, both, either, many, run, tailed, made, part, Rule, node, one_of, grown}

-- What reading gives: the value and the tokens behind it, or the fault.
abbrev pub Outcome : Type 0 → Type 0 → Type 0
Outcome T A = Result (A × List T) Fault

abbrev pub Parser : Type 0 → Type 0 → Type 0
Parser T A = List T → Outcome T A

-- A fault stays; behind a part, what follows it is read.
abbrev pub and_then : {T A B : Type 0} → Outcome T A → (A → Parser T B) → Outcome T B
and_then (Err fault) follow = Err fault
and_then (Ok x) follow = follow x.0 x.1

abbrev pub expected : {T A : Type 0} → Parser T A
expected i = Err (Expected (length i))

abbrev pub too_deep : {T A : Type 0} → Parser T A
too_deep i = Err (TooDeep (length i))

-- what a function that reads ensures: the outcome, unless memory fails
abbrev pub Reads : {T A : Type 0} → Outcome T A → Result A Fault → List T → Type 0
Reads outcome (Ok x) new = outcome ≡ Ok (x, new)
Reads outcome (Err fault) new = fault ≢ Memory → outcome ≡ Err fault

abbrev pub or_else : Bool → Bool → Bool
or_else true y = true
or_else false y = y

abbrev pub both_hold : Bool → Bool → Bool
both_hold true y = y
both_hold false y = false

module _ (G : Language) where
  unfoldable pub stands : G.Word → List G.Token → Bool
  stands w [] = false
  stands w (t ∷ ts) = G.same w (G.word t)

  -- whether the next token has one of these words
  abbrev pub begins : List G.Word → List G.Token → Bool
  begins [] i = false
  begins (w ∷ ws) i = if stands w i then true else begins ws i

  unfoldable pub next : List G.Token → G.Token
  next [] = G.blank
  next (t ∷ ts) = t

  unfoldable pub after : List G.Token → List G.Token
  after [] = []
  after (t ∷ ts) = ts

  -- ---- what is known of a form before it is read

  abbrev pub nullable : {A : Type 0} → Form G A → Bool
  nullable (token w ws) = false
  nullable nothing = true
  nullable (both a b) = both_hold (nullable a) (nullable b)
  nullable (either a b) = or_else (nullable a) (nullable b)
  nullable (many a) = true
  nullable (run a b) = nullable a
  nullable (tailed a ws b) = false
  nullable (made f a) = nullable a
  nullable (part s) = false

  -- whether it needs a level
  abbrev pub needs : {A : Type 0} → Form G A → Bool
  needs (token w ws) = false
  needs nothing = false
  needs (both a b) = or_else (needs a) (needs b)
  needs (either a b) = both_hold (needs a) (needs b)
  needs (many a) = false
  needs (run a b) = needs a
  needs (tailed a ws b) = or_else (needs a) (needs b)
  needs (made f a) = needs a
  needs (part s) = true

  module _ (firsts : G.Sort → List G.Word) where
    -- the words with which it begins
    abbrev pub first : {A : Type 0} → Form G A → List G.Word
    first (token w ws) = w ∷ ws
    first nothing = []
    first (both a b) = if nullable a then first a ++ first b else first a
    first (either a b) = first a ++ first b
    first (many a) = first a
    first (run a b) = if nullable a then first a ++ first b else first a
    first (tailed a ws b) = first a
    first (made f a) = first a
    first (part s) = firsts s

    abbrev pub rule_first : {A : Type 0} → Rule G A → List G.Word
    rule_first (node a) = first a
    rule_first (one_of r q) = rule_first r ++ rule_first q
    rule_first (grown r a f) = rule_first r

    -- How forms are read whose parts are read by inner, where there is a level below or none is.
    module _ (inner : (s : G.Sort) → Parser G.Token (Tall (G.Part s))) (flat : Bool) where
      abbrev pub guarded : {A : Type 0} → Form G A → Parser G.Token (Tall A) → Parser G.Token (Tall A)
      guarded a p i = if needs a then (if flat then (if begins (first a) i then too_deep i else expected i) else p i) else p i

      -- The number bounds the turns. Each turn takes a token, so the count of tokens is enough.
      unfoldable pub turns : {A : Type 0} → Form G A → Parser G.Token (Tall A) → ℕ → Tall (List A) → Parser G.Token (Tall (List A))
      turns a p zero found i = Ok (found, i)
      turns a p (suc n) found i = if begins (first a) i
          then and_then (guarded a p i) (λ x. turns a p n (record { tree = found.tree ++ x.tree ∷ []; height = max found.height x.height }))
          else Ok (found, i)

      abbrev pub read : {A : Type 0} → Form G A → Parser G.Token (Tall A)
      read (token w ws) i = if begins (w ∷ ws) i then Ok (record { tree = next i; height = 0 }, after i) else expected i
      read nothing i = Ok (record { tree = tt; height = 0 }, i)
      read (both a b) i = and_then (read a i) (λ x j. and_then (read b j) (λ y k. Ok (record { tree = (x.tree, y.tree); height = max x.height y.height }, k)))
      read (either a b) i = if begins (first a) i then guarded a (read a) i else guarded b (read b) i
      read (many a) i = turns a (read a) (length i) (record { tree = []; height = 0 }) i
      read (run a b) i = and_then (read a i) (λ x j. turns b (read b) (length j) (record { tree = x.tree ∷ []; height = x.height }) j)
      read (tailed a ws b) i = and_then (read a i) (λ x j. if begins ws j
          then and_then (read b j) (λ y k. Ok (record { tree = (x.tree, Some y.tree); height = max x.height y.height }, k))
          else Ok (record { tree = (x.tree, None); height = x.height }, j))
      read (made f a) i = and_then (read a i) (λ x j. Ok (record { tree = f x.tree; height = x.height }, j))
      read (part s) i = inner s i

    -- A rule at one more level than these below it.
    module _ (inner : (s : G.Sort) → Parser G.Token (Tall (G.Part s))) (below : ℕ) where
      abbrev pub read_rule : {A : Type 0} → Rule G A → Parser G.Token (Tall A)
      read_rule (node a) i = and_then (guarded inner (below == 0) a (read inner (below == 0) a) i) (λ x j. Ok (record { tree = x.tree; height = x.height + 1 }, j))
      read_rule (one_of r q) i = if begins (rule_first r) i then read_rule r i else read_rule q i
      read_rule (grown r a f) i = and_then (read_rule r i) (λ x j. if begins (first a) j
          then (if nat_lt below x.height then too_deep j else and_then (read inner (below == 0) a j) (λ y k. Ok (record { tree = f x.tree y.tree; height = max x.height y.height + 1 }, k)))
          else Ok (x, j))

    -- A part of a sort within so many levels.
    unfoldable pub read_part : ((s : G.Sort) → Rule G (G.Part s)) → ℕ → (s : G.Sort) → Parser G.Token (Tall (G.Part s))
    read_part rules zero s i = if begins (rule_first (rules s)) i then too_deep i else expected i
    read_part rules (suc below) s i = read_rule (read_part rules below) below (rules s) i

    -- Reading by a form that is in no node, so that its parts have all the levels that there are, and its height is nowhere asked for.
    module _ (inner : (s : G.Sort) → Parser G.Token (Tall (G.Part s))) where
      unfoldable pub scans : {A : Type 0} → Form G A → Parser G.Token A → ℕ → List A → Parser G.Token (List A)
      scans a p zero found i = Ok (found, i)
      scans a p (suc n) found i = if begins (first a) i then and_then (p i) (λ x. scans a p n (found ++ x ∷ [])) else Ok (found, i)

      abbrev pub scan : {A : Type 0} → Form G A → Parser G.Token A
      scan (token w ws) i = if begins (w ∷ ws) i then Ok (next i, after i) else expected i
      scan nothing i = Ok (tt, i)
      scan (both a b) i = and_then (scan a i) (λ x j. and_then (scan b j) (λ y k. Ok ((x, y), k)))
      scan (either a b) i = if begins (first a) i then scan a i else scan b i
      scan (many a) i = scans a (scan a) (length i) [] i
      scan (run a b) i = and_then (scan a i) (λ x j. scans b (scan b) (length j) (x ∷ []) j)
      scan (tailed a ws b) i = and_then (scan a i) (λ x j. if begins ws j then and_then (scan b j) (λ y k. Ok ((x, Some y), k)) else Ok ((x, None), j))
      scan (made f a) i = and_then (scan a i) (λ x j. Ok (f x, j))
      scan (part s) i = and_then (inner s i) (λ x j. Ok (x.tree, j))
