-- Grammars as data, and which values are spelled by which tokens.
use Rattle.std.specs.Prelude.{◌≡◌, ℕ, zero, suc, Bool, true, false, if◌then◌else◌, List, [], ◌∷◌, ◌++◌, ◌⊎◌, Option, Some, None}

-- the tokens, their words, and the sorts of parts that rules are named for
pub record Language : Type 1 where
  pub Token : Type 0
  pub Word : Type 0
  pub Sort : Type 0
  pub Part : Sort → Type 0
  pub word : Token → Word
  pub same : Word → Word → Bool
  -- what stands for the next token where none is
  pub blank : Token

-- A form of tokens, with the value that it has.
pub data Form (G : Language) : Type 0 → Type 1 where
  -- one token, whose word is this one or one of those
  token : G.Word → List G.Word → Form G G.Token
  nothing : Form G (Unit {0})
  both : {A B : Type 0} → Form G A → Form G B → Form G (A × B)
  either : {A : Type 0} → Form G A → Form G A → Form G A
  many : {A : Type 0} → Form G A → Form G (List A)
  -- the one, and behind it any number of the other
  run : {A : Type 0} → Form G A → Form G A → Form G (List A)
  -- the one, and behind it the other wherever the next token has one of these words, with which the other begins
  tailed : {A B : Type 0} → Form G A → List G.Word → Form G B → Form G (A × Option B)
  made : {A B : Type 0} → (A → B) → Form G A → Form G B
  -- a part of this sort
  part : (s : G.Sort) → Form G (G.Part s)

-- A rule: its nodes, and how what it reads grows by what stands behind it.
pub data Rule (G : Language) : Type 0 → Type 1 where
  node : {A : Type 0} → Form G A → Rule G A
  one_of : {A : Type 0} → Rule G A → Rule G A → Rule G A
  grown : {A B : Type 0} → Rule G A → Form G B → (A → B → A) → Rule G A

abbrev pub within : (G : Language) → List G.Word → G.Word → Bool
within G [] v = false
within G (w ∷ ws) v = if G.same w v then true else within G ws v

-- whether the next token has one of these words
abbrev pub next_in : (G : Language) → List G.Word → List G.Token → Bool
next_in G ws [] = false
next_in G ws (t ∷ ts) = within G ws (G.word t)

-- Each value is spelled one behind the other, before the rest.
abbrev pub Each : {A T : Type 0} → (A → List T → List T → Type 0) → List A → List T → List T → Type 0
Each Spelled [] ts r = ts ≡ []
Each {T = T} Spelled (x ∷ xs) ts r = (us : List T) × (vs : List T) × (ts ≡ us ++ vs) × Spelled x us (vs ++ r) × Each Spelled xs vs r

module _ (G : Language) (Named : (s : G.Sort) → ℕ → G.Part s → List G.Token → List G.Token → Type 0) where
  -- The tokens spell the value within so many levels, where the rest stands behind them.
  abbrev pub Spells : {A : Type 0} → Form G A → ℕ → A → List G.Token → List G.Token → Type 0
  Spells (token w ws) l x ts r = (within G (w ∷ ws) (G.word x) ≡ true) × (ts ≡ x ∷ [])
  Spells nothing l x ts r = ts ≡ []
  Spells (both a b) l x ts r = (us : List G.Token) × (vs : List G.Token) × (ts ≡ us ++ vs) × Spells a l x.0 us (vs ++ r) × Spells b l x.1 vs r
  Spells (either a b) l x ts r = Spells a l x ts r ⊎ Spells b l x ts r
  Spells (many a) l xs ts r = Each (Spells a l) xs ts r
  Spells (run a b) l [] ts r = ⊥
  Spells (run a b) l (x ∷ xs) ts r = (us : List G.Token) × (vs : List G.Token) × (ts ≡ us ++ vs) × Spells a l x us (vs ++ r) × Each (Spells b l) xs vs r
  Spells (tailed a ws b) l (x, None) ts r = Spells a l x ts r × (next_in G ws r ≡ false)
  Spells (tailed a ws b) l (x, Some y) ts r = (us : List G.Token) × (vs : List G.Token) × (ts ≡ us ++ vs) × Spells a l x us (vs ++ r) × Spells b l y vs r
  Spells (made {A = A} f a) l y ts r = (x : A) × (y ≡ f x) × Spells a l x ts r
  Spells (part s) l x ts r = Named s l x ts r

  -- The same for a rule, each of whose nodes is a level.
  abbrev pub Makes : {A : Type 0} → Rule G A → ℕ → A → List G.Token → List G.Token → Type 0
  Makes (node a) zero x ts r = ⊥
  Makes (node a) (suc l) x ts r = Spells a l x ts r
  Makes (one_of p q) l x ts r = Makes p l x ts r ⊎ Makes q l x ts r
  Makes (grown {B = B} p a f) zero x ts r = ⊥
  Makes (grown {A = A} {B = B} p a f) (suc l) x ts r = Makes p (suc l) x ts r ⊎ ((y : A) × (z : B) × (us : List G.Token) × (vs : List G.Token) × (x ≡ f y z) × (ts ≡ us ++ vs) × Makes p l y us (vs ++ r) × Spells a l z vs r)

module _ (G : Language) (rules : (s : G.Sort) → Rule G (G.Part s)) where
  -- A part of a sort within l levels. The first number bounds how deep parts stand in one another.
  abbrev pub Within : ℕ → (s : G.Sort) → ℕ → G.Part s → List G.Token → List G.Token → Type 0
  Within zero s l x ts r = ⊥
  Within (suc n) s l x ts r = Makes G (Within n) (rules s) l x ts r

  -- The tokens spell the part within so many levels before this rest, by the rules. Each part stands a level below what it is a part of.
  abbrev pub Stands : (s : G.Sort) → ℕ → G.Part s → List G.Token → List G.Token → Type 0
  Stands s l x ts r = Within l s l x ts r

  -- All of these tokens spell the value of the form, whose parts stand within so many levels.
  abbrev pub Derives : {A : Type 0} → Form G A → ℕ → A → List G.Token → Type 0
  Derives f l x ts = Spells G Stands f l x ts []
