-- Literals given to bits.
use Rattle.std.proofs.Common.{◌≡◌, ℕ, ◌+◌, ◌<◌, true, false, ◌==◌, List, [], ◌∷◌, length, drop, All, get_or, set, map, refl, sym, ◌∙◌, subst, inl, inr, true≢false}
use Rattle.std.proofs.lemmas.List.{at_drop_more, ext_get_or, get_or-set_same, get_or-set_other, length-set}
use Rattle.std.proofs.lemmas.List.Elements.{All-head, All-tail, All-set}
use Rattle.std.proofs.lemmas.Bool.{cases_Bool, eqb-false, eqb-true}
use Rattle.bit_exprs.specs.Named.{among}
use Rattle.design_core.proofs.Truth.{or_cases, or_false_left, or_false_right}
use Rattle.aig_core.specs.Graph.{Graph, IsLiteral}
use Rattle.expr_blast.specs.Circuits.{literal_at}
use Rattle.plain_blast.specs.Choice.{set_at}

-- ---- to each bit its own

pub length-set_at : (bits given targets : List ℕ) → length (set_at bits given targets) ≡ length targets
length-set_at [] given targets = refl
length-set_at (b ∷ bits) [] targets = refl
length-set_at (b ∷ bits) (x ∷ given) targets = length-set_at bits given _ ∙ length-set targets b x

-- one bit on
pub set_more : (bits given targets : List ℕ) (k : ℕ) → k < length bits → k < length given →
    set_at (drop k bits) (drop k given) targets ≡ set_at (drop (k + 1) bits) (drop (k + 1) given) (set targets (get_or bits k 0) (get_or given k 0))
set_more bits given targets k lt lt' =
    at_drop_more (λ bs. set_at bs (drop k given) targets) bits k 0 lt ∙ at_drop_more (λ xs. set_at (get_or bits k 0 ∷ drop (k + 1) bits) xs targets) given k 0 lt'

pub set_exist : (g : Graph) (bits given targets : List ℕ) → All (IsLiteral g) given → All (IsLiteral g) targets → All (IsLiteral g) (set_at bits given targets)
set_exist g [] given targets all lts = lts
set_exist g (b ∷ bits) [] targets all lts = lts
set_exist g (b ∷ bits) (x ∷ given) targets all lts =
    set_exist g bits given _ (All-tail (IsLiteral g) x given all) (All-set (IsLiteral g) targets b x (All-head (IsLiteral g) x given all) lts)

-- a bit that isn't one of them
set_apart : (a b x : ℕ) (targets : List ℕ) → (a == b) ≡ false → get_or (set targets a x) b 0 ≡ get_or targets b 0
set_apart a b x targets ne = get_or-set_other targets a b x 0 (λ e. eqb-false a b ne (sym e))

set_other : (bits given targets : List ℕ) (b : ℕ) → among bits b ≡ false → get_or (set_at bits given targets) b 0 ≡ get_or targets b 0
set_other [] given targets b h = refl
set_other (a ∷ bits) [] targets b h = refl
set_other (a ∷ bits) (x ∷ given) targets b h = set_other bits given _ b (or_false_right (a == b) _ h) ∙ set_apart a b x targets (or_false_left (a == b) _ h)

-- what a bit had is read back where it was written
read_back : (bits old targets : List ℕ) (b : ℕ) → b < length targets → among bits b ≡ true → get_or (set_at bits (map (literal_at old) bits) targets) b 0 ≡ get_or old b 0
read_back [] old targets b lt h = cc
read_back (a ∷ bits) old targets b lt h = elim (cases_Bool (among bits b)) [
  | inl later ↦ read_back bits old (set targets a (get_or old a 0)) b (rw length-set lt) later
  | inr last ↦ elim (or_cases (a == b) (among bits b) h) [
    | inl here ↦ let same : a ≡ b = eqb-true a b here in
        set_other bits (map (literal_at old) bits) (set targets a (get_or old a 0)) b last
        ∙ subst (λ c. get_or (set targets a (get_or old a 0)) c 0 ≡ get_or old c 0) same (get_or-set_same targets a (get_or old a 0) 0 (rw same lt))
    | inr there ↦ absurd (true≢false (sym there ∙ last))
  ]
]

-- the old literals put back
pub set_back : (bits old targets : List ℕ) → length targets ≡ length old → ((b : ℕ) → among bits b ≡ false → get_or targets b 0 ≡ get_or old b 0) →
    set_at bits (map (literal_at old) bits) targets ≡ old
set_back bits old targets len same =
    ext_get_or 0 (set_at bits (map (literal_at old) bits) targets) old (length-set_at bits _ targets ∙ len) (λ b lt. elim (cases_Bool (among bits b)) [
      | inl written ↦ read_back bits old targets b (rw length-set_at at lt) written
      | inr not ↦ set_other bits (map (literal_at old) bits) targets b not ∙ same b not
    ])
