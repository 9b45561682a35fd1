-- Raising the lemmas of a level, under way; needless lemmas.
use Rattle.std.proofs.Common.{◌≡◌, ◌≢◌, ℕ, ◌+◌, ◌<◌, ◌≤◌, Bool, true, false, ◌||◌, List, [], ◌∷◌, length, get_or, refl, arith, subst, sym, ap, ◌∙◌, inl, inr}
use Rattle.std.specs.Prelude.{All as Each, Contains}
use Rattle.std.specs.List.{list_any}
use Rattle.std.proofs.lemmas.Bool.{cases_eq}
use Rattle.std.proofs.Math.ListN.{set}
use Rattle.std.proofs.lemmas.List.{get_or-set_same, get_or-set_other}
use Rattle.std.proofs.lemmas.List.Elements.{All-head, All-tail}
use Rattle.std.proofs.lemmas.List.Folds.{list_any_at}
use Rattle.bit_system.specs.declared.ladder.Depth.TheVariants.{Steps}
use Rattle.bit_system.specs.declared.ladder.StateLit.{StateLit}
use Rattle.bit_system.specs.declared.ladder.Lemma.{Lemma}
use Rattle.bit_system.specs.Ladders.{is_at_least, lit_true}
use Rattle.ic3_frames.specs.Known.{Subsumes}
use Rattle.ic3_frames.specs.Raised.{IsPassed}
use Rattle.ic3_frames.proofs.Levels.{steps_same}

-- of the lemmas before the place none has the level, unless one was left there
pub record Swept (lemmas : List Lemma) (level at : ℕ) (left : Bool) : Type 0 where
  pub none : left ≡ false → (k : ℕ) (d : Lemma) → k < at → k < length lemmas → (get_or lemmas k d).level ≢ Steps level

pub swept_start : (lemmas : List Lemma) (level : ℕ) (left : Bool) → Swept lemmas level 0 left
swept_start lemmas level left = record { none = λ e k d low. absurd (omega arith) }

pub swept_left : (lemmas : List Lemma) (level at : ℕ) → Swept lemmas level at true
swept_left lemmas level at = record { none = λ e. absurd cc }

pub swept_next : (old new : List Lemma) (level at : ℕ) (left : Bool) → Swept old level at left → length new ≡ length old → IsPassed old new at level → Swept new level (at + 1) left
swept_next old new level at left h long p = record {
  none = λ e k d low below. elim (cases_eq k at) [
    | inl same ↦ subst (λ (n : ℕ). (get_or new n d).level ≢ Steps level) (sym same) (p.other d)
    | inr ne ↦ subst (λ (l : Lemma). l.level ≢ Steps level) (sym (p.rest k d ne)) (h.none e k d (omega arith) (omega arith))
  ];
}

pub swept_end : (lemmas : List Lemma) (level at : ℕ) → length lemmas ≤ at → Swept lemmas level at false → Each (λ l. l.level ≢ Steps level) lemmas
swept_end lemmas level at all h = λ k d below. h.none refl k d (omega arith) below

-- a lemma that isn't of the level is passed
pub passed_other : (lemmas : List Lemma) (at level : ℕ) → ((d : Lemma) → (get_or lemmas at d).level ≢ Steps level) → IsPassed lemmas lemmas at level
passed_other lemmas at level h = record { other = h; rest = λ k d ne. refl }

-- and so is one that was raised
pub passed_up : (lemmas : List Lemma) (at level : ℕ) (x : Lemma) → at < length lemmas → x.level ≡ Steps (level + 1) → IsPassed lemmas (set lemmas at x) at level
passed_up lemmas at level x below e = record {
  other = λ d f.
      let same : Steps (level + 1) ≡ Steps level = sym e ∙ sym (ap (λ (l : Lemma). l.level) (get_or-set_same lemmas at x d below)) ∙ f in
      absurd (omega (arith, steps_same (level + 1) level same));
  rest = λ k d ne. get_or-set_other lemmas at k x d ne;
}

-- ---- needless lemmas

or-cases : (a b c : Bool) → (a || b) ≡ true → (a ≡ true → c ≡ true) → (b ≡ true → c ≡ true) → c ≡ true
or-cases true b c e f g = f refl
or-cases false b c e f g = g e

any-of : (s : List Bool) (lits : List StateLit) (l : StateLit) → Contains lits l → lit_true s l ≡ true → list_any (lit_true s) lits ≡ true
any-of s lits l c e = list_any_at (lit_true s) lits c.0 l c.1 (ap (lit_true s) c.2 ∙ e)

all-of : (s : List Bool) (whole part : List StateLit) → Each (Contains whole) part → list_any (lit_true s) part ≡ true → list_any (lit_true s) whole ≡ true
all-of s whole [] h e = absurd cc
all-of s whole (l ∷ ls) h e =
    or-cases (lit_true s l) (list_any (lit_true s) ls) (list_any (lit_true s) whole) e
    (any-of s whole l (All-head (Contains whole) l ls h))
    (all-of s whole ls (All-tail (Contains whole) l ls h))

pub subsumes_is : (first second : Lemma) → is_at_least first.level second.level ≡ true → Each (Contains second.lits) first.lits → Subsumes first second
subsumes_is first second level h = record { level = level; implies = λ s e. all-of s second.lits first.lits h e }
