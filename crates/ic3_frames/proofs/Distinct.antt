-- Frames that differ: a step from one that leaves it.
use Rattle.std.proofs.Common.{◌≡◌, ℕ, ◌+◌, ◌-◌, ◌<◌, Bool, true, List, [], ◌∷◌, ◌++◌, map, length, get_or, sym, ap, ◌∙◌, subst, arith, inl, inr}
use Rattle.std.specs.List.{list_any}
use Rattle.std.proofs.Math.ListN.{set}
use Rattle.std.proofs.lemmas.Bool.{cases_eq, true≢false}
use Rattle.bit_system.specs.declared.ladder.Depth.TheVariants.{Steps}
use Rattle.bit_system.specs.declared.ladder.StateLit.{StateLit}
use Rattle.bit_system.specs.declared.ladder.Lemma.{Lemma}
use Rattle.bit_system.specs.Machine.{Machine, next_state}
use Rattle.bit_system.specs.Ladders.{is_at_least, lit_true, lemma_true}
use Rattle.generalise.specs.Cubes.{opposite, lemma_of}
use Rattle.generalise.specs.Frames.{InFrame}
use Rattle.ic3_frames.specs.Framed.{Framed}
use Rattle.ic3_frames.specs.Queries.{StepsInto}
use Rattle.ic3_frames.specs.Raised.{StepsOut, AreSameUpTo}
use Rattle.ic3_frames.specs.Rules.{AreEqual, Lands}
use Rattle.ic3_frames.proofs.Bits.{twice}
use Rattle.ic3_frames.proofs.Laws.{frame_same, raised_same, raised_more, at_place}
use Rattle.ic3_frames.proofs.Levels.{steps_at_least}
use Rattle.ic3_frames.proofs.Meaning.{frame_first, frame_more, outside_holds}

pub same_trans : (m : Machine) (level : ℕ) (a b c : List Lemma) → AreSameUpTo m level a b → AreSameUpTo m level b c → AreSameUpTo m level a c
same_trans m level a b c p q i s le = ((λ f. (p i s le).0 ((q i s le).0 f)), (λ f. (q i s le).1 ((p i s le).1 f)))

pub still_out : (m : Machine) (level : ℕ) (a b : List Lemma) → AreSameUpTo m level a b → StepsOut m a level → StepsOut m b level
still_out m level a b same t = record {
  state = t.state;
  input = t.input;
  in_frame = (same level t.state (omega arith)).1 t.in_frame;
  is_input = t.is_input;
  out = λ f. t.out ((same level (next_state m t.state t.input) (omega arith)).0 f);
}

-- levels below stay distinct, and so is one that a step leaves
pub distinct_next : (m : Machine) (level : ℕ) (old new : List Lemma) → Lands m new → AreSameUpTo m level old new → StepsOut m new level →
    ((i : ℕ) → 0 < i → i < level → AreEqual m old i → ⊥) → (i : ℕ) → 0 < i → i < level + 1 → AreEqual m new i → ⊥
distinct_next m level old new lands same t below i low under equal =
    elim (cases_eq i level) [
      | inl e ↦
          let at : AreEqual m new level = subst (λ (n : ℕ). AreEqual m new n) e equal in
          t.out ((at (next_state m t.state t.input)).1 (lands level t.state t.input t.in_frame t.is_input))
      | inr ne ↦
          below i low (omega arith)
          (λ s. (
            (λ f. (same (i + 1) s (omega arith)).0 ((equal s).0 ((same i s (omega arith)).1 f))),
            (λ f. (same i s (omega arith)).0 ((equal s).1 ((same (i + 1) s (omega arith)).1 f))),
          ))
    ]

-- a step that makes a lemma of the level false leaves its frame
steps-out : (m : Machine) (lemmas : List Lemma) (at level next : ℕ) (l : Lemma) (cube : List StateLit) (s x : List Bool) → at < length lemmas → l ≡ get_or lemmas at l → l.level ≡ Steps level →
    next ≡ level + 1 → cube ≡ map opposite l.lits → StepsInto m lemmas (Steps next) cube s x → StepsOut m lemmas level
steps-out m lemmas at level next l cube s x below is e up same t = record {
  state = s;
  input = x;
  in_frame = let before : next - 1 ≡ level = omega arith in subst (λ (n : ℕ). InFrame m lemmas (Steps n) s) before t.in_frame;
  is_input = t.is_input;
  out = λ f.
      let P : Lemma → Type 0 = λ k. is_at_least k.level (Steps level) ≡ true → lemma_true (next_state m s x) k ≡ true in
      let holds : lemma_true (next_state m s x) l ≡ true =
      subst P (sym is) (f.holds at l below) (ap (λ d. is_at_least d (Steps level)) e ∙ steps_at_least level level (omega arith)) in
      let again : map opposite cube ≡ l.lits = ap (map opposite) same ∙ twice l.lits in
      true≢false (sym t.into ∙ outside_holds (next_state m s x) (Steps level) cube (ap (list_any (lit_true (next_state m s x))) again ∙ holds));
}

-- a lemma at the next level makes the same frames up to its own
set-same : (m : Machine) (lemmas : List Lemma) (at level : ℕ) (l x : Lemma) → at < length lemmas → l ≡ get_or lemmas at l → l.level ≡ Steps level → x.level ≡ Steps (level + 1) → x.lits ≡ l.lits →
    AreSameUpTo m level lemmas (set lemmas at x)
set-same m lemmas at level l x below is e up g i s le = (
  (λ f. frame_first m lemmas x (Steps i) s (frame_same m (set lemmas at x) (lemmas ++ x ∷ []) (Steps i) s (raised_same lemmas at level l x below is e up g) f)),
  (λ f.
      let P : Lemma → Type 0 = λ k. is_at_least k.level (Steps i) ≡ true → lemma_true s k ≡ true in
      let holds : lemma_true s l ≡ true = subst P (sym is) (f.holds at l below) (ap (λ d. is_at_least d (Steps i)) e ∙ steps_at_least i level le) in
      frame_same m (lemmas ++ x ∷ []) (set lemmas at x) (Steps i) s (raised_more lemmas at x)
      (frame_more m lemmas x (Steps i) s f (λ high. ap (list_any (lit_true s)) g ∙ holds))),
)

-- ---- the same, as the methods have it

pub left_out : (m : Machine) (f : Framed) (point : ℕ) (lemmas : List Lemma) (depth at level next : ℕ) (l : Lemma) (cube : List StateLit) (s x : List Bool) →
    record { point = point; lemmas = lemmas; depth = depth } ≡ f → at < length f.lemmas → ((d : Lemma) → (get_or f.lemmas at d).level ≡ Steps level) → l ≡ get_or lemmas at l → next ≡ level + 1 →
    cube ≡ map opposite l.lits → StepsInto m f.lemmas (Steps next) cube s x → StepsOut m f.lemmas level
left_out m f point lemmas depth at level next l cube s x e below here is up same t =
    let place : l ≡ get_or f.lemmas at l = at_place f point lemmas depth at l e is in
    let own : l.level ≡ Steps level = ap (λ (k : Lemma). k.level) place ∙ here l in
    steps-out m f.lemmas at level next l cube s x below place own up same t

pub set_same : (m : Machine) (f : Framed) (point point2 : ℕ) (lemmas lemmas2 new : List Lemma) (depth depth2 at level next : ℕ) (l x : Lemma) (cube : List StateLit) →
    record { point = point; lemmas = lemmas; depth = depth } ≡ f → record { point = point2; lemmas = lemmas2; depth = depth2 } ≡ f →
    at < length f.lemmas → ((d : Lemma) → (get_or f.lemmas at d).level ≡ Steps level) → l ≡ get_or lemmas at l → next ≡ level + 1 → cube ≡ map opposite l.lits →
    x ≡ lemma_of (Steps next) cube → new ≡ set lemmas2 at x → AreSameUpTo m level f.lemmas new
set_same m f point point2 lemmas lemmas2 new depth depth2 at level next l x cube e e2 below here is up same made put =
    let place : l ≡ get_or f.lemmas at l = at_place f point lemmas depth at l e is in
    let own : l.level ≡ Steps level = ap (λ (k : Lemma). k.level) place ∙ here l in
    let lists : lemmas2 ≡ f.lemmas = ap (λ (g : Framed). g.lemmas) e2 in
    let higher : x.level ≡ Steps (level + 1) = ap (λ (k : Lemma). k.level) made ∙ ap (λ (n : ℕ). Steps n) up in
    let again : x.lits ≡ l.lits = ap (λ (k : Lemma). k.lits) made ∙ ap (map opposite) same ∙ twice l.lits in
    rw (put, lists) (set-same m f.lemmas at level l x below place own higher again)
