-- Laws of the frames that lemmas make.
use Rattle.std.proofs.Common.{◌≡◌, ◌≢◌, ℕ, ◌+◌, ◌-◌, ◌<◌, ◌≤◌, Bool, true, false, None, List, [], ◌∷◌, ◌++◌, map, length, get_or, refl, sym, ap, ◌∙◌, subst, arith, inl, inr, below_more}
use Rattle.std.specs.Prelude.{All as Each}
use Rattle.std.specs.List.{list_any, remove}
use Rattle.std.proofs.Math.ListN.{set, length-set}
use Rattle.std.proofs.lemmas.Bool.{cases_eq, cases_lt, true≢false}
use Rattle.std.proofs.lemmas.List.{get_or-set_same, get_or-set_other, get_or_default, get_or-map, length-map}
use Rattle.std.proofs.lemmas.List.Edits.{get_or-remove_below, get_or-remove_above, length-remove}
use Rattle.std.proofs.lemmas.List.Elements.{All-push, All-weaker, All-set}
use Rattle.bit_system.specs.declared.ladder.Depth.{Depth}
use Rattle.bit_system.specs.declared.ladder.Depth.TheVariants.{Steps}
use Rattle.bit_system.specs.declared.ladder.StateLit.{StateLit}
use Rattle.bit_system.specs.declared.ladder.Lemma.{Lemma}
use Rattle.bit_system.specs.Machine.{Machine, IsMachine, IsStart, next_state}
use Rattle.bit_system.specs.Ladders.{HasStates, is_at_least, lit_true, lemma_true}
use Rattle.bit_system.specs.Accepted.{Rises, starts_as}
use Rattle.generalise.specs.Cubes.{opposite, in_cube, IsCube, HasBits, lemma_of, misses_start}
use Rattle.generalise.specs.Frames.{InFrame, IsBlocked, IsLearnable}
use Rattle.generalise.proofs.Smaller.{All-remove}
use Rattle.ic3_frames.specs.Framed.{Framed}
use Rattle.ic3_frames.specs.Ascents.{LieIn}
use Rattle.ic3_frames.specs.Known.{Subsumes, IsNeedless}
use Rattle.ic3_frames.specs.Queries.{StepsInto}
use Rattle.ic3_frames.specs.Rules.{IsFrameLemma, Lands, MissesHit, IsKept, Rules, AreEqual}
use Rattle.ic3_frames.proofs.Starts.{start_holds}
use Rattle.ic3_frames.proofs.Levels.{steps_same, at_least_trans, steps_at_least, at_least_steps, above}
use Rattle.ic3_frames.proofs.Bits.{twice, bits_opposite, is_state_after}
use Rattle.ic3_frames.proofs.Meaning.{frame_first, frame_last, frame_more, holds_outside, outside_holds, All-left, All-last}

-- a frame implies those above
pub frame_up : (m : Machine) (lemmas : List Lemma) (i j : ℕ) (s : List Bool) → i ≤ j → InFrame m lemmas (Steps i) s → InFrame m lemmas (Steps j) s
frame_up m lemmas i j s le f = record {
  is_state = f.is_state;
  starts = λ e. let none : i ≡ 0 = omega (arith, steps_same j 0 e) in f.starts (ap (λ (k : ℕ). Steps k) none);
  holds = All-weaker (λ l. is_at_least l.level (Steps i) ≡ true → lemma_true s l ≡ true) (λ l. is_at_least l.level (Steps j) ≡ true → lemma_true s l ≡ true)
      (λ l g up. g (at_least_trans l.level (Steps j) (Steps i) up (steps_at_least i j le))) lemmas f.holds;
}

pub each_has_states : (m : Machine) (lemmas : List Lemma) → Each (IsFrameLemma m) lemmas → Each (HasStates m) lemmas
each_has_states m lemmas h = All-weaker (IsFrameLemma m) (HasStates m) (λ l f. f.states) lemmas h

-- a start lies in each frame
pub start_in_frame : (m : Machine) (lemmas : List Lemma) (level : Depth) (s : List Bool) → Each (IsFrameLemma m) lemmas → IsStart m s → InFrame m lemmas level s
start_in_frame m lemmas level s h st = record {
  is_state = st.is_state;
  starts = λ e. st;
  holds = All-weaker (IsFrameLemma m) (λ l. is_at_least l.level level ≡ true → lemma_true s l ≡ true) (λ l f up. start_holds m s l st f.states f.starts) lemmas h;
}

pub rules_kept : (m : Machine) (f : Framed) → IsKept m f → Rules m f
rules_kept m f h = record {
  begins = λ s. ((λ g. g.starts refl), start_in_frame m f.lemmas (Steps 0) s h.lemmas);
  implies = λ i s. frame_up m f.lemmas i (i + 1) s (omega arith);
  lands = h.lands;
  misses = h.misses;
  among = λ i k d below up. at_least_trans (get_or f.lemmas k d).level (Steps (i + 1)) (Steps i) up (steps_at_least i (i + 1) (omega arith));
  lemmas = h.lemmas;
}

pub kept_none : (m : Machine) (point : ℕ) → IsMachine m → point < length m.hits → IsKept m (record { point = point; lemmas = []; depth = 0 })
kept_none m point v low = record {
  valid = v;
  point = low;
  lemmas = λ k d below. absurd (omega arith);
  lands = λ i s x f input. record {
    is_state = is_state_after m v s x;
    starts = λ e. absurd (omega (arith, steps_same (i + 1) 0 e));
    holds = λ k d below. absurd (omega arith);
  };
  misses = λ i below. absurd (omega arith);
}

-- ---- one lemma more

lands_more : (m : Machine) (lemmas : List Lemma) (level : ℕ) (cube : List StateLit) → Lands m lemmas → IsBlocked m lemmas (Steps level) cube →
    Lands m (lemmas ++ lemma_of (Steps level) cube ∷ [])
lands_more m lemmas level cube lands blocked i s x f input =
    let l : Lemma = lemma_of (Steps level) cube in
    let first : InFrame m lemmas (Steps i) s = frame_first m lemmas l (Steps i) s f in
    frame_more m lemmas l (Steps (i + 1)) (next_state m s x) (lands i s x first input)
    (λ up.
    let le : i + 1 ≤ level = at_least_steps (i + 1) level up in
    let before : InFrame m lemmas (Steps (level - 1)) s = frame_up m lemmas i (level - 1) s (omega arith) first in
    let here : lemma_true s l ≡ true = frame_last m lemmas l (Steps i) s f (steps_at_least i level (omega arith)) in
    holds_outside (next_state m s x) (Steps level) cube (blocked s x before input (outside_holds s (Steps level) cube here)))

rises_map : (cube : List StateLit) → Rises cube → Rises (map opposite cube)
rises_map cube h i j d lt below =
    let low : j < length cube = omega (arith, length-map cube opposite) in
    let at_i : get_or (map opposite cube) i d ≡ opposite (get_or cube i d) = get_or-map opposite cube i d d (omega arith) in
    let at_j : get_or (map opposite cube) j d ≡ opposite (get_or cube j d) = get_or-map opposite cube j d d low in
    rw (at_i, at_j) (h i j d lt low)

frame-lemma : (cube : List StateLit) (m : Machine) → IsCube m cube → (level : ℕ) → 0 < level → misses_start m cube ≡ true → IsFrameLemma m (lemma_of (Steps level) cube)
frame-lemma cube m c level low misses = record {
  level = (level - 1, let e : level ≡ level - 1 + 1 = omega arith in ap (λ (k : ℕ). Steps k) e);
  states = bits_opposite m cube c.in_range;
  rises = rises_map cube c.rises;
  starts = misses;
}

pub kept_more : (m : Machine) (f : Framed) (level : ℕ) (cube : List StateLit) → 0 < level → IsKept m f → IsLearnable m f.lemmas (Steps level) cube →
    IsKept m (record f { lemmas = f.lemmas ++ lemma_of (Steps level) cube ∷ [] })
kept_more m f level cube low h new =
    let l : Lemma = lemma_of (Steps level) cube in
    record {
      valid = h.valid;
      point = h.point;
      lemmas = All-push (IsFrameLemma m) f.lemmas l h.lemmas (frame-lemma cube m new.is_cube level low new.misses);
      lands = lands_more m f.lemmas level cube h.lands new.blocked;
      misses = λ i below s x t. h.misses i below s x (record { in_frame = frame_first m f.lemmas l _ s t.in_frame; is_input = t.is_input; hit = t.hit });
    }

-- ---- lists that make the same frames

abbrev pub MakeSame : List Lemma → List Lemma → Type 0
MakeSame a b = (level : Depth) (s : List Bool) → Each (λ l. is_at_least l.level level ≡ true → lemma_true s l ≡ true) a → Each (λ l. is_at_least l.level level ≡ true → lemma_true s l ≡ true) b

pub frame_same : (m : Machine) (a b : List Lemma) (level : Depth) (s : List Bool) → MakeSame a b → InFrame m a level s → InFrame m b level s
frame_same m a b level s same f = record { is_state = f.is_state; starts = f.starts; holds = same level s f.holds }

pub kept_same : (m : Machine) (f : Framed) (lemmas : List Lemma) → MakeSame f.lemmas lemmas → MakeSame lemmas f.lemmas → Each (IsFrameLemma m) lemmas → IsKept m f →
    IsKept m (record f { lemmas = lemmas })
kept_same m f lemmas to from fit h = record {
  valid = h.valid;
  point = h.point;
  lemmas = fit;
  lands = λ i s x g input. frame_same m f.lemmas lemmas (Steps (i + 1)) _ to (h.lands i s x (frame_same m lemmas f.lemmas (Steps i) s from g) input);
  misses = λ i below s x t. h.misses i below s x (record { in_frame = frame_same m lemmas f.lemmas _ s from t.in_frame; is_input = t.is_input; hit = t.hit });
}

-- ---- one lemma less, that the last one subsumes

lower_less : (lemmas : List Lemma) (at : ℕ) (P : Lemma → Type 0) → at + 1 < length lemmas → ((l : Lemma) → P l → (d : Lemma) → l ≡ get_or lemmas (length lemmas - 1) d → P (get_or lemmas at d)) →
    Each P (remove lemmas at) → Each P lemmas
lower_less lemmas at P below h a = λ k d low.
    let here : at < length lemmas = omega arith in
    let higher : (j : ℕ) → at ≤ j → j + 1 < length lemmas → P (get_or lemmas (j + 1) d) =
    λ j le high. subst P (get_or-remove_above lemmas at d j le here) (a j d (omega (arith, length-remove lemmas at here))) in
    let last : P (get_or lemmas (length lemmas - 1) d) =
    let e : length lemmas - 2 + 1 ≡ length lemmas - 1 = omega arith in
    subst (λ (n : ℕ). P (get_or lemmas n d)) e (higher (length lemmas - 2) (omega arith) (omega arith)) in
    elim (cases_lt k at) [
      | inl lt ↦ subst P (get_or-remove_below lemmas at d k lt here) (a k d (omega (arith, length-remove lemmas at here)))
      | inr ge ↦ elim (cases_eq k at) [
        | inl e ↦ subst (λ (n : ℕ). P (get_or lemmas n d)) (sym e) (h (get_or lemmas (length lemmas - 1) d) last d refl)
        | inr ne ↦ let e : k - 1 + 1 ≡ k = omega arith in
            subst (λ (n : ℕ). P (get_or lemmas n d)) e (higher (k - 1) (omega arith) (omega arith))
      ]
    ]

less-same : (lemmas : List Lemma) (at : ℕ) → at + 1 < length lemmas → IsNeedless lemmas at → MakeSame (remove lemmas at) lemmas
less-same lemmas at below needless level s a =
    lower_less lemmas at (λ l. is_at_least l.level level ≡ true → lemma_true s l ≡ true) below
    (λ l holds d e up.
    let sub : Subsumes l (get_or lemmas at d) = rw e (needless d) in
    sub.implies s (holds (at_least_trans l.level (get_or lemmas at d).level level sub.level up))) a

pub kept_less : (m : Machine) (f : Framed) (at : ℕ) → at + 1 < length f.lemmas → IsNeedless f.lemmas at → IsKept m f → IsKept m (record f { lemmas = remove f.lemmas at })
kept_less m f at below needless h =
    kept_same m f (remove f.lemmas at)
    (λ level s a. All-remove (λ l. is_at_least l.level level ≡ true → lemma_true s l ≡ true) f.lemmas at a)
    (less-same f.lemmas at below needless)
    (All-remove (IsFrameLemma m) f.lemmas at h.lemmas) h

-- ---- a lemma at a higher level

set-back : (P : Lemma → Type 0) (lemmas : List Lemma) (at : ℕ) (x l : Lemma) → at < length lemmas → l ≡ get_or lemmas at l → (P x → P l) →
    Each P (set lemmas at x) → Each P lemmas
set-back P lemmas at x l below is to h = λ k d low.
    elim (cases_eq k at) [
      | inl e ↦
          let here : l ≡ get_or lemmas k d = is ∙ get_or_default lemmas at l d below ∙ ap (λ n. get_or lemmas n d) (sym e) in
          subst P here (to (subst P (get_or-set_same lemmas at x d below) (h at d (omega (arith, length-set lemmas at x)))))
      | inr ne ↦ subst P (get_or-set_other lemmas at k x d ne) (h k d (omega (arith, length-set lemmas at x)))
    ]

raised-back : (level : ℕ) (l x : Lemma) → l.level ≡ Steps level → x.level ≡ Steps (level + 1) → x.lits ≡ l.lits → (to : Depth) (s : List Bool) →
    (is_at_least x.level to ≡ true → lemma_true s x ≡ true) → is_at_least l.level to ≡ true → lemma_true s l ≡ true
raised-back level l x e f g to s h up =
    let low : is_at_least (Steps level) to ≡ true = sym (ap (λ d. is_at_least d to) e) ∙ up in
    let high : is_at_least (Steps (level + 1)) to ≡ true = at_least_trans (Steps (level + 1)) (Steps level) to (steps_at_least level (level + 1) (omega arith)) low in
    ap (list_any (lit_true s)) (sym g) ∙ h (ap (λ d. is_at_least d to) f ∙ high)

frame-lemma-as : (m : Machine) (l x : Lemma) (level : ℕ) → x.level ≡ Steps (level + 1) → x.lits ≡ l.lits → IsFrameLemma m l → IsFrameLemma m x
frame-lemma-as m l x level e g h = record {
  level = (level, e);
  states = subst (λ (ls : List StateLit). HasBits m ls) (sym g) h.states;
  rises = subst (λ (ls : List StateLit). Rises ls) (sym g) h.rises;
  starts = ap (λ (ls : List StateLit). list_any (λ l. starts_as (get_or m.states l.state (record { name = []; start = None })).start l.positive) ls) g ∙ h.starts;
}

pub raised_same : (lemmas : List Lemma) (at level : ℕ) (l x : Lemma) → at < length lemmas → l ≡ get_or lemmas at l → l.level ≡ Steps level → x.level ≡ Steps (level + 1) → x.lits ≡ l.lits →
    MakeSame (set lemmas at x) (lemmas ++ x ∷ [])
raised_same lemmas at level l x below is e f g to s h =
    let P : Lemma → Type 0 = λ k. is_at_least k.level to ≡ true → lemma_true s k ≡ true in
    let here : P x = subst P (get_or-set_same lemmas at x l below) (h at l (omega (arith, length-set lemmas at x))) in
    All-push P lemmas x (set-back P lemmas at x l below is (raised-back level l x e f g to s) h) here

pub raised_more : (lemmas : List Lemma) (at : ℕ) (x : Lemma) → MakeSame (lemmas ++ x ∷ []) (set lemmas at x)
raised_more lemmas at x to s h =
    let P : Lemma → Type 0 = λ k. is_at_least k.level to ≡ true → lemma_true s k ≡ true in
    All-set P lemmas at x (All-last P lemmas x h) (All-left P lemmas (x ∷ []) h)

raised-kept : (m : Machine) (f : Framed) (at level : ℕ) (l x : Lemma) → at < length f.lemmas → l ≡ get_or f.lemmas at l → l.level ≡ Steps level →
    x.level ≡ Steps (level + 1) → x.lits ≡ l.lits → IsKept m f → Lands m (f.lemmas ++ x ∷ []) → IsKept m (record f { lemmas = set f.lemmas at x })
raised-kept m f at level l x below is e up g h lands =
    let own : IsFrameLemma m l = subst (IsFrameLemma m) (sym is) (h.lemmas at l below) in
    let same : MakeSame (set f.lemmas at x) (f.lemmas ++ x ∷ []) = raised_same f.lemmas at level l x below is e up g in
    record {
      valid = h.valid;
      point = h.point;
      lemmas = All-set (IsFrameLemma m) f.lemmas at x (frame-lemma-as m l x level up g own) h.lemmas;
      lands = λ i s y t input. frame_same m (f.lemmas ++ x ∷ []) (set f.lemmas at x) (Steps (i + 1)) _ (raised_more f.lemmas at x)
          (lands i s y (frame_same m (set f.lemmas at x) (f.lemmas ++ x ∷ []) (Steps i) s same t) input);
      misses = λ i low s y t. h.misses i low s y (record {
        in_frame = frame_first m f.lemmas x _ s (frame_same m (set f.lemmas at x) (f.lemmas ++ x ∷ []) _ s same t.in_frame);
        is_input = t.is_input;
        hit = t.hit;
      });
    }

pub kept_raised : (m : Machine) (f : Framed) (at level : ℕ) (l : Lemma) → at < length f.lemmas → l ≡ get_or f.lemmas at l → l.level ≡ Steps level → IsKept m f →
    IsBlocked m f.lemmas (Steps (level + 1)) (map opposite l.lits) →
    IsKept m (record f { lemmas = set f.lemmas at (lemma_of (Steps (level + 1)) (map opposite l.lits)) })
kept_raised m f at level l below is e h blocked =
    raised-kept m f at level l (lemma_of (Steps (level + 1)) (map opposite l.lits)) below is e refl (twice l.lits) h
    (lands_more m f.lemmas (level + 1) (map opposite l.lits) h.lands blocked)

-- no step into the cube is what blocks it
pub none_blocks : (m : Machine) (lemmas : List Lemma) (level : Depth) (cube : List StateLit) → ((s x : List Bool) → StepsInto m lemmas level cube s x → ⊥) → IsBlocked m lemmas level cube
none_blocks m lemmas level cube none s x f input outside =
    by (in_cube (next_state m s x) cube) refl
  where
    by : (b : Bool) → in_cube (next_state m s x) cube ≡ b → in_cube (next_state m s x) cube ≡ false
    by true e = absurd (none s x (record { in_frame = f; is_input = input; outside = outside; into = e }))
    by false e = e

-- and a step is what doesn't
pub some_unblocks : (m : Machine) (lemmas : List Lemma) (level : Depth) (cube : List StateLit) (s x : List Bool) → StepsInto m lemmas level cube s x → IsBlocked m lemmas level cube → ⊥
some_unblocks m lemmas level cube s x t h = true≢false (sym t.into ∙ h s x t.in_frame t.is_input t.outside)

-- where no lemma is of this very level
pub equal_frames : (m : Machine) (lemmas : List Lemma) (level : ℕ) → 0 < level → Each (λ l. l.level ≢ Steps level) lemmas → AreEqual m lemmas level
equal_frames m lemmas level low none s = (
  frame_up m lemmas level (level + 1) s (omega arith),
  λ f. record {
    is_state = f.is_state;
    starts = λ e. absurd (omega (arith, steps_same level 0 e));
    holds = λ k d below up. f.holds k d below (above (get_or lemmas k d).level level (none k d below) up);
  },
)

pub kept_deeper : (m : Machine) (f : Framed) → IsKept m f → MissesHit m f.point f.lemmas f.depth → IsKept m (record f { depth = f.depth + 1 })
kept_deeper m f h hit = record {
  valid = h.valid;
  point = h.point;
  lemmas = h.lemmas;
  lands = h.lands;
  misses = below_more (λ i. MissesHit m f.point f.lemmas i) f.depth h.misses hit;
}

-- ---- the same, as the methods have it

pub kept_risen : (m : Machine) (f : Framed) (point : ℕ) (lemmas : List Lemma) (depth : ℕ) → record { point = point; lemmas = lemmas; depth = depth } ≡ f → IsKept m f → MissesHit m f.point f.lemmas f.depth →
    IsKept m (record { point = point; lemmas = lemmas; depth = depth + 1 })
kept_risen m f point lemmas depth e h hit =
    let Q : Framed → Type 0 = λ g. MissesHit m g.point g.lemmas g.depth in
    kept_deeper m (record { point = point; lemmas = lemmas; depth = depth }) (subst (IsKept m) (sym e) h) (subst Q (sym e) hit)

pub kept_forgotten : (m : Machine) (f : Framed) (point : ℕ) (lemmas new : List Lemma) (depth at : ℕ) → record { point = point; lemmas = lemmas; depth = depth } ≡ f →
    new ≡ remove lemmas at → at + 1 < length f.lemmas → IsNeedless f.lemmas at → IsKept m f → IsKept m (record { point = point; lemmas = new; depth = depth })
kept_forgotten m f point lemmas new depth at e same below needless h =
    let B : Framed → Type 0 = λ g. at + 1 < length g.lemmas in
    let N : Framed → Type 0 = λ g. IsNeedless g.lemmas at in
    rw same (kept_less m (record { point = point; lemmas = lemmas; depth = depth }) at (subst B (sym e) below) (subst N (sym e) needless) (subst (IsKept m) (sym e) h))

pub forgotten_lies_in : (f : Framed) (point : ℕ) (lemmas new : List Lemma) (depth at : ℕ) → record { point = point; lemmas = lemmas; depth = depth } ≡ f →
    new ≡ remove lemmas at → at + 1 < length f.lemmas → IsNeedless f.lemmas at → LieIn new f.lemmas
forgotten_lies_in f point lemmas new depth at e same below needless m level s t =
    let lists : lemmas ≡ f.lemmas = ap (λ (g : Framed). g.lemmas) e in
    let less : new ≡ remove f.lemmas at = same ∙ ap (λ (ls : List Lemma). remove ls at) lists in
    frame_same m (remove f.lemmas at) f.lemmas level s (less-same f.lemmas at below needless) (subst (λ (ls : List Lemma). InFrame m ls level s) less t)

pub kept_learnt : (m : Machine) (f new : Framed) (point : ℕ) (lemmas now : List Lemma) (depth level : ℕ) (cube : List StateLit) → record { point = point; lemmas = lemmas; depth = depth } ≡ f → IsKept m f →
    0 < level → now ≡ lemmas → IsLearnable m lemmas (Steps level) cube → new ≡ record { point = point; lemmas = now ++ lemma_of (Steps level) cube ∷ []; depth = depth } → IsKept m new
kept_learnt m f new point lemmas now depth level cube e h low same learnable is =
    rw (is, same) (kept_more m (record { point = point; lemmas = lemmas; depth = depth }) level cube low (subst (IsKept m) (sym e) h) learnable)

pub at_place : (f : Framed) (point : ℕ) (lemmas : List Lemma) (depth at : ℕ) (l : Lemma) → record { point = point; lemmas = lemmas; depth = depth } ≡ f → l ≡ get_or lemmas at l → l ≡ get_or f.lemmas at l
at_place f point lemmas depth at l e is = is ∙ ap (λ (g : Framed). get_or g.lemmas at l) e

pub cube_bits : (m : Machine) (f : Framed) (point : ℕ) (lemmas : List Lemma) (depth at : ℕ) (l : Lemma) (cube : List StateLit) → record { point = point; lemmas = lemmas; depth = depth } ≡ f → IsKept m f →
    at < length f.lemmas → l ≡ get_or lemmas at l → cube ≡ map opposite l.lits → HasBits m cube
cube_bits m f point lemmas depth at l cube e h below is same =
    let own : IsFrameLemma m l = subst (IsFrameLemma m) (sym (at_place f point lemmas depth at l e is)) (h.lemmas at l below) in
    rw same (bits_opposite m l.lits own.states)

pub kept_set : (m : Machine) (f : Framed) (point point2 : ℕ) (lemmas lemmas2 new : List Lemma) (depth depth2 at level next : ℕ) (l x : Lemma) (cube : List StateLit) →
    record { point = point; lemmas = lemmas; depth = depth } ≡ f → record { point = point2; lemmas = lemmas2; depth = depth2 } ≡ f → IsKept m f →
    at < length f.lemmas → ((d : Lemma) → (get_or f.lemmas at d).level ≡ Steps level) → l ≡ get_or lemmas at l → next ≡ level + 1 → cube ≡ map opposite l.lits →
    ((s t : List Bool) → StepsInto m f.lemmas (Steps next) cube s t → ⊥) → x ≡ lemma_of (Steps next) cube → new ≡ set lemmas2 at x →
    IsKept m (record { point = point2; lemmas = new; depth = depth2 })
kept_set m f point point2 lemmas lemmas2 new depth depth2 at level next l x cube e e2 h below here is up same none made put =
    let place : l ≡ get_or f.lemmas at l = at_place f point lemmas depth at l e is in
    let own : l.level ≡ Steps level = ap (λ (k : Lemma). k.level) place ∙ here l in
    let blocked : IsBlocked m f.lemmas (Steps next) cube = none_blocks m f.lemmas (Steps next) cube none in
    let raised : IsKept m (record f { lemmas = set f.lemmas at (lemma_of (Steps (level + 1)) (map opposite l.lits)) }) =
    kept_raised m f at level l below place own h (rw (up, same) at blocked) in
    let points : point2 ≡ f.point = ap (λ (g : Framed). g.point) e2 in
    let lists : lemmas2 ≡ f.lemmas = ap (λ (g : Framed). g.lemmas) e2 in
    let depths : depth2 ≡ f.depth = ap (λ (g : Framed). g.depth) e2 in
    rw (put, made, up, same, points, lists, depths) raised
