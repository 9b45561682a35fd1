-- What is shown of the cone, of the whole system.
use Rattle.std.proofs.Common.{◌≡◌, ℕ, ◌+◌, ◌<◌, Bool, true, List, map, length, get_or, sym, ap, ◌∙◌, subst, arith}
use Rattle.std.specs.Prelude.{All as Each}
use Rattle.std.proofs.lemmas.List.{length-map}
use Rattle.std.proofs.lemmas.List.Elements.{All-map, All-weaker}
use Rattle.bit_system.specs.declared.ladder.Depth.{Depth}
use Rattle.bit_system.specs.declared.ladder.Depth.TheVariants.{All, Steps}
use Rattle.bit_system.specs.declared.ladder.StateLit.{StateLit}
use Rattle.bit_system.specs.declared.ladder.Lemma.{Lemma}
use Rattle.bit_system.specs.Machine.{Machine, IsMachine, IsInput, IsStart, next_state}
use Rattle.bit_system.specs.Ladders.{HasStates, is_at_least, previous, lemma_true}
use Rattle.bit_system.specs.Accepted.{LemmaFits, true_at_start}
use Rattle.generalise.specs.Frames.{InFrame}
use Rattle.ic3_frames.specs.Framed.{Framed}
use Rattle.ic3_frames.specs.Queries.{Fails, Hits}
use Rattle.ic3_frames.specs.Rules.{IsKept}
use Rattle.ic3_frames.specs.Turns.{IsClosed}
use Rattle.ic3_frames.specs.Walks.{EndsAtFirstHit}
use Rattle.point_cone.specs.Back.{whole_lemma}
use Rattle.point_cone.specs.Parts.{part, IsCone}
use Rattle.point_cone.specs.declared.build.Cone.{Cone}
use Rattle.point_cone.proofs.Whole.{part_state, part_input, part_start, hits_to, hits_from, lemma_same, start_same, whole_has, whole_rises}
use Rattle.point_prover.specs.Good.{IsGood}
use Rattle.point_prover.specs.Levels.{all_for_ever, all_capped}
use Rattle.point_prover.proofs.Ladders.{each_back, has_states, closed_good, depth_good}

-- ---- walks

pub walk_whole : (whole : Machine) (cone : Cone) (start some : List Bool) (lines few : List (List Bool)) → IsMachine whole → IsCone whole cone →
    IsStart whole start → Each (IsInput whole) lines → part cone.states start ≡ some → map (part cone.inputs) lines ≡ few →
    EndsAtFirstHit cone.system 0 (record { start = some; lines = few }) → EndsAtFirstHit whole cone.point (record { start = start; lines = lines })
walk_whole whole cone start some lines few v h st inputs es el w =
    let part : EndsAtFirstHit cone.system 0 (record { start = part cone.states start; lines = map (part cone.inputs) lines }) = rw (es, el) w in
    record {
      is_walk = record { starts = st; each_input = inputs };
      last = part.last;
      long = sym (length-map lines (Rattle.point_cone.specs.Parts.part cone.inputs)) ∙ part.long;
      hit = hits_to whole cone v h start lines part.last st.is_state inputs part.hit;
      first = λ t low x. part.first t low (hits_from whole cone v h start lines t st.is_state inputs x);
    }

-- ---- lemmas

module _ (whole : Machine) (cone : Cone) (v : IsMachine whole) (h : IsCone whole cone) where
  abbrev pub IsIn : Lemma → Type 0
  IsIn l = Each (λ k. k.state < length cone.states) l.lits

  pub is_in : (l : Lemma) → HasStates cone.system l → IsIn l
  is_in l s = All-weaker (λ (k : StateLit). k.state < length cone.system.states) (λ (k : StateLit). k.state < length cone.states) (λ k low. omega (arith, low, h.state_count)) l.lits s

  abbrev pub wholes : List Lemma → List Lemma
  wholes ls = map (whole_lemma cone.states) ls

  true_same : (s : List Bool) (l : Lemma) → IsIn l → lemma_true s (whole_lemma cone.states l) ≡ lemma_true (part cone.states s) l
  true_same s l i = lemma_same whole cone h s l.lits i

  -- a state of a frame of the whole system has its part in that of the cone
  frame_part : (ls : List Lemma) (level : Depth) (s : List Bool) → Each IsIn ls → InFrame whole (wholes ls) level s → InFrame cone.system ls level (part cone.states s)
  frame_part ls level s ins g = record {
    is_state = part_state whole cone v h s;
    starts = λ e. part_start whole cone v h s (g.starts e);
    holds = λ i d low up. each_back (λ l. is_at_least l.level level ≡ true → lemma_true s l ≡ true)
        (λ l. IsIn l → is_at_least l.level level ≡ true → lemma_true (part cone.states s) l ≡ true) (whole_lemma cone.states)
        (λ l was i up. sym (true_same s l i) ∙ was up) ls g.holds i d low (ins i d low) up;
  }

  fails_part : (ls : List Lemma) (l : Lemma) (s x : List Bool) → Each IsIn ls → IsIn l → Fails whole (wholes ls) (whole_lemma cone.states l) s x → Fails cone.system ls l (part cone.states s) (part cone.inputs x)
  fails_part ls l s x ins i f = record {
    in_frame = frame_part ls (previous l.level) s ins f.in_frame;
    is_input = part_input whole cone v h x;
    false_after =
        ap (λ (t : List Bool). lemma_true t l) (h.steps s x f.in_frame.is_state f.is_input)
        ∙ sym (true_same (next_state whole s x) l i) ∙ f.false_after;
  }

  hits_part : (ls : List Lemma) (depth : Depth) (s x : List Bool) → Each IsIn ls → Hits whole cone.point (wholes ls) depth s x → Hits cone.system 0 ls depth (part cone.states s) (part cone.inputs x)
  hits_part ls depth s x ins f = record {
    in_frame = frame_part ls (previous depth) s ins f.in_frame;
    is_input = part_input whole cone v h x;
    hit = h.hits s x f.in_frame.is_state f.is_input ∙ f.hit;
  }

  fits_whole : (depth : Depth) (l : Lemma) → LemmaFits cone.system depth l → LemmaFits whole depth (whole_lemma cone.states l)
  fits_whole depth l f = record {
    level = f.level;
    states = whole_has whole cone h l (is_in l f.states);
    rises = whole_rises whole cone h l (is_in l f.states) f.rises;
  }

  -- lemmas that make a ladder of the cone make one of the whole system
  pub good_whole : (depth : Depth) (ls : List Lemma) → IsGood cone.system 0 depth ls → IsGood whole cone.point depth (wholes ls)
  good_whole depth ls g =
      let ins : Each IsIn ls = All-weaker (LemmaFits cone.system depth) IsIn (λ l f. is_in l f.states) ls g.fits in
      record {
        valid = v;
        point_exists = h.point;
        steps = g.steps;
        fits = All-map (LemmaFits whole depth) (whole_lemma cone.states) ls
            (All-weaker (LemmaFits cone.system depth) (λ l. LemmaFits whole depth (whole_lemma cone.states l)) (λ l f. fits_whole depth l f) ls g.fits);
        starts = All-map (λ l. true_at_start whole l ≡ true) (whole_lemma cone.states) ls (λ i d low. start_same whole cone h (get_or ls i d).lits (ins i d low) ∙ g.starts i d low);
        lasts = All-map (λ l. (s x : List Bool) → Fails whole (wholes ls) l s x → ⊥) (whole_lemma cone.states) ls
            (λ i d low s x f. g.lasts i d low (part cone.states s) (part cone.inputs x) (fails_part ls (get_or ls i d) s x ins (ins i d low) f));
        misses = λ s x f. g.misses (part cone.states s) (part cone.inputs x) (hits_part ls depth s x ins f);
      }

  -- of frames, those of a level for any number of steps
  pub closed_whole : (f : Framed) (level : ℕ) → IsKept cone.system f → f.point ≡ 0 → IsClosed cone.system f level → IsGood whole cone.point All (wholes (all_for_ever level f.lemmas))
  closed_whole f level k p c = good_whole All (all_for_ever level f.lemmas) (subst (λ (n : ℕ). IsGood cone.system n All (all_for_ever level f.lemmas)) p (closed_good cone.system f k level c))

  pub closed_in : (f : Framed) (level : ℕ) → IsKept cone.system f → IsClosed cone.system f level → Each IsIn (all_for_ever level f.lemmas)
  closed_in f level k c = All-weaker (HasStates cone.system) IsIn is_in (all_for_ever level f.lemmas) (has_states cone.system f.point All (all_for_ever level f.lemmas) (closed_good cone.system f k level c))

  -- and those below the depth
  pub depth_whole : (f : Framed) (depth top : ℕ) → IsKept cone.system f → f.point ≡ 0 → depth ≡ f.depth → depth ≡ top + 1 → IsGood whole cone.point (Steps depth) (wholes (all_capped top f.lemmas))
  depth_whole f depth top k p e is = good_whole (Steps depth) (all_capped top f.lemmas) (subst (λ (n : ℕ). IsGood cone.system n (Steps depth) (all_capped top f.lemmas)) p (depth_good cone.system f depth top k e is))

  pub depth_in : (f : Framed) (depth top : ℕ) → IsKept cone.system f → depth ≡ f.depth → depth ≡ top + 1 → Each IsIn (all_capped top f.lemmas)
  depth_in f depth top k e is = All-weaker (HasStates cone.system) IsIn is_in (all_capped top f.lemmas) (has_states cone.system f.point (Steps depth) (all_capped top f.lemmas) (depth_good cone.system f depth top k e is))
