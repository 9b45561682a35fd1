-- Cubes that frames keep out.
use Rattle.std.proofs.Common.{◌≡◌, ℕ, ◌≤◌, Bool, true, false, List, [], ◌∷◌, ◌++◌, refl, sym, ◌∙◌, subst}
use Rattle.std.specs.List.{remove}
use Rattle.std.proofs.lemmas.Bool.{true≢false}
use Rattle.std.proofs.lemmas.List.Sums.{AllPass-from_list_all, list_all-from_AllPass}
use Rattle.bit_system.specs.declared.ladder.Depth.TheVariants.{Steps}
use Rattle.bit_system.specs.declared.ladder.StateLit.{StateLit}
use Rattle.bit_system.specs.declared.ladder.Lemma.{Lemma}
use Rattle.bit_system.specs.Machine.{Machine}
use Rattle.bit_system.specs.Ladders.{lit_true, lemma_true}
use Rattle.generalise.specs.Cubes.{in_cube, lemma_of}
use Rattle.generalise.specs.Frames.{InFrame}
use Rattle.generalise.specs.Parts.{IsPart, whole, less}
use Rattle.generalise.proofs.Smaller.{All-remove}
use Rattle.ic3_frames.specs.Ascents.{KeepsOut, LieIn}
use Rattle.ic3_frames.proofs.Levels.{steps_at_least}
use Rattle.ic3_frames.proofs.Meaning.{frame_last, outside_holds}

part-inside : (s : List Bool) (part cube : List StateLit) → IsPart part cube → in_cube s cube ≡ true → in_cube s part ≡ true
part-inside s part cube (whole _) h = h
part-inside s part cube (less _ _ k below p) h =
    part-inside s part (remove cube k) p
    (list_all-from_AllPass (lit_true s) (remove cube k) (All-remove (λ l. lit_true s l ≡ true) cube k (AllPass-from_list_all (lit_true s) cube h)))

outside-whole : (s : List Bool) (part cube : List StateLit) → IsPart part cube → in_cube s part ≡ false → in_cube s cube ≡ false
outside-whole s part cube p out =
    by (in_cube s cube) refl
  where
    by : (b : Bool) → in_cube s cube ≡ b → in_cube s cube ≡ false
    by true e = absurd (true≢false (sym (part-inside s part cube p e) ∙ out))
    by false e = e

-- a lemma of a part keeps the whole cube out
pub learnt_keeps_out : (m : Machine) (lemmas learnt new : List Lemma) (level high : ℕ) (part cube : List StateLit) → level ≤ high → learnt ≡ lemmas ++ lemma_of (Steps high) part ∷ [] →
    LieIn new learnt → IsPart part cube → KeepsOut m new level cube
learnt_keeps_out m lemmas learnt new level high part cube le is within p s f =
    let l : Lemma = lemma_of (Steps high) part in
    let inner : InFrame m (lemmas ++ l ∷ []) (Steps level) s = subst (λ (ls : List Lemma). InFrame m ls (Steps level) s) is (within m (Steps level) s f) in
    let holds : lemma_true s l ≡ true = frame_last m lemmas l (Steps level) s inner (steps_at_least level high le) in
    outside-whole s part cube p (outside_holds s (Steps high) part holds)

pub lie_in_trans : (a b c : List Lemma) → LieIn a b → LieIn b c → LieIn a c
lie_in_trans a b c p q m level s f = q m level s (p m level s f)
