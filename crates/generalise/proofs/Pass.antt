-- A pass over the literals of a cube, under way.
use Rattle.std.proofs.Common.{◌≡◌, ℕ, ◌+◌, ◌<◌, ◌≤◌, Bool, true, false, List, length, arith, subst, sym, below_more}
use Rattle.std.specs.List.{remove}
use Rattle.std.proofs.lemmas.List.Edits.{length-remove}
use Rattle.bit_system.specs.declared.ladder.Depth.{Depth}
use Rattle.bit_system.specs.declared.ladder.StateLit.{StateLit}
use Rattle.bit_system.specs.declared.ladder.Lemma.{Lemma}
use Rattle.bit_system.specs.Machine.{Machine}
use Rattle.generalise.specs.Cubes.{misses_start}
use Rattle.generalise.specs.Frames.{IsBlocked, IsLearnable, IsLeast}
use Rattle.generalise.specs.Parts.{IsPart, whole, less, IsPass}
use Rattle.generalise.specs.declared.units.Units.{Units}
use Rattle.generalise.proofs.Smaller.{part_without, shorter_without}

-- the literals before `at` are needed, unless one was dropped
pub record UnderWay (m : Machine) (lemmas : List Lemma) (level : Depth) (old cube : List StateLit) (at : ℕ) (dropped : Bool) : Type 0 where
  pub learnable : IsLearnable m lemmas level cube
  pub part : IsPart cube old
  pub shorter : dropped ≡ true → length cube < length old
  pub needed : dropped ≡ false → (k : ℕ) → k < at → misses_start m (remove cube k) ≡ true → IsBlocked m lemmas level (remove cube k) → ⊥

pub under_way : (m : Machine) (lemmas : List Lemma) (level : Depth) (cube : List StateLit) → IsLearnable m lemmas level cube → UnderWay m lemmas level cube cube 0 false
under_way m lemmas level cube h = record { learnable = h; part = whole cube; shorter = λ f. cc; needed = λ e k below. absurd (omega arith) }

pub learnable_along : (m n : Machine) (l k : List Lemma) (level : Depth) (cube : List StateLit) → m ≡ n → l ≡ k → IsLearnable m l level cube → IsLearnable n k level cube
learnable_along m n l k level cube p q h =
    let P : Machine → Type 0 = λ w. IsLearnable w k level cube in
    let Q : List Lemma → Type 0 = λ w. IsLearnable m w level cube in
    subst P p (subst Q q h)

pub least_along : (m n : Machine) (l k : List Lemma) (level : Depth) (cube : List StateLit) → m ≡ n → l ≡ k → IsLeast m l level cube → IsLeast n k level cube
least_along m n l k level cube p q h =
    let P : Machine → Type 0 = λ w. IsLeast w k level cube in
    let Q : List Lemma → Type 0 = λ w. IsLeast m w level cube in
    subst P p (subst Q q h)

part_le : (part cube : List StateLit) → IsPart part cube → length part ≤ length cube
part_le a b (whole cube) = omega arith
part_le a b (less part cube j below p) = omega (arith, part_le part _ p, length-remove cube j below)

shorter_part : (old rest cube : List StateLit) → length rest + 1 ≡ length cube → IsPart cube old → length rest < length old
shorter_part old rest cube e p = omega (arith, part_le cube old p)

pub after_less : (m n : Machine) (l k : List Lemma) (level : Depth) (old cube rest : List StateLit) (at : ℕ) (dropped : Bool) →
    n ≡ m → k ≡ l → at < length cube → UnderWay m l level old cube at dropped →
    rest ≡ remove cube at → IsLearnable n k level rest → UnderWay m l level old rest at true
after_less m n l k level old cube rest at dropped p q below u e h =
    let P : List StateLit → Type 0 = λ r. IsPart r old in
    let part : IsPart rest old = subst P (sym e) (part_without cube old at below u.part) in
    let short : length rest + 1 ≡ length cube = shorter_without cube rest at below e in
    record {
      learnable = learnable_along n m k l level rest p q h;
      part = part;
      shorter = λ t. shorter_part old rest cube short u.part;
      needed = λ f. cc;
    }

pub after_needed : (m n : Machine) (l k : List Lemma) (level : Depth) (old cube : List StateLit) (at : ℕ) (dropped : Bool) →
    n ≡ m → k ≡ l → UnderWay m l level old cube at dropped →
    (misses_start n (remove cube at) ≡ true → IsBlocked n k level (remove cube at) → ⊥) → UnderWay m l level old cube (at + 1) dropped
after_needed m n l k level old cube at dropped p q u h =
    let P : Machine → Type 0 = λ w. misses_start w (remove cube at) ≡ true → IsBlocked w l level (remove cube at) → ⊥ in
    let Q : List Lemma → Type 0 = λ w. misses_start n (remove cube at) ≡ true → IsBlocked n w level (remove cube at) → ⊥ in
    record {
      learnable = u.learnable;
      part = u.part;
      shorter = u.shorter;
      needed = λ f. below_more (λ i. misses_start m (remove cube i) ≡ true → IsBlocked m l level (remove cube i) → ⊥) at (u.needed f) (subst P p (subst Q q h));
    }

pub at_end : (m : Machine) (l : List Lemma) (level : Depth) (old cube : List StateLit) (at : ℕ) (dropped : Bool) (units : Units) →
    length cube ≤ at → UnderWay m l level old cube at dropped → IsPass m l level old cube units dropped
at_end m l level old cube at dropped units below u = record {
  learnable = u.learnable;
  part = u.part;
  shorter = u.shorter;
  least = λ f left k here. u.needed f k (omega arith);
}

pub at_spent : (m : Machine) (l : List Lemma) (level : Depth) (old cube : List StateLit) (at : ℕ) (dropped : Bool) (units : Units) →
    units.used ≡ units.effort → UnderWay m l level old cube at dropped → IsPass m l level old cube units false
at_spent m l level old cube at dropped units spent u = record {
  learnable = u.learnable;
  part = u.part;
  shorter = λ f. cc;
  least = λ f left. absurd (omega arith);
}
