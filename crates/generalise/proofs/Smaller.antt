-- Parts of a cube.
use Rattle.std.proofs.Common.{◌≡◌, ℕ, ◌+◌, ◌<◌, suc, List, length, take, drop}
use Rattle.std.specs.List.{remove, All}
use Rattle.std.proofs.lemmas.List.Elements.{All-append, All-take, All-drop}
use Rattle.std.proofs.lemmas.List.Edits.{length-remove}
use Rattle.std.proofs.lemmas.List.Quantifiers.{all_pairs_remove}
use Rattle.bit_system.specs.Machine.{Machine}
use Rattle.generalise.specs.Cubes.{IsCube}
use Rattle.generalise.specs.Parts.{IsPart, whole, less}
use Rattle.bit_system.specs.declared.ladder.StateLit.{StateLit}

pub All-remove : {X : Type 0} (P : X → Type 0) (xs : List X) (k : ℕ) → All P xs → All P (remove xs k)
All-remove P xs k h = All-append P (take k xs) (drop (suc k) xs) (All-take P k xs h) (All-drop P (suc k) xs h)

pub cube_without : (m : Machine) (cube : List StateLit) (k : ℕ) → k < length cube → IsCube m cube → IsCube m (remove cube k)
cube_without m cube k h c = record {
  in_range = All-remove (λ l. l.state < length m.states) cube k c.in_range;
  rises = all_pairs_remove (λ l n. l.state < n.state) cube k h c.rises;
}

pub part_without : (part cube : List StateLit) (k : ℕ) → k < length part → IsPart part cube → IsPart (remove part k) cube
part_without a b k h (whole cube) = less _ _ k h (whole _)
part_without a b k h (less part cube j below p) = less _ _ j below (part_without part _ k h p)

pub part_trans : (a b c : List StateLit) → IsPart a b → IsPart b c → IsPart a c
part_trans a b c p (whole cube) = p
part_trans a b c p (less part cube j below q) = less _ _ j below (part_trans a part _ p q)

pub shorter_without : (cube rest : List StateLit) (k : ℕ) → k < length cube → rest ≡ remove cube k → length rest + 1 ≡ length cube
shorter_without cube rest k h e = rw e (length-remove cube k h)
