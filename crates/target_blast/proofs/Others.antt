-- Bits that a target doesn't name keep their literals.
use Rattle.std.proofs.Common.{◌≡◌, ℕ, suc, Bool, false, nat_eq, List, [], ◌∷◌, drop, take, get_or, set, refl, sym, ◌∙◌}
use Rattle.std.specs.Prelude.{flat_map}
use Rattle.std.proofs.lemmas.List.{get_or-set_other}
use Rattle.std.proofs.lemmas.Bool.{eqb-false, or_parts}
use Rattle.bit_exprs.specs.declared.forms.Part.{Part}
use Rattle.bit_exprs.specs.declared.forms.Part.TheVariants.{Bits, Select, Outside}
use Rattle.bit_exprs.specs.declared.forms.Target.{Target}
use Rattle.bit_exprs.specs.declared.forms.Window.{Window}
use Rattle.bit_exprs.specs.Values.{sign_of}
use Rattle.bit_exprs.specs.Updates.{part_width, parts_width}
use Rattle.bit_exprs.specs.Named.{among, part_bits, target_bits}
use Rattle.bit_exprs.proofs.Given.{among-append}
use Rattle.aig_core.specs.Graph.{Graph}
use Rattle.expr_blast.specs.Circuits.{place_of}
use Rattle.target_blast.specs.Writes.{replaced, put_chosen, put_where, put_selected, put_part, written_of, put_of}

module _ (b : ℕ) where
  set_apart : (a x : ℕ) (targets : List ℕ) → nat_eq a b ≡ false → get_or (set targets a x) b 0 ≡ get_or targets b 0
  set_apart a x targets ne = get_or-set_other targets a b x 0 (λ e. eqb-false a b ne (sym e))

  replaced_other : (bits word targets : List ℕ) → among bits b ≡ false → get_or (replaced bits word targets) b 0 ≡ get_or targets b 0
  replaced_other [] word targets h = refl
  replaced_other (a ∷ bits) [] targets h = refl
  replaced_other (a ∷ bits) (x ∷ word) targets h = let no = or_parts (nat_eq a b) (among bits b) h in replaced_other bits word _ no.1 ∙ set_apart a x targets no.0

  where_other : (window : Window) (signed : Bool) (at : List ℕ) (k x p : ℕ) (bits : List ℕ) (g : Graph) (targets : List ℕ) → among bits b ≡ false →
      get_or (put_where window signed at k x p bits g targets).1 b 0 ≡ get_or targets b 0
  unfolding put_where put_chosen
  where_other window signed at k x p [] g targets h = refl
  where_other window signed at k x p (a ∷ bits) g targets h =
      let here : Graph × ℕ = place_of window signed at k p g in
      let r : Graph × List ℕ = put_chosen here.1 x a here.0 targets in
      let no = or_parts (nat_eq a b) (among bits b) h in
      where_other window signed at k x (suc p) bits r.0 r.1 no.1 ∙ set_apart a _ targets no.0

  selected_other : (window : Window) (signed : Bool) (at vector : List ℕ) (k : ℕ) (word : List ℕ) (g : Graph) (targets : List ℕ) → among vector b ≡ false →
      get_or (put_selected window signed at vector k word g targets).1 b 0 ≡ get_or targets b 0
  unfolding put_selected
  selected_other window signed at vector k [] g targets h = refl
  selected_other window signed at vector k (x ∷ word) g targets h =
      let r : Graph × List ℕ = put_where window signed at k x 0 vector g targets in
      selected_other window signed at vector (suc k) word r.0 r.1 h ∙ where_other window signed at k x 0 vector g targets h

  part_other : (p : Part) (at word : List ℕ) (g : Graph) (targets : List ℕ) → among (part_bits p) b ≡ false → get_or (put_part p at word g targets).1 b 0 ≡ get_or targets b 0
  part_other (Bits bits) at word g targets h = replaced_other bits word targets h
  part_other (Select vector window index) at word g targets h = selected_other window (sign_of index) at vector 0 word g targets h
  part_other (Outside count) at word g targets h = refl

  parts_other : (ps : List Part) (indices : List (List ℕ)) (value : List ℕ) (g : Graph) (targets : List ℕ) → among (flat_map part_bits ps) b ≡ false →
      get_or (written_of ps indices value g targets).1 b 0 ≡ get_or targets b 0
  unfolding written_of
  parts_other [] indices value g targets h = refl
  parts_other (p ∷ ps) [] value g targets h = refl
  parts_other (p ∷ ps) (at ∷ indices) value g targets h =
      let word : List ℕ = take (part_width p) (drop (parts_width ps) value) in
      let r : Graph × List ℕ = put_part p at word g targets in
      let no = or_parts (among (part_bits p) b) (among (flat_map part_bits ps) b) (sym (among-append (part_bits p) (flat_map part_bits ps) b) ∙ h) in
      parts_other ps indices value r.0 r.1 no.1 ∙ part_other p at word g targets no.0

-- a bit that a target doesn't name keeps its literal
pub put_other : (target : Target) (value read : List ℕ) (g : Graph) (targets : List ℕ) (b : ℕ) → among (target_bits target) b ≡ false → get_or (put_of target value read g targets).1 b 0 ≡ get_or targets b 0
put_other target value read g targets b h = parts_other b target.parts _ value _ targets h
