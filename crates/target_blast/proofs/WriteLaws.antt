-- What a write to a target gives: its literals spell the values after the updates, performed in order.
use Rattle.std.proofs.Common.{◌≡◌, ℕ, zero, suc, ◌/◌, ◌^◌, ◌≤◌, Bool, true, false, cond, List, [], ◌∷◌, length, map, take, drop, get_or, set, refl, sym, ap, ◌∙◌, arith}
use Rattle.std.specs.List.{AllByRecursion}
use Rattle.std.proofs.lemmas.List.{length-set, map-set, set-get_or}
use Rattle.std.proofs.lemmas.List.Elements.{recursion_from_All, All-from_recursion, All-take, All-drop}
use Rattle.bit_exprs.specs.declared.forms.Part.{Part}
use Rattle.bit_exprs.specs.declared.forms.Part.TheVariants.{Bits, Select, Outside}
use Rattle.bit_exprs.specs.declared.forms.Target.{Target}
use Rattle.bit_exprs.specs.declared.forms.Window.{Window}
use Rattle.bit_exprs.specs.Values.{width_of, sign_of, value_of}
use Rattle.bit_exprs.specs.Indices.{names_place}
use Rattle.bit_exprs.specs.Updates.{part_width, parts_width, target_width, written, written_where, selected_updates, part_updates, parts_updates, updates_of, perform}
use Rattle.bit_exprs.specs.Formed.{PartFormed, TargetFormed}
use Rattle.bit_exprs.proofs.Performing.{perform-append}
use Rattle.bit_exprs.proofs.Widths.{width_some}
use Rattle.word_core.specs.Words.{bits_of}
use Rattle.aig_core.specs.Graph.{Graph, leaf_count, IsLiteral, IsWellFormed, Extends, Gives}
use Rattle.aig_core.specs.Graph as graphs
use Rattle.aig_core.proofs.Values.{value_of-Extends, IsLiteral-Extends, Extends-refl, Extends-trans, leaf_count-Extends}
use Rattle.word_blast.specs.Bits.{mux_of, choice}
use Rattle.word_blast.specs.Words.{spelled, word_value, AreLiterals, GivesWord}
use Rattle.word_blast.proofs.BitLaws.{mux_gives, kept_literal, kept_value}
use Rattle.word_blast.proofs.Combinators.{GivesBits, recursion, AreLiterals-Extends, spelled-Extends, word_value-Extends, leaves-Extends}
use Rattle.expr_blast.specs.Circuits.{literal_at, place_of}
use Rattle.expr_blast.proofs.ExprLaws.{word_gives}
use Rattle.expr_blast.proofs.Growing.{onwards, lasts}
use Rattle.expr_blast.proofs.Selects.{place_gives}
use Rattle.target_blast.specs.Writes.{index_width, index_of, indices_of, replaced, put_chosen, put_where, put_selected, put_part, written_of, put_of}
use Rattle.target_blast.proofs.Digits.{taken_bits}

-- ---- lists of literals

-- what is made next
further : {g h k : Graph} {rs : List ℕ} {n : ℕ} {u : List Bool → List Bool} (w : List Bool → List Bool) → Extends g h → GivesBits h k rs n u →
    ((leaves : List Bool) → length leaves ≡ leaf_count g → u leaves ≡ w leaves) → GivesBits g k rs n w
further {g} {h} {k} w e a same = record {
  extends = Extends-trans g h k e a.extends;
  well_formed = a.well_formed;
  width_is = a.width_is;
  literals = a.literals;
  bits = λ leaves len. a.bits leaves (leaves-Extends g h leaves e len) ∙ same leaves len;
}

itself : (g : Graph) (xs : List ℕ) (n : ℕ) → IsWellFormed g → AreLiterals g xs → length xs ≡ n → GivesBits g g xs n (λ leaves. spelled g leaves xs)
itself g xs n well l long = record { extends = Extends-refl g; well_formed = well; width_is = long; literals = l; bits = λ leaves len. refl }

AreLiterals-set : (g : Graph) (xs : List ℕ) (i x : ℕ) → IsLiteral g x → AreLiterals g xs → AreLiterals g (set xs i x)
AreLiterals-set g [] i x lx l = tt
AreLiterals-set g (y ∷ xs) zero x lx l = (lx, l.1)
AreLiterals-set g (y ∷ xs) (suc i) x lx l = (l.0, AreLiterals-set g xs i x lx l.1)

literal_exists : (g : Graph) (xs : List ℕ) (i : ℕ) → AreLiterals g xs → IsLiteral g (literal_at xs i)
literal_exists g [] i l = omega arith
literal_exists g (x ∷ xs) zero l = l.0
literal_exists g (x ∷ xs) (suc i) l = literal_exists g xs i l.1

taken_literals : (g : Graph) (xs : List ℕ) (n m : ℕ) → AreLiterals g xs → AreLiterals g (take n (drop m xs))
taken_literals g xs n m l = recursion g (take n (drop m xs)) (All-take (IsLiteral g) n (drop m xs) (All-drop (IsLiteral g) m xs (All-from_recursion (IsLiteral g) xs l)))

-- ---- bits replaced

replaced_literals : (g : Graph) (bits word targets : List ℕ) → AreLiterals g word → AreLiterals g targets → AreLiterals g (replaced bits word targets)
replaced_literals g [] word targets lw lt = lt
replaced_literals g (b ∷ bits) [] targets lw lt = lt
replaced_literals g (b ∷ bits) (x ∷ word) targets lw lt = replaced_literals g bits word (set targets b x) lw.1 (AreLiterals-set g targets b x lw.0 lt)

replaced_long : (bits word targets : List ℕ) → length (replaced bits word targets) ≡ length targets
replaced_long [] word targets = refl
replaced_long (b ∷ bits) [] targets = refl
replaced_long (b ∷ bits) (x ∷ word) targets = replaced_long bits word (set targets b x) ∙ length-set targets b x

replaced_spelled : (g : Graph) (leaves : List Bool) (bits word targets : List ℕ) → spelled g leaves (replaced bits word targets) ≡ perform (written bits (spelled g leaves word)) (spelled g leaves targets)
replaced_spelled g leaves [] word targets = refl
replaced_spelled g leaves (b ∷ bits) [] targets = refl
replaced_spelled g leaves (b ∷ bits) (x ∷ word) targets =
    replaced_spelled g leaves bits word (set targets b x) ∙ ap (perform (written bits (spelled g leaves word))) (map-set (graphs.value_of g leaves) targets b x)

-- ---- a bit chosen by a literal

-- the update of bit b, if the test holds
abbrev update_if : Bool → ℕ → Bool → List (ℕ × Bool)
update_if test b x = cond test ((b, x) ∷ []) []

chosen_is : (c x : Bool) (v : ℕ → Bool) (targets : List ℕ) (b : ℕ) → set (map v targets) b (cond c x (v (literal_at targets b))) ≡ perform (update_if c b x) (map v targets)
chosen_is true x v targets b = refl
chosen_is false x v targets b = sym (map-set v targets b (get_or targets b 0)) ∙ ap (map v) (set-get_or targets b 0)

chosen_gives : (c x b n : ℕ) (g : Graph) (targets : List ℕ) → IsWellFormed g → IsLiteral g c → IsLiteral g x → AreLiterals g targets → length targets ≡ n →
    GivesBits g (put_chosen c x b g targets).0 (put_chosen c x b g targets).1 n (λ leaves. perform (update_if (graphs.value_of g leaves c) b (graphs.value_of g leaves x)) (spelled g leaves targets))
unfolding put_chosen
chosen_gives c x b n g targets well lc lx lt long =
    let m : Graph × ℕ = mux_of g c x (literal_at targets b) in
    let a : Gives g m.0 m.1 (choice g c x (literal_at targets b)) = mux_gives g c x (literal_at targets b) well lc lx (literal_exists g targets b lt) in
    record {
      extends = a.extends;
      well_formed = a.well_formed;
      width_is = length-set targets b m.1 ∙ long;
      literals = AreLiterals-set m.0 targets b m.1 a.literal (AreLiterals-Extends g m.0 targets a.extends lt);
      bits = λ leaves len.
          map-set (graphs.value_of m.0 leaves) targets b m.1
          ∙ (λ j. set (spelled-Extends g m.0 leaves targets a.extends len lt j) b (a.value leaves len j))
          ∙ chosen_is (graphs.value_of g leaves c) (graphs.value_of g leaves x) (graphs.value_of g leaves) targets b;
    }

-- ---- what an index selects

module _ (window : Window) (signed : Bool) (at : List ℕ) (some : 1 ≤ length at) where
  -- the index puts bit k at place p
  abbrev names : ℕ → Graph → List Bool → ℕ → Bool
  names k g leaves p = names_place window (length at) signed (word_value g leaves at) k p

  abbrev place_step : ℕ → ℕ → ℕ → ℕ → Graph → List ℕ → Graph × List ℕ
  place_step k x p b g targets =
      let here = place_of window signed at k p g in
      put_chosen here.1 x b here.0 targets

  step_gives : (k x p b n : ℕ) (g : Graph) (targets : List ℕ) → IsWellFormed g → AreLiterals g at → IsLiteral g x → AreLiterals g targets → length targets ≡ n →
      GivesBits g (place_step k x p b g targets).0 (place_step k x p b g targets).1 n (λ leaves. perform (update_if (names k g leaves p) b (graphs.value_of g leaves x)) (spelled g leaves targets))
  step_gives k x p b n g targets well la lx lt long =
      let here : Graph × ℕ = place_of window signed at k p g in
      let one : Gives g here.0 here.1 (λ leaves. names k g leaves p) = place_gives window signed at k p g well la some in
      further (λ leaves. perform (update_if (names k g leaves p) b (graphs.value_of g leaves x)) (spelled g leaves targets)) one.extends
      (chosen_gives here.1 x b n here.0 targets one.well_formed one.literal (kept_literal one x lx) (AreLiterals-Extends g here.0 targets one.extends lt) long)
      (λ leaves len. λ j. perform (update_if (one.value leaves len j) b (kept_value one x lx leaves len j)) (spelled-Extends g here.0 leaves targets one.extends len lt j))

  where_gives : (k x p n : ℕ) (vector : List ℕ) (g : Graph) (targets : List ℕ) → IsWellFormed g → AreLiterals g at → IsLiteral g x → AreLiterals g targets → length targets ≡ n →
      GivesBits g (put_where window signed at k x p vector g targets).0 (put_where window signed at k x p vector g targets).1 n
      (λ leaves. perform (written_where (names k g leaves) p vector (graphs.value_of g leaves x)) (spelled g leaves targets))
  unfolding put_where
  where_gives k x p n [] g targets well la lx lt long = itself g targets n well lt long
  where_gives k x p n (b ∷ vector) g targets well la lx lt long =
      let r : Graph × List ℕ = place_step k x p b g targets in
      let one = step_gives k x p b n g targets well la lx lt long in
      further (λ leaves. perform (written_where (names k g leaves) p (b ∷ vector) (graphs.value_of g leaves x)) (spelled g leaves targets)) one.extends
      (where_gives k x (suc p) n vector r.0 r.1 one.well_formed (AreLiterals-Extends g r.0 at one.extends la) (IsLiteral-Extends g r.0 x one.extends lx) one.literals one.width_is)
      (λ leaves len.
      (λ j. perform
      (written_where (λ q. names_place window (length at) signed (word_value-Extends g r.0 leaves at one.extends len la j) k q) (suc p) vector (value_of-Extends g r.0 leaves x one.extends len lx j))
      (one.bits leaves len j))
      ∙ sym (perform-append (update_if (names k g leaves p) b (graphs.value_of g leaves x)) (written_where (names k g leaves) (suc p) vector (graphs.value_of g leaves x)) (spelled g leaves targets)))

  selected_gives : (k n : ℕ) (vector word : List ℕ) (g : Graph) (targets : List ℕ) → IsWellFormed g → AreLiterals g at → AreLiterals g word → AreLiterals g targets → length targets ≡ n →
      GivesBits g (put_selected window signed at vector k word g targets).0 (put_selected window signed at vector k word g targets).1 n
      (λ leaves. perform (selected_updates window vector (length at) signed (word_value g leaves at) k (spelled g leaves word)) (spelled g leaves targets))
  unfolding put_selected
  selected_gives k n vector [] g targets well la lw lt long = itself g targets n well lt long
  selected_gives k n vector (x ∷ word) g targets well la lw lt long =
      let r : Graph × List ℕ = put_where window signed at k x 0 vector g targets in
      let one = where_gives k x 0 n vector g targets well la lw.0 lt long in
      further (λ leaves. perform (selected_updates window vector (length at) signed (word_value g leaves at) k (spelled g leaves (x ∷ word))) (spelled g leaves targets)) one.extends
      (selected_gives (suc k) n vector word r.0 r.1 one.well_formed (AreLiterals-Extends g r.0 at one.extends la) (AreLiterals-Extends g r.0 word one.extends lw.1) one.literals one.width_is)
      (λ leaves len.
      (λ j. perform (selected_updates window vector (length at) signed (word_value-Extends g r.0 leaves at one.extends len la j) (suc k) (spelled-Extends g r.0 leaves word one.extends len lw.1 j)) (one.bits leaves len j))
      ∙ sym (perform-append (written_where (names k g leaves) 0 vector (graphs.value_of g leaves x))
      (selected_updates window vector (length at) signed (word_value g leaves at) (suc k) (spelled g leaves word)) (spelled g leaves targets)))

-- ---- parts

-- the value of a part's index
abbrev index_value : Part → List Bool → ℕ
index_value (Bits bits) v = 0
index_value (Select vector window index) v = value_of index v
index_value (Outside count) v = 0

-- the word of a part's index, where v are the values that are read
abbrev IsIndex : Graph → Graph → (List Bool → List Bool) → Part → List ℕ → Type 0
IsIndex g h v p at = GivesWord g h at (index_width p) (λ leaves. index_value p (v leaves))

index_gives : (p : Part) (first g : Graph) (read : List ℕ) → PartFormed p (length read) → IsWellFormed g → AreLiterals first read → Extends first g →
    IsIndex first (index_of p g read).0 (λ leaves. spelled first leaves read) p (index_of p g read).1
index_gives (Bits bits) first g read f well l e = record { extends = e; well_formed = well; width_is = refl; literals = tt; value = λ leaves len. refl }
index_gives (Select vector window index) first g read f well l e =
    onwards (λ leaves. value_of index (spelled first leaves read)) e (word_gives index g read f.2 well (AreLiterals-Extends first g read e l))
    (λ leaves len. ap (value_of index) (spelled-Extends first g leaves read e len l))
index_gives (Outside count) first g read f well l e = record { extends = e; well_formed = well; width_is = refl; literals = tt; value = λ leaves len. refl }

part_gives : (p : Part) (m n : ℕ) (first g : Graph) (at word targets : List ℕ) (v : List Bool → List Bool) → PartFormed p m → IsIndex first g v p at → IsWellFormed g → AreLiterals g word → AreLiterals g targets →
    length targets ≡ n →
    GivesBits g (put_part p at word g targets).0 (put_part p at word g targets).1 n (λ leaves. perform (part_updates p (spelled g leaves word) (v leaves)) (spelled g leaves targets))
part_gives (Bits bits) m n first g at word targets v f a well lw lt long = record {
  extends = Extends-refl g;
  well_formed = well;
  width_is = replaced_long bits word targets ∙ long;
  literals = replaced_literals g bits word targets lw lt;
  bits = λ leaves len. replaced_spelled g leaves bits word targets;
}
part_gives (Select vector window index) m n first g at word targets v f a well lw lt long =
    let some : 1 ≤ length at = omega (arith, a.width_is, width_some index m f.2) in
    further (λ leaves. perform (selected_updates window vector (width_of index) (sign_of index) (value_of index (v leaves)) 0 (spelled g leaves word)) (spelled g leaves targets)) (Extends-refl g)
    (selected_gives window (sign_of index) at some 0 n vector word g targets well a.literals lw lt long)
    (λ leaves len. λ j. perform (selected_updates window vector (a.width_is j) (sign_of index) (a.value leaves (len ∙ leaf_count-Extends first g a.extends) j) 0 (spelled g leaves word)) (spelled g leaves targets))
part_gives (Outside count) m n first g at word targets v f a well lw lt long = itself g targets n well lt long

-- ---- all parts

abbrev AreIndices : Graph → Graph → (List Bool → List Bool) → List Part → List (List ℕ) → Type 0
AreIndices g h v [] words = Unit {0}
AreIndices g h v (p ∷ ps) [] = ⊥
AreIndices g h v (p ∷ ps) (at ∷ words) = IsIndex g h v p at × AreIndices g h v ps words

indices_last : (first g h : Graph) (v : List Bool → List Bool) (ps : List Part) (words : List (List ℕ)) → Extends g h → IsWellFormed h → AreIndices first g v ps words → AreIndices first h v ps words
indices_last first g h v [] words e well a = tt
indices_last first g h v (p ∷ ps) [] e well a = a
indices_last first g h v (p ∷ ps) (at ∷ words) e well a = (lasts a.0 e well, indices_last first g h v ps words e well a.1)

index_extends : (p : Part) (g : Graph) (read : List ℕ) → PartFormed p (length read) → IsWellFormed g → AreLiterals g read → Extends g (index_of p g read).0
index_extends (Bits bits) g read f well l = Extends-refl g
index_extends (Select vector window index) g read f well l = (word_gives index g read f.2 well l).extends
index_extends (Outside count) g read f well l = Extends-refl g

-- the words r of the indices of parts, made from g on, where the literals that are read are of the first graph
record Makes (first g : Graph) (read : List ℕ) (ps : List Part) (r : Graph × List (List ℕ)) : Type 0 where
  pub extends : Extends g r.0
  pub well_formed : IsWellFormed r.0
  pub indices : AreIndices first r.0 (λ leaves. spelled first leaves read) ps r.1

indices_give : (ps : List Part) (first g : Graph) (read : List ℕ) → AllByRecursion (λ p. PartFormed p (length read)) ps → IsWellFormed g → AreLiterals first read → Extends first g →
    Makes first g read ps (indices_of ps g read)
unfolding indices_of
indices_give [] first g read f well l e = record { extends = Extends-refl g; well_formed = well; indices = tt }
indices_give (p ∷ ps) first g read f well l e =
    let x : Graph × List ℕ = index_of p g read in
    let one : IsIndex first x.0 (λ leaves. spelled first leaves read) p x.1 = index_gives p first g read f.0 well l e in
    let rest : Makes first x.0 read ps (indices_of ps x.0 read) = indices_give ps first x.0 read f.1 one.well_formed l one.extends in
    record {
      extends = Extends-trans g x.0 _ (index_extends p g read f.0 well (AreLiterals-Extends first g read e l)) rest.extends;
      well_formed = rest.well_formed;
      indices = (lasts one rest.extends rest.well_formed, rest.indices);
    }

parts_give : (ps : List Part) (words : List (List ℕ)) (value : List ℕ) (m n : ℕ) (first g : Graph) (targets : List ℕ) (v : List Bool → List Bool) → AllByRecursion (λ p. PartFormed p m) ps →
    AreIndices first g v ps words → parts_width ps ≤ length value → IsWellFormed g → AreLiterals g value → AreLiterals g targets → length targets ≡ n →
    GivesBits g (written_of ps words value g targets).0 (written_of ps words value g targets).1 n (λ leaves. perform (parts_updates ps (word_value g leaves value) (v leaves)) (spelled g leaves targets))
unfolding written_of
parts_give [] words value m n first g targets v f a wide well lv lt long = itself g targets n well lt long
parts_give (p ∷ ps) [] value m n first g targets v f a wide well lv lt long = absurd a
parts_give (p ∷ ps) (at ∷ words) value m n first g targets v f a wide well lv lt long =
    let taken : List ℕ = take (part_width p) (drop (parts_width ps) value) in
    let r : Graph × List ℕ = put_part p at taken g targets in
    let one = part_gives p m n first g at taken targets v f.0 a.0 well (taken_literals g value (part_width p) (parts_width ps) lv) lt long in
    further (λ leaves. perform (parts_updates (p ∷ ps) (word_value g leaves value) (v leaves)) (spelled g leaves targets)) one.extends
    (parts_give ps words value m n first r.0 r.1 v f.1 (indices_last first g r.0 v ps words one.extends one.well_formed a.1) (omega (arith, wide)) one.well_formed (AreLiterals-Extends g r.0 value one.extends lv) one.literals one.width_is)
    (λ leaves len.
    (λ j. perform (parts_updates ps (word_value-Extends g r.0 leaves value one.extends len lv j) (v leaves))
    ((one.bits leaves len ∙ sym (ap (λ bs. perform (part_updates p bs (v leaves)) (spelled g leaves targets)) (taken_bits g leaves value (part_width p) (parts_width ps) wide))) j))
    ∙ sym (perform-append (part_updates p (bits_of (part_width p) (word_value g leaves value / 2 ^ parts_width ps)) (v leaves)) (parts_updates ps (word_value g leaves value) (v leaves)) (spelled g leaves targets)))

-- A value written to a target: the bits of the target have the values after the updates, and the others those from before.
pub put_gives : (target : Target) (value read : List ℕ) (g : Graph) (targets : List ℕ) → TargetFormed target (length read) → target_width target ≤ length value → IsWellFormed g →
    AreLiterals g value → AreLiterals g read → AreLiterals g targets →
    GivesBits g (put_of target value read g targets).0 (put_of target value read g targets).1 (length targets)
    (λ leaves. perform (updates_of target (word_value g leaves value) (spelled g leaves read)) (spelled g leaves targets))
put_gives target value read g targets f wide well lv lr lt =
    let x : Graph × List (List ℕ) = indices_of target.parts g read in
    let formed = recursion_from_All (λ p. PartFormed p (length read)) target.parts f.0 in
    let made : Makes g g read target.parts x = indices_give target.parts g g read formed well lr (Extends-refl g) in
    further (λ leaves. perform (updates_of target (word_value g leaves value) (spelled g leaves read)) (spelled g leaves targets)) made.extends
    (parts_give target.parts x.1 value (length read) (length targets) g x.0 targets (λ leaves. spelled g leaves read) formed made.indices wide made.well_formed
    (AreLiterals-Extends g x.0 value made.extends lv) (AreLiterals-Extends g x.0 targets made.extends lt) refl)
    (λ leaves len. λ j. perform (parts_updates target.parts (word_value-Extends g x.0 leaves value made.extends len lv j) (spelled g leaves read)) (spelled-Extends g x.0 leaves targets made.extends len lt j))
