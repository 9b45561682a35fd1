-- Names of nets: that none stands twice, and what they stand for.
use Rattle.std.proofs.Common.{◌≡◌, ℕ, suc, ◌<◌, ◌≤◌, ◌+◌, Bool, true, false, not, cond, List, [], ◌∷◌, ◌++◌, length, get_or, take, map, Some, None, below_more, refl, sym, ap, ◌∙◌, subst, arith, ⊎_elim}
use Rattle.std.specs.Prelude.{Contains, slice_get, flat_map, MatchBool}
use Rattle.std.specs.List.{list_any}
use Rattle.std.specs.Str.{bytes_eq}
use Rattle.std.specs.Map.{lookup}
use Rattle.std.specs.Cmp.Lexicographic.{bytes_decides}
use Rattle.std.proofs.lemmas.Bool.{false≢true, cases_order}
use Rattle.std.proofs.lemmas.Cmp.{nat_list_eq_equiv}
use Rattle.std.proofs.lemmas.List.{length-take, get_or-take, take_more, take_all, length-map, get_or-map}
use Rattle.std.proofs.lemmas.Map.Views.{list_any-from_Contains, Contains-from_any}
use Rattle.std.proofs.lemmas.Option.{slice_get_within, get_or_from_slice_get, slice_get-get_or}
use Rattle.expr_elab.specs.Vectors.{Scope, vector_of}
use Rattle.elab_flat.specs.declared.nets.Net.{Net}
use Rattle.elab_flat.specs.Nets.{names_of, scope_of}
use Rattle.elab_flat.specs.Designs.{AreDistinct}

not_false : (b : Bool) → false ≡ not b → b ≡ true
not_false true h = refl
not_false false h = absurd (false≢true h)

-- whether the name is new, as the answer of an insertion says
pub fresh : (names : List (List ℕ)) (name : List ℕ) (new : Bool) → new ≡ not (list_any (bytes_eq name) names) → MatchBool new (Contains names name → ⊥) (Contains names name)
fresh names name true e = λ h. false≢true (sym (e ∙ ap not (list_any-from_Contains nat_list_eq_equiv name names h)))
fresh names name false e = Contains-from_any (λ x y. (bytes_decides x y).0) name names (not_false (list_any (bytes_eq name) names) e)

-- ---- names declared one after another

module _ (names : List (List ℕ)) where
  -- the k-th name stands before
  abbrev pub StandsBefore : ℕ → Type 0
  StandsBefore k = Contains (take k names) (get_or names k [])

  earlier : (j k : ℕ) (name : List ℕ) → j < k → slice_get names j ≡ Some name → slice_get names k ≡ Some name → StandsBefore k
  earlier j k name lt at_j at_k = (
    j,
    omega (arith, length-take k names, slice_get_within names k name at_k),
    get_or-take k names j (get_or names k []) lt ∙ get_or_from_slice_get names j name (get_or names k []) at_j ∙ sym (get_or_from_slice_get names k name [] at_k),
  )

  -- where none stands before, they are distinct
  pub distinct_all : ((k : ℕ) → k < length names → StandsBefore k → ⊥) → AreDistinct names
  distinct_all none j k name at_j at_k =
      ⊎_elim (λ same. same)
      (⊎_elim (λ lt. absurd (none k (slice_get_within names k name at_k) (earlier j k name lt at_j at_k)))
      (λ lt. absurd (none j (slice_get_within names j name at_j) (earlier k j name lt at_k at_j))))
      (cases_order j k)

  -- a name that stands before isn't distinct from all
  pub not_distinct : (k : ℕ) → k < length names → StandsBefore k → AreDistinct names → ⊥
  not_distinct k within h distinct =
      let before : h.0 < k = omega (arith, length-take k names, h.1) in
      let inside : h.0 < length names = omega arith in
      let same : h.0 ≡ k = distinct h.0 k (get_or names k [])
      (slice_get-get_or names h.0 (get_or names k []) inside ∙ ap Some (sym (get_or-take k names h.0 (get_or names k []) before) ∙ h.2))
      (slice_get-get_or names k [] within) in
      omega arith

-- the names so far, when i ports were declared
pub record Declaring (names : List (List ℕ)) (i : ℕ) (scope : List (List ℕ)) : Type 0 where
  pub same : scope ≡ take i names
  pub none : (k : ℕ) → k < i → StandsBefore names k → ⊥

module _ {X : Type 0} (name_of : X → List ℕ) (items : List X) (i : ℕ) (item : X) (scope : List (List ℕ)) (at : item ≡ get_or items i item) (within : i < length items) where
  abbrev names : List (List ℕ)
  names = map name_of items

  inside : i < length names
  inside = omega (arith, length-map items name_of)

  here : get_or names i [] ≡ name_of item
  here = get_or-map name_of items i item [] within ∙ ap name_of (sym at)

  pub declaring_more : (later : List (List ℕ)) → later ≡ scope ++ name_of item ∷ [] → (Contains scope (name_of item) → ⊥) → Declaring names i scope → Declaring names (i + 1) later
  declaring_more later grown new d =
      record {
        same = grown ∙ ap (λ xs. xs ++ name_of item ∷ []) d.same ∙ sym (take_more names i [] inside ∙ ap (λ x. take i names ++ x ∷ []) here);
        none = below_more _ _ d.none (λ h. new (subst (λ xs. Contains xs (name_of item)) (sym d.same) (subst (Contains (take i names)) here h)));
      }

  pub declared_twice : Contains scope (name_of item) → Declaring names i scope → AreDistinct names → ⊥
  declared_twice there d = not_distinct names i inside (subst (Contains (take i names)) (sym here) (subst (λ xs. Contains xs (name_of item)) d.same there))

pub declared_all : {X : Type 0} (name_of : X → List ℕ) (items : List X) (i : ℕ) (scope : List (List ℕ)) → length items ≤ i → Declaring (map name_of items) i scope →
    (scope ≡ map name_of items) × AreDistinct (map name_of items)
declared_all name_of items i scope past d =
    let long = length-map items name_of in
    (d.same ∙ take_all i (map name_of items) (omega (arith, long)), distinct_all (map name_of items) (λ k lt. d.none k (omega (arith, long))))

-- ---- nets by their names

-- the name of a net is among the names
pub net_name_at : (nets : List Net) (i : ℕ) (n : Net) → i < length nets → get_or nets i n ≡ n → slice_get (names_of nets) i ≡ Some n.name
net_name_at nets i n within at =
    slice_get-get_or (names_of nets) i [] (omega (arith, length-map nets (λ (x : Net). x.name)))
    ∙ ap Some (get_or-map (λ (x : Net). x.name) nets i n [] within ∙ ap (λ (x : Net). x.name) at)

-- ---- scopes

-- the nets that aren't passed over, by their names
abbrev pub scope_without : (Net → Bool) → List Net → Scope
scope_without skips nets = flat_map (λ (n : Net). cond (skips n) [] ((n.name, n.vector) ∷ [])) nets

module _ (skips : Net → Bool) where
  -- a name that no net has stands for nothing
  unnamed : (name : List ℕ) (nets : List Net) → ((n : Net) → Contains nets n → n.name ≡ name → ⊥) → vector_of (scope_without skips nets) name ≡ None
  unnamed name [] none = refl
  unnamed name (n ∷ ns) none = by (skips n) (bytes_eq name n.name) refl (unnamed name ns (λ m there. none m (suc there.0, omega (arith, there.1), there.2)))
    where
      by : (s t : Bool) → bytes_eq name n.name ≡ t → vector_of (scope_without skips ns) name ≡ None → lookup (bytes_eq name) (cond s [] ((n.name, n.vector) ∷ []) ++ scope_without skips ns) ≡ None
      by true t e rest = rest
      by false true e rest = absurd (none n (0, omega arith, refl) (sym ((bytes_decides name n.name).0 e)))
      by false false e rest = ap (λ t. cond t (Some n.vector) (vector_of (scope_without skips ns) name)) e ∙ rest

  -- a net's name is new behind those before it
  pub new_entry : (nets : List Net) (k : ℕ) (n : Net) → AreDistinct (names_of nets) → n ≡ get_or nets k n → k < length nets → vector_of (scope_without skips (take k nets)) n.name ≡ None
  new_entry nets k n distinct at lt = unnamed n.name (take k nets) other
    where
      other : (m : Net) → Contains (take k nets) m → m.name ≡ n.name → ⊥
      other m there same =
          let before : there.0 < k = omega (arith, there.1, length-take k nets) in
          let inside : there.0 < length nets = omega arith in
          let place : there.0 ≡ k = distinct there.0 k n.name (net_name_at nets there.0 m inside (sym (get_or-take k nets there.0 m before) ∙ there.2) ∙ ap Some same) (net_name_at nets k n lt (sym at)) in
          omega arith

pub new_name : (clock : List ℕ) (nets : List Net) (k : ℕ) (n : Net) → AreDistinct (names_of nets) → n ≡ get_or nets k n → k < length nets → vector_of (scope_of clock (take k nets)) n.name ≡ None
new_name clock nets k n distinct at lt = new_entry (λ (n : Net). bytes_eq n.name clock) nets k n distinct at lt
