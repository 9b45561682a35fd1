-- Tables of the places of names, made name by name.
use Rattle.std.proofs.Common.{◌≡◌, ℕ, ◌+◌, ◌<◌, Bool, true, false, not, cond, List, [], ◌∷◌, ◌++◌, length, get_or, drop, Option, Some, None, unwrap_or, refl, sym, ap, ◌∙◌, arith}
use Rattle.std.specs.Map.{lookup}
use Rattle.std.specs.Option.{is_some}
use Rattle.std.specs.Str.{bytes_eq}
use Rattle.std.specs.Cmp.Lexicographic.{bytes_decides}
use Rattle.std.proofs.lemmas.Bool.{false≢true}
use Rattle.std.proofs.lemmas.List.{at_drop_more, length-map, get_or-map}
use Rattle.std.proofs.lemmas.Option.{none-some}
use Rattle.bit_system.specs.declared.system.StateInfo.{StateInfo}
use Rattle.source_check.specs.Ladders.{state_names, state_of}
use Rattle.source_check.specs.Places.{with_place}

pub absent : {X : Type 0} (o : Option X) → is_some o ≡ false → o ≡ None
absent None e = refl
absent (Some x) e = absurd (false≢true (sym e))

abbrev Entries : Type 0
Entries = List (List ℕ × ℕ)

lookup_last : (test : List ℕ → Bool) (es : Entries) (key : List ℕ) (place : ℕ) → lookup test es ≡ None → lookup test (es ++ (key, place) ∷ []) ≡ cond (test key) (Some place) None
lookup_last test [] key place none = refl
lookup_last test (e ∷ es) key place none = by (test e.0) none (lookup_last test es key place)
  where
    by : (b : Bool) → cond b (Some e.1) (lookup test es) ≡ None → (lookup test es ≡ None → lookup test (es ++ (key, place) ∷ []) ≡ cond (test key) (Some place) None) →
        cond b (Some e.1) (lookup test (es ++ (key, place) ∷ [])) ≡ cond (test key) (Some place) None
    by true none rest = absurd (none-some e.1 (sym none))
    by false none rest = rest none

lookup_first : (test : List ℕ → Bool) (es : Entries) (key : List ℕ) (place found : ℕ) → lookup test es ≡ Some found → lookup test (es ++ (key, place) ∷ []) ≡ Some found
lookup_first test [] key place found is = absurd (none-some found is)
lookup_first test (e ∷ es) key place found is = by (test e.0) is (lookup_first test es key place found)
  where
    by : (b : Bool) → cond b (Some e.1) (lookup test es) ≡ Some found → (lookup test es ≡ Some found → lookup test (es ++ (key, place) ∷ []) ≡ Some found) →
        cond b (Some e.1) (lookup test (es ++ (key, place) ∷ [])) ≡ Some found
    by true is rest = is
    by false is rest = rest is

-- the place of a name that a table hasn't, where these names follow, the first of them with this number
abbrev Later : List ℕ → ℕ → List (List ℕ) → ℕ
Later name k names = k + state_of names name

later_other : (name x : List ℕ) (k : ℕ) (names : List (List ℕ)) → bytes_eq name x ≡ false → Later name k (x ∷ names) ≡ Later name (k + 1) names
later_other name x k names differ = ap (λ b. k + cond (not b) (1 + state_of names name) 0) differ ∙ omega arith

later_same : (name x : List ℕ) (k : ℕ) (names : List (List ℕ)) → bytes_eq name x ≡ true → Later name k (x ∷ names) ≡ k
later_same name x k names same = ap (λ b. k + cond (not b) (1 + state_of names name) 0) same ∙ omega arith

-- what a name's place becomes
abbrev Place : List ℕ → Entries → ℕ → List (List ℕ) → ℕ
Place name es k names = unwrap_or (lookup (bytes_eq name) es) (Later name k names)

module _ (name x : List ℕ) (es : Entries) (k : ℕ) (names : List (List ℕ)) where
  -- the name x is there already
  there : is_some (lookup (bytes_eq x) es) ≡ true → Place name es (k + 1) names ≡ Place name es k (x ∷ names)
  there known = by (lookup (bytes_eq name) es) (bytes_eq name x) refl refl
    where
      by : (o : Option ℕ) (b : Bool) → lookup (bytes_eq name) es ≡ o → bytes_eq name x ≡ b → unwrap_or o (Later name (k + 1) names) ≡ unwrap_or o (Later name k (x ∷ names))
      by (Some place) b found e = refl
      by None true found e =
          absurd (false≢true (sym (ap is_some (ap (λ n. lookup (bytes_eq n) es) (sym ((bytes_decides name x).0 e)) ∙ found)) ∙ known))
      by None false found e = sym (later_other name x k names e)

  -- and it isn't
  fresh : is_some (lookup (bytes_eq x) es) ≡ false → Place name (es ++ (x, k) ∷ []) (k + 1) names ≡ Place name es k (x ∷ names)
  fresh new = by (lookup (bytes_eq name) es) (bytes_eq name x) refl refl
    where
      by : (o : Option ℕ) (b : Bool) → lookup (bytes_eq name) es ≡ o → bytes_eq name x ≡ b → Place name (es ++ (x, k) ∷ []) (k + 1) names ≡ unwrap_or o (Later name k (x ∷ names))
      by (Some place) b found e = ap (λ o. unwrap_or o (Later name (k + 1) names)) (lookup_first (bytes_eq name) es x k place found)
      by None true found e =
          ap (λ o. unwrap_or o (Later name (k + 1) names)) (lookup_last (bytes_eq name) es x k found ∙ ap (λ b. cond b (Some k) None) e) ∙ sym (later_same name x k names e)
      by None false found e =
          ap (λ o. unwrap_or o (Later name (k + 1) names)) (lookup_last (bytes_eq name) es x k found ∙ ap (λ b. cond b (Some k) None) e) ∙ sym (later_other name x k names e)

  one_more : Place name (with_place es x k) (k + 1) names ≡ Place name es k (x ∷ names)
  one_more = by (is_some (lookup (bytes_eq x) es)) refl
    where
      by : (b : Bool) → is_some (lookup (bytes_eq x) es) ≡ b → Place name (cond b es (es ++ (x, k) ∷ [])) (k + 1) names ≡ Place name es k (x ∷ names)
      by true known = there known
      by false new = fresh new

-- the first names have their places, and the others follow
abbrev pub Placing : List (List ℕ) → ℕ → Entries → Type 0
Placing names k es = (name : List ℕ) → unwrap_or (lookup (bytes_eq name) es) (k + state_of (drop k names) name) ≡ state_of names name

module _ (states : List StateInfo) (k : ℕ) (es : Entries) (so_far : Placing (state_names states) k es) where
  abbrev names : List (List ℕ)
  names = state_names states

  pub placing_more : (s : StateInfo) (later : Entries) → s ≡ get_or states k s → k < length states → later ≡ with_place es s.name k → Placing names (k + 1) later
  placing_more s later at within grown name =
      let inside : k < length names = omega (arith, length-map states (λ (x : StateInfo). x.name)) in
      let here : get_or names k [] ≡ s.name = get_or-map (λ (x : StateInfo). x.name) states k s [] within ∙ ap (λ (x : StateInfo). x.name) (sym at) in
      let front : drop k names ≡ s.name ∷ drop (k + 1) names = at_drop_more (λ ns. ns) names k [] inside ∙ ap (λ n. n ∷ drop (k + 1) names) here in
      ap (λ x. Place name x (k + 1) (drop (k + 1) names)) grown ∙ one_more name s.name es k (drop (k + 1) names)
      ∙ ap (Place name es k) (sym front) ∙ so_far name
