-- Marks of nodes.
use Rattle.std.proofs.Common.{◌≡◌, ℕ, ◌+◌, ◌/◌, ◌<◌, ◌≤◌, inl, inr, Bool, true, false, List, length, get_or, take, refl, sym, ap, ◌∙◌, subst, arith}
use Rattle.std.specs.Prelude.{All}
use Rattle.std.proofs.Math.ListN.{set}
use Rattle.std.proofs.lemmas.Bool.{cases_eq, true≢false}
use Rattle.std.proofs.lemmas.List.{get_or-set_same, get_or-set_other}
use Rattle.std.proofs.lemmas.List.Elements.{All-more, All-weaker}
use Rattle.std.proofs.lemmas.Option.{get_or_from_slice_get, slice_get_within}
use Rattle.aig_core.specs.declared.gate.Gate.{Gate}
use Rattle.generalise.specs.Lifting.{on, IsOff, IsSupported, AreSupported, Grows}

pub on_set : (marks : List Bool) (k n : ℕ) → k < length marks → on marks n ≡ true → on (set marks k true) n ≡ true
on_set marks k n h e = elim (cases_eq n k) [
  | inl q ↦ rw q (get_or-set_same marks k true false h)
  | inr ne ↦ get_or-set_other marks k n true false ne ∙ e
]

-- one more
pub grows_set : (marks : List Bool) (k from : ℕ) → k < length marks → k < from → Grows marks (set marks k true) from
grows_set marks k from h low = record {
  kept = λ n e. on_set marks k n h e;
  same = λ n up. get_or-set_other marks k n true false (λ q. omega arith);
}

pub grows_refl : (marks : List Bool) (from : ℕ) → Grows marks marks from
grows_refl marks from = record { kept = λ n e. e; same = λ n up. refl }

pub grows_trans : (a b c : List Bool) (low from : ℕ) → Grows a b from → Grows b c low → low ≤ from → Grows a c from
grows_trans a b c low from g h le = record {
  kept = λ n e. h.kept n (g.kept n e);
  same = λ n up. h.same n (omega arith) ∙ g.same n up;
}

-- the literals whose nodes are marked, one more
pub marked_more : (marks : List Bool) (xs : List ℕ) (i : ℕ) → i < length xs → get_or xs i 0 / 2 < length marks →
    All (λ x. on marks (x / 2) ≡ true) (take i xs) → All (λ x. on (set marks (get_or xs i 0 / 2) true) (x / 2) ≡ true) (take (i + 1) xs)
marked_more marks xs i h w a =
    let k : ℕ = get_or xs i 0 / 2 in
    All-more (λ x. on (set marks k true) (x / 2) ≡ true) xs i 0 h
    (All-weaker (λ x. on marks (x / 2) ≡ true) (λ x. on (set marks k true) (x / 2) ≡ true) (λ x e. on_set marks k (x / 2) w e) (take i xs) a)
    (get_or-set_same marks k true false w)

off_more : (values a b : List Bool) (x : ℕ) → ((n : ℕ) → on a n ≡ true → on b n ≡ true) → IsOff values a x → IsOff values b x
off_more values a b x kept h = (h.0, kept (x / 2) h.1)

pub supported_more : (values a b : List Bool) (g : Gate) → ((n : ℕ) → on a n ≡ true → on b n ≡ true) → IsSupported values a g → IsSupported values b g
supported_more values a b g kept (inl h) = inl (off_more values a b g.left kept h)
supported_more values a b g kept (inr (inl h)) = inr (inl (off_more values a b g.right kept h))
supported_more values a b g kept (inr (inr h)) = inr (inr (kept (g.left / 2) h.0, kept (g.right / 2) h.1))

-- one gate earlier, whose node is marked
pub supported_next : (values a b : List Bool) (first : ℕ) (gates : List Gate) (at : ℕ) (d : Gate) →
    Grows a b (first + at) → at < length gates → AreSupported values a first gates (at + 1) →
    IsSupported values b (get_or gates at d) → AreSupported values b first gates at
supported_next values a b first gates at d grows below rest here = record {
  each = λ i g up is marked.
      elim (cases_eq i at) [
        | inl e ↦ let same : get_or gates at d ≡ g = ap (λ (n : ℕ). get_or gates n d) (sym e) ∙ get_or_from_slice_get gates i g d is in subst (IsSupported values b) same here
        | inr ne ↦ supported_more values a b g grows.kept (rest.each i g (omega arith) is (sym (grows.same (first + i) (omega arith)) ∙ marked))
      ];
}

-- one gate earlier, whose node isn't
pub supported_skip : (values a : List Bool) (first : ℕ) (gates : List Gate) (at : ℕ) →
    on a (first + at) ≡ false → AreSupported values a first gates (at + 1) → AreSupported values a first gates at
supported_skip values a first gates at off rest = record {
  each = λ i g up is marked.
      elim (cases_eq i at) [
        | inl e ↦ let here : on a (first + at) ≡ true = rw e at marked in absurd (true≢false (sym here ∙ off))
        | inr ne ↦ rest.each i g (omega arith) is marked
      ];
}

pub supported_none : (values a : List Bool) (first : ℕ) (gates : List Gate) → AreSupported values a first gates (length gates)
supported_none values a first gates = record { each = λ i g up is marked. absurd (omega (arith, slice_get_within gates i g is)) }
