-- Chains of bits, and that nothing known lies on a loop.
use Rattle.std.proofs.Common.{◌≡◌, ℕ, ◌+◌, ◌<◌, ◌⊎◌, inl, inr, List, [], ◌∷◌, ◌++◌, refl, sym, subst, arith}
use Rattle.std.specs.Prelude.{Contains}
use Rattle.std.proofs.lemmas.Bool.{cases_eq, cases_lt}
use Rattle.std.proofs.lemmas.List.{append-nil, append_assoc}
use Rattle.std.proofs.lemmas.List.Elements.{Contains-push_cases}
use Rattle.settle_order.specs.declared.nodes.Node.{Node}
use Rattle.settle_order.specs.Nodes.{IsNet, Needs, Drives}
use Rattle.settle_order.specs.Loops.{Feeds, IsChain, IsLooped, IsLowestLoop}
use Rattle.settle_order.specs.Orders.{IsKnown, IsNext, IsPlacing, IsOrder}
use Rattle.settle_order.specs.Search.{IsLoopOf}
use Rattle.settle_order.proofs.Tables.{drives_exist}

pub chain_push : (nodes : List Node) (b : ℕ) (xs : List ℕ) (c d : ℕ) → IsChain nodes b xs c → Feeds nodes c d → IsChain nodes b (xs ++ c ∷ []) d
chain_push nodes b [] c d f g = (f, g)
chain_push nodes b (x ∷ xs) c d h g = (h.0, chain_push nodes x xs c d h.1 g)

-- the bit that feeds the chain's end, and how the chain comes to it
abbrev IsBefore : List Node → ℕ → ℕ → ℕ → Type 0
IsBefore nodes b c y = Feeds nodes y c × ((y ≡ b) ⊎ ((ys : List ℕ) × IsChain nodes b ys y))

before_end : (nodes : List Node) (b : ℕ) (xs : List ℕ) (c : ℕ) → IsChain nodes b xs c → (y : ℕ) × IsBefore nodes b c y
before_end nodes b [] c f = (b, (f, inl refl))
before_end nodes b (x ∷ xs) c h =
    let r = before_end nodes x xs c h.1 in (
      r.0,
      (
        r.1.0,
        elim r.1.1 [
          | inl q ↦ inr ([], subst (λ (z : ℕ). Feeds nodes b z) (sym q) h.0)
          | inr w ↦ inr (x ∷ w.0, (h.0, w.1))
        ],
      ),
    )

abbrev NoLoops : List Node → List ℕ → Type 0
NoLoops nodes placed = (b : ℕ) → IsKnown nodes placed b → IsLooped nodes b → ⊥

none_at_first : (nodes : List Node) → NoLoops nodes []
none_at_first nodes b known loop =
    let r = before_end nodes b loop.0 b loop.1 in
    let c = known r.1.0.by r.1.0.drives in
    absurd (omega (arith, c.1))

pub known_before : (nodes : List Node) (bits : ℕ) (placed : List ℕ) (j b : ℕ) → IsNet nodes bits → Drives nodes j b → Contains placed j → IsKnown nodes placed b
known_before nodes bits placed j b net d c i e = subst (Contains placed) (net.one_driver j i b d e) c

none_at_next : (nodes : List Node) (bits : ℕ) (placed : List ℕ) (k : ℕ) → IsNet nodes bits → NoLoops nodes placed → IsNext nodes placed k → NoLoops nodes (placed ++ k ∷ [])
none_at_next nodes bits placed k net none next b known loop =
    let r = before_end nodes b loop.0 b loop.1 in
    let y = r.0 in
    let f = r.1.0 in
    elim (Contains-push_cases placed k f.by (known f.by f.drives)) [
      | inl c ↦ none b (known_before nodes bits placed f.by b net f.drives c) loop
      | inr q ↦
          let fed : IsKnown nodes placed y = next.ready.known y (subst (λ (n : ℕ). Needs nodes n y) (sym q) f.needs) in
          elim r.1.1 [
            | inl same ↦ none b (subst (IsKnown nodes placed) same fed) loop
            | inr w ↦ none y fed (b ∷ w.0, (f, w.1))
          ]
    ]

none_on_order : (nodes : List Node) (bits : ℕ) (placed rest : List ℕ) → IsNet nodes bits → NoLoops nodes placed → IsPlacing nodes placed rest → NoLoops nodes (placed ++ rest)
none_on_order nodes bits placed [] net none p = subst (NoLoops nodes) (sym (append-nil placed)) none
none_on_order nodes bits placed (k ∷ rest) net none p =
    subst (NoLoops nodes) (append_assoc placed (k ∷ []) rest) (none_on_order nodes bits (placed ++ k ∷ []) rest net (none_at_next nodes bits placed k net none p.0) p.1)

-- where all nodes are in order, no bit lies on a loop
pub no_loops : (nodes : List Node) (bits : ℕ) (order : List ℕ) → IsNet nodes bits → IsOrder nodes order → (b : ℕ) → IsLooped nodes b → ⊥
no_loops nodes bits order net o b loop = none_on_order nodes bits [] order net (none_at_first nodes) o.placing b (λ k d. o.each k (drives_exist nodes k b d)) loop

pub placing_push : (nodes : List Node) (placed rest : List ℕ) (k : ℕ) → IsPlacing nodes placed rest → IsNext nodes (placed ++ rest) k → IsPlacing nodes placed (rest ++ k ∷ [])
placing_push nodes placed [] k p next = (subst (λ (xs : List ℕ). IsNext nodes xs k) (append-nil placed) next, tt)
placing_push nodes placed (j ∷ rest) k p next =
    (p.0, placing_push nodes (placed ++ j ∷ []) rest k p.1 (subst (λ (xs : List ℕ). IsNext nodes xs k) (sym (append_assoc placed (j ∷ []) rest)) next))

pub lowest : (nodes : List Node) (c : ℕ) (bits : List ℕ) → IsLoopOf nodes c bits → ((b : ℕ) → b < c → IsLooped nodes b → ⊥) → IsLowestLoop nodes bits
lowest nodes c [] l none = l
lowest nodes c (b ∷ rest) l none = (
  l.1,
  λ x loop. elim (cases_lt x b) [
    | inl low ↦ absurd (none x (omega (arith, l.0)) loop)
    | inr high ↦ high
  ],
)

-- c isn't on a loop either
pub none_more : (nodes : List Node) (c : ℕ) → ((b : ℕ) → b < c → IsLooped nodes b → ⊥) → (IsLooped nodes c → ⊥) → (b : ℕ) → b < c + 1 → IsLooped nodes b → ⊥
none_more nodes c none here b h loop = elim (cases_eq b c) [
  | inl q ↦ here (subst (IsLooped nodes) q loop)
  | inr ne ↦ none b (omega arith) loop
]
