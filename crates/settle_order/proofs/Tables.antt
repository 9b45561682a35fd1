-- Which node drives each bit.
use Rattle.std.proofs.Common.{◌≡◌, ℕ, ◌+◌, ◌<◌, inl, inr, List, [], Option, None, Some, length, get_or, refl, sym, ap, ◌∙◌, subst, arith}
use Rattle.std.specs.Prelude.{All}
use Rattle.std.proofs.lemmas.Bool.{cases_eq, cases_lt}
use Rattle.std.proofs.lemmas.List.{get_or_past, get_or_default}
use Rattle.std.proofs.lemmas.List.Elements.{Contains-get_or}
use Rattle.settle_order.specs.declared.nodes.Node.{Node}
use Rattle.settle_order.specs.Nodes.{node_at, Drives, IsNet, IsTable, IsNoted}

pub noted_none : (drives : List ℕ) (node : ℕ) (old : List (Option ℕ)) → IsNoted drives node 0 old old
noted_none drives node old = record { size = refl; noted = λ j h. absurd (omega arith); kept = λ b. inl refl }

pub drives_exist : (nodes : List Node) (k b : ℕ) → Drives nodes k b → k < length nodes
drives_exist nodes k b d = elim (cases_lt k (length nodes)) [
  | inl low ↦ low
  | inr high ↦
      let none : node_at nodes k ≡ record { needs = []; drives = [] } = get_or_past nodes k (record { needs = []; drives = [] }) high in
      let c = rw none at d in
      absurd (omega (arith, c.1))
]

-- the node that is noted at b drives it
pub table_more : (nodes : List Node) (bits i : ℕ) (old new : List (Option ℕ)) → IsNet nodes bits → IsTable nodes bits i old →
    IsNoted (node_at nodes i).drives i (length (node_at nodes i).drives) old new → IsTable nodes bits (i + 1) new
table_more nodes bits i old new net t n = record {
  size = n.size ∙ t.size;
  drives = λ k b e. elim (n.kept b) [
    | inl same ↦ t.drives k b (sym same ∙ e)
    | inr w ↦ let q : i ≡ k = cc in subst (λ (m : ℕ). Drives nodes m b) q w.0
  ];
  each = λ k b h d. elim (n.kept b) [
    | inl same ↦ elim (cases_eq k i) [
      | inl q ↦ let here = subst (λ (m : ℕ). Drives nodes m b) q d in rw q (noted_at b here)
      | inr ne ↦ same ∙ t.each k b (omega arith) d
    ]
    | inr w ↦ let q : i ≡ k = net.one_driver i k b w.0 d in w.1 ∙ ap Some q
  ];
}
  where
    noted_at : (b : ℕ) → Drives nodes i b → get_or new b None ≡ Some i
    noted_at b c =
        let here = n.noted c.0 c.1 in
        let is : get_or (node_at nodes i).drives c.0 0 ≡ b = get_or_default (node_at nodes i).drives c.0 0 b c.1 ∙ c.2 in
        rw (← is) here

pub drives_within : (nodes : List Node) (bits k : ℕ) → IsNet nodes bits → All (λ b. b < bits) (node_at nodes k).drives
drives_within nodes bits k net i d h = net.driven k (get_or (node_at nodes k).drives i d) (Contains-get_or (node_at nodes k).drives i d h)
