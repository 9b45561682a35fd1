-- A target that is built names bits of the scope alone.
use Rattle.std.proofs.Common.{◌≡◌, ℕ, zero, suc, true, false, List, [], ◌∷◌, ◌⊎◌, inl, inr, Option, Some, None}
use Rattle.std.specs.Prelude.{All, IfSome, flat_map}
use Rattle.std.proofs.lemmas.List.Elements.{All-nil, All-cons, All-head, All-tail, All-append}
use Rattle.vlog_syntax.specs.declared.stmt.Target as tree
use Rattle.bit_exprs.specs.declared.forms.Part.{Part}
use Rattle.bit_exprs.specs.declared.forms.Part.TheVariants.{Bits, Select}
use Rattle.bit_exprs.specs.declared.forms.Target.{Target}
use Rattle.bit_exprs.specs.Named.{part_bits, part_reads, parts_read, target_bits, target_reads}
use Rattle.expr_elab.specs.declared.built.Fixed.{Fixed}
use Rattle.expr_elab.specs.declared.built.Choice.{Choice}
use Rattle.expr_elab.specs.Vectors.{Scope, bits_of, names}
use Rattle.expr_elab.specs.Numbers.{fixed}
use Rattle.expr_elab.specs.Selects.{bit_named, bits_named}
use Rattle.expr_elab.specs.Targets.{bit_part, parts_below, parts_fixed, parts_selected, parts_of, target_of}
use Rattle.expr_elab.proofs.Choosing.{IsChoice}
use Rattle.expr_elab.proofs.Inside.{named_there, AreSo, all_so}
use Rattle.expr_elab.proofs.EveryPart.{every_part}
use Rattle.expr_elab.proofs.Aims.{target_parts}
use Rattle.expr_elab.proofs.Reading.{one_of, IsNamed, ReadsBuilt, vector_named, picked_reads}

module _ (scope : Scope) where
  -- the part may write bits of the scope alone, and so reads its index
  abbrev Names : Part → Type 0
  Names p = All (IsNamed scope) (part_bits p) × ((b : ℕ) → part_reads p b ≡ true → IsNamed scope b)

  nothing : (b : ℕ) → false ≡ true → IsNamed scope b
  nothing b e = cc

  bit_names : (o : Option ℕ) → IfSome o (IsNamed scope) → Names (bit_part o)
  bit_names None h = (All-nil (IsNamed scope), nothing)
  bit_names (Some b) h = (All-cons (IsNamed scope) b [] h (All-nil (IsNamed scope)), nothing)

  below_names : (f : ℕ → Option ℕ) → ((i : ℕ) → IfSome (f i) (IsNamed scope)) → (k : ℕ) → All Names (parts_below f k)
  below_names f h zero = All-nil Names
  below_names f h (suc k) = All-cons Names (bit_part (f k)) (parts_below f k) (bit_names (f k) (h k)) (below_names f h k)

  selected_names : (bits : List ℕ) (c : Choice) (o : Option Fixed) → All (IsNamed scope) bits → IsChoice (ReadsBuilt (IsNamed scope)) c → All Names (parts_selected bits c o)
  selected_names bits c None h g = All-cons Names (Select bits c.window c.index.expr) [] (h, g.1) (All-nil Names)
  selected_names bits c (Some i) h g = by (bits_named bits c.window i) (all_so (IsNamed scope) (bit_named bits c.window i) 0 c.window.count named)
    where
      named : (k : ℕ) → IfSome (bit_named bits c.window i k) (IsNamed scope)
      named k = named_there (IsNamed scope) bits c.window i k h

      by : (o : Option (List ℕ)) → IfSome o (AreSo (IsNamed scope) c.window.count) → All Names (parts_fixed o (bit_named bits c.window i) c.window.count)
      by (Some inside) s = All-cons Names (Bits inside) [] (s.1, nothing) (All-nil Names)
      by None s = below_names (bit_named bits c.window i) named c.window.count

  parts_name : (t : tree.Target) (ps : List Part) → parts_of scope t ≡ Some ps → All Names ps
  parts_name =
      every_part scope (ReadsBuilt (IsNamed scope)) (picked_reads scope) Names (λ name v is. (vector_named scope name v is, nothing))
      (λ name v c is g. selected_names (bits_of v) c (fixed c.index) (vector_named scope name v is) g)

  all_bits : (ps : List Part) → All Names ps → All (IsNamed scope) (flat_map part_bits ps)
  all_bits [] h = All-nil (IsNamed scope)
  all_bits (p ∷ ps) h = All-append (IsNamed scope) (part_bits p) (flat_map part_bits ps) (All-head Names p ps h).0 (all_bits ps (All-tail Names p ps h))

  all_reads : (ps : List Part) (b : ℕ) → All Names ps → parts_read ps b ≡ true → IsNamed scope b
  all_reads [] b h e = cc
  all_reads (p ∷ ps) b h e = by (one_of (part_reads p b) (parts_read ps b) e) (all_reads ps b (All-tail Names p ps h))
    where
      by : (part_reads p b ≡ true) ⊎ (parts_read ps b ≡ true) → (parts_read ps b ≡ true → IsNamed scope b) → IsNamed scope b
      by (inl s) rest = (All-head Names p ps h).1 b s
      by (inr r) rest = rest r

  -- what a target may write, and what its indices read
  pub target_names : (t : tree.Target) (x : Target) → target_of scope t ≡ Some x → All (IsNamed scope) (target_bits x)
  target_names t x is = all_bits x.parts (parts_name t x.parts (target_parts scope t x is))

  pub target_reads_named : (t : tree.Target) (x : Target) (b : ℕ) → target_of scope t ≡ Some x → target_reads x b ≡ true → names scope b ≡ true
  target_reads_named t x b is e = all_reads x.parts b (parts_name t x.parts (target_parts scope t x is)) e
