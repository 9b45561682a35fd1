-- What a target of the syntax tree is on the bits of a scope (IEEE 1364-2001 clauses 4.2.1 and 6).
use Rattle.std.specs.Prelude.{ℕ, zero, suc, nat_le, cond, List, [], ◌∷◌, Option, Some, None, option_map, flat_map}
use Rattle.vlog_syntax.specs.declared.stmt.Target as wide_target
use Rattle.vlog_syntax.specs.declared.stmt.Target.TheOpen.{Target-F}
use Rattle.vlog_syntax.specs.declared.stmt.Target.TheFolds.{fold-Target}
use Rattle.bit_exprs.specs.declared.forms.Part.{Part}
use Rattle.bit_exprs.specs.declared.forms.Part.TheVariants.{Bits, Select, Outside}
use Rattle.bit_exprs.specs.declared.forms.Target.{Target}
use Rattle.bit_exprs.specs.Updates.{parts_width}
use Rattle.expr_elab.specs.declared.vectors.Vector.{Vector}
use Rattle.expr_elab.specs.declared.built.Fixed.{Fixed}
use Rattle.expr_elab.specs.declared.built.Choice.{Choice}
use Rattle.expr_elab.specs.declared.built.Picked.{Picked}
use Rattle.expr_elab.specs.Options.{and_then, with_both, all_there}
use Rattle.expr_elab.specs.Vectors.{Scope, vector_of, bits_of}
use Rattle.expr_elab.specs.Numbers.{fixed}
use Rattle.expr_elab.specs.Selects.{choice_of, bit_named, bits_named}
use Rattle.expr_elab.specs.Elaboration.{picked_of}

abbrev pub bit_part : Option ℕ → Part
bit_part (Some b) = Bits (b ∷ [])
bit_part None = Outside 1

-- bits below k, from the most significant one on
abbrev pub parts_below : (ℕ → Option ℕ) → ℕ → List Part
parts_below named zero = []
parts_below named (suc k) = bit_part (named k) ∷ parts_below named k

-- the bits where all lie inside, else bit by bit
abbrev pub parts_fixed : Option (List ℕ) → (ℕ → Option ℕ) → ℕ → List Part
parts_fixed (Some bits) named count = Bits bits ∷ []
parts_fixed None named count = parts_below named count

abbrev pub parts_selected : List ℕ → Choice → Option Fixed → List Part
parts_selected bits choice (Some i) = parts_fixed (bits_named bits choice.window i) (bit_named bits choice.window i) choice.window.count
parts_selected bits choice None = Select bits choice.window choice.index.expr ∷ []

abbrev pub select_parts : Vector → Picked → Option (List Part)
select_parts v picked = option_map (λ choice. parts_selected (bits_of v) choice (fixed choice.index)) (and_then (λ r. choice_of r picked) v.range)

abbrev pub whole_part : Vector → List Part
whole_part v = Bits (bits_of v) ∷ []

-- a target, given the parts of those in its braces
abbrev pub target_step : Scope → Target-F (Option (List Part)) → Option (List Part)
target_step scope (Target-F.Name x None) = option_map whole_part (vector_of scope x.name)
target_step scope (Target-F.Name x (Some select)) = with_both select_parts (vector_of scope x.name) (picked_of scope select)
target_step scope (Target-F.Concat at parts) = option_map (flat_map (λ ps. ps)) (all_there parts)

abbrev pub parts_of : Scope → wide_target.Target → Option (List Part)
parts_of scope = fold-Target (Option (List Part)) (target_step scope)

-- a target has at most 128 places
abbrev pub within_limit : List Part → Option Target
within_limit parts = cond (nat_le (parts_width parts) 128) (Some (record { parts = parts })) None

abbrev pub target_of : Scope → wide_target.Target → Option Target
target_of scope t = and_then within_limit (parts_of scope t)
