-- The design of a text is legal.
use Rattle.std.proofs.Common.{◌≡◌, ℕ, ◌+◌, ◌*◌, ◌<◌, Bool, true, false, not, List, [], get_or, length, sym, subst, arith}
use Rattle.std.specs.Prelude.{All, Contains}
use Rattle.std.specs.Str.{bytes_eq}
use Rattle.std.proofs.lemmas.Bool.{false≢true, and_parts}
use Rattle.std.proofs.lemmas.Option.{slice_get-get_or}
use Rattle.vlog_syntax.specs.declared.module.Tree.{Tree}
use Rattle.vlog_syntax.specs.declared.module.Module.{Module}
use Rattle.design_core.specs.declared.setup.Setup.{Setup}
use Rattle.design_core.specs.declared.flat.Design.{Design}
use Rattle.design_core.specs.Legality.{IsLegal}
use Rattle.design_core.proofs.Settling.{some_among, some-Contains}
use Rattle.design_core.proofs.ClockedDesigns.{IsPlain, clocked_designs_are_legal}
use Rattle.expr_elab.specs.Vectors.{IsWithin}
use Rattle.elab_flat.specs.declared.nets.Net.{Net}
use Rattle.elab_flat.specs.declared.bodies.Numbers.{Numbers}
use Rattle.elab_flat.specs.Nets.{info_of, is_data_input, is_register, bits_where, scope_of}
use Rattle.elab_flat.specs.Bodies.{assignments_in, branches_in, sum_over}
use Rattle.elab_flat.specs.Designs.{design_from, IsModuleDesign, IsDesignOf}
use Rattle.elab_flat.proofs.SiteCounts.{sites_count}
use Rattle.elab_flat.proofs.NetBits.{Laid, laid, each_long, bits_below, bits_distinct, bits_apart, scope_within, named_given}
use Rattle.elab_flat.proofs.FineBodies.{IsFine, fine_processes}

-- an input is no register
one_kind : (clock : List ℕ) (n : Net) → is_data_input clock n ≡ true → is_register n ≡ true → ⊥
one_kind clock n h k = by n.input (and_parts n.input (not (bytes_eq n.name clock)) h).0 k
  where
    by : (input : Bool) → input ≡ true → not input ≡ true → ⊥
    by true e f = false≢true f
    by false e f = false≢true e

module _ (m : Module) (setup : Setup) (d : Design) (is : IsModuleDesign m setup d) where
  abbrev whole : Design
  whole = design_from m setup is.nets is.clock.vector.first is.processes

  abbrev start : Numbers
  start = record { site = 0; arm = sum_over assignments_in m.items }

  sites_long : length whole.sites ≡ sum_over assignments_in m.items + 2 * sum_over branches_in m.items
  sites_long = sites_count m.name.name (sum_over assignments_in m.items) (sum_over branches_in m.items)

  abbrev last : ℕ
  last = (laid 0 m.ports is.nets is.ports).0

  in_order : Laid 0 is.nets last
  in_order = (laid 0 m.ports is.nets is.ports).1

  bits_long : last ≡ length whole.bits
  bits_long = omega (arith, each_long (info_of m.name.name) 0 last is.nets in_order)

  below : (test : Net → Bool) → All (λ b. b < length whole.bits) (bits_where test is.nets)
  below test = subst (λ n. All (λ b. b < n) (bits_where test is.nets)) bits_long (bits_below test 0 last is.nets in_order)

  inside : IsWithin (scope_of setup.clock is.nets) (length whole.bits)
  inside = subst (IsWithin (scope_of setup.clock is.nets)) bits_long (scope_within setup.clock 0 last is.nets in_order)

  all_fine : All (IsFine (scope_of setup.clock is.nets) (length whole.bits) (length whole.sites) inside) is.processes
  all_fine =
      fine_processes (scope_of setup.clock is.nets) (length whole.bits) (length whole.sites) inside is.clock.vector.first m.items start (is.processes, is.next) is.bodies
      (record { site = omega (arith, sites_long); arm = omega (arith, sites_long) })

  all_plain : All (IsPlain whole) is.processes
  all_plain k p lt =
      let f = all_fine k p lt in
      record {
        kind = f.kind;
        within = f.body.within;
        waits = f.body.waits;
        reads = λ b e. named_given setup.clock is.nets b (f.body.reads b e);
        targets = λ b e. is.driven.registers_alone k b (get_or is.processes k p, slice_get-get_or is.processes k p lt, e);
      }

  apart : (b : ℕ) → Contains whole.inputs b → Contains whole.registers b → ⊥
  apart b h k =
      let i = some-Contains whole.inputs b h in
      let r = some-Contains whole.registers b k in
      bits_apart (is_data_input setup.clock) is_register (one_kind setup.clock) 0 last is.nets in_order b (some_among whole.inputs i.0 b i.1) (some_among whole.registers r.0 b r.1)

  pub module_is_legal : IsLegal d []
  module_is_legal = subst (λ x. IsLegal x []) (sym is.is) (clocked_designs_are_legal whole (record {
    plain = all_plain;
    one_driver = λ j k b p q at_j at_k drives_j drives_k. is.driven.once j k b (p, at_j, drives_j) (q, at_k, drives_k);
    inputs_within = below (is_data_input setup.clock);
    inputs_distinct = bits_distinct (is_data_input setup.clock) 0 last is.nets in_order;
    registers_within = below is_register;
    registers_distinct = bits_distinct is_register 0 last is.nets in_order;
    apart = apart;
  }))

pub design_is_legal : (tree : Tree) (setup : Setup) (d : Design) → IsDesignOf tree setup d → IsLegal d []
design_is_legal tree setup d h = module_is_legal h.0 setup d h.2
