-- The names that a text gives: they are names of certificates, and those of its state bits too, which are distinct.
use Rattle.std.proofs.Common.{◌⊎◌, inl, inr, ◌≡◌, ◌<◌, ◌^◌, ℕ, List, [], ◌∷◌, ◌++◌, map, get_or, refl, sym, ap, subst, arith, codes, decimal}
use Rattle.std.specs.Prelude.{All, Ok}
use Rattle.std.proofs.lemmas.List.Elements.{All-map, All-weaker, All-get_or, All-contains, All-from_recursion}
use Rattle.design_core.specs.declared.flat.BitInfo.{BitInfo}
use Rattle.design_core.specs.declared.flat.Design.{Design}
use Rattle.design_core.specs.declared.setup.Setup.{Setup}
use Rattle.bit_system.specs.declared.system.StateInfo.{StateInfo}
use Rattle.plain_blast.specs.Plain.{state_of, nameless, plain_of}
use Rattle.plain_blast.proofs.Cycle.{states_are}
use Rattle.vlog_syntax.specs.declared.module.Tree.{Tree}
use Rattle.vlog_syntax.specs.declared.module.Module.{Module}
use Rattle.vlog_syntax.specs.declared.module.Port.{Port}
use Rattle.vlog_modules.specs.Answers.{TextAnswers}
use Rattle.cert_text.specs.Points.{IsName, IsStateName}
use Rattle.elab_flat.specs.Nets.{in_scope}
use Rattle.elab_flat.specs.Designs.{AreDistinct, IsDesignOf}
use Rattle.elab_flat.proofs.LegalDesigns.{design_is_legal}
use Rattle.elab_flat.proofs.BitNames.{IsBitName, bits_named, clock_named, HasNoBracket, registers_distinct}
use Rattle.source_check.specs.Ladders.{state_names}
use Rattle.text_prover.proofs.TokenNames.{ident_name, scoped_state_name, indexed_state_name}
use Rattle.text_prover.proofs.TextNames.{HasIdent, HasNames, text_names}

abbrev pub StateNamed : StateInfo → Type 0
StateNamed s = IsStateName s.name

names_of : (bits : List BitInfo) (registers : List ℕ) → map (λ b. (get_or bits b nameless).name) registers ≡ state_names (map (state_of bits) registers)
names_of bits [] = refl
names_of bits (b ∷ bs) = ap (λ names. (get_or bits b nameless).name ∷ names) (names_of bits bs)

-- a name with or without an index is as it is
with_index : (whole name : List ℕ) → IsStateName whole → (name ≡ whole) ⊎ ((i : ℕ) × (i < 2 ^ 32) × (name ≡ whole ++ codes "[" ++ decimal i ++ codes "]")) → IsStateName name
with_index whole name named (inl e) = subst IsStateName (sym e) named
with_index whole name named (inr (i, small, e)) = subst IsStateName (sym e) (indexed_state_name whole i (omega (arith, small)) named)

-- a bit is named as a state bit may be
bit_named : (m : Module) (name : List ℕ) → HasNames m → IsBitName m name → IsStateName name
bit_named m name names is =
    let port_ident = All-contains HasIdent m.ports is.port (All-from_recursion HasIdent m.ports names.ports) is.there in
    with_index (in_scope m.name.name is.port.name.name) name (scoped_state_name m.name.name is.port.name.name names.name port_ident) is.made

module _ (text : List ℕ) (tree : Tree) (setup : Setup) (d : Design) (of_text : TextAnswers text (Ok tree)) (is : IsDesignOf tree setup d) where
  names_here : HasNames is.0
  names_here = text_names text tree is.0 of_text is.1

  all_ports : All HasIdent is.0.ports
  all_ports = All-from_recursion HasIdent is.0.ports names_here.ports

  pub module_name : IsName is.0.name.name
  module_name = ident_name is.0.name.name names_here.name

  pub top_is_name : IsName setup.top
  top_is_name = subst IsName is.2.top module_name

  pub clock_is_name : IsName setup.clock
  clock_is_name =
      let (p, there, same) = clock_named tree setup d is in
      subst IsName same (ident_name p.name.name (All-contains HasIdent is.0.ports p all_ports there))

  all_bits : All (λ (i : BitInfo). IsStateName i.name) d.bits
  all_bits =
      All-weaker (λ (i : BitInfo). IsBitName is.0 i.name) (λ (i : BitInfo). IsStateName i.name) (λ i h. bit_named is.0 i.name names_here h) d.bits (bits_named tree setup d is)

  pub states_are_named : (sites : List ℕ) → All StateNamed (plain_of d [] sites).states
  states_are_named sites =
      let legal = design_is_legal tree setup d is in
      subst (All StateNamed) (sym (states_are d [] sites))
      (All-map StateNamed (state_of d.bits) d.registers
      (λ k b lt. All-get_or (λ (i : BitInfo). IsStateName i.name) d.bits (get_or d.registers k b) nameless (legal.registers_within k b lt) all_bits))

  pub states_distinct : (sites : List ℕ) → AreDistinct (state_names (plain_of d [] sites).states)
  states_distinct sites =
      let lacks : All (λ (p : Port). HasNoBracket p.name.name) is.0.ports =
      All-weaker HasIdent (λ (p : Port). HasNoBracket p.name.name) (λ p h. h.plain) is.0.ports all_ports in
      subst (λ (states : List StateInfo). AreDistinct (state_names states)) (sym (states_are d [] sites))
      (subst AreDistinct (names_of d.bits d.registers) (registers_distinct tree setup d is lacks nameless))
