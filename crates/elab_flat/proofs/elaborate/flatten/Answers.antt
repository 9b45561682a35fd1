use Rattle.std.proofs.Common.{◌<◌, ◌^◌, ◌∙◌, ap, sym, subst, get_or, length}
use Rattle.std.proofs.lemmas.Option.{MatchOption-at_none}
use Rattle.design_core.specs.declared.flat.Design.{Design}
use Rattle.elab_flat.specs.Designs.{IsModuleDesign}
use Rattle.elab_flat.proofs.elaborate.flatten.Goals as goal

pub returns-in-None : goal.returns-in-None
returns-in-None c =
    let m = c.index-modules-0.result in
    let setup = c.args.setup.now in
    let none = MatchOption-at_none ((d : Design) → IsModuleDesign m setup d → ⊥) (λ d. IsModuleDesign m setup d × (length d.sites < 2 ^ 32)) c.in-None.is c.in_ok-design.ensures in (
      λ h. none h.0 (subst (λ x. IsModuleDesign x setup h.0) (sym (c.index-modules-0.is ∙ ap (λ ms. get_or ms 0 m) (c.as_slice-modules.ensures ∙ h.1.1))) h.1.2),
      c.first_token-at.ensures,
    )
