use Rattle.std.proofs.Common.{subst, sym}
use Rattle.design_core.specs.Legality.{IsLegal}
use Rattle.elab_flat.proofs.LegalDesigns.{design_is_legal}
use Rattle.source_check.proofs.legality.elaborate.Goals as goal

pub make-requires : goal.make-requires
make-requires c =
    subst (IsLegal c.in_ok-design.design) (sym c.new.ensures) (design_is_legal c.args.tree.now c.args.setup.now c.in_ok-design.design c.in_ok-design.ensures.0)
