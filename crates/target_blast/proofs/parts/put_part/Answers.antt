use Rattle.std.proofs.Common.{sym, subst}
use Rattle.std.specs.List.{All}
use Rattle.aig_core.specs.Graph.{IsLiteral}
use Rattle.target_blast.proofs.Steps.{select_wide, replaced_exist}
use Rattle.target_blast.proofs.parts.put_part.Goals as goal

pub put_selected-requires-clause-wide : goal.put_selected-requires-clause-wide
put_selected-requires-clause-wide c = select_wide c.args.part.now c.in-Select.vector c.in-Select.window c.in-Select.expr _ _ c.in-Select.is c.requires.formed c.requires.index_width

pub returns-in-Bits-clause-exist : goal.returns-in-Bits-clause-exist
returns-in-Bits-clause-exist c =
    subst (All (IsLiteral c.args.aig.now)) (sym c.replace.ensures.exact) (replaced_exist c.args.aig.now c.as_slice.result.now c.args.word.now c.args.targets.now c.requires.word_exists c.requires.targets_exist)
