use Rattle.std.proofs.Common.{Some, None}
use Rattle.bit_exprs.proofs.IndexLaws.{names_by}
use Rattle.expr_value.proofs.selects.names.Goals as goal

pub returns-in-Some : goal.returns-in-Some
returns-in-Some c =
    names_by c.args.window c.args.at.width c.args.signed c.args.at.bits c.args.k c.args.p _ _ _ (Some c.in-Some.code) c.args.at.not_empty c.args.at.fits c.index_at-index.ensures.up c.index_at-index.ensures.down c.code.ensures c.in-Some.is

pub returns-in-None : goal.returns-in-None
returns-in-None c =
    names_by c.args.window c.args.at.width c.args.signed c.args.at.bits c.args.k c.args.p _ _ _ None c.args.at.not_empty c.args.at.fits c.index_at-index.ensures.up c.index_at-index.ensures.down c.code.ensures c.in-None.is
