use Rattle.std.proofs.Common.{ap, ◌∙◌}
use Rattle.bit_exprs.specs.Values.{sign_of}
use Rattle.bit_exprs.proofs.Variants.{unary_sign_is, binary_sign_is, choose_sign_is}
use Rattle.bit_exprs.proofs.signs.+is_signed.Goals as goal

pub returns-in-Unary : goal.returns-in-Unary
returns-in-Unary t c = unary_sign_is _ _ c.in-Unary.op c.in-Unary.is _ _ (c.is_signed.ensures ∙ ap sign_of c.get.ensures) c.unary_sign.ensures

pub returns-in-Binary : goal.returns-in-Binary
returns-in-Binary t c =
    binary_sign_is _ _ _ c.in-Binary.op c.in-Binary.is _ _ _ (c.is_signed-l.ensures ∙ ap sign_of c.get-in-Binary.ensures) (c.is_signed-r.ensures ∙ ap sign_of c.get-in-Binary-2.ensures) c.binary_sign.ensures

pub returns-in-Choose : goal.returns-in-Choose
returns-in-Choose t c =
    choose_sign_is _ _ _ _ c.in-Choose.is _ _ _ (c.is_signed-y.ensures ∙ ap sign_of c.get-in-Choose.ensures) (c.is_signed-n.ensures ∙ ap sign_of c.get-in-Choose-2.ensures) c.both.ensures
