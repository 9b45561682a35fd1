use Rattle.std.proofs.Common.{ap, sym, ◌∙◌, subst, Option, IfSome}
use Rattle.vlog_tokens.specs.declared.number.Number.{Number}
use Rattle.vlog_tokens.specs.Numbers.{IsWithin, sized_or_plain, number_of}
use Rattle.vlog_tokens.proofs.NumberLaws.{parts_within}
use Rattle.vlog_tokens.proofs.number.number_of.Goals as goal

pub returns-clause-within : goal.returns-clause-within
returns-clause-within c = subst (λ (z : Option Number). IfSome z (λ n. IsWithin n)) (sym c.sized_or_plain.ensures) (parts_within c.split_at.result.0.now c.split_at.result.1.now)
