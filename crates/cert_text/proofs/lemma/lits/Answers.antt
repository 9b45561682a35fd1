use Rattle.std.proofs.Common.{◌≡◌, sym, ap, subst, IfOk}
use Rattle.std.specs.Option.{option_copied}
use Rattle.cert_text.proofs.SomeWords.{lits_some}
use Rattle.cert_text.proofs.lemma.lits.Goals as goal

pub returns-in-Some : goal.returns-in-Some
returns-in-Some c = subst (λ x. IfOk c.lits_after.result (λ l. l ≡ x)) (sym (lits_some (option_copied c.args.words) c.in-Some.field-0.now (ap option_copied c.in-Some.is))) c.lits_after.ensures
