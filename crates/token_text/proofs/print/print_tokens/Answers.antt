use Rattle.std.proofs.Common.{◌≡◌, ℕ, List, sym, subst}
use Rattle.std.proofs.lemmas.Result.{IfOk-weaker}
use Rattle.token_text.specs.Printing.{texts, printed}
use Rattle.token_text.specs.Again.{DividesInto}
use Rattle.token_text.proofs.Dividing.{divides, answer_good}
use Rattle.token_text.proofs.print.print_tokens.Goals as goal

pub returns-clause-divides : goal.returns-clause-divides
returns-clause-divides c a =
    IfOk-weaker c.written.result (λ bytes. bytes.items ≡ printed (texts c.args.tokens.now)) (λ bytes. DividesInto bytes.items (texts c.args.tokens.now))
    (λ bytes e. subst (λ (z : List ℕ). DividesInto z (texts c.args.tokens.now)) (sym e) (divides (texts c.args.tokens.now) a)) c.written.ensures

pub returns-clause-again : goal.returns-clause-again
returns-clause-again c text h = returns-clause-divides c (answer_good text c.args.tokens.now h)
