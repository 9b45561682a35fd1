use Rattle.std.proofs.Common.{◌≡◌, ℕ, List, sym, subst}
use Rattle.std.proofs.lemmas.Result.{IfOk-weaker}
use Rattle.token_text.specs.Printing.{printed}
use Rattle.tree_text.specs.Words.{words_of}
use Rattle.tree_text.specs.Again.{ReadsAgain}
use Rattle.tree_text.proofs.Again.{words_divide, reads_again}
use Rattle.tree_text.proofs.tree.print_tree.Goals as goal

pub returns-clause-words : goal.returns-clause-words
returns-clause-words c text a = words_divide text c.args.tree.now a

pub returns-clause-again : goal.returns-clause-again
returns-clause-again c text a =
    IfOk-weaker c.written.result (λ bytes. bytes.items ≡ printed (words_of c.args.tree.now)) (λ bytes. ReadsAgain bytes.items c.args.tree.now)
    (λ bytes e. subst (λ (z : List ℕ). ReadsAgain z c.args.tree.now) (sym e) (reads_again text c.args.tree.now a)) c.written.ensures
