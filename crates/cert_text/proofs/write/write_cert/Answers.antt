use Rattle.std.proofs.Common.{arith, ◌≡◌, ℕ, List, sym, subst}
use Rattle.std.proofs.lemmas.Grind.{common_steps}
use Rattle.cert_text.specs.Spelling.{spelling}
use Rattle.cert_text.specs.Written.{lined, Reads}
use Rattle.cert_text.proofs.Lined.{written_is_read}
use Rattle.cert_text.proofs.write.write_cert.Goals as goal

pub returns-clause-readable : goal.returns-clause-readable
returns-clause-readable c =
    let text : c.put_claims.new.out.items ≡ spelling c.args.cert.now = grind (arith, common_steps) in
    λ f. subst (λ (t : List ℕ). Reads t (lined c.args.cert.now)) (sym text) (written_is_read c.args.cert.now f)
