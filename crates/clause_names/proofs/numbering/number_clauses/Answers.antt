use Rattle.std.proofs.Common.{rules}
use Rattle.clause_names.specs.Numbering.{IsInClauses}
use Rattle.clause_names.proofs.Grown.{alone}
use Rattle.clause_names.proofs.numbering.number_clauses.Goals as goal

pub returns : goal.returns
returns c =
    let all = c.in_ok-clauses.ensures in
    record {
      naming = all.grows.naming (search rules);
      numbered = all.numbered;
      alone = alone c.in_ok-names.names.keys c.number_all.new.names.keys (IsInClauses c.args.clauses.now) c.in_ok-names.ensures all.grows;
    }
