use Rattle.std.proofs.Common.{arith}
use Rattle.std.specs.Prelude.{◌^◌}
use Rattle.clause_names.proofs.Names.{few_names}
use Rattle.clause_names.proofs.numbering.Numbered.vars.Goals as goal

pub overflow_cast-result : goal.overflow_cast-result
overflow_cast-result c = let few = few_names (2 ^ 31) c.args.self.now.names.keys c.requires.apart c.requires.variables in omega arith
