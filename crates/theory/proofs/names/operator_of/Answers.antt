use Rattle.std.proofs.Common.{rules}
use Rattle.theory.specs.Names.{operator_of}
use Rattle.theory.proofs.Spellings.{named_by}
use Rattle.theory.proofs.names.operator_of.Goals as goal

pub returns-clause-law : goal.returns-clause-law
unfolding operator_of
returns-clause-law c = named_by c.args.logic c.args.name.now _ (search rules)
