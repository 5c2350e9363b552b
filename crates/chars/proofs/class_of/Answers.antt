use Rattle.std.proofs.Common.{rules}
use Rattle.chars.proofs.Exact.{exactly_by}
use Rattle.chars.proofs.class_of.Goals as goal

pub returns-in_default-clause-law : goal.returns-in_default-clause-law
returns-in_default-clause-law c = exactly_by c.args.byte _ (search rules)

pub returns-in_default-2-clause-law : goal.returns-in_default-2-clause-law
returns-in_default-2-clause-law c = exactly_by c.args.byte _ (search rules)
