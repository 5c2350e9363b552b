use Rattle.std.proofs.Common.{rules}
use Rattle.grammar.specs.Machine.{replacement}
use Rattle.grammar.proofs.machine.replacement.Goals as goal

pub returns-in_default-clause-value : goal.returns-in_default-clause-value
unfolding replacement
returns-in_default-clause-value c = search rules
