use Rattle.std.proofs.Common.{rules}
use Rattle.std.proofs.lemmas.List.{at_drop_more}
use Rattle.tokens.specs.Numbers.{number_from}
use Rattle.tokens.proofs.Values.{low_step}
use Rattle.tokens.proofs.numbers.value_of.Goals as goal

pub loop-byte-preserved : goal.loop-byte-preserved
loop-byte-preserved c = search (rules, at_drop_more (number_from c.args.base c.loop-byte.value), low_step)
