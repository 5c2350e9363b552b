use Rattle.std.proofs.Common.{rules}
use Rattle.std.proofs.lemmas.List.{at_drop_more}
use Rattle.tokens.specs.Numbers.{decimal_from, numeral}
use Rattle.tokens.proofs.Values.{grows}
use Rattle.tokens.proofs.numbers.numeral.Goals as goal

pub returns-in_err-checked_mul : goal.returns-in_err-checked_mul
unfolding numeral
returns-in_err-checked_mul c = search (rules, at_drop_more (decimal_from c.loop-byte.value), grows)

pub returns-in_err-value : goal.returns-in_err-value
unfolding numeral
returns-in_err-value c = search (rules, at_drop_more (decimal_from c.loop-byte.value), grows)
