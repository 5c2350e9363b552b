use Rattle.std.proofs.Common.{append_assoc, rules}
use Rattle.std.proofs.lemmas.Slice.{overwrites}
use Rattle.page.proofs.Writing.{drop_later}
use Rattle.literals.proofs.Digitwise.{length_digits}
use Rattle.literals.proofs.print_bits.Goals as goal

pub returns-clause-wrote : goal.returns-clause-wrote
returns-clause-wrote c = search (rules, overwrites, append_assoc, drop_later, length_digits)
