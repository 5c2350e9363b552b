use Rattle.std.proofs.Common.{append_assoc, length-append, rules}
use Rattle.page.proofs.Writing.{drop_later}
use Rattle.page.proofs.error.Goals as goal

pub returns-clause-wrote : goal.returns-clause-wrote
returns-clause-wrote c = search (rules, length-append, append_assoc, drop_later)
