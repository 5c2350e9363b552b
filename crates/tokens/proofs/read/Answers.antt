use Rattle.std.proofs.Common.{rules}
use Rattle.tokens.proofs.Tables.{rows_read, rows_refused}
use Rattle.tokens.proofs.read.Goals as goal

pub returns-in_err-count-clause-rows : goal.returns-in_err-count-clause-rows
returns-in_err-count-clause-rows c = search (rules, rows_refused)

pub returns-clause-rows : goal.returns-clause-rows
returns-clause-rows c = search (rules, rows_read)
