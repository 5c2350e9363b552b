use Rattle.std.proofs.Common.{rules}
use Rattle.tokens.proofs.Tables.{one_more, done, refused}
use Rattle.tokens.proofs.Laws.{lex_law}
use Rattle.tokens.proofs.lex.Goals as goal

pub returns-in_err-token : goal.returns-in_err-token
returns-in_err-token c = search (rules, refused, lex_law)

pub loop-token-preserved : goal.loop-token-preserved
loop-token-preserved c = search (rules, one_more)

pub returns : goal.returns
returns c = search (rules, done, lex_law)
