use Rattle.std.proofs.Common.{◌-◌, length}
use Rattle.tokens.proofs.Tables.{Sofar}
use Rattle.tokens.proofs.lex.Given as goal

abbrev pub invariant-loop-token : goal.invariant-loop-token
invariant-loop-token l = Sofar l.text.bytes.now l.table l.count l.at

abbrev pub decreases-loop-token : goal.decreases-loop-token
decreases-loop-token l = length l.text.bytes.now - l.at
