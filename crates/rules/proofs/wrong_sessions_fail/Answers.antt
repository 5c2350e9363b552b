use Rattle.rules.proofs.Wrongs.{surplus_fails, refusing_fails, forgetful_fails}
use Rattle.rules.proofs.wrong_sessions_fail.Goals as goal

pub returns : goal.returns
returns c = record { surplus = surplus_fails; refusing = refusing_fails; forgetful = forgetful_fails }
