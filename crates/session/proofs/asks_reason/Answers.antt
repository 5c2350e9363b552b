use Rattle.std.proofs.Common.{ap, ◌∙◌}
use Rattle.words.specs.Words.{same}
use Rattle.words.proofs.Found.{same_is}
use Rattle.rules.specs.Records.{asks_reason}
use Rattle.session.proofs.asks_reason.Goals as goal

pub returns : goal.returns
unfolding asks_reason
returns c = c.eq.ensures ∙ same_is _ _ ∙ ap (same c.args.keyword.now) c.as_slice.ensures
