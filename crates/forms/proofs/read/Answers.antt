use Rattle.std.proofs.Common.{rules}
use Rattle.forms.proofs.Whole.{three_tokens}
use Rattle.forms.proofs.read.Goals as goal

pub bounds-tokens-2 : goal.bounds-tokens-2
bounds-tokens-2 c = three_tokens c.args.tokens.text.now c.args.tokens.rows.now (search rules)
