use Rattle.std.proofs.Common.{◌+◌, length, arith}
use Rattle.std.proofs.lemmas.Grind.{common_steps}
use Rattle.chars.proofs.GapSpelt.{gap_skipped}
use Rattle.chars.proofs.skip_gap.Goals as goal

pub returns-in_default-3-clause-law : goal.returns-in_default-3-clause-law
returns-in_default-3-clause-law c = gap_skipped c.args.text.now c.args.at (c.args.at + c.loop-i.i) c.requires (grind (arith, common_steps))

pub returns-clause-law : goal.returns-clause-law
returns-clause-law c = gap_skipped c.args.text.now c.args.at (length c.args.text.now) c.requires (grind (arith, common_steps))
