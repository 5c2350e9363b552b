use Rattle.pieces.proofs.CutLaw.{only_cut}
use Rattle.pieces.proofs.cut.Goals as goal

pub returns-clause-law : goal.returns-clause-law
returns-clause-law c = only_cut c.args.script.now
