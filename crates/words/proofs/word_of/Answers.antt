use Rattle.words.specs.Words.{word_of}
use Rattle.words.proofs.Spellings.{told}
use Rattle.words.proofs.word_of.Goals as goal

pub returns-clause-law : goal.returns-clause-law
unfolding word_of
returns-clause-law c = rw c.first.ensures (told c.args.name.now)
