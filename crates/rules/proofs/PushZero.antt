-- What `(push 0)` is read as.
use Rattle.std.proofs.Common.{◌≡◌, Ok, refl}
use Rattle.forms.specs.declared.Command.TheVariants.{Push}
use Rattle.chars.specs.Classes as chars
use Rattle.words.specs.Words as words
use Rattle.tokens.specs.Numbers as numbers
use Rattle.tokens.specs.Lexing as lexing
use Rattle.grammar.specs.Machine as machine
use Rattle.rules.specs.Records.{reading}
use Rattle.rules.specs.Laws.{push_zero}

pub push_zero_read : reading push_zero ≡ Ok (Push 0 6)
unfolding reading chars.class_of words.same words.word_of numbers.numeral numbers.literal lexing.tokens_from machine.replacement
push_zero_read = refl
