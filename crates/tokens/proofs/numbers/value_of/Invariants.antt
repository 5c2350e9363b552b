use Rattle.std.proofs.Common.{◌≡◌, ◌<◌, drop}
use Rattle.std.specs.Option.{option_map}
use Rattle.tokens.specs.Numbers.{number_from, low16}
use Rattle.tokens.proofs.numbers.value_of.Given as goal

abbrev pub invariant-loop-byte : goal.invariant-loop-byte
invariant-loop-byte l = (l.value < 65536) × (option_map low16 (number_from l.base l.value (drop l.byte-index l.run)) ≡ option_map low16 (number_from l.base 0 l.run))
