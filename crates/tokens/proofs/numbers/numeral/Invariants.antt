use Rattle.std.proofs.Common.{◌≡◌, ◌≤◌, false, drop}
use Rattle.tokens.specs.Numbers.{all_digits, decimal_from, leading_zero}
use Rattle.tokens.proofs.numbers.numeral.Given as goal

abbrev pub invariant-loop-byte : goal.invariant-loop-byte
invariant-loop-byte l =
    (l.value ≤ 65535)
    × (leading_zero l.run ≡ false)
    × (all_digits (drop l.byte-index l.run) ≡ all_digits l.run)
    × (decimal_from l.value (drop l.byte-index l.run) ≡ decimal_from 0 l.run)
