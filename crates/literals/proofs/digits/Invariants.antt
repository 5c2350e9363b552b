use Rattle.std.proofs.Common.{◌≡◌, take}
use Rattle.literals.specs.BitTexts.{bit_digits}
use Rattle.literals.proofs.digits.Given as goal

abbrev pub invariant-loop-i : goal.invariant-loop-i
invariant-loop-i l = take l.i l.row ≡ take l.i (bit_digits l.width l.value)
