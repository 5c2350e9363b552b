use Rattle.std.proofs.Common.{◌≡◌, ◌+◌, false, drop}
use Rattle.chars.specs.Runs.{gap}
use Rattle.chars.proofs.skip_gap.Given as goal

abbrev pub invariant-loop-i : goal.invariant-loop-i
invariant-loop-i l = l.i + gap l.comment (drop (l.at + l.i) l.text) ≡ gap false (drop l.at l.text)
