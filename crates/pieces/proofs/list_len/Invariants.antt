use Rattle.std.proofs.Common.{◌≡◌, ◌+◌, ◌≤◌, false, drop}
use Rattle.pieces.specs.Cuts.{list_length}
use Rattle.pieces.proofs.list_len.Given as goal

abbrev pub invariant-loop-i : goal.invariant-loop-i
invariant-loop-i l =
    (1 ≤ l.depth)
    × (l.depth ≤ l.i + 1)
    × (l.i + list_length l.depth l.comment (drop l.i l.text) ≡ list_length 1 false l.text)
