use Rattle.std.proofs.Common.{◌≡◌, ◌+◌, ◌≤◌, drop}
use Rattle.forms.specs.Forms.{closing, closed_list}
use Rattle.forms.proofs.closed_list.Given as goal

abbrev pub invariant-loop-later : goal.invariant-loop-later
invariant-loop-later l = (l.depth ≤ l.later-index + 1) × (closing l.depth (drop l.later-index l.rest) ≡ closed_list l.tokens.rows.now)
