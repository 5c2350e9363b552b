use Rattle.std.proofs.Common.{◌≡◌, ◌≤◌, drop}
use Rattle.forms.specs.Forms.{deepest}
use Rattle.forms.proofs.deepest.Given as goal

abbrev pub invariant-loop-token : goal.invariant-loop-token
invariant-loop-token l = (l.depth ≤ l.token-index) × (deepest l.depth (drop l.token-index l.tokens.rows.now) ≡ deepest 0 l.tokens.rows.now)
