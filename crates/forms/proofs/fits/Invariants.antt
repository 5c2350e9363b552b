use Rattle.std.proofs.Common.{◌≡◌, ◌+◌, ◌*◌, ◌≤◌, length, drop}
use Rattle.grammar.specs.Marks.{marks}
use Rattle.grammar.specs.Machine.{run}
use Rattle.forms.specs.Forms.{fitted}
use Rattle.forms.proofs.fits.Given as goal

abbrev pub invariant-loop-token : goal.invariant-loop-token
invariant-loop-token l =
    (length l.items ≡ 16388)
    × (l.top ≤ 16388)
    × (16386 ≤ l.top + 4 * l.token-index)
    × (run (drop l.top l.items) (marks l.tokens.text.now (drop l.token-index l.tokens.rows.now)) ≡ fitted l.tokens.text.now l.tokens.rows.now)
