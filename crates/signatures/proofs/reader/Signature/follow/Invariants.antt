use Rattle.std.proofs.Common.{◌≡◌, ◌≤◌, drop, length}
use Rattle.grammar.specs.Marks.{marks}
use Rattle.terms.specs.Scoping.{scope_of}
use Rattle.tables.specs.Shorts.{items_in}
use Rattle.tables.specs.Views.{record_of}
use Rattle.signatures.specs.Steps.{read}
use Rattle.signatures.specs.Views.{listed_in}
use Rattle.signatures.proofs.reader.Signature.follow.Given as goal

abbrev pub invariant-loop-token : goal.invariant-loop-token
invariant-loop-token l =
    (length (items_in l.self.sorts) ≤ l.token-index)
    × (read (scope_of (record_of l.tables)) (listed_in l.self) (marks l.tokens.text.now (drop l.token-index l.tokens.rows.now)) ≡ read (scope_of (record_of l.tables)) (listed_in l.initial.self) (marks l.tokens.text.now l.tokens.rows.now))
