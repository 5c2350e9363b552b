use Rattle.std.proofs.Common.{◌≡◌, take}
use Rattle.tables.specs.Shorts.{items_in}
use Rattle.tables.proofs.short.Short.of.Given as goal

abbrev pub invariant-loop-item : goal.invariant-loop-item
invariant-loop-item g l = items_in l.list ≡ take l.item-index l.items
