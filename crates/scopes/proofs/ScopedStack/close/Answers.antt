use Rattle.std.proofs.Common.{rules}
use Rattle.scopes.proofs.Depths.{none-closed}
use Rattle.scopes.proofs.Restoring.{restores}
use Rattle.scopes.specs.Lent.{held}
use Rattle.scopes.proofs.ScopedStack.close.Goals as goal

pub returns-then-n-eq0 : goal.returns-then-n-eq0
returns-then-n-eq0 g c = let none = none-closed (held c.args.self.now) c.args.n c.if-n-eq0.true in search (rules, restores)
