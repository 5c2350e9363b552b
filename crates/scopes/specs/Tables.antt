-- A table of fixed size with its levels.
use Rattle.std.specs.Prelude.{ℕ}
use Rattle.scopes.specs.declared.table.Table.{Table}
use Rattle.scopes.specs.Stacks.{Scoped, view, Sound}

module _ {A : Type 0} {n : ℕ} where
  -- what the table stands for
  abbrev pub shown : Table A n → Scoped A
  shown t = view t.rows t.count t.levels t.depth

  -- the soundness of the table
  abbrev pub Tidy : Table A n → Type 0
  Tidy t = Sound t.rows t.count t.levels t.depth
