-- A stack over lent tables.
use Rattle.std.specs.Prelude.{◌≡◌, ℕ, length, Result}
use Rattle.scopes.specs.declared.ScopedStack.{ScopedStack}
use Rattle.scopes.specs.declared.NoRoom.{NoRoom}
use Rattle.scopes.specs.declared.TooMany.{TooMany}
use Rattle.scopes.specs.Stacks.{Scoped, view, Sound, Grows, Falls}

module _ {A : Type 0} where
  -- what the tables stand for
  abbrev pub held : ScopedStack A → Scoped A
  held s = view s.rows.now s.count.now s.levels.now s.depth.now

  -- the soundness of the tables
  abbrev pub Good : ScopedStack A → Type 0
  Good s = Sound s.rows.now s.count.now s.levels.now s.depth.now

  -- how many rows there is room for
  abbrev pub room : ScopedStack A → ℕ
  room s = length s.rows.now

  -- how many levels there is room for
  abbrev pub deepest : ScopedStack A → ℕ
  deepest s = length s.levels.now

  -- the tables are the ones that were lent, and as long as they were
  pub record Same (s t : ScopedStack A) : Type 0 where
    pub rows : t.rows.ghost_name ≡ s.rows.ghost_name
    pub count : t.count.ghost_name ≡ s.count.ghost_name
    pub levels : t.levels.ghost_name ≡ s.levels.ghost_name
    pub depth : t.depth.ghost_name ≡ s.depth.ghost_name
    pub long : room t ≡ room s
    pub deep : deepest t ≡ deepest s

  -- the counts before and after `add`
  abbrev pub AddCounts : ScopedStack A → ScopedStack A → Result (Unit {0}) NoRoom → Type 0
  AddCounts s t r = Grows (room s) s.count.now t.count.now r × (t.depth.now ≡ s.depth.now)

  -- the counts before and after `open`
  abbrev pub OpenCounts : ScopedStack A → ScopedStack A → Result (Unit {0}) NoRoom → Type 0
  OpenCounts s t r = Grows (deepest s) s.depth.now t.depth.now r × (t.count.now ≡ s.count.now)

  -- the depth before and after `close`
  abbrev pub CloseCounts : ScopedStack A → ℕ → ScopedStack A → Result (Unit {0}) TooMany → Type 0
  CloseCounts s n t r = Falls n s.depth.now t.depth.now r
