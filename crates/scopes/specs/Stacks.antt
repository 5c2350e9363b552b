-- Rows in levels: what each operation makes of them and answers.
use Rattle.std.specs.Prelude.{◌≡◌, ℕ, ◌+◌, ◌-◌, ◌<◌, ◌≤◌, cond, List, [], ◌∷◌, ◌++◌, length, take, Ok, Err, Result, ◌==◌, nat_le, nat_lt, slice_index}
use Rattle.scopes.specs.declared.NoRoom.{NoRoom}
use Rattle.scopes.specs.declared.TooMany.{TooMany}

-- The rows, and how many of them stood when each open level was opened, the oldest level first.
pub record Scoped (A : Type 0) : Type 0 where
  pub rows : List A
  pub levels : List ℕ

abbrev pub depth : {A : Type 0} → Scoped A → ℕ
depth s = length s.levels

-- What a table with a count and a table of levels with a depth stand for.
abbrev pub view : {A : Type 0} → List A → ℕ → List ℕ → ℕ → Scoped A
view rows count levels depth = record { rows = take count rows; levels = take depth levels }

-- A row is added, if there are fewer than there is room for.
abbrev pub added : {A : Type 0} → ℕ → Scoped A → A → Scoped A × Result (Unit {0}) NoRoom
added room s x =
    cond (nat_lt (length s.rows) room)
    (record { rows = s.rows ++ x ∷ []; levels = s.levels }, Ok tt)
    (s, Err (record {}))

-- A level is opened, if there are fewer than there is room for.
abbrev pub opened : {A : Type 0} → ℕ → Scoped A → Scoped A × Result (Unit {0}) NoRoom
opened room s =
    cond (nat_lt (depth s) room)
    (record { rows = s.rows; levels = s.levels ++ length s.rows ∷ [] }, Ok tt)
    (s, Err (record {}))

-- The stack with its first d levels, and the rows that stood when the next level was opened.
abbrev pub cut : {A : Type 0} → Scoped A → ℕ → Scoped A
cut s d = record { rows = take (slice_index s.levels d) s.rows; levels = take d s.levels }

-- The newest n levels are closed, if there are so many.
abbrev pub closed : {A : Type 0} → Scoped A → ℕ → Scoped A × Result (Unit {0}) TooMany
closed s n =
    cond (nat_le n (depth s))
    (cond (n == 0) (s, Ok tt) (cut s (depth s - n), Ok tt))
    (s, Err (record {}))

-- The tables hold what the counts say; no level has more rows than there are, nor than a newer level.
pub record Sound {A : Type 0} (rows : List A) (count : ℕ) (levels : List ℕ) (depth : ℕ) : Type 0 where
  pub long : count ≤ length rows
  pub deep : depth ≤ length levels
  pub below : (i : ℕ) → i < depth → slice_index levels i ≤ count
  pub rising : (i j : ℕ) → i ≤ j → j < depth → slice_index levels i ≤ slice_index levels j

-- A number of rows or levels that grows by one if there is room.
abbrev pub Grows : ℕ → ℕ → ℕ → Result (Unit {0}) NoRoom → Type 0
Grows room n n' (Ok u) = (n < room) × (n' ≡ n + 1)
Grows room n n' (Err e) = (n ≡ room) × (n' ≡ n)

-- A number of levels that falls by n if there are so many.
abbrev pub Falls : ℕ → ℕ → ℕ → Result (Unit {0}) TooMany → Type 0
Falls n d d' (Ok u) = (n ≤ d) × (d' ≡ d - n)
Falls n d d' (Err e) = (d < n) × (d' ≡ d)
