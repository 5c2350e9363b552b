-- The depth of a row: how many levels were open when it was added.
use Rattle.std.specs.Prelude.{◌≡◌, ℕ, suc, ◌-◌, ◌<◌, ◌≤◌, cond, List, [], ◌∷◌, ◌++◌, length, Ok, Err, Result, nat_le, slice_index}
use Rattle.scopes.specs.declared.NoRoom.{NoRoom}
use Rattle.scopes.specs.declared.TooMany.{TooMany}
use Rattle.scopes.specs.Stacks.{Scoped, depth}

-- A row, and how many levels were open when it was added.
pub record Deep (A : Type 0) : Type 0 where
  pub item : A
  pub depth : ℕ

-- How many levels were open when the row with this index was added: those that began at or before it.
abbrev pub depth_at : List ℕ → ℕ → ℕ
depth_at [] i = 0
depth_at (l ∷ ls) i = cond (nat_le l i) (suc (depth_at ls i)) 0

-- The rows with their depths, where the first of them has the index i.
abbrev pub deep_from : {A : Type 0} → List ℕ → ℕ → List A → List (Deep A)
deep_from levels i [] = []
deep_from levels i (x ∷ xs) = record { item = x; depth = depth_at levels i } ∷ deep_from levels (suc i) xs

abbrev pub deep : {A : Type 0} → Scoped A → List (Deep A)
deep s = deep_from s.levels 0 s.rows

-- What stands at a depth: the rows that were added at it or below it.
abbrev pub standing : {A : Type 0} → ℕ → List (Deep A) → List (Deep A)
standing d [] = []
standing d (x ∷ xs) = cond (nat_le x.depth d) (x ∷ standing d xs) (standing d xs)

-- Each row changed, and its depth kept.
abbrev pub map_deep : {A B : Type 0} → (A → B) → List (Deep A) → List (Deep B)
map_deep f [] = []
map_deep f (x ∷ xs) = record { item = f x.item; depth = x.depth } ∷ map_deep f xs

-- No level has more rows than there are, nor than a newer level.
pub record Leveled {A : Type 0} (s : Scoped A) : Type 0 where
  pub below : (i : ℕ) → i < depth s → slice_index s.levels i ≤ length s.rows
  pub rising : (i j : ℕ) → i ≤ j → j < depth s → slice_index s.levels i ≤ slice_index s.levels j

-- The law of depths for an added row: its depth is the number of open levels.
abbrev pub AddDepths : {A : Type 0} → Scoped A → A → Scoped A → Result (Unit {0}) NoRoom → Type 0
AddDepths s x t (Ok u) = deep t ≡ deep s ++ record { item = x; depth = depth s } ∷ []
AddDepths s x t (Err e) = deep t ≡ deep s

-- The law of depths for closed levels: just the rows stay that are no deeper than the levels that are left.
abbrev pub CloseDepths : {A : Type 0} → Scoped A → ℕ → Scoped A → Result (Unit {0}) TooMany → Type 0
CloseDepths s n t (Ok u) = deep t ≡ standing (depth s - n) (deep s)
CloseDepths s n t (Err e) = deep t ≡ deep s
