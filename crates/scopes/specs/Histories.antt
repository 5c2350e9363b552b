-- Stacks over time: what any run of operations leaves of a level.
use Rattle.std.specs.Prelude.{◌≡◌, ℕ, ◌-◌, ◌<◌, List, [], ◌∷◌, Ok, Result}
use Rattle.scopes.specs.declared.TooMany.{TooMany}
use Rattle.scopes.specs.Stacks.{Scoped, depth, added, opened, closed}

pub data Act (A : Type 0) : Type 0 where
  adds : A → Act A
  opens : Act A
  closes : ℕ → Act A

-- The stack after an act, with room for so many rows and so many levels. A refused act leaves it as it was.
abbrev pub acted : {A : Type 0} → ℕ → ℕ → Scoped A → Act A → Scoped A
acted room deep s (adds x) = (added room s x).0
acted room deep s opens = (opened deep s).0
acted room deep s (closes n) = (closed s n).0

-- The stack after a list of acts.
abbrev pub run : {A : Type 0} → ℕ → ℕ → Scoped A → List (Act A) → Scoped A
run room deep s [] = s
run room deep s (a ∷ more) = run room deep (acted room deep s a) more

-- More than d levels are open all the time: at the beginning and after each act.
abbrev pub Above : {A : Type 0} → ℕ → ℕ → ℕ → Scoped A → List (Act A) → Type 0
Above room deep d s [] = d < depth s
Above room deep d s (a ∷ more) = (d < depth s) × Above room deep d (acted room deep s a) more

-- The law of closing. Let a level have been opened on a stack s, and any acts have followed that never closed it,
-- so that t stands. If n levels are closed on t, down to that level and with it, then s stands again.
pub record Restores {A : Type 0} (t : Scoped A) (n : ℕ) (t' : Scoped A) (r : Result (Unit {0}) TooMany) : Type 0 where
  pub restored : (room deep : ℕ) (s : Scoped A) (acts : List (Act A)) →
      (opened deep s).1 ≡ Ok tt →
      Above room deep (depth s) (opened deep s).0 acts →
      run room deep (opened deep s).0 acts ≡ t →
      n ≡ depth t - depth s →
      (t' ≡ s) × (r ≡ Ok tt)
