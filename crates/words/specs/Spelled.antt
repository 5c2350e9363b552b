-- The look-up of a name in a table of spellings.
use Rattle.std.specs.Prelude.{ℕ, Bool, true, false, cond, ◌&&◌, List, [], ◌∷◌, Some, None, Option, ◌==◌}

-- The two texts have the same bytes: shut for its users.
unfoldable pub same : List ℕ → List ℕ → Bool
same [] [] = true
same [] (y ∷ ys) = false
same (x ∷ xs) [] = false
same (x ∷ xs) (y ∷ ys) = x == y && same xs ys

-- The first of the table whose spelling these bytes are.
abbrev pub first : {A : Type 0} → (A → List ℕ) → List A → List ℕ → Option A
first written [] bs = None
first written (x ∷ xs) bs = cond (same bs (written x)) (Some x) (first written xs bs)
