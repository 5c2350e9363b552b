-- What stands in a page after a write.
use Rattle.std.specs.Prelude.{◌≡◌, ℕ, ◌+◌, List, [], ◌∷◌, ◌++◌, length, take, drop, codes, decimal}

-- The bytes bs stand at `at` and end at `end`; what stood before `at` and from `end` on is kept.
abbrev pub Wrote : List ℕ → ℕ → List ℕ → List ℕ → ℕ → Type 0
Wrote page at bs page' end = (take end page' ≡ take at page ++ bs) × (drop end page' ≡ drop end page) × (end ≡ at + length bs)

-- The line that reports an error: its code and its place in decimal, in quotes.
abbrev pub complaint : ℕ → ℕ → List ℕ
complaint code place = codes "(error \"" ++ (decimal code ++ (codes " " ++ (decimal place ++ (codes "\")" ++ (10 ∷ [])))))
