-- The texts of binary literals.
use Rattle.std.specs.Prelude.{ℕ, zero, suc, ◌+◌, ◌/◌, ◌%◌, ◌^◌, List, [], ◌∷◌}

-- The lowest bits of a number as digits, so many, the highest first.
abbrev pub bit_digits : ℕ → ℕ → List ℕ
bit_digits zero value = []
bit_digits (suc i) value = (48 + value / 2 ^ i % 2) ∷ bit_digits i value

-- `#b` and the digits.
abbrev pub bit_text : ℕ → ℕ → List ℕ
bit_text width value = 35 ∷ 98 ∷ bit_digits width value
