-- Worked examples: one row, one call and its answer.
use Rattle.std.specs.Prelude.{◌≡◌, ℕ, List, [], ◌∷◌}
use Rattle.bitvec.specs.declared.Operation.{Operation}
use Rattle.bitvec.specs.declared.Operation.TheVariants.{Not, Neg, Add, Sub, Mul, Udiv, Urem, And, Or, Xor, Shl, Lshr, Ult, Ule, Slt, Sle, Concat}
use Rattle.bitvec.specs.declared.Sort.{Sort}
use Rattle.bitvec.specs.declared.Sort.TheVariants.{Bool, Bits}
use Rattle.bitvec.specs.Table.{applied}

-- operation, widths, operands; sort and number
abbrev pub Example : Type 0
Example = Operation × ℕ × ℕ × ℕ × ℕ × Sort × ℕ

abbrev pub examples : List Example
examples =
    (Udiv, 4, 4, 0b0101, 0b0000, Bits 4, 0b1111)
    ∷ (Urem, 4, 4, 0b0101, 0b0000, Bits 4, 0b0101)
    ∷ (Shl, 4, 4, 0b0011, 0b0100, Bits 4, 0b0000)
    ∷ (Slt, 4, 4, 0b1000, 0b0111, Bool, 1)
    ∷ (Add, 4, 4, 0b1111, 0b0001, Bits 4, 0b0000)
    ∷ (Concat, 2, 2, 0b10, 0b01, Bits 4, 0b1001)
    ∷ (Not, 4, 4, 0b0101, 0b0000, Bits 4, 0b1010)
    ∷ (Neg, 4, 4, 0b0101, 0b0000, Bits 4, 0b1011)
    ∷ (Sub, 4, 4, 0b0010, 0b0101, Bits 4, 0b1101)
    ∷ (Mul, 4, 4, 0b0110, 0b0011, Bits 4, 0b0010)
    ∷ (Udiv, 4, 4, 0b1101, 0b0011, Bits 4, 0b0100)
    ∷ (Urem, 4, 4, 0b1101, 0b0011, Bits 4, 0b0001)
    ∷ (And, 4, 4, 0b0110, 0b0011, Bits 4, 0b0010)
    ∷ (Or, 4, 4, 0b0110, 0b0011, Bits 4, 0b0111)
    ∷ (Xor, 4, 4, 0b0110, 0b0011, Bits 4, 0b0101)
    ∷ (Shl, 4, 4, 0b0111, 0b0010, Bits 4, 0b1100)
    ∷ (Lshr, 4, 4, 0b1110, 0b0010, Bits 4, 0b0011)
    ∷ (Ult, 4, 4, 0b1000, 0b0111, Bool, 0)
    ∷ (Ule, 4, 4, 0b0111, 0b0111, Bool, 1)
    ∷ (Sle, 4, 4, 0b0111, 0b1000, Bool, 0)
    ∷ []

abbrev pub answers : List Example → List (Sort × ℕ)
answers [] = []
answers ((op, w, v, a, b, s, n) ∷ rows) = applied op w v a b ∷ answers rows

abbrev pub expected : List Example → List (Sort × ℕ)
expected [] = []
expected ((op, w, v, a, b, s, n) ∷ rows) = (s, n) ∷ expected rows

unfoldable pub Worked : Type 0
Worked = answers examples ≡ expected examples
