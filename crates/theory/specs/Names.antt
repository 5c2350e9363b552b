-- The names of the theories' functions, and in which logic they stand.
use Rattle.std.specs.Prelude.{◌≡◌, ℕ, ◌↔◌, List, [], ◌∷◌, ◌++◌, Some, codes, Option}
use Rattle.bitvec.specs.declared.Operation.TheVariants as bits
use Rattle.bitvec.specs.Names.{operation_spelling}
use Rattle.words.specs.Spelled.{first}
use Rattle.theory.specs.declared.Logic.{Logic}
use Rattle.theory.specs.declared.Logic.TheVariants.{QfUf, QfBv}
use Rattle.theory.specs.declared.Operator.{Operator}
use Rattle.theory.specs.declared.Operator.TheVariants.{True, False, Not, Ite, And, Or, Xor, Implies, Equal, Distinct, Bits}

-- How a logic is written.
abbrev pub logic_spelling : Logic → List ℕ
logic_spelling QfUf = codes "QF_UF"
logic_spelling QfBv = codes "QF_BV"

-- How a function of the theories is written.
abbrev pub spelling : Operator → List ℕ
spelling True = codes "true"
spelling False = codes "false"
spelling Not = codes "not"
spelling Ite = codes "ite"
spelling And = codes "and"
spelling Or = codes "or"
spelling Xor = codes "xor"
spelling Implies = codes "=>"
spelling Equal = codes "="
spelling Distinct = codes "distinct"
spelling (Bits o) = operation_spelling o

abbrev pub core : List Operator
core = True ∷ False ∷ Not ∷ Ite ∷ And ∷ Or ∷ Xor ∷ Implies ∷ Equal ∷ Distinct ∷ []

abbrev pub bit_vector_operators : List Operator
bit_vector_operators =
    Bits bits.Not ∷ Bits bits.Neg ∷ Bits bits.Add ∷ Bits bits.Sub ∷ Bits bits.Mul ∷ Bits bits.Udiv ∷ Bits bits.Urem ∷ Bits bits.And ∷ Bits bits.Or ∷ Bits bits.Xor
    ∷ Bits bits.Shl ∷ Bits bits.Lshr ∷ Bits bits.Ult ∷ Bits bits.Ule ∷ Bits bits.Slt ∷ Bits bits.Sle ∷ Bits bits.Concat ∷ []

-- The functions of a logic: those of Core in both, those of bit-vectors in QF_BV only.
abbrev pub operators : Logic → List Operator
operators QfUf = core
operators QfBv = core ++ bit_vector_operators

-- The function of this name in the logic, if one stands there: shut for its users.
unfoldable pub operator_of : Logic → List ℕ → Option Operator
operator_of l bs = first spelling (operators l) bs

-- The function stands in the logic.
abbrev pub Stands : Logic → Operator → Type 0
Stands QfBv o = Unit {0}
Stands QfUf True = Unit {0}
Stands QfUf False = Unit {0}
Stands QfUf Not = Unit {0}
Stands QfUf Ite = Unit {0}
Stands QfUf And = Unit {0}
Stands QfUf Or = Unit {0}
Stands QfUf Xor = Unit {0}
Stands QfUf Implies = Unit {0}
Stands QfUf Equal = Unit {0}
Stands QfUf Distinct = Unit {0}
Stands QfUf (Bits o) = ⊥

-- A function is told exactly by its name, if it stands in the logic.
abbrev pub Named : Logic → List ℕ → Option Operator → Type 0
Named l bs r = (o : Operator) → (r ≡ Some o) ↔ (Stands l o × (spelling o ≡ bs))
