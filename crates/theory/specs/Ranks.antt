-- Which parts a function of the theories takes, and the sort of its result.
use Rattle.std.specs.Prelude.{◌≡◌, ℕ, ◌+◌, Bool, true, false, cond, ◌&&◌, ◌↔◌, List, [], ◌∷◌, length, Some, None, Ok, Err, Option, Result, ◌==◌, nat_le, slice_index_or}
use Rattle.bitvec.specs.declared.Operation.{Operation}
use Rattle.bitvec.specs.declared.Operation.TheVariants as bits
use Rattle.theory.specs.declared.Logic.{Logic}
use Rattle.theory.specs.declared.Logic.TheVariants.{QfUf, QfBv}
use Rattle.theory.specs.declared.Sort.{Sort}
use Rattle.theory.specs.declared.Sort.TheVariants as sorts
use Rattle.theory.specs.declared.Operator.{Operator}
use Rattle.theory.specs.declared.Operator.TheVariants.{True, False, Not, Ite, And, Or, Xor, Implies, Equal, Distinct, Bits}
use Rattle.theory.specs.declared.RankFault.{RankFault}
use Rattle.theory.specs.declared.RankFault.TheVariants.{Mismatch, Width}

abbrev pub same_sort : Sort → Sort → Bool
same_sort sorts.Bool sorts.Bool = true
same_sort sorts.Bool (sorts.Bits w) = false
same_sort sorts.Bool (sorts.Declared m) = false
same_sort (sorts.Bits v) sorts.Bool = false
same_sort (sorts.Bits v) (sorts.Bits w) = v == w
same_sort (sorts.Bits v) (sorts.Declared m) = false
same_sort (sorts.Declared n) sorts.Bool = false
same_sort (sorts.Declared n) (sorts.Bits w) = false
same_sort (sorts.Declared n) (sorts.Declared m) = n == m

-- The same sorts in the same order.
abbrev pub same_sorts : List Sort → List Sort → Bool
same_sorts [] [] = true
same_sorts [] (t ∷ ts) = false
same_sorts (s ∷ ss) [] = false
same_sorts (s ∷ ss) (t ∷ ts) = same_sort s t && same_sorts ss ts

-- Each of them is this sort.
abbrev pub all_are : Sort → List Sort → Bool
all_are s [] = true
all_are s (t ∷ ts) = same_sort s t && all_are s ts

abbrev pub part : List Sort → ℕ → Sort
part ss i = slice_index_or ss i sorts.Bool

-- The result, if the parts are as they should be.
abbrev pub given : Bool → Sort → Result Sort RankFault
given b s = cond b (Ok s) (Err Mismatch)

-- Two parts or more, all of this sort; the result is Bool.
abbrev pub several_of : Sort → List Sort → Result Sort RankFault
several_of s ss = given (nat_le 2 (length ss) && all_are s ss) sorts.Bool

-- In QF_UF the branches of `ite` are Bool.
abbrev pub branches : Logic → Sort → Bool
branches QfUf s = same_sort sorts.Bool s
branches QfBv s = true

-- `ite`: a condition, and two branches of one sort, which is the result's.
abbrev pub chosen : Logic → List Sort → Result Sort RankFault
chosen l ss = given (length ss == 3 && same_sort sorts.Bool (part ss 0) && same_sort (part ss 1) (part ss 2) && branches l (part ss 1)) (part ss 1)

abbrev pub is_bits : Sort → Bool
is_bits sorts.Bool = false
is_bits (sorts.Bits w) = true
is_bits (sorts.Declared n) = false

-- One bit-vector.
abbrev pub one_bits : List Sort → Bool
one_bits ss = length ss == 1 && is_bits (part ss 0)

-- Two bit-vectors of one width.
abbrev pub two_bits : List Sort → Bool
two_bits ss = length ss == 2 && is_bits (part ss 0) && same_sort (part ss 0) (part ss 1)

-- Two bit-vectors of any widths, which are added.
abbrev pub joined : Sort → Sort → Result Sort RankFault
joined sorts.Bool t = Err Mismatch
joined (sorts.Bits v) sorts.Bool = Err Mismatch
joined (sorts.Bits v) (sorts.Bits w) = cond (nat_le (v + w) 16) (Ok (sorts.Bits (v + w))) (Err Width)
joined (sorts.Bits v) (sorts.Declared m) = Err Mismatch
joined (sorts.Declared n) t = Err Mismatch

abbrev pub operation_rank : Operation → List Sort → Result Sort RankFault
operation_rank bits.Not ss = given (one_bits ss) (part ss 0)
operation_rank bits.Neg ss = given (one_bits ss) (part ss 0)
operation_rank bits.Add ss = given (two_bits ss) (part ss 0)
operation_rank bits.Sub ss = given (two_bits ss) (part ss 0)
operation_rank bits.Mul ss = given (two_bits ss) (part ss 0)
operation_rank bits.Udiv ss = given (two_bits ss) (part ss 0)
operation_rank bits.Urem ss = given (two_bits ss) (part ss 0)
operation_rank bits.And ss = given (two_bits ss) (part ss 0)
operation_rank bits.Or ss = given (two_bits ss) (part ss 0)
operation_rank bits.Xor ss = given (two_bits ss) (part ss 0)
operation_rank bits.Shl ss = given (two_bits ss) (part ss 0)
operation_rank bits.Lshr ss = given (two_bits ss) (part ss 0)
operation_rank bits.Ult ss = given (two_bits ss) sorts.Bool
operation_rank bits.Ule ss = given (two_bits ss) sorts.Bool
operation_rank bits.Slt ss = given (two_bits ss) sorts.Bool
operation_rank bits.Sle ss = given (two_bits ss) sorts.Bool
operation_rank bits.Concat ss = cond (length ss == 2) (joined (part ss 0) (part ss 1)) (Err Mismatch)

abbrev pub ranked : Logic → Operator → List Sort → Result Sort RankFault
ranked l True ss = given (length ss == 0) sorts.Bool
ranked l False ss = given (length ss == 0) sorts.Bool
ranked l Not ss = given (length ss == 1 && same_sort sorts.Bool (part ss 0)) sorts.Bool
ranked l Ite ss = chosen l ss
ranked l And ss = several_of sorts.Bool ss
ranked l Or ss = several_of sorts.Bool ss
ranked l Xor ss = several_of sorts.Bool ss
ranked l Implies ss = several_of sorts.Bool ss
ranked l Equal ss = several_of (part ss 0) ss
ranked l Distinct ss = several_of (part ss 0) ss
ranked l (Bits o) ss = operation_rank o ss

-- The sort of an application, shut for its users.
unfoldable pub rank : Logic → Operator → List Sort → Result Sort RankFault
rank l o ss = ranked l o ss

-- The sort of bit-vectors of a width, of which there are 1 to 16.
abbrev pub bits_of : ℕ → Option Sort
bits_of w = cond (nat_le 1 w && nat_le w 16) (Some (sorts.Bits w)) None

-- A test that is true exactly of equal sorts.
abbrev pub TellsSorts : Sort → Sort → Bool → Type 0
TellsSorts s t r = (r ≡ true) ↔ (s ≡ t)
