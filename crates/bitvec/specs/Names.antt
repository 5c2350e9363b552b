-- How the theory writes the operations.
use Rattle.std.specs.Prelude.{ℕ, List, codes}
use Rattle.bitvec.specs.declared.Operation.{Operation}
use Rattle.bitvec.specs.declared.Operation.TheVariants.{Not, Neg, Add, Sub, Mul, Udiv, Urem, And, Or, Xor, Shl, Lshr, Ult, Ule, Slt, Sle, Concat}

abbrev pub operation_spelling : Operation → List ℕ
operation_spelling Not = codes "bvnot"
operation_spelling Neg = codes "bvneg"
operation_spelling Add = codes "bvadd"
operation_spelling Sub = codes "bvsub"
operation_spelling Mul = codes "bvmul"
operation_spelling Udiv = codes "bvudiv"
operation_spelling Urem = codes "bvurem"
operation_spelling And = codes "bvand"
operation_spelling Or = codes "bvor"
operation_spelling Xor = codes "bvxor"
operation_spelling Shl = codes "bvshl"
operation_spelling Lshr = codes "bvlshr"
operation_spelling Ult = codes "bvult"
operation_spelling Ule = codes "bvule"
operation_spelling Slt = codes "bvslt"
operation_spelling Sle = codes "bvsle"
operation_spelling Concat = codes "concat"
