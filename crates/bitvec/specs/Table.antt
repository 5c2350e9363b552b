-- What `apply` answers, a sort and a number, for each operation, at any widths and any operands.
use Rattle.std.specs.Prelude.{ℕ, ◌+◌, ◌-◌, ◌%◌, ◌^◌, ◌<◌, min, Bool as Test, cond}
use Rattle.bitvec.specs.declared.Operation.{Operation}
use Rattle.bitvec.specs.declared.Operation.TheVariants.{Not, Neg, Add, Sub, Mul, Udiv, Urem, And, Or, Xor, Shl, Lshr, Ult, Ule, Slt, Sle, Concat}
use Rattle.bitvec.specs.declared.Sort.{Sort}
use Rattle.bitvec.specs.declared.Sort.TheVariants.{Bool, Bits}
use Rattle.bitvec.specs.Arithmetic.{bvnot, bvneg, bvadd, bvsub, bvmul, bvudiv, bvurem, bvand, bvor, bvxor, bvshl, bvlshr, bvult, bvule, bvslt, bvsle, concat}

-- f on the lowest w bits of two numbers
abbrev pub lowest : {A : Type 0} → (ℕ → ℕ → ℕ → A) → ℕ → ℕ → ℕ → A
lowest f w a b = f w (a % 2 ^ w) (b % 2 ^ w)

-- operations at one width; a width above 16 counts as 16
abbrev pub word : (ℕ → ℕ → ℕ → ℕ) → ℕ → ℕ → ℕ → Sort × ℕ
word f width a b = (Bits (min width 16), lowest f (min width 16) a b)

-- a truth value is 1 or 0
abbrev pub truth : Test → ℕ
truth t = cond t 1 0

abbrev pub test : (ℕ → ℕ → ℕ → Test) → ℕ → ℕ → ℕ → Sort × ℕ
test f width a b = (Bool, truth (lowest f (min width 16) a b))

-- `concat` of w and v bits
abbrev pub beside : ℕ → ℕ → ℕ → ℕ → Sort × ℕ
beside w v a b = (Bits (w + v), concat v (a % 2 ^ w) (b % 2 ^ v))

-- the second width counts first, and the first as what it leaves of 16
abbrev pub joined : ℕ → ℕ → ℕ → ℕ → Sort × ℕ
joined width low a b = beside (min width (16 - min low 16)) (min low 16) a b

abbrev pub applied : Operation → ℕ → ℕ → ℕ → ℕ → Sort × ℕ
applied Not width low a b = word (λ w a b. bvnot w a) width a b
applied Neg width low a b = word (λ w a b. bvneg w a) width a b
applied Add width low a b = word bvadd width a b
applied Sub width low a b = word bvsub width a b
applied Mul width low a b = word bvmul width a b
applied Udiv width low a b = word bvudiv width a b
applied Urem width low a b = word bvurem width a b
applied And width low a b = word bvand width a b
applied Or width low a b = word bvor width a b
applied Xor width low a b = word bvxor width a b
applied Shl width low a b = word bvshl width a b
applied Lshr width low a b = word bvlshr width a b
applied Ult width low a b = test bvult width a b
applied Ule width low a b = test bvule width a b
applied Slt width low a b = test bvslt width a b
applied Sle width low a b = test bvsle width a b
applied Concat width low a b = joined width low a b

-- the number fits its sort
abbrev pub Fits : Sort → ℕ → Type 0
Fits Bool n = n < 2
Fits (Bits w) n = n < 2 ^ w

abbrev pub Fitting : Sort × ℕ → Type 0
Fitting r = Fits r.0 r.1
