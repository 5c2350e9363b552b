-- The laws of the operations, once for every width.
use Rattle.std.specs.Prelude.{◌≡◌, ℕ, ◌+◌, ◌-◌, ◌*◌, ◌/◌, ◌%◌, ◌^◌, ◌<◌, ◌≤◌, min, max, Bool as Test, ◌⊎◌, ◌≢◌}
use Rattle.bitvec.specs.declared.Operation.{Operation}
use Rattle.bitvec.specs.declared.Operation.TheVariants.{Not, Neg, Add, Sub, Mul, Udiv, Urem, And, Or, Xor, Shl, Lshr, Ult, Ule, Slt, Sle, Concat}
use Rattle.bitvec.specs.declared.Sort.TheVariants.{Bool, Bits}
use Rattle.bitvec.specs.Arithmetic.{bit, concat}
use Rattle.bitvec.specs.Table.{word, test, truth, joined, applied}

-- the number that `apply` gives at one width
abbrev pub number : Operation → ℕ → ℕ → ℕ → ℕ
number op w a b = (applied op w w a b).1

pub record Laws (w : ℕ) : Type 0 where
  -- on numbers of their widths the masks change nothing
  pub words : (f : ℕ → ℕ → ℕ → ℕ) (a b : ℕ) → a < 2 ^ w → b < 2 ^ w → word f w a b ≡ (Bits w, f w a b)
  pub tests : (f : ℕ → ℕ → ℕ → Test) (a b : ℕ) → a < 2 ^ w → b < 2 ^ w → test f w a b ≡ (Bool, truth (f w a b))
  pub joins : (v a b : ℕ) → w + v ≤ 16 → a < 2 ^ w → b < 2 ^ v → joined w v a b ≡ (Bits (w + v), concat v a b)
  -- the negative is the complement and one
  pub neg : (a b : ℕ) → number Neg w a b ≡ number Add w (number Not w a b) 1
  pub sub : (a b : ℕ) → number Sub w a b ≡ number Add w a (number Neg w b b)
  -- quotient and remainder
  pub div : (a b : ℕ) → a < 2 ^ w → b < 2 ^ w → 0 < b → number Udiv w a b * b + number Urem w a b ≡ a
  pub rem : (a b : ℕ) → b < 2 ^ w → 0 < b → number Urem w a b < b
  -- each bit of the answer comes from the two bits at its place
  pub «and» : (a b i : ℕ) → i < w → bit i (number And w a b) ≡ min (bit i a) (bit i b)
  pub «or» : (a b i : ℕ) → i < w → bit i (number Or w a b) ≡ max (bit i a) (bit i b)
  pub xor : (a b i : ℕ) → i < w → bit i (number Xor w a b) ≡ (bit i a + bit i b) % 2
  -- shifts by fewer places than the width
  pub shl : (a b : ℕ) → b < w → number Shl w a b ≡ number Mul w a (2 ^ b)
  pub lshr : (a b : ℕ) → b < w → number Lshr w a b ≡ number Udiv w a (2 ^ b)
  -- an order and the converse of the other, negated
  pub ult : (a b : ℕ) → number Ult w a b ≡ 1 - number Ule w b a
  pub ule : (a b : ℕ) → number Ule w a b ≡ 1 - number Ult w b a
  pub sle : (a b : ℕ) → number Sle w a b ≡ 1 - number Slt w b a
  -- the signed order is strict, and compares any two different numbers
  pub irreflexive : (a : ℕ) → number Slt w a a ≡ 0
  pub transitive : (a b c : ℕ) → number Slt w a b ≡ 1 → number Slt w b c ≡ 1 → number Slt w a c ≡ 1
  pub total : (a b : ℕ) → a < 2 ^ w → b < 2 ^ w → (a ≢ b) → (number Slt w a b ≡ 1) ⊎ (number Slt w b a ≡ 1)
  -- the parts of `concat` can be read back
  pub upper : (v a b : ℕ) → w + v ≤ 16 → a < 2 ^ w → (applied Concat w v a b).1 / 2 ^ v ≡ a
  pub lower : (v a b : ℕ) → w + v ≤ 16 → b < 2 ^ v → (applied Concat w v a b).1 % 2 ^ v ≡ b

unfoldable pub Lawful : Type 0
Lawful = (w : ℕ) → w ≤ 16 → Laws w
