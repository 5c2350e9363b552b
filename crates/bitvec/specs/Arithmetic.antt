-- The operations as arithmetic. A bit-vector of width w is a number below M = 2 ^ w.
use Rattle.std.specs.Prelude.{ℕ, zero, suc, ◌+◌, ◌-◌, ◌*◌, ◌/◌, ◌%◌, ◌^◌, min, max, Bool, cond, ℤ, pos, ◌-ℤ◌, ◌==◌, int_le, int_lt, nat_le, nat_lt}

abbrev pub bvnot : ℕ → ℕ → ℕ
bvnot w a = 2 ^ w - 1 - a

abbrev pub bvneg : ℕ → ℕ → ℕ
bvneg w a = (2 ^ w - a) % 2 ^ w

abbrev pub bvadd : ℕ → ℕ → ℕ → ℕ
bvadd w a b = (a + b) % 2 ^ w

abbrev pub bvsub : ℕ → ℕ → ℕ → ℕ
bvsub w a b = (a + (2 ^ w - b)) % 2 ^ w

abbrev pub bvmul : ℕ → ℕ → ℕ → ℕ
bvmul w a b = a * b % 2 ^ w

-- the quotient; M - 1 at the divisor 0
abbrev pub bvudiv : ℕ → ℕ → ℕ → ℕ
bvudiv w a b = cond (b == 0) (2 ^ w - 1) (a / b)

-- the remainder; the dividend at the divisor 0
abbrev pub bvurem : ℕ → ℕ → ℕ → ℕ
bvurem w a b = cond (b == 0) a (a % b)

-- bit i of a number, 0 or 1
abbrev pub bit : ℕ → ℕ → ℕ
bit i a = a / 2 ^ i % 2

-- bit by bit: bit i of the result is f of the two bits i
unfoldable pub bitwise : (ℕ → ℕ → ℕ) → ℕ → ℕ → ℕ → ℕ
bitwise f zero a b = 0
bitwise f (suc i) a b = f (bit i a) (bit i b) * 2 ^ i + bitwise f i a b

abbrev pub bvand : ℕ → ℕ → ℕ → ℕ
bvand w a b = bitwise (λ x y. min x y) w a b

abbrev pub bvor : ℕ → ℕ → ℕ → ℕ
bvor w a b = bitwise (λ x y. max x y) w a b

abbrev pub bvxor : ℕ → ℕ → ℕ → ℕ
bvxor w a b = bitwise (λ x y. (x + y) % 2) w a b

-- shifts by b places; 0 from the width on
abbrev pub bvshl : ℕ → ℕ → ℕ → ℕ
bvshl w a b = cond (nat_le w b) 0 (a * 2 ^ b % 2 ^ w)

abbrev pub bvlshr : ℕ → ℕ → ℕ → ℕ
bvlshr w a b = cond (nat_le w b) 0 (a / 2 ^ b)

abbrev pub bvult : ℕ → ℕ → ℕ → Bool
bvult w a b = nat_lt a b

abbrev pub bvule : ℕ → ℕ → ℕ → Bool
bvule w a b = nat_le a b

-- the signed value: a below M / 2, and a - M from there
abbrev pub signed : ℕ → ℕ → ℤ
signed w a = cond (nat_lt a (2 ^ w / 2)) (pos a) (pos a -ℤ pos (2 ^ w))

abbrev pub bvslt : ℕ → ℕ → ℕ → Bool
bvslt w a b = int_lt (signed w a) (signed w b)

abbrev pub bvsle : ℕ → ℕ → ℕ → Bool
bvsle w a b = int_le (signed w a) (signed w b)

-- a above the v bits of b
abbrev pub concat : ℕ → ℕ → ℕ → ℕ
concat v a b = a * 2 ^ v + b
