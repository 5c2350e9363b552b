-- The machine's bitwise operators compute the bit by bit definition, and each bit of it is read off.
use Rattle.std.proofs.Common.{◌≡◌, ℕ, zero, suc, ◌+◌, ◌-◌, ◌*◌, ◌/◌, ◌%◌, ◌^◌, ◌<◌, min, max, sym, refl, ap, ◌∙◌, subst, mod-eq_of_lt, add-one, one-add, arith}
use native.Mathlib.Nat.{mod-one}
use lib.Bits.{and_lt, or_lt, xor_lt, bit_and, bit_or, bit_xor, and_block, or_block, xor_block, and_shr, or_shr, xor_shr, and_mod, or_mod, xor_mod}
use lib.Pow.{field, mod-mod-pow, mod-pow-add}
use Rattle.bitvec.specs.Arithmetic.{bit, bitwise, bvand, bvor, bvxor}
use Rattle.bitvec.proofs.Masks.{rem_lt}

-- g works on blocks of bits apart, goes through shifts and masks, and is f on single bits
record Apart (f g : ℕ → ℕ → ℕ) : Type 0 where
  block : (k a b r s : ℕ) → r < 2 ^ k → s < 2 ^ k → g (a * 2 ^ k + r) (b * 2 ^ k + s) ≡ g a b * 2 ^ k + g r s
  shr : (a b k : ℕ) → g a b / 2 ^ k ≡ g (a / 2 ^ k) (b / 2 ^ k)
  rem : (a b k : ℕ) → g a b % 2 ^ k ≡ g (a % 2 ^ k) (b % 2 ^ k)
  single : (x y : ℕ) → x < 2 → y < 2 → g x y ≡ f x y
  none : g 0 0 ≡ 0

-- the lowest i + 1 bits are bit i above the lowest i
top : (n i : ℕ) → n % 2 ^ suc i ≡ bit i n * 2 ^ i + n % 2 ^ i
top n i = rw one-add at (mod-pow-add n 1 i)

-- a bit among the lowest w is the number's own
bit-rem : (n i w : ℕ) → i < w → bit i (n % 2 ^ w) ≡ bit i n
bit-rem n i w h =
    let j : ℕ = w - suc i in
    let e : suc j + i ≡ w = omega arith in
    let q = subst (λ (k : ℕ). n % 2 ^ k / 2 ^ i ≡ n / 2 ^ i % 2 ^ suc j) e (field n (suc j) i) in
    ap (λ (m : ℕ). m % 2) q ∙ rw add-one at (mod-mod-pow (n / 2 ^ i) j 1)

module _ {f g : ℕ → ℕ → ℕ} (is : Apart f g) where
  lowest : (w a b : ℕ) → g (a % 2 ^ w) (b % 2 ^ w) ≡ bitwise f w a b
  unfolding bitwise
  lowest zero a b = rw (mod-one a, mod-one b) is.none
  lowest (suc i) a b =
      rw (top a i, top b i)
      (is.block i (bit i a) (bit i b) (a % 2 ^ i) (b % 2 ^ i) (rem_lt a i) (rem_lt b i)
      ∙ rw (is.single (bit i a) (bit i b) (omega arith) (omega arith), lowest i a b))

  whole : (w a b : ℕ) → a < 2 ^ w → b < 2 ^ w → g a b ≡ bitwise f w a b
  whole w a b p q = rw (mod-eq_of_lt p, mod-eq_of_lt q) at (lowest w a b)

  each : (w a b i : ℕ) → i < w → bit i (bitwise f w (a % 2 ^ w) (b % 2 ^ w)) ≡ f (bit i a) (bit i b)
  each w a b i h =
      ap (bit i) (sym (whole w (a % 2 ^ w) (b % 2 ^ w) (rem_lt a w) (rem_lt b w)))
      ∙ ap (λ (n : ℕ). n % 2) (is.shr (a % 2 ^ w) (b % 2 ^ w) i)
      ∙ is.rem (a % 2 ^ w / 2 ^ i) (b % 2 ^ w / 2 ^ i) 1
      ∙ rw (bit-rem a i w h, bit-rem b i w h) (is.single (bit i a) (bit i b) (omega arith) (omega arith))

-- what holds of 0 and 1 holds of each bit
of_bits : (P : ℕ → ℕ → Type 0) → P 0 0 → P 0 1 → P 1 0 → P 1 1 → (x y : ℕ) → x < 2 → y < 2 → P x y
of_bits P a b c d zero zero p q = a
of_bits P a b c d zero (suc zero) p q = b
of_bits P a b c d zero (suc (suc y)) p q = let e : ⊥ = omega arith in absurd e
of_bits P a b c d (suc zero) zero p q = c
of_bits P a b c d (suc zero) (suc zero) p q = d
of_bits P a b c d (suc zero) (suc (suc y)) p q = let e : ⊥ = omega arith in absurd e
of_bits P a b c d (suc (suc x)) y p q = let e : ⊥ = omega arith in absurd e

and_apart : Apart (λ x y. min x y) bit_and
and_apart = record { block = and_block; shr = and_shr; rem = and_mod; single = of_bits (λ x y. bit_and x y ≡ min x y) refl refl refl refl; none = refl }

or_apart : Apart (λ x y. max x y) bit_or
or_apart = record { block = or_block; shr = or_shr; rem = or_mod; single = of_bits (λ x y. bit_or x y ≡ max x y) refl refl refl refl; none = refl }

xor_apart : Apart (λ x y. (x + y) % 2) bit_xor
xor_apart = record { block = xor_block; shr = xor_shr; rem = xor_mod; single = of_bits (λ x y. bit_xor x y ≡ (x + y) % 2) refl refl refl refl; none = refl }

pub and_bits : (w a b : ℕ) → a < 2 ^ w → b < 2 ^ w → bit_and a b ≡ bvand w a b
and_bits = whole and_apart

pub or_bits : (w a b : ℕ) → a < 2 ^ w → b < 2 ^ w → bit_or a b ≡ bvor w a b
or_bits = whole or_apart

pub xor-bits : (w a b : ℕ) → a < 2 ^ w → b < 2 ^ w → bit_xor a b ≡ bvxor w a b
xor-bits = whole xor_apart

pub and_each : (w a b i : ℕ) → i < w → bit i (bvand w (a % 2 ^ w) (b % 2 ^ w)) ≡ min (bit i a) (bit i b)
and_each = each and_apart

pub or_each : (w a b i : ℕ) → i < w → bit i (bvor w (a % 2 ^ w) (b % 2 ^ w)) ≡ max (bit i a) (bit i b)
or_each = each or_apart

pub xor_each : (w a b i : ℕ) → i < w → bit i (bvxor w (a % 2 ^ w) (b % 2 ^ w)) ≡ (bit i a + bit i b) % 2
xor_each = each xor_apart

pub ruleset bits = (and_bits, or_bits, xor-bits, and_lt, or_lt, xor_lt)
