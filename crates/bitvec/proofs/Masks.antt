-- Numbers of w bits inside machine words of 16: a mask is a remainder, and a wrapped result keeps its lowest bits.
use Rattle.std.proofs.Common.{◌≡◌, ℕ, suc, ◌+◌, ◌-◌, ◌*◌, ◌%◌, ◌^◌, ◌<◌, ◌≤◌, sym, ap, ◌∙◌, subst, lt_of_lt_of_le, mul-le-mul_right, mod-lt, suc-mul, arith, pow_pos, pow_mono, pow-add, shl_lt}
use native.Mathlib.Nat.{add-mul-mod_self_right}
use lib.Bits.{bit_and, bit_or, and_mask, or_shifted}
use lib.Pow.{mod-mod-pow, not_mod}

-- 16 places are some above the lowest w
above : (w : ℕ) → w ≤ 16 → (j : ℕ) × (j + w ≡ 16)
above w h = (16 - w, omega arith)

pub size_le : (w : ℕ) → w ≤ 16 → 2 ^ w ≤ 65536
size_le w h = pow_mono h

pub rem_lt : (n w : ℕ) → n % 2 ^ w < 2 ^ w
rem_lt n w = mod-lt n (pow_pos w)

-- the lowest w bits of a number's lowest 16 are its own
pub wrapped : (n w : ℕ) → w ≤ 16 → n % 65536 % 2 ^ w ≡ n % 2 ^ w
wrapped n w h =
    let (j, e) = above w h in
    subst (λ (k : ℕ). n % 2 ^ k % 2 ^ w ≡ n % 2 ^ w) e (mod-mod-pow n j w)

pub mask : (n w : ℕ) → w ≤ 16 → bit_and n (1 * 2 ^ w % 4294967296 - 1) ≡ n % 2 ^ w
mask n w h =
    let k : 2 ^ w ≤ 65536 = size_le w h in
    let e : 1 * 2 ^ w % 4294967296 ≡ 2 ^ w = omega arith in
    rw e (and_mask n w)

pub wrapped_not : (a w : ℕ) → w ≤ 16 → a < 2 ^ w → (65535 - a) % 2 ^ w ≡ 2 ^ w - 1 - a
wrapped_not a w h lt =
    let (j, e) = above w h in
    subst (λ (k : ℕ). (2 ^ k - 1 - a) % 2 ^ w ≡ 2 ^ w - 1 - a) e (not_mod j w lt)

whole : (m n : ℕ) → 0 < m → (m - 1) * n + n ≡ m * n
whole m n h = let e : m ≡ suc (m - 1) = omega arith in sym (ap (λ (k : ℕ). k * n) e ∙ suc-mul (m - 1) n)

pub wrapped_sub : (a b w : ℕ) → w ≤ 16 → b < 2 ^ w → (a + (65536 - b)) % 65536 % 2 ^ w ≡ (a + (2 ^ w - b)) % 2 ^ w
wrapped_sub a b w h lt =
    let (j, e) = above w h in
    let p : 2 ^ j * 2 ^ w ≡ 65536 = sym (pow-add 2 j w) ∙ ap (λ (k : ℕ). 2 ^ k) e in
    let q : (2 ^ j - 1) * 2 ^ w + 2 ^ w ≡ 65536 = whole (2 ^ j) (2 ^ w) (pow_pos j) ∙ p in
    let s : a + (65536 - b) ≡ a + (2 ^ w - b) + (2 ^ j - 1) * 2 ^ w = omega arith in
    wrapped (a + (65536 - b)) w h ∙ ap (λ (n : ℕ). n % 2 ^ w) s ∙ add-mul-mod_self_right (a + (2 ^ w - b)) (2 ^ j - 1) (2 ^ w)

pub ones : (w : ℕ) → w ≤ 16 → 65535 % 2 ^ w ≡ 2 ^ w - 1
ones w h = let e = wrapped_not 0 w h (pow_pos w) in omega arith

-- a number of w bits above one of v
pub above-below : (w v a b : ℕ) → w + v ≤ 16 → a < 2 ^ w → b < 2 ^ v → bit_or (a * 2 ^ v % 4294967296) b ≡ a * 2 ^ v + b
above-below w v a b h p q =
    let k : a * 2 ^ v < 65536 = lt_of_lt_of_le (shl_lt w v p) (size_le (w + v) h) in
    let e : a * 2 ^ v % 4294967296 ≡ a * 2 ^ v = omega arith in
    rw e (or_shifted a v b q)

pub joined_lt : (w v a b : ℕ) → a < 2 ^ w → b < 2 ^ v → a * 2 ^ v + b < 2 ^ (w + v)
joined_lt w v a b p q =
    let k : suc a * 2 ^ v ≤ 2 ^ w * 2 ^ v = mul-le-mul_right (2 ^ v) p in
    let s : suc a * 2 ^ v ≡ a * 2 ^ v + 2 ^ v = suc-mul a (2 ^ v) in
    let e : 2 ^ (w + v) ≡ 2 ^ w * 2 ^ v = pow-add 2 w v in
    omega arith

pub joined_16 : (w v a b : ℕ) → w + v ≤ 16 → a < 2 ^ w → b < 2 ^ v → bit_or (a * 2 ^ v % 4294967296) b < 65536
joined_16 w v a b h p q = rw (above-below w v a b h p q) (lt_of_lt_of_le (joined_lt w v a b p q) (size_le (w + v) h))

pub ruleset joining = (rem_lt, above-below, joined_lt, joined_16)

pub ruleset wraps = (rem_lt, wrapped, wrapped_not, wrapped_sub, ones)
