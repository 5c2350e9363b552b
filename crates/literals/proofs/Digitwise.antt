-- Binary digits by their places.
use Rattle.std.proofs.Common.{◌≡◌, ℕ, zero, suc, ◌+◌, ◌-◌, ◌/◌, ◌%◌, ◌^◌, ◌<◌, List, length, get_or, take, set, refl, ap, ◌∙◌, arith}
use Rattle.std.proofs.lemmas.List.{take_all, take_more, take_more_set}
use Rattle.literals.specs.BitTexts.{bit_digits}

pub length_digits : (k v : ℕ) → length (bit_digits k v) ≡ k
length_digits zero v = refl
length_digits (suc i) v = ap suc (length_digits i v)

pub digit_at : (k v i : ℕ) → i < k → get_or (bit_digits k v) i 0 ≡ 48 + v / 2 ^ (k - 1 - i) % 2
digit_at zero v i h = absurd (omega arith)
digit_at (suc k) v zero h = let e : k ≡ suc k - 1 - 0 = omega arith in ap (λ j. 48 + v / 2 ^ j % 2) e
digit_at (suc k) v (suc i) h =
    let e : k - 1 - i ≡ suc k - 1 - suc i = omega arith in
    digit_at k v i (omega arith) ∙ ap (λ j. 48 + v / 2 ^ j % 2) e

-- a row that has the digits of the first places, and one more
pub digit_more : (w v : ℕ) (row : List ℕ) (i : ℕ) → i < w → length row ≡ w → take i row ≡ take i (bit_digits w v)
    → take (i + 1) (set row i (48 + v / 2 ^ (w - 1 - i) % 2)) ≡ take (i + 1) (bit_digits w v)
digit_more w v row i h long e =
    let fits : i < length row = omega arith in
    let long' : i < length (bit_digits w v) = omega (arith, length_digits w v) in
    rw (take_more_set, take_more (bit_digits w v) i 0 long', digit_at w v i h, e)

pub ruleset digitwise = (digit_more, length_digits, take_all)
