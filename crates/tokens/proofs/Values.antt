-- Facts on the numbers that digits write.
use Rattle.std.proofs.Common.{◌≡◌, ℕ, ◌+◌, ◌-◌, ◌*◌, ◌/◌, ◌%◌, ◌≤◌, List, [], ◌∷◌, Some, None, Option, sym, refl, ap, ◌∙◌, mul-add, mul_comm, mul_left_comm, arith}
use Rattle.std.specs.Option.{option_map}
use Rattle.tokens.specs.Numbers.{decimal_from, number_from, digit_in, digit_of, then, low16}

-- more digits make no number smaller
pub grows : (n : ℕ) (bs : List ℕ) → n ≤ decimal_from n bs
grows n [] = omega arith
grows n (b ∷ bs) = let h = grows (10 * n + (b - 48)) bs in omega arith

-- the lowest 16 bits of a number are told by those of its front
low-push : (base n d : ℕ) → low16 (base * low16 n + d) ≡ low16 (base * n + d)
low-push base n d =
    let whole : n ≡ n % 65536 + 65536 * (n / 65536) = omega arith in
    let spread : base * n ≡ base * (n % 65536) + 65536 * (base * (n / 65536)) =
    ap (λ m. base * m) whole ∙ mul-add base (n % 65536) (65536 * (n / 65536)) ∙ ap (λ m. base * (n % 65536) + m) (mul_left_comm base 65536 (n / 65536)) in
    omega arith

pub low-front : (base n m : ℕ) (ds : List ℕ) → low16 n ≡ low16 m → option_map low16 (number_from base n ds) ≡ option_map low16 (number_from base m ds)
low-front base n m [] e = ap Some e
low-front base n m (b ∷ bs) e = go (digit_in base (digit_of b)) (λ d. low-front base (base * n + d) (base * m + d) bs (sym (low-push base n d) ∙ ap (λ x. low16 (base * x + d)) e ∙ low-push base m d))
  where
    go : (o : Option ℕ) → ((d : ℕ) → option_map low16 (number_from base (base * n + d) bs) ≡ option_map low16 (number_from base (base * m + d) bs)) → option_map low16 (then o (λ d. number_from base (base * n + d) bs)) ≡ option_map low16 (then o (λ d. number_from base (base * m + d) bs))
    go None h = refl
    go (Some d) h = h d

-- what is kept of a value is enough to go on with
pub low_step : (base n d : ℕ) (ds : List ℕ) → option_map low16 (number_from base ((n * base % 65536 + d) % 65536) ds) ≡ option_map low16 (number_from base (base * n + d) ds)
low_step base n d ds =
    let same : n * base ≡ base * n = mul_comm n base in
    low-front base ((n * base % 65536 + d) % 65536) (base * n + d) ds (omega (arith, same))
