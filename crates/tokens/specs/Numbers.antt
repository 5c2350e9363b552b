-- The numbers that numerals and `#` literals write.
use Rattle.std.specs.Prelude.{ℕ, ◌+◌, ◌-◌, ◌*◌, ◌%◌, Bool, true, cond, not, ◌&&◌, List, [], ◌∷◌, length, drop, Some, None, Option, ◌==◌, nat_le, nat_lt, slice_index}
use Rattle.std.specs.Option.{option_map}
use Rattle.chars.specs.Classes.{within, is_digit}

abbrev pub all_digits : List ℕ → Bool
all_digits [] = true
all_digits (b ∷ bs) = is_digit b && all_digits bs

-- The number that decimal digits write behind a number n.
abbrev pub decimal_from : ℕ → List ℕ → ℕ
decimal_from n [] = n
decimal_from n (b ∷ bs) = decimal_from (10 * n + (b - 48)) bs

abbrev pub leading_zero : List ℕ → Bool
leading_zero bs = nat_lt 1 (length bs) && slice_index bs 0 == 48

-- A numeral is decimal digits with no leading zero, and at most 65,535.
abbrev pub numeral_value : List ℕ → Option ℕ
numeral_value bs = cond (all_digits bs && not (leading_zero bs) && nat_le (decimal_from 0 bs) 65535) (Some (decimal_from 0 bs)) None

-- The same, shut for its users.
unfoldable pub numeral : List ℕ → Option ℕ
numeral bs = numeral_value bs

-- The value of a hexadecimal digit.
abbrev pub digit_of : ℕ → Option ℕ
digit_of b = cond (within 48 57 b) (Some (b - 48)) (cond (within 97 102 b) (Some (b - 87)) (cond (within 65 70 b) (Some (b - 55)) None))

-- The same in a smaller base.
abbrev pub digit_in : ℕ → Option ℕ → Option ℕ
digit_in base None = None
digit_in base (Some d) = cond (nat_lt d base) (Some d) None

-- Goes on with what is there.
abbrev pub then : {A B : Type 0} → Option A → (A → Option B) → Option B
then None next = None
then (Some a) next = next a

-- The number that digits of a base write behind a number n.
abbrev pub number_from : ℕ → ℕ → List ℕ → Option ℕ
number_from base n [] = Some n
number_from base n (b ∷ bs) = then (digit_in base (digit_of b)) (λ d. number_from base (base * n + d) bs)

-- The lowest 16 bits of a number: the number itself where it is below 65,536.
abbrev pub low16 : ℕ → ℕ
low16 n = n % 65536

-- The value of one or more digits, of which only the lowest 16 bits are kept.
abbrev pub value_of : ℕ → List ℕ → Option ℕ
value_of base ds = cond (length ds == 0) None (option_map low16 (number_from base 0 ds))

-- A `#` literal is `#b` and binary digits, or `#x` and hexadecimal ones of four bits each: its width and value.
abbrev pub literal_value : List ℕ → Option (ℕ × ℕ)
literal_value t =
    cond (nat_le 2 (length t) && slice_index t 0 == 35 && slice_index t 1 == 98) (option_map (λ v. (length (drop 2 t), v)) (value_of 2 (drop 2 t)))
    (cond (nat_le 2 (length t) && slice_index t 0 == 35 && slice_index t 1 == 120) (option_map (λ v. (4 * length (drop 2 t), v)) (value_of 16 (drop 2 t))) None)

-- The same, shut for its users.
unfoldable pub literal : List ℕ → Option (ℕ × ℕ)
literal t = literal_value t
