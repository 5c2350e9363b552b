-- A binary literal that was written is read as the same literal.
use Rattle.std.proofs.Common.{◌≡◌, ℕ, zero, suc, ◌+◌, ◌*◌, ◌/◌, ◌%◌, ◌^◌, ◌<◌, ◌≤◌, [], ◌∷◌, length, Some, Ok, sym, refl, ap, ◌∙◌, inl, mod-eq_of_lt, mul_assoc, add-mul, zero-mul, mul_left_comm, arith, pow_mono}
use Rattle.std.proofs.lemmas.Nat.{pow-add, mod-pow-add}
use Rattle.tokens.specs.declared.Kind.TheVariants.{Literal}
use Rattle.tokens.specs.Numbers.{digit_of, digit_in, then, number_from}
use Rattle.tokens.specs.Lexing.{token, tokens}
use Rattle.tokens.specs.Spelling.{Written}
use Rattle.tokens.proofs.Only.{one_token}
use Rattle.literals.specs.BitTexts.{bit_digits, bit_text}
use Rattle.literals.proofs.Digitwise.{length_digits}

-- a bit is 0 or 1
two_bits_lem : (P : ℕ → Type 0) → P 0 → P 1 → (b : ℕ) → b < 2 → P b
two_bits_lem P z o zero h = z
two_bits_lem P z o (suc zero) h = o
two_bits_lem P z o (suc (suc b)) h = absurd (omega arith)

by_bit : (P : ℕ → Type 0) → P 0 → P 1 → (n : ℕ) → P (n % 2)
by_bit P z o n = two_bits_lem P z o (n % 2) (omega arith)

-- a digit more doubles what stands before it
doubled : (n v i : ℕ) → (2 * n + v / 2 ^ i % 2) * 2 ^ i + v % 2 ^ i ≡ n * 2 ^ suc i + v % 2 ^ suc i
doubled n v i =
    let k : suc i ≡ 1 + i = omega arith in
    let power : 2 ^ suc i ≡ 2 * 2 ^ i = ap (λ j. 2 ^ j) k ∙ pow-add 2 1 i in
    let rest : v % 2 ^ suc i ≡ (v / 2 ^ i % 2) * 2 ^ i + v % 2 ^ i = ap (λ j. v % 2 ^ j) k ∙ mod-pow-add v 1 i in
    let front : n * 2 ^ suc i ≡ 2 * (n * 2 ^ i) = ap (λ q. n * q) power ∙ mul_left_comm n 2 (2 ^ i) in
    let spread : (2 * n + v / 2 ^ i % 2) * 2 ^ i ≡ 2 * n * 2 ^ i + (v / 2 ^ i % 2) * 2 ^ i = add-mul (2 * n) (v / 2 ^ i % 2) (2 ^ i) in
    let same : 2 * n * 2 ^ i ≡ 2 * (n * 2 ^ i) = mul_assoc 2 n (2 ^ i) in
    omega arith

number_digits : (k n v : ℕ) → number_from 2 n (bit_digits k v) ≡ Some (n * 2 ^ k + v % 2 ^ k)
number_digits zero n v = ap Some (omega arith)
number_digits (suc i) n v =
    ap (λ o. then o (λ d. number_from 2 (2 * n + d) (bit_digits i v))) (by_bit (λ b. digit_in 2 (digit_of (48 + b)) ≡ Some b) refl refl (v / 2 ^ i))
    ∙ number_digits i (2 * n + v / 2 ^ i % 2) v
    ∙ ap Some (doubled n v i)

-- the text is that of a literal, which has the width and the number
literal-text : (w v : ℕ) → 1 ≤ w → w ≤ 16 → v < 2 ^ w → Written (Literal w v) (bit_text w v)
literal-text w v some few small =
    let long = length_digits w v in
    let top : 2 ^ w ≤ 2 ^ 16 = pow_mono few in
    let whole : v % 2 ^ w ≡ v = mod-eq_of_lt small in
    let number : number_from 2 0 (bit_digits w v) ≡ Some v = number_digits w 0 v ∙ ap Some (ap (λ n. n + v % 2 ^ w) (zero-mul (2 ^ w)) ∙ omega arith) in
    (v, inl (bit_digits w v, refl, (omega arith, number), sym long), omega arith)

pub read_back : (w v : ℕ) → 1 ≤ w → w ≤ 16 → v < 2 ^ w → tokens (bit_text w v) ≡ Ok (token (Literal w v) 0 (2 + w) ∷ [])
read_back w v one few small =
    let long : length (bit_text w v) ≡ 2 + w = omega (arith, length_digits w v) in
    one_token (Literal w v) (bit_text w v) (omega arith) (literal-text w v one few small) ∙ ap (λ n. Ok (token (Literal w v) 0 n ∷ [])) long
