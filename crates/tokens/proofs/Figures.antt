-- `numeral` and `literal` answer exactly for the texts of numerals and literals.
use Rattle.std.proofs.Common.{◌≡◌, ℕ, suc, ◌*◌, ◌<◌, Bool, true, false, cond, not, ◌&&◌, eqb, ltb, leb, ◌⊎◌, List, [], ◌∷◌, length, get_or, Some, None, Option, sym, refl, ap, ◌∙◌, inl, inr, arith}
use Rattle.std.specs.Option.{option_map}
use Rattle.std.proofs.lemmas.Bool.{leb-true, le-leb, lt-ltb, eqb-true, eqb-false, ne_eqb, cases_eq, and_right}
use Rattle.tokens.specs.declared.Kind.TheVariants.{Numeral, Literal}
use Rattle.tokens.specs.Numbers.{all_digits, decimal_from, leading_zero, numeral, number_from, low16, value_of, literal_value, literal}
use Rattle.tokens.specs.Spelling.{DigitText, LiteralText, Written}

pub none-some : {A : Type 0} {a : A} → None ≡ Some a → ⊥
none-some e = let z : ◌≡◌ {A = ℕ} 0 1 = cc in omega arith

some_same : {A : Type 0} {a b : A} → Some a ≡ Some b → a ≡ b
some_same e = cc

first_alone : (b : ℕ) → (b ≡ 48) ⊎ (b ≡ 48 → ⊥) → (b ∷ [] ≡ 48 ∷ []) ⊎ (b ≡ 48 → ⊥)
first_alone b (inl e) = inl (ap (λ z. z ∷ []) e)
first_alone b (inr n) = inr n

no_zero : (bs : List ℕ) → 0 < length bs → leading_zero bs ≡ false → (bs ≡ 48 ∷ []) ⊎ (get_or bs 0 0 ≡ 48 → ⊥)
no_zero [] h e = absurd (omega arith)
no_zero (b ∷ []) h e = first_alone b (cases_eq b 48)
no_zero (b ∷ c ∷ ds) h e =
    let l : ltb 1 (suc (suc (length ds))) ≡ true = lt-ltb 1 _ (omega arith) in
    inr (eqb-false b 48 (sym (ap (λ v. v && eqb b 48) l) ∙ e))

zero_alone : (bs : List ℕ) → (bs ≡ 48 ∷ []) ⊎ (get_or bs 0 0 ≡ 48 → ⊥) → leading_zero bs ≡ false
zero_alone bs (inl e) = ap leading_zero e
zero_alone bs (inr n) = and_right (ltb 1 (length bs)) _ (ne_eqb (get_or bs 0 0) 48 n)

value : (bs : List ℕ) (v : ℕ) (digits zeros small : Bool) → all_digits bs ≡ digits → leading_zero bs ≡ zeros → leb (decimal_from 0 bs) 65535 ≡ small
    → 0 < length bs → cond (digits && not zeros && small) (Some (decimal_from 0 bs)) None ≡ Some v → Written (Numeral v) bs
value bs v true false true d z s h e =
    let same : decimal_from 0 bs ≡ v = some_same e in
    ((h, d, no_zero bs h z), same, omega (arith, leb-true (decimal_from 0 bs) 65535 s))
value bs v true false false d z s h e = absurd (none-some e)
value bs v true true small d z s h e = absurd (none-some e)
value bs v false zeros small d z s h e = absurd (none-some e)

-- a numeral's text is what `numeral` takes
pub numeral-written : (bs : List ℕ) (v : ℕ) → 0 < length bs → numeral bs ≡ Some v → Written (Numeral v) bs
unfolding numeral
numeral-written bs v h e = value bs v (all_digits bs) (leading_zero bs) (leb (decimal_from 0 bs) 65535) refl refl refl h e

pub numeral_taken : (bs : List ℕ) (v : ℕ) → Written (Numeral v) bs → numeral bs ≡ Some v
unfolding numeral
numeral_taken bs v ((h, d, z), e, s) =
    let small : leb (decimal_from 0 bs) 65535 ≡ true = le-leb _ 65535 (omega arith) in
    ap (λ x. cond (x && not (leading_zero bs) && leb (decimal_from 0 bs) 65535) (Some (decimal_from 0 bs)) None) d
    ∙ ap (λ x. cond (not x && leb (decimal_from 0 bs) 65535) (Some (decimal_from 0 bs)) None) (zero_alone bs z)
    ∙ ap (λ x. cond x (Some (decimal_from 0 bs)) None) small
    ∙ ap Some e

-- the tests of `literal` at a text of two bytes and more
abbrev chosen : Bool → Bool → Bool → List ℕ → Option (ℕ × ℕ)
chosen hash b x ds = cond (hash && b) (option_map (λ v. (length ds, v)) (value_of 2 ds)) (cond (hash && x) (option_map (λ v. (4 * length ds, v)) (value_of 16 ds)) None)

opened : (a b : ℕ) (ds : List ℕ) → literal_value (a ∷ b ∷ ds) ≡ chosen (eqb a 35) (eqb b 98) (eqb b 120) ds
opened a b ds = ap (λ two. cond (two && eqb a 35 && eqb b 98) (option_map (λ v. (length ds, v)) (value_of 2 ds)) (cond (two && eqb a 35 && eqb b 120) (option_map (λ v. (4 * length ds, v)) (value_of 16 ds)) None)) (le-leb 2 (suc (suc (length ds))) (omega arith))

abbrev sized : ℕ → Option ℕ → Option (ℕ × ℕ)
sized k o = option_map (λ u. (k, u)) o

-- what stands behind `value_of`
digits_of : (base w v : ℕ) (k : ℕ) (d : ℕ) (ds : List ℕ) (o : Option ℕ) → number_from base 0 (d ∷ ds) ≡ o → sized k (option_map low16 o) ≡ Some (w, v)
    → (n : ℕ) × DigitText base n (d ∷ ds) × (w ≡ k) × (v ≡ low16 n)
digits_of base w v k d ds None h e = absurd (none-some e)
digits_of base w v k d ds (Some n) h e =
    let p : ◌≡◌ {A = ℕ × ℕ} (k, low16 n) (w, v) = some_same e in
    (n, (omega arith, h), sym (ap (λ z. z.0) p), sym (ap (λ z. z.1) p))

value_nonempty : (base d : ℕ) (ds : List ℕ) → value_of base (d ∷ ds) ≡ option_map low16 (number_from base 0 (d ∷ ds))
value_nonempty base d ds = ap (λ t. cond t None (option_map low16 (number_from base 0 (d ∷ ds)))) (ne_eqb (suc (length ds)) 0 (λ e. omega arith))

digits_from : (base w v k : ℕ) (ds : List ℕ) → sized k (value_of base ds) ≡ Some (w, v) → (n : ℕ) × DigitText base n ds × (w ≡ k) × (v ≡ low16 n)
digits_from base w v k [] e = absurd (none-some e)
digits_from base w v k (d ∷ ds) e = digits_of base w v k d ds (number_from base 0 (d ∷ ds)) refl (ap (sized k) (sym (value_nonempty base d ds)) ∙ e)

digits_back : (base k n : ℕ) (ds : List ℕ) → DigitText base n ds → sized k (value_of base ds) ≡ Some (k, low16 n)
digits_back base k n [] (h, e) = absurd (omega arith)
digits_back base k n (d ∷ ds) (h, e) = ap (sized k) (value_nonempty base d ds) ∙ ap (λ o. sized k (option_map low16 o)) e

binary_found : (a b : ℕ) (ds : List ℕ) (w v : ℕ) → a ≡ 35 → b ≡ 98 → (n : ℕ) × DigitText 2 n ds × (w ≡ length ds) × (v ≡ low16 n) → Written (Literal w v) (a ∷ b ∷ ds)
binary_found a b ds w v p q (n, t, k, l) = (n, inl (ds, ap (λ z. z ∷ b ∷ ds) p ∙ ap (λ z. 35 ∷ z ∷ ds) q, t, k), l)

hexadecimal_found : (a b : ℕ) (ds : List ℕ) (w v : ℕ) → a ≡ 35 → b ≡ 120 → (n : ℕ) × DigitText 16 n ds × (w ≡ 4 * length ds) × (v ≡ low16 n) → Written (Literal w v) (a ∷ b ∷ ds)
hexadecimal_found a b ds w v p q (n, t, k, l) = (n, inr (ds, ap (λ z. z ∷ b ∷ ds) p ∙ ap (λ z. 35 ∷ z ∷ ds) q, t, k), l)

shape : (a b : ℕ) (ds : List ℕ) (w v : ℕ) (hash bin hex : Bool) → eqb a 35 ≡ hash → eqb b 98 ≡ bin → eqb b 120 ≡ hex → chosen hash bin hex ds ≡ Some (w, v) → Written (Literal w v) (a ∷ b ∷ ds)
shape a b ds w v true true hex p q r e = binary_found a b ds w v (eqb-true a 35 p) (eqb-true b 98 q) (digits_from 2 w v (length ds) ds e)
shape a b ds w v true false true p q r e = hexadecimal_found a b ds w v (eqb-true a 35 p) (eqb-true b 120 r) (digits_from 16 w v (4 * length ds) ds e)
shape a b ds w v true false false p q r e = absurd (none-some e)
shape a b ds w v false bin hex p q r e = absurd (none-some e)

-- a literal's text is what `literal` takes
pub literal-written : (bs : List ℕ) (w v : ℕ) → literal bs ≡ Some (w, v) → Written (Literal w v) bs
unfolding literal
literal-written [] w v e = absurd (none-some e)
literal-written (a ∷ []) w v e = absurd (none-some e)
literal-written (a ∷ b ∷ ds) w v e = shape a b ds w v (eqb a 35) (eqb b 98) (eqb b 120) refl refl refl (sym (opened a b ds) ∙ e)

taken : (bs : List ℕ) (w n : ℕ) → LiteralText w n bs → literal_value bs ≡ Some (w, low16 n)
taken bs w n (inl (ds, e, t, k)) = ap literal_value e ∙ opened 35 98 ds ∙ digits_back 2 (length ds) n ds t ∙ ap (λ z. Some (z, low16 n)) (sym k)
taken bs w n (inr (ds, e, t, k)) = ap literal_value e ∙ opened 35 120 ds ∙ digits_back 16 (4 * length ds) n ds t ∙ ap (λ z. Some (z, low16 n)) (sym k)

pub literal_taken : (bs : List ℕ) (w v : ℕ) → Written (Literal w v) bs → literal bs ≡ Some (w, v)
unfolding literal
literal_taken bs w v (n, t, e) = taken bs w n t ∙ ap (λ z. Some (w, z)) (sym e)

pub no_numeral : (bs : List ℕ) → numeral bs ≡ None → (n : ℕ) → Written (Numeral n) bs → ⊥
no_numeral bs e n h = none-some (sym e ∙ numeral_taken bs n h)

pub no_literal : (bs : List ℕ) → literal bs ≡ None → (w v : ℕ) → Written (Literal w v) bs → ⊥
no_literal bs e w v h = none-some (sym e ∙ literal_taken bs w v h)
