-- The laws, at the width k that counts, and together for every width up to 16.
use Rattle.std.proofs.Common.{◌≡◌, ℕ, zero, suc, ◌+◌, ◌-◌, ◌*◌, ◌/◌, ◌%◌, ◌^◌, ◌<◌, ◌≤◌, min, false, eqb, leb, ◌⊎◌, ℤ, sym, refl, ap, ◌∙◌, lt_trans, mod-lt, mod-eq_of_lt, pow-suc, arith, pow_pos}
use native.Mathlib.Nat.{add-mod, add-mod-mod, min-eq_left, mod-mod}
use lib.Signed.{lt_z, le_z}
use lib.Pow.{pow-lt, high, low}
use Rattle.std.proofs.lemmas.Nat.{div-add-mod'}
use Rattle.std.proofs.lemmas.Bool.{lt-leb, ne_eqb}
use Rattle.std.proofs.lemmas.Int.{ints}
use Rattle.std.proofs.lemmas.Bool.Decides.{nat_tests}
use Rattle.bitvec.specs.declared.Sort.{Sort}
use Rattle.bitvec.specs.Arithmetic.{bitwise, signed, bvnot, bvneg, bvadd, bvsub, bvmul, bvudiv, bvurem, bvshl, bvlshr, bvslt}
use Rattle.bitvec.specs.Examples.{Worked}
use Rattle.bitvec.specs.Laws.{Laws, Lawful}
use Rattle.bitvec.specs.Table.{joined, beside, truth}
use Rattle.bitvec.proofs.Bitwise.{and_each, or_each, xor_each}
use Rattle.bitvec.proofs.Masks.{rem_lt}

neg_law : (k a : ℕ) → bvneg k (a % 2 ^ k) ≡ bvadd k (bvnot k (a % 2 ^ k) % 2 ^ k) (1 % 2 ^ k)
neg_law k a =
    let h = rem_lt a k in
    let e : 2 ^ k - a % 2 ^ k ≡ bvnot k (a % 2 ^ k) + 1 = omega arith in
    ap (λ (n : ℕ). n % 2 ^ k) e ∙ add-mod (bvnot k (a % 2 ^ k)) 1 (2 ^ k)

sub_law : (k a b : ℕ) → bvsub k a b ≡ bvadd k a (bvneg k b % 2 ^ k)
sub_law k a b = sym (ap (λ (n : ℕ). (a + n) % 2 ^ k) (mod-mod (2 ^ k - b) (2 ^ k)) ∙ add-mod-mod a (2 ^ k - b) (2 ^ k))

div_law : (k a b : ℕ) → 0 < b → bvudiv k a b * b + bvurem k a b ≡ a
div_law k a b h = let n : eqb b 0 ≡ false = ne_eqb b 0 (omega arith) in rw n (div-add-mod' a b)

rem_law : (k a b : ℕ) → 0 < b → bvurem k a b < b
rem_law k a b h = let n : eqb b 0 ≡ false = ne_eqb b 0 (omega arith) in rw n (mod-lt a h)

irr : (a : ℤ) → lt_z a a ≡ false
irr a = grind (arith, ints)

trans : (a b c : ℤ) → truth (lt_z a b) ≡ 1 → truth (lt_z b c) ≡ 1 → truth (lt_z a c) ≡ 1
trans a b c p q = grind (arith, ints)

converse : (a b : ℤ) → truth (le_z a b) ≡ 1 - truth (lt_z b a)
converse a b = grind (arith, ints)

signed-total : (k a b : ℕ) → a < 2 ^ k → b < 2 ^ k → (a ≡ b → ⊥) → (truth (bvslt k a b) ≡ 1) ⊎ (truth (bvslt k b a) ≡ 1)
signed-total k a b p q ne = grind (arith, ints, nat_tests)

below-size : (k : ℕ) → k < 2 ^ k
below-size zero = omega arith
below-size (suc k) = let h = below-size k in let e : 2 ^ suc k ≡ 2 ^ k * 2 = pow-suc 2 k in omega arith

shl_law : (k a b : ℕ) → b < k → bvshl k a b ≡ bvmul k a (2 ^ b % 2 ^ k)
shl_law k a b h =
    let n : leb k b ≡ false = lt-leb k b h in
    rw (n, mod-eq_of_lt (pow-lt h))

lshr_law : (k a b : ℕ) → b < k → bvlshr k a b ≡ bvudiv k a (2 ^ b % 2 ^ k)
lshr_law k a b h =
    let p = pow_pos b in
    let n : leb k b ≡ false = lt-leb k b h in
    let m : eqb (2 ^ b) 0 ≡ false = ne_eqb (2 ^ b) 0 (omega arith) in
    rw (n, mod-eq_of_lt (pow-lt h), m)

-- the widths of `concat` count as they are
concat_law : (w v a b : ℕ) → w + v ≤ 16 → joined w v a b ≡ beside w v a b
concat_law w v a b h =
    let e : min v 16 ≡ v = omega arith in
    let d : min w (16 - v) ≡ w = omega arith in
    rw (e, d)

laws_at : (w : ℕ) → min w 16 ≡ w → w ≤ 16 → Laws w
laws_at w e h = record {
  words = λ f a b p q. rw (e, mod-eq_of_lt p, mod-eq_of_lt q);
  tests = λ f a b p q. rw (e, mod-eq_of_lt p, mod-eq_of_lt q);
  joins = λ v a b k p q. concat_law w v a b k ∙ rw (mod-eq_of_lt p, mod-eq_of_lt q);
  neg = λ a b. neg_law (min w 16) a;
  sub = λ a b. sub_law (min w 16) (a % 2 ^ min w 16) (b % 2 ^ min w 16);
  div = λ a b p q k. rw (e, mod-eq_of_lt p, mod-eq_of_lt q) (div_law w a b k);
  rem = λ a b q k. rw (e, mod-eq_of_lt q) (rem_law w (a % 2 ^ w) b k);
  «and» = λ a b i k. rw e (and_each w a b i k);
  «or» = λ a b i k. rw e (or_each w a b i k);
  xor = λ a b i k. rw e (xor_each w a b i k);
  shl = λ a b k. rw (e, mod-eq_of_lt (lt_trans k (below-size w))) (shl_law w (a % 2 ^ w) b k);
  lshr = λ a b k. rw (e, mod-eq_of_lt (lt_trans k (below-size w))) (lshr_law w (a % 2 ^ w) b k);
  ult = λ a b. grind (arith, nat_tests);
  ule = λ a b. grind (arith, nat_tests);
  sle = λ a b. converse (signed (min w 16) (a % 2 ^ min w 16)) (signed (min w 16) (b % 2 ^ min w 16));
  irreflexive = λ a. rw (irr (signed (min w 16) (a % 2 ^ min w 16)));
  transitive = λ a b c. trans (signed (min w 16) (a % 2 ^ min w 16)) (signed (min w 16) (b % 2 ^ min w 16)) (signed (min w 16) (c % 2 ^ min w 16));
  total = λ a b p q n. rw (e, mod-eq_of_lt p, mod-eq_of_lt q) (signed-total w a b p q n);
  upper = λ v a b k p. ap (λ (r : Sort × ℕ). r.1 / 2 ^ v) (concat_law w v a b k) ∙ high (a % 2 ^ w) v (rem_lt b v) ∙ mod-eq_of_lt p;
  lower = λ v a b k q. ap (λ (r : Sort × ℕ). r.1 % 2 ^ v) (concat_law w v a b k) ∙ low (a % 2 ^ w) v (rem_lt b v) ∙ mod-eq_of_lt q;
}

pub lawful : Lawful
unfolding Lawful
lawful w h = laws_at w (min-eq_left h) h

pub worked : Worked
unfolding Worked bitwise
worked = refl
