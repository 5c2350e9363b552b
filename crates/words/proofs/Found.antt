-- What a name is found as in a table of spellings.
use Rattle.std.proofs.Common.{cond, ◌≡◌, ℕ, true, List, [], ◌∷◌, Some, refl, ap, arith, rules, eqb, ◌&&◌}
use Rattle.std.specs.List.{find}
use Rattle.std.specs.Cmp.Lexicographic.{pointwise}
use Rattle.std.proofs.lemmas.Slice.Eq.{compares_Decides}
use Rattle.words.specs.Spelled.{same, first}

-- What `==` of two texts computes.
pub same_is : (xs ys : List ℕ) → pointwise eqb xs ys ≡ same xs ys
unfolding same
same_is [] [] = refl
same_is [] (y ∷ ys) = refl
same_is (x ∷ xs) [] = refl
same_is (x ∷ xs) (y ∷ ys) = ap (λ r. eqb x y && r) (same_is xs ys)

pub same_equal : (xs ys : List ℕ) → same xs ys ≡ true → xs ≡ ys
unfolding same
same_equal xs ys h = (compares_Decides same (search rules) xs ys).0 h

module _ {A : Type 0} where
  -- `find` in the table, by `==` with the spelling.
  pub find_is : (written : A → List ℕ) (xs : List A) (bs : List ℕ) → find (λ x. pointwise eqb bs (written x)) xs ≡ first written xs bs
  find_is written [] bs = refl
  find_is written (x ∷ xs) bs = rw (same_is bs (written x)) (ap (λ r. cond (same bs (written x)) (Some x) r) (find_is written xs bs))

  -- What is found has the name as its spelling.
  pub found_spells : (written : A → List ℕ) (xs : List A) (bs : List ℕ) (x : A) → first written xs bs ≡ Some x → written x ≡ bs
  found_spells written [] bs x e = cc
  found_spells written (v ∷ xs) bs x e = grind (arith, same_equal bs (written v), found_spells written xs bs x)

-- What is found stands in the table: it has what all of the table have.
module _ {A : Type 0} where
  abbrev pub All : (A → Type 0) → List A → Type 0
  All P [] = Unit {0}
  All P (x ∷ xs) = P x × All P xs

  pub found_holds : (P : A → Type 0) (written : A → List ℕ) (xs : List A) (bs : List ℕ) (x : A) → All P xs → first written xs bs ≡ Some x → P x
  found_holds P written [] bs x h e = cc
  found_holds P written (v ∷ xs) bs x h e = grind (arith, found_holds P written xs bs x h.1)
