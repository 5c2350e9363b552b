-- What the derived `==` computes of sorts, and of lists of them.
use Rattle.std.proofs.Common.{◌≡◌, ◌&&◌, List, [], ◌∷◌, refl, ap}
use Rattle.std.specs.Cmp.Lexicographic.{pointwise}
use Rattle.std.specs.List.{list_all}
use Rattle.theory.specs.contracts.SortPartialEq.TheImpl.{eq-value}
use Rattle.theory.specs.declared.Sort.{Sort}
use Rattle.theory.specs.declared.Sort.TheVariants as sorts
use Rattle.theory.specs.Ranks.{same_sort, same_sorts, all_are}

pub sort_eq_is : (s t : Sort) → eq-value.it s t ≡ same_sort s t
sort_eq_is sorts.Bool sorts.Bool = refl
sort_eq_is sorts.Bool _ = refl
sort_eq_is (sorts.Bits v) sorts.Bool = refl
sort_eq_is (sorts.Bits v) _ = refl
sort_eq_is (sorts.Declared n) sorts.Bool = refl
sort_eq_is (sorts.Declared n) _ = refl

pub sorts_eq_is : (ss ts : List Sort) → pointwise eq-value.it ss ts ≡ same_sorts ss ts
sorts_eq_is [] [] = refl
sorts_eq_is [] (t ∷ ts) = refl
sorts_eq_is (s ∷ ss) [] = refl
sorts_eq_is (s ∷ ss) (t ∷ ts) = rw (sort_eq_is s t) (ap (λ r. same_sort s t && r) (sorts_eq_is ss ts))

pub all_eq_is : (s : Sort) (ts : List Sort) → list_all (eq-value.it s) ts ≡ all_are s ts
all_eq_is s [] = refl
all_eq_is s (t ∷ ts) = rw (sort_eq_is s t) (ap (λ r. same_sort s t && r) (all_eq_is s ts))
