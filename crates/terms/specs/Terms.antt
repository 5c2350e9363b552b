-- Sorted terms, as trees. A declared sort or function is told by its number among those that stand.
use Rattle.std.specs.Prelude.{ℕ, suc, ◌+◌, List, [], ◌∷◌}
use Rattle.theory.specs.declared.Head.{Head}
use Rattle.theory.specs.declared.Sort.{Sort}

mutual
  -- A bit-vector by its width and number; or a function applied to parts, to none where it is a constant.
  pub data Term : Type 0 where
    literal : ℕ → ℕ → Term
    apply : Head → Terms → Term

  pub data Terms : Type 0 where
    none : Terms
    more : Term → Terms → Terms

-- A term with its sort.
pub record Typed : Type 0 where
  pub sort : Sort
  pub term : Term

abbrev pub gathered : List Term → Terms
gathered [] = none
gathered (t ∷ ts) = more t (gathered ts)

-- How many terms a term is: each symbol, literal or application that stands as a term counts one, a head doesn't.
abbrev mutual
  pub size : Term → ℕ
  size (literal w v) = 1
  size (apply h ts) = suc (sizes ts)

  pub sizes : Terms → ℕ
  sizes none = 0
  sizes (more t ts) = size t + sizes ts

abbrev pub total : List Term → ℕ
total [] = 0
total (t ∷ ts) = size t + total ts
