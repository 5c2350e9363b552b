-- What names stand for.
use Rattle.std.specs.Prelude.{ℕ, suc, Bool, true, false, cond, not, ◌&&◌, ◌||◌, List, [], ◌∷◌, Some, None, codes, Option, ◌==◌, slice_index}
use Rattle.words.specs.Words.{same}
use Rattle.theory.specs.declared.Logic.{Logic}
use Rattle.theory.specs.declared.Logic.TheVariants.{QfUf}
use Rattle.theory.specs.declared.Sort.{Sort}
use Rattle.theory.specs.declared.Sort.TheVariants as sorts
use Rattle.theory.specs.declared.Operator.{Operator}
use Rattle.theory.specs.declared.Head.{Head}
use Rattle.theory.specs.declared.Head.TheVariants as heads
use Rattle.theory.specs.Names.{operator_of}
use Rattle.terms.specs.Records.{Function, Record, items}

-- What a term can name: the logic, and the declared sorts and functions that stand, in order.
pub record Scope : Type 0 where
  pub logic : Logic
  pub sorts : List (List ℕ)
  pub functions : List Function

abbrev pub logic_or : Option Logic → Logic
logic_or None = QfUf
logic_or (Some l) = l

abbrev pub scope_of : Record → Scope
scope_of r = record { logic = logic_or r.logic; sorts = items r.sorts; functions = items r.functions }

-- The number of the first of the names that is this one, counted from a number on.
abbrev pub numbered_from : ℕ → List (List ℕ) → List ℕ → Option ℕ
numbered_from k [] bs = None
numbered_from k (n ∷ ns) bs = cond (same n bs) (Some k) (numbered_from (suc k) ns bs)

-- The number of a name among names, shut for its users.
unfoldable pub number_in : List (List ℕ) → List ℕ → Option ℕ
number_in ns bs = numbered_from 0 ns bs

abbrev pub function_names : List Function → List (List ℕ)
function_names [] = []
function_names (f ∷ fs) = f.name ∷ function_names fs

abbrev pub or_declared : Option Operator → Option ℕ → Option Head
or_declared (Some o) i = Some (heads.Theory o)
or_declared None (Some i) = Some (heads.Declared i)
or_declared None None = None

-- The function of a name: of the theories, or a declared one.
abbrev pub head_of : Scope → List ℕ → Option Head
head_of s bs = or_declared (operator_of s.logic bs) (number_in (function_names s.functions) bs)

abbrev pub declared_sort : Option ℕ → Option Sort
declared_sort None = None
declared_sort (Some i) = Some (sorts.Declared i)

-- This is how the sort of truth values is written.
unfoldable pub is_bool_name : List ℕ → Bool
is_bool_name bs = same bs (codes "Bool")

-- The sort of a name: Bool, or a declared one.
abbrev pub sort_named : Scope → List ℕ → Option Sort
sort_named s bs = cond (is_bool_name bs) (Some sorts.Bool) (declared_sort (number_in s.sorts bs))

-- Names that begin so are kept for solvers.
abbrev pub is_kept : List ℕ → Bool
is_kept bs = slice_index bs 0 == 64 || slice_index bs 0 == 46

abbrev pub is_none : {A : Type 0} → Option A → Bool
is_none None = true
is_none (Some a) = false

-- The name may be declared as a sort, or as a function: nothing of its kind stands under it, and it isn't kept for solvers.
abbrev pub free_sort : Scope → List ℕ → Bool
free_sort s bs = not (is_kept bs) && is_none (sort_named s bs)

abbrev pub free_function : Scope → List ℕ → Bool
free_function s bs = not (is_kept bs) && is_none (head_of s bs)
