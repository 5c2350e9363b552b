-- The record of what stands.
use Rattle.std.specs.Prelude.{ℕ, ◌+◌, ◌-◌, List, [], ◌∷◌, ◌++◌, map, None, Option}
use Rattle.scopes.specs.Depths.{Deep, standing}
use Rattle.theory.specs.declared.Logic.{Logic}
use Rattle.theory.specs.declared.Sort.{Sort}
use Rattle.terms.specs.Terms.{Term}

-- A declared function: its name, the sorts of its arguments, and the sort of its result.
pub record Function : Type 0 where
  pub name : List ℕ
  pub arguments : List Sort
  pub result : Sort

-- The logic, the depth, and what was declared and asserted, in order and each with the depth at which it was added.
pub record Record : Type 0 where
  pub logic : Option Logic
  pub depth : ℕ
  pub sorts : List (Deep (List ℕ))
  pub functions : List (Deep Function)
  pub assertions : List (Deep Term)

abbrev pub new_record : Record
new_record = record { logic = None; depth = 0; sorts = []; functions = []; assertions = [] }

abbrev pub with_logic : Record → Option Logic → Record
with_logic r l = record { logic = l; depth = r.depth; sorts = r.sorts; functions = r.functions; assertions = r.assertions }

-- A row at the present depth.
abbrev pub at_depth : {A : Type 0} → ℕ → A → List (Deep A)
at_depth d x = record { item = x; depth = d } ∷ []

abbrev pub with_sort : Record → List ℕ → Record
with_sort r n = record { logic = r.logic; depth = r.depth; sorts = r.sorts ++ at_depth r.depth n; functions = r.functions; assertions = r.assertions }

abbrev pub with_function : Record → Function → Record
with_function r f = record { logic = r.logic; depth = r.depth; sorts = r.sorts; functions = r.functions ++ at_depth r.depth f; assertions = r.assertions }

abbrev pub with_assertion : Record → Term → Record
with_assertion r t = record { logic = r.logic; depth = r.depth; sorts = r.sorts; functions = r.functions; assertions = r.assertions ++ at_depth r.depth t }

-- So many levels more.
abbrev pub deeper : Record → ℕ → Record
deeper r k = record { logic = r.logic; depth = r.depth + k; sorts = r.sorts; functions = r.functions; assertions = r.assertions }

-- So many levels less: what was added at a depth stands until the depth falls below it.
abbrev pub shallower : Record → ℕ → Record
shallower r k = record {
  logic = r.logic;
  depth = r.depth - k;
  sorts = standing (r.depth - k) r.sorts;
  functions = standing (r.depth - k) r.functions;
  assertions = standing (r.depth - k) r.assertions;
}

-- What stands, without its depths.
abbrev pub items : {A : Type 0} → List (Deep A) → List A
items {A} xs = map (λ (x : Deep A). x.item) xs
