-- What the record of the tables shows, row by row.
use Rattle.std.proofs.Common.{◌≡◌, List, [], ◌∷◌, Some, None, Option, map, unwrap_or, refl, ap, ◌∙◌}
use Rattle.scopes.specs.Stacks.{Scoped}
use Rattle.scopes.specs.Depths.{Deep, deep, map_deep}
use Rattle.scopes.proofs.Depths.{items-deep}
use Rattle.tables.specs.Stores.{Stored, name_in, function_in, record_in}
use Rattle.theory.specs.declared.Logic.{Logic}
use Rattle.theory.specs.declared.Logic.TheVariants.{QfUf}
use Rattle.terms.specs.Records.{items}
use Rattle.terms.specs.Scoping.{logic_or}

module _ {A B : Type 0} (f : A → B) where
  items-map_deep : (xs : List (Deep A)) → items (map_deep f xs) ≡ map f (items xs)
  items-map_deep [] = refl
  items-map_deep (x ∷ xs) = ap (λ ys. f x.item ∷ ys) (items-map_deep xs)

  items-rows : (s : Scoped A) → items (map_deep f (deep s)) ≡ map f s.rows
  items-rows s = items-map_deep (deep s) ∙ ap (map f) (items-deep s)

pub logic_shown : (s : Stored) → (record_in s).logic ≡ s.logic
unfolding record_in
logic_shown s = refl

pub logic_or_is : (o : Option Logic) → logic_or o ≡ unwrap_or o QfUf
logic_or_is None = refl
logic_or_is (Some l) = refl

-- The names of the sorts are those of the rows.
pub sorts_shown : (s : Stored) → items (record_in s).sorts ≡ map name_in s.sorts.rows
unfolding record_in
sorts_shown s = items-rows name_in s.sorts

-- The functions are those of the rows.
pub functions_shown : (s : Stored) → items (record_in s).functions ≡ map function_in s.functions.rows
unfolding record_in
functions_shown s = items-rows function_in s.functions
