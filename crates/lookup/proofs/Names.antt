-- The number of a name among those of rows.
use Rattle.std.proofs.Common.{◌≡◌, ◌+◌, ℕ, suc, List, [], ◌∷◌, map, position, sym, refl, ap, ◌∙◌, arith}
use Rattle.std.proofs.lemmas.Iterator.Adapters.{position_from-zero}
use Rattle.std.specs.Str.{bytes_eq}
use Rattle.std.specs.List.{position_from}
use Rattle.words.proofs.Found.{same_is}
use Rattle.terms.specs.Scoping.{numbered_from, number_in, function_names}
use Rattle.tables.specs.declared.rows.FunctionRow.{FunctionRow}
use Rattle.tables.specs.Stores.{name_in, function_in}

numbered : {R : Type 0} (name : R → List ℕ) (k : ℕ) (rows : List R) (bs : List ℕ) → numbered_from k (map name rows) bs ≡ position_from (λ r. bytes_eq (name r) bs) k rows
numbered name k [] bs = refl
numbered name k (r ∷ rs) bs =
    let here = same_is (name r) bs in
    let more = numbered name (suc k) rs bs in
    let next : k + 1 ≡ suc k = omega arith in
    cc

pub number_is : {R : Type 0} (name : R → List ℕ) (rows : List R) (bs : List ℕ) → number_in (map name rows) bs ≡ position (λ r. bytes_eq (name r) bs) rows
unfolding number_in
number_is name rows bs = numbered name 0 rows bs ∙ sym (position_from-zero (λ r. bytes_eq (name r) bs) rows)

-- the names of the functions are those of their rows
pub names_shown : (rows : List FunctionRow) → function_names (map function_in rows) ≡ map (λ r. name_in r.name) rows
names_shown [] = refl
names_shown (r ∷ rs) = ap (λ ns. name_in r.name ∷ ns) (names_shown rs)
