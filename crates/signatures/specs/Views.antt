-- What the reader of a declaration's sorts shows.
use Rattle.std.specs.Prelude.{◌≡◌, ℕ, cond, List, [], ◌∷◌, ◌++◌, length, take, Some, None, Ok, Err, Option, Result, nat_le, slice_index_or}
use Rattle.grammar.specs.Marks.{Mark, mark, close_list}
use Rattle.forms.specs.Syntax as syntax
use Rattle.forms.specs.Syntax.{spell_sort, spell_sorts}
use Rattle.theory.specs.declared.Sort.TheVariants as sorts
use Rattle.tables.specs.Shorts.{items_in}
use Rattle.terms.specs.declared.SortFault.{SortFault}
use Rattle.terms.specs.Records.{Function}
use Rattle.terms.specs.Scoping.{Scope}
use Rattle.terms.specs.Sorting.{function_of}
use Rattle.signatures.specs.declared.reader.Signature.{Signature}
use Rattle.signatures.specs.Steps.{Listed, listed}

abbrev pub listed_in : Signature → Listed
listed_in s = listed (items_in s.sorts) s.bits s.arity

-- The state after a step that was taken, or the fault.
abbrev pub placed : {A : Type 0} → Result (Unit {0}) SortFault → A → Result A SortFault
placed (Ok u) a = Ok a
placed (Err e) a = Err e

abbrev pub arity_of : Option ℕ → ℕ
arity_of None = 0
arity_of (Some n) = n

-- The function with a name whose sorts were read: the arguments first, then the result.
abbrev pub function_in : List ℕ → Listed → Function
function_in n l = record { name = n; arguments = take (arity_of l.arity) l.sorts; result = slice_index_or l.sorts (arity_of l.arity) sorts.Bool }

-- A function of at most four arguments.
abbrev pub few_arguments : Function → Option Function
few_arguments f = cond (nat_le (length f.arguments) 4) (Some f) None

-- Whatever sorts the tokens spell, those were read: of a function behind the parenthesis that opens its arguments, or of a constant behind its name.
pub record Follows (σ : Scope) (ms : List Mark) (a : Option ℕ) (r : Result (Unit {0}) SortFault) (l : Listed) : Type 0 where
  pub function : (n : List ℕ) (ks : List syntax.SortName) (k : syntax.SortName) (q c : ℕ) → a ≡ None
      → ms ≡ (spell_sorts ks ++ (mark close_list q ∷ spell_sort k)) ++ (mark close_list c ∷ [])
      → function_of σ n ks k ≡ placed r (function_in n l)
  pub constant : (n : List ℕ) (k : syntax.SortName) (c : ℕ) → a ≡ Some 0
      → ms ≡ spell_sort k ++ (mark close_list c ∷ [])
      → function_of σ n [] k ≡ placed r (function_in n l)
