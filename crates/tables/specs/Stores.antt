-- What the tables show: names, functions, terms as trees, and the record of what stands.
use Rattle.std.specs.Prelude.{◌≡◌, ℕ, ◌+◌, ◌<◌, ◌≤◌, List, [], ◌∷◌, ◌++◌, length, take, drop, None, Option, slice_index, slice_index_or}
use Rattle.scopes.specs.Stacks.{Scoped, depth, closed}
use Rattle.scopes.specs.Depths.{deep, map_deep, Leveled}
use Rattle.theory.specs.declared.Logic.{Logic}
use Rattle.tables.specs.declared.rows.Name.{Name}
use Rattle.tables.specs.declared.rows.FunctionRow.{FunctionRow}
use Rattle.tables.specs.declared.rows.Node.{Node}
use Rattle.tables.specs.declared.rows.Node.TheVariants.{Literal, Apply}
use Rattle.tables.specs.declared.rows.TermRow.{TermRow}
use Rattle.tables.specs.declared.rows.Counts.{Counts}
use Rattle.tables.specs.Shorts.{items_in}
use Rattle.terms.specs.Terms.{Term, literal, apply, gathered, total}
use Rattle.terms.specs.Records.{Function, Record}

abbrev pub name_in : Name → List ℕ
name_in n = items_in n.bytes

abbrev pub function_in : FunctionRow → Function
function_in f = record { name = name_in f.name; arguments = items_in f.arguments; result = f.result }

-- ## Terms as trees

abbrev pub no_term : Term
no_term = literal 0 0

-- The tree with this number among the trees.
abbrev pub tree_at : List Term → ℕ → Term
tree_at ts i = slice_index_or ts i no_term

abbrev pub picked : List Term → List ℕ → List Term
picked ts [] = []
picked ts (i ∷ is) = tree_at ts i ∷ picked ts is

abbrev pub node_term : Node → List Term → Term
node_term (Literal w v) ts = literal w v
node_term (Apply h) ts = apply h (gathered ts)

-- The tree of a row, over the trees of the rows before it.
abbrev pub row_term : List ℕ → List Term → TermRow → Term
row_term parts ts r = node_term r.node (picked ts (take r.count (drop r.first parts)))

abbrev pub trees_from : List ℕ → List Term → List TermRow → List Term
trees_from parts ts [] = ts
trees_from parts ts (r ∷ rs) = trees_from parts (ts ++ row_term parts ts r ∷ []) rs

-- The trees of the rows, each part standing before its whole.
unfoldable pub trees : List ℕ → List TermRow → List Term
trees parts rows = trees_from parts [] rows

-- ## The store

-- The tables, as stacks.
pub record Stored : Type 0 where
  pub logic : Option Logic
  pub sorts : Scoped Name
  pub functions : Scoped FunctionRow
  pub terms : Scoped TermRow
  pub parts : Scoped ℕ
  pub assertions : Scoped ℕ

abbrev pub trees_in : Stored → List Term
trees_in s = trees s.parts.rows s.terms.rows

-- The record that the tables show.
unfoldable pub record_in : Stored → Record
record_in s = record {
  logic = s.logic;
  depth = depth s.sorts;
  sorts = map_deep name_in (deep s.sorts);
  functions = map_deep function_in (deep s.functions);
  assertions = map_deep (tree_at (trees_in s)) (deep s.assertions);
}

-- ## Soundness

-- Each row has its parts among the first p.
abbrev pub Within : ℕ → List TermRow → Type 0
Within p [] = Unit {0}
Within p (r ∷ rs) = (r.first + r.count ≤ p) × Within p rs

-- All numbers are below n.
abbrev pub AllBelow : ℕ → List ℕ → Type 0
AllBelow n [] = Unit {0}
AllBelow n (i ∷ is) = (i < n) × AllBelow n is

-- The first t terms, p parts and a assertions stand by themselves: what they refer to is among them, and the terms are just those of the assertions.
pub record Whole (s : Stored) (t p a : ℕ) : Type 0 where
  pub within : Within p (take t s.terms.rows)
  pub fewer : p ≤ t
  pub low : AllBelow t (take a s.assertions.rows)
  pub sized : t ≡ total (picked (trees_in s) (take a s.assertions.rows))

abbrev pub counts_in : Stored → Counts
counts_in s = record { sorts = length s.sorts.rows; functions = length s.functions.rows; terms = length s.terms.rows; parts = length s.parts.rows; assertions = length s.assertions.rows }

-- Terms and parts behind the counts c are provisional: they belong to a command that is being read.
pub record Provisional (s : Stored) (c : Counts) : Type 0 where
  -- as many levels in each table
  pub depth_functions : depth s.functions ≡ depth s.sorts
  pub depth_terms : depth s.terms ≡ depth s.sorts
  pub depth_parts : depth s.parts ≡ depth s.sorts
  pub depth_assertions : depth s.assertions ≡ depth s.sorts
  -- no provisional row is older than a level
  pub level_terms : (i : ℕ) → i < depth s.terms → slice_index s.terms.levels i ≤ c.terms
  pub level_parts : (i : ℕ) → i < depth s.parts → slice_index s.parts.levels i ≤ c.parts
  -- what stood when each level was opened, and what stands now
  pub levels : (i : ℕ) → i < depth s.sorts → Whole s (slice_index s.terms.levels i) (slice_index s.parts.levels i) (slice_index s.assertions.levels i)
  pub rest : Whole s c.terms c.parts (length s.assertions.rows)
  pub few : c.terms ≤ 1024
  -- the rows behind the counts
  pub terms_more : c.terms ≤ length s.terms.rows
  pub parts_more : c.parts ≤ length s.parts.rows
  pub within : Within (length s.parts.rows) s.terms.rows
  pub sorts_same : c.sorts ≡ length s.sorts.rows
  pub functions_same : c.functions ≡ length s.functions.rows
  pub assertions_same : c.assertions ≡ length s.assertions.rows

-- ## What the operations do

abbrev pub plus : {A : Type 0} → Scoped A → List A → Scoped A
plus s xs = record { rows = s.rows ++ xs; levels = s.levels }

-- The stack with its first k rows.
abbrev pub first : {A : Type 0} → Scoped A → ℕ → Scoped A
first s k = record { rows = take k s.rows; levels = s.levels }

abbrev pub empty : {A : Type 0} → Scoped A
empty = record { rows = []; levels = [] }

abbrev pub empty_store : Stored
empty_store = record { logic = None; sorts = empty; functions = empty; terms = empty; parts = empty; assertions = empty }

abbrev pub store_logic : Stored → Option Logic → Stored
store_logic s l = record { logic = l; sorts = s.sorts; functions = s.functions; terms = s.terms; parts = s.parts; assertions = s.assertions }

abbrev pub store_sort : Stored → Name → Stored
store_sort s n = record { logic = s.logic; sorts = plus s.sorts (n ∷ []); functions = s.functions; terms = s.terms; parts = s.parts; assertions = s.assertions }

abbrev pub store_function : Stored → FunctionRow → Stored
store_function s f = record { logic = s.logic; sorts = s.sorts; functions = plus s.functions (f ∷ []); terms = s.terms; parts = s.parts; assertions = s.assertions }

abbrev pub term_row : Node → ℕ → ℕ → TermRow
term_row n first count = record { node = n; first = first; count = count }

-- A node over parts that stand.
abbrev pub store_node : Stored → Node → List ℕ → Stored
store_node s n is = record {
  logic = s.logic;
  sorts = s.sorts;
  functions = s.functions;
  terms = plus s.terms (term_row n (length s.parts.rows) (length is) ∷ []);
  parts = plus s.parts is;
  assertions = s.assertions;
}

abbrev pub store_assertion : Stored → ℕ → Stored
store_assertion s i = record { logic = s.logic; sorts = s.sorts; functions = s.functions; terms = s.terms; parts = s.parts; assertions = plus s.assertions (i ∷ []) }

-- The rows that there were at these counts.
abbrev pub restored : Stored → Counts → Stored
restored s c = record {
  logic = s.logic;
  sorts = first s.sorts c.sorts;
  functions = first s.functions c.functions;
  terms = first s.terms c.terms;
  parts = first s.parts c.parts;
  assertions = first s.assertions c.assertions;
}

-- One level more, in each table.
abbrev pub leveled : {A : Type 0} → Scoped A → Scoped A
leveled s = record { rows = s.rows; levels = s.levels ++ length s.rows ∷ [] }

abbrev pub store_open : Stored → Stored
store_open s = record { logic = s.logic; sorts = leveled s.sorts; functions = leveled s.functions; terms = leveled s.terms; parts = leveled s.parts; assertions = leveled s.assertions }

-- So many levels less, in each table.
abbrev pub store_close : Stored → ℕ → Stored
store_close s n = record {
  logic = s.logic;
  sorts = (closed s.sorts n).0;
  functions = (closed s.functions n).0;
  terms = (closed s.terms n).0;
  parts = (closed s.parts n).0;
  assertions = (closed s.assertions n).0;
}

-- In each table, no level has more rows than there are, nor than a newer level.
pub record AllLeveled (s : Stored) : Type 0 where
  pub sorts : Leveled s.sorts
  pub functions : Leveled s.functions
  pub terms : Leveled s.terms
  pub parts : Leveled s.parts
  pub assertions : Leveled s.assertions
