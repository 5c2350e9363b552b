-- What the tables of a session show.
use Rattle.std.specs.Prelude.{List}
use Rattle.scopes.specs.Tables as scopes
use Rattle.tables.specs.declared.rows.Counts.{Counts}
use Rattle.tables.specs.declared.store.Tables.{Tables}
use Rattle.terms.specs.Terms.{Term}
use Rattle.terms.specs.Records.{Record}
use Rattle.tables.specs.Stores.{Stored, record_in, trees_in, counts_in, Provisional}

abbrev pub stored_in : Tables → Stored
stored_in t = record { logic = t.logic; sorts = scopes.shown t.sorts; functions = scopes.shown t.functions; terms = scopes.shown t.terms; parts = scopes.shown t.parts; assertions = scopes.shown t.assertions }

abbrev pub record_of : Tables → Record
record_of t = record_in (stored_in t)

-- The trees of all rows, provisional ones too.
abbrev pub trees_of : Tables → List Term
trees_of t = trees_in (stored_in t)

-- Each table is sound.
pub record Tidy (t : Tables) : Type 0 where
  pub sorts : scopes.Tidy t.sorts
  pub functions : scopes.Tidy t.functions
  pub terms : scopes.Tidy t.terms
  pub parts : scopes.Tidy t.parts
  pub assertions : scopes.Tidy t.assertions

-- A command is being read, and the tables had these counts before it.
pub record Reading (t : Tables) (c : Counts) : Type 0 where
  pub tidy : Tidy t
  pub sound : Provisional (stored_in t) c

-- No command is being read.
abbrev pub AtRest : Tables → Type 0
AtRest t = Reading t (counts_in (stored_in t))
