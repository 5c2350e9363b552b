-- The state that a session's memory shows.
use Rattle.std.specs.Prelude.{ℕ, List, length}
use Rattle.session.specs.declared.store.Session.{Session}
use Rattle.rules.specs.Steps.{State, Given}

abbrev pub view : Session → State
view s = record { stands = record { logic = s.logic; depth = s.depth }; mode = s.mode; ended = s.ended }

-- A command text and a page, as they are given.
abbrev pub given : List ℕ → List ℕ → Given
given text page = record { text = text; room = length page }
