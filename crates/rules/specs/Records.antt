-- What stands in a session, and what a command text asks of it.
use Rattle.std.specs.Prelude.{ℕ, ◌+◌, ◌-◌, Bool, cond, List, Some, None, Ok, Err, codes, Option, Result, ◌==◌}
use Rattle.words.specs.Words.{same}
use Rattle.tokens.specs.Lexing.{tokens, bytes_of}
use Rattle.forms.specs.declared.Command.{Command}
use Rattle.forms.specs.declared.Command.TheVariants.{SetLogic, DeclareSort, DeclareFun, DeclareConst, Assert, Push, Pop, CheckSat, CheckSatAssuming, GetValue, GetInfo, Reset, Exit, Other}
use Rattle.forms.specs.Forms.{formed}
use Rattle.theory.specs.declared.Logic.{Logic}
use Rattle.theory.specs.declared.Logic.TheVariants.{QfUf, QfBv}
use Rattle.rules.specs.declared.Fault.{Fault}
use Rattle.rules.specs.declared.Fault.TheVariants.{Token, Form}

-- What a command asks of a session.
pub data Request : Type 0 where
  -- a logic, none where the name is unknown, and the name's place
  set_logic : Option Logic → ℕ → Request
  -- a numeral and its place
  push : ℕ → ℕ → Request
  pop : ℕ → ℕ → Request
  -- the reason of the last `unknown`
  reason : Request
  reset : Request
  exit : Request
  -- nothing that the session does
  unsupported : Request

abbrev pub logic_of : List ℕ → Option Logic
logic_of bs = cond (same bs (codes "QF_UF")) (Some QfUf) (cond (same bs (codes "QF_BV")) (Some QfBv) None)

unfoldable pub asks_reason : List ℕ → Bool
asks_reason bs = same bs (codes ":reason-unknown")

abbrev pub info_of : List ℕ → Request
info_of bs = cond (asks_reason bs) reason unsupported

-- Declarations, assertions, checks and values are not built yet.
abbrev pub request_of : List ℕ → Command → Request
request_of text (SetLogic t) = set_logic (logic_of (bytes_of text t)) t.from
request_of text DeclareSort = unsupported
request_of text DeclareFun = unsupported
request_of text DeclareConst = unsupported
request_of text Assert = unsupported
request_of text (Push k p) = push k p
request_of text (Pop k p) = pop k p
request_of text CheckSat = unsupported
request_of text CheckSatAssuming = unsupported
request_of text GetValue = unsupported
request_of text (GetInfo t) = info_of (bytes_of text t)
request_of text Reset = reset
request_of text Exit = exit
request_of text Other = unsupported

-- A fault of a layer below, under that layer's name.
abbrev pub through : {A B E : Type 0} → (E → Fault) → Result A E → (A → Result B Fault) → Result B Fault
through name (Ok a) next = next a
through name (Err e) next = Err (name e)

-- The command that a text is, or the first fault of its tokens or its form.
unfoldable pub reading : List ℕ → Result Command Fault
reading text = through Token (tokens text) (λ ts. through Form (formed text ts) Ok)

-- The record of what stands.
pub record Record : Type 0 where
  pub logic : Option Logic
  pub depth : ℕ

abbrev pub new_record : Record
new_record = record { logic = None; depth = 0 }

-- The record after an accepted request.
abbrev pub obeyed : Record → Request → Record
obeyed r (set_logic l p) = record { logic = l; depth = r.depth }
obeyed r (push k p) = record { logic = r.logic; depth = r.depth + k }
obeyed r (pop k p) = record { logic = r.logic; depth = r.depth - k }
obeyed r reason = r
obeyed r reset = new_record
obeyed r exit = r
obeyed r unsupported = r

-- What a text asks; a text that is no command asks nothing.
abbrev pub asked : List ℕ → Result Command Fault → Request
asked text (Ok c) = request_of text c
asked text (Err f) = unsupported

-- The record is fed a command's text and number, and nothing else.
abbrev pub feed : Record → List ℕ → ℕ → Record
feed r text number = cond (number == 0) (obeyed r (asked text (reading text))) r
