-- What the session does with a command, test by test.
use Rattle.std.specs.Prelude.{◌≡◌, ℕ, ◌+◌, ◌≤◌, Bool, true, false, cond, List, [], ◌∷◌, ◌++◌, length, take, drop, Some, None, Ok, Err, codes, Option, Result, nat_lt}
use Rattle.page.specs.Pages.{complaint}
use Rattle.forms.specs.declared.Command.{Command}
use Rattle.theory.specs.declared.Logic.{Logic}
use Rattle.rules.specs.declared.Mode.{Mode}
use Rattle.rules.specs.declared.Mode.TheVariants.{Start, Assert, Sat, Unsat}
use Rattle.rules.specs.declared.Fault.{Fault}
use Rattle.rules.specs.declared.Fault.TheVariants as faults
use Rattle.rules.specs.declared.Said.{Said}
use Rattle.rules.specs.declared.Said.TheVariants.{Success, Unsupported}
use Rattle.rules.specs.declared.Reply.{Reply}
use Rattle.rules.specs.Refusals.{number_of, place_of, number_in, place_in}
use Rattle.rules.specs.Records.{Record, new_record, Request, set_logic, push, pop, reason, reset, exit, unsupported, request_of, reading, obeyed}

-- What stands, the mode, and whether an `exit` was accepted.
pub record State : Type 0 where
  pub stands : Record
  pub mode : Mode
  pub ended : Bool

abbrev pub new_state : State
new_state = record { stands = new_record; mode = Start; ended = false }

abbrev pub is_start : Mode → Bool
is_start Start = true
is_start Assert = false
is_start Sat = false
is_start Unsat = false

abbrev pub refused : State → Fault → State × Result Said Fault
refused s f = (s, Err f)

-- An accepted request that leaves mode assert.
abbrev pub changed : State → Request → State × Result Said Fault
changed s q = (record { stands = obeyed s.stands q; mode = Assert; ended = s.ended }, Ok Success)

abbrev pub logic_set : State → Option Logic → ℕ → State × Result Said Fault
logic_set s None p = refused s (faults.Logic p)
logic_set s (Some l) p = changed s (set_logic (Some l) p)

abbrev pub pushed : State → ℕ → ℕ → State × Result Said Fault
pushed s k p = cond (nat_lt 63 (s.stands.depth + k)) (refused s (faults.Depth p)) (changed s (push k p))

abbrev pub popped : State → ℕ → ℕ → State × Result Said Fault
popped s k p = cond (nat_lt s.stands.depth k) (refused s (faults.Depth p)) (changed s (pop k p))

-- A command in form, given in a mode.
abbrev pub executed : State → Request → State × Result Said Fault
executed s (set_logic l p) = cond (is_start s.mode) (logic_set s l p) (refused s faults.Mode)
executed s (push k p) = cond (is_start s.mode) (refused s faults.Mode) (pushed s k p)
executed s (pop k p) = cond (is_start s.mode) (refused s faults.Mode) (popped s k p)
executed s reason = refused s faults.Mode
executed s reset = (new_state, Ok Success)
executed s exit = (record { stands = s.stands; mode = s.mode; ended = true }, Ok Success)
executed s unsupported = (s, Ok Unsupported)

abbrev pub acted_on : State → List ℕ → Result Command Fault → State × Result Said Fault
acted_on s text (Ok c) = executed s (request_of text c)
acted_on s text (Err f) = refused s f

-- A text, on a page that is large enough.
abbrev pub acted : State → List ℕ → State × Result Said Fault
acted s text = cond (nat_lt 4096 (length text)) (refused s faults.Text) (cond s.ended (refused s faults.Ended) (acted_on s text (reading text)))

-- A command as it is given: its text, and how many bytes the page has.
pub record Given : Type 0 where
  pub text : List ℕ
  pub room : ℕ

-- What comes back: number, place, and the bytes that were written.
pub record Answer : Type 0 where
  pub number : ℕ
  pub place : ℕ
  pub bytes : List ℕ

abbrev pub printed : Said → List ℕ
printed Success = codes "success" ++ (10 ∷ [])
printed Unsupported = codes "unsupported" ++ (10 ∷ [])

abbrev pub spoken : Result Said Fault → Answer
spoken (Ok w) = record { number = 0; place = 0; bytes = printed w }
spoken (Err f) = record { number = number_of f; place = place_of f; bytes = complaint (number_of f) (place_of f) }

-- The bytes of an accepted command are its word.
abbrev pub Worded : Result Said Fault → List ℕ → Type 0
Worded (Ok w) bs = bs ≡ printed w
Worded (Err f) bs = Unit {0}

-- The reply has the answer's number and place, by which its fault is told, and its word; the page has its bytes at the front, as many as the reply counts, and keeps what it held behind them.
pub record Replied (a : Answer) (page page' : List ℕ) (r : Reply) : Type 0 where
  pub number : number_in r.outcome ≡ a.number
  pub place : place_in r.outcome ≡ a.place
  pub word : Worded r.outcome a.bytes
  pub count : r.count ≡ length a.bytes
  pub front : take r.count page' ≡ a.bytes
  pub within : r.count ≤ length page
  pub behind : drop r.count page' ≡ drop r.count page
