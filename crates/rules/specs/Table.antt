-- The refusal table: the answer is that of the first row that applies.
use Rattle.std.specs.Prelude.{ℕ, ◌+◌, Bool, true, false, cond, not, ◌&&◌, ◌||◌, List, [], ◌∷◌, length, Some, None, Ok, Err, Option, Result, ◌==◌, nat_lt}
use Rattle.tokens.specs.declared.TokenFault.TheVariants.{Unexpected, Malformed, TooLong}
use Rattle.forms.specs.declared.FormFault.TheVariants.{Unclosed, Nested, Outside}
use Rattle.forms.specs.declared.Command.{Command}
use Rattle.page.specs.Pages.{complaint}
use Rattle.rules.specs.declared.Mode.{Mode}
use Rattle.rules.specs.declared.Mode.TheVariants.{Start, Assert}
use Rattle.rules.specs.declared.Fault.{Fault}
use Rattle.rules.specs.declared.Fault.TheVariants as faults
use Rattle.rules.specs.declared.Said.TheVariants.{Success, Unsupported}
use Rattle.rules.specs.Records.{Request, set_logic, push, pop, reason, reset, exit, unsupported, reading, asked, feed}
use Rattle.rules.specs.Steps.{State, new_state, is_start, Given, Answer, printed}

-- The rows, in the order in which they are tried.
pub data Row : Type 0 where
  small_page : Row
  long_text : Row
  after_exit : Row
  unexpected_byte : Row
  broken_number : Row
  long_name : Row
  no_closed_list : Row
  nested_too_deep : Row
  outside_the_form : Row
  wrong_mode : Row
  unknown_logic : Row
  wrong_depth : Row

abbrev pub numbered : Row → ℕ
numbered small_page = 1
numbered long_text = 2
numbered after_exit = 3
numbered unexpected_byte = 10
numbered broken_number = 12
numbered long_name = 13
numbered no_closed_list = 20
numbered nested_too_deep = 21
numbered outside_the_form = 22
numbered wrong_mode = 30
numbered unknown_logic = 31
numbered wrong_depth = 32

-- At the text's start where the test holds.
abbrev pub at_start : Bool → Option ℕ
at_start b = cond b (Some 0) None

-- A fault of the row: its place.
abbrev pub at_byte : Result Command Fault → Option ℕ
at_byte (Ok c) = None
at_byte (Err faults.Page) = None
at_byte (Err faults.Text) = None
at_byte (Err faults.Ended) = None
at_byte (Err (faults.Token (Unexpected p))) = Some p
at_byte (Err (faults.Token (Malformed p))) = None
at_byte (Err (faults.Token (TooLong p))) = None
at_byte (Err (faults.Form f)) = None
at_byte (Err faults.Mode) = None
at_byte (Err (faults.Logic p)) = None
at_byte (Err (faults.Depth p)) = None

abbrev pub at_number : Result Command Fault → Option ℕ
at_number (Ok c) = None
at_number (Err faults.Page) = None
at_number (Err faults.Text) = None
at_number (Err faults.Ended) = None
at_number (Err (faults.Token (Unexpected p))) = None
at_number (Err (faults.Token (Malformed p))) = Some p
at_number (Err (faults.Token (TooLong p))) = None
at_number (Err (faults.Form f)) = None
at_number (Err faults.Mode) = None
at_number (Err (faults.Logic p)) = None
at_number (Err (faults.Depth p)) = None

abbrev pub at_name : Result Command Fault → Option ℕ
at_name (Ok c) = None
at_name (Err faults.Page) = None
at_name (Err faults.Text) = None
at_name (Err faults.Ended) = None
at_name (Err (faults.Token (Unexpected p))) = None
at_name (Err (faults.Token (Malformed p))) = None
at_name (Err (faults.Token (TooLong p))) = Some p
at_name (Err (faults.Form f)) = None
at_name (Err faults.Mode) = None
at_name (Err (faults.Logic p)) = None
at_name (Err (faults.Depth p)) = None

abbrev pub at_list : Result Command Fault → Option ℕ
at_list (Ok c) = None
at_list (Err faults.Page) = None
at_list (Err faults.Text) = None
at_list (Err faults.Ended) = None
at_list (Err (faults.Token f)) = None
at_list (Err (faults.Form (Unclosed p))) = Some p
at_list (Err (faults.Form (Nested p))) = None
at_list (Err (faults.Form (Outside p))) = None
at_list (Err faults.Mode) = None
at_list (Err (faults.Logic p)) = None
at_list (Err (faults.Depth p)) = None

abbrev pub at_nesting : Result Command Fault → Option ℕ
at_nesting (Ok c) = None
at_nesting (Err faults.Page) = None
at_nesting (Err faults.Text) = None
at_nesting (Err faults.Ended) = None
at_nesting (Err (faults.Token f)) = None
at_nesting (Err (faults.Form (Unclosed p))) = None
at_nesting (Err (faults.Form (Nested p))) = Some p
at_nesting (Err (faults.Form (Outside p))) = None
at_nesting (Err faults.Mode) = None
at_nesting (Err (faults.Logic p)) = None
at_nesting (Err (faults.Depth p)) = None

abbrev pub at_form : Result Command Fault → Option ℕ
at_form (Ok c) = None
at_form (Err faults.Page) = None
at_form (Err faults.Text) = None
at_form (Err faults.Ended) = None
at_form (Err (faults.Token f)) = None
at_form (Err (faults.Form (Unclosed p))) = None
at_form (Err (faults.Form (Nested p))) = None
at_form (Err (faults.Form (Outside p))) = Some p
at_form (Err faults.Mode) = None
at_form (Err (faults.Logic p)) = None
at_form (Err (faults.Depth p)) = None

-- What the mode doesn't allow: a logic only in start, push and pop not in start, a reason never before the first check.
abbrev pub misplaced : Mode → Request → Bool
misplaced m (set_logic l p) = not (is_start m)
misplaced m (push k p) = is_start m
misplaced m (pop k p) = is_start m
misplaced m reason = true
misplaced m reset = false
misplaced m exit = false
misplaced m unsupported = false

abbrev pub at_logic : Request → Option ℕ
at_logic (set_logic None p) = Some p
at_logic (set_logic (Some l) p) = None
at_logic (push k p) = None
at_logic (pop k p) = None
at_logic reason = None
at_logic reset = None
at_logic exit = None
at_logic unsupported = None

-- A push beyond depth 63, or a pop above the depth.
abbrev pub at_depth : ℕ → Request → Option ℕ
at_depth d (set_logic l p) = None
at_depth d (push k p) = cond (nat_lt 63 (d + k)) (Some p) None
at_depth d (pop k p) = cond (nat_lt d k) (Some p) None
at_depth d reason = None
at_depth d reset = None
at_depth d exit = None
at_depth d unsupported = None

-- The place at which a row refuses a command; none where it doesn't apply.
abbrev pub applies : Row → State → Given → Option ℕ
applies small_page s g = at_start (nat_lt g.room 8192)
applies long_text s g = at_start (nat_lt 4096 (length g.text))
applies after_exit s g = at_start s.ended
applies unexpected_byte s g = at_byte (reading g.text)
applies broken_number s g = at_number (reading g.text)
applies long_name s g = at_name (reading g.text)
applies no_closed_list s g = at_list (reading g.text)
applies nested_too_deep s g = at_nesting (reading g.text)
applies outside_the_form s g = at_form (reading g.text)
applies wrong_mode s g = at_start (misplaced s.mode (asked g.text (reading g.text)))
applies unknown_logic s g = at_logic (asked g.text (reading g.text))
applies wrong_depth s g = at_depth s.stands.depth (asked g.text (reading g.text))

abbrev pub table : List Row
table = small_page ∷ long_text ∷ after_exit ∷ unexpected_byte ∷ broken_number ∷ long_name ∷ no_closed_list ∷ nested_too_deep ∷ outside_the_form ∷ wrong_mode ∷ unknown_logic ∷ wrong_depth ∷ []

abbrev pub or_next : Option ℕ → ℕ → ℕ × ℕ → ℕ × ℕ
or_next None n rest = rest
or_next (Some p) n rest = (n, p)

abbrev pub first : List Row → State → Given → ℕ × ℕ
first [] s g = (0, 0)
first (r ∷ rs) s g = or_next (applies r s g) (numbered r) (first rs s g)

-- Number and place of the answer: of the first row that applies, or 0 and 0.
unfoldable pub refusal : State → Given → ℕ × ℕ
refusal s g = first table s g

-- What an accepted request prints.
abbrev pub word : Request → List ℕ
word (set_logic l p) = printed Success
word (push k p) = printed Success
word (pop k p) = printed Success
word reason = []
word reset = printed Success
word exit = printed Success
word unsupported = printed Unsupported

-- `(error "N P")`, but nothing on a page that is too small.
abbrev pub complained : ℕ × ℕ → List ℕ
complained f = cond (f.0 == 1) [] (complaint f.0 f.1)

abbrev pub response : Given → ℕ × ℕ → List ℕ
response g f = cond (f.0 == 0) (word (asked g.text (reading g.text))) (complained f)

abbrev pub answer : State → Given → Answer
answer s g = record { number = (refusal s g).0; place = (refusal s g).1; bytes = response g (refusal s g) }

-- The mode after an accepted request.
abbrev pub turned : Mode → Request → Mode
turned m (set_logic l p) = Assert
turned m (push k p) = Assert
turned m (pop k p) = Assert
turned m reason = m
turned m reset = Start
turned m exit = m
turned m unsupported = m

abbrev pub is_exit : Request → Bool
is_exit (set_logic l p) = false
is_exit (push k p) = false
is_exit (pop k p) = false
is_exit reason = false
is_exit reset = false
is_exit exit = true
is_exit unsupported = false

-- The situation after a command, told by its text and its number alone.
abbrev pub learn : State → List ℕ → ℕ → State
learn s text number = record {
  stands = feed s.stands text number;
  mode = cond (number == 0) (turned s.mode (asked text (reading text))) s.mode;
  ended = s.ended || (number == 0 && is_exit (asked text (reading text)));
}

abbrev pub step : State → Given → State
step s g = learn s g.text (answer s g).number

abbrev pub run : State → List Given → State
run s [] = s
run s (g ∷ gs) = run (step s g) gs

-- What a session answers to a command after the earlier ones, oldest first.
abbrev pub session : List Given → Given → Answer
session earlier g = answer (run new_state earlier) g
