-- What reading a form promises, in terms of trees and their spelling.
use Rattle.std.specs.Prelude.{◌≡◌, ℕ, suc, ◌<◌, ◌⊎◌, List, [], ◌∷◌, ◌++◌, length, take, Ok, Err, Result, slice_index_or}
use Rattle.tokens.specs.declared.Kind.TheVariants.{Opening}
use Rattle.tokens.specs.declared.Token.{Token}
use Rattle.tokens.specs.Lexing.{bytes_of}
use Rattle.grammar.specs.Marks.{Mark, mark, open_list, close_list, marks}
use Rattle.forms.specs.declared.Command.{Command}
use Rattle.forms.specs.declared.Command.TheVariants.{SetLogic, DeclareSort, DeclareFun, DeclareConst, Assert, Push, Pop, CheckSat, CheckSatAssuming, GetValue, GetInfo, Reset, Exit, Other}
use Rattle.forms.specs.declared.FormFault.{FormFault}
use Rattle.forms.specs.declared.FormFault.TheVariants.{Unclosed, Nested, Outside}
use Rattle.forms.specs.Syntax.{Name, Tree, command, other, Operands, set_logic, declare_sort, declare_fun, declare_const, assert, push, pop, check_sat, check_sat_assuming, get_value, get_info, reset, exit, Expressions, spell, spell_expressions}
use Rattle.forms.specs.Forms.{no_token, open_behind}

-- The tokens are the spelling of a command.
abbrev pub InForm : List Mark → Type 0
InForm ms = (t : Tree) × (spell t ≡ ms)

-- The tokens are one closed list.
abbrev pub ClosedList : List Mark → Type 0
ClosedList ms = (o c : ℕ) × ((es : Expressions) × (mark open_list o ∷ (spell_expressions es ++ mark close_list c ∷ []) ≡ ms))

-- More tokens can be put behind these so that P holds.
abbrev pub Continued : (List Mark → Type 0) → List Mark → Type 0
Continued P ms = (rest : List Mark) × P (ms ++ rest)

abbrev pub no_mark : Mark
no_mark = mark open_list 0

-- The place p is that of the first token with which the tokens can no longer be continued to P: those before it can.
pub record FirstWrong (P : List Mark → Type 0) (ms : List Mark) (p : ℕ) : Type 0 where
  pub index : ℕ
  pub within : index < length ms
  pub place : p ≡ (slice_index_or ms index no_mark).at
  pub before : Continued P (take index ms)
  pub with_it : Continued P (take (suc index) ms) → ⊥

-- The tokens can be continued to P, but are not P by themselves.
pub record Incomplete (P : List Mark → Type 0) (ms : List Mark) : Type 0 where
  pub before : Continued P ms
  pub alone : P ms → ⊥

-- A token spells a name.
abbrev pub Spells : List ℕ → Name → Token → Type 0
Spells text n t = (n.bytes ≡ bytes_of text t) × (n.at ≡ t.from)

-- The command as the code has it points at the parts of the tree.
abbrev pub PointsAt : List ℕ → Operands → Command → Type 0
PointsAt text (set_logic n) c = (t : Token) × (c ≡ SetLogic t) × Spells text n t
PointsAt text (declare_sort n z) c = c ≡ DeclareSort
PointsAt text (declare_fun n o ss e s) c = c ≡ DeclareFun
PointsAt text (declare_const n s) c = c ≡ DeclareConst
PointsAt text (assert t) c = c ≡ Assert
PointsAt text (push n) c = c ≡ Push n.value n.at
PointsAt text (pop n) c = c ≡ Pop n.value n.at
PointsAt text check_sat c = c ≡ CheckSat
PointsAt text (check_sat_assuming o ls e) c = c ≡ CheckSatAssuming
PointsAt text (get_value o t ts e) c = c ≡ GetValue
PointsAt text (get_info k) c = (t : Token) × (c ≡ GetInfo t) × Spells text k t
PointsAt text reset c = c ≡ Reset
PointsAt text exit c = c ≡ Exit

abbrev pub Points : List ℕ → Tree → Command → Type 0
Points text (command o w x e) c = PointsAt text x c
Points text (other o n es e) c = c ≡ Other

-- How many lists are open behind these tokens, of so many before them.
abbrev pub open_after : ℕ → List Token → ℕ
open_after d [] = d
open_after d (t ∷ ts) = open_after (open_behind t.kind d) ts

-- The place p is that of a parenthesis which opens a list with 64 open around it.
pub record TooDeep (ts : List Token) (p : ℕ) : Type 0 where
  pub index : ℕ
  pub within : index < length ts
  pub place : p ≡ (slice_index_or ts index no_token).from
  pub opens : (slice_index_or ts index no_token).kind ≡ Opening
  pub around : open_after 0 (take index ts) ≡ 64

-- No list is opened with 64 open around it.
abbrev pub Shallow : List Token → Type 0
Shallow ts = (p : ℕ) → TooDeep ts p → ⊥

pub record Reading (text : List ℕ) (ts : List Token) (r : Result Command FormFault) : Type 0 where
  -- The command read is the one whose spelling the tokens are.
  pub accepted : (c : Command) → r ≡ Ok c → (t : Tree) × (spell t ≡ marks text ts) × Points text t c
  -- Each command in form that is not nested too deep is read.
  pub complete : InForm (marks text ts) → Shallow ts → (c : Command) × (r ≡ Ok c)
  -- What isn't one closed list: the first wrong token, or the text's length where tokens are missing.
  pub unclosed : (p : ℕ) → r ≡ Err (Unclosed p) → FirstWrong ClosedList (marks text ts) p ⊎ ((p ≡ length text) × Incomplete ClosedList (marks text ts))
  -- A closed list that is nested deeper than 64.
  pub nested : (p : ℕ) → r ≡ Err (Nested p) → ClosedList (marks text ts) × TooDeep ts p
  -- A closed list that leaves its form: the tokens before the place can be continued to a form, and with the token there they can't.
  pub outside : (p : ℕ) → r ≡ Err (Outside p) → ClosedList (marks text ts) × FirstWrong InForm (marks text ts) p
