-- What is read of the tokens of a text: a command, or the first fault of its form.
use Rattle.std.specs.Prelude.{ℕ, ◌+◌, ◌-◌, Bool, true, false, cond, ◌&&◌, List, [], ◌∷◌, length, Some, None, Ok, Err, Option, Result, ◌==◌, slice_index_or}
use Rattle.words.specs.declared.Word.{Word}
use Rattle.words.specs.declared.Word.TheVariants as words
use Rattle.tokens.specs.declared.Kind.{Kind}
use Rattle.tokens.specs.declared.Kind.TheVariants.{Opening, Closing, Name, Keyword, Numeral, Literal}
use Rattle.tokens.specs.declared.Token.{Token}
use Rattle.tokens.specs.Lexing.{token, bytes_of}
use Rattle.grammar.specs.declared.signs.Sign.{Sign}
use Rattle.grammar.specs.declared.signs.Sign.TheVariants.{Open, Close, Reserved, Symbol, BitVec, Not, Key, Number, Constant}
use Rattle.grammar.specs.declared.items.Item.TheVariants as items
use Rattle.grammar.specs.declared.items.Misfit.{Misfit}
use Rattle.grammar.specs.declared.items.Misfit.TheVariants.{Wrong, Short}
use Rattle.grammar.specs.Marks.{marks, sign, lexeme_of}
use Rattle.grammar.specs.Machine.{run, place_of}
use Rattle.forms.specs.declared.Command.{Command}
use Rattle.forms.specs.declared.Command.TheVariants.{SetLogic, DeclareSort, DeclareFun, DeclareConst, Assert, Push, Pop, CheckSat, CheckSatAssuming, GetValue, GetInfo, Reset, Exit, Other}
use Rattle.forms.specs.declared.FormFault.{FormFault}
use Rattle.forms.specs.declared.FormFault.TheVariants.{Unclosed, Nested, Outside}

abbrev pub is_opening : Kind → Bool
is_opening Opening = true
is_opening Closing = false
is_opening Name = false
is_opening Keyword = false
is_opening (Numeral n) = false
is_opening (Literal w v) = false

-- How many lists are open behind a token, of so many before it.
abbrev pub open_behind : Kind → ℕ → ℕ
open_behind Opening d = d + 1
open_behind Closing d = d - 1
open_behind Name d = d
open_behind Keyword d = d
open_behind (Numeral n) d = d
open_behind (Literal w v) d = d

-- The tokens close the lists that are open, so many, with the last of them.
abbrev pub closing : ℕ → List Token → Result (Unit {0}) Misfit
closing d [] = cond (d == 0) (Ok tt) (Err Short)
closing d (t ∷ ts) = cond (d == 0) (Err (Wrong t.from)) (closing (open_behind t.kind d) ts)

-- The tokens are one closed list.
abbrev pub closed_list : List Token → Result (Unit {0}) Misfit
closed_list [] = Err Short
closed_list (t ∷ ts) = cond (is_opening t.kind) (closing 1 ts) (Err (Wrong t.from))

-- The first parenthesis that opens a list inside 64 others; so many are open at the front.
abbrev pub deepest : ℕ → List Token → Option ℕ
deepest d [] = None
deepest d (t ∷ ts) = cond (is_opening t.kind && d == 64) (Some t.from) (deepest (open_behind t.kind d) ts)

abbrev pub number_of : Kind → ℕ
number_of Opening = 0
number_of Closing = 0
number_of Name = 0
number_of Keyword = 0
number_of (Numeral n) = n
number_of (Literal w v) = 0

-- The command of a word, whose operand is the third token.
abbrev pub word_command : Word → Token → Command
word_command words.SetLogic t = SetLogic t
word_command words.DeclareSort t = DeclareSort
word_command words.DeclareFun t = DeclareFun
word_command words.DeclareConst t = DeclareConst
word_command words.Assert t = Assert
word_command words.Push t = Push (number_of t.kind) t.from
word_command words.Pop t = Pop (number_of t.kind) t.from
word_command words.CheckSat t = CheckSat
word_command words.CheckSatAssuming t = CheckSatAssuming
word_command words.GetValue t = GetValue
word_command words.GetInfo t = GetInfo t
word_command words.Reset t = Reset
word_command words.Exit t = Exit
word_command words.Underscore t = Other
word_command words.Bang t = Other
word_command words.As t = Other
word_command words.Let t = Other
word_command words.Exists t = Other
word_command words.Forall t = Other
word_command words.Match t = Other
word_command words.Par t = Other
word_command words.Binary t = Other
word_command words.Decimal t = Other
word_command words.Hexadecimal t = Other
word_command words.Numerals t = Other
word_command words.Strings t = Other

abbrev pub headed : Sign → Token → Command
headed Open t = Other
headed Close t = Other
headed (Reserved w) t = word_command w t
headed Symbol t = Other
headed BitVec t = Other
headed Not t = Other
headed Key t = Other
headed (Number n) t = Other
headed Constant t = Other

abbrev pub no_token : Token
no_token = token Opening 0 0

abbrev pub sign_in : List ℕ → Token → Sign
sign_in text t = sign (lexeme_of t.kind (bytes_of text t))

-- The command whose word is the second token and whose operand is the third.
abbrev pub command_of : List ℕ → List Token → Command
command_of text ts = headed (sign_in text (slice_index_or ts 1 no_token)) (slice_index_or ts 2 no_token)

abbrev pub then : {A B E : Type 0} → Result A E → (A → Result B E) → Result B E
then (Ok a) next = next a
then (Err e) next = Err e

-- A fault where the tokens miss the form, in a text of so many bytes.
abbrev pub judged : Result (Unit {0}) Misfit → (ℕ → FormFault) → ℕ → Result (Unit {0}) FormFault
judged (Ok u) fault size = Ok tt
judged (Err m) fault size = Err (fault (place_of m size))

abbrev pub shallow : Option ℕ → Result (Unit {0}) FormFault
shallow None = Ok tt
shallow (Some p) = Err (Nested p)

-- Whether the tokens are a command.
abbrev pub fitted : List ℕ → List Token → Result (Unit {0}) Misfit
fitted text ts = run (items.OpenList ∷ items.Command ∷ []) (marks text ts)

-- One closed list first, then the nesting, then the form.
abbrev pub formed : List ℕ → List Token → Result Command FormFault
formed text ts =
    then (judged (closed_list ts) Unclosed (length text)) (λ _.
    then (shallow (deepest 0 ts)) (λ _.
    then (judged (fitted text ts) Outside (length text)) (λ _.
    Ok (command_of text ts))))
