-- The forms, as a machine that reads tokens against a stack of what is expected.
use Rattle.std.specs.Prelude.{ℕ, Bool, true, false, cond, List, [], ◌∷◌, ◌++◌, Some, None, Ok, Err, Option, Result, ◌==◌}
use Rattle.std.specs.Option.{option_map}
use Rattle.words.specs.declared.Word.{Word}
use Rattle.words.specs.declared.Word.TheVariants.{Push, Pop, Assert, CheckSat, DeclareConst, DeclareFun, DeclareSort, CheckSatAssuming, GetValue, GetInfo, SetLogic, Reset, Exit, Underscore, Bang, As, Let, Exists, Forall, Match, Par, Binary, Decimal, Hexadecimal, Numerals, Strings}
use Rattle.grammar.specs.declared.signs.Sign.{Sign}
use Rattle.grammar.specs.declared.signs.Sign.TheVariants.{Open, Close, Reserved, Symbol, BitVec, Not, Key, Number, Constant}
use Rattle.grammar.specs.declared.items.Item.{Item}
use Rattle.grammar.specs.declared.items.Item.TheVariants.{OpenList, CloseList, Command, AName, AKeyword, ANumeral, AZero, ASort, Sorts, ATerm, Terms, Assumptions, AnUnderscore, ABitVec, ANot, Anything}
use Rattle.grammar.specs.declared.items.Misfit.{Misfit}
use Rattle.grammar.specs.declared.items.Misfit.TheVariants.{Wrong, Short}
use Rattle.grammar.specs.Marks.{Mark, sign}

-- What follows the word of each command; a word that is no command's has no form.
abbrev pub form_of : Word → Option (List Item)
form_of SetLogic = Some (AName ∷ CloseList ∷ [])
form_of DeclareSort = Some (AName ∷ AZero ∷ CloseList ∷ [])
form_of DeclareFun = Some (AName ∷ OpenList ∷ Sorts ∷ ASort ∷ CloseList ∷ [])
form_of DeclareConst = Some (AName ∷ ASort ∷ CloseList ∷ [])
form_of Assert = Some (ATerm ∷ CloseList ∷ [])
form_of Push = Some (ANumeral ∷ CloseList ∷ [])
form_of Pop = Some (ANumeral ∷ CloseList ∷ [])
form_of CheckSat = Some (CloseList ∷ [])
form_of CheckSatAssuming = Some (OpenList ∷ Assumptions ∷ CloseList ∷ [])
form_of GetValue = Some (OpenList ∷ ATerm ∷ Terms ∷ CloseList ∷ [])
form_of GetInfo = Some (AKeyword ∷ CloseList ∷ [])
form_of Reset = Some (CloseList ∷ [])
form_of Exit = Some (CloseList ∷ [])
form_of Underscore = None
form_of Bang = None
form_of As = None
form_of Let = None
form_of Exists = None
form_of Forall = None
form_of Match = None
form_of Par = None
form_of Binary = None
form_of Decimal = None
form_of Hexadecimal = None
form_of Numerals = None
form_of Strings = None

abbrev pub is_underscore : Word → Bool
is_underscore SetLogic = false
is_underscore DeclareSort = false
is_underscore DeclareFun = false
is_underscore DeclareConst = false
is_underscore Assert = false
is_underscore Push = false
is_underscore Pop = false
is_underscore CheckSat = false
is_underscore CheckSatAssuming = false
is_underscore GetValue = false
is_underscore GetInfo = false
is_underscore Reset = false
is_underscore Exit = false
is_underscore Underscore = true
is_underscore Bang = false
is_underscore As = false
is_underscore Let = false
is_underscore Exists = false
is_underscore Forall = false
is_underscore Match = false
is_underscore Par = false
is_underscore Binary = false
is_underscore Decimal = false
is_underscore Hexadecimal = false
is_underscore Numerals = false
is_underscore Strings = false

abbrev pub only : Bool → Option (List Item)
only b = cond b (Some []) None

-- `(_ BitVec w)` behind its parenthesis, and then others.
abbrev pub bits : List Item → List Item
bits is = AnUnderscore ∷ ABitVec ∷ ANumeral ∷ CloseList ∷ is

-- What is expected in place of the first item once a token is read; none where the item cannot begin with it.
abbrev pub at_name : Sign → Option (List Item)
at_name Open = None
at_name Close = None
at_name (Reserved w) = None
at_name Symbol = Some []
at_name BitVec = Some []
at_name Not = Some []
at_name Key = None
at_name (Number n) = None
at_name Constant = None

abbrev pub at_open : Sign → Option (List Item)
at_open Open = Some []
at_open Close = None
at_open (Reserved w) = None
at_open Symbol = None
at_open BitVec = None
at_open Not = None
at_open Key = None
at_open (Number n) = None
at_open Constant = None

abbrev pub at_close : Sign → Option (List Item)
at_close Open = None
at_close Close = Some []
at_close (Reserved w) = None
at_close Symbol = None
at_close BitVec = None
at_close Not = None
at_close Key = None
at_close (Number n) = None
at_close Constant = None

-- A command's word brings its form; a list headed by another symbol goes on with anything.
abbrev pub at_command : Sign → Option (List Item)
at_command Open = None
at_command Close = None
at_command (Reserved w) = form_of w
at_command Symbol = Some (Anything ∷ [])
at_command BitVec = Some (Anything ∷ [])
at_command Not = Some (Anything ∷ [])
at_command Key = None
at_command (Number n) = None
at_command Constant = None

abbrev pub at_keyword : Sign → Option (List Item)
at_keyword Open = None
at_keyword Close = None
at_keyword (Reserved w) = None
at_keyword Symbol = None
at_keyword BitVec = None
at_keyword Not = None
at_keyword Key = Some []
at_keyword (Number n) = None
at_keyword Constant = None

abbrev pub at_numeral : Sign → Option (List Item)
at_numeral Open = None
at_numeral Close = None
at_numeral (Reserved w) = None
at_numeral Symbol = None
at_numeral BitVec = None
at_numeral Not = None
at_numeral Key = None
at_numeral (Number n) = Some []
at_numeral Constant = None

abbrev pub at_zero : Sign → Option (List Item)
at_zero Open = None
at_zero Close = None
at_zero (Reserved w) = None
at_zero Symbol = None
at_zero BitVec = None
at_zero Not = None
at_zero Key = None
at_zero (Number n) = only (n == 0)
at_zero Constant = None

abbrev pub at_sort : Sign → Option (List Item)
at_sort Open = Some (bits [])
at_sort Close = None
at_sort (Reserved w) = None
at_sort Symbol = Some []
at_sort BitVec = Some []
at_sort Not = Some []
at_sort Key = None
at_sort (Number n) = None
at_sort Constant = None

-- Any number of sorts, and the closing parenthesis.
abbrev pub at_sorts : Sign → Option (List Item)
at_sorts Open = Some (bits (Sorts ∷ []))
at_sorts Close = Some []
at_sorts (Reserved w) = None
at_sorts Symbol = Some (Sorts ∷ [])
at_sorts BitVec = Some (Sorts ∷ [])
at_sorts Not = Some (Sorts ∷ [])
at_sorts Key = None
at_sorts (Number n) = None
at_sorts Constant = None

-- An application has a symbol as its head, and one part or more.
abbrev pub at_term : Sign → Option (List Item)
at_term Open = Some (AName ∷ ATerm ∷ Terms ∷ [])
at_term Close = None
at_term (Reserved w) = None
at_term Symbol = Some []
at_term BitVec = Some []
at_term Not = Some []
at_term Key = None
at_term (Number n) = None
at_term Constant = Some []

-- Any number of terms, and the closing parenthesis.
abbrev pub at_terms : Sign → Option (List Item)
at_terms Open = Some (AName ∷ ATerm ∷ Terms ∷ Terms ∷ [])
at_terms Close = Some []
at_terms (Reserved w) = None
at_terms Symbol = Some (Terms ∷ [])
at_terms BitVec = Some (Terms ∷ [])
at_terms Not = Some (Terms ∷ [])
at_terms Key = None
at_terms (Number n) = None
at_terms Constant = Some (Terms ∷ [])

-- Any number of assumptions, each a symbol or `(not n)`, and the closing parenthesis.
abbrev pub at_assumptions : Sign → Option (List Item)
at_assumptions Open = Some (ANot ∷ AName ∷ CloseList ∷ Assumptions ∷ [])
at_assumptions Close = Some []
at_assumptions (Reserved w) = None
at_assumptions Symbol = Some (Assumptions ∷ [])
at_assumptions BitVec = Some (Assumptions ∷ [])
at_assumptions Not = Some (Assumptions ∷ [])
at_assumptions Key = None
at_assumptions (Number n) = None
at_assumptions Constant = None

abbrev pub at_underscore : Sign → Option (List Item)
at_underscore Open = None
at_underscore Close = None
at_underscore (Reserved w) = only (is_underscore w)
at_underscore Symbol = None
at_underscore BitVec = None
at_underscore Not = None
at_underscore Key = None
at_underscore (Number n) = None
at_underscore Constant = None

abbrev pub at_bit_vec : Sign → Option (List Item)
at_bit_vec Open = None
at_bit_vec Close = None
at_bit_vec (Reserved w) = None
at_bit_vec Symbol = None
at_bit_vec BitVec = Some []
at_bit_vec Not = None
at_bit_vec Key = None
at_bit_vec (Number n) = None
at_bit_vec Constant = None

abbrev pub at_not : Sign → Option (List Item)
at_not Open = None
at_not Close = None
at_not (Reserved w) = None
at_not Symbol = None
at_not BitVec = None
at_not Not = Some []
at_not Key = None
at_not (Number n) = None
at_not Constant = None

-- Anything up to the closing parenthesis.
abbrev pub at_anything : Sign → Option (List Item)
at_anything Open = Some (Anything ∷ Anything ∷ [])
at_anything Close = Some []
at_anything (Reserved w) = Some (Anything ∷ [])
at_anything Symbol = Some (Anything ∷ [])
at_anything BitVec = Some (Anything ∷ [])
at_anything Not = Some (Anything ∷ [])
at_anything Key = Some (Anything ∷ [])
at_anything (Number n) = Some (Anything ∷ [])
at_anything Constant = Some (Anything ∷ [])

abbrev pub replaced : Item → Sign → Option (List Item)
replaced OpenList s = at_open s
replaced CloseList s = at_close s
replaced Command s = at_command s
replaced AName s = at_name s
replaced AKeyword s = at_keyword s
replaced ANumeral s = at_numeral s
replaced AZero s = at_zero s
replaced ASort s = at_sort s
replaced Sorts s = at_sorts s
replaced ATerm s = at_term s
replaced Terms s = at_terms s
replaced Assumptions s = at_assumptions s
replaced AnUnderscore s = at_underscore s
replaced ABitVec s = at_bit_vec s
replaced ANot s = at_not s
replaced Anything s = at_anything s

-- The same, shut for its users.
unfoldable pub replacement : Item → Sign → Option (List Item)
replacement i s = replaced i s

-- One token: the first item is replaced; where nothing is expected no token fits.
abbrev pub step : List Item → Sign → Option (List Item)
step [] s = None
step (i ∷ stack) s = option_map (λ is. is ++ stack) (replacement i s)

abbrev pub then_run : Option (List Item) → ℕ → (List Item → Result (Unit {0}) Misfit) → Result (Unit {0}) Misfit
then_run None p next = Err (Wrong p)
then_run (Some stack) p next = next stack

abbrev pub at_end : List Item → Result (Unit {0}) Misfit
at_end [] = Ok tt
at_end (i ∷ stack) = Err Short

-- All tokens fit, or which is the first that doesn't, or the tokens end too early.
abbrev pub run : List Item → List Mark → Result (Unit {0}) Misfit
run stack [] = at_end stack
run stack (m ∷ ms) = then_run (step stack (sign m.says)) m.at (λ next. run next ms)

-- Where a text of so many bytes is at fault: at the token that doesn't fit, or at its end where tokens are missing.
abbrev pub place_of : Misfit → ℕ → ℕ
place_of (Wrong p) size = p
place_of Short size = size
