-- The reserved words: those of the thirteen commands, and some others. None of them stands as a symbol.
use Rattle.std.specs.Prelude.{◌≡◌, ℕ, ◌↔◌, List, [], ◌∷◌, Some, codes, Option}
unfoldable pub use Rattle.words.specs.Spelled.{same}
use Rattle.words.specs.Spelled.{first}
use Rattle.words.specs.declared.Word.{Word}
use Rattle.words.specs.declared.Word.TheVariants.{Push, Pop, Assert, CheckSat, DeclareConst, DeclareFun, DeclareSort, CheckSatAssuming, GetValue, GetInfo, SetLogic, Reset, Exit, Underscore, Bang, As, Let, Exists, Forall, Match, Par, Binary, Decimal, Hexadecimal, Numerals, Strings}

-- How a word is written.
abbrev pub spelling : Word → List ℕ
spelling Push = codes "push"
spelling Pop = codes "pop"
spelling Assert = codes "assert"
spelling CheckSat = codes "check-sat"
spelling DeclareConst = codes "declare-const"
spelling DeclareFun = codes "declare-fun"
spelling DeclareSort = codes "declare-sort"
spelling CheckSatAssuming = codes "check-sat-assuming"
spelling GetValue = codes "get-value"
spelling GetInfo = codes "get-info"
spelling SetLogic = codes "set-logic"
spelling Reset = codes "reset"
spelling Exit = codes "exit"
spelling Underscore = codes "_"
spelling Bang = codes "!"
spelling As = codes "as"
spelling Let = codes "let"
spelling Exists = codes "exists"
spelling Forall = codes "forall"
spelling Match = codes "match"
spelling Par = codes "par"
spelling Binary = codes "BINARY"
spelling Decimal = codes "DECIMAL"
spelling Hexadecimal = codes "HEXADECIMAL"
spelling Numerals = codes "NUMERAL"
spelling Strings = codes "STRING"

abbrev pub all_words : List Word
all_words = Push ∷ Pop ∷ Assert ∷ CheckSat ∷ DeclareConst ∷ DeclareFun ∷ DeclareSort ∷ CheckSatAssuming ∷ GetValue ∷ GetInfo ∷ SetLogic ∷ Reset ∷ Exit ∷ Underscore ∷ Bang ∷ As ∷ Let ∷ Exists ∷ Forall ∷ Match ∷ Par ∷ Binary ∷ Decimal ∷ Hexadecimal ∷ Numerals ∷ Strings ∷ []

-- The reserved word that these bytes are, if any: shut for its users.
unfoldable pub word_of : List ℕ → Option Word
word_of bs = first spelling all_words bs

-- A word is told exactly by its spelling.
abbrev pub Told : List ℕ → Option Word → Type 0
Told bs r = (w : Word) → (r ≡ Some w) ↔ (spelling w ≡ bs)
