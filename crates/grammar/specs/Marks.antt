-- What tokens say to the forms.
use Rattle.std.specs.Prelude.{ℕ, cond, List, map, Some, None, codes, Option}
use Rattle.words.specs.declared.Word.{Word}
use Rattle.words.specs.Words.{same, word_of}
use Rattle.tokens.specs.declared.Kind.{Kind}
use Rattle.tokens.specs.declared.Kind.TheVariants.{Opening, Closing, Name, Keyword, Numeral, Literal}
use Rattle.tokens.specs.declared.Token.{Token}
use Rattle.tokens.specs.Lexing.{bytes_of}
use Rattle.grammar.specs.declared.signs.Sign.{Sign}
use Rattle.grammar.specs.declared.signs.Sign.TheVariants.{Open, Close, Reserved, Symbol, BitVec, Not, Key, Number, Constant}

-- A token's content: a parenthesis, a reserved word, a symbol or keyword by its bytes, a number, or a literal's width and value.
pub data Lexeme : Type 0 where
  open_list : Lexeme
  close_list : Lexeme
  word : Word → Lexeme
  symbol : List ℕ → Lexeme
  keyword : List ℕ → Lexeme
  numeral : ℕ → Lexeme
  literal : ℕ → ℕ → Lexeme

-- A token's content and place.
pub record Mark : Type 0 where
  pub says : Lexeme
  pub at : ℕ

abbrev pub mark : Lexeme → ℕ → Mark
mark l p = record { says = l; at = p }

abbrev pub symbol_or : Option Word → List ℕ → Lexeme
symbol_or None bs = symbol bs
symbol_or (Some w) bs = word w

abbrev pub lexeme_of : Kind → List ℕ → Lexeme
lexeme_of Opening bs = open_list
lexeme_of Closing bs = close_list
lexeme_of Name bs = symbol_or (word_of bs) bs
lexeme_of Keyword bs = keyword bs
lexeme_of (Numeral n) bs = numeral n
lexeme_of (Literal w v) bs = literal w v

abbrev pub mark_of : List ℕ → Token → Mark
mark_of text t = mark (lexeme_of t.kind (bytes_of text t)) t.from

abbrev pub marks : List ℕ → List Token → List Mark
marks text ts = map (mark_of text) ts

-- Symbols that a form names.
abbrev pub symbol_sign : List ℕ → Sign
symbol_sign bs = cond (same bs (codes "BitVec")) BitVec (cond (same bs (codes "not")) Not Symbol)

-- What a form sees of a token.
abbrev pub sign : Lexeme → Sign
sign open_list = Open
sign close_list = Close
sign (word w) = Reserved w
sign (symbol bs) = symbol_sign bs
sign (keyword bs) = Key
sign (numeral n) = Number n
sign (literal w v) = Constant
