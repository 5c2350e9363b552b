-- How tokens and gaps spell a text.
use Rattle.std.specs.Prelude.{◌≡◌, ℕ, ◌+◌, ◌-◌, ◌*◌, ◌<◌, ◌≤◌, true, false, ◌⊎◌, List, [], ◌∷◌, length, take, drop, Some, Ok, Err, Result, ◌≢◌, slice_index, slice_range}
use Rattle.chars.specs.declared.Class.TheVariants.{Digit, Symbol, Stray}
use Rattle.chars.specs.Classes.{is_word, belongs}
use Rattle.chars.specs.Gaps.{Gap, LastGap}
use Rattle.tokens.specs.declared.Kind.{Kind}
use Rattle.tokens.specs.declared.Kind.TheVariants.{Opening, Closing, Name, Keyword, Numeral, Literal}
use Rattle.tokens.specs.declared.Token.{Token}
use Rattle.tokens.specs.declared.TokenFault.{TokenFault}
use Rattle.tokens.specs.declared.TokenFault.TheVariants.{Unexpected, Malformed, TooLong}
use Rattle.tokens.specs.Numbers.{all_digits, decimal_from, number_from, low16}
use Rattle.tokens.specs.Lexing.{bytes_of}

-- Every byte is a symbol character or a digit.
abbrev pub Words : List ℕ → Type 0
Words [] = Unit {0}
Words (b ∷ bs) = (is_word b ≡ true) × Words bs

-- A symbol character, and behind it symbol characters and digits.
abbrev pub Symbolic : List ℕ → Type 0
Symbolic [] = ⊥
Symbolic (b ∷ bs) = (belongs Symbol b ≡ true) × Words (b ∷ bs)

-- The text of a symbol has at most 64 bytes.
abbrev pub SymbolText : List ℕ → Type 0
SymbolText bs = Symbolic bs × (length bs ≤ 64)

-- A colon and a symbol, together at most 64 bytes.
abbrev pub KeywordText : List ℕ → Type 0
KeywordText bs = (rest : List ℕ) × (bs ≡ 58 ∷ rest) × Symbolic rest × (length bs ≤ 64)

-- One or more decimal digits, of which the first is no zero unless it stands alone.
abbrev pub DecimalText : List ℕ → Type 0
DecimalText bs = (0 < length bs) × (all_digits bs ≡ true) × ((bs ≡ 48 ∷ []) ⊎ (slice_index bs 0 ≢ 48))

-- One or more digits of a base that write the number n.
abbrev pub DigitText : ℕ → ℕ → List ℕ → Type 0
DigitText base n ds = (0 < length ds) × (number_from base 0 ds ≡ Some n)

-- `#b` and binary digits, one bit each, or `#x` and hexadecimal digits, four bits each: w bits that write n.
abbrev pub LiteralText : ℕ → ℕ → List ℕ → Type 0
LiteralText w n bs =
    ((ds : List ℕ) × (bs ≡ 35 ∷ 98 ∷ ds) × DigitText 2 n ds × (w ≡ length ds))
    ⊎ ((ds : List ℕ) × (bs ≡ 35 ∷ 120 ∷ ds) × DigitText 16 n ds × (w ≡ 4 * length ds))

-- What the bytes of a token are, by its kind.
abbrev pub Written : Kind → List ℕ → Type 0
Written Opening bs = bs ≡ 40 ∷ []
Written Closing bs = bs ≡ 41 ∷ []
Written Name bs = SymbolText bs
Written Keyword bs = KeywordText bs
Written (Numeral n) bs = DecimalText bs × (decimal_from 0 bs ≡ n) × (n ≤ 65535)
Written (Literal w v) bs = (n : ℕ) × LiteralText w n bs × (v ≡ low16 n)

-- What ends there has run as far as it can: the text ends too, or no symbol character or digit follows.
abbrev pub Runs : List ℕ → ℕ → Type 0
Runs text end = (end ≡ length text) ⊎ (is_word (slice_index text end) ≡ false)

-- A parenthesis is one byte; any other token runs as far as it can.
abbrev pub Whole : Kind → List ℕ → ℕ → Type 0
Whole Opening text end = Unit {0}
Whole Closing text end = Unit {0}
Whole Name text end = Runs text end
Whole Keyword text end = Runs text end
Whole (Numeral n) text end = Runs text end
Whole (Literal w v) text end = Runs text end

-- The token stands in the text.
pub record Stands (text : List ℕ) (t : Token) : Type 0 where
  pub long : t.from < t.end
  pub within : t.end ≤ length text
  pub is : Written t.kind (bytes_of text t)
  pub whole : Whole t.kind text t.end

-- From the place `at` on, gaps and the tokens in turn spell the text.
abbrev pub Spelt : List ℕ → ℕ → List Token → Type 0
Spelt text at [] = LastGap (drop at text)
Spelt text at (t ∷ ts) = (at ≤ t.from) × Gap (take (t.from - at) (drop at text)) × Stands text t × Spelt text t.end ts

-- The same up to the place `end`, where the last of the tokens ends.
abbrev pub SpeltTo : List ℕ → ℕ → List Token → ℕ → Type 0
SpeltTo text at [] end = at ≡ end
SpeltTo text at (t ∷ ts) end = (at ≤ t.from) × Gap (take (t.from - at) (drop at text)) × Stands text t × SpeltTo text t.end ts end

-- The bytes from a place up to another.
abbrev pub part : List ℕ → ℕ → ℕ → List ℕ
part text from end = slice_range text from end

-- The symbol characters and digits from a place on end there.
pub record WordAt (text : List ℕ) (from end : ℕ) : Type 0 where
  pub ordered : from ≤ end
  pub within : end ≤ length text
  pub words : Words (part text from end)
  pub whole : Runs text end

-- No symbol character stands there.
abbrev pub NoSymbol : List ℕ → ℕ → Type 0
NoSymbol text p = (p ≡ length text) ⊎ (belongs Symbol (slice_index text p) ≡ false)

-- The word at p is no numeral.
abbrev pub NoNumeral : List ℕ → ℕ → Type 0
NoNumeral text p =
    (belongs Digit (slice_index text p) ≡ true) × ((end : ℕ) × WordAt text p end × ((n : ℕ) → Written (Numeral n) (part text p end) → ⊥))

-- The `#` at p, with the word behind it, is no literal.
abbrev pub NoLiteral : List ℕ → ℕ → Type 0
NoLiteral text p =
    (slice_index text p ≡ 35) × ((end : ℕ) × WordAt text (p + 1) end × ((w v : ℕ) → Written (Literal w v) (part text p end) → ⊥))

-- The symbol, or the colon and the symbol, at p ends there.
abbrev pub NamedAt : List ℕ → ℕ → ℕ → Type 0
NamedAt text p end =
    ((belongs Symbol (slice_index text p) ≡ true) × WordAt text p end)
    ⊎ ((slice_index text p ≡ 58) × (belongs Symbol (slice_index text (p + 1)) ≡ true) × WordAt text (p + 1) end)

abbrev pub place_of : TokenFault → ℕ
place_of (Unexpected p) = p
place_of (Malformed p) = p
place_of (TooLong p) = p

-- What is wrong at the place of a fault.
abbrev pub Wrong : List ℕ → TokenFault → Type 0
Wrong text (Unexpected p) = (belongs Stray (slice_index text p) ≡ true) ⊎ ((slice_index text p ≡ 58) × NoSymbol text (p + 1))
Wrong text (Malformed p) = NoNumeral text p ⊎ NoLiteral text p
Wrong text (TooLong p) = (end : ℕ) × NamedAt text p end × (64 < end - p)

-- The tokens from `at` on spell the text up to a place, and a gap leads from there to the fault.
pub record Faulty (text : List ℕ) (at : ℕ) (ts : List Token) (f : TokenFault) : Type 0 where
  pub last : ℕ
  pub spelt : SpeltTo text at ts last
  pub ordered : last ≤ place_of f
  pub gap : Gap (take (place_of f - last) (drop last text))
  pub within : place_of f < length text
  pub wrong : Wrong text f

-- The law of the reading: its tokens, with the gaps between them, spell the text, and no others do;
-- its fault stands where the tokens before it leave off, tells what is wrong there, and is the only one.
pub record LexLaw (text : List ℕ) (r : Result (List Token) TokenFault) : Type 0 where
  pub read : (ts : List Token) → r ≡ Ok ts → Spelt text 0 ts
  pub only : (ts : List Token) → Spelt text 0 ts → r ≡ Ok ts
  pub refused : (f : TokenFault) → r ≡ Err f → (ts : List Token) × Faulty text 0 ts f
  pub fault_only : (ts : List Token) (f : TokenFault) → Faulty text 0 ts f → r ≡ Err f
