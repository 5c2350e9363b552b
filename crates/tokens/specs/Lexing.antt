-- The tokens of a text.
use Rattle.std.specs.Prelude.{◌≡◌, ℕ, zero, suc, ◌+◌, ◌-◌, Bool, true, false, cond, ◌&&◌, List, [], ◌∷◌, ◌++◌, length, take, drop, Some, None, Ok, Err, Option, Result, nat_le, nat_lt, slice_index}
use Rattle.chars.specs.declared.Class.{Class}
use Rattle.chars.specs.declared.Class.TheVariants.{Blank, Open, Close, Semicolon, Hash, Colon, Digit, Symbol, Stray}
use Rattle.chars.specs.Classes.{class_of}
use Rattle.chars.specs.Runs.{gap, run}
use Rattle.tokens.specs.declared.Kind.{Kind}
use Rattle.tokens.specs.declared.Kind.TheVariants.{Opening, Closing, Name, Keyword, Numeral, Literal}
use Rattle.tokens.specs.declared.Token.{Token}
use Rattle.tokens.specs.declared.TokenFault.{TokenFault}
use Rattle.tokens.specs.declared.TokenFault.TheVariants.{Unexpected, Malformed, TooLong}
use Rattle.tokens.specs.Numbers.{numeral, literal}

abbrev pub token : Kind → ℕ → ℕ → Token
token k from end = record { kind = k; from = from; end = end }

-- A symbol or keyword of n bytes at the place p, of at most 64 bytes.
abbrev pub named : Kind → ℕ → ℕ → Result Token TokenFault
named k n p = cond (nat_le n 64) (Ok (token k p (p + n))) (Err (TooLong p))

abbrev pub starts_symbol : Class → Bool
starts_symbol Blank = false
starts_symbol Open = false
starts_symbol Close = false
starts_symbol Semicolon = false
starts_symbol Hash = false
starts_symbol Colon = false
starts_symbol Digit = false
starts_symbol Symbol = true
starts_symbol Stray = false

-- A keyword's symbol stands behind its colon.
abbrev pub keyed : List ℕ → ℕ → Result Token TokenFault
keyed text p = cond (nat_lt (p + 1) (length text) && starts_symbol (class_of (slice_index text (p + 1)))) (named Keyword (1 + run (drop (p + 1) text)) p) (Err (Unexpected p))

abbrev pub counted : Option ℕ → ℕ → ℕ → Result Token TokenFault
counted None n p = Err (Malformed p)
counted (Some v) n p = Ok (token (Numeral v) p (p + n))

abbrev pub written : Option (ℕ × ℕ) → ℕ → ℕ → Result Token TokenFault
written None n p = Err (Malformed p)
written (Some v) n p = Ok (token (Literal v.0 v.1) p (p + n))

-- The token that begins at the place p of the text, by the class of its first byte.
abbrev pub lexeme : Class → List ℕ → ℕ → Result Token TokenFault
lexeme Blank text p = Err (Unexpected p)
lexeme Open text p = Ok (token Opening p (p + 1))
lexeme Close text p = Ok (token Closing p (p + 1))
lexeme Semicolon text p = Err (Unexpected p)
lexeme Hash text p = written (literal (take (1 + run (drop (p + 1) text)) (drop p text))) (1 + run (drop (p + 1) text)) p
lexeme Colon text p = keyed text p
lexeme Digit text p = counted (numeral (take (run (drop p text)) (drop p text))) (run (drop p text)) p
lexeme Symbol text p = named Name (run (drop p text)) p
lexeme Stray text p = Err (Unexpected p)

abbrev pub some : Result Token TokenFault → Result (Option Token) TokenFault
some (Ok t) = Ok (Some t)
some (Err e) = Err e

-- The token at the place p, if the text goes as far.
abbrev pub token_at : List ℕ → ℕ → Result (Option Token) TokenFault
token_at text p = cond (nat_lt p (length text)) (some (lexeme (class_of (slice_index text p)) text p)) (Ok None)

-- The next token at or behind a place.
abbrev pub next : List ℕ → ℕ → Result (Option Token) TokenFault
next text at = token_at text (at + gap false (drop at text))

-- A token, and then others.
abbrev pub before : List Token → Result (List Token) TokenFault → Result (List Token) TokenFault
before ts (Ok us) = Ok (ts ++ us)
before ts (Err e) = Err e

abbrev pub onto : Result (Option Token) TokenFault → (Token → Result (List Token) TokenFault) → Result (List Token) TokenFault
onto (Ok None) rest = Ok []
onto (Ok (Some t)) rest = before (t ∷ []) (rest t)
onto (Err e) rest = Err e

-- The tokens from a place on, at most so many.
unfoldable pub tokens_from : ℕ → List ℕ → ℕ → Result (List Token) TokenFault
tokens_from zero text at = Ok []
tokens_from (suc most) text at = onto (next text at) (λ t. tokens_from most text t.end)

-- The tokens of a text, of which there are no more than bytes; or the first fault.
abbrev pub tokens : List ℕ → Result (List Token) TokenFault
tokens text = tokens_from (length text) text 0

-- The table's first rows are the tokens, as many as is answered; or the fault is answered.
abbrev pub Rows : Result (List Token) TokenFault → List Token → Result ℕ TokenFault → Type 0
Rows (Ok ts) table r = (r ≡ Ok (length ts)) × (take (length ts) table ≡ ts)
Rows (Err e) table r = r ≡ Err e

-- The bytes of a token.
abbrev pub bytes_of : List ℕ → Token → List ℕ
bytes_of text t = take (t.end - t.from) (drop t.from text)
