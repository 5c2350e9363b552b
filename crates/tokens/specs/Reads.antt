-- What reading at a place of a text gives.
use Rattle.std.specs.Prelude.{◌<◌, ◌≤◌, List, length, Ok, Err, IfOk, Result}
use Rattle.chars.specs.declared.Class.{Class}
use Rattle.tokens.specs.declared.Token.{Token}
use Rattle.tokens.specs.declared.TokenFault.{TokenFault}
use Rattle.tokens.specs.declared.text.Tokens.{Tokens}
use Rattle.tokens.specs.declared.text.Place.{Place}
use Rattle.tokens.specs.Lexing.{lexeme}

-- The token that begins at the place, by the class of its first byte.
abbrev pub lexeme_at : Class → Place → Result Token TokenFault
lexeme_at c p = lexeme c p.text.bytes.now p.from

-- The token ends in the text.
abbrev pub EndsInside : Place → Result Token TokenFault → Type 0
EndsInside p r = IfOk r (λ t. t.end ≤ length p.text.bytes.now)

-- The token ends behind its place, and in the text.
abbrev pub EndsBehind : Place → Result Token TokenFault → Type 0
EndsBehind p r = IfOk r (λ t. (p.from < t.end) × (t.end ≤ length p.text.bytes.now))

-- The tokens that were read, or the fault.
abbrev pub rows_in : Result Tokens TokenFault → Result (List Token) TokenFault
rows_in (Ok ts) = Ok ts.rows.now
rows_in (Err f) = Err f
