-- Number and place of each fault.
use Rattle.std.specs.Prelude.{ℕ, Ok, Err, Result}
use Rattle.tokens.specs.declared.TokenFault.TheVariants.{Unexpected, Malformed, TooLong}
use Rattle.forms.specs.declared.FormFault.TheVariants.{Unclosed, Nested, Outside}
use Rattle.rules.specs.declared.Said.{Said}
use Rattle.rules.specs.declared.Fault.{Fault}
use Rattle.rules.specs.declared.Fault.TheVariants.{Page, Text, Ended, Token, Form, Mode, Logic, Depth}

abbrev pub number_of : Fault → ℕ
number_of Page = 1
number_of Text = 2
number_of Ended = 3
number_of (Token (Unexpected p)) = 10
number_of (Token (Malformed p)) = 12
number_of (Token (TooLong p)) = 13
number_of (Form (Unclosed p)) = 20
number_of (Form (Nested p)) = 21
number_of (Form (Outside p)) = 22
number_of Mode = 30
number_of (Logic p) = 31
number_of (Depth p) = 32

abbrev pub place_of : Fault → ℕ
place_of Page = 0
place_of Text = 0
place_of Ended = 0
place_of (Token (Unexpected p)) = p
place_of (Token (Malformed p)) = p
place_of (Token (TooLong p)) = p
place_of (Form (Unclosed p)) = p
place_of (Form (Nested p)) = p
place_of (Form (Outside p)) = p
place_of Mode = 0
place_of (Logic p) = p
place_of (Depth p) = p

-- The same of an outcome: 0 and 0 for an accepted command.
abbrev pub number_in : Result Said Fault → ℕ
number_in (Ok w) = 0
number_in (Err f) = number_of f

abbrev pub place_in : Result Said Fault → ℕ
place_in (Ok w) = 0
place_in (Err f) = place_of f
