-- The tree of the tokens of `(assert (= a #b01))`.
use Rattle.std.proofs.Common.{◌≡◌, ℕ, List, [], ◌∷◌, codes, refl}
use Rattle.words.specs.Words as words
use Rattle.tokens.specs.declared.Kind.TheVariants.{Opening, Closing, Name, Literal}
use Rattle.tokens.specs.declared.Token.{Token}
use Rattle.tokens.specs.Lexing.{token}
use Rattle.grammar.specs.Marks.{marks}
use Rattle.forms.specs.Syntax.{command, assert, apply, term_symbol, constant, no_terms, more_terms}
use Rattle.forms.specs.Trees.{tree_of}

abbrev text : List ℕ
text = codes "(assert (= a #b01))"

abbrev tokens : List Token
tokens =
    token Opening 0 1
    ∷ token Name 1 7
    ∷ token Opening 8 9
    ∷ token Name 9 10
    ∷ token Name 11 12
    ∷ token (Literal 2 1) 13 17
    ∷ token Closing 17 18
    ∷ token Closing 18 19
    ∷ []

pub example_tree : tree_of (marks text tokens)
    ≡ command 0 1
    (assert (apply 8 (record { bytes = codes "="; at = 9 }) (term_symbol (record { bytes = codes "a"; at = 11 })) (more_terms (constant 2 1 13) no_terms) 17))
    18
unfolding words.same words.word_of
example_tree = refl
