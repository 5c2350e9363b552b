-- The sorts of a declaration read token by token: those of the arguments, a closing parenthesis, and the result's.
use Rattle.std.specs.Prelude.{ℕ, List, [], ◌∷◌, ◌++◌, length, Some, None, Ok, Option, Result}
use Rattle.words.specs.Words.{spelling}
use Rattle.grammar.specs.Marks.{Mark, Lexeme, open_list, close_list, word, symbol, keyword, numeral, literal}
use Rattle.theory.specs.declared.Sort.{Sort}
use Rattle.terms.specs.declared.SortFault.{SortFault}
use Rattle.terms.specs.Scoping.{Scope, sort_named}
use Rattle.terms.specs.Sorting.{after, found, bits_at, argument_at}

-- The sorts so far; the place of a `(_ BitVec` that is still open; and how many sorts are arguments, once their list was closed.
pub record Listed : Type 0 where
  pub sorts : List Sort
  pub bits : Option ℕ
  pub arity : Option ℕ

abbrev pub listed : List Sort → Option ℕ → Option ℕ → Listed
listed ss b a = record { sorts = ss; bits = b; arity = a }

-- An argument is not Bool; the result may be.
abbrev pub checked : Option ℕ → ℕ → Sort → Result Sort SortFault
checked None p k = argument_at p k
checked (Some n) p k = Ok k

-- One sort more.
abbrev pub added : Listed → ℕ → Sort → Result Listed SortFault
added s p k = after (checked s.arity p k) (λ x. Ok (listed (s.sorts ++ (x ∷ [])) s.bits s.arity))

abbrev pub named : Scope → Listed → Option ℕ → List ℕ → ℕ → Result Listed SortFault
named σ s None bs p = after (found (sort_named σ bs) p) (added s p)
named σ s (Some o) bs p = Ok s

abbrev pub counted : Scope → Listed → Option ℕ → ℕ → Result Listed SortFault
counted σ s None w = Ok s
counted σ s (Some o) w = after (bits_at σ.logic w o) (added s o)

abbrev pub ended : Listed → Option ℕ → Listed
ended s None = listed s.sorts None (Some (length s.sorts))
ended s (Some n) = s

abbrev pub closed : Listed → Option ℕ → Listed
closed s None = ended s s.arity
closed s (Some o) = listed s.sorts None s.arity

abbrev pub says : Scope → Listed → Lexeme → ℕ → Result Listed SortFault
says σ s open_list p = Ok (listed s.sorts (Some p) s.arity)
says σ s close_list p = Ok (closed s s.bits)
says σ s (word w) p = named σ s s.bits (spelling w) p
says σ s (symbol bs) p = named σ s s.bits bs p
says σ s (keyword bs) p = Ok s
says σ s (numeral n) p = counted σ s s.bits n
says σ s (literal w v) p = Ok s

-- One token.
abbrev pub stepped : Scope → Listed → Mark → Result Listed SortFault
stepped σ s m = says σ s m.says m.at

-- All tokens, or the first fault.
abbrev pub read : Scope → Listed → List Mark → Result Listed SortFault
read σ s [] = Ok s
read σ s (m ∷ ms) = after (stepped σ s m) (λ t. read σ t ms)
