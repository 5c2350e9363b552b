-- The syntax of commands, as trees; each node keeps the places of its tokens. `spell` writes a tree's tokens down again.
use Rattle.std.specs.Prelude.{ℕ, List, [], ◌∷◌, ◌++◌, codes}
use Rattle.words.specs.declared.Word.{Word}
use Rattle.words.specs.declared.Word.TheVariants as words
use Rattle.grammar.specs.Marks.{Mark, mark, Lexeme, open_list, close_list, word, symbol, keyword, numeral, literal}

-- An unreserved symbol or a keyword, and its place.
pub record Name : Type 0 where
  pub bytes : List ℕ
  pub at : ℕ

-- A numeral's value, and its place.
pub record Number : Type 0 where
  pub value : ℕ
  pub at : ℕ

-- A symbol, or `(_ BitVec w)` by the places of `(`, `_` and `BitVec`, its width, and the place of `)`.
pub data SortName : Type 0 where
  sort_symbol : Name → SortName
  bit_vectors : ℕ → ℕ → ℕ → Number → ℕ → SortName

-- A symbol; a literal's width, value and place; or an application by the place of `(`, its head, its first part, the other parts, and the place of `)`.
mutual
  pub data Term : Type 0 where
    term_symbol : Name → Term
    constant : ℕ → ℕ → ℕ → Term
    apply : ℕ → Name → Term → Terms → ℕ → Term

  pub data Terms : Type 0 where
    no_terms : Terms
    more_terms : Term → Terms → Terms

-- A symbol, or `(not n)` by the places of `(` and `not`, the symbol, and the place of `)`.
pub data Assumption : Type 0 where
  plain : Name → Assumption
  negated : ℕ → ℕ → Name → ℕ → Assumption

-- A token that is no parenthesis.
pub data Atom : Type 0 where
  atom_word : Word → Atom
  atom_symbol : List ℕ → Atom
  atom_keyword : List ℕ → Atom
  atom_numeral : ℕ → Atom
  atom_literal : ℕ → ℕ → Atom

-- Any tokens with balanced parentheses.
mutual
  pub data Expression : Type 0 where
    atom : Atom → ℕ → Expression
    list : ℕ → Expressions → ℕ → Expression

  pub data Expressions : Type 0 where
    no_more : Expressions
    more : Expression → Expressions → Expressions

-- What stands behind a command's word.
pub data Operands : Type 0 where
  set_logic : Name → Operands
  declare_sort : Name → ℕ → Operands
  declare_fun : Name → ℕ → List SortName → ℕ → SortName → Operands
  declare_const : Name → SortName → Operands
  assert : Term → Operands
  push : Number → Operands
  pop : Number → Operands
  check_sat : Operands
  check_sat_assuming : ℕ → List Assumption → ℕ → Operands
  get_value : ℕ → Term → Terms → ℕ → Operands
  get_info : Name → Operands
  reset : Operands
  exit : Operands

-- A command of the thirteen, by the places of `(` and its word, its operands, and the place of `)`; or a list headed by another symbol.
pub data Tree : Type 0 where
  command : ℕ → ℕ → Operands → ℕ → Tree
  other : ℕ → Name → Expressions → ℕ → Tree

abbrev pub word_of_form : Operands → Word
word_of_form (set_logic n) = words.SetLogic
word_of_form (declare_sort n z) = words.DeclareSort
word_of_form (declare_fun n o ss c s) = words.DeclareFun
word_of_form (declare_const n s) = words.DeclareConst
word_of_form (assert t) = words.Assert
word_of_form (push n) = words.Push
word_of_form (pop n) = words.Pop
word_of_form check_sat = words.CheckSat
word_of_form (check_sat_assuming o ls c) = words.CheckSatAssuming
word_of_form (get_value o t ts c) = words.GetValue
word_of_form (get_info k) = words.GetInfo
word_of_form reset = words.Reset
word_of_form exit = words.Exit

abbrev pub symbol_mark : Name → Mark
symbol_mark n = mark (symbol n.bytes) n.at

abbrev pub numeral_mark : Number → Mark
numeral_mark n = mark (numeral n.value) n.at

abbrev pub spell_sort : SortName → List Mark
spell_sort (sort_symbol n) = symbol_mark n ∷ []
spell_sort (bit_vectors o u b w c) = mark open_list o ∷ mark (word words.Underscore) u ∷ mark (symbol (codes "BitVec")) b ∷ numeral_mark w ∷ mark close_list c ∷ []

abbrev pub spell_sorts : List SortName → List Mark
spell_sorts [] = []
spell_sorts (s ∷ ss) = spell_sort s ++ spell_sorts ss

abbrev mutual
  pub spell_term : Term → List Mark
  spell_term (term_symbol n) = symbol_mark n ∷ []
  spell_term (constant w v p) = mark (literal w v) p ∷ []
  spell_term (apply o f t ts c) = mark open_list o ∷ symbol_mark f ∷ (spell_term t ++ (spell_terms ts ++ mark close_list c ∷ []))

  pub spell_terms : Terms → List Mark
  spell_terms no_terms = []
  spell_terms (more_terms t ts) = spell_term t ++ spell_terms ts

abbrev pub spell_assumption : Assumption → List Mark
spell_assumption (plain n) = symbol_mark n ∷ []
spell_assumption (negated o p n c) = mark open_list o ∷ mark (symbol (codes "not")) p ∷ symbol_mark n ∷ mark close_list c ∷ []

abbrev pub spell_assumptions : List Assumption → List Mark
spell_assumptions [] = []
spell_assumptions (l ∷ ls) = spell_assumption l ++ spell_assumptions ls

abbrev pub spell_atom : Atom → Lexeme
spell_atom (atom_word w) = word w
spell_atom (atom_symbol bs) = symbol bs
spell_atom (atom_keyword bs) = keyword bs
spell_atom (atom_numeral n) = numeral n
spell_atom (atom_literal w v) = literal w v

abbrev mutual
  pub spell_expression : Expression → List Mark
  spell_expression (atom a p) = mark (spell_atom a) p ∷ []
  spell_expression (list o es c) = mark open_list o ∷ (spell_expressions es ++ mark close_list c ∷ [])

  pub spell_expressions : Expressions → List Mark
  spell_expressions no_more = []
  spell_expressions (more e es) = spell_expression e ++ spell_expressions es

abbrev pub spell_operands : Operands → List Mark
spell_operands (set_logic n) = symbol_mark n ∷ []
spell_operands (declare_sort n z) = symbol_mark n ∷ mark (numeral 0) z ∷ []
spell_operands (declare_fun n o ss c s) = symbol_mark n ∷ mark open_list o ∷ (spell_sorts ss ++ (mark close_list c ∷ spell_sort s))
spell_operands (declare_const n s) = symbol_mark n ∷ spell_sort s
spell_operands (assert t) = spell_term t
spell_operands (push n) = numeral_mark n ∷ []
spell_operands (pop n) = numeral_mark n ∷ []
spell_operands check_sat = []
spell_operands (check_sat_assuming o ls c) = mark open_list o ∷ (spell_assumptions ls ++ mark close_list c ∷ [])
spell_operands (get_value o t ts c) = mark open_list o ∷ (spell_term t ++ (spell_terms ts ++ mark close_list c ∷ []))
spell_operands (get_info k) = mark (keyword k.bytes) k.at ∷ []
spell_operands reset = []
spell_operands exit = []

abbrev pub spell : Tree → List Mark
spell (command o w x c) = mark open_list o ∷ mark (word (word_of_form x)) w ∷ (spell_operands x ++ mark close_list c ∷ [])
spell (other o n es c) = mark open_list o ∷ symbol_mark n ∷ (spell_expressions es ++ mark close_list c ∷ [])
