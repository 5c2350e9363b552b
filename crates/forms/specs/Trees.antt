-- The tree of a command as a function of its tokens. It is the inverse of spelling; for other tokens it is some tree, of which nothing is said.
use Rattle.std.specs.Prelude.{ℕ, List, [], ◌∷◌}
use Rattle.words.specs.declared.Word.{Word}
use Rattle.words.specs.declared.Word.TheVariants as words
use Rattle.grammar.specs.Marks.{Mark, Lexeme, open_list, close_list, word, symbol, keyword, numeral, literal}
use Rattle.forms.specs.Syntax.{Name, Number, SortName, sort_symbol, bit_vectors, Term, term_symbol, constant, apply, Terms, no_terms, more_terms, Assumption, plain, negated, Atom, atom_word, atom_symbol, atom_keyword, atom_numeral, atom_literal, Expression, atom, list, Expressions, no_more, more, Operands, set_logic, declare_sort, declare_fun, declare_const, assert, push, pop, check_sat, check_sat_assuming, get_value, get_info, reset, exit, Tree, command, other}

-- Tokens are read from the last back to the first. A level is what was read of a list that is still open to the left: its expressions so far, and the place of its closing parenthesis.
pub record Level : Type 0 where
  pub inside : Expressions
  pub closed : ℕ

-- An expression in front of those of the first level.
abbrev pub put : Expression → List Level → List Level
put e [] = []
put e (l ∷ ls) = record { inside = more e l.inside; closed = l.closed } ∷ ls

-- The first level is a whole list: it goes to the next level.
abbrev pub opened : ℕ → List Level → List Level
opened o [] = []
opened o (l ∷ ls) = put (list o l.inside l.closed) ls

abbrev pub empty_level : ℕ → Level
empty_level c = record { inside = no_more; closed = c }

abbrev pub onto_at : Lexeme → ℕ → List Level → List Level
onto_at open_list p ls = opened p ls
onto_at close_list p ls = empty_level p ∷ ls
onto_at (word w) p ls = put (atom (atom_word w) p) ls
onto_at (symbol bs) p ls = put (atom (atom_symbol bs) p) ls
onto_at (keyword bs) p ls = put (atom (atom_keyword bs) p) ls
onto_at (numeral n) p ls = put (atom (atom_numeral n) p) ls
onto_at (literal w v) p ls = put (atom (atom_literal w v) p) ls

-- One token in front of what was read.
abbrev pub onto : Mark → List Level → List Level
onto m ls = onto_at m.says m.at ls

abbrev pub onto_all : List Mark → List Level → List Level
onto_all [] ls = ls
onto_all (m ∷ ms) ls = onto m (onto_all ms ls)

abbrev pub levels : List Mark → List Level
levels ms = onto_all ms (empty_level 0 ∷ [])

abbrev pub inside_first : List Level → Expressions
inside_first [] = no_more
inside_first (l ∷ ls) = l.inside

-- The expressions that the tokens are, where each parenthesis has its partner.
abbrev pub expressions : List Mark → Expressions
expressions ms = inside_first (levels ms)

-- The first expression, or an empty list; and the others.
abbrev pub first_of : Expressions → Expression
first_of no_more = list 0 no_more 0
first_of (more e es) = e

abbrev pub rest_of : Expressions → Expressions
rest_of no_more = no_more
rest_of (more e es) = es

abbrev pub place_of : Expression → ℕ
place_of (atom a p) = p
place_of (list o es c) = o

abbrev pub close_of : Expression → ℕ
close_of (atom a p) = p
close_of (list o es c) = c

abbrev pub parts_of : Expression → Expressions
parts_of (atom a p) = no_more
parts_of (list o es c) = es

abbrev pub atom_bytes : Atom → List ℕ
atom_bytes (atom_word w) = []
atom_bytes (atom_symbol bs) = bs
atom_bytes (atom_keyword bs) = bs
atom_bytes (atom_numeral n) = []
atom_bytes (atom_literal w v) = []

abbrev pub bytes_in : Expression → List ℕ
bytes_in (atom a p) = atom_bytes a
bytes_in (list o es c) = []

abbrev pub name_of : Expression → Name
name_of e = record { bytes = bytes_in e; at = place_of e }

abbrev pub atom_value : Atom → ℕ
atom_value (atom_word w) = 0
atom_value (atom_symbol bs) = 0
atom_value (atom_keyword bs) = 0
atom_value (atom_numeral n) = n
atom_value (atom_literal w v) = v

abbrev pub value_in : Expression → ℕ
value_in (atom a p) = atom_value a
value_in (list o es c) = 0

abbrev pub number_in : Expression → Number
number_in e = record { value = value_in e; at = place_of e }

-- `(_ BitVec w)` by its parts.
abbrev pub bit_vectors_of : ℕ → Expressions → ℕ → SortName
bit_vectors_of o es c = bit_vectors o (place_of (first_of es)) (place_of (first_of (rest_of es))) (number_in (first_of (rest_of (rest_of es)))) c

abbrev pub sort_of : Expression → SortName
sort_of (atom a p) = sort_symbol (name_of (atom a p))
sort_of (list o es c) = bit_vectors_of o es c

abbrev pub sorts_of : Expressions → List SortName
sorts_of no_more = []
sorts_of (more e es) = sort_of e ∷ sorts_of es

abbrev pub atom_term : Atom → ℕ → Term
atom_term (atom_word w) p = constant 0 0 p
atom_term (atom_symbol bs) p = term_symbol (record { bytes = bs; at = p })
atom_term (atom_keyword bs) p = constant 0 0 p
atom_term (atom_numeral n) p = constant 0 n p
atom_term (atom_literal w v) p = constant w v p

-- An application by the place of `(`, its head, its parts, and the place of `)`.
abbrev pub applied : ℕ → Name → Terms → ℕ → Term
applied o f no_terms c = constant 0 0 o
applied o f (more_terms t ts) c = apply o f t ts c

abbrev mutual
  pub term_of : Expression → Term
  term_of (atom a p) = atom_term a p
  term_of (list o es c) = applied o (name_of (first_of es)) (terms_behind es) c

  -- those behind the head
  pub terms_behind : Expressions → Terms
  terms_behind no_more = no_terms
  terms_behind (more e es) = terms_of es

  pub terms_of : Expressions → Terms
  terms_of no_more = no_terms
  terms_of (more e es) = more_terms (term_of e) (terms_of es)

abbrev pub assumption_of : Expression → Assumption
assumption_of (atom a p) = plain (name_of (atom a p))
assumption_of (list o es c) = negated o (place_of (first_of es)) (name_of (first_of (rest_of es))) c

abbrev pub assumptions_of : Expressions → List Assumption
assumptions_of no_more = []
assumptions_of (more e es) = assumption_of e ∷ assumptions_of es

-- The operands of a command's word, by the expressions behind it.
abbrev pub operands_of : Word → Expressions → Operands
operands_of words.SetLogic es = set_logic (name_of (first_of es))
operands_of words.DeclareSort es = declare_sort (name_of (first_of es)) (place_of (first_of (rest_of es)))
operands_of words.DeclareFun es =
    declare_fun (name_of (first_of es)) (place_of (first_of (rest_of es))) (sorts_of (parts_of (first_of (rest_of es)))) (close_of (first_of (rest_of es)))
    (sort_of (first_of (rest_of (rest_of es))))
operands_of words.DeclareConst es = declare_const (name_of (first_of es)) (sort_of (first_of (rest_of es)))
operands_of words.Assert es = assert (term_of (first_of es))
operands_of words.Push es = push (number_in (first_of es))
operands_of words.Pop es = pop (number_in (first_of es))
operands_of words.CheckSat es = check_sat
operands_of words.CheckSatAssuming es = check_sat_assuming (place_of (first_of es)) (assumptions_of (parts_of (first_of es))) (close_of (first_of es))
operands_of words.GetValue es =
    get_value (place_of (first_of es)) (term_of (first_of (parts_of (first_of es)))) (terms_of (rest_of (parts_of (first_of es)))) (close_of (first_of es))
operands_of words.GetInfo es = get_info (name_of (first_of es))
operands_of words.Reset es = reset
operands_of words.Exit es = exit
operands_of words.Underscore es = check_sat
operands_of words.Bang es = check_sat
operands_of words.As es = check_sat
operands_of words.Let es = check_sat
operands_of words.Exists es = check_sat
operands_of words.Forall es = check_sat
operands_of words.Match es = check_sat
operands_of words.Par es = check_sat
operands_of words.Binary es = check_sat
operands_of words.Decimal es = check_sat
operands_of words.Hexadecimal es = check_sat
operands_of words.Numerals es = check_sat
operands_of words.Strings es = check_sat

-- The tree of a list by the place of `(`, its head and the head's place, the expressions behind it, and the place of `)`.
abbrev pub headed_tree : ℕ → Atom → ℕ → Expressions → ℕ → Tree
headed_tree o (atom_word w) p es c = command o p (operands_of w es) c
headed_tree o (atom_symbol bs) p es c = other o (record { bytes = bs; at = p }) es c
headed_tree o (atom_keyword bs) p es c = command o p check_sat c
headed_tree o (atom_numeral n) p es c = command o p check_sat c
headed_tree o (atom_literal w v) p es c = command o p check_sat c

abbrev pub tree_in : Expression → Tree
tree_in (atom a p) = command p p check_sat p
tree_in (list o no_more c) = command o o check_sat c
tree_in (list o (more (atom a p) es) c) = headed_tree o a p es c
tree_in (list o (more (list p fs q) es) c) = command o o check_sat c

-- The tree that the tokens spell.
abbrev pub tree_of : List Mark → Tree
tree_of ms = tree_in (first_of (expressions ms))

-- The operands of a command of the thirteen.
abbrev pub operands_in_tree : Tree → Operands
operands_in_tree (command o w x c) = x
operands_in_tree (other o n es c) = check_sat

abbrev pub operands_in : List Mark → Operands
operands_in ms = operands_in_tree (tree_of ms)
