-- Reading the tree off the tokens is the inverse of spelling it.
use Rattle.std.proofs.Common.{◌≡◌, ℕ, List, [], ◌∷◌, ◌++◌, codes, sym, refl, ap, ◌∙◌, ap₂, append_assoc}
use Rattle.std.proofs.lemmas.List.{append-nil}
use Rattle.words.specs.declared.Word.TheVariants as words
use Rattle.grammar.specs.Marks.{Mark, mark, open_list, close_list, word}
use Rattle.forms.specs.Syntax.{Name, Number, SortName, sort_symbol, bit_vectors, Term, term_symbol, constant, apply, Terms, no_terms, more_terms, Assumption, plain, negated, Atom, atom_word, atom_symbol, atom_keyword, atom_numeral, atom_literal, Expression, atom, list, Expressions, no_more, more, Operands, set_logic, declare_sort, declare_fun, declare_const, assert, push, pop, check_sat, check_sat_assuming, get_value, get_info, reset, exit, Tree, command, other, word_of_form, symbol_mark, spell_sort, spell_sorts, spell_term, spell_terms, spell_assumption, spell_assumptions, spell_expression, spell_expressions, spell_operands, spell}
use Rattle.forms.specs.Trees.{Level, put, opened, empty_level, onto, onto_all, inside_first, expressions, first_of, sort_of, sorts_of, term_of, terms_of, assumption_of, assumptions_of, operands_of, tree_in, tree_of}

-- What is read of the tokens of an expression is the expression.
pub onto-append : (xs ys : List Mark) (ls : List Level) → onto_all (xs ++ ys) ls ≡ onto_all xs (onto_all ys ls)
onto-append [] ys ls = refl
onto-append (x ∷ xs) ys ls = ap (onto x) (onto-append xs ys ls)

abbrev before : Expressions → Expressions → Expressions
before no_more fs = fs
before (more e es) fs = more e (before es fs)

before-none : (es : Expressions) → before es no_more ≡ es
before-none no_more = refl
before-none (more e es) = ap (more e) (before-none es)

abbrev puts : Expressions → Level → Level
puts es l = record { inside = before es l.inside; closed = l.closed }

atom-onto : (a : Atom) (p : ℕ) (l : Level) (ls : List Level) → onto_all (spell_expression (atom a p)) (l ∷ ls) ≡ put (atom a p) (l ∷ ls)
atom-onto (atom_word w) p l ls = refl
atom-onto (atom_symbol bs) p l ls = refl
atom-onto (atom_keyword bs) p l ls = refl
atom-onto (atom_numeral n) p l ls = refl
atom-onto (atom_literal w v) p l ls = refl

mutual
  pub expression_onto : (e : Expression) (l : Level) (ls : List Level) → onto_all (spell_expression e) (l ∷ ls) ≡ put e (l ∷ ls)
  expression_onto (atom a p) l ls = atom-onto a p l ls
  expression_onto (list o es c) l ls =
      ap (opened o) (onto-append (spell_expressions es) (mark close_list c ∷ []) (l ∷ ls) ∙ expressions-onto es (empty_level c) (l ∷ ls))
      ∙ ap (λ fs. put (list o fs c) (l ∷ ls)) (before-none es)

  expressions-onto : (es : Expressions) (l : Level) (ls : List Level) → onto_all (spell_expressions es) (l ∷ ls) ≡ puts es l ∷ ls
  expressions-onto no_more l ls = refl
  expressions-onto (more e es) l ls =
      onto-append (spell_expression e) (spell_expressions es) (l ∷ ls)
      ∙ ap (onto_all (spell_expression e)) (expressions-onto es l ls)
      ∙ expression_onto e (puts es l) ls

pub expression_read : (e : Expression) → first_of (expressions (spell_expression e)) ≡ e
expression_read e = ap (λ ls. first_of (inside_first ls)) (expression_onto e (empty_level 0) [])

-- Each part of the syntax as an expression.
abbrev pub symbol_expression : Name → Expression
symbol_expression n = atom (atom_symbol n.bytes) n.at

abbrev pub number_expression : Number → Expression
number_expression n = atom (atom_numeral n.value) n.at

abbrev pub sort_expression : SortName → Expression
sort_expression (sort_symbol n) = symbol_expression n
sort_expression (bit_vectors o u b w c) =
    list o (more (atom (atom_word words.Underscore) u) (more (atom (atom_symbol (codes "BitVec")) b) (more (number_expression w) no_more))) c

abbrev pub sort_expressions : List SortName → Expressions
sort_expressions [] = no_more
sort_expressions (s ∷ ss) = more (sort_expression s) (sort_expressions ss)

abbrev mutual
  pub term_expression : Term → Expression
  term_expression (term_symbol n) = symbol_expression n
  term_expression (constant w v p) = atom (atom_literal w v) p
  term_expression (apply o f t ts c) = list o (more (symbol_expression f) (more (term_expression t) (term_expressions ts))) c

  pub term_expressions : Terms → Expressions
  term_expressions no_terms = no_more
  term_expressions (more_terms t ts) = more (term_expression t) (term_expressions ts)

abbrev pub assumption_expression : Assumption → Expression
assumption_expression (plain n) = symbol_expression n
assumption_expression (negated o p n c) = list o (more (atom (atom_symbol (codes "not")) p) (more (symbol_expression n) no_more)) c

abbrev pub assumption_expressions : List Assumption → Expressions
assumption_expressions [] = no_more
assumption_expressions (l ∷ ls) = more (assumption_expression l) (assumption_expressions ls)

abbrev pub operand_expressions : Operands → Expressions
operand_expressions (set_logic n) = more (symbol_expression n) no_more
operand_expressions (declare_sort n z) = more (symbol_expression n) (more (atom (atom_numeral 0) z) no_more)
operand_expressions (declare_fun n o ss c s) = more (symbol_expression n) (more (list o (sort_expressions ss) c) (more (sort_expression s) no_more))
operand_expressions (declare_const n s) = more (symbol_expression n) (more (sort_expression s) no_more)
operand_expressions (assert t) = more (term_expression t) no_more
operand_expressions (push n) = more (number_expression n) no_more
operand_expressions (pop n) = more (number_expression n) no_more
operand_expressions check_sat = no_more
operand_expressions (check_sat_assuming o ls c) = more (list o (assumption_expressions ls) c) no_more
operand_expressions (get_value o t ts c) = more (list o (more (term_expression t) (term_expressions ts)) c) no_more
operand_expressions (get_info k) = more (atom (atom_keyword k.bytes) k.at) no_more
operand_expressions reset = no_more
operand_expressions exit = no_more

abbrev pub tree_expression : Tree → Expression
tree_expression (command o w x c) = list o (more (atom (atom_word (word_of_form x)) w) (operand_expressions x)) c
tree_expression (other o n es c) = list o (more (symbol_expression n) es) c

-- It is spelt as the part is.
one-spelt : (xs ys : List Mark) → xs ≡ ys → xs ++ [] ≡ ys
one-spelt xs ys e = append-nil xs ∙ e

sort-spelt : (s : SortName) → spell_expression (sort_expression s) ≡ spell_sort s
sort-spelt (sort_symbol n) = refl
sort-spelt (bit_vectors o u b w c) = refl

sorts-spelt : (ss : List SortName) → spell_expressions (sort_expressions ss) ≡ spell_sorts ss
sorts-spelt [] = refl
sorts-spelt (s ∷ ss) = ap₂ (λ x y. x ++ y) (sort-spelt s) (sorts-spelt ss)

mutual
  pub term-spelt : (t : Term) → spell_expression (term_expression t) ≡ spell_term t
  term-spelt (term_symbol n) = refl
  term-spelt (constant w v p) = refl
  term-spelt (apply o f t ts c) =
      ap (λ l. mark open_list o ∷ (symbol_mark f ∷ l))
      (append_assoc (spell_expression (term_expression t)) (spell_expressions (term_expressions ts)) (mark close_list c ∷ [])
      ∙ ap₂ (λ x y. x ++ (y ++ (mark close_list c ∷ []))) (term-spelt t) (terms-spelt ts))

  pub terms-spelt : (ts : Terms) → spell_expressions (term_expressions ts) ≡ spell_terms ts
  terms-spelt no_terms = refl
  terms-spelt (more_terms t ts) = ap₂ (λ x y. x ++ y) (term-spelt t) (terms-spelt ts)

assumption_spelt : (l : Assumption) → spell_expression (assumption_expression l) ≡ spell_assumption l
assumption_spelt (plain n) = refl
assumption_spelt (negated o p n c) = refl

assumptions_spelt : (ls : List Assumption) → spell_expressions (assumption_expressions ls) ≡ spell_assumptions ls
assumptions_spelt [] = refl
assumptions_spelt (l ∷ ls) = ap₂ (λ x y. x ++ y) (assumption_spelt l) (assumptions_spelt ls)

operands_spelt : (x : Operands) → spell_expressions (operand_expressions x) ≡ spell_operands x
operands_spelt (set_logic n) = refl
operands_spelt (declare_sort n z) = refl
operands_spelt (declare_fun n o ss c s) =
    ap (λ l. symbol_mark n ∷ (mark open_list o ∷ l))
    (append_assoc (spell_expressions (sort_expressions ss)) (mark close_list c ∷ []) (spell_expression (sort_expression s) ++ [])
    ∙ ap₂ (λ x y. x ++ (mark close_list c ∷ y)) (sorts-spelt ss) (one-spelt (spell_expression (sort_expression s)) (spell_sort s) (sort-spelt s)))
operands_spelt (declare_const n s) = ap (λ l. symbol_mark n ∷ l) (one-spelt (spell_expression (sort_expression s)) (spell_sort s) (sort-spelt s))
operands_spelt (assert t) = one-spelt (spell_expression (term_expression t)) (spell_term t) (term-spelt t)
operands_spelt (push n) = refl
operands_spelt (pop n) = refl
operands_spelt check_sat = refl
operands_spelt (check_sat_assuming o ls c) =
    ap (λ l. mark open_list o ∷ l) (append-nil (spell_expressions (assumption_expressions ls) ++ (mark close_list c ∷ [])) ∙ ap (λ l. l ++ (mark close_list c ∷ [])) (assumptions_spelt ls))
operands_spelt (get_value o t ts c) =
    ap (λ l. mark open_list o ∷ l)
    (append-nil ((spell_expression (term_expression t) ++ spell_expressions (term_expressions ts)) ++ (mark close_list c ∷ []))
    ∙ append_assoc (spell_expression (term_expression t)) (spell_expressions (term_expressions ts)) (mark close_list c ∷ [])
    ∙ ap₂ (λ x y. x ++ (y ++ (mark close_list c ∷ []))) (term-spelt t) (terms-spelt ts))
operands_spelt (get_info k) = refl
operands_spelt reset = refl
operands_spelt exit = refl

tree_spelt : (t : Tree) → spell_expression (tree_expression t) ≡ spell t
tree_spelt (command o w x c) = ap (λ l. mark open_list o ∷ (mark (word (word_of_form x)) w ∷ (l ++ (mark close_list c ∷ [])))) (operands_spelt x)
tree_spelt (other o n es c) = refl

-- And it is read as the part.
sort-back : (s : SortName) → sort_of (sort_expression s) ≡ s
sort-back (sort_symbol n) = refl
sort-back (bit_vectors o u b w c) = refl

sorts-back : (ss : List SortName) → sorts_of (sort_expressions ss) ≡ ss
sorts-back [] = refl
sorts-back (s ∷ ss) = ap₂ (λ x y. x ∷ y) (sort-back s) (sorts-back ss)

mutual
  pub term-back : (t : Term) → term_of (term_expression t) ≡ t
  term-back (term_symbol n) = refl
  term-back (constant w v p) = refl
  term-back (apply o f t ts c) = ap₂ (λ x y. apply o f x y c) (term-back t) (terms-back ts)

  pub terms-back : (ts : Terms) → terms_of (term_expressions ts) ≡ ts
  terms-back no_terms = refl
  terms-back (more_terms t ts) = ap₂ more_terms (term-back t) (terms-back ts)

assumption_back : (l : Assumption) → assumption_of (assumption_expression l) ≡ l
assumption_back (plain n) = refl
assumption_back (negated o p n c) = refl

assumptions_back : (ls : List Assumption) → assumptions_of (assumption_expressions ls) ≡ ls
assumptions_back [] = refl
assumptions_back (l ∷ ls) = ap₂ (λ x y. x ∷ y) (assumption_back l) (assumptions_back ls)

operands_back : (x : Operands) → operands_of (word_of_form x) (operand_expressions x) ≡ x
operands_back (set_logic n) = refl
operands_back (declare_sort n z) = refl
operands_back (declare_fun n o ss c s) = ap₂ (λ x y. declare_fun n o x c y) (sorts-back ss) (sort-back s)
operands_back (declare_const n s) = ap (declare_const n) (sort-back s)
operands_back (assert t) = ap assert (term-back t)
operands_back (push n) = refl
operands_back (pop n) = refl
operands_back check_sat = refl
operands_back (check_sat_assuming o ls c) = ap (λ x. check_sat_assuming o x c) (assumptions_back ls)
operands_back (get_value o t ts c) = ap₂ (λ x y. get_value o x y c) (term-back t) (terms-back ts)
operands_back (get_info k) = refl
operands_back reset = refl
operands_back exit = refl

tree_back : (t : Tree) → tree_in (tree_expression t) ≡ t
tree_back (command o w x c) = ap (λ y. command o w y c) (operands_back x)
tree_back (other o n es c) = refl

-- The tokens of a tree are read as the tree.
pub tree_spell : (t : Tree) → tree_of (spell t) ≡ t
tree_spell t = ap tree_of (sym (tree_spelt t)) ∙ ap tree_in (expression_read (tree_expression t)) ∙ tree_back t

-- So the tokens have one tree.
pub one_tree : (t : Tree) (ms : List Mark) → spell t ≡ ms → t ≡ tree_of ms
one_tree t ms e = sym (tree_spell t) ∙ ap tree_of e
