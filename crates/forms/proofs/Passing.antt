-- Every command is a closed list.
use Rattle.std.proofs.Common.{◌≡◌, ℕ, List, [], ◌∷◌, ◌++◌, refl, ap, ◌∙◌, subst, append_assoc}
use Rattle.grammar.specs.declared.items.Item.{Item}
use Rattle.grammar.specs.declared.items.Item.TheVariants as items
use Rattle.words.specs.Words.{same}
use Rattle.grammar.specs.Marks.{Mark, mark, open_list, close_list, symbol, numeral}
use Rattle.grammar.specs.Machine.{replacement, run}
use Rattle.forms.specs.Syntax.{Name, SortName, sort_symbol, bit_vectors, Term, term_symbol, constant, apply, Terms, no_terms, more_terms, Assumption, plain, negated, Operands, set_logic, declare_sort, declare_fun, declare_const, assert, push, pop, check_sat, check_sat_assuming, get_value, get_info, reset, exit, Tree, command, other, symbol_mark, spell_sort, spell_sorts, spell_term, spell_terms, spell_assumption, spell_assumptions, spell_expressions, spell_operands, spell}
use Rattle.forms.specs.Laws.{InForm}
use Rattle.forms.proofs.Accepts.{one-run, symbol_alike, expressions-run}
use Rattle.forms.proofs.Viable.{Accepts}
use Rattle.forms.proofs.Closed.{list_stack}

-- Where anything is expected these marks are passed over.
abbrev Passes : List Mark → Type 0
Passes xs = (σ : List Item) (ms : List Mark) → run (items.Anything ∷ σ) (xs ++ ms) ≡ run (items.Anything ∷ σ) ms

both : (xs ys : List Mark) → Passes xs → Passes ys → Passes (xs ++ ys)
both xs ys f g σ ms = ap (run (items.Anything ∷ σ)) (append_assoc xs ys ms) ∙ f σ (ys ++ ms) ∙ g σ ms

passes_name : (n : Name) → Passes (symbol_mark n ∷ [])
unfolding replacement
passes_name n σ ms = one-run items.Anything (symbol n.bytes) n.at (items.Anything ∷ []) σ ms (symbol_alike (replacement items.Anything) n.bytes refl refl)

named : (n : Name) (xs : List Mark) → Passes xs → Passes (symbol_mark n ∷ xs)
named n xs f = both (symbol_mark n ∷ []) xs (passes_name n) f

-- a list, by the place of its parentheses
listed : (o c : ℕ) (xs : List Mark) → Passes xs → Passes (mark open_list o ∷ (xs ++ (mark close_list c ∷ [])))
unfolding replacement
listed o c xs f σ ms =
    ap (run (items.Anything ∷ items.Anything ∷ σ)) (append_assoc xs (mark close_list c ∷ []) ms) ∙ f (items.Anything ∷ σ) (mark close_list c ∷ ms)

passes_sort : (s : SortName) → Passes (spell_sort s)
unfolding replacement same
passes_sort (sort_symbol n) = passes_name n
passes_sort (bit_vectors o u b w c) = λ σ ms. refl

passes_sorts : (ss : List SortName) → Passes (spell_sorts ss)
passes_sorts [] = λ σ ms. refl
passes_sorts (s ∷ ss) = both (spell_sort s) (spell_sorts ss) (passes_sort s) (passes_sorts ss)

-- the parts of an application
parts : (o c : ℕ) (ts us : List Mark) → Passes ts → Passes us → Passes (mark open_list o ∷ (ts ++ (us ++ (mark close_list c ∷ []))))
parts o c ts us f g = subst (λ l. Passes (mark open_list o ∷ l)) (append_assoc ts us (mark close_list c ∷ [])) (listed o c (ts ++ us) (both ts us f g))

mutual
  unfolding replacement

  passes_term : (t : Term) → Passes (spell_term t)
  passes_term (term_symbol n) = passes_name n
  passes_term (constant w v p) = λ σ ms. refl
  passes_term (apply o f t ts c) = parts o c (symbol_mark f ∷ spell_term t) (spell_terms ts) (named f (spell_term t) (passes_term t)) (passes_terms ts)

  passes_terms : (ts : Terms) → Passes (spell_terms ts)
  passes_terms no_terms = λ σ ms. refl
  passes_terms (more_terms t ts) = both (spell_term t) (spell_terms ts) (passes_term t) (passes_terms ts)

passes_assumption : (l : Assumption) → Passes (spell_assumption l)
unfolding replacement same
passes_assumption (plain n) = passes_name n
passes_assumption (negated o p n c) = λ σ ms. passes_name n (items.Anything ∷ σ) (mark close_list c ∷ ms)

passes_assumptions : (ls : List Assumption) → Passes (spell_assumptions ls)
passes_assumptions [] = λ σ ms. refl
passes_assumptions (l ∷ ls) = both (spell_assumption l) (spell_assumptions ls) (passes_assumption l) (passes_assumptions ls)

-- the sorts of a function, and its own
signature : (o c : ℕ) (ss : List SortName) (s : SortName) → Passes (mark open_list o ∷ (spell_sorts ss ++ (mark close_list c ∷ spell_sort s)))
signature o c ss s =
    subst (λ l. Passes (mark open_list o ∷ l)) (append_assoc (spell_sorts ss) (mark close_list c ∷ []) (spell_sort s))
    (both (mark open_list o ∷ (spell_sorts ss ++ (mark close_list c ∷ []))) (spell_sort s) (listed o c (spell_sorts ss) (passes_sorts ss)) (passes_sort s))

passes_operands : (x : Operands) → Passes (spell_operands x)
unfolding replacement
passes_operands (set_logic n) = passes_name n
passes_operands (declare_sort n z) = named n (mark (numeral 0) z ∷ []) (λ σ ms. refl)
passes_operands (declare_fun n o ss c s) = named n (mark open_list o ∷ (spell_sorts ss ++ (mark close_list c ∷ spell_sort s))) (signature o c ss s)
passes_operands (declare_const n s) = named n (spell_sort s) (passes_sort s)
passes_operands (assert t) = passes_term t
passes_operands (push n) = λ σ ms. refl
passes_operands (pop n) = λ σ ms. refl
passes_operands check_sat = λ σ ms. refl
passes_operands (check_sat_assuming o ls c) = listed o c (spell_assumptions ls) (passes_assumptions ls)
passes_operands (get_value o t ts c) = parts o c (spell_term t) (spell_terms ts) (passes_term t) (passes_terms ts)
passes_operands (get_info k) = λ σ ms. refl
passes_operands reset = λ σ ms. refl
passes_operands exit = λ σ ms. refl

tree_closed : (t : Tree) → Accepts list_stack (spell t)
unfolding replacement
tree_closed (command o w x c) = passes_operands x [] (mark close_list c ∷ [])
tree_closed (other o n es c) = passes_name n [] (spell_expressions es ++ (mark close_list c ∷ [])) ∙ expressions-run es [] (mark close_list c ∷ [])

pub form_closed : (ms : List Mark) → InForm ms → Accepts list_stack ms
form_closed ms (t, e) = subst (Accepts list_stack) e (tree_closed t)
