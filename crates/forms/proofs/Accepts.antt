-- What is written for the expected items is accepted.
use Rattle.std.proofs.Common.{◌≡◌, ℕ, Bool, true, false, cond, List, [], ◌∷◌, ◌++◌, Some, codes, sym, refl, ap, ◌∙◌, inl, inr, append_assoc, Ok}
use Rattle.std.specs.Option.{option_map}
use Rattle.words.specs.Words.{same}
use Rattle.grammar.specs.declared.signs.Sign.{Sign}
use Rattle.grammar.specs.declared.signs.Sign.TheVariants.{Symbol, BitVec, Not}
use Rattle.grammar.specs.declared.items.Item.{Item}
use Rattle.grammar.specs.declared.items.Item.TheVariants as items
use Rattle.grammar.specs.Marks.{Mark, mark, Lexeme, open_list, close_list, symbol, numeral, sign}
use Rattle.grammar.specs.Machine.{replacement, then_run, run}
use Rattle.forms.specs.Syntax.{Name, SortName, sort_symbol, bit_vectors, Term, term_symbol, constant, apply, Terms, no_terms, more_terms, Assumption, plain, negated, Atom, atom_word, atom_symbol, atom_keyword, atom_numeral, atom_literal, Expression, atom, list, Expressions, no_more, more, Operands, set_logic, declare_sort, declare_fun, declare_const, assert, push, pop, check_sat, check_sat_assuming, get_value, get_info, reset, exit, symbol_mark, spell_sort, spell_sorts, spell_term, spell_terms, spell_assumption, spell_assumptions, spell_atom, spell_expression, spell_expressions}
use Rattle.forms.proofs.Parses.{Body, Parse, write_body, write, Parses, writes}

-- One token, by what replaces the first item.
pub one-run : (i : Item) (l : Lexeme) (p : ℕ) (is σ : List Item) (ms : List Mark) → replacement i (sign l) ≡ Some is → run (i ∷ σ) (mark l p ∷ ms) ≡ run (is ++ σ) ms
one-run i l p is σ ms e = ap (λ o. then_run (option_map (λ js. js ++ σ) o) p (λ next. run next ms)) e

-- What doesn't tell symbols apart sees only that there is one.
alike : {X : Type 0} (f : Sign → X) (v w : Bool) → f BitVec ≡ f Symbol → f Not ≡ f Symbol → f (cond v BitVec (cond w Not Symbol)) ≡ f Symbol
alike f true w b n = b
alike f false true b n = n
alike f false false b n = refl

pub symbol_alike : {X : Type 0} (f : Sign → X) (bs : List ℕ) → f BitVec ≡ f Symbol → f Not ≡ f Symbol → f (sign (symbol bs)) ≡ f Symbol
symbol_alike f bs b n = alike f (same bs (codes "BitVec")) (same bs (codes "not")) b n

name-run : (n : Name) (σ : List Item) (ms : List Mark) → run (items.AName ∷ σ) (symbol_mark n ∷ ms) ≡ run σ ms
unfolding replacement
name-run n σ ms = one-run items.AName (symbol n.bytes) n.at [] σ ms (symbol_alike (replacement items.AName) n.bytes refl refl)

-- sorts
sort-run : (s : SortName) (σ : List Item) (ms : List Mark) → run (items.ASort ∷ σ) (spell_sort s ++ ms) ≡ run σ ms
unfolding replacement same
sort-run (sort_symbol n) σ ms = one-run items.ASort (symbol n.bytes) n.at [] σ ms (symbol_alike (replacement items.ASort) n.bytes refl refl)
sort-run (bit_vectors o u b w c) σ ms = refl

first-sort : (s : SortName) (σ : List Item) (ms : List Mark) → run (items.Sorts ∷ σ) (spell_sort s ++ ms) ≡ run (items.Sorts ∷ σ) ms
unfolding replacement same
first-sort (sort_symbol n) σ ms = one-run items.Sorts (symbol n.bytes) n.at (items.Sorts ∷ []) σ ms (symbol_alike (replacement items.Sorts) n.bytes refl refl)
first-sort (bit_vectors o u b w c) σ ms = refl

sorts-run : (ss : List SortName) (σ : List Item) (ms : List Mark) → run (items.Sorts ∷ σ) (spell_sorts ss ++ ms) ≡ run (items.Sorts ∷ σ) ms
sorts-run [] σ ms = refl
sorts-run (s ∷ ss) σ ms =
    ap (run (items.Sorts ∷ σ)) (append_assoc (spell_sort s) (spell_sorts ss) ms) ∙ first-sort s σ (spell_sorts ss ++ ms) ∙ sorts-run ss σ ms

-- terms
pub inner : (xs ys : List Mark) (m : Mark) (ms : List Mark) → (xs ++ (ys ++ (m ∷ []))) ++ ms ≡ xs ++ (ys ++ (m ∷ ms))
inner xs ys m ms = append_assoc xs (ys ++ (m ∷ [])) ms ∙ ap (λ l. xs ++ l) (append_assoc ys (m ∷ []) ms)

-- a term among terms is read as one alone
first-term : (t : Term) (σ : List Item) (ms : List Mark) → run (items.Terms ∷ σ) (spell_term t ++ ms) ≡ run (items.ATerm ∷ items.Terms ∷ σ) (spell_term t ++ ms)
unfolding replacement
first-term (term_symbol n) σ ms =
    one-run items.Terms (symbol n.bytes) n.at (items.Terms ∷ []) σ ms (symbol_alike (replacement items.Terms) n.bytes refl refl)
    ∙ sym (one-run items.ATerm (symbol n.bytes) n.at [] (items.Terms ∷ σ) ms (symbol_alike (replacement items.ATerm) n.bytes refl refl))
first-term (constant w v p) σ ms = refl
first-term (apply o f t ts c) σ ms = refl

-- behind `(`: the head, the first part and the others
applied : (o : ℕ) (f : Name) (t : Term) (ts : Terms) (c : ℕ) (σ : List Item) (ms : List Mark)
    → run (items.ATerm ∷ σ) (spell_term (apply o f t ts c) ++ ms) ≡ run (items.ATerm ∷ items.Terms ∷ σ) (spell_term t ++ (spell_terms ts ++ (mark close_list c ∷ ms)))
unfolding replacement
applied o f t ts c σ ms =
    name-run f (items.ATerm ∷ items.Terms ∷ σ) ((spell_term t ++ (spell_terms ts ++ (mark close_list c ∷ []))) ++ ms)
    ∙ ap (run (items.ATerm ∷ items.Terms ∷ σ)) (inner (spell_term t) (spell_terms ts) (mark close_list c) ms)

terms_end : (c : ℕ) (σ : List Item) (ms : List Mark) → run (items.Terms ∷ σ) (mark close_list c ∷ ms) ≡ run σ ms
unfolding replacement
terms_end c σ ms = refl

mutual
  unfolding replacement

  term-run : (t : Term) (σ : List Item) (ms : List Mark) → run (items.ATerm ∷ σ) (spell_term t ++ ms) ≡ run σ ms
  term-run (term_symbol n) σ ms = one-run items.ATerm (symbol n.bytes) n.at [] σ ms (symbol_alike (replacement items.ATerm) n.bytes refl refl)
  term-run (constant w v p) σ ms = refl
  term-run (apply o f t ts c) σ ms =
      applied o f t ts c σ ms ∙ term-run t (items.Terms ∷ σ) (spell_terms ts ++ (mark close_list c ∷ ms)) ∙ terms-run ts σ (mark close_list c ∷ ms) ∙ terms_end c σ ms

  terms-run : (ts : Terms) (σ : List Item) (ms : List Mark) → run (items.Terms ∷ σ) (spell_terms ts ++ ms) ≡ run (items.Terms ∷ σ) ms
  terms-run no_terms σ ms = refl
  terms-run (more_terms t ts) σ ms =
      ap (run (items.Terms ∷ σ)) (append_assoc (spell_term t) (spell_terms ts) ms)
      ∙ first-term t σ (spell_terms ts ++ ms)
      ∙ term-run t (items.Terms ∷ σ) (spell_terms ts ++ ms)
      ∙ terms-run ts σ ms

-- assumptions
first_assumption : (l : Assumption) (σ : List Item) (ms : List Mark) → run (items.Assumptions ∷ σ) (spell_assumption l ++ ms) ≡ run (items.Assumptions ∷ σ) ms
unfolding replacement same
first_assumption (plain n) σ ms =
    one-run items.Assumptions (symbol n.bytes) n.at (items.Assumptions ∷ []) σ ms (symbol_alike (replacement items.Assumptions) n.bytes refl refl)
first_assumption (negated o p n c) σ ms = name-run n (items.CloseList ∷ items.Assumptions ∷ σ) (mark close_list c ∷ ms)

assumptions_run : (ls : List Assumption) (σ : List Item) (ms : List Mark) → run (items.Assumptions ∷ σ) (spell_assumptions ls ++ ms) ≡ run (items.Assumptions ∷ σ) ms
assumptions_run [] σ ms = refl
assumptions_run (l ∷ ls) σ ms =
    ap (run (items.Assumptions ∷ σ)) (append_assoc (spell_assumption l) (spell_assumptions ls) ms) ∙ first_assumption l σ (spell_assumptions ls ++ ms) ∙ assumptions_run ls σ ms

-- anything
atom-run : (a : Atom) (p : ℕ) (σ : List Item) (ms : List Mark) → run (items.Anything ∷ σ) (mark (spell_atom a) p ∷ ms) ≡ run (items.Anything ∷ σ) ms
unfolding replacement
atom-run (atom_word w) p σ ms = refl
atom-run (atom_symbol bs) p σ ms = one-run items.Anything (symbol bs) p (items.Anything ∷ []) σ ms (symbol_alike (replacement items.Anything) bs refl refl)
atom-run (atom_keyword bs) p σ ms = refl
atom-run (atom_numeral n) p σ ms = refl
atom-run (atom_literal w v) p σ ms = refl

mutual
  unfolding replacement

  expression_run : (e : Expression) (σ : List Item) (ms : List Mark) → run (items.Anything ∷ σ) (spell_expression e ++ ms) ≡ run (items.Anything ∷ σ) ms
  expression_run (atom a p) σ ms = atom-run a p σ ms
  expression_run (list o es c) σ ms =
      ap (run (items.Anything ∷ items.Anything ∷ σ)) (append_assoc (spell_expressions es) (mark close_list c ∷ []) ms) ∙ expressions-run es (items.Anything ∷ σ) (mark close_list c ∷ ms)

  pub expressions-run : (es : Expressions) (σ : List Item) (ms : List Mark) → run (items.Anything ∷ σ) (spell_expressions es ++ ms) ≡ run (items.Anything ∷ σ) ms
  expressions-run no_more σ ms = refl
  expressions-run (more e es) σ ms =
      ap (run (items.Anything ∷ σ)) (append_assoc (spell_expression e) (spell_expressions es) ms) ∙ expression_run e σ (spell_expressions es ++ ms) ∙ expressions-run es σ ms

-- commands, behind their word
operands_run : (w : ℕ) (x : Operands) (c : ℕ) (σ : List Item) (ms : List Mark) → run (items.Command ∷ σ) (write_body (inl (w, x, c)) ms) ≡ run σ ms
unfolding replacement
operands_run w (set_logic n) c σ ms = name-run n (items.CloseList ∷ σ) (mark close_list c ∷ ms)
operands_run w (declare_sort n z) c σ ms = name-run n (items.AZero ∷ items.CloseList ∷ σ) (mark (numeral 0) z ∷ (mark close_list c ∷ ms))
operands_run w (declare_fun n o ss e s) c σ ms =
    name-run n (items.OpenList ∷ items.Sorts ∷ items.ASort ∷ items.CloseList ∷ σ) (mark open_list o ∷ ((spell_sorts ss ++ (mark close_list e ∷ spell_sort s)) ++ (mark close_list c ∷ ms)))
    ∙ ap (run (items.Sorts ∷ items.ASort ∷ items.CloseList ∷ σ)) (append_assoc (spell_sorts ss) (mark close_list e ∷ spell_sort s) (mark close_list c ∷ ms))
    ∙ sorts-run ss (items.ASort ∷ items.CloseList ∷ σ) (mark close_list e ∷ (spell_sort s ++ (mark close_list c ∷ ms)))
    ∙ sort-run s (items.CloseList ∷ σ) (mark close_list c ∷ ms)
operands_run w (declare_const n s) c σ ms =
    name-run n (items.ASort ∷ items.CloseList ∷ σ) (spell_sort s ++ (mark close_list c ∷ ms)) ∙ sort-run s (items.CloseList ∷ σ) (mark close_list c ∷ ms)
operands_run w (assert t) c σ ms = term-run t (items.CloseList ∷ σ) (mark close_list c ∷ ms)
operands_run w (push n) c σ ms = refl
operands_run w (pop n) c σ ms = refl
operands_run w check_sat c σ ms = refl
operands_run w (check_sat_assuming o ls e) c σ ms =
    ap (run (items.Assumptions ∷ items.CloseList ∷ σ)) (append_assoc (spell_assumptions ls) (mark close_list e ∷ []) (mark close_list c ∷ ms))
    ∙ assumptions_run ls (items.CloseList ∷ σ) (mark close_list e ∷ (mark close_list c ∷ ms))
operands_run w (get_value o t ts e) c σ ms =
    ap (run (items.ATerm ∷ items.Terms ∷ items.CloseList ∷ σ)) (inner (spell_term t) (spell_terms ts) (mark close_list e) (mark close_list c ∷ ms))
    ∙ term-run t (items.Terms ∷ items.CloseList ∷ σ) (spell_terms ts ++ (mark close_list e ∷ (mark close_list c ∷ ms)))
    ∙ terms-run ts (items.CloseList ∷ σ) (mark close_list e ∷ (mark close_list c ∷ ms))
operands_run w (get_info k) c σ ms = refl
operands_run w reset c σ ms = refl
operands_run w exit c σ ms = refl

body_run : (b : Body) (σ : List Item) (ms : List Mark) → run (items.Command ∷ σ) (write_body b ms) ≡ run σ ms
unfolding replacement
body_run (inl (w, x, c)) σ ms = operands_run w x c σ ms
body_run (inr (n, es, c)) σ ms =
    one-run items.Command (symbol n.bytes) n.at (items.Anything ∷ []) σ (spell_expressions es ++ (mark close_list c ∷ ms)) (symbol_alike (replacement items.Command) n.bytes refl refl)
    ∙ expressions-run es σ (mark close_list c ∷ ms)

item-run : (i : Item) (x : Parse i) (σ : List Item) (ms : List Mark) → run (i ∷ σ) (write i x ms) ≡ run σ ms
unfolding replacement same
item-run items.OpenList x σ ms = refl
item-run items.CloseList x σ ms = refl
item-run items.Command x σ ms = body_run x σ ms
item-run items.AName x σ ms = name-run x σ ms
item-run items.AKeyword x σ ms = refl
item-run items.ANumeral x σ ms = refl
item-run items.AZero x σ ms = refl
item-run items.ASort x σ ms = sort-run x σ ms
item-run items.Sorts x σ ms = sorts-run x.0 σ (mark close_list x.1 ∷ ms)
item-run items.ATerm x σ ms = term-run x σ ms
item-run items.Terms x σ ms = terms-run x.0 σ (mark close_list x.1 ∷ ms)
item-run items.Assumptions x σ ms = assumptions_run x.0 σ (mark close_list x.1 ∷ ms)
item-run items.AnUnderscore x σ ms = refl
item-run items.ABitVec x σ ms = refl
item-run items.ANot x σ ms = refl
item-run items.Anything x σ ms = expressions-run x.0 σ (mark close_list x.1 ∷ ms)

pub written-accepted : (σ : List Item) (x : Parses σ) → run σ (writes σ x) ≡ Ok tt
written-accepted [] x = refl
written-accepted (i ∷ σ) x = item-run i x.0 σ (writes σ x.1) ∙ written-accepted σ x.1
