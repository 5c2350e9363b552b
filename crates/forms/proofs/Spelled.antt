-- What is accepted is written for the expected items: the trees are made from the last token back to the first.
use Rattle.std.proofs.Common.{◌≡◌, ℕ, Bool, true, false, cond, eqb, List, [], ◌∷◌, ◌++◌, Some, None, codes, Option, sym, refl, ap, ◌∙◌, subst, inl, inr, append_assoc, eqb-true, Ok, Err, Result}
use Rattle.std.specs.Option.{option_map}
use Rattle.words.specs.declared.Word.{Word}
use Rattle.words.specs.declared.Word.TheVariants as words
use Rattle.words.specs.Words.{same}
use Rattle.words.proofs.Found.{same_equal}
use Rattle.grammar.specs.declared.signs.Sign.TheVariants.{Symbol, BitVec, Not}
use Rattle.grammar.specs.declared.items.Item.{Item}
use Rattle.grammar.specs.declared.items.Item.TheVariants as items
use Rattle.grammar.specs.declared.items.Misfit.{Misfit}
use Rattle.grammar.specs.declared.items.Misfit.TheVariants.{Wrong, Short}
use Rattle.grammar.specs.Marks.{Mark, mark, Lexeme, open_list, close_list, word, symbol, keyword, numeral, literal, sign}
use Rattle.grammar.specs.Machine.{form_of, is_underscore, only, replacement, then_run, run}
use Rattle.forms.specs.Syntax.{Name, sort_symbol, bit_vectors, term_symbol, constant, apply, no_terms, more_terms, plain, negated, Atom, atom_word, atom_symbol, atom_keyword, atom_numeral, atom_literal, atom, list, no_more, more, set_logic, declare_sort, declare_fun, declare_const, assert, push, pop, check_sat, check_sat_assuming, get_value, get_info, reset, exit, spell_sort, spell_sorts, spell_term, spell_terms, spell_assumptions, spell_atom, spell_expressions}
use Rattle.forms.proofs.Parses.{Parses, writes}
use Rattle.forms.proofs.Accepts.{symbol_alike, inner}

-- A tree for the item, from a token and trees for what replaced the item at it.
abbrev Back : Item → Lexeme → Option (List Item) → Type 0
Back i l None = Unit {0}
Back i l (Some is) = (σ : List Item) (p : ℕ) (x : Parses (is ++ σ)) → (y : Parses (i ∷ σ)) × (writes (i ∷ σ) y ≡ mark l p ∷ writes (is ++ σ) x)

name : List ℕ → ℕ → Name
name bs p = record { bytes = bs; at = p }

back_open : (l : Lexeme) → Back items.OpenList l (replacement items.OpenList (sign l))
unfolding replacement
back_open open_list = λ σ p x. ((p, x), refl)
back_open close_list = tt
back_open (word w) = tt
back_open (symbol bs) = subst (Back items.OpenList (symbol bs)) (sym (symbol_alike (replacement items.OpenList) bs refl refl)) tt
back_open (keyword bs) = tt
back_open (numeral n) = tt
back_open (literal w v) = tt

back-close : (l : Lexeme) → Back items.CloseList l (replacement items.CloseList (sign l))
unfolding replacement
back-close open_list = tt
back-close close_list = λ σ p x. ((p, x), refl)
back-close (word w) = tt
back-close (symbol bs) = subst (Back items.CloseList (symbol bs)) (sym (symbol_alike (replacement items.CloseList) bs refl refl)) tt
back-close (keyword bs) = tt
back-close (numeral n) = tt
back-close (literal w v) = tt

back-name : (l : Lexeme) → Back items.AName l (replacement items.AName (sign l))
unfolding replacement name
back-name open_list = tt
back-name close_list = tt
back-name (word w) = tt
back-name (symbol bs) = subst (Back items.AName (symbol bs)) (sym (symbol_alike (replacement items.AName) bs refl refl)) (λ σ p x. ((name bs p, x), refl))
back-name (keyword bs) = tt
back-name (numeral n) = tt
back-name (literal w v) = tt

back-keyword : (l : Lexeme) → Back items.AKeyword l (replacement items.AKeyword (sign l))
unfolding replacement name
back-keyword open_list = tt
back-keyword close_list = tt
back-keyword (word w) = tt
back-keyword (symbol bs) = subst (Back items.AKeyword (symbol bs)) (sym (symbol_alike (replacement items.AKeyword) bs refl refl)) tt
back-keyword (keyword bs) = λ σ p x. ((name bs p, x), refl)
back-keyword (numeral n) = tt
back-keyword (literal w v) = tt

back-numeral : (l : Lexeme) → Back items.ANumeral l (replacement items.ANumeral (sign l))
unfolding replacement
back-numeral open_list = tt
back-numeral close_list = tt
back-numeral (word w) = tt
back-numeral (symbol bs) = subst (Back items.ANumeral (symbol bs)) (sym (symbol_alike (replacement items.ANumeral) bs refl refl)) tt
back-numeral (keyword bs) = tt
back-numeral (numeral n) = λ σ p x. ((record { value = n; at = p }, x), refl)
back-numeral (literal w v) = tt

zero_only : (n : ℕ) (v : Bool) → eqb n 0 ≡ v → Back items.AZero (numeral n) (only v)
zero_only n true e = λ σ p x. ((p, x), ap (λ k. mark (numeral k) p ∷ writes σ x) (sym (eqb-true n 0 e)))
zero_only n false e = tt

back_zero : (l : Lexeme) → Back items.AZero l (replacement items.AZero (sign l))
unfolding replacement
back_zero open_list = tt
back_zero close_list = tt
back_zero (word w) = tt
back_zero (symbol bs) = subst (Back items.AZero (symbol bs)) (sym (symbol_alike (replacement items.AZero) bs refl refl)) tt
back_zero (keyword bs) = tt
back_zero (numeral n) = zero_only n (eqb n 0) refl
back_zero (literal w v) = tt

back-sort : (l : Lexeme) → Back items.ASort l (replacement items.ASort (sign l))
unfolding replacement name
back-sort open_list = λ σ p x. ((bit_vectors p x.0 x.1.0 x.1.1.0 x.1.1.1.0, x.1.1.1.1), refl)
back-sort close_list = tt
back-sort (word w) = tt
back-sort (symbol bs) = subst (Back items.ASort (symbol bs)) (sym (symbol_alike (replacement items.ASort) bs refl refl)) (λ σ p x. ((sort_symbol (name bs p), x), refl))
back-sort (keyword bs) = tt
back-sort (numeral n) = tt
back-sort (literal w v) = tt

back-sorts : (l : Lexeme) → Back items.Sorts l (replacement items.Sorts (sign l))
unfolding replacement name
back-sorts open_list = λ σ p x. (((bit_vectors p x.0 x.1.0 x.1.1.0 x.1.1.1.0 ∷ x.1.1.1.1.0.0, x.1.1.1.1.0.1), x.1.1.1.1.1), refl)
back-sorts close_list = λ σ p x. ((([], p), x), refl)
back-sorts (word w) = tt
back-sorts (symbol bs) = subst (Back items.Sorts (symbol bs)) (sym (symbol_alike (replacement items.Sorts) bs refl refl)) (λ σ p x. (((sort_symbol (name bs p) ∷ x.0.0, x.0.1), x.1), refl))
back-sorts (keyword bs) = tt
back-sorts (numeral n) = tt
back-sorts (literal w v) = tt

back-term : (l : Lexeme) → Back items.ATerm l (replacement items.ATerm (sign l))
unfolding replacement name
back-term open_list = λ σ p x. (
  (apply p x.0 x.1.0 x.1.1.0.0 x.1.1.0.1, x.1.1.1),
  ap (λ l. mark open_list p ∷ (mark (symbol x.0.bytes) x.0.at ∷ l)) (inner (spell_term x.1.0) (spell_terms x.1.1.0.0) (mark close_list x.1.1.0.1) (writes σ x.1.1.1)),
)
back-term close_list = tt
back-term (word w) = tt
back-term (symbol bs) = subst (Back items.ATerm (symbol bs)) (sym (symbol_alike (replacement items.ATerm) bs refl refl)) (λ σ p x. ((term_symbol (name bs p), x), refl))
back-term (keyword bs) = tt
back-term (numeral n) = tt
back-term (literal w v) = λ σ p x. ((constant w v p, x), refl)

-- the same among terms, with the others behind it
many : (t us : List Mark) (ts : List Mark) (c : Mark) (ms : List Mark) → ((t ++ (ts ++ (c ∷ []))) ++ us) ++ ms ≡ t ++ (ts ++ (c ∷ (us ++ ms)))
many t us ts c ms = append_assoc (t ++ (ts ++ (c ∷ []))) us ms ∙ inner t ts c (us ++ ms)

back-terms : (l : Lexeme) → Back items.Terms l (replacement items.Terms (sign l))
unfolding replacement name
back-terms open_list = λ σ p x. (
  ((more_terms (apply p x.0 x.1.0 x.1.1.0.0 x.1.1.0.1) x.1.1.1.0.0, x.1.1.1.0.1), x.1.1.1.1),
  ap (λ l. mark open_list p ∷ (mark (symbol x.0.bytes) x.0.at ∷ l))
      (many (spell_term x.1.0) (spell_terms x.1.1.1.0.0) (spell_terms x.1.1.0.0) (mark close_list x.1.1.0.1) (mark close_list x.1.1.1.0.1 ∷ writes σ x.1.1.1.1)),
)
back-terms close_list = λ σ p x. (((no_terms, p), x), refl)
back-terms (word w) = tt
back-terms (symbol bs) = subst (Back items.Terms (symbol bs)) (sym (symbol_alike (replacement items.Terms) bs refl refl)) (λ σ p x. (((more_terms (term_symbol (name bs p)) x.0.0, x.0.1), x.1), refl))
back-terms (keyword bs) = tt
back-terms (numeral n) = tt
back-terms (literal w v) = λ σ p x. (((more_terms (constant w v p) x.0.0, x.0.1), x.1), refl)

back_assumptions : (l : Lexeme) → Back items.Assumptions l (replacement items.Assumptions (sign l))
unfolding replacement name
back_assumptions open_list = λ σ p x. (((negated p x.0 x.1.0 x.1.1.0 ∷ x.1.1.1.0.0, x.1.1.1.0.1), x.1.1.1.1), refl)
back_assumptions close_list = λ σ p x. ((([], p), x), refl)
back_assumptions (word w) = tt
back_assumptions (symbol bs) = subst (Back items.Assumptions (symbol bs)) (sym (symbol_alike (replacement items.Assumptions) bs refl refl)) (λ σ p x. (((plain (name bs p) ∷ x.0.0, x.0.1), x.1), refl))
back_assumptions (keyword bs) = tt
back_assumptions (numeral n) = tt
back_assumptions (literal w v) = tt

underscore_only : (w : Word) → Back items.AnUnderscore (word w) (only (is_underscore w))
underscore_only words.SetLogic = tt
underscore_only words.DeclareSort = tt
underscore_only words.DeclareFun = tt
underscore_only words.DeclareConst = tt
underscore_only words.Assert = tt
underscore_only words.Push = tt
underscore_only words.Pop = tt
underscore_only words.CheckSat = tt
underscore_only words.CheckSatAssuming = tt
underscore_only words.GetValue = tt
underscore_only words.GetInfo = tt
underscore_only words.Reset = tt
underscore_only words.Exit = tt
underscore_only words.Underscore = λ σ p x. ((p, x), refl)
underscore_only words.Bang = tt
underscore_only words.As = tt
underscore_only words.Let = tt
underscore_only words.Exists = tt
underscore_only words.Forall = tt
underscore_only words.Match = tt
underscore_only words.Par = tt
underscore_only words.Binary = tt
underscore_only words.Decimal = tt
underscore_only words.Hexadecimal = tt
underscore_only words.Numerals = tt
underscore_only words.Strings = tt

back_underscore : (l : Lexeme) → Back items.AnUnderscore l (replacement items.AnUnderscore (sign l))
unfolding replacement
back_underscore open_list = tt
back_underscore close_list = tt
back_underscore (word w) = underscore_only w
back_underscore (symbol bs) = subst (Back items.AnUnderscore (symbol bs)) (sym (symbol_alike (replacement items.AnUnderscore) bs refl refl)) tt
back_underscore (keyword bs) = tt
back_underscore (numeral n) = tt
back_underscore (literal w v) = tt

-- a symbol that is named is told by its bytes
bit_vec_only : (bs : List ℕ) (v w : Bool) → same bs (codes "BitVec") ≡ v → Back items.ABitVec (symbol bs) (replacement items.ABitVec (cond v BitVec (cond w Not Symbol)))
unfolding replacement
bit_vec_only bs true w e = λ σ p x. ((p, x), ap (λ b. mark (symbol b) p ∷ writes σ x) (sym (same_equal bs (codes "BitVec") e)))
bit_vec_only bs false true e = tt
bit_vec_only bs false false e = tt

back_bit_vec : (l : Lexeme) → Back items.ABitVec l (replacement items.ABitVec (sign l))
unfolding replacement
back_bit_vec open_list = tt
back_bit_vec close_list = tt
back_bit_vec (word w) = tt
back_bit_vec (symbol bs) = bit_vec_only bs (same bs (codes "BitVec")) (same bs (codes "not")) refl
back_bit_vec (keyword bs) = tt
back_bit_vec (numeral n) = tt
back_bit_vec (literal w v) = tt

not_only : (bs : List ℕ) (v w : Bool) → same bs (codes "not") ≡ w → Back items.ANot (symbol bs) (replacement items.ANot (cond v BitVec (cond w Not Symbol)))
unfolding replacement
not_only bs true w e = tt
not_only bs false true e = λ σ p x. ((p, x), ap (λ b. mark (symbol b) p ∷ writes σ x) (sym (same_equal bs (codes "not") e)))
not_only bs false false e = tt

back_not : (l : Lexeme) → Back items.ANot l (replacement items.ANot (sign l))
unfolding replacement
back_not open_list = tt
back_not close_list = tt
back_not (word w) = tt
back_not (symbol bs) = not_only bs (same bs (codes "BitVec")) (same bs (codes "not")) refl
back_not (keyword bs) = tt
back_not (numeral n) = tt
back_not (literal w v) = tt

one-atom : (a : Atom) (σ : List Item) (p : ℕ) (x : Parses (items.Anything ∷ σ)) → (y : Parses (items.Anything ∷ σ)) × (writes (items.Anything ∷ σ) y ≡ mark (spell_atom a) p ∷ writes (items.Anything ∷ σ) x)
one-atom a σ p x = (((more (atom a p) x.0.0, x.0.1), x.1), refl)

back_anything : (l : Lexeme) → Back items.Anything l (replacement items.Anything (sign l))
unfolding replacement
back_anything open_list = λ σ p x. (
  ((more (list p x.0.0 x.0.1) x.1.0.0, x.1.0.1), x.1.1),
  ap (λ l. mark open_list p ∷ l)
      (append_assoc (spell_expressions x.0.0 ++ (mark close_list x.0.1 ∷ [])) (spell_expressions x.1.0.0) (mark close_list x.1.0.1 ∷ writes σ x.1.1)
      ∙ append_assoc (spell_expressions x.0.0) (mark close_list x.0.1 ∷ []) (spell_expressions x.1.0.0 ++ (mark close_list x.1.0.1 ∷ writes σ x.1.1))),
)
back_anything close_list = λ σ p x. (((no_more, p), x), refl)
back_anything (word w) = one-atom (atom_word w)
back_anything (symbol bs) = subst (Back items.Anything (symbol bs)) (sym (symbol_alike (replacement items.Anything) bs refl refl)) (one-atom (atom_symbol bs))
back_anything (keyword bs) = one-atom (atom_keyword bs)
back_anything (numeral n) = one-atom (atom_numeral n)
back_anything (literal w v) = one-atom (atom_literal w v)

form_only : (w : Word) → Back items.Command (word w) (form_of w)
form_only words.SetLogic = λ σ p x. ((inl (p, set_logic x.0, x.1.0), x.1.1), refl)
form_only words.DeclareSort = λ σ p x. ((inl (p, declare_sort x.0 x.1.0, x.1.1.0), x.1.1.1), refl)
form_only words.DeclareFun = λ σ p x. (
  (inl (p, declare_fun x.0 x.1.0 x.1.1.0.0 x.1.1.0.1 x.1.1.1.0, x.1.1.1.1.0), x.1.1.1.1.1),
  ap (λ l. mark (word words.DeclareFun) p ∷ (mark (symbol x.0.bytes) x.0.at ∷ (mark open_list x.1.0 ∷ l)))
      (append_assoc (spell_sorts x.1.1.0.0) (mark close_list x.1.1.0.1 ∷ spell_sort x.1.1.1.0) (mark close_list x.1.1.1.1.0 ∷ writes σ x.1.1.1.1.1)),
)
form_only words.DeclareConst = λ σ p x. ((inl (p, declare_const x.0 x.1.0, x.1.1.0), x.1.1.1), refl)
form_only words.Assert = λ σ p x. ((inl (p, assert x.0, x.1.0), x.1.1), refl)
form_only words.Push = λ σ p x. ((inl (p, push x.0, x.1.0), x.1.1), refl)
form_only words.Pop = λ σ p x. ((inl (p, pop x.0, x.1.0), x.1.1), refl)
form_only words.CheckSat = λ σ p x. ((inl (p, check_sat, x.0), x.1), refl)
form_only words.CheckSatAssuming = λ σ p x. (
  (inl (p, check_sat_assuming x.0 x.1.0.0 x.1.0.1, x.1.1.0), x.1.1.1),
  ap (λ l. mark (word words.CheckSatAssuming) p ∷ (mark open_list x.0 ∷ l))
      (append_assoc (spell_assumptions x.1.0.0) (mark close_list x.1.0.1 ∷ []) (mark close_list x.1.1.0 ∷ writes σ x.1.1.1)),
)
form_only words.GetValue = λ σ p x. (
  (inl (p, get_value x.0 x.1.0 x.1.1.0.0 x.1.1.0.1, x.1.1.1.0), x.1.1.1.1),
  ap (λ l. mark (word words.GetValue) p ∷ (mark open_list x.0 ∷ l))
      (inner (spell_term x.1.0) (spell_terms x.1.1.0.0) (mark close_list x.1.1.0.1) (mark close_list x.1.1.1.0 ∷ writes σ x.1.1.1.1)),
)
form_only words.GetInfo = λ σ p x. ((inl (p, get_info x.0, x.1.0), x.1.1), refl)
form_only words.Reset = λ σ p x. ((inl (p, reset, x.0), x.1), refl)
form_only words.Exit = λ σ p x. ((inl (p, exit, x.0), x.1), refl)
form_only words.Underscore = tt
form_only words.Bang = tt
form_only words.As = tt
form_only words.Let = tt
form_only words.Exists = tt
form_only words.Forall = tt
form_only words.Match = tt
form_only words.Par = tt
form_only words.Binary = tt
form_only words.Decimal = tt
form_only words.Hexadecimal = tt
form_only words.Numerals = tt
form_only words.Strings = tt

back-command : (l : Lexeme) → Back items.Command l (replacement items.Command (sign l))
unfolding replacement name
back-command open_list = tt
back-command close_list = tt
back-command (word w) = form_only w
back-command (symbol bs) = subst (Back items.Command (symbol bs)) (sym (symbol_alike (replacement items.Command) bs refl refl)) (λ σ p x. ((inr (name bs p, x.0.0, x.0.1), x.1), refl))
back-command (keyword bs) = tt
back-command (numeral n) = tt
back-command (literal w v) = tt

back : (i : Item) (l : Lexeme) → Back i l (replacement i (sign l))
back items.OpenList l = back_open l
back items.CloseList l = back-close l
back items.Command l = back-command l
back items.AName l = back-name l
back items.AKeyword l = back-keyword l
back items.ANumeral l = back-numeral l
back items.AZero l = back_zero l
back items.ASort l = back-sort l
back items.Sorts l = back-sorts l
back items.ATerm l = back-term l
back items.Terms l = back-terms l
back items.Assumptions l = back_assumptions l
back items.AnUnderscore l = back_underscore l
back items.ABitVec l = back_bit_vec l
back items.ANot l = back_not l
back items.Anything l = back_anything l

-- outcomes are apart
abbrev IsAccepted : Result (Unit {0}) Misfit → Type 0
IsAccepted (Ok u) = Unit {0}
IsAccepted (Err (Wrong p)) = ⊥
IsAccepted (Err Short) = ⊥

pub wrong_apart : {p : ℕ} → ◌≡◌ {A = Result (Unit {0}) Misfit} (Err (Wrong p)) (Ok tt) → ⊥
wrong_apart e = subst IsAccepted (sym e) tt

pub short_apart : ◌≡◌ {A = Result (Unit {0}) Misfit} (Err Short) (Ok tt) → ⊥
short_apart e = subst IsAccepted (sym e) tt

abbrev Written : List Item → List Mark → Type 0
Written σ ms = (x : Parses σ) × (writes σ x ≡ ms)

one-back : (i : Item) (σ : List Item) (m : Mark) (ms : List Mark) (o : Option (List Item)) → Back i m.says o
    → then_run (option_map (λ is. is ++ σ) o) m.at (λ next. run next ms) ≡ Ok tt → ((τ : List Item) → run τ ms ≡ Ok tt → Written τ ms) → Written (i ∷ σ) (m ∷ ms)
one-back i σ m ms None b e rest = absurd (wrong_apart e)
one-back i σ m ms (Some is) b e rest =
    let r = rest (is ++ σ) e in
    let y = b σ m.at r.0 in
    (y.0, y.1 ∙ ap (λ l. m ∷ l) r.1)

pub accepted-written : (ms : List Mark) (σ : List Item) → run σ ms ≡ Ok tt → Written σ ms
accepted-written [] [] e = (tt, refl)
accepted-written [] (i ∷ σ) e = absurd (short_apart e)
accepted-written (m ∷ ms) [] e = absurd (wrong_apart e)
accepted-written (m ∷ ms) (i ∷ σ) e = one-back i σ m ms (replacement i (sign m.says)) (back i m.says) e (λ τ. accepted-written ms τ)
