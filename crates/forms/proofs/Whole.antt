-- The reading of a form keeps what it promises.
use Rattle.std.proofs.Common.{◌≡◌, ℕ, ◌⊎◌, List, [], ◌∷◌, ◌++◌, length, Some, None, Ok, Err, Option, Result, sym, refl, ◌∙◌, subst, inl, inr, ◌<◌, ap, arith, length-append}
use Rattle.std.proofs.lemmas.List.{append-nil, length-map}
use Rattle.tokens.specs.declared.Token.{Token}
use Rattle.grammar.specs.declared.items.Item.{Item}
use Rattle.grammar.specs.declared.items.Item.TheVariants as items
use Rattle.grammar.specs.declared.items.Misfit.{Misfit}
use Rattle.grammar.specs.declared.items.Misfit.TheVariants.{Wrong, Short}
use Rattle.grammar.specs.Marks.{Mark, mark, close_list, mark_of, marks}
use Rattle.grammar.specs.Machine.{run}
use Rattle.forms.specs.declared.Command.{Command}
use Rattle.forms.specs.declared.FormFault.{FormFault}
use Rattle.forms.specs.declared.FormFault.TheVariants.{Unclosed, Nested, Outside}
use Rattle.forms.specs.Syntax.{Tree, command, other, spell_operands, spell_expressions, spell}
use Rattle.forms.specs.Forms.{closed_list, deepest, command_of, then, judged, shallow, fitted, formed}
use Rattle.forms.specs.Laws.{InForm, ClosedList, FirstWrong, Incomplete, Points, TooDeep, Shallow, Reading}
use Rattle.forms.proofs.Parses.{Parses, writes}
use Rattle.forms.proofs.Accepts.{written-accepted}
use Rattle.forms.proofs.Spelled.{wrong_apart, short_apart, accepted-written}
use Rattle.forms.proofs.Viable.{Accepts, whole, wrong_first, short_incomplete}
use Rattle.forms.proofs.Closed.{list_stack, list-accepted, accepted-list, closed_run}
use Rattle.forms.proofs.Passing.{form_closed}
use Rattle.forms.proofs.Depth.{too_deep}
use Rattle.forms.proofs.Points.{points}

abbrev form_stack : List Item
form_stack = items.OpenList ∷ items.Command ∷ []

tree_accepted : (t : Tree) → Accepts form_stack (spell t)
tree_accepted (command o w x c) = written-accepted form_stack (o, (inl (w, x, c), tt))
tree_accepted (other o n es c) = written-accepted form_stack (o, (inr (n, es, c), tt))

form_accepted : (ms : List Mark) → InForm ms → Accepts form_stack ms
form_accepted ms (t, e) = subst (Accepts form_stack) e (tree_accepted t)

written_form : (ms : List Mark) (x : Parses form_stack) → writes form_stack x ≡ ms → InForm ms
written_form ms (o, (inl (w, x, c), u)) e = (command o w x c, e)
written_form ms (o, (inr (n, es, c), u)) e = (other o n es c, e)

accepted_form : (ms : List Mark) → Accepts form_stack ms → InForm ms
accepted_form ms h =
    let w = accepted-written ms form_stack h in
    written_form ms w.0 w.1

-- no command goes on behind a closed list
no_more_form : (ms rest : List Mark) → Accepts list_stack ms → Incomplete InForm ms → InForm (ms ++ rest) → ⊥
no_more_form ms [] h i f = i.alone (subst InForm (append-nil ms) f)
no_more_form ms (m ∷ rest) h i f = whole ms list_stack m rest h (form_closed (ms ++ (m ∷ rest)) f)

not_short : (ms : List Mark) → Accepts list_stack ms → run form_stack ms ≡ Err Short → ⊥
not_short ms h e =
    let i = short_incomplete InForm form_stack form_accepted accepted_form ms e in
    no_more_form ms i.before.0 h i i.before.1

-- what a result of each kind has to say
abbrev AtOk : (Command → Type 0) → Result Command FormFault → Type 0
AtOk P (Ok c) = P c
AtOk P (Err f) = Unit {0}

abbrev AtUnclosed : (ℕ → Type 0) → Result Command FormFault → Type 0
AtUnclosed P (Ok c) = Unit {0}
AtUnclosed P (Err (Unclosed p)) = P p
AtUnclosed P (Err (Nested p)) = Unit {0}
AtUnclosed P (Err (Outside p)) = Unit {0}

abbrev AtNested : (ℕ → Type 0) → Result Command FormFault → Type 0
AtNested P (Ok c) = Unit {0}
AtNested P (Err (Unclosed p)) = Unit {0}
AtNested P (Err (Nested p)) = P p
AtNested P (Err (Outside p)) = Unit {0}

abbrev AtOutside : (ℕ → Type 0) → Result Command FormFault → Type 0
AtOutside P (Ok c) = Unit {0}
AtOutside P (Err (Unclosed p)) = Unit {0}
AtOutside P (Err (Nested p)) = Unit {0}
AtOutside P (Err (Outside p)) = P p

module _ (text : List ℕ) (ts : List Token) where
  abbrev Made : Command → Type 0
  Made c = (t : Tree) × (spell t ≡ marks text ts) × Points text t c

  abbrev Complete : Result Command FormFault → Type 0
  Complete r = InForm (marks text ts) → Shallow ts → (c : Command) × (r ≡ Ok c)

  abbrev NotClosed : ℕ → Type 0
  NotClosed p = FirstWrong ClosedList (marks text ts) p ⊎ ((p ≡ length text) × Incomplete ClosedList (marks text ts))

  abbrev Deep : ℕ → Type 0
  Deep p = ClosedList (marks text ts) × TooDeep ts p

  abbrev NoForm : ℕ → Type 0
  NoForm p = ClosedList (marks text ts) × FirstWrong InForm (marks text ts) p

  made : (r : Result Command FormFault) → AtOk Made r → Complete r → AtUnclosed NotClosed r → AtNested Deep r → AtOutside NoForm r → Reading text ts r
  made r a b c d e = record {
    accepted = λ x h. subst (AtOk Made) h a;
    complete = b;
    unclosed = λ p h. subst (AtUnclosed NotClosed) h c;
    nested = λ p h. subst (AtNested Deep) h d;
    outside = λ p h. subst (AtOutside NoForm) h e;
  }

  form_list : InForm (marks text ts) → closed_list ts ≡ Ok tt
  form_list f = closed_run text ts ∙ form_closed (marks text ts) f

  closed : closed_list ts ≡ Ok tt → ClosedList (marks text ts)
  closed e = accepted-list (marks text ts) (sym (closed_run text ts) ∙ e)

  by_outcome : (a : Result (Unit {0}) Misfit) (d : Option ℕ) (f : Result (Unit {0}) Misfit) → closed_list ts ≡ a → deepest 0 ts ≡ d → fitted text ts ≡ f
      → Reading text ts (then (judged a Unclosed (length text)) (λ _. then (shallow d) (λ _. then (judged f Outside (length text)) (λ _. Ok (command_of text ts)))))
  by_outcome (Err (Wrong p)) d f e h k =
      made (Err (Unclosed p)) tt (λ i s. absurd (wrong_apart (sym e ∙ form_list i)))
      (inl (wrong_first ClosedList list_stack list-accepted accepted-list (marks text ts) p (sym (closed_run text ts) ∙ e))) tt tt
  by_outcome (Err Short) d f e h k =
      made (Err (Unclosed (length text))) tt (λ i s. absurd (short_apart (sym e ∙ form_list i)))
      (inr (refl, short_incomplete ClosedList list_stack list-accepted accepted-list (marks text ts) (sym (closed_run text ts) ∙ e))) tt tt
  by_outcome (Ok u) (Some p) f e h k = made (Err (Nested p)) tt (λ i s. absurd (s p (too_deep ts p h))) tt (closed e, too_deep ts p h) tt
  by_outcome (Ok u) None (Err (Wrong p)) e h k =
      made (Err (Outside p)) tt (λ i s. absurd (wrong_apart (sym k ∙ form_accepted (marks text ts) i))) tt tt
      (closed e, wrong_first InForm form_stack form_accepted accepted_form (marks text ts) p k)
  by_outcome (Ok u) None (Err Short) e h k = absurd (not_short (marks text ts) (sym (closed_run text ts) ∙ e) k)
  by_outcome (Ok u) None (Ok v) e h k =
      let i = accepted_form (marks text ts) k in
      made (Ok (command_of text ts)) (i.0, i.1, points text ts i.0 i.1) (λ _ s. (command_of text ts, refl)) tt tt tt

pub reading : (text : List ℕ) (ts : List Token) → Reading text ts (formed text ts)
reading text ts = by_outcome text ts (closed_list ts) (deepest 0 ts) (fitted text ts) refl refl refl

-- what was read keeps the law
pub reading_of : (text : List ℕ) (ts : List Token) (r : Result Command FormFault) → r ≡ formed text ts → Reading text ts r
reading_of text ts r e = subst (Reading text ts) (sym e) (reading text ts)

-- a command has at least its parentheses and its word
spelled_long : (t : Tree) → 2 < length (spell t)
spelled_long (command o w x c) = omega (arith, length-append (spell_operands x) (mark close_list c ∷ []))
spelled_long (other o n es c) = omega (arith, length-append (spell_expressions es) (mark close_list c ∷ []))

pub three_tokens : (text : List ℕ) (ts : List Token) → fitted text ts ≡ Ok tt → 2 < length ts
three_tokens text ts e =
    let i = accepted_form (marks text ts) e in
    omega (arith, spelled_long i.0, ap length i.1, length-map ts (mark_of text))
