-- A closed list by its count of parentheses is one by its tokens.
use Rattle.std.proofs.Common.{◌≡◌, ℕ, zero, suc, ◌+◌, ◌-◌, cond, List, [], ◌∷◌, ◌++◌, replicate, Some, None, Option, sym, refl, ap, ◌∙◌, subst, arith, Ok, Err}
use lib.Dec.{eqb-suc-zero}
use Rattle.std.specs.Option.{option_map}
use Rattle.words.specs.declared.Word.{Word}
use Rattle.words.specs.Words.{word_of}
use Rattle.tokens.specs.declared.Kind.{Kind}
use Rattle.tokens.specs.declared.Kind.TheVariants.{Opening, Closing, Name, Keyword, Numeral, Literal}
use Rattle.tokens.specs.declared.Token.{Token}
use Rattle.tokens.specs.Lexing.{bytes_of}
use Rattle.grammar.specs.declared.items.Item.{Item}
use Rattle.grammar.specs.declared.items.Item.TheVariants as items
use Rattle.grammar.specs.declared.items.Misfit.TheVariants.{Wrong, Short}
use Rattle.grammar.specs.Marks.{Mark, mark, symbol_or, lexeme_of, marks, sign}
use Rattle.grammar.specs.Machine.{replacement, then_run, run}
use Rattle.forms.specs.Forms.{is_opening, open_behind, closing, closed_list}
use Rattle.forms.specs.Laws.{ClosedList}
use Rattle.forms.proofs.Accepts.{one-run, symbol_alike, written-accepted}
use Rattle.forms.proofs.Spelled.{accepted-written}
use Rattle.forms.proofs.Viable.{Accepts}

abbrev pub list_stack : List Item
list_stack = items.OpenList ∷ items.Anything ∷ []

pub list-accepted : (ms : List Mark) → ClosedList ms → Accepts list_stack ms
list-accepted ms (o, c, (es, e)) = subst (Accepts list_stack) e (written-accepted list_stack (o, ((es, c), tt)))

pub accepted-list : (ms : List Mark) → Accepts list_stack ms → ClosedList ms
accepted-list ms h =
    let w = accepted-written ms list_stack h in
    (w.0.0, w.0.1.0.1, (w.0.1.0.0, w.1))

-- so many lists are open
abbrev anything : ℕ → List Item
anything d = replicate d items.Anything

-- a name is a reserved word or a symbol
name_passes : (bs : List ℕ) (o : Option Word) → replacement items.Anything (sign (symbol_or o bs)) ≡ Some (items.Anything ∷ [])
unfolding replacement
name_passes bs None = symbol_alike (replacement items.Anything) bs refl refl
name_passes bs (Some w) = refl

name_no_list : (bs : List ℕ) (o : Option Word) → replacement items.OpenList (sign (symbol_or o bs)) ≡ None
unfolding replacement
name_no_list bs None = symbol_alike (replacement items.OpenList) bs refl refl
name_no_list bs (Some w) = refl

one_token : (k : Kind) (bs : List ℕ) (p d : ℕ) (ms : List Mark) → run (anything (suc d)) (mark (lexeme_of k bs) p ∷ ms) ≡ run (anything (open_behind k (suc d))) ms
unfolding replacement
one_token Opening bs p d ms =
    let e : suc (suc d) ≡ suc d + 1 = omega arith in
    ap (λ n. run (anything n) ms) e
one_token Closing bs p d ms =
    let e : d ≡ suc d - 1 = omega arith in
    ap (λ n. run (anything n) ms) e
one_token Name bs p d ms = one-run items.Anything (symbol_or (word_of bs) bs) p (items.Anything ∷ []) (anything d) ms (name_passes bs (word_of bs))
one_token Keyword bs p d ms = refl
one_token (Numeral n) bs p d ms = refl
one_token (Literal w v) bs p d ms = refl

closing-run : (text : List ℕ) (ts : List Token) (d : ℕ) → closing d ts ≡ run (anything d) (marks text ts)
closing-run text [] zero = refl
closing-run text [] (suc d) = ap (λ v. cond v (Ok tt) (Err Short)) (eqb-suc-zero d)
closing-run text (t ∷ ts) zero = refl
closing-run text (t ∷ ts) (suc d) =
    ap (λ v. cond v (Err (Wrong t.from)) (closing (open_behind t.kind (suc d)) ts)) (eqb-suc-zero d)
    ∙ closing-run text ts (open_behind t.kind (suc d))
    ∙ sym (one_token t.kind (bytes_of text t) t.from d (marks text ts))

first-token : (k : Kind) (bs : List ℕ) (p : ℕ) (ms : List Mark) → cond (is_opening k) (run (items.Anything ∷ []) ms) (Err (Wrong p)) ≡ run list_stack (mark (lexeme_of k bs) p ∷ ms)
unfolding replacement
first-token Opening bs p ms = refl
first-token Closing bs p ms = refl
first-token Name bs p ms = sym (ap (λ o. then_run (option_map (λ is. is ++ (items.Anything ∷ [])) o) p (λ next. run next ms)) (name_no_list bs (word_of bs)))
first-token Keyword bs p ms = refl
first-token (Numeral n) bs p ms = refl
first-token (Literal w v) bs p ms = refl

pub closed_run : (text : List ℕ) (ts : List Token) → closed_list ts ≡ run list_stack (marks text ts)
closed_run text [] = refl
closed_run text (t ∷ ts) =
    ap (λ r. cond (is_opening t.kind) r (Err (Wrong t.from))) (closing-run text ts 1) ∙ first-token t.kind (bytes_of text t) t.from (marks text ts)
