-- Reading token by token gives what the trees say.
use Rattle.std.proofs.Common.{◌≡◌, ℕ, ◌+◌, Bool, false, cond, List, [], ◌∷◌, ◌++◌, length, drop, Ok, Result, sym, refl, ap, ◌∙◌, append_assoc}
use Rattle.std.proofs.lemmas.List.{append-nil, take_at, drop_at, length-append}
use Rattle.grammar.specs.Marks.{Mark, mark, open_list, close_list}
use Rattle.forms.specs.Syntax as syntax
use Rattle.forms.proofs.Accepts.{inner}
use Rattle.forms.specs.Syntax.{spell_term, spell_terms, symbol_mark}
use Rattle.theory.specs.declared.Head.{Head}
use Rattle.terms.specs.declared.SortFault.{SortFault}
use Rattle.terms.specs.Terms.{Typed}
use Rattle.terms.specs.Scoping.{Scope, head_of}
use Rattle.terms.specs.Sorting.{after, found, applied, literal_at, sorted, sorted_all, sorts_in, terms_in}
use Rattle.terms.proofs.Sequences.{after-after, after_same, after_made}
use Rattle.sorter.specs.Steps.{Pending, pushed, opened, without, read}

-- No head is awaited.
abbrev waits : Pending → Pending
waits s = record { sorts = s.sorts; terms = s.terms; frames = s.frames; head = false }

-- Several operands more.
abbrev pub pushed_all : Pending → List Typed → Pending
pushed_all s xs = record { sorts = s.sorts ++ sorts_in xs; terms = s.terms ++ terms_in xs; frames = s.frames; head = false }

all_none : (s : Pending) → pushed_all s [] ≡ waits s
all_none s = λ i. record { sorts = append-nil s.sorts i; terms = append-nil s.terms i; frames = s.frames; head = false }

all_more : (s : Pending) (x : Typed) (xs : List Typed) → pushed_all (pushed s x) xs ≡ pushed_all s (x ∷ xs)
all_more s x xs =
    let p = append_assoc s.sorts (x.sort ∷ []) (sorts_in xs) in
    let q = append_assoc s.terms (x.term ∷ []) (terms_in xs) in
    λ i. record { sorts = p i; terms = q i; frames = s.frames; head = false }

-- As many sorts as terms.
abbrev pub Even : Pending → Type 0
Even s = length s.terms ≡ length s.sorts

even_push : (s : Pending) (x : Typed) → Even s → Even (pushed s x)
even_push s x e = length-append s.terms (x.term ∷ []) ∙ ap (λ n. n + 1) e ∙ sym (length-append s.sorts (x.sort ∷ []))

module _ (σ : Scope) where
  -- the closing parenthesis of an application whose operands are xs
  close-read : (s : Pending) (h : Head) (p : ℕ) (xs : List Typed) (c : ℕ) (ms : List Mark) → Even s
      → read σ (pushed_all (opened s h p) xs) (mark close_list c ∷ ms) ≡ after (applied σ h p (sorts_in xs) (terms_in xs)) (λ x. read σ (pushed s x) ms)
  close-read s h p xs c ms e =
      let n = length s.sorts in
      let a = drop_at s.sorts (sorts_in xs) n refl in
      let b = drop_at s.terms (terms_in xs) n e in
      let f = take_at s.sorts (sorts_in xs) n refl in
      let g = take_at s.terms (terms_in xs) n e in
      after_made (applied σ h p (drop n (s.sorts ++ sorts_in xs)) (drop n (s.terms ++ terms_in xs))) (λ x. pushed (without (pushed_all (opened s h p) xs) n s.frames) x) (λ t. read σ t ms)
      ∙ (λ i. after (applied σ h p (a i) (b i)) (λ x. read σ (pushed (record { sorts = f i; terms = g i; frames = s.frames; head = false }) x) ms))

  -- a symbol that is no head
  symbol-read : (s : Pending) (bs : List ℕ) (p : ℕ) (b : Bool) (K : Pending → Result Pending SortFault) → b ≡ false
      → after (after (found (head_of σ bs) p) (λ h. cond b (Ok (opened s h p)) (after (applied σ h p [] []) (λ x. Ok (pushed s x))))) K
      ≡ after (after (found (head_of σ bs) p) (λ h. applied σ h p [] [])) (λ x. K (pushed s x))
  symbol-read s bs p b K e =
      ap (λ v. after (after (found (head_of σ bs) p) (λ h. cond v (Ok (opened s h p)) (after (applied σ h p [] []) (λ x. Ok (pushed s x))))) K) e
      ∙ after-after (found (head_of σ bs) p) (λ h. after (applied σ h p [] []) (λ x. Ok (pushed s x))) K
      ∙ after_same (found (head_of σ bs) p) (λ h. after (after (applied σ h p [] []) (λ x. Ok (pushed s x))) K) (λ h. after (applied σ h p [] []) (λ x. K (pushed s x))) (λ h. after_made (applied σ h p [] []) (pushed s) K)
      ∙ sym (after-after (found (head_of σ bs) p) (λ h. applied σ h p [] []) (λ x. K (pushed s x)))

  -- the parts of an application and its closing parenthesis, by what is known of the parts
  parts-read : (t : syntax.Term) (ts : syntax.Terms) (s : Pending) (h : Head) (p c : ℕ) (ms : List Mark) → Even s
      → read σ (opened s h p) (spell_term t ++ (spell_terms ts ++ (mark close_list c ∷ ms))) ≡ after (sorted σ t) (λ x. read σ (pushed (opened s h p) x) (spell_terms ts ++ (mark close_list c ∷ ms)))
      → ((x : Typed) → read σ (pushed (opened s h p) x) (spell_terms ts ++ (mark close_list c ∷ ms)) ≡ after (sorted_all σ ts) (λ xs. read σ (pushed_all (pushed (opened s h p) x) xs) (mark close_list c ∷ ms)))
      → read σ (opened s h p) (spell_term t ++ (spell_terms ts ++ (mark close_list c ∷ ms)))
      ≡ after (after (sorted σ t) (λ x. after (sorted_all σ ts) (λ xs. applied σ h p (x.sort ∷ sorts_in xs) (x.term ∷ terms_in xs)))) (λ y. read σ (pushed s y) ms)
  parts-read t ts s h p c ms v first rest =
      first
      ∙ after_same (sorted σ t)
      (λ x. read σ (pushed (opened s h p) x) (spell_terms ts ++ (mark close_list c ∷ ms)))
      (λ x. after (after (sorted_all σ ts) (λ xs. applied σ h p (x.sort ∷ sorts_in xs) (x.term ∷ terms_in xs))) (λ y. read σ (pushed s y) ms))
      (λ x.
      rest x
      ∙ after_same (sorted_all σ ts)
      (λ xs. read σ (pushed_all (pushed (opened s h p) x) xs) (mark close_list c ∷ ms))
      (λ xs. after (applied σ h p (x.sort ∷ sorts_in xs) (x.term ∷ terms_in xs)) (λ y. read σ (pushed s y) ms))
      (λ xs. ap (λ q. read σ q (mark close_list c ∷ ms)) (all_more (opened s h p) x xs) ∙ close-read s h p (x ∷ xs) c ms v)
      ∙ sym (after-after (sorted_all σ ts) (λ xs. applied σ h p (x.sort ∷ sorts_in xs) (x.term ∷ terms_in xs)) (λ y. read σ (pushed s y) ms)))
      ∙ sym (after-after (sorted σ t) (λ x. after (sorted_all σ ts) (λ xs. applied σ h p (x.sort ∷ sorts_in xs) (x.term ∷ terms_in xs))) (λ y. read σ (pushed s y) ms))

  mutual
    pub term-read : (t : syntax.Term) (s : Pending) (ms : List Mark) → s.head ≡ false → Even s
        → read σ s (spell_term t ++ ms) ≡ after (sorted σ t) (λ x. read σ (pushed s x) ms)
    term-read (syntax.term_symbol n) s ms e v = symbol-read s n.bytes n.at s.head (λ t. read σ t ms) e
    term-read (syntax.constant w k p) s ms e v = after_made (literal_at σ w k p) (pushed s) (λ t. read σ t ms)
    term-read (syntax.apply o f t ts c) s ms e v =
        ap (λ l. read σ s (mark open_list o ∷ (symbol_mark f ∷ l))) (inner (spell_term t) (spell_terms ts) (mark close_list c) ms)
        ∙ after_made (found (head_of σ f.bytes) f.at) (λ h. opened s h f.at) (λ q. read σ q (spell_term t ++ (spell_terms ts ++ (mark close_list c ∷ ms))))
        ∙ after_same (found (head_of σ f.bytes) f.at)
        (λ h. read σ (opened s h f.at) (spell_term t ++ (spell_terms ts ++ (mark close_list c ∷ ms))))
        (λ h. after (after (sorted σ t) (λ x. after (sorted_all σ ts) (λ xs. applied σ h f.at (x.sort ∷ sorts_in xs) (x.term ∷ terms_in xs)))) (λ y. read σ (pushed s y) ms))
        (λ h. parts-read t ts s h f.at c ms v (term-read t (opened s h f.at) (spell_terms ts ++ (mark close_list c ∷ ms)) refl v) (λ x. terms-read ts (pushed (opened s h f.at) x) (mark close_list c ∷ ms) refl (even_push (opened s h f.at) x v)))
        ∙ sym (after-after (found (head_of σ f.bytes) f.at) (λ h. after (sorted σ t) (λ x. after (sorted_all σ ts) (λ xs. applied σ h f.at (x.sort ∷ sorts_in xs) (x.term ∷ terms_in xs)))) (λ y. read σ (pushed s y) ms))

    pub terms-read : (ts : syntax.Terms) (s : Pending) (ms : List Mark) → s.head ≡ false → Even s
        → read σ s (spell_terms ts ++ ms) ≡ after (sorted_all σ ts) (λ xs. read σ (pushed_all s xs) ms)
    terms-read syntax.no_terms s ms e v = ap (λ q. read σ q ms) ((λ i. record { sorts = s.sorts; terms = s.terms; frames = s.frames; head = e i }) ∙ sym (all_none s))
    terms-read (syntax.more_terms t ts) s ms e v =
        ap (read σ s) (append_assoc (spell_term t) (spell_terms ts) ms)
        ∙ term-read t s (spell_terms ts ++ ms) e v
        ∙ after_same (sorted σ t)
        (λ x. read σ (pushed s x) (spell_terms ts ++ ms))
        (λ x. after (after (sorted_all σ ts) (λ xs. Ok (x ∷ xs))) (λ xs. read σ (pushed_all s xs) ms))
        (λ x.
        terms-read ts (pushed s x) ms refl (even_push s x v)
        ∙ after_same (sorted_all σ ts) (λ xs. read σ (pushed_all (pushed s x) xs) ms) (λ xs. read σ (pushed_all s (x ∷ xs)) ms) (λ xs. ap (λ q. read σ q ms) (all_more s x xs))
        ∙ sym (after_made (sorted_all σ ts) (λ xs. x ∷ xs) (λ xs. read σ (pushed_all s xs) ms)))
        ∙ sym (after-after (sorted σ t) (λ x. after (sorted_all σ ts) (λ xs. Ok (x ∷ xs))) (λ xs. read σ (pushed_all s xs) ms))
