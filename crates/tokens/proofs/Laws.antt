-- The laws of the reading.
use Rattle.std.proofs.Common.{◌≡◌, ℕ, zero, suc, ◌+◌, ◌-◌, ◌<◌, ◌≤◌, Bool, true, false, cond, ◌&&◌, eqb, ltb, leb, List, [], ◌∷◌, length, get_or, take, drop, Some, None, Ok, Err, Option, Result, sym, refl, ap, ◌∙◌, subst, inl, inr, arith}
use Rattle.std.proofs.lemmas.List.{length-take, drop_all, take_rest}
use Rattle.std.proofs.lemmas.Bool.{both_ways, leb-true, leb-false, ltb-true, ltb-false, eqb-true, lt-ltb, le-ltb}
use Rattle.chars.specs.declared.Class.{Class}
use Rattle.chars.specs.declared.Class.TheVariants.{Blank, Open, Close, Semicolon, Hash, Colon, Digit, Symbol, Stray}
use Rattle.chars.specs.Classes.{is_blank, is_letter, is_digit, is_mark, class_of, belongs}
use Rattle.chars.specs.Runs.{gap, run}
use Rattle.chars.specs.Gaps.{Gap, none, LastGap, Skipped}
use Rattle.chars.proofs.GapSpelt.{gap_skipped}
use Rattle.tokens.specs.declared.Kind.TheVariants.{Name, Keyword}
use Rattle.tokens.specs.declared.Token.{Token}
use Rattle.tokens.specs.declared.TokenFault.{TokenFault}
use Rattle.tokens.specs.declared.TokenFault.TheVariants.{Unexpected, TooLong}
use Rattle.tokens.specs.Numbers.{numeral, literal}
use Rattle.tokens.specs.Lexing.{token, named, starts_symbol, counted, written, lexeme, some, token_at, before, onto, tokens_from, tokens}
use Rattle.tokens.specs.Spelling.{Words, Symbolic, Stands, Spelt, WordAt, part, place_of, Wrong, Faulty, LexLaw}
use Rattle.tokens.proofs.WordRuns.{part-front, part_cons, word_at, word-long, symbol-word, digit_word, class_tells, symbol_starts, no_symbol_starts}
use Rattle.tokens.proofs.Only.{only}
use Rattle.tokens.proofs.Faults.{fault_only}
use Rattle.tokens.proofs.Figures.{numeral-written, literal-written, no_numeral, no_literal}

-- what a reading at p ends in: a token that stands there, or what is wrong there
abbrev Outcome : List ℕ → ℕ → Result Token TokenFault → Type 0
Outcome text p (Ok t) = (t.from ≡ p) × Stands text t
Outcome text p (Err f) = (place_of f ≡ p) × Wrong text f

part-long : (text : List ℕ) (p end : ℕ) → length (part text p end) ≤ end - p
part-long text p end = simp length-take (omega arith)

one_byte : (text : List ℕ) (p b : ℕ) → p < length text → get_or text p 0 ≡ b → part text p (p + 1) ≡ b ∷ []
one_byte text p b h e =
    let k : p + 1 - (p + 1) ≡ 0 = omega arith in
    part_cons text p (p + 1) h (omega arith) ∙ ap (λ z. z ∷ part text (p + 1) (p + 1)) e ∙ ap (λ z. b ∷ take z (drop (p + 1) text)) k

-- a word behind a symbol character is symbolic
symbolic : (bs : List ℕ) (b : ℕ) (rest : List ℕ) → bs ≡ b ∷ rest → belongs Symbol b ≡ true → Words bs → Symbolic bs
symbolic bs b rest e s w = subst Symbolic (sym e) (s, subst Words e w)

symbol-long : (text : List ℕ) (p : ℕ) → p < length text → belongs Symbol (get_or text p 0) ≡ true → 0 < run (drop p text)
symbol-long text p h s = word-long text p h (symbol-word (is_letter (get_or text p 0)) (is_digit (get_or text p 0)) (is_mark (get_or text p 0)) s)

-- the word behind the byte at p
behind : (text : List ℕ) (p : ℕ) → p < length text → WordAt text (p + 1) (p + (1 + run (drop (p + 1) text)))
behind text p h =
    let k : p + 1 + run (drop (p + 1) text) ≡ p + (1 + run (drop (p + 1) text)) = omega arith in
    subst (WordAt text (p + 1)) k (word_at text (p + 1) (omega arith))

name-read : (text : List ℕ) (p : ℕ) → p < length text → belongs Symbol (get_or text p 0) ≡ true → (small : Bool) → leb (run (drop p text)) 64 ≡ small
    → Outcome text p (cond small (Ok (token Name p (p + run (drop p text)))) (Err (TooLong p)))
name-read text p h s true l =
    let w = word_at text p (omega arith) in
    let long = symbol-long text p h s in
    let bytes = part_cons text p (p + run (drop p text)) h (omega arith) in (
      refl,
      record {
        long = omega arith;
        within = w.within;
        is = (symbolic (part text p (p + run (drop p text))) (get_or text p 0) (part text (p + 1) (p + run (drop p text))) bytes s w.words, omega (arith, part-long text p (p + run (drop p text)), leb-true (run (drop p text)) 64 l));
        whole = w.whole;
      },
    )
name-read text p h s false l =
    (refl, (p + run (drop p text), inl (s, word_at text p (omega arith)), omega (arith, leb-false (run (drop p text)) 64 l)))

keyword-named : (text : List ℕ) (p : ℕ) → p < length text → get_or text p 0 ≡ 58 → p + 1 < length text → belongs Symbol (get_or text (p + 1) 0) ≡ true
    → (small : Bool) → leb (1 + run (drop (p + 1) text)) 64 ≡ small
    → Outcome text p (cond small (Ok (token Keyword p (p + (1 + run (drop (p + 1) text))))) (Err (TooLong p)))
keyword-named text p h e i s true l =
    let end = p + (1 + run (drop (p + 1) text)) in
    let w = behind text p h in
    let long = symbol-long text (p + 1) i s in
    let bytes = part_cons text (p + 1) end i (omega arith) in (
      refl,
      record {
        long = omega arith;
        within = w.within;
        is = (part text (p + 1) end, part_cons text p end h (omega arith) ∙ ap (λ z. z ∷ part text (p + 1) end) e, symbolic (part text (p + 1) end) (get_or text (p + 1) 0) (part text (p + 1 + 1) end) bytes s w.words, omega (arith, part-long text p end, leb-true (1 + run (drop (p + 1) text)) 64 l));
        whole = w.whole;
      },
    )
keyword-named text p h e i s false l =
    (refl, (p + (1 + run (drop (p + 1) text)), inr (e, s, behind text p h), omega (arith, leb-false (1 + run (drop (p + 1) text)) 64 l)))

keyword-read : (text : List ℕ) (p : ℕ) → p < length text → get_or text p 0 ≡ 58
    → (inside symbol : Bool) → ltb (p + 1) (length text) ≡ inside → starts_symbol (class_of (get_or text (p + 1) 0)) ≡ symbol
    → Outcome text p (cond (inside && symbol) (named Keyword (1 + run (drop (p + 1) text)) p) (Err (Unexpected p)))
keyword-read text p h e true true i s =
    keyword-named text p h e (ltb-true (p + 1) (length text) i) (symbol_starts (get_or text (p + 1) 0) s) (leb (1 + run (drop (p + 1) text)) 64) refl
keyword-read text p h e true false i s = (refl, inr (e, inr (no_symbol_starts (get_or text (p + 1) 0) s)))
keyword-read text p h e false symbol i s = (refl, inr (e, inl (omega (arith, ltb-false (p + 1) (length text) i))))

numeral-read : (text : List ℕ) (p : ℕ) → p < length text → belongs Digit (get_or text p 0) ≡ true → (o : Option ℕ) → numeral (take (run (drop p text)) (drop p text)) ≡ o
    → Outcome text p (counted o (run (drop p text)) p)
numeral-read text p h d None e =
    let end = p + run (drop p text) in
    (refl, inl (d, (end, word_at text p (omega arith), no_numeral (part text p end) (ap numeral (part-front text p (run (drop p text))) ∙ e))))
numeral-read text p h d (Some v) e =
    let end = p + run (drop p text) in
    let w = word_at text p (omega arith) in
    let long = word-long text p h (digit_word (is_letter (get_or text p 0)) (is_digit (get_or text p 0)) (is_mark (get_or text p 0)) d) in
    let some : 0 < length (part text p end) = omega (arith, ap length (part_cons text p end h (omega arith))) in (
      refl,
      record {
        long = omega arith;
        within = w.within;
        is = numeral-written (part text p end) v some (ap numeral (part-front text p (run (drop p text))) ∙ e);
        whole = w.whole;
      },
    )

literal-read : (text : List ℕ) (p : ℕ) → p < length text → get_or text p 0 ≡ 35 → (o : Option (ℕ × ℕ)) → literal (take (1 + run (drop (p + 1) text)) (drop p text)) ≡ o
    → Outcome text p (written o (1 + run (drop (p + 1) text)) p)
literal-read text p h d None e =
    let end = p + (1 + run (drop (p + 1) text)) in
    (refl, inr (d, (end, behind text p h, no_literal (part text p end) (ap literal (part-front text p (1 + run (drop (p + 1) text))) ∙ e))))
literal-read text p h d (Some v) e =
    let end = p + (1 + run (drop (p + 1) text)) in
    let w = behind text p h in (
      refl,
      record {
        long = omega arith;
        within = w.within;
        is = literal-written (part text p end) v.0 v.1 (ap literal (part-front text p (1 + run (drop (p + 1) text))) ∙ e);
        whole = w.whole;
      },
    )

-- the token at p, by the class of the byte there
lexed : (text : List ℕ) (p : ℕ) → p < length text → is_blank (get_or text p 0) ≡ false → eqb (get_or text p 0) 59 ≡ false
    → (c : Class) → belongs c (get_or text p 0) ≡ true → Outcome text p (lexeme c text p)
lexed text p h nb ns Blank c = absurd (both_ways (is_blank (get_or text p 0)) nb c)
lexed text p h nb ns Open c = (refl, record { long = omega arith; within = omega arith; is = one_byte text p 40 h (eqb-true (get_or text p 0) 40 c); whole = tt })
lexed text p h nb ns Close c = (refl, record { long = omega arith; within = omega arith; is = one_byte text p 41 h (eqb-true (get_or text p 0) 41 c); whole = tt })
lexed text p h nb ns Semicolon c = absurd (both_ways (eqb (get_or text p 0) 59) ns c)
lexed text p h nb ns Hash c = literal-read text p h (eqb-true (get_or text p 0) 35 c) (literal (take (1 + run (drop (p + 1) text)) (drop p text))) refl
lexed text p h nb ns Colon c = keyword-read text p h (eqb-true (get_or text p 0) 58 c) (ltb (p + 1) (length text)) (starts_symbol (class_of (get_or text (p + 1) 0))) refl refl
lexed text p h nb ns Digit c = numeral-read text p h c (numeral (take (run (drop p text)) (drop p text))) refl
lexed text p h nb ns Symbol c = name-read text p h c (leb (run (drop p text)) 64) refl
lexed text p h nb ns Stray c = (refl, inl c)

-- the law from a place on
abbrev Law : List ℕ → ℕ → Result (List Token) TokenFault → Type 0
Law text at (Ok ts) = Spelt text at ts
Law text at (Err f) = (ts : List Token) × Faulty text at ts f

one_more : (text : List ℕ) (at : ℕ) (t : Token) → at ≤ t.from → Gap (take (t.from - at) (drop at text)) → Stands text t
    → (r : Result (List Token) TokenFault) → Law text t.end r → Law text at (before (t ∷ []) r)
one_more text at t h g s (Ok us) l = (h, g, s, l)
one_more text at t h g s (Err f) (ts, l) =
    (t ∷ ts, record { last = l.last; spelt = (h, g, s, l.spelt); ordered = l.ordered; gap = l.gap; within = l.within; wrong = l.wrong })

went_on : (text : List ℕ) (at p : ℕ) (rest : Token → Result (List Token) TokenFault) → at ≤ p → p < length text → Gap (take (p - at) (drop at text))
    → ((t : Token) → at < t.end → t.end ≤ length text → Law text t.end (rest t))
    → (r : Result Token TokenFault) → Outcome text p r → Law text at (onto (some r) rest)
went_on text at p rest h lt g more (Ok t) (e, s) =
    one_more text at t (omega arith) (subst (λ q. Gap (take (q - at) (drop at text))) (sym e) g) s (rest t) (more t (omega (arith, s.long)) s.within)
went_on text at p rest h lt g more (Err f) (e, w) =
    ([], record { last = at; spelt = refl; ordered = omega arith; gap = subst (λ q. Gap (take (q - at) (drop at text))) (sym e) g; within = omega arith; wrong = w })

passed : (text : List ℕ) (at p : ℕ) (rest : Token → Result (List Token) TokenFault) → at ≤ p → Skipped text at p
    → ((t : Token) → at < t.end → t.end ≤ length text → Law text t.end (rest t)) → Law text at (onto (token_at text p) rest)
passed text at p rest h (inl (lt, g, nb, ns)) more =
    let here = lexed text p lt nb ns (class_of (get_or text p 0)) (class_tells (get_or text p 0) (class_of (get_or text p 0)) refl) in
    subst (λ v. Law text at (onto (cond v (some (lexeme (class_of (get_or text p 0)) text p)) (Ok None)) rest)) (sym (lt-ltb p (length text) lt))
    (went_on text at p rest h lt g more (lexeme (class_of (get_or text p 0)) text p) here)
passed text at p rest h (inr (e, g)) more =
    subst (λ v. Law text at (onto (cond v (some (lexeme (class_of (get_or text p 0)) text p)) (Ok None)) rest)) (sym (le-ltb p (length text) (omega arith)))
    (subst LastGap (ap (λ q. take (q - at) (drop at text)) e ∙ take_rest text at) g)

law_from : (most : ℕ) (text : List ℕ) (at : ℕ) → at ≤ length text → length text - at ≤ most → Law text at (tokens_from most text at)
unfolding tokens_from
law_from zero text at h l = subst LastGap (sym (drop_all at text (omega arith))) (inl none)
law_from (suc most) text at h l =
    passed text at (at + gap false (drop at text)) (λ t. tokens_from most text t.end) (omega arith) (gap_skipped text at (at + gap false (drop at text)) h refl)
    (λ t fwd in-text. law_from most text t.end in-text (omega arith))

pub lex_law : (text : List ℕ) → LexLaw text (tokens text)
lex_law text =
    let all : Law text 0 (tokens text) = law_from (length text) text 0 (omega arith) (omega arith) in
    record { read = λ ts e. subst (Law text 0) e all; only = only text; refused = λ f e. subst (Law text 0) e all; fault_only = fault_only text }
