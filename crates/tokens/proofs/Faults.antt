-- Whatever fault a text has is the one that is answered.
use Rattle.std.proofs.Common.{◌≡◌, ℕ, zero, suc, ◌+◌, ◌-◌, ◌<◌, ◌≤◌, Bool, true, false, cond, ◌&&◌, ltb, ◌⊎◌, List, [], ◌∷◌, length, get_or, take, drop, Some, None, Ok, Err, Option, sym, refl, ap, ◌∙◌, subst, inl, inr, arith}
use Rattle.std.proofs.lemmas.Bool.{both_ways, lt-leb, lt-ltb, le-ltb, eq-eqb, and_right}
use Rattle.chars.specs.declared.Class.TheVariants.{Hash, Colon, Digit, Symbol, Stray}
use Rattle.chars.specs.Classes.{is_letter, is_digit, is_mark, class_of, belongs}
use Rattle.chars.specs.Runs.{run}
use Rattle.chars.specs.Gaps.{Gap}
use Rattle.tokens.specs.declared.Kind.{Kind}
use Rattle.tokens.specs.declared.Kind.TheVariants.{Name, Keyword, Numeral, Literal}
use Rattle.tokens.specs.declared.Token.{Token}
use Rattle.tokens.specs.declared.TokenFault.{TokenFault}
use Rattle.tokens.specs.declared.TokenFault.TheVariants.{Unexpected, Malformed, TooLong}
use Rattle.tokens.specs.Numbers.{numeral, literal}
use Rattle.tokens.specs.Lexing.{token, named, starts_symbol, keyed, counted, written, before, tokens_from, tokens}
use Rattle.tokens.specs.Spelling.{Written, WordAt, part, NoSymbol, NoNumeral, NoLiteral, NamedAt, place_of, Wrong, Faulty}
use Rattle.tokens.proofs.WordRuns.{digit_word, class_only, symbol_starts, word-long}
use Rattle.tokens.proofs.Figures.{numeral-written, literal-written}
use Rattle.tokens.proofs.Only.{run_at, long, Lexed, lexed_by, never, next_lexed, next-token}
use Rattle.tokens.proofs.Tables.{fault, more}

word-run : (text : List ℕ) (p end : ℕ) → WordAt text p end → run (drop p text) ≡ end - p
word-run text p end w = run_at text p end w.ordered w.within w.words w.whole

no_start : (b : ℕ) (t : Bool) → starts_symbol (class_of b) ≡ t → belongs Symbol b ≡ false → t ≡ false
no_start b false e h = refl
no_start b true e h = absurd (both_ways (belongs Symbol b) h (symbol_starts b e))

unkeyed : (text : List ℕ) (p : ℕ) → p < length text → NoSymbol text (p + 1) → keyed text p ≡ Err (Unexpected p)
unkeyed text p h (inl e) =
    ap (λ v. cond (v && starts_symbol (class_of (get_or text (p + 1) 0))) (named Keyword (1 + run (drop (p + 1) text)) p) (Err (Unexpected p))) (le-ltb (p + 1) (length text) (omega arith))
unkeyed text p h (inr e) =
    ap (λ v. cond v (named Keyword (1 + run (drop (p + 1) text)) p) (Err (Unexpected p)))
    (and_right (ltb (p + 1) (length text)) (starts_symbol (class_of (get_or text (p + 1) 0))) (no_start (get_or text (p + 1) 0) (starts_symbol (class_of (get_or text (p + 1) 0))) refl e))

no_count : (bs : List ℕ) (n p : ℕ) → 0 < length bs → ((v : ℕ) → Written (Numeral v) bs → ⊥) → (o : Option ℕ) → numeral bs ≡ o → counted o n p ≡ Err (Malformed p)
no_count bs n p h not_so None e = refl
no_count bs n p h not_so (Some v) e = absurd (not_so v (numeral-written bs v h e))

no_value : (bs : List ℕ) (n p : ℕ) → ((w v : ℕ) → Written (Literal w v) bs → ⊥) → (o : Option (ℕ × ℕ)) → literal bs ≡ o → written o n p ≡ Err (Malformed p)
no_value bs n p not_so None e = refl
no_value bs n p not_so (Some v) e = absurd (not_so v.0 v.1 (literal-written bs v.0 v.1 e))

malformed : (text : List ℕ) (p : ℕ) → p < length text → NoNumeral text p ⊎ NoLiteral text p → Lexed text p (Err (Malformed p))
malformed text p h (inl (d, (end, w, not_so))) =
    let m = word-run text p end w in
    let some = word-long text p h (digit_word (is_letter (get_or text p 0)) (is_digit (get_or text p 0)) (is_mark (get_or text p 0)) d) in
    let full : 0 < length (part text p end) = omega (arith, long text p end w.within) in
    lexed_by text p (Err (Malformed p)) Digit d (λ e. never (cc)) (λ e. never (cc))
    (ap (λ z. counted (numeral (take z (drop p text))) z p) m ∙ no_count (part text p end) (end - p) p full not_so (numeral (part text p end)) refl)
malformed text p h (inr (d, (end, w, not_so))) =
    let m = word-run text (p + 1) end w in
    let n : 1 + run (drop (p + 1) text) ≡ end - p = omega (arith, w.ordered) in
    lexed_by text p (Err (Malformed p)) Hash (eq-eqb (get_or text p 0) 35 d) (λ e. never (cc)) (λ e. never (cc))
    (ap (λ z. written (literal (take z (drop p text))) z p) n ∙ no_value (part text p end) (end - p) p not_so (literal (part text p end)) refl)

named-long : (k : Kind) (n p : ℕ) → 64 < n → named k n p ≡ Err (TooLong p)
named-long k n p h = ap (λ v. cond v (Ok (token k p (p + n))) (Err (TooLong p))) (lt-leb n 64 h)

too_long : (text : List ℕ) (p end : ℕ) → p < length text → NamedAt text p end → 64 < end - p → Lexed text p (Err (TooLong p))
too_long text p end h (inl (s, w)) big =
    let m = word-run text p end w in
    lexed_by text p (Err (TooLong p)) Symbol s (λ e. never (cc)) (λ e. never (cc)) (named-long Name (run (drop p text)) p (omega arith))
too_long text p end h (inr (c, s, w)) big =
    let m = word-run text (p + 1) end w in
    let n : 64 < 1 + run (drop (p + 1) text) = omega (arith, w.ordered) in
    let inside : ltb (p + 1) (length text) ≡ true = lt-ltb (p + 1) (length text) (omega (arith, w.within)) in
    let starts = sym (ap starts_symbol (class_only (get_or text (p + 1) 0) Symbol s)) in
    lexed_by text p (Err (TooLong p)) Colon (eq-eqb (get_or text p 0) 58 c) (λ e. never (cc)) (λ e. never (cc))
    (ap (λ v. cond (v && starts_symbol (class_of (get_or text (p + 1) 0))) (named Keyword (1 + run (drop (p + 1) text)) p) (Err (Unexpected p))) inside
    ∙ ap (λ v. cond v (named Keyword (1 + run (drop (p + 1) text)) p) (Err (Unexpected p))) starts
    ∙ named-long Keyword (1 + run (drop (p + 1) text)) p n)

wrong_lexed : (text : List ℕ) (f : TokenFault) → place_of f < length text → Wrong text f → Lexed text (place_of f) (Err f)
wrong_lexed text (Unexpected p) h (inl s) = lexed_by text p (Err (Unexpected p)) Stray s (λ e. never (cc)) (λ e. never (cc)) refl
wrong_lexed text (Unexpected p) h (inr (c, n)) =
    lexed_by text p (Err (Unexpected p)) Colon (eq-eqb (get_or text p 0) 58 c) (λ e. never (cc)) (λ e. never (cc)) (unkeyed text p h n)
wrong_lexed text (Malformed p) h w = malformed text p h w
wrong_lexed text (TooLong p) h (end, n, big) = too_long text p end h n big

fault_from : (most : ℕ) (text : List ℕ) (at : ℕ) (ts : List Token) (f : TokenFault) → length text - at ≤ most → Faulty text at ts f → tokens_from most text at ≡ Err f
fault_from most text at [] f l r =
    let e = r.spelt in
    fault most text at f
    (next_lexed text at (place_of f) (Err f) (omega (arith, r.ordered)) r.within (subst (λ q. Gap (take (place_of f - q) (drop q text))) (sym e) r.gap) (wrong_lexed text f r.within r.wrong))
    (omega (arith, r.ordered, r.within))
fault_from zero text at (t ∷ ts) f l r = let (from, g, s, rest) = r.spelt in absurd (omega (arith, s.long, s.within))
fault_from (suc most) text at (t ∷ ts) f l r =
    let (from, g, s, rest) = r.spelt in
    more most text at t (next-token text at t from g s)
    ∙ ap (before (t ∷ [])) (fault_from most text t.end ts f (omega (arith, s.long, s.within)) (record { last = r.last; spelt = rest; ordered = r.ordered; gap = r.gap; within = r.within; wrong = r.wrong }))

pub fault_only : (text : List ℕ) (ts : List Token) (f : TokenFault) → Faulty text 0 ts f → tokens text ≡ Err f
fault_only text ts f r = fault_from (length text) text 0 ts f (omega arith) r
