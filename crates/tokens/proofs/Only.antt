-- Whatever tokens spell a text are the ones that are read.
use Rattle.std.proofs.Common.{◌≡◌, ℕ, zero, suc, ◌+◌, ◌-◌, ◌*◌, ◌<◌, ◌≤◌, Bool, true, false, cond, ◌&&◌, eqb, ltb, List, [], ◌∷◌, ◌++◌, length, get_or, take, drop, Some, None, Ok, Err, Option, Result, sym, refl, ap, ◌∙◌, subst, inl, inr, arith}
use Rattle.std.proofs.lemmas.List.{length-drop, length-take-le, take_all, get_or-drop, drop-drop, drop_more, drop_all, take-append-drop}
use Rattle.std.proofs.lemmas.Bool.{le-leb, lt-ltb, le-ltb, eq-eqb, and_parts}
use Rattle.std.proofs.lemmas.Bool.Decides.{nat_tests}
use Rattle.chars.specs.declared.Class.{Class}
use Rattle.chars.specs.declared.Class.TheVariants.{Blank, Open, Close, Semicolon, Hash, Colon, Digit, Symbol}
use Rattle.chars.specs.Classes.{is_blank, is_letter, is_digit, is_mark, is_word, class_of, belongs}
use Rattle.chars.specs.Runs.{gap, run}
use Rattle.chars.specs.Gaps.{Gap, none as no-gap-at-all, LastGap}
use Rattle.chars.proofs.GapOnly.{gap_over, no_gap, last_gap_over}
use Rattle.tokens.specs.declared.Kind.{Kind}
use Rattle.tokens.specs.declared.Kind.TheVariants.{Opening, Closing, Name, Keyword, Numeral, Literal}
use Rattle.tokens.specs.declared.Token.{Token}
use Rattle.tokens.specs.declared.TokenFault.{TokenFault}
use Rattle.tokens.specs.declared.TokenFault.TheVariants.{Unexpected, TooLong}
use Rattle.tokens.specs.Numbers.{all_digits, digit_of, digit_in, then, number_from, numeral, literal}
use Rattle.tokens.specs.Lexing.{token, named, starts_symbol, counted, written, lexeme, some, token_at, next, before, tokens_from, tokens}
use Rattle.tokens.specs.Spelling.{Words, Symbolic, LiteralText, Written, Runs, Whole, Stands, Spelt, part}
use Rattle.tokens.proofs.WordRuns.{part_cons, digit_word, class_only}
use Rattle.tokens.proofs.Figures.{none-some, numeral_taken, literal_taken}
use Rattle.tokens.proofs.Tables.{none, more}

-- a word that runs as far as it can is what `run` counts
run_exact : (s : List ℕ) (n : ℕ) → n ≤ length s → Words (take n s) → Runs s n → run s ≡ n
run_exact [] zero h w r = refl
run_exact [] (suc n) h w r = absurd (omega arith)
run_exact (b ∷ s) zero h w (inl e) = absurd (omega arith)
run_exact (b ∷ s) zero h w (inr e) = ap (λ v. cond v (suc (run s)) 0) e
run_exact (b ∷ s) (suc n) h (p, w) (inl e) = ap (λ v. cond v (suc (run s)) 0) p ∙ ap suc (run_exact s n (omega arith) w (inl (omega arith)))
run_exact (b ∷ s) (suc n) h (p, w) (inr e) = ap (λ v. cond v (suc (run s)) 0) p ∙ ap suc (run_exact s n (omega arith) w (inr e))

back : (text : List ℕ) (p end : ℕ) → p ≤ end → end ≤ length text → Runs text end → Runs (drop p text) (end - p)
back text p end h l (inl e) = inl (omega (arith, length-drop p text))
back text p end h l (inr e) =
    let k : p + (end - p) ≡ end = omega arith in
    inr (ap is_word (get_or-drop p text (end - p) 0 ∙ ap (λ z. get_or text z 0) k) ∙ e)

pub run_at : (text : List ℕ) (p end : ℕ) → p ≤ end → end ≤ length text → Words (part text p end) → Runs text end → run (drop p text) ≡ end - p
run_at text p end h l w r = run_exact (drop p text) (end - p) (omega (arith, length-drop p text)) w (back text p end h l r)

-- no gap begins at p, and what is read there is r
abbrev pub Lexed : List ℕ → ℕ → Result Token TokenFault → Type 0
Lexed text p r = (is_blank (get_or text p 0) ≡ false) × (eqb (get_or text p 0) 59 ≡ false) × (lexeme (class_of (get_or text p 0)) text p ≡ r)

apart : (b : ℕ) (c d : Class) → belongs c b ≡ true → (c ≡ d → ⊥) → (t : Bool) → belongs d b ≡ t → t ≡ false
apart b c d h n false e = refl
apart b c d h n true e = absurd (n (class_only b c h ∙ sym (class_only b d e)))

pub lexed_by : (text : List ℕ) (p : ℕ) (r : Result Token TokenFault) (c : Class) → belongs c (get_or text p 0) ≡ true → (c ≡ Blank → ⊥) → (c ≡ Semicolon → ⊥) → lexeme c text p ≡ r → Lexed text p r
lexed_by text p r c h nb ns e = (
  apart (get_or text p 0) c Blank h nb (is_blank (get_or text p 0)) refl,
  apart (get_or text p 0) c Semicolon h ns (eqb (get_or text p 0) 59) refl,
  ap (λ d. lexeme d text p) (sym (class_only (get_or text p 0) c h)) ∙ e,
)

-- the part's length, and its first byte
pub long : (text : List ℕ) (p end : ℕ) → end ≤ length text → length (part text p end) ≡ end - p
long text p end h = length-take-le (end - p) (drop p text) (omega (arith, length-drop p text))

first : (text : List ℕ) (p end b : ℕ) (rest : List ℕ) → end ≤ length text → part text p end ≡ b ∷ rest → (p < end) × (get_or text p 0 ≡ b) × (part text (p + 1) end ≡ rest)
first text p end b rest h e =
    let l : p < end = omega (arith, long text p end h, ap length e) in
    let c = sym (part_cons text p end (omega arith) l) ∙ e in
    (l, ap (λ z. get_or z 0 0) c, ap (drop 1) c)

one_byte : (text : List ℕ) (p end b : ℕ) → end ≤ length text → part text p end ≡ b ∷ [] → (get_or text p 0 ≡ b) × (p + 1 ≡ end)
one_byte text p end b h e = let f = first text p end b [] h e in (f.1, omega (arith, long text p end h, ap length e))

named_short : (k : Kind) (n p end : ℕ) → n ≤ 64 → p + n ≡ end → named k n p ≡ Ok (token k p end)
named_short k n p end h e = ap (λ v. cond v (Ok (token k p (p + n))) (Err (TooLong p))) (le-leb n 64 h) ∙ ap (λ z. Ok (token k p z)) e

pub never : ◌≡◌ {A = ℕ} 0 1 → ⊥
never e = omega arith

name_lexed : (text : List ℕ) (p end : ℕ) → p < end → end ≤ length text → Symbolic (part text p end) → length (part text p end) ≤ 64 → Runs text end → Lexed text p (Ok (token Name p end))
name_lexed text p end l h s short r =
    let c = part_cons text p end (omega arith) l in
    let sy = subst Symbolic c s in
    let n : run (drop p text) ≡ end - p = run_at text p end (omega arith) h (subst Words (sym c) sy.1) r in
    lexed_by text p (Ok (token Name p end)) Symbol sy.0 (λ e. never (cc)) (λ e. never (cc))
    (named_short Name (run (drop p text)) p end (omega (arith, long text p end h)) (omega arith))

symbolic_long : (bs : List ℕ) → Symbolic bs → 0 < length bs
symbolic_long [] s = absurd s
symbolic_long (b ∷ bs) s = omega arith

keyword_lexed : (text : List ℕ) (p end : ℕ) (rest : List ℕ) → end ≤ length text → part text p end ≡ 58 ∷ rest → Symbolic rest → length (part text p end) ≤ 64 → Runs text end
    → Lexed text p (Ok (token Keyword p end))
keyword_lexed text p end rest h e s short r =
    let f = first text p end 58 rest h e in
    let s' = subst Symbolic (sym f.2) s in
    let l : p + 1 < end = omega (arith, long text (p + 1) end h, symbolic_long (part text (p + 1) end) s') in
    let c = part_cons text (p + 1) end (omega arith) l in
    let sy = subst Symbolic c s' in
    let n : run (drop (p + 1) text) ≡ end - (p + 1) = run_at text (p + 1) end (omega arith) h (subst Words (sym c) sy.1) r in
    let starts = sym (ap starts_symbol (class_only (get_or text (p + 1) 0) Symbol sy.0)) in
    let k : 1 + run (drop (p + 1) text) ≤ 64 = omega (arith, long text p end h) in
    lexed_by text p (Ok (token Keyword p end)) Colon (eq-eqb (get_or text p 0) 58 f.1) (λ e. never (cc)) (λ e. never (cc))
    (ap (λ v. cond (v && starts_symbol (class_of (get_or text (p + 1) 0))) (named Keyword (1 + run (drop (p + 1) text)) p) (Err (Unexpected p))) (lt-ltb (p + 1) (length text) (omega arith))
    ∙ ap (λ v. cond v (named Keyword (1 + run (drop (p + 1) text)) p) (Err (Unexpected p))) starts
    ∙ named_short Keyword (1 + run (drop (p + 1) text)) p end k (omega arith))

digits_words : (bs : List ℕ) → all_digits bs ≡ true → Words bs
digits_words [] e = tt
digits_words (b ∷ bs) e = let h = and_parts (is_digit b) (all_digits bs) e in (digit_word (is_letter b) (is_digit b) (is_mark b) h.0, digits_words bs h.1)

numeral_lexed : (text : List ℕ) (p end n : ℕ) → p < end → end ≤ length text → Written (Numeral n) (part text p end) → Runs text end → Lexed text p (Ok (token (Numeral n) p end))
numeral_lexed text p end n l h w r =
    let c = part_cons text p end (omega arith) l in
    let d = and_parts (is_digit (get_or text p 0)) (all_digits (part text (p + 1) end)) (ap all_digits (sym c) ∙ w.0.1) in
    let m : run (drop p text) ≡ end - p = run_at text p end (omega arith) h (digits_words (part text p end) w.0.1) r in
    let k : p + (end - p) ≡ end = omega arith in
    lexed_by text p (Ok (token (Numeral n) p end)) Digit d.0 (λ e. never (cc)) (λ e. never (cc))
    (ap (λ z. counted (numeral (take z (drop p text))) z p) m ∙ ap (λ o. counted o (end - p) p) (numeral_taken (part text p end) n w) ∙ ap (λ z. Ok (token (Numeral n) p z)) k)

hex_word : (b d : ℕ) → digit_of b ≡ Some d → is_word b ≡ true
hex_word b d e = grind (arith, nat_tests)

then_some : (base n m : ℕ) (bs : List ℕ) (b : ℕ) → ((k : ℕ) → number_from base k bs ≡ Some m → Words bs) → (o : Option ℕ) → digit_of b ≡ o → then (digit_in base o) (λ d. number_from base (base * n + d) bs) ≡ Some m → Words (b ∷ bs)
then_some base n m bs b rest None e h = absurd (none-some h)
then_some base n m bs b rest (Some d) e h = under (ltb d base) h
  where
    under : (small : Bool) → then (cond small (Some d) None) (λ d. number_from base (base * n + d) bs) ≡ Some m → Words (b ∷ bs)
    under true h = (hex_word b d e, rest (base * n + d) h)
    under false h = absurd (none-some h)

number-words : (base n m : ℕ) (bs : List ℕ) → number_from base n bs ≡ Some m → Words bs
number-words base n m [] e = tt
number-words base n m (b ∷ bs) e = then_some base n m bs b (λ k. number-words base k m bs) (digit_of b) refl e

-- the letter behind `#`, and the digits
literal-words : (w n : ℕ) (bs : List ℕ) → LiteralText w n bs → (rest : List ℕ) × (bs ≡ 35 ∷ rest) × Words rest
literal-words w n bs (inl (ds, e, (h, d), k)) = (98 ∷ ds, e, (refl, number-words 2 0 n ds d))
literal-words w n bs (inr (ds, e, (h, d), k)) = (120 ∷ ds, e, (refl, number-words 16 0 n ds d))

literal_lexed : (text : List ℕ) (p end w v : ℕ) → end ≤ length text → Written (Literal w v) (part text p end) → Runs text end → Lexed text p (Ok (token (Literal w v) p end))
literal_lexed text p end w v h t r =
    let ws = literal-words w t.0 (part text p end) t.1 in
    let f = first text p end 35 ws.0 h ws.1 in
    let l = f.0 in
    let m : run (drop (p + 1) text) ≡ end - (p + 1) = run_at text (p + 1) end (omega arith) h (subst Words (sym f.2) ws.2) r in
    let n : 1 + run (drop (p + 1) text) ≡ end - p = omega arith in
    let k : p + (end - p) ≡ end = omega arith in
    lexed_by text p (Ok (token (Literal w v) p end)) Hash (eq-eqb (get_or text p 0) 35 f.1) (λ e. never (cc)) (λ e. never (cc))
    (ap (λ z. written (literal (take z (drop p text))) z p) n ∙ ap (λ o. written o (end - p) p) (literal_taken (part text p end) w v t) ∙ ap (λ z. Ok (token (Literal w v) p z)) k)

lexed : (text : List ℕ) (k : Kind) (p end : ℕ) → p < end → end ≤ length text → Written k (part text p end) → Whole k text end → Lexed text p (Ok (token k p end))
lexed text Opening p end l h w r =
    let b = one_byte text p end 40 h w in
    lexed_by text p (Ok (token Opening p end)) Open (eq-eqb (get_or text p 0) 40 b.0) (λ e. never (cc)) (λ e. never (cc)) (ap (λ z. Ok (token Opening p z)) b.1)
lexed text Closing p end l h w r =
    let b = one_byte text p end 41 h w in
    lexed_by text p (Ok (token Closing p end)) Close (eq-eqb (get_or text p 0) 41 b.0) (λ e. never (cc)) (λ e. never (cc)) (ap (λ z. Ok (token Closing p z)) b.1)
lexed text Name p end l h w r = name_lexed text p end l h w.0 w.1 r
lexed text Keyword p end l h w r = keyword_lexed text p end w.0 h w.1 w.2 w.3 r
lexed text (Numeral n) p end l h w r = numeral_lexed text p end n l h w r
lexed text (Literal x v) p end l h w r = literal_lexed text p end x v h w r

-- the gap before a token is counted whole
gap_to : (text : List ℕ) (at p : ℕ) → at ≤ p → p < length text → Gap (take (p - at) (drop at text)) → is_blank (get_or text p 0) ≡ false → eqb (get_or text p 0) 59 ≡ false
    → at + gap false (drop at text) ≡ p
gap_to text at p h l g nb ns =
    let k : at + (p - at) ≡ p = omega arith in
    let size = length-take-le (p - at) (drop at text) (omega (arith, length-drop at text)) in
    let tail : drop (p - at) (drop at text) ≡ get_or text p 0 ∷ drop (p + 1) text = drop-drop (p - at) at text ∙ ap (λ z. drop z text) k ∙ drop_more text p 0 l in
    let all : gap false (drop at text) ≡ gap false (take (p - at) (drop at text) ++ (get_or text p 0 ∷ drop (p + 1) text)) =
    ap (gap false) (sym (take-append-drop (p - at) (drop at text)) ∙ ap (λ z. take (p - at) (drop at text) ++ z) tail) in
    let over = gap_over g (get_or text p 0 ∷ drop (p + 1) text) in
    let stop = no_gap (get_or text p 0) (drop (p + 1) text) nb ns in
    omega arith

pub next_lexed : (text : List ℕ) (at p : ℕ) (r : Result Token TokenFault) → at ≤ p → p < length text → Gap (take (p - at) (drop at text)) → Lexed text p r → next text at ≡ some r
next_lexed text at p r h l g (nb, ns, e) =
    ap (token_at text) (gap_to text at p h l g nb ns)
    ∙ ap (λ v. cond v (some (lexeme (class_of (get_or text p 0)) text p)) (Ok None)) (lt-ltb p (length text) l)
    ∙ ap some e

pub next-token : (text : List ℕ) (at : ℕ) (t : Token) → at ≤ t.from → Gap (take (t.from - at) (drop at text)) → Stands text t → next text at ≡ Ok (Some t)
next-token text at t h g s =
    next_lexed text at t.from (Ok t) h (omega (arith, s.long, s.within)) g (lexed text t.kind t.from t.end s.long s.within s.is s.whole)

next_end : (text : List ℕ) (at : ℕ) → at ≤ length text → LastGap (drop at text) → next text at ≡ Ok None
next_end text at h g =
    let p = at + gap false (drop at text) in
    let k = last_gap_over (drop at text) g in
    ap (λ v. cond v (some (lexeme (class_of (get_or text p 0)) text p)) (Ok None)) (le-ltb p (length text) (omega (arith, length-drop at text)))

only_from : (most : ℕ) (text : List ℕ) (at : ℕ) (ts : List Token) → at ≤ length text → length text - at ≤ most → Spelt text at ts → tokens_from most text at ≡ Ok ts
only_from most text at [] h l s = none most text at (next_end text at h s)
only_from zero text at (t ∷ ts) h l (from, g, s, rest) = absurd (omega (arith, s.long, s.within))
only_from (suc most) text at (t ∷ ts) h l (from, g, s, rest) =
    more most text at t (next-token text at t from g s) ∙ ap (before (t ∷ [])) (only_from most text t.end ts s.within (omega (arith, s.long, s.within)) rest)

pub only : (text : List ℕ) (ts : List Token) → Spelt text 0 ts → tokens text ≡ Ok ts
only text ts s = only_from (length text) text 0 ts (omega arith) (omega arith) s

whole_end : (k : Kind) (text : List ℕ) → Whole k text (length text)
whole_end Opening text = tt
whole_end Closing text = tt
whole_end Name text = inl refl
whole_end Keyword text = inl refl
whole_end (Numeral n) text = inl refl
whole_end (Literal w v) text = inl refl

-- the text of one token is read as that token
pub one_token : (k : Kind) (text : List ℕ) → 0 < length text → Written k text → tokens text ≡ Ok (token k 0 (length text) ∷ [])
one_token k text h w =
    let all : part text 0 (length text) ≡ text = take_all (length text - 0) text (omega arith) in
    only text (token k 0 (length text) ∷ [])
    (omega arith, no-gap-at-all, record { long = h; within = omega arith; is = subst (Written k) (sym all) w; whole = whole_end k text }, subst LastGap (sym (drop_all (length text) text (omega arith))) (inl no-gap-at-all))
