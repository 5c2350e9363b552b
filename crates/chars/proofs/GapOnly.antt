-- `gap` counts the whole of a gap.
use Rattle.std.proofs.Common.{◌≡◌, ℕ, suc, ◌+◌, Bool, true, false, cond, not, eqb, List, [], ◌∷◌, ◌++◌, length, sym, refl, ap, ◌∙◌, inl, inr, append_assoc, arith, length-append}
use Rattle.std.proofs.lemmas.List.{append-nil}
use Rattle.std.proofs.lemmas.Bool.Decides.{nat_tests}
use Rattle.chars.specs.Classes.{is_blank}
use Rattle.chars.specs.Runs.{is_line_end, gap}
use Rattle.chars.specs.Gaps.{Comment, Gap, none, blank, comment, LastGap}

-- the count at a byte outside comments and in one, by the byte's tests
outside : (b : ℕ) (s : List ℕ) (semi white : Bool) → eqb b 59 ≡ semi → is_blank b ≡ white → gap false (b ∷ s) ≡ cond semi (suc (gap true s)) (cond white (suc (gap false s)) 0)
outside b s semi white e h = rw (e, h)

inside : (b : ℕ) (s : List ℕ) (stop : Bool) → is_line_end b ≡ stop → gap true (b ∷ s) ≡ suc (gap (not stop) s)
inside b s stop e = rw e

blank_no_semicolon : (b : ℕ) → is_blank b ≡ true → eqb b 59 ≡ false
blank_no_semicolon b h = grind (arith, nat_tests)

ended_over : (cs : List ℕ) (e : ℕ) (s : List ℕ) → Comment cs → is_line_end e ≡ true → gap true (cs ++ (e ∷ s)) ≡ length cs + suc (gap false s)
ended_over [] e s c l = inside e s true l ∙ omega arith
ended_over (b ∷ cs) e s (h, c) l = inside b (cs ++ (e ∷ s)) false h ∙ omega (arith, ended_over cs e s c l)

comment_over : (cs : List ℕ) → Comment cs → gap true cs ≡ length cs
comment_over [] c = refl
comment_over (b ∷ cs) (h, c) = inside b cs false h ∙ ap suc (comment_over cs c)

-- a gap is counted whole, and then what follows
pub gap_over : {g : List ℕ} → Gap g → (s : List ℕ) → gap false (g ++ s) ≡ length g + gap false s
gap_over none s = omega arith
gap_over (blank {b} {bs} h g) s = outside b (bs ++ s) false true (blank_no_semicolon b h) h ∙ omega (arith, gap_over g s)
gap_over (comment cs e bs c l g) s =
    ap (λ z. suc (gap true z)) (append_assoc cs (e ∷ bs) s) ∙ omega (arith, ended_over cs e (bs ++ s) c l, gap_over g s, length-append cs (e ∷ bs))

-- no gap begins at a byte that is neither a blank nor a semicolon
pub no_gap : (b : ℕ) (s : List ℕ) → is_blank b ≡ false → eqb b 59 ≡ false → gap false (b ∷ s) ≡ 0
no_gap b s h e = outside b s false false e h

-- what may stand behind the last token is counted whole
pub last_gap_over : (s : List ℕ) → LastGap s → gap false s ≡ length s
last_gap_over s (inl g) = ap (gap false) (sym (append-nil s)) ∙ gap_over g [] ∙ omega arith
last_gap_over s (inr (g, cs, e, h, c)) =
    ap (gap false) e ∙ gap_over h (59 ∷ cs) ∙ omega (arith, comment_over cs c, length-append g (59 ∷ cs), ap length e)
