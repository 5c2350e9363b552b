-- What `gap` counts is a gap.
use Rattle.std.proofs.Common.{◌≡◌, ℕ, suc, ◌+◌, ◌-◌, ◌<◌, ◌≤◌, Bool, true, false, cond, not, eqb, ◌⊎◌, List, [], ◌∷◌, ◌++◌, length, get_or, take, drop, sym, refl, ap, ◌∙◌, subst, inl, inr, append_assoc, arith, eqb-true}
use Rattle.std.proofs.lemmas.List.{length-drop, get_or-drop, take_all}
use Rattle.chars.specs.Classes.{is_blank}
use Rattle.chars.specs.Runs.{is_line_end, gap}
use Rattle.chars.specs.Gaps.{Comment, Gap, none, blank, comment, LastGap, Passed, Skipped}

-- the rest of a comment, and a gap behind it
abbrev In : List ℕ → Type 0
In s = (cs : List ℕ) × (e : ℕ) × (bs : List ℕ) × (s ≡ cs ++ (e ∷ bs)) × Comment cs × (is_line_end e ≡ true) × Gap bs

-- the same at the end of a text, where the comment may be the last
abbrev LastIn : List ℕ → Type 0
LastIn s = Comment s ⊎ ((cs : List ℕ) × (e : ℕ) × (bs : List ℕ) × (s ≡ cs ++ (e ∷ bs)) × Comment cs × (is_line_end e ≡ true) × LastGap bs)

abbrev PassedIn : ℕ → List ℕ → Type 0
PassedIn n s =
    ((n < length s) × In (take n s) × (is_blank (get_or s n 0) ≡ false) × (eqb (get_or s n 0) 59 ≡ false))
    ⊎ ((n ≡ length s) × LastIn s)

abbrev Pass : Bool → ℕ → List ℕ → Type 0
Pass false = Passed
Pass true = PassedIn

begun : (s : List ℕ) → In s → Gap (59 ∷ s)
begun s (cs, e, bs, p, c, l, g) = subst (λ z. Gap (59 ∷ z)) (sym p) (comment cs e bs c l g)

last_begun : (s : List ℕ) → LastIn s → LastGap (59 ∷ s)
last_begun s (inl c) = inr ([], s, refl, none, c)
last_begun s (inr (cs, e, bs, p, c, l, inl g)) = inl (begun s (cs, e, bs, p, c, l, g))
last_begun s (inr (cs, e, bs, p, c, l, inr (g, ds, q, h, d))) =
    inr (59 ∷ (cs ++ (e ∷ g)), ds, ap (λ z. 59 ∷ z) (p ∙ ap (λ z. cs ++ (e ∷ z)) q ∙ sym (append_assoc cs (e ∷ g) (59 ∷ ds))), comment cs e g c l h, d)

last-blank : (b : ℕ) (s : List ℕ) → is_blank b ≡ true → LastGap s → LastGap (b ∷ s)
last-blank b s h (inl g) = inl (blank h g)
last-blank b s h (inr (g, ds, q, k, d)) = inr (b ∷ g, ds, ap (λ z. b ∷ z) q, blank h k, d)

open_comment : (s : List ℕ) (n : ℕ) → PassedIn n s → Passed (suc n) (59 ∷ s)
open_comment s n (inl (lt, i, p, q)) = inl (omega arith, begun (take n s) i, p, q)
open_comment s n (inr (e, i)) = inr (ap suc e, last_begun s i)

one-blank : (b : ℕ) (s : List ℕ) (n : ℕ) → is_blank b ≡ true → Passed n s → Passed (suc n) (b ∷ s)
one-blank b s n h (inl (lt, g, p, q)) = inl (omega arith, blank h g, p, q)
one-blank b s n h (inr (e, g)) = inr (ap suc e, last-blank b s h g)

-- one more byte of the comment's text
inside : (b : ℕ) (s : List ℕ) (n : ℕ) → is_line_end b ≡ false → PassedIn n s → PassedIn (suc n) (b ∷ s)
inside b s n h (inl (lt, (cs, e, bs, p, c, l, g), u, v)) = inl (omega arith, (b ∷ cs, e, bs, ap (λ z. b ∷ z) p, (h, c), l, g), u, v)
inside b s n h (inr (m, inl c)) = inr (ap suc m, inl (h, c))
inside b s n h (inr (m, inr (cs, e, bs, p, c, l, g))) = inr (ap suc m, inr (b ∷ cs, e, bs, ap (λ z. b ∷ z) p, (h, c), l, g))

-- the comment's end
ended : (b : ℕ) (s : List ℕ) (n : ℕ) → is_line_end b ≡ true → Passed n s → PassedIn (suc n) (b ∷ s)
ended b s n h (inl (lt, g, p, q)) = inl (omega arith, ([], b, take n s, refl, tt, h, g), p, q)
ended b s n h (inr (m, g)) = inr (ap suc m, inr ([], b, s, refl, tt, h, g))

outside : (b : ℕ) (s : List ℕ) (semi white : Bool) → eqb b 59 ≡ semi → is_blank b ≡ white → Passed (gap false s) s → PassedIn (gap true s) s
    → Passed (cond semi (suc (gap true s)) (cond white (suc (gap false s)) 0)) (b ∷ s)
outside b s true white e h p i = subst (λ z. Passed (suc (gap true s)) (z ∷ s)) (sym (eqb-true b 59 e)) (open_comment s (gap true s) i)
outside b s false true e h p i = one-blank b s (gap false s) h p
outside b s false false e h p i = inl (omega arith, none, h, e)

within-comment : (b : ℕ) (s : List ℕ) (stop : Bool) → is_line_end b ≡ stop → Passed (gap false s) s → PassedIn (gap true s) s
    → PassedIn (suc (gap (not stop) s)) (b ∷ s)
within-comment b s true e p i = ended b s (gap false s) e p
within-comment b s false e p i = inside b s (gap true s) e i

pass : (c : Bool) (s : List ℕ) → Pass c (gap c s) s
pass false [] = inr (refl, inl none)
pass true [] = inr (refl, inl tt)
pass false (b ∷ s) = outside b s (eqb b 59) (is_blank b) refl refl (pass false s) (pass true s)
pass true (b ∷ s) = within-comment b s (is_line_end b) refl (pass false s) (pass true s)

pub gap_passed : (s : List ℕ) → Passed (gap false s) s
gap_passed s = pass false s

moved : (text : List ℕ) (at n : ℕ) → at ≤ length text → Passed n (drop at text) → Skipped text at (at + n)
moved text at n h (inl (lt, g, p, q)) =
    let d = length-drop at text in
    let k : at + n - at ≡ n = omega arith in
    inl (omega arith, subst (λ z. Gap (take z (drop at text))) (sym k) g, rw get_or-drop at p, rw get_or-drop at q)
moved text at n h (inr (e, g)) =
    let d = length-drop at text in
    let k : length (drop at text) ≤ at + n - at = omega arith in
    inr (omega arith, subst LastGap (sym (take_all (at + n - at) (drop at text) k)) g)

pub gap_skipped : (text : List ℕ) (at end : ℕ) → at ≤ length text → end ≡ at + gap false (drop at text) → Skipped text at end
gap_skipped text at end h e = subst (Skipped text at) (sym e) (moved text at (gap false (drop at text)) h (gap_passed (drop at text)))
