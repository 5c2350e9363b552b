-- A script is cut into its pieces, and in no other way.
use Rattle.std.proofs.Common.{◌≡◌, ℕ, zero, suc, ◌+◌, ◌<◌, ◌≤◌, false, List, [], ◌∷◌, ◌++◌, length, get_or, take, drop, sym, refl, ap, ◌∙◌, subst, inl, inr, arith, length-append, length-drop}
use Rattle.std.proofs.lemmas.List.{take-append-drop, take_at, drop_at, drop_all, drop_more, nil_from_length}
use Rattle.chars.specs.Runs.{gap}
use Rattle.chars.specs.Gaps.{Gap, none, LastGap, Passed}
use Rattle.chars.proofs.GapSpelt.{gap_passed}
use Rattle.chars.proofs.GapOnly.{gap_over, no_gap, last_gap_over}
use Rattle.pieces.specs.Cuts.{piece_length, cut_off, cut_up, pieces}
use Rattle.pieces.specs.Laws.{Cut, OnlyCut}
use Rattle.pieces.proofs.Atoms.{piecewise, Measured, measured}

cut_on : (n : ℕ) (s : List ℕ) → length s ≤ suc n → Passed (gap false s) s → ((t : List ℕ) → length t ≤ n → Cut t (cut_up n t)) → Cut s (cut_up (suc n) s)
cut_on n s h (inl (lt, g, nb, ns)) ih =
    let i = gap false s in
    let b = get_or s i 0 in
    let q = drop (i + 1) s in
    let d : drop i s ≡ b ∷ q = drop_more s i 0 lt in
    let l = piece_length (b ∷ q) in
    let w = piecewise b q nb ns in
    let short : length (drop l (b ∷ q)) ≤ n = omega (arith, length-drop l (b ∷ q), length-drop i s, ap length d, w.1) in
    let whole : s ≡ take i s ++ (take l (b ∷ q) ++ drop l (b ∷ q)) = sym (take-append-drop i s) ∙ ap (λ z. take i s ++ z) (d ∙ sym (take-append-drop l (b ∷ q))) in
    subst (λ z. Cut s (cut_off (cut_up n) z)) (sym d) (take i s, drop l (b ∷ q), whole, g, w.0, ih (drop l (b ∷ q)) short)
cut_on n s h (inr (e, g)) ih =
    let k : length s ≤ gap false s = omega arith in
    subst (λ z. Cut s (cut_off (cut_up n) z)) (sym (drop_all (gap false s) s k)) g

pub cut_up_lem : (n : ℕ) (s : List ℕ) → length s ≤ n → Cut s (cut_up n s)
cut_up_lem zero s h = let k : length s ≡ 0 = omega arith in subst (λ z. Cut z []) (sym (nil_from_length s k)) (inl none)
cut_up_lem (suc n) s h = cut_on n s h (gap_passed s) (λ t k. cut_up_lem n t k)

-- one piece behind a gap
first-is : (n : ℕ) (g : List ℕ) (b : ℕ) (s rest : List ℕ) → gap false (g ++ ((b ∷ s) ++ rest)) ≡ length g → piece_length (b ∷ (s ++ rest)) ≡ suc (length s)
    → cut_up (suc n) (g ++ ((b ∷ s) ++ rest)) ≡ (b ∷ s) ∷ cut_up n rest
first-is n g b s rest e f =
    let t = b ∷ (s ++ rest) in
    ap (λ k. cut_off (cut_up n) (drop k (g ++ t))) e
    ∙ ap (cut_off (cut_up n)) (drop_at g t (length g) refl)
    ∙ ap (λ k. take k t ∷ cut_up n (drop k t)) f
    ∙ ap (λ z. z ∷ cut_up n (drop (suc (length s)) t)) (take_at (b ∷ s) rest (suc (length s)) refl)
    ∙ ap (λ z. (b ∷ s) ∷ cut_up n z) (drop_at (b ∷ s) rest (suc (length s)) refl)

behind : (n : ℕ) (g p rest : List ℕ) → Gap g → Measured p rest → cut_up (suc n) (g ++ (p ++ rest)) ≡ p ∷ cut_up n rest
behind n g p rest h (b, s, e, nb, ns, m) =
    subst (λ z. cut_up (suc n) (g ++ (z ++ rest)) ≡ z ∷ cut_up n rest) (sym e)
    (first-is n g b s rest (gap_over h (b ∷ (s ++ rest)) ∙ omega (arith, no_gap b (s ++ rest) nb ns)) m)

measured_some : (p rest : List ℕ) → Measured p rest → 0 < length p
measured_some p rest (b, s, e, nb, ns, m) = omega (arith, ap length e)

nothing_left : (n : ℕ) (s : List ℕ) → LastGap s → [] ≡ cut_up n s
nothing_left zero s g = refl
nothing_left (suc n) s g =
    let e = last_gap_over s g in
    let k : length s ≤ gap false s = omega arith in
    ap (cut_off (cut_up n)) (sym (drop_all (gap false s) s k))

pub cut-only : (ps : List (List ℕ)) (n : ℕ) (s : List ℕ) → length s ≤ n → Cut s ps → ps ≡ cut_up n s
cut-only [] n s h g = nothing_left n s g
cut-only (p ∷ ps) zero s h (g, rest, e, k, w, c) =
    absurd (omega (arith, measured_some p rest (measured p rest w), ap length e, length-append g (p ++ rest), length-append p rest))
cut-only (p ∷ ps) (suc n) s h (g, rest, e, k, w, c) =
    let m = measured p rest w in
    let short : length rest ≤ n = omega (arith, measured_some p rest m, ap length e, length-append g (p ++ rest), length-append p rest) in
    ap (λ z. p ∷ z) (cut-only ps n rest short c) ∙ sym (behind n g p rest k m) ∙ ap (cut_up (suc n)) (sym e)

pub only_cut : (script : List ℕ) → OnlyCut script
unfolding pieces
only_cut script = record { cut = cut_up_lem (length script) script (omega arith); only = λ ps c. cut-only ps (length script) script (omega arith) c }
