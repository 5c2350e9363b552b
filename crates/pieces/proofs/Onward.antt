-- From piece to piece of a script.
use Rattle.std.proofs.Common.{◌≡◌, ℕ, suc, ◌+◌, ◌-◌, ◌<◌, ◌≤◌, Bool, true, false, cond, ltb, List, [], ◌∷◌, length, get_or, take, drop, Some, None, Option, sym, refl, ap, ◌∙◌, subst, inl, inr, arith, length-drop, ltb-false, ltb-true}
use Rattle.std.proofs.lemmas.List.{drop-drop, drop_all, drop_more}
use Rattle.chars.specs.Runs.{gap}
use Rattle.chars.specs.Gaps.{Skipped}
use Rattle.chars.proofs.GapSpelt.{gap_skipped}
use Rattle.pieces.specs.declared.Piece.{Piece}
use Rattle.pieces.specs.Cuts.{piece_length, piece_at, piece, Within, cut_off, cut_up, pieces, pieces_from, text_of, Next}
use Rattle.pieces.proofs.Atoms.{Piecewise, piecewise}
use Rattle.pieces.proofs.CutLaw.{cut_up_lem, cut-only}

-- any bound that is large enough gives all pieces
enough : (n : ℕ) (s : List ℕ) → length s ≤ n → pieces s ≡ cut_up n s
unfolding pieces
enough n s h = cut-only (cut_up (length s) s) n s h (cut_up_lem (length s) s (omega arith))

cut-some : (next : List ℕ → List (List ℕ)) (q : List ℕ) → 0 < length q → cut_off next q ≡ take (piece_length q) q ∷ next (drop (piece_length q) q)
cut-some next [] h = absurd (omega arith)
cut-some next (b ∷ q) h = refl

-- the pieces from a place, by the first one behind its gap
from_gap : (script : List ℕ) (at : ℕ) → pieces_from script at ≡ cut_off (cut_up (length script)) (drop (at + gap false (drop at script)) script)
from_gap script at =
    enough (suc (length script)) (drop at script) (omega (arith, length-drop at script))
    ∙ ap (cut_off (cut_up (length script))) (drop-drop (gap false (drop at script)) at script)

from_here : (script : List ℕ) (from l : ℕ) → from < length script → l ≡ piece_length (drop from script)
    → cut_off (cut_up (length script)) (drop from script) ≡ take (from + l - from) (drop from script) ∷ pieces_from script (from + l)
from_here script from l h e =
    let k : from + l - from ≡ l = omega arith in
    cut-some (cut_up (length script)) (drop from script) (omega (arith, length-drop from script))
    ∙ ap (λ j. take j (drop from script) ∷ cut_up (length script) (drop j (drop from script))) (sym e)
    ∙ ap (λ z. take l (drop from script) ∷ cut_up (length script) z) (drop-drop l from script)
    ∙ ap (λ z. take l (drop from script) ∷ z) (sym (enough (length script) (drop (from + l) script) (omega (arith, length-drop (from + l) script))))
    ∙ ap (λ j. take j (drop from script) ∷ pieces_from script (from + l)) (sym k)

-- What the next piece is, from the place behind the gap.
abbrev Found : List ℕ → ℕ → Option Piece → Type 0
Found script from None = length script ≤ from
Found script from (Some p) = (p.from ≡ from) × (from < length script) × (p.end ≡ from + piece_length (drop from script))

found_by : (script : List ℕ) (from : ℕ) (b : Bool) → ltb from (length script) ≡ b
    → Found script from (cond b (Some (record { from = from; end = from + piece_length (drop from script) })) None)
found_by script from true e = (refl, ltb-true from (length script) e, refl)
found_by script from false e = ltb-false from (length script) e

found_at : (script : List ℕ) (from : ℕ) → Found script from (piece_at script from)
found_at script from = found_by script from (ltb from (length script)) refl

-- the next piece is the first of those that are left
pub next-some : (script : List ℕ) (at : ℕ) (p : Piece) → piece script at ≡ Some p → pieces_from script at ≡ text_of script p ∷ pieces_from script p.end
next-some script at p e =
    let from = at + gap false (drop at script) in
    let f = subst (Found script from) e (found_at script from) in
    from_gap script at ∙ from_here script from (piece_length (drop from script)) f.1 refl
    ∙ ap (λ x. take (x - from) (drop from script) ∷ pieces_from script x) (sym f.2)
    ∙ ap (λ x. take (p.end - x) (drop x script) ∷ pieces_from script p.end) (sym f.0)

-- where there is no next piece, none is left
pub next-none : (script : List ℕ) (at : ℕ) → piece script at ≡ None → pieces_from script at ≡ []
next-none script at e =
    let from = at + gap false (drop at script) in
    let f = subst (Found script from) e (found_at script from) in
    from_gap script at ∙ ap (cut_off (cut_up (length script))) (drop_all from script f)

pub next-pieces : (script : List ℕ) (at : ℕ) (r : Option Piece) → r ≡ piece script at → Next script at r
next-pieces script at None e = next-none script at (sym e)
next-pieces script at (Some p) e = next-some script at p (sym e)

pub from_start : (script : List ℕ) → pieces_from script 0 ≡ pieces script
from_start script = refl

within_by : (script : List ℕ) (at from : ℕ) (r : Option Piece) → at ≤ from → Skipped script at from → Found script from r → Within script at r
within_by script at from None h sk f = tt
within_by script at from (Some p) h (inl (lt, g, nb, ns)) (a, lt', c) =
    let d : drop from script ≡ get_or script from 0 ∷ drop (from + 1) script = drop_more script from 0 lt in
    let w = subst (λ z. Piecewise z (piece_length z)) (sym d) (piecewise (get_or script from 0) (drop (from + 1) script) nb ns) in
    (omega arith, omega (arith, w.1), omega (arith, w.2, length-drop from script))
within_by script at from (Some p) h (inr (e, g)) (a, lt, c) = absurd (omega arith)

pub piece-within : (script : List ℕ) (at : ℕ) (r : Option Piece) → at ≤ length script → r ≡ piece script at → Within script at r
piece-within script at r h e =
    let from = at + gap false (drop at script) in
    subst (Within script at) (sym e) (within_by script at from (piece script at) (omega arith) (gap_skipped script at from h refl) (found_at script from))
