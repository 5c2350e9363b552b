-- What a piece is, from its length, and back.
use Rattle.std.proofs.Common.{◌≡◌, ℕ, zero, suc, ◌<◌, ◌≤◌, Bool, true, false, cond, eqb, List, [], ◌∷◌, ◌++◌, length, take, drop, sym, refl, ap, ◌∙◌, subst, inl, inr, arith, lit≤, eqb-true}
use Rattle.std.proofs.lemmas.List.{take_all, drop_all, append-nil}
use Rattle.std.proofs.lemmas.Bool.Decides.{nat_tests}
use Rattle.chars.specs.Classes.{is_blank}
use Rattle.pieces.specs.Cuts.{ends_atom, atom_length, list_length, piece_length}
use Rattle.pieces.specs.Laws.{Unclosed, ClosedList, OpenList, Atom, Stops, IsPiece, list, open_list, close, atom}
use Rattle.pieces.proofs.Parentheses.{Ahead, Closes, Stays, Ends, list_ends, closes-only, stays_only}

-- atoms
abbrev Atomic : List ℕ → ℕ → Type 0
Atomic s l = Atom (take l s) × Stops (drop l s) × (l ≤ length s)

atom-step : (b : ℕ) (s : List ℕ) (v : Bool) → ends_atom b ≡ v → Atomic s (atom_length s) → Atomic (b ∷ s) (cond v 0 (suc (atom_length s)))
atom-step b s true e a = (tt, e, omega arith)
atom-step b s false e (x, y, z) = ((e, x), y, omega arith)

atomic : (s : List ℕ) → Atomic s (atom_length s)
atomic [] = (tt, tt, omega arith)
atomic (b ∷ s) = atom-step b s (ends_atom b) refl (atomic s)

one-atom : (b : ℕ) (s : List ℕ) (v : Bool) → ends_atom b ≡ v → atom_length (b ∷ s) ≡ cond v 0 (suc (atom_length s))
one-atom b s v e = ap (λ w. cond w 0 (suc (atom_length s))) e

stopped : (s : List ℕ) → Stops s → atom_length s ≡ 0
stopped [] h = refl
stopped (b ∷ s) h = one-atom b s true h

atom-only : (p rest : List ℕ) → Atom p → Stops rest → atom_length (p ++ rest) ≡ length p
atom-only [] rest a s = stopped rest s
atom-only (b ∷ p) rest (h, a) s = one-atom b (p ++ rest) false h ∙ ap suc (atom-only p rest a s)

-- lists
later : (p : List ℕ) → ((k : ℕ) → k < length p → Ahead 1 false (take k p)) → (k : ℕ) → 0 < k → k < suc (length p) → Unclosed (take k (40 ∷ p))
later p a zero pos h = absurd (omega arith)
later p a (suc k) pos h = omega (arith, a k (omega arith))

closed-list : (p : List ℕ) → Closes 1 false p → ClosedList (40 ∷ p)
closed-list p (a, e) = record { first = refl; earlier = later p a; last = omega arith }

closed-back : (p : List ℕ) → ClosedList (40 ∷ p) → Closes 1 false p
closed-back p cl = (λ k h. omega (arith, cl.earlier (suc k) (omega arith) (omega arith)), omega (arith, cl.last))

never : (p : List ℕ) → Stays 1 false p → (k : ℕ) → 0 < k → k ≤ suc (length p) → Unclosed (take k (40 ∷ p))
never p a zero pos h = absurd (omega arith)
never p a (suc k) pos h = omega (arith, a k (omega arith))

open_back : (p : List ℕ) → OpenList (40 ∷ p) → Stays 1 false p
open_back p ol k h = omega (arith, ol.never (suc k) (omega arith) (omega arith))

-- The first l bytes are a piece.
abbrev pub Piecewise : List ℕ → ℕ → Type 0
Piecewise s l = IsPiece (take l s) (drop l s) × (0 < l) × (l ≤ length s)

listed : (s : List ℕ) (l : ℕ) → Ends 1 false s l → Piecewise (40 ∷ s) (suc l)
listed s l (inl (cl, le)) = (list (closed-list (take l s) cl), omega arith, omega arith)
listed s l (inr (e, st)) =
    let k : length s ≤ l = omega arith in
    (open_list (subst (λ z. OpenList (40 ∷ z)) (sym (take_all l s k)) (record { first = refl; never = never s st })) (drop_all l s k), omega arith, omega arith)

no_end : (b : ℕ) → is_blank b ≡ false → eqb b 59 ≡ false → eqb b 40 ≡ false → eqb b 41 ≡ false → ends_atom b ≡ false
no_end b h e f g = grind (arith, nat_tests)

by_byte : (b : ℕ) (s : List ℕ) (opens closes : Bool) → eqb b 40 ≡ opens → eqb b 41 ≡ closes → is_blank b ≡ false → eqb b 59 ≡ false
    → Piecewise (b ∷ s) (cond opens (suc (list_length 1 false s)) (cond closes 1 (atom_length (b ∷ s))))
by_byte b s true closes f g h e =
    subst (λ x. Piecewise (x ∷ s) (suc (list_length 1 false s))) (sym (eqb-true b 40 f)) (listed s (list_length 1 false s) (list_ends 1 false s (lit≤ tt)))
by_byte b s false true f g h e = (close (ap (λ x. x ∷ []) (eqb-true b 41 g)), omega arith, omega arith)
by_byte b s false false f g h e =
    let n = no_end b h e f g in
    let a = atomic s in
    subst (Piecewise (b ∷ s)) (sym (one-atom b s false n)) (atom (omega arith) (n, a.0) a.1, omega arith, omega arith)

pub piecewise : (b : ℕ) (s : List ℕ) → is_blank b ≡ false → eqb b 59 ≡ false → Piecewise (b ∷ s) (piece_length (b ∷ s))
piecewise b s h e = by_byte b s (eqb b 40) (eqb b 41) refl refl h e

-- A piece has a first byte, which begins no gap, and its length is the one that is measured.
abbrev pub Measured : List ℕ → List ℕ → Type 0
Measured p rest = (b : ℕ) × (s : List ℕ) × (p ≡ b ∷ s) × (is_blank b ≡ false) × (eqb b 59 ≡ false) × (piece_length (b ∷ (s ++ rest)) ≡ suc (length s))

pieceful : (b : ℕ) (s : List ℕ) → ends_atom b ≡ false → piece_length (b ∷ s) ≡ atom_length (b ∷ s)
pieceful b s n =
    let f : eqb b 40 ≡ false = grind (arith, nat_tests) in
    let g : eqb b 41 ≡ false = grind (arith, nat_tests) in
    ap (λ v. cond v (suc (list_length 1 false s)) (cond (eqb b 41) 1 (atom_length (b ∷ s)))) f ∙ ap (λ v. cond v 1 (atom_length (b ∷ s))) g

pub measured : (p rest : List ℕ) → IsPiece p rest → Measured p rest
measured [] rest (list cl) = absurd (omega (arith, cl.first))
measured (b ∷ s) rest (list cl) =
    let e = cl.first in
    let c = subst (λ x. ClosedList (x ∷ s)) e cl in
    (40, s, ap (λ x. x ∷ s) e, refl, refl, ap suc (closes-only 1 false s rest (lit≤ tt) (closed-back s c)))
measured [] rest (open_list ol r) = absurd (omega (arith, ol.first))
measured (b ∷ s) rest (open_list ol r) =
    let e = ol.first in
    let c = subst (λ x. OpenList (x ∷ s)) e ol in
    (40, s, ap (λ x. x ∷ s) e, refl, refl, ap (λ z. suc (list_length 1 false (s ++ z))) r ∙ ap (λ z. suc (list_length 1 false z)) (append-nil s) ∙ ap suc (stays_only 1 false s (lit≤ tt) (open_back s c)))
measured p rest (close e) = (41, [], e, refl, refl, refl)
measured [] rest (atom pos a st) = absurd (omega arith)
measured (b ∷ s) rest (atom pos (n, a) st) =
    (b, s, refl, grind (arith, nat_tests), grind (arith, nat_tests), pieceful b (s ++ rest) n ∙ one-atom b (s ++ rest) false n ∙ ap suc (atom-only s rest a st))
