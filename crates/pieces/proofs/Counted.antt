-- How many bytes an atom has, in the library's words.
use Rattle.std.proofs.Common.{◌≡◌, ℕ, ◌+◌, Bool, true, false, cond, not, List, [], ◌∷◌, refl, arith}
use Rattle.std.specs.List.{prefix_len}
use Rattle.pieces.specs.Cuts.{ends_atom, atom_length}

turned : (v : Bool) (m n : ℕ) → m ≡ 1 + n → cond v 0 m ≡ cond (not v) (1 + n) 0
turned true m n e = refl
turned false m n e = e

pub atom_counted : (s : List ℕ) → atom_length s ≡ prefix_len (λ b. not (ends_atom b)) s
atom_counted [] = refl
atom_counted (b ∷ s) = turned (ends_atom b) _ _ (omega (arith, atom_counted s))
