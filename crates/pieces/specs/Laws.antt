-- What the pieces of a script are.
use Rattle.std.specs.Prelude.{◌≡◌, ℕ, suc, ◌<◌, ◌≤◌, Bool, true, false, cond, not, List, [], ◌∷◌, ◌++◌, length, take, ◌==◌, slice_index_or}
use Rattle.chars.specs.Runs.{is_line_end}
use Rattle.chars.specs.Gaps.{Gap, LastGap}
use Rattle.pieces.specs.Cuts.{ends_atom, pieces}

-- How often the byte x stands outside comments; the flag: the front lies in a comment.
abbrev pub count : ℕ → Bool → List ℕ → ℕ
count x c [] = 0
count x true (b ∷ bs) = count x (not (is_line_end b)) bs
count x false (b ∷ bs) = cond (b == 59) (count x true bs) (cond (b == x) (suc (count x false bs)) (count x false bs))

-- fewer parentheses are closed than opened
abbrev pub Unclosed : List ℕ → Type 0
Unclosed s = count 41 false s < count 40 false s

-- an opening parenthesis, and as many are closed as opened at the last byte, and no earlier
pub record ClosedList (p : List ℕ) : Type 0 where
  pub first : slice_index_or p 0 0 ≡ 40
  pub earlier : (k : ℕ) → 0 < k → k < length p → Unclosed (take k p)
  pub last : count 41 false p ≡ count 40 false p

-- an opening parenthesis, and nowhere as many are closed as opened
pub record OpenList (p : List ℕ) : Type 0 where
  pub first : slice_index_or p 0 0 ≡ 40
  pub never : (k : ℕ) → 0 < k → k ≤ length p → Unclosed (take k p)

-- no blank, parenthesis or semicolon
abbrev pub Atom : List ℕ → Type 0
Atom [] = Unit {0}
Atom (b ∷ bs) = (ends_atom b ≡ false) × Atom bs

-- nothing, or a byte that ends an atom
abbrev pub Stops : List ℕ → Type 0
Stops [] = Unit {0}
Stops (b ∷ bs) = ends_atom b ≡ true

-- What a piece p may be before the rest of the script.
pub data IsPiece (p rest : List ℕ) : Type 0 where
  list : ClosedList p → IsPiece p rest
  open_list : OpenList p → rest ≡ [] → IsPiece p rest
  close : p ≡ 41 ∷ [] → IsPiece p rest
  atom : 0 < length p → Atom p → Stops rest → IsPiece p rest

-- The script is these pieces with gaps before and between them, and behind the last.
abbrev pub Cut : List ℕ → List (List ℕ) → Type 0
Cut script [] = LastGap script
Cut script (p ∷ ps) = (g : List ℕ) × (rest : List ℕ) × (script ≡ g ++ (p ++ rest)) × Gap g × IsPiece p rest × Cut rest ps

-- The script is cut into its pieces, and in no other way.
pub record OnlyCut (script : List ℕ) : Type 0 where
  pub cut : Cut script (pieces script)
  pub only : (ps : List (List ℕ)) → Cut script ps → ps ≡ pieces script
