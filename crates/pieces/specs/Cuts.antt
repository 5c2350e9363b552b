-- Cutting a script into pieces, step by step.
use Rattle.std.specs.Prelude.{◌≡◌, ℕ, zero, suc, ◌+◌, ◌-◌, ◌<◌, ◌≤◌, Bool, true, false, cond, not, ◌||◌, List, [], ◌∷◌, length, take, drop, Some, None, Option, ◌==◌, nat_lt}
use Rattle.chars.specs.Classes.{is_blank}
use Rattle.chars.specs.Runs.{is_line_end, gap}
use Rattle.pieces.specs.declared.Piece.{Piece}

-- a blank, a parenthesis, or the semicolon that begins a comment
abbrev pub ends_atom : ℕ → Bool
ends_atom b = is_blank b || b == 40 || b == 41 || b == 59

-- How many bytes at the front belong to an atom.
abbrev pub atom_length : List ℕ → ℕ
atom_length [] = 0
atom_length (b ∷ bs) = cond (ends_atom b) 0 (suc (atom_length bs))

-- How many bytes there are up to and with the parenthesis that closes the n open ones, or to the end
-- if there is none; the flag: the front lies in a comment.
abbrev pub list_length : ℕ → Bool → List ℕ → ℕ
list_length n c [] = 0
list_length n true (b ∷ bs) = suc (list_length n (not (is_line_end b)) bs)
list_length n false (b ∷ bs) =
    cond (b == 59) (suc (list_length n true bs))
    (cond (b == 40) (suc (list_length (n + 1) false bs))
    (cond (b == 41) (cond (n == 1) 1 (suc (list_length (n - 1) false bs)))
    (suc (list_length n false bs))))

-- How long the piece is that begins a text.
abbrev pub piece_length : List ℕ → ℕ
piece_length [] = 0
piece_length (b ∷ bs) = cond (b == 40) (suc (list_length 1 false bs)) (cond (b == 41) 1 (atom_length (b ∷ bs)))

-- The piece that begins at a place, if that lies in the script.
abbrev pub piece_at : List ℕ → ℕ → Option Piece
piece_at script from = cond (nat_lt from (length script)) (Some (record { from = from; end = from + piece_length (drop from script) })) None

-- The next piece at or behind a place.
abbrev pub piece : List ℕ → ℕ → Option Piece
piece script at = piece_at script (at + gap false (drop at script))

-- A piece lies behind `at`, has bytes, and ends in the script.
abbrev pub Within : List ℕ → ℕ → Option Piece → Type 0
Within script at None = Unit {0}
Within script at (Some p) = (at ≤ p.from) × (p.from < p.end) × (p.end ≤ length script)

-- the piece at the front, and what `next` makes of the rest
abbrev pub cut_off : (List ℕ → List (List ℕ)) → List ℕ → List (List ℕ)
cut_off next [] = []
cut_off next (b ∷ bs) = take (piece_length (b ∷ bs)) (b ∷ bs) ∷ next (drop (piece_length (b ∷ bs)) (b ∷ bs))

-- at most so many pieces
abbrev pub cut_up : ℕ → List ℕ → List (List ℕ)
cut_up zero s = []
cut_up (suc n) s = cut_off (cut_up n) (drop (gap false s) s)

-- All pieces of a script as texts. Each has a byte, so there are no more of them than bytes.
unfoldable pub pieces : List ℕ → List (List ℕ)
pieces s = cut_up (length s) s

-- The pieces of what is left of a script at a place.
abbrev pub pieces_from : List ℕ → ℕ → List (List ℕ)
pieces_from script at = pieces (drop at script)

-- the text of a piece
abbrev pub text_of : List ℕ → Piece → List ℕ
text_of script p = take (p.end - p.from) (drop p.from script)

-- The next piece is the first of those that are left; where there is none, none is left.
abbrev pub Next : List ℕ → ℕ → Option Piece → Type 0
Next script at None = pieces_from script at ≡ []
Next script at (Some p) = pieces_from script at ≡ text_of script p ∷ pieces_from script p.end
