-- Runs of characters at the front of a text.
use Rattle.std.specs.Prelude.{ℕ, suc, Bool, true, false, cond, not, ◌||◌, List, [], ◌∷◌, ◌==◌}
use Rattle.chars.specs.Classes.{is_blank, is_word}

-- a comment ends at a line feed or a carriage return
abbrev pub is_line_end : ℕ → Bool
is_line_end b = b == 10 || b == 13

-- How many bytes at the front are blanks and comments; the flag: the front lies in a comment.
abbrev pub gap : Bool → List ℕ → ℕ
gap c [] = 0
gap false (b ∷ bs) = cond (b == 59) (suc (gap true bs)) (cond (is_blank b) (suc (gap false bs)) 0)
gap true (b ∷ bs) = suc (gap (not (is_line_end b)) bs)

-- How many bytes at the front are symbol characters and digits.
abbrev pub run : List ℕ → ℕ
run [] = 0
run (b ∷ bs) = cond (is_word b) (suc (run bs)) 0
