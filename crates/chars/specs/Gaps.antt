-- What stands between tokens: blanks and comments.
use Rattle.std.specs.Prelude.{◌≡◌, ℕ, ◌<◌, true, false, ◌⊎◌, List, [], ◌∷◌, ◌++◌, length, take, ◌==◌, slice_index, slice_range}
use Rattle.chars.specs.Classes.{is_blank}
use Rattle.chars.specs.Runs.{is_line_end}

-- a comment's text: no byte of it ends a line
abbrev pub Comment : List ℕ → Type 0
Comment [] = Unit {0}
Comment (c ∷ cs) = (is_line_end c ≡ false) × Comment cs

-- blanks and ended comments
pub data Gap : List ℕ → Type 0 where
  none : Gap []
  blank : {b : ℕ} {bs : List ℕ} → is_blank b ≡ true → Gap bs → Gap (b ∷ bs)
  comment : (cs : List ℕ) (e : ℕ) (bs : List ℕ) → Comment cs → is_line_end e ≡ true → Gap bs → Gap (59 ∷ (cs ++ (e ∷ bs)))

-- what may stand behind the last token of a text: a gap, whose last comment may lack its line end
abbrev pub LastGap : List ℕ → Type 0
LastGap bs = Gap bs ⊎ ((g : List ℕ) × (cs : List ℕ) × (bs ≡ g ++ (59 ∷ cs)) × Gap g × Comment cs)

-- The first n bytes are a gap, and what follows begins no gap; or all is one.
abbrev pub Passed : ℕ → List ℕ → Type 0
Passed n s =
    ((n < length s) × Gap (take n s) × (is_blank (slice_index s n) ≡ false) × ((slice_index s n == 59) ≡ false))
    ⊎ ((n ≡ length s) × LastGap s)

-- What stands from `at` to `end` is a gap, and the byte at `end` begins none; or the text ends with it.
abbrev pub Skipped : List ℕ → ℕ → ℕ → Type 0
Skipped text at end =
    ((end < length text) × Gap (slice_range text at end) × (is_blank (slice_index text end) ≡ false) × ((slice_index text end == 59) ≡ false))
    ⊎ ((end ≡ length text) × LastGap (slice_range text at end))
