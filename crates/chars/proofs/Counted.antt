-- How many bytes a run has, in the library's words.
use Rattle.std.proofs.Common.{◌≡◌, ℕ, cond, List, [], ◌∷◌, refl, ap, arith}
use Rattle.std.proofs.lemmas.List.{take_rest}
use Rattle.std.specs.List.{prefix_len}
use Rattle.chars.specs.Classes.{is_word}
use Rattle.chars.specs.Runs.{run}

pub run_counted : (s : List ℕ) → run s ≡ prefix_len is_word s
run_counted [] = refl
run_counted (b ∷ s) = ap (λ n. cond (is_word b) n 0) (omega (arith, run_counted s))

-- a run from a place of a text on
pub ruleset run_from = (run_counted, take_rest)
