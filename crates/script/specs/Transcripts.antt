-- What is printed for a whole script.
use Rattle.std.specs.Prelude.{ℕ, Bool, cond, ◌&&◌, List, [], ◌∷◌, ◌++◌, length, ◌==◌, nat_lt}
use Rattle.page.specs.Pages.{complaint}
use Rattle.pieces.specs.Cuts.{pieces}
use Rattle.rules.specs.Records.{reading, asked}
use Rattle.rules.specs.Steps.{State, Given, Answer}
use Rattle.rules.specs.Table.{answer, step, is_exit, session}

-- A piece of a script is given as a command on a page of 8,192 bytes.
abbrev pub on : List ℕ → Given
on text = record { text = text; room = 8192 }

-- The command is an `exit`, and it was accepted.
abbrev pub exits : List ℕ → Answer → Bool
exits text a = a.number == 0 && is_exit (asked text (reading text))

-- The responses to pieces that are given in turn after the earlier commands, up to an accepted `exit`.
abbrev pub responses : List Given → List (List ℕ) → List ℕ
responses earlier [] = []
responses earlier (p ∷ ps) = (session earlier (on p)).bytes ++ cond (exits p (session earlier (on p))) [] (responses (earlier ++ on p ∷ []) ps)

-- The responses to the pieces of a script, given to a new session; a script of more than 65,536 bytes is refused whole.
abbrev pub transcript : List ℕ → List ℕ
transcript script = cond (nat_lt 65536 (length script)) (complaint 2 0) (responses [] (pieces script))

-- The same, from a state on.
abbrev pub responses_from : State → List (List ℕ) → List ℕ
responses_from s [] = []
responses_from s (p ∷ ps) = (answer s (on p)).bytes ++ cond (step s (on p)).ended [] (responses_from (step s (on p)) ps)
