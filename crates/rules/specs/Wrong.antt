-- Sessions that would be wrong, to hold the laws against.
use Rattle.std.specs.Prelude.{ℕ, cond, List, [], ◌∷◌, ◌==◌}
use Rattle.rules.specs.Steps.{State, new_state, Given}
use Rattle.rules.specs.Table.{refusal, answer, step}
use Rattle.rules.specs.Laws.{Behaviour, Laws}

-- It prints the error for a surplus pop, and pops all the same.
abbrev pub popped_anyway : State → Given → State
popped_anyway s g = cond ((refusal s g).0 == 32) (record { stands = record { logic = s.stands.logic; depth = 0 }; mode = s.mode; ended = s.ended }) (step s g)

abbrev pub run_anyway : State → List Given → State
run_anyway s [] = s
run_anyway s (g ∷ gs) = run_anyway (popped_anyway s g) gs

abbrev pub surplus : Behaviour
surplus earlier g = answer (run_anyway new_state earlier) g

-- It refuses every command.
abbrev pub refusing : Behaviour
refusing earlier g = record { number = 30; place = 0; bytes = [] }

-- It takes every command for the first one.
abbrev pub forgetful : Behaviour
forgetful earlier g = answer new_state g

-- The laws exclude it.
abbrev pub Fails : Behaviour → Type 0
Fails b = Laws b → ⊥

abbrev pub told : List ℕ → Given
told text = record { text = text; room = 8192 }
