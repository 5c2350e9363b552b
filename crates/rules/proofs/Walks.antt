-- From lists of commands to states: what the laws say of earlier commands is what the state says.
use Rattle.std.proofs.Common.{◌≡◌, List, [], ◌∷◌, ◌++◌, refl, ap, ◌∙◌, subst}
use Rattle.rules.specs.Steps.{State, new_state, Given, Answer}
use Rattle.rules.specs.Table.{answer, learn, step, run, session}
use Rattle.rules.specs.Laws.{answers_after, answers, fed, record_after, learnt, situation, Throughout}

-- the answers from a state on
abbrev pub replies : State → List Given → List Answer
replies s [] = []
replies s (g ∷ gs) = answer s g ∷ replies (step s g) gs

-- each command, given in turn from a state on, is as Q says
abbrev pub Along : (State → Given → Type 0) → State → List Given → Type 0
Along Q s [] = Unit {0}
Along Q s (g ∷ gs) = Q s g × Along Q (step s g) gs

pub run-append : (s : State) (xs ys : List Given) → run s (xs ++ ys) ≡ run (run s xs) ys
run-append s [] ys = refl
run-append s (x ∷ xs) ys = run-append (step s x) xs ys

pub run-then : (s : State) (xs : List Given) (g : Given) → run s (xs ++ g ∷ []) ≡ step (run s xs) g
run-then s xs g = run-append s xs (g ∷ [])

fed-learnt : (s : State) (gs : List Given) (xs : List Answer) → fed s.stands gs xs ≡ (learnt s gs xs).stands
fed-learnt s [] xs = refl
fed-learnt s (g ∷ gs) [] = refl
fed-learnt s (g ∷ gs) (a ∷ xs) = fed-learnt (learn s g.text a.number) gs xs

learnt-run : (e gs : List Given) → learnt (run new_state e) gs (answers_after session e gs) ≡ run (run new_state e) gs
learnt-run e [] = refl
learnt-run e (g ∷ gs) = subst (λ s. learnt s gs (answers_after session (e ++ g ∷ []) gs) ≡ run s gs) (run-then new_state e g) (learnt-run (e ++ g ∷ []) gs)

pub situation-run : (gs : List Given) → situation session gs ≡ run new_state gs
situation-run gs = learnt-run [] gs

pub record_run : (gs : List Given) → record_after session gs ≡ (run new_state gs).stands
record_run gs = fed-learnt new_state gs (answers session gs) ∙ ap (λ s. s.stands) (situation-run gs)

pub answers_replies : (e gs : List Given) → answers_after session e gs ≡ replies (run new_state e) gs
answers_replies e [] = refl
answers_replies e (g ∷ gs) = ap (λ rest. session e g ∷ rest) (answers_replies (e ++ g ∷ []) gs ∙ ap (λ s. replies s gs) (run-then new_state e g))

pub along : (P : List Given → Given → Type 0) (Q : State → Given → Type 0) → ((e : List Given) (g : Given) → P e g → Q (run new_state e) g) → (e gs : List Given) → Throughout P e gs → Along Q (run new_state e) gs
along P Q f e [] h = tt
along P Q f e (g ∷ gs) h = (f e g h.0, subst (λ s. Along Q s gs) (run-then new_state e g) (along P Q f (e ++ g ∷ []) gs h.1))
