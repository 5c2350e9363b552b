-- Striking refused commands changes no other answer.
use Rattle.std.proofs.Common.{◌≡◌, Bool, true, false, List, [], ◌∷◌, sym, refl, ap, ◌∙◌, subst}
use Rattle.rules.specs.Steps.{State, new_state, Given}
use Rattle.rules.specs.Table.{answer, step, session}
use Rattle.rules.specs.Laws.{answers, left, OnlyRefused}
use Rattle.rules.proofs.Walks.{replies, answers_replies}
use Rattle.rules.proofs.Acceptance.{refused-same}

struck : (s : State) (ks : List Bool) (gs : List Given) → OnlyRefused ks (replies s gs) → replies s (left ks gs) ≡ left ks (replies s gs)
struck s [] gs h = refl
struck s (k ∷ ks) [] h = refl
struck s (true ∷ ks) (g ∷ gs) h = ap (λ xs. answer s g ∷ xs) (struck (step s g) ks gs h)
struck s (false ∷ ks) (g ∷ gs) h = ap (λ t. replies t (left ks gs)) (sym (refused-same s g h.0)) ∙ struck (step s g) ks gs h.1

pub strikes : (all : List Given) (marks : List Bool) → OnlyRefused marks (answers session all) → answers session (left marks all) ≡ left marks (answers session all)
strikes all marks h =
    let e = answers_replies [] all in
    answers_replies [] (left marks all) ∙ struck new_state marks all (subst (OnlyRefused marks) e h) ∙ ap (left marks) (sym e)
