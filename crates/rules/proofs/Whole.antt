-- The laws together.
use Rattle.std.proofs.Common.{◌≡◌, ℕ, ◌<◌, List, [], ◌∷◌, ◌++◌, sym, ap, ◌∙◌, subst, subst₂}
use Rattle.rules.specs.declared.Reply.{Reply}
use Rattle.rules.specs.Steps.{State, new_state, Given, Replied}
use Rattle.rules.specs.Table.{answer, step, run, session, refusal}
use Rattle.rules.specs.Laws.{Laws, InTurn, Stretch, StaysAbove, answers_after, record_after, push_zero}
use Rattle.rules.proofs.Walks.{run-append, run-then, situation-run, record_run, answers_replies, along, replies, Along}
use Rattle.rules.proofs.Strikes.{strikes}
use Rattle.rules.proofs.Stretches.{across, Kept}

depth-run : (gs : List Given) → (record_after session gs).depth ≡ (run new_state gs).stands.depth
depth-run gs = ap (λ r. r.depth) (record_run gs)

by_stretch : (before inside later : List Given) (first last : Given) → Stretch session before first inside last
    → answers_after session (before ++ first ∷ inside ++ last ∷ []) later ≡ answers_after session (before ++ record { text = push_zero; room = first.room } ∷ []) later
by_stretch before inside later first last h =
    let o = run new_state before in
    let s1 = step o first in
    let there : run new_state (before ++ first ∷ inside) ≡ run s1 inside = run-append new_state before (first ∷ inside) in
    let kept : Along (Kept o) s1 inside =
    subst (λ t. Along (Kept o) t inside) (run-then new_state before first)
    (along (StaysAbove session (record_after session before).depth) (Kept o)
    (λ e g x. (subst₂ (λ y z. y < z) (depth-run before) (depth-run (e ++ g ∷ []) ∙ ap (λ t. t.stands.depth) (run-then new_state e g)) x.above, x.no_exit))
    (before ++ first ∷ []) inside h.between) in
    let back : (step (run s1 inside) last).stands.depth ≡ o.stands.depth =
    ap (λ t. (step t last).stands.depth) (sym there) ∙ ap (λ t. t.stands.depth) (sym (run-then new_state (before ++ first ∷ inside) last)) ∙ sym (depth-run (before ++ first ∷ inside ++ last ∷ [])) ∙ h.back ∙ depth-run before in
    let same-state : run new_state (before ++ first ∷ inside ++ last ∷ []) ≡ run new_state (before ++ record { text = push_zero; room = first.room } ∷ []) =
    run-then new_state (before ++ first ∷ inside) last ∙ ap (λ t. step t last) there
    ∙ across o first last inside h.opens.1.0 h.opens.1.1.0 h.closes.1.0 h.closes.1.1.0 h.opens.0 h.opens.1.1.1 kept (subst (λ t. (refusal t last).0 ≡ 0) there h.closes.0) h.closes.1.1.1 back
    ∙ sym (run-then new_state before (record { text = push_zero; room = first.room })) in
    answers_replies (before ++ first ∷ inside ++ last ∷ []) later ∙ ap (λ t. replies t later) same-state ∙ sym (answers_replies (before ++ record { text = push_zero; room = first.room } ∷ []) later)

pub laws : Laws session
laws = record {
  table = λ earlier g. (ap (λ s. (refusal s g).0) (sym (situation-run earlier)), ap (λ s. (refusal s g).1) (sym (situation-run earlier)));
  strike = strikes;
  stretch = by_stretch;
}

-- a step and its answer, in turn
pub in-turn : {page page' : List ℕ} {r : Reply} (s s' : State) (g : Given) → s' ≡ step s g → Replied (answer s g) page page' r → InTurn s g page page' r s'
in-turn {page} {page'} {r} s s' g e h earlier from = (
  subst (λ t. Replied (answer t g) page page' r) from h,
  e ∙ ap (λ t. step t g) from ∙ sym (run-then new_state earlier g),
)
