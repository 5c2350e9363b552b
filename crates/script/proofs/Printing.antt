-- What is printed piece by piece is the transcript.
use Rattle.std.proofs.Common.{◌≡◌, ℕ, Bool, true, false, cond, ◌||◌, ltb, List, [], ◌∷◌, ◌++◌, length, sym, refl, ap, ◌∙◌}
use Rattle.page.specs.Pages.{complaint}
use Rattle.pieces.specs.Cuts.{pieces}
use Rattle.rules.specs.Steps.{State, new_state, Given}
use Rattle.rules.specs.Table.{answer, step, run, session}
use Rattle.rules.proofs.Walks.{run-then}
use Rattle.script.specs.Transcripts.{on, exits, responses, transcript, responses_from}

ended-exits : (s : State) (text : List ℕ) → s.ended ≡ false → (step s (on text)).ended ≡ exits text (answer s (on text))
ended-exits s text h = ap (λ b. b || exits text (answer s (on text))) h

-- from the state that earlier commands leave
pub same-responses : (earlier : List Given) (ps : List (List ℕ)) → (run new_state earlier).ended ≡ false → responses_from (run new_state earlier) ps ≡ responses earlier ps
same-responses earlier [] h = refl
same-responses earlier (p ∷ ps) h =
    go (exits p (session earlier (on p))) (ended-exits (run new_state earlier) p h)
    (λ e. ap (λ s. responses_from s ps) (sym (run-then new_state earlier (on p))) ∙ same-responses (earlier ++ on p ∷ []) ps (ap (λ s. s.ended) (run-then new_state earlier (on p)) ∙ e))
  where
    go : (b : Bool) → (step (run new_state earlier) (on p)).ended ≡ b → ((step (run new_state earlier) (on p)).ended ≡ false → responses_from (step (run new_state earlier) (on p)) ps ≡ responses (earlier ++ on p ∷ []) ps) → responses_from (run new_state earlier) (p ∷ ps) ≡ (session earlier (on p)).bytes ++ cond b [] (responses (earlier ++ on p ∷ []) ps)
    go true e k = ap (λ b. (session earlier (on p)).bytes ++ cond b [] (responses_from (step (run new_state earlier) (on p)) ps)) e
    go false e k = ap (λ b. (session earlier (on p)).bytes ++ cond b [] (responses_from (step (run new_state earlier) (on p)) ps)) e ∙ ap (λ l. (session earlier (on p)).bytes ++ l) (k e)

pub begins : (script : List ℕ) → ltb 65536 (length script) ≡ false → responses_from new_state (pieces script) ≡ transcript script
begins script h = same-responses [] (pieces script) refl ∙ sym (ap (λ b. cond b (complaint 2 0) (responses [] (pieces script))) h)
