use Rattle.std.proofs.Common.{◌++◌, refl, ap, ◌∙◌, rules}
use Rattle.rules.specs.Steps.{new_state}
use Rattle.session.specs.Views.{view}
use Rattle.script.specs.Transcripts.{responses_from}
use Rattle.script.proofs.Printing.{begins}
use Rattle.script.proofs.answer_script.Goals as goal

pub loop-piece-init : goal.loop-piece-init
loop-piece-init c = (
  refl,
  ap (λ s. s.ended) c.new-session.ensures.view,
  ap (λ v. v ++ responses_from (view c.new-session.result) c.into_iter-piece-iterator.result) c.new-out.ensures.items
      ∙ ap (λ s. responses_from s c.into_iter-piece-iterator.result) c.new-session.ensures.view
      ∙ ap (responses_from new_state) (c.into_iter-piece-iterator.ensures.into_iter_gives ∙ c.cut-piece-items.ensures.value)
      ∙ begins c.args.script.now (search rules),
)
