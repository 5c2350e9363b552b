use Rattle.std.proofs.Common.{◌≡◌, false, ◌++◌, length, vec_items}
use Rattle.session.specs.Views.{view}
use Rattle.script.specs.Transcripts.{responses_from, transcript}
use Rattle.script.proofs.answer_script.Given as goal

abbrev pub invariant-loop-piece : goal.invariant-loop-piece
invariant-loop-piece l =
    (length l.page ≡ 8192)
    × ((view l.session).ended ≡ false)
    × (vec_items l.out ++ responses_from (view l.session) l.piece-iterator ≡ transcript l.script)
