use Rattle.std.proofs.Common.{eqb, rules, ◌∙◌}
use Rattle.std.proofs.lemmas.Iterator.{YieldsList-from_slice}
use Rattle.std.proofs.lemmas.Iterator.Search.{find_from_yields_List}
use Rattle.std.specs.Cmp.Lexicographic.{pointwise}
use Rattle.words.proofs.Found.{same_is, find_is}
use Rattle.words.proofs.spelled.first.Goals as goal

pub returns : goal.returns
returns g c =
    c.copied.ensures
    ∙ find_from_yields_List (λ x. pointwise eqb c.args.name.now (g.S.Spelled.written x)) _ _ _ c.find.ensures.ran (YieldsList-from_slice c.args.table.now cc) (λ x b q k. search (rules, same_is))
    ∙ find_is g.S.Spelled.written c.args.table.now c.args.name.now
