use Rattle.std.proofs.Common.{rules, ◌∙◌}
use Rattle.std.proofs.lemmas.Iterator.{YieldsList-from_slice}
use Rattle.std.proofs.lemmas.Iterator.Search.{all_from_yields_List}
use Rattle.theory.specs.contracts.SortPartialEq.TheImpl.{eq-value}
use Rattle.theory.proofs.Sorts.{all_eq_is}
use Rattle.theory.proofs.ranks.all_are.Goals as goal

pub returns : goal.returns
returns c =
    all_from_yields_List (eq-value.it c.args.sort) _ _ c.all.result c.all.ensures.ran (YieldsList-from_slice c.args.parts.now cc) (λ x b q k. search rules)
    ∙ all_eq_is c.args.sort c.args.parts.now
