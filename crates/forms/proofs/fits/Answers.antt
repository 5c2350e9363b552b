use Rattle.std.proofs.Common.{drop, sym, ap, ◌∙◌, length-set, rules}
use Rattle.grammar.specs.declared.items.Item.TheVariants.{OpenList, Command}
use Rattle.grammar.specs.Marks.{marks}
use Rattle.grammar.specs.Machine.{run}
use Rattle.forms.proofs.Stacks.{two_last, end_run, something_left}
use Rattle.forms.proofs.fits.Goals as goal

pub loop-token-init : goal.loop-token-init
loop-token-init c = (
  simp length-set (search rules),
  search rules,
  search rules,
  ap (λ stack. run stack (marks c.args.tokens.text.now c.args.tokens.rows.now)) (two_last c.args.items.now 16386 OpenList Command (search rules)),
)

pub returns-else-top-eq16388 : goal.returns-else-top-eq16388
returns-else-top-eq16388 c = sym (something_left c.loop-token.items c.loop-token.top OpenList (search rules)) ∙ sym (end_run c.args.tokens.text.now c.args.tokens.rows.now c.loop-token.token-index (drop c.loop-token.top c.loop-token.items) (search rules)) ∙ c.loop-token.invariant.3
