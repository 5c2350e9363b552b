use Rattle.std.proofs.Common.{sym, refl, ap, ◌∙◌, arith, rules}
use Rattle.rules.specs.Steps.{spoken}
use Rattle.session.specs.Views.{view, given}
use Rattle.rules.proofs.Bridge.{small_step, acted-step, replied_by}
use Rattle.rules.proofs.Whole.{in-turn}
use Rattle.session.proofs.store.Session.command.Goals as goal

pub returns-then-is_small : goal.returns-then-is_small
returns-then-is_small c =
    let x = small_step (view c.args.self.now) (given c.args.text.now c.args.page.now) (search rules) in
    let answered = replied_by _ _ (sym x.1) (record { number = refl; place = refl; word = tt; count = refl; front = refl; within = omega arith; behind = refl }) in
    record { step = sym x.0; answer = answered; turn = in-turn _ _ _ (sym x.0) answered }

pub returns : goal.returns
returns c =
    let x = acted-step (view c.args.self.now) (given c.args.text.now c.args.page.now) (search rules) in
    let stepped = ap (λ y. y.0) c.act-outcome.ensures ∙ sym x.0 in
    let answered = replied_by _ _ (ap (λ y. spoken y.1) c.act-outcome.ensures ∙ sym x.1) c.reply.ensures in
    record { step = stepped; answer = answered; turn = in-turn _ _ _ stepped answered }
