use Rattle.std.proofs.Common.{◌++◌, subst, sym, ap, ◌∙◌}
use Rattle.mich_term.specs.ValueView.{big_step}
use Rattle.mich_stack.specs.Views.{values, plain}
use Rattle.mich_step.proofs.Gone.{drop_within, drop_gone, drop_ends}
use Rattle.mich_step.proofs.order.drop_count.Goals as goal

pub drop_values-requires-clause-ready : goal.drop_values-requires-clause-ready
drop_values-requires-clause-ready g c = subst (λ l. g.B.Burner.ready c.args.burner.now l)
    (drop_gone c.args.count (plain c.args.stack.now) (drop_within c.args.count c.args.stack.now c.requires.fits big_step)) c.requires.ready

pub returns-clause-ends : goal.returns-clause-ends
returns-clause-ends g c = λ big. drop_ends c.args.count (values big c.args.stack.now) (values big c.drop_values.new.stack)
    (drop_within c.args.count c.args.stack.now c.requires.fits big) (c.in_ok-drop_values.ensures.rest big)

pub returns-clause-tells : goal.returns-clause-tells
returns-clause-tells g c = c.in_ok-drop_values.ensures.tells
    ∙ ap (λ l. g.B.Burner.told c.args.burner.now ++ l) (sym (drop_gone c.args.count (plain c.args.stack.now) (drop_within c.args.count c.args.stack.now c.requires.fits big_step)))

pub returns-clause-stays_ready : goal.returns-clause-stays_ready
returns-clause-stays_ready g c = λ l h. c.in_ok-drop_values.ensures.stays_ready l
    (subst (λ m. g.B.Burner.ready c.args.burner.now (m ++ l)) (drop_gone c.args.count (plain c.args.stack.now) (drop_within c.args.count c.args.stack.now c.requires.fits big_step)) h)
