use Rattle.std.proofs.Common.{rules, ◌≡◌, ◌++◌, take, flat_map, append_assoc, subst, sym, ap, ◌∙◌}
use Rattle.rules_data.specs.values.Tickets.{tickets}
use Rattle.mich_term.specs.ValueView.{val, big_step}
use Rattle.mich_stack.specs.Views.{plain}
use Rattle.mich_step.proofs.Gone.{taken_gone}
use Rattle.mich_step.proofs.order.+drop_values.Goals as goal

pub returns-clause-tells : goal.returns-clause-tells
returns-clause-tells g t c =
    let told = g.B.Burner.told in
    let here = tickets (val c.in-Some-pop.value) in
    let below = flat_map tickets (take c.in-Some.others (plain c.pop.new.stack)) in
    let split : flat_map tickets (take c.args.count (plain c.args.stack.now)) ≡ here ++ below =
    taken_gone c.args.count c.in-Some.others (plain c.args.stack.now) (val c.in-Some-pop.value) (plain c.pop.new.stack) (search rules) (c.in-Some-pop.ensures big_step) in
    c.in_ok-drop_values.ensures.tells ∙ ap (λ l. l ++ below) c.in_ok-discard.ensures.tells ∙ append_assoc (told c.args.burner.now) here below
    ∙ ap (λ l. told c.args.burner.now ++ l) (sym split)

pub returns-clause-stays_ready : goal.returns-clause-stays_ready
returns-clause-stays_ready g t c =
    let ready = g.B.Burner.ready in
    let here = tickets (val c.in-Some-pop.value) in
    let below = flat_map tickets (take c.in-Some.others (plain c.pop.new.stack)) in
    let split : flat_map tickets (take c.args.count (plain c.args.stack.now)) ≡ here ++ below =
    taken_gone c.args.count c.in-Some.others (plain c.args.stack.now) (val c.in-Some-pop.value) (plain c.pop.new.stack) (search rules) (c.in-Some-pop.ensures big_step) in
    λ l h. c.in_ok-drop_values.ensures.stays_ready l (c.in_ok-discard.ensures.stays_ready (below ++ l)
    (subst (λ m. ready c.args.burner.now m) (ap (λ m. m ++ l) split ∙ append_assoc here below l) h))
