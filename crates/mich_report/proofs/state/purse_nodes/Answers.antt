use Rattle.std.proofs.Common.{◌≡◌, List, ℤ, map, ap, ◌∙◌, subst}
use Rattle.std.specs.Prelude.{IfOk}
use Rattle.std.specs.declared.option.Option.{Option}
use Rattle.rules_world.specs.lines.Nodes.{held_node}
use Rattle.rules_data.specs.values.Tickets.{Identity}
use Rattle.mich_base.specs.View.{tree}
use Rattle.mich_report.specs.Amounts.{Amounts, amount_in, amounts_on}
use Rattle.mich_report.proofs.Written.{one_list, no_list}
use Rattle.mich_report.proofs.state.purse_nodes.Goals as goal

pub returns-in-Some : goal.returns-in-Some
returns-in-Some c = λ holdings order same.
    subst (λ (es : List (Identity × ℤ)). IfOk c.held_nodes.result (λ ns. map tree ns ≡ map held_node es))
    (one_list holdings c.in-Some.purse.now order c.held_nodes.ensures.order c.held_nodes.ensures.positive
    (λ j. ap (λ (o : Option Amounts). amount_in j (amounts_on o)) c.in-Some.ensures.value ∙ same j))
    c.held_nodes.ensures.nodes

pub returns-in-None : goal.returns-in-None
returns-in-None c = λ holdings order same.
    ap (map tree) c.new.ensures
    ∙ ap (map held_node) (no_list holdings order (λ j. ap (λ (o : Option Amounts). amount_in j (amounts_on o)) c.in-None.ensures.value ∙ same j))
