use Rattle.std.proofs.Common.{◌≡◌, ℤ, List, ◌++◌, ap, ◌∙◌, subst}
use Rattle.std.specs.Prelude.{OnOk}
use Rattle.std.specs.declared.option.Option.{Option}
use Rattle.rules_data.specs.values.Tickets.{Identity}
use Rattle.rules_files.specs.snapshots.Spelling.{counted, holding_spelling}
use Rattle.mich_report.specs.Amounts.{Amounts, amount_in, amounts_on}
use Rattle.mich_report.proofs.ForCallers.{no_list, one_list}
use Rattle.mich_snapshot.proofs.saving.put_purse.Goals as goal

pub returns-in-Some : goal.returns-in-Some
returns-in-Some c = λ holdings order same.
    subst (λ (es : List (Identity × ℤ)). OnOk c.put_holdings.result (c.put_holdings.new.out.items ≡ c.args.out.now.items ++ counted holding_spelling es))
    (one_list holdings c.in-Some.held.now order c.put_holdings.ensures.order c.put_holdings.ensures.positive
    (λ j. ap (λ (o : Option Amounts). amount_in j (amounts_on o)) c.in-Some.ensures.value ∙ same j))
    c.put_holdings.ensures.holdings

pub returns-in-None : goal.returns-in-None
returns-in-None c = λ holdings order same.
    subst (λ (es : List (Identity × ℤ)). OnOk c.put_eight.result (c.put_eight.new.out.items ≡ c.args.out.now.items ++ counted holding_spelling es))
    (no_list holdings order (λ j. ap (λ (o : Option Amounts). amount_in j (amounts_on o)) c.in-None.ensures.value ∙ same j))
    c.put_eight.ensures
