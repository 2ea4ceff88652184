use Rattle.std.proofs.Common.{refl}
use Rattle.rules_data.specs.declared.gas.Kind.TheVariants as g
use Rattle.mich_gas.specs.View.{listed}
use Rattle.mich_interpreter.specs.Made.{table_with}
use Rattle.mich_interpreter.proofs.Paid.{opens_paid, paid_less}
use Rattle.mich_interpreter.proofs.Results.{table_breaks, table_opens}
use Rattle.mich_interpreter.proofs.mapping.open_entry.Goals as goal

pub returns-then-not-pay-clause-acts : goal.returns-then-not-pay-clause-acts
returns-then-not-pay-clause-acts c = λ x fs d Z o h.
    table_breaks x.sight (table_with c.args.work c.args.entry) c.args.work.left c.args.entry refl (rw c.if-not-pay.true at c.pay.ensures) h

pub returns-clause-acts : goal.returns-clause-acts
returns-clause-acts c = λ x fs d Z o h.
    let p = rw c.if-not-pay.false at c.pay.ensures in
    let opens = opens_paid g.Turn 0 _ c.pay.new.meter p.1 (table_opens x.sight (table_with c.args.work c.args.entry) c.args.work c.args.entry refl refl p.0 h) in
    rw (c.in_ok-making.ensures, c.in_ok-code.ensures, c.in_ok-push.ensures x.sight, c.in_ok-item.ensures x.sight) opens

pub returns-clause-gas : goal.returns-clause-gas
returns-clause-gas c =
    let p = rw c.if-not-pay.false at c.pay.ensures in
    paid_less (listed c.args.costs.now) g.Turn 0 _ _ c.requires.5.runs.charged p.0 p.1
