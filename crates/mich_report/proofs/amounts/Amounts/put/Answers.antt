use Rattle.std.proofs.Common.{◌≡◌, true, pos, sym, ap, ◌∙◌, subst, ℤ}
use Rattle.std.specs.Prelude.{◌<ℤ◌, int_lt}
use Rattle.std.specs.BTreeMap.{insert_entry}
use Rattle.std.specs.List.{AllByRecursion}
use Rattle.std.proofs.lemmas.Int.{to_z-of_z}
use Rattle.mich_term.specs.declared.ticket.TicketId.{TicketId}
use Rattle.mich_report.specs.Amounts.{by_print}
use Rattle.mich_report.proofs.Written.{positive_put, positive_test}
use Rattle.mich_report.proofs.amounts.Amounts.put.Goals as goal

pub invariant_of-self : goal.invariant_of-self
invariant_of-self c =
    let e = to_z-of_z _ _ c.ranges.amount in
    let p : pos 0 <ℤ c.args.amount = positive_test c.args.amount (subst (λ (m : ℤ). int_lt (pos 0) m ≡ true) e c.if-amount-gt0.true) in
    subst (AllByRecursion (λ (x : TicketId × ℤ). pos 0 <ℤ x.1))
    (sym (c.in_ok-insert.ensures.entries ∙ ap (λ (m : ℤ). insert_entry by_print c.self.inside.map.entries c.in_ok-id.id m) e))
    (positive_put c.in_ok-id.id c.args.amount c.self.inside.map.entries p c.self.invariant)
