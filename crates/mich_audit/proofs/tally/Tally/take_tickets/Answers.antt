use Rattle.std.proofs.Common.{refl, sym, ap, ◌∙◌, subst, ◌+◌}
use Rattle.std.specs.declared.option.Option.{Option}
use Rattle.rules_audit.specs.Verdicts.{all_parts}
use Rattle.mich_audit.specs.Tallies.{IsLined, unless_before}
use Rattle.mich_audit.specs.View.{identity_seen}
use Rattle.mich_audit.specs.declared.sums.Sums.{Sums}
use Rattle.mich_audit.proofs.Taken.{passed_as, tickets_done, tickets_refused}
use Rattle.mich_audit.proofs.tally.Tally.take_tickets.Goals as goal

pub returns-in_default : goal.returns-in_default
returns-in_default c = λ before it form. (
  tickets_refused before c.args.self.now it (identity_seen c.args.id.now) c.args.minted c.args.burnt c.args.held c.take_line.new.book.entries
      (subst (λ (o : Option Sums). IsLined (all_parts before) before (identity_seen c.args.id.now) c.args.minted c.args.burnt c.args.held c.take_line.new.book.entries o) c.in_default.is
      (c.in_ok-sums.ensures (all_parts before) before it.kept form c.args.minted c.args.burnt c.args.held)),
  it.count,
)

pub returns : goal.returns
returns c = λ before it form.
    tickets_done before c.args.self.now it c.count_ticket.new.self (identity_seen c.args.id.now) c.args.minted c.args.burnt c.args.held c.in-Some.sums c.agrees.result c.take_line.new.book.entries
    (sym c.is_within.ensures ∙ c.if-not-is_within.false)
    (subst (λ (o : Option Sums). IsLined (all_parts before) before (identity_seen c.args.id.now) c.args.minted c.args.burnt c.args.held c.take_line.new.book.entries o) c.in-Some.is
    (c.in_ok-sums.ensures (all_parts before) before it.kept form c.args.minted c.args.burnt c.args.held))
    c.agrees.ensures
    (passed_as _ c.args.self.now c.count_ticket.new.self c.pass.new.self 4 0 refl refl c.count_ticket.ensures.others.count c.count_ticket.ensures.others.ranked c.count_ticket.ensures.others.mutez
    c.pass.ensures.passed)
    (c.count_ticket.ensures.others.fourth ∙ c.pass.ensures.fourth)
    (c.count_ticket.ensures.counted ∙ ap (λ n. n + 1) c.pass.ensures.tickets.0)
    (c.count_ticket.ensures.wrong ∙ (λ i. unless_before (c.pass.ensures.tickets.1 i) c.agrees.result (c.pass.ensures.tickets.0 i + 1)))
    (ap (λ book. book.entries) (c.count_ticket.ensures.others.book ∙ c.pass.ensures.tickets.2))
