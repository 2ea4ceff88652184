use Rattle.std.proofs.Common.{rules, ◌≡◌, ◌+◌, List, [], map, drop, Option, None, sym, subst, arith}
use Rattle.std.specs.Int.{w128}
use Rattle.std.specs.Prelude.{ℤ, FitsSigned, is_some, option_map}
use Rattle.std.proofs.lemmas.Int.{to_z-of_z}
use Rattle.std.proofs.lemmas.Grind.{common_steps}
use Rattle.rules_data.specs.values.Tickets.{Identity}
use Rattle.rules_files.specs.snapshots.Rules.{is_holding}
use Rattle.mich_saved.specs.Shown.{holding}
use Rattle.mich_term.specs.TicketView.{identity}
use Rattle.mich_term.specs.declared.ticket.TicketId.{TicketId}
use Rattle.mich_snapshot.specs.Sums.{Finds, more, more_held}
use Rattle.mich_snapshot.proofs.HolderRules.{stands_next}
use Rattle.mich_snapshot.proofs.Left.{first_left}
use Rattle.mich_snapshot.proofs.Steps.{HoldingsLeft, holdings_end, holdings_go, holdings_start, holdings_stop}
use Rattle.mich_snapshot.proofs.holders.holdings_hold.Goals as goal

pub loop-id-init : goal.loop-id-init
loop-id-init c = λ s found h.
    let all = map holding c.args.holdings.now in
    subst (λ (l : List (TicketId × ℤ)). HoldingsLeft s found all None (map holding l) c.args.sums.now.found.entries) (sym c.as_slice-id-items.ensures)
    (holdings_start s found all c.args.sums.now.found.entries h)

pub returns-then-is_none : goal.returns-then-is_none
returns-then-is_none c = λ s found h.
    let all = map holding c.args.holdings.now in
    let items = c.as_slice-id-items.result.now in
    let i = c.loop-id.id-index in
    let x = c.loop-id-item.result in
    let former = option_map identity c.loop-id.former in
    let fits : FitsSigned w128 x.1 = search rules in
    let es = c.next_holding.new.sums.found.entries in
    let b = is_some c.in_ok-next.next in
    let way = subst (λ (l : List (TicketId × ℤ)). HoldingsLeft s found all former (map holding l) c.loop-id.sums.found.entries) (first_left items i x c.loop-id-test.true c.loop-id-item.is)
    (c.loop-id.invariant s found h) in
    holdings_stop s found (more_held found all) all former (holding x) (map holding (drop (i + 1) items)) c.loop-id.sums.found.entries es b c.if-is_none.ensures way
    (λ f g. subst (λ (n : ℤ). Finds s (is_holding s former (identity x.0, n)) (more f (identity x.0) n) es b) (to_z-of_z w128 x.1 fits) (c.in_ok-next.ensures.holds s f g))

pub loop-id-preserved : goal.loop-id-preserved
loop-id-preserved c = λ s found h.
    let all = map holding c.args.holdings.now in
    let items = c.as_slice-id-items.result.now in
    let i = c.loop-id.id-index in
    let x = c.loop-id-item.result in
    let former = option_map identity c.loop-id.former in
    let fits : FitsSigned w128 x.1 = search rules in
    let es = c.next_holding.new.sums.found.entries in
    let next = c.in_ok-next.next in
    let b = is_some next in
    let way = subst (λ (l : List (TicketId × ℤ)). HoldingsLeft s found all former (map holding l) c.loop-id.sums.found.entries) (first_left items i x c.loop-id-test.true c.loop-id-item.is)
    (c.loop-id.invariant s found h) in
    subst (λ (o : Option Identity). HoldingsLeft s found all o (map holding (drop (i + 1) items)) es) (sym (stands_next next x.0 c.if-is_none.ensures c.in_ok-next.ensures.same))
    (holdings_go s found all former (holding x) (map holding (drop (i + 1) items)) c.loop-id.sums.found.entries es b c.if-is_none.ensures way
    (λ f g. subst (λ (n : ℤ). Finds s (is_holding s former (identity x.0, n)) (more f (identity x.0) n) es b) (to_z-of_z w128 x.1 fits) (c.in_ok-next.ensures.holds s f g)))

pub returns : goal.returns
returns c = λ s found h.
    let all = map holding c.args.holdings.now in
    let former = option_map identity c.loop-id.former in
    let none : drop c.loop-id.id-index c.as_slice-id-items.result.now ≡ [] = grind (arith, common_steps) in
    holdings_end s found all former c.loop-id.sums.found.entries
    (subst (λ (l : List (TicketId × ℤ)). HoldingsLeft s found all former (map holding l) c.loop-id.sums.found.entries) none (c.loop-id.invariant s found h))
