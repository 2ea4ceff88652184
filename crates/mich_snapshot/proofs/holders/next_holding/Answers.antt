use Rattle.std.proofs.Common.{sym, ◌∙◌, subst}
use Rattle.std.specs.Int.{w128}
use Rattle.std.specs.Prelude.{ℤ, option_map}
use Rattle.std.proofs.lemmas.Int.{to_z-of_z}
use Rattle.rules_files.specs.snapshots.Rules.{is_holding}
use Rattle.mich_term.specs.TicketView.{identity}
use Rattle.mich_snapshot.specs.Sums.{Finds, more}
use Rattle.mich_snapshot.proofs.holders.next_holding.Goals as goal

pub returns-then-not-holds-clause-holds : goal.returns-then-not-holds-clause-holds
returns-then-not-holds-clause-holds c = λ s found h.
    let former = option_map identity c.args.former.now in
    let id = identity c.args.id.now in
    let told = subst (λ (n : ℤ). Finds s (is_holding s former (id, n)) (more found id n) c.next_holds.new.sums.found.entries c.in_ok-holds.holds)
    (to_z-of_z w128 c.args.amount c.ranges.amount) (c.in_ok-holds.ensures s found h) in
    (sym c.if-not-holds.true ∙ told.0, λ e. absurd cc)

pub returns-clause-holds : goal.returns-clause-holds
returns-clause-holds c = λ s found h.
    let former = option_map identity c.args.former.now in
    let id = identity c.args.id.now in
    let told = subst (λ (n : ℤ). Finds s (is_holding s former (id, n)) (more found id n) c.next_holds.new.sums.found.entries c.in_ok-holds.holds)
    (to_z-of_z w128 c.args.amount c.ranges.amount) (c.in_ok-holds.ensures s found h) in
    (sym c.if-not-holds.false ∙ told.0, λ e. told.1 c.if-not-holds.false)
