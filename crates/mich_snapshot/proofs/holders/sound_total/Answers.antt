use Rattle.std.proofs.Common.{◌≡◌, ℤ, SFits, to_z, of_z, refl, sym, ◌∙◌, rules}
use Rattle.std.specs.Int.{w128}
use Rattle.std.proofs.lemmas.Int.{to_z-of_z}
use Rattle.rules_files.specs.snapshots.State.{Total}
use Rattle.mich_term.specs.TicketView.{identity}
use Rattle.mich_term.specs.declared.ticket.TicketId.{TicketId}
use Rattle.mich_snapshot.proofs.holders.sound_total.Goals as goal

abbrev made : TicketId → ℤ → ℤ → Total
made id m b = record { identity = identity id; minted = m; burnt = b }

passed : (id : TicketId) (m b : ℤ) → SFits w128 m → SFits w128 b → made id (to_z w128 (of_z w128 m)) (to_z w128 (of_z w128 b)) ≡ made id m b
passed id m b f g = λ k. made id (to_z-of_z w128 m f k) (to_z-of_z w128 b g k)

pub returns-then-not-holds-clause-tries : goal.returns-then-not-holds-clause-tries
returns-then-not-holds-clause-tries c = λ s found reckoned sums are there issuer. (sym (c.in_ok-holds.ensures s found reckoned sums are there issuer) ∙ c.if-not-holds.true, refl)

pub returns-clause-tries : goal.returns-clause-tries
returns-clause-tries c = λ s found reckoned sums are there issuer.
    let minted : SFits w128 c.args.total.minted = search rules in
    let burnt : SFits w128 c.args.total.burnt = search rules in
    (sym (c.in_ok-holds.ensures s found reckoned sums are there issuer) ∙ c.if-not-holds.false, passed c.args.total.id c.args.total.minted c.args.total.burnt minted burnt)

pub returns-clause-same : goal.returns-clause-same
returns-clause-same c =
    let minted : SFits w128 c.args.total.minted = search rules in
    let burnt : SFits w128 c.args.total.burnt = search rules in
    passed c.args.total.id c.args.total.minted c.args.total.burnt minted burnt
