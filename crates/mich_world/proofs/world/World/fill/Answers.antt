-- Totals, then accounts, then contracts.
use Rattle.std.proofs.Common.{refl, sym, subst}
use Rattle.mich_world.specs.Restoring.{IsBegun}
use Rattle.mich_world.specs.World.{World}
use Rattle.mich_world.proofs.restoring_lemmas.Restored.{totals_fit, none_burnt, may_accounts, may_contracts, restored}
use Rattle.mich_world.proofs.world.World.fill.Goals as goal

pub put_totals-requires-clause-fits : goal.put_totals-requires-clause-fits
put_totals-requires-clause-fits c =
    let i = c.self.inside in
    let u : World = record { chain = i.chain; level = i.level; moment = i.moment; funds = i.funds; ledger = i.ledger; store = i.store } in
    totals_fit c.args.saved c.requires.saved u (subst (λ (w : World). IsBegun c.args.saved w) (sym c.self.view_is) c.requires.begun)

pub put_totals-requires-clause-burnt : goal.put_totals-requires-clause-burnt
put_totals-requires-clause-burnt c =
    let i = c.self.inside in
    let u : World = record { chain = i.chain; level = i.level; moment = i.moment; funds = i.funds; ledger = i.ledger; store = i.store } in
    none_burnt c.args.saved c.requires.saved u (subst (λ (w : World). IsBegun c.args.saved w) (sym c.self.view_is) c.requires.begun)

pub put_accounts-requires : goal.put_accounts-requires
put_accounts-requires c =
    let i = c.self.inside in
    let u : World = record { chain = i.chain; level = i.level; moment = i.moment; funds = i.funds; ledger = i.ledger; store = i.store } in
    let l = c.put_totals.new.ledger in
    let v : World = record { chain = i.chain; level = i.level; moment = i.moment; funds = i.funds; ledger = l; store = i.store } in
    let begun = subst (λ (w : World). IsBegun c.args.saved w) (sym c.self.view_is) c.requires.begun in
    may_accounts c.args.saved c.requires.saved u begun v l refl c.in_ok-put_totals.ensures

pub put_contracts-requires : goal.put_contracts-requires
put_contracts-requires c =
    let i = c.self.inside in
    let u : World = record { chain = i.chain; level = i.level; moment = i.moment; funds = i.funds; ledger = i.ledger; store = i.store } in
    let l = c.put_totals.new.ledger in
    let v : World = record { chain = i.chain; level = i.level; moment = i.moment; funds = i.funds; ledger = l; store = i.store } in
    let begun = subst (λ (w : World). IsBegun c.args.saved w) (sym c.self.view_is) c.requires.begun in
    may_contracts c.args.saved c.requires.saved u begun v l refl c.in_ok-put_totals.ensures c.put_accounts.new.self c.in_ok-put_accounts.ensures

pub returns : goal.returns
returns c =
    let i = c.self.inside in
    let u : World = record { chain = i.chain; level = i.level; moment = i.moment; funds = i.funds; ledger = i.ledger; store = i.store } in
    let l = c.put_totals.new.ledger in
    let v : World = record { chain = i.chain; level = i.level; moment = i.moment; funds = i.funds; ledger = l; store = i.store } in
    let begun = subst (λ (w : World). IsBegun c.args.saved w) (sym c.self.view_is) c.requires.begun in
    restored c.args.saved c.requires.saved u begun v l refl c.in_ok-put_totals.ensures c.put_accounts.new.self c.in_ok-put_accounts.ensures
    c.put_contracts.new.self c.in_ok-put_contracts.ensures
