use Rattle.std.proofs.Common.{length, ap, sym, ◌∙◌}
use Rattle.mich_world.proofs.Lengths.{height_of-history}
use Rattle.mich_world.proofs.funds.Funds.height.Goals as goal

pub returns : goal.returns
returns c =
    let i = c.self.inside in
    rw (← c.self.view_is)
    (ap length c.as_slice.ensures.value ∙ sym (height_of-history (record { accounts = i.accounts.entries; contracts = i.contracts.entries; fees = i.fees; storage_burn = i.storage_burn; granted = i.granted; rate = i.rate }) i.journal.items))
