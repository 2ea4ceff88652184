use Rattle.std.proofs.Common.{◌≡◌, ℕ, List, [], ◌∷◌, Some, refl, sym, reverse, subst}
use Rattle.std.specs.declared.option.Option.{Option}
use Rattle.mich_world.specs.Holders.{Holders, IsSound, total, with_rate}
use Rattle.mich_world.specs.Journal.{WereSound, before}
use Rattle.mich_world.specs.declared.entry.Change.{Change}
use Rattle.mich_world.specs.declared.entry.Change.TheVariants as change
use Rattle.mich_world.specs.declared.entry.Entry.{Entry}
use Rattle.mich_world.proofs.funds.Funds.set_rate.Goals as goal

sound : (h : Holders) (rate : Option ℕ) → IsSound h → IsSound (with_rate h rate)
sound h rate s = record { within = s.within; small = s.small }

before_same : (c : Change) (h : Holders) (rate : Option ℕ) → before c (with_rate h rate) ≡ with_rate (before c h) rate
before_same (change.Account place old) h rate = refl
before_same (change.Contract hash old) h rate = refl
before_same (change.Balance hash old) h rate = refl
before_same (change.Storage hash old) h rate = refl
before_same (change.Paid hash old) h rate = refl
before_same (change.Fees old) h rate = refl
before_same (change.StorageBurn old) h rate = refl
before_same (change.Granted old) h rate = refl

-- no entry has the rate
were_sound : (h : Holders) (rate : Option ℕ) (es : List Entry) → WereSound h es → WereSound (with_rate h rate) es
were_sound h rate [] w = tt
were_sound h rate (e ∷ es) w =
    let b = before e.change h in
    subst (λ (k : Holders). (total k ≡ e.supply) × IsSound k × WereSound k es) (sym (before_same e.change h rate))
    (w.0, sound b rate w.1, were_sound b rate es w.2)

pub invariant_of-self : goal.invariant_of-self
invariant_of-self c =
    let i = c.self.inside in
    let h : Holders = record { accounts = i.accounts.entries; contracts = i.contracts.entries; fees = i.fees; storage_burn = i.storage_burn; granted = i.granted; rate = i.rate } in
    let rate = Some c.args.rate in
    (c.self.invariant.0, sound h rate c.self.invariant.1, were_sound h rate (reverse i.journal.items) c.self.invariant.2)
