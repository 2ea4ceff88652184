use Rattle.std.proofs.Common.{ℕ, unwrap_or, ap, ◌∙◌}
use Rattle.std.specs.declared.option.Option.{Option}
use Rattle.std.specs.BTreeMap.{is_at}
use Rattle.mich_world.specs.Holders.{by_bytes}
use Rattle.mich_world.proofs.Sums.{number_least}
use Rattle.mich_world.proofs.maps.account.Goals as goal

pub returns-clause-within : goal.returns-clause-within
returns-clause-within c =
    rw (ap (λ (o : Option ℕ). unwrap_or o 0) (c.copied.ensures ∙ c.get.ensures.value)) (number_least (is_at (by_bytes c.args.who.now)) c.args.accounts.now.entries)
