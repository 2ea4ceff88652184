use Rattle.std.proofs.Common.{rules}
use Rattle.mich_forms.proofs.ZeroEnded.{zero_ended-eq}
use Rattle.mich_forms.proofs.compared.PlacePartialEq.eq.Goals as goal

pub returns-in-Contract-Contract : goal.returns-in-Contract-Contract
returns-in-Contract-Contract c =
    let same = zero_ended-eq c.in-Contract-Contract.a c.in-Contract-Contract.b in search rules
