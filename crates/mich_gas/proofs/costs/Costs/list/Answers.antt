use Rattle.std.proofs.Common.{◌<◌, length, rules}
use Rattle.std.proofs.Math.Path.{fun_ext}
use Rattle.rules_data.specs.gas.Kinds.{place}
use Rattle.mich_gas.proofs.Tables.{set_listed}
use Rattle.mich_gas.proofs.costs.Costs.list.Goals as goal

pub returns : goal.returns
returns c =
    let within : c.place_of.result < length c.args.self.now.listed = search rules in
    fun_ext (λ other. set_listed c.args.self.now.listed c.place_of.result (place c.args.kind) (place other) c.args.price c.place_of.ensures.value within)
