use Rattle.std.proofs.Common.{refl, sym, ◌∙◌}
use Rattle.mich_bigmap.proofs.Settled as s
use Rattle.mich_bigmap.proofs.Sharing.{shares_without}
use Rattle.mich_bigmap.proofs.settling_all.settle_part.Goals as goal

pub returns-else-names_big_map-clause-settles : goal.returns-else-names_big_map-clause-settles
returns-else-names_big_map-clause-settles c = record { same = refl; formed = c.requires.formed; based = c.requires.based }

pub returns-else-names_big_map-clause-shared : goal.returns-else-names_big_map-clause-shared
returns-else-names_big_map-clause-shared c = shares_without _ c.args.value (sym c.names_big_map.ensures ∙ c.if-names_big_map.false)

pub returns-else-names_big_map-clause-lays : goal.returns-else-names_big_map-clause-lays
returns-else-names_big_map-clause-lays c = s.lays_same _
