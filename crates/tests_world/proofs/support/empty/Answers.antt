use Rattle.std.proofs.Common.{None, [], sym, subst}
use Rattle.std.specs.List.Sorted.{IsStrictlySortedBy}
use Rattle.mich_term.specs.declared.value.BigMap.{roll-BigMap}
use Rattle.mich_bigmap.specs.Formed.{IsFormed}
use Rattle.mich_bigmap.specs.Bases.{Changes}
use Rattle.tests_world.proofs.support.empty.Goals as goal

pub returns : goal.returns
unfolding IsStrictlySortedBy
returns c = subst (λ (cs : Changes). IsFormed (roll-BigMap record { base = None; overlay = cs })) (sym c.new.ensures) (record { keys = tt; puts = λ e. tt })
