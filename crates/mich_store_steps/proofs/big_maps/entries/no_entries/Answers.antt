use Rattle.std.proofs.Common.{refl}
use Rattle.mich_store_steps.proofs.big_maps_lemmas.Sighted.{none_seen}
use Rattle.mich_store_steps.proofs.big_maps.entries.no_entries.Goals as goal

pub returns : goal.returns
returns c = λ bs. none_seen bs _ refl c.new.ensures
