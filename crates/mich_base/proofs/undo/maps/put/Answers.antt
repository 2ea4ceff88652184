use Rattle.mich_base.proofs.undo_lemmas.Backs.{back}
use Rattle.mich_base.proofs.undo.maps.put.Goals as goal

pub returns-clause-back : goal.returns-clause-back
returns-clause-back g c = let e = c.in_ok-old.ensures in rw e.entries (back g.met.K.Ord.total c.args.key c.args.value c.args.map.now.entries c.in_ok-old.old e.was_ordered e.old)
