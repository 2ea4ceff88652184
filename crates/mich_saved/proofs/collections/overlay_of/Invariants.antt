use Rattle.std.proofs.Common.{◌≡◌, ◌++◌, map}
use Rattle.std.specs.Vec.Iter.{into_iter_items}
use Rattle.mich_saved.specs.Pushes.{put_of}
use Rattle.mich_saved.proofs.collections.overlay_of.Given as goal

abbrev pub invariant-loop-key : goal.invariant-loop-key
invariant-loop-key l = l.overlay ++ map put_of (into_iter_items l.key-iterator) ≡ map put_of l.fn.entries
