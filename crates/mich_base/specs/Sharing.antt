-- The elements that are held.
use Rattle.std.specs.Prelude.{List, [], Option, None, Some}
use Rattle.std.specs.declared.rc.Rc.{Rc}
use Rattle.std.specs.declared.vec.Vec.{Vec}
use Rattle.std.specs.declared.alloc.Global.{Global}

abbrev pub items_of : {X : Type 0} → Option (Rc (Vec X Global) Global) → List X
items_of None = []
items_of (Some items) = items.value.items
