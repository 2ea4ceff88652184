use Rattle.std.proofs.Common.{◌-◌, List, length, ap, ◌∙◌}
use Rattle.mich_base.specs.undo.History.{height_of}
use Rattle.mich_bigmap.specs.Stored.{Stored}
use Rattle.mich_bigmap.specs.declared.layers.Layer.{Layer}
use Rattle.mich_bigmap.proofs.Journal.{height_is}
use Rattle.mich_bigmap.proofs.store.Store.height.Goals as goal

pub returns : goal.returns
returns c =
    ap (λ (ls : List Layer). length ls - c.self.inside.kept) c.as_slice.ensures.value
    ∙ height_is c.self.inside.layers.items c.self.inside.kept c.self.invariant.within ∙ ap (λ (s : Stored). height_of s.bases) c.self.view_is
