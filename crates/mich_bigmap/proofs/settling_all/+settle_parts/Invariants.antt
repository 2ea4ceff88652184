use Rattle.std.proofs.Common.{◌≡◌, ◌++◌}
use Rattle.std.specs.Vec.Iter.{into_iter_items}
use Rattle.std.specs.List.{AllByRecursion}
use Rattle.mich_term.specs.Layers.{AreFormed}
use Rattle.mich_base.specs.TypeView.{kind}
use Rattle.mich_bigmap.specs.Layers.{HasBases}
use Rattle.mich_bigmap.specs.Shared.{EntriesShareBy, ShareBy}
use Rattle.mich_bigmap.specs.Settling.{SettlesAll, SettlesEntries, Lays}
use Rattle.mich_bigmap.proofs.settling_all.+settle_parts.Given as goal

abbrev pub invariant-settle_list-loop-value : goal.invariant-settle_list-loop-value
invariant-settle_list-loop-value l =
    let left = into_iter_items l.value-iterator in
    record {
      place : l.yielded ++ left ≡ l.fn.values;
      done : SettlesAll l.fn.store.bases.present l.store.bases.present l.yielded l.copies;
      formed : AllByRecursion AreFormed left;
      based : AllByRecursion (HasBases l.fn.store.bases.present) left;
      lays : Lays l.fn.store l.store;
      shared : ShareBy (kind l.ty) l.yielded l.copies;
    }

abbrev pub invariant-settle_table-loop-key : goal.invariant-settle_table-loop-key
invariant-settle_table-loop-key l =
    let left = l.key-iterator in
    record {
      place : l.yielded ++ left ≡ l.fn.table;
      done : SettlesEntries l.fn.store.bases.present l.store.bases.present l.yielded l.copies;
      formed : AllByRecursion (λ e. AreFormed e.1) left;
      based : AllByRecursion (λ e. HasBases l.fn.store.bases.present e.1) left;
      here : AllByRecursion (λ e. HasBases l.store.bases.present e.1) left;
      lays : Lays l.fn.store l.store;
      shared : EntriesShareBy (kind l.ty) l.yielded l.copies;
    }
