-- What settling makes of a value.
use Rattle.std.specs.Prelude.{◌≡◌, List, map}
use Rattle.std.specs.List.{AllByRecursion}
use Rattle.mich_base.specs.undo.History.{Keeps}
use Rattle.mich_term.specs.declared.datum.Datum.{Datum}
use Rattle.mich_term.specs.declared.value.Value.{Value}
use Rattle.mich_term.specs.declared.value.Value.TheFolds.{every-BigMap}
use Rattle.mich_term.specs.declared.value.BigMap.{BigMap}
use Rattle.mich_bigmap.specs.Bases.{Bases}
use Rattle.mich_bigmap.specs.Extended.{Extends}
use Rattle.mich_term.specs.Layers.{AnyLayer, AreFormed, FormedLayer}
use Rattle.mich_bigmap.specs.Layers.{HasBases, BasedLayer}
use Rattle.mich_bigmap.specs.Standing.{val_in, entry_in, big_val_in}
use Rattle.mich_bigmap.specs.Stored.{Stored}
use Rattle.mich_bigmap.specs.Ticketless.{HoldNoTickets}

-- the new value stands for what the old one stood for, its big maps have their form, and their bases are in the store
pub record Settles (old new : Bases) (before after : Value) : Type 0 where
  pub same : val_in new after ≡ val_in old before
  pub formed : AreFormed after
  pub based : HasBases new after

-- the same of lists, and of the values of entries
pub record SettlesAll (old new : Bases) (before after : List Value) : Type 0 where
  pub same : map (val_in new) after ≡ map (val_in old) before
  pub formed : AllByRecursion AreFormed after
  pub based : AllByRecursion (HasBases new) after

pub record SettlesEntries (old new : Bases) (before after : List (Datum × Value)) : Type 0 where
  pub same : map (entry_in new) after ≡ map (entry_in old) before
  pub formed : AllByRecursion (λ e. AreFormed e.1) after
  pub based : AllByRecursion (λ e. HasBases new e.1) after

-- bases were added, none of which holds a ticket if none did
pub record Lays (old new : Stored) : Type 0 where
  pub others : Extends old.bases.present new.bases.present
  pub keeps : Keeps old.bases new.bases
  pub noted : new.noted ≡ old.noted
  pub ticketless : HoldNoTickets old.bases.present → HoldNoTickets new.bases.present

-- the same of a big map
pub record SettlesBig (old new : Bases) (before after : BigMap) : Type 0 where
  pub same : big_val_in new after ≡ big_val_in old before
  pub formed : every-BigMap AnyLayer FormedLayer after
  pub based : every-BigMap AnyLayer (BasedLayer new) after
