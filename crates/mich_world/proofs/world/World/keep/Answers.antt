use Rattle.std.proofs.Common.{ℕ, List, map, sym, subst}
use Rattle.std.specs.List.{AllByRecursion}
use Rattle.mich_base.specs.undo.History.{History}
use Rattle.mich_bigmap.specs.Kept.{all_of}
use Rattle.mich_bigmap.specs.Notes.{Notes}
use Rattle.mich_world.specs.Holders.{Holders}
use Rattle.mich_world.specs.Storages.{named_in, IsStored}
use Rattle.mich_world.specs.declared.contract.Contract.{Contract}
use Rattle.mich_world.proofs.Kept.{all_stand, left_in_use, stored_standing, kept_ticketless}
use Rattle.mich_world.proofs.world.World.keep.Goals as goal

pub returns-clause-stands : goal.returns-clause-stands
returns-clause-stands c =
    let cs = c.self.inside.funds.present.contracts in
    let old = c.self.inside.store in
    let mid = c.note_storages.new.store in
    let notes = subst (λ (es : List (List ℕ × Contract)). Notes (all_of (map named_in es)) old mid) c.contracts.ensures c.note_storages.ensures in
    rw (← c.self.view_is) (all_stand cs old mid c.keep.new.self notes c.keep.ensures.kept)

pub returns-clause-stored : goal.returns-clause-stored
returns-clause-stored c =
    let cs = c.self.inside.funds.present.contracts in
    let old = c.self.inside.store in
    let mid = c.note_storages.new.store in
    let new = c.keep.new.self in
    let notes = subst (λ (es : List (List ℕ × Contract)). Notes (all_of (map named_in es)) old mid) c.contracts.ensures c.note_storages.ensures in
    rw (← c.self.view_is)
    (λ a. subst (λ (f : History Holders). AllByRecursion (λ (x : List ℕ × Contract). IsStored new.bases.present x.1) f.present.contracts) (sym c.keep-3.ensures)
    (stored_standing old.bases.present new.bases.present cs (all_stand cs old mid new notes c.keep.ensures.kept) a))

pub returns-clause-ticketless : goal.returns-clause-ticketless
returns-clause-ticketless c =
    rw (← c.self.view_is) (kept_ticketless c.self.inside.store c.note_storages.new.store c.keep.new.self _ c.note_storages.ensures c.keep.ensures.kept)

pub returns-clause-in_use : goal.returns-clause-in_use
returns-clause-in_use c =
    let cs = c.self.inside.funds.present.contracts in
    let old = c.self.inside.store in
    let mid = c.note_storages.new.store in
    let notes = subst (λ (es : List (List ℕ × Contract)). Notes (all_of (map named_in es)) old mid) c.contracts.ensures c.note_storages.ensures in
    rw (← c.self.view_is) (left_in_use (all_of (map named_in cs)) old mid notes c.keep.new.self c.keep.ensures.reached)
