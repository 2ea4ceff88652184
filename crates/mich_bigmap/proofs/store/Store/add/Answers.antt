use Rattle.std.proofs.Common.{◌∷◌, false, refl, sym, ap, ◌∙◌}
use Rattle.mich_base.specs.undo.History.{grown}
use Rattle.mich_bigmap.specs.Bases.{Base, base_at}
use Rattle.mich_bigmap.specs.Stored.{Stored}
use Rattle.mich_bigmap.specs.declared.layers.Layer.{Layer}
use Rattle.mich_bigmap.proofs.Journal.{store_more, history_more, number_unused, noted_more}
use Rattle.mich_bigmap.proofs.store.Store.add.Goals as goal

pub invariant_of-self-2 : goal.invariant_of-self-2
invariant_of-self-2 c =
    let s = c.self.inside in
    let l : Layer = record { number = s.next; over = c.args.over; changes = c.args.changes; noted = false } in
    store_more s.layers.items c.push.new.self.items s.kept s.next l c.in_ok-push.ensures.items refl c.requires c.self.invariant

pub returns-clause-added : goal.returns-clause-added
returns-clause-added c =
    let s = c.self.inside in
    let l : Layer = record { number = s.next; over = c.args.over; changes = c.args.changes; noted = false } in
    let b : Base = record { number = s.next; over = c.args.over; changes = c.args.changes } in
    history_more s.layers.items c.push.new.self.items s.kept l c.in_ok-push.ensures.items c.self.invariant.within
    ∙ ap (λ (x : Stored). grown x.bases (b ∷ x.bases.present)) c.self.view_is

pub returns-clause-unused : goal.returns-clause-unused
returns-clause-unused c = ap (λ (s : Stored). base_at s.bases.present c.self.inside.next) (sym c.self.view_is)
    ∙ number_unused c.self.inside.layers.items c.self.inside.kept c.self.inside.next c.self.invariant

pub returns-clause-noted : goal.returns-clause-noted
returns-clause-noted c =
    let s = c.self.inside in
    let l : Layer = record { number = s.next; over = c.args.over; changes = c.args.changes; noted = false } in
    noted_more s.layers.items c.push.new.self.items l c.in_ok-push.ensures.items refl ∙ ap (λ (x : Stored). x.noted) c.self.view_is
