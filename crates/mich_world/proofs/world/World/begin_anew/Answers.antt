-- The end of all marks.
use Rattle.std.proofs.Common.{ap, ◌∙◌, subst}
use Rattle.mich_base.specs.undo.History.{History, kept}
use Rattle.mich_tickets.specs.Books.{Books}
use Rattle.mich_world.specs.Restoring.{StaysRestored}
use Rattle.mich_world.specs.World.{World}
use Rattle.mich_world.proofs.restoring_lemmas.Restored.{stays}
use Rattle.mich_world.proofs.world.World.begin_anew.Goals as goal

pub returns : goal.returns
returns c =
    let i = c.self.inside in
    let u : World = record { chain = i.chain; level = i.level; moment = i.moment; funds = i.funds; ledger = i.ledger; store = i.store } in
    let v = c.keep.new.self in
    let e = c.keep.ensures in
    subst (λ (w : World). StaysRestored w v) c.self.view_is
    (stays u v e.chain e.level e.moment e.funds (e.books ∙ ap (λ (h : History Books). kept h) c.take_changes-told.ensures.books) e.stands e.stored e.ticketless)
