use Rattle.std.proofs.Common.{ap, sym, subst}
use Rattle.mich_base.specs.undo.History.{History}
use Rattle.mich_bigmap.specs.Bases.{Base, Bases}
use Rattle.mich_bigmap.specs.Stored.{Stored}
use Rattle.mich_bigmap.specs.Ticketless.{HoldNoTickets}
use Rattle.mich_base.proofs.undo_lemmas.ForCallers.{keeps_to, keeps_equal}
use Rattle.mich_bigmap.proofs.Extending.{extends_more, extends_equal, entries_first, there_first}
use Rattle.mich_bigmap.proofs.store.Store.extend.Goals as goal

pub returns : goal.returns
returns c =
    let b : Base = record { number = c.in_ok-number.number; over = c.args.over; changes = c.args.changes } in
    let old = c.args.self.now.bases in
    let e = c.in_ok-number.ensures.added in
    let p = ap (λ (h : History Bases). h.present) e in
    record {
      same = entries_first old.present _ b p;
      there = there_first old.present _ b p;
      others = extends_more old.present _ b c.in_ok-number.ensures.unused p;
      keeps = keeps_to _ _ _ e;
      ticketless = λ h t. subst HoldNoTickets (sym p) (t, h);
      noted = c.in_ok-number.ensures.noted;
    }

pub returns-in_err-number-clause-others : goal.returns-in_err-number-clause-others
returns-in_err-number-clause-others c = extends_equal _ _ (ap (λ (s : Stored). s.bases.present) c.in_err-number.ensures.unchanged)

pub returns-in_err-number-clause-keeps : goal.returns-in_err-number-clause-keeps
returns-in_err-number-clause-keeps c = keeps_equal _ _ (ap (λ (s : Stored). s.bases) c.in_err-number.ensures.unchanged)

pub returns-in_err-number-clause-ticketless : goal.returns-in_err-number-clause-ticketless
returns-in_err-number-clause-ticketless c = λ h t. subst HoldNoTickets (sym (ap (λ (s : Stored). s.bases.present) c.in_err-number.ensures.unchanged)) h
