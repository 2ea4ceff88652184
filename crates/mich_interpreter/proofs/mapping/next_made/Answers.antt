use Rattle.std.proofs.Common.{refl}
use Rattle.mich_instr.specs.View.{codes}
use Rattle.mich_interpreter.proofs.Results.{made_top, value_made, entry_made, part_made}
use Rattle.mich_interpreter.proofs.Rising.{made_below}
use Rattle.mich_interpreter.proofs.mapping.next_made.Goals as goal

pub pop-result-requires : goal.pop-result-requires
pop-result-requires c = (c.requires.0.sight, made_top c.requires.0.sight (codes c.args.body) c.args.making c.requires.5)

pub next_value-requires : goal.next_value-requires
next_value-requires c =
    let r = c.requires in (
      r.0,
      r.1,
      r.2,
      r.3,
      r.4,
      value_made r.0.sight c.in-Value.work (record c.in-Value.work { made = c.push.new.self }) c.pop-result.result refl c.in_ok-push-in-Value.ensures.pushed
          (rw (c.pop-result.ensures r.0.sight, c.in-Value.is) at r.5),
    )

pub returns-in_ok-next_value-in-Value-clause-acts : goal.returns-in_ok-next_value-in-Value-clause-acts
returns-in_ok-next_value-in-Value-clause-acts c = λ x fs d Z o h.
    c.in_ok-next_value-in-Value.ensures.acts x fs d Z o
    (value_made x.sight c.in-Value.work (record c.in-Value.work { made = c.push.new.self }) c.pop-result.result refl c.in_ok-push-in-Value.ensures.pushed (rw (c.pop-result.ensures x.sight, c.in-Value.is) at h))

pub put_last-requires : goal.put_last-requires
put_last-requires c = made_below c.requires.0.sight c.in-Entry.work c.in-Entry.key (rw c.in-Entry.is at c.requires.5)

pub next_entry-requires : goal.next_entry-requires
next_entry-requires c =
    let r = c.requires in (
      r.0,
      r.1,
      r.2,
      r.3,
      r.4,
      entry_made r.0.sight c.in-Entry.work (record c.in-Entry.work { made = c.put_last.new.table }) c.in-Entry.key c.pop-result.result refl c.in_ok-put_last-in-Entry.ensures
          (rw (c.pop-result.ensures r.0.sight, c.in-Entry.is) at r.5),
    )

pub returns-in_ok-next_entry-in-Entry-clause-acts : goal.returns-in_ok-next_entry-in-Entry-clause-acts
returns-in_ok-next_entry-in-Entry-clause-acts c = λ x fs d Z o h.
    c.in_ok-next_entry-in-Entry.ensures.acts x fs d Z o
    (entry_made x.sight c.in-Entry.work (record c.in-Entry.work { made = c.put_last.new.table }) c.in-Entry.key c.pop-result.result refl c.in_ok-put_last-in-Entry.ensures (rw (c.pop-result.ensures x.sight, c.in-Entry.is) at h))

pub returns-in_ok-push-in-Part-clause-acts : goal.returns-in_ok-push-in-Part-clause-acts
returns-in_ok-push-in-Part-clause-acts c = λ x fs d Z o h.
    rw (c.in_ok-push-in-Part.ensures x.sight, c.in_ok-part-in-Part.ensures) (part_made x.sight c.pop-result.result
    (rw (c.pop-result.ensures x.sight, c.in-Part.is) at h))
