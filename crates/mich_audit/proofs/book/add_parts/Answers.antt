use Rattle.rules_audit.specs.Fields.{Part}
use Rattle.mich_audit.specs.View.{part_seen, parts_seen}
use Rattle.std.proofs.Common.{◌++◌, take}
use Rattle.mich_audit.proofs.Added.{added_more, added_all, form_at}
use Rattle.mich_audit.proofs.book.add_parts.Goals as goal

pub parts-preserved : goal.parts-preserved
parts-preserved c = λ ps ls kept forms.
    added_more ps ls c.args.parts.now c.parts.part-index c.part-item.result c.add_part.new.book.entries c.parts-test.true c.part-item.is
    (c.in_ok-add_part.ensures (parts_seen (take c.parts.part-index c.args.parts.now) ++ ps) ls (c.parts.invariant ps ls kept forms)
    (form_at c.args.parts.now c.parts.part-index c.part-item.result c.parts-test.true c.part-item.is forms))

pub returns : goal.returns
returns c = λ ps ls kept forms. added_all ps ls c.args.parts.now c.parts.part-index c.parts.book.entries c.parts-test.false (c.parts.invariant ps ls kept forms)
