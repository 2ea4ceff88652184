use Rattle.std.proofs.Common.{sym, ap, ◌∙◌, subst}
use Rattle.rules_data.specs.values.Tables.{value_at, with_value}
use Rattle.mich_term.specs.View.{datum}
use Rattle.mich_store_steps.specs.big_maps.Given.{entries_seen, seen_in}
use Rattle.mich_store_steps.specs.big_maps.Operands.{AreEntries}
use Rattle.mich_store_steps.proofs.big_maps_lemmas.Sighted.{formed_of, seen_here, sound_here, found_seen, put_seen}
use Rattle.mich_store_steps.proofs.big_maps.entries.put.Goals as goal

pub write-requires : goal.write-requires
write-requires c =
    formed_of c.args.store.now.bases.present c.unbar.new.big (subst AreEntries (sym c.in_ok-unbar.ensures.entries) c.requires.entries).0

pub returns-clause-old : goal.returns-clause-old
returns-clause-old c =
    let bs = c.args.store.now.bases.present in
    let m = c.unbar.new.big in
    let same = c.in_ok-unbar.ensures.entries in
    let entries = subst AreEntries (sym same) c.requires.entries in
    found_seen bs (datum c.args.key) (entries_seen bs m) c.in_ok-old.old entries.1
    (c.in_ok-old.ensures.old ∙ ap (value_at (datum c.args.key)) (sym (seen_here bs m (sound_here bs m entries.0))))
    ∙ ap (value_at (datum c.args.key)) same

pub returns-clause-new : goal.returns-clause-new
returns-clause-new c =
    let bs = c.args.store.now.bases.present in
    let m = c.unbar.new.big in
    let same = c.in_ok-unbar.ensures.entries in
    let entries = subst AreEntries (sym same) c.requires.entries in
    put_seen bs c.requires.shows m c.write.new.m entries c.in_ok-old.ensures.formed c.in_ok-old.ensures.base
    (datum c.args.key) c.args.value c.requires.plain c.in_ok-unbar.ensures.permitted c.in_ok-old.ensures.new
    ∙ ap (with_value (datum c.args.key) (seen_in bs c.args.value)) same
