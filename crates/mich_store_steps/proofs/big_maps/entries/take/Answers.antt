use Rattle.std.proofs.Common.{sym, ap, ◌∙◌}
use Rattle.rules_data.specs.values.Tables.{value_at}
use Rattle.mich_term.specs.View.{datum}
use Rattle.mich_store_steps.specs.big_maps.Given.{entries_seen}
use Rattle.mich_store_steps.proofs.big_maps_lemmas.Sighted.{formed_of, seen_here, sound_here, found_seen, erased_seen}
use Rattle.mich_store_steps.proofs.big_maps.entries.take.Goals as goal

pub erase-requires : goal.erase-requires
erase-requires c = formed_of c.args.store.now.bases.present c.args.big.now c.requires.entries.0

pub returns-clause-old : goal.returns-clause-old
returns-clause-old c =
    let bs = c.args.store.now.bases.present in
    found_seen bs (datum c.args.key.now) (entries_seen bs c.args.big.now) c.in_ok-old.old c.requires.entries.1
    (c.in_ok-old.ensures.old ∙ ap (value_at (datum c.args.key.now)) (sym (seen_here bs c.args.big.now (sound_here bs c.args.big.now c.requires.entries.0))))

pub returns-clause-new : goal.returns-clause-new
returns-clause-new c =
    let bs = c.args.store.now.bases.present in
    erased_seen bs c.requires.shows c.args.big.now c.erase.new.m c.requires.entries c.in_ok-old.ensures.formed c.in_ok-old.ensures.base
    (datum c.args.key.now) c.in_ok-old.ensures.new
