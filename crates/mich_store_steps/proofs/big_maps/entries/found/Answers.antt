use Rattle.std.proofs.Common.{sym, ap, ◌∙◌}
use Rattle.rules_data.specs.values.Tables.{value_at}
use Rattle.mich_term.specs.View.{datum}
use Rattle.mich_store_steps.specs.big_maps.Given.{entries_seen}
use Rattle.mich_store_steps.proofs.big_maps_lemmas.Sighted.{formed_of, seen_here, sound_here, lent_seen}
use Rattle.mich_store_steps.proofs.big_maps.entries.found.Goals as goal

pub get-requires : goal.get-requires
get-requires c = formed_of c.args.store.now.bases.present c.args.big.now c.requires.0

pub returns-clause-alone : goal.returns-clause-alone
returns-clause-alone c =
    let bs = c.args.store.now.bases.present in
    c.get.ensures ∙ ap (value_at (datum c.args.key.now)) (sym (seen_here bs c.args.big.now (sound_here bs c.args.big.now c.requires.0)))

pub returns-clause-in_store : goal.returns-clause-in_store
returns-clause-in_store c =
    let bs = c.args.store.now.bases.present in
    lent_seen bs (datum c.args.key.now) (entries_seen bs c.args.big.now) c.get.result c.requires.1
    (c.get.ensures ∙ ap (value_at (datum c.args.key.now)) (sym (seen_here bs c.args.big.now (sound_here bs c.args.big.now c.requires.0))))
