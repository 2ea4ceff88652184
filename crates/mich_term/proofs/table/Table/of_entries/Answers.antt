use Rattle.std.proofs.Common.{◌≡◌, sym, ◌∙◌, subst}
use Rattle.std.specs.BTreeMap.{IsFromIterResult}
use Rattle.std.proofs.lemmas.List.{map-id}
use Rattle.std.proofs.lemmas.Iterator.{items_from_drains}
use Rattle.std.proofs.lemmas.Iterator.Adapters.{YieldsList-from_vec}
use Rattle.mich_term.specs.Keyed.{by}
use Rattle.mich_term.proofs.Built.{table_built}
use Rattle.mich_term.proofs.table.Table.of_entries.Goals as goal

pub returns : goal.returns
returns g c =
    let ran = c.in_ok-map.ensures.ran in
    let all = items_from_drains ran.0 ran.1 (YieldsList-from_vec c.args.entries.items c.into_iter.ensures.rest (c.into_iter.ensures.len ∙ c.args.entries.ok.0)) in
    table_built c.args.entries.items c.in_ok-map.map c.requires (subst (λ xs. IsFromIterResult by xs c.in_ok-map.map) (sym (map-id ran.0) ∙ all) ran.2)
