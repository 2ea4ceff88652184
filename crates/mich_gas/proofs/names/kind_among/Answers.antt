use Rattle.std.proofs.Common.{◌∙◌, ap}
use Rattle.std.specs.Prelude.{map, option_map}
use Rattle.std.specs.List.{find}
use Rattle.std.specs.Str.{bytes_eq}
use Rattle.mich_gas.specs.View.{seen_row}
use Rattle.mich_gas.proofs.Named.{find_seen, kind_of_seen}
use Rattle.mich_gas.proofs.names.kind_among.Goals as goal

pub returns : goal.returns
returns c =
    c.kind_in.ensures ∙ find_seen (bytes_eq c.as_slice.result.now) c.args.table.now ∙ ap (λ text. option_map kind_of_seen (find (λ e. bytes_eq text e.0) (map seen_row c.args.table.now))) c.as_slice.ensures
