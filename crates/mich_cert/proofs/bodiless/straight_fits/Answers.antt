use Rattle.std.specs.Prelude.{option_map}
use Rattle.rules_data.specs.types.Entrypoints.{field_name}
use Rattle.mich_cert.specs.Arguments.{is_named}
use Rattle.mich_cert.specs.View.{kinds}
use Rattle.mich_cert.proofs.Arities.{not_straight}
use Rattle.mich_cert.proofs.bodiless.straight_fits.Goals as goal

pub returns-in-len3-up : goal.returns-in-len3-up
returns-in-len3-up c = not_straight c.as_slice.result.now c.args.app.now.args c.as_slice.ensures c.args.primitive (is_named (field_name c.args.app.now.annots)) (kinds c.args.before.now) (option_map (λ t. kinds t.now) c.args.after) c.in-len3-up.len_at_least
