use Rattle.std.specs.Prelude.{option_map}
use Rattle.mich_cert.specs.View.{kinds}
use Rattle.mich_cert.proofs.Arities.{no_fall}
use Rattle.mich_cert.proofs.bodiless.falls.Goals as goal

pub returns-in-len1-up : goal.returns-in-len1-up
returns-in-len1-up c = no_fall c.as_slice.result.now c.args.app.now.args c.as_slice.ensures c.args.primitive (kinds c.args.before.now) (option_map (λ t. kinds t.now) c.args.after) c.in-len1-up.len_at_least
