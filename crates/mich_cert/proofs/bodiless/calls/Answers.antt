use Rattle.std.specs.Prelude.{option_map}
use Rattle.mich_cert.specs.View.{kinds}
use Rattle.mich_cert.proofs.Arities.{no_call}
use Rattle.mich_cert.proofs.bodiless.calls.Goals as goal

pub returns-in-len1-up : goal.returns-in-len1-up
returns-in-len1-up c = no_call c.as_slice.result.now c.args.app.now.args c.as_slice.ensures c.args.primitive (kinds c.args.before.now) (option_map (λ t. kinds t.now) c.args.after) c.in-len1-up.len_at_least
