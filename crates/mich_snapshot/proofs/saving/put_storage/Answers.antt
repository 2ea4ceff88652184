use Rattle.std.proofs.Common.{subst}
use Rattle.rules_data.specs.values.Val.{Val}
use Rattle.rules_files.specs.snapshots.Loading.{bodies}
use Rattle.rules_files.specs.snapshots.Spelling.{value_spelling}
use Rattle.mich_snapshot.specs.Puts.{IsPut}
use Rattle.mich_snapshot.proofs.Putting.{any_long}
use Rattle.mich_snapshot.proofs.saving.put_storage.Goals as goal

pub returns : goal.returns
returns c =
    subst (λ (x : Val). IsPut c.args.out.now.items c.put_value.new.out.items (value_spelling x) (any_long (bodies x)) c.put_value.result)
    c.in_ok-storage.ensures.stands c.put_value.ensures
