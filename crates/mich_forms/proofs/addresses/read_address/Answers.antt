use Rattle.mich_forms.proofs.Joining.{split_address}
use Rattle.mich_forms.proofs.addresses.read_address.Goals as goal

pub returns : goal.returns
returns c =
    let parts = c.in_ok-place.ensures.cases in
    let place = c.in_ok-place-2.ensures in
    let written = c.in_ok-entrypoint.ensures in
    record {
      spelled =
          split_address c.args.bytes.now c.in_ok-place.place.now c.in_ok-place.written.now _ _ parts.1 parts.2 place.spelled.0 written.written.0 place.spelled.1 written.written.1;
      parts = (rw (← place.spelled.1) at place.spelled.0, written.name);
    }
