use Rattle.std.proofs.Common.{rules, ◌≢◌}
use Rattle.rules_data.specs.forms.Spelling.{default_name}
use Rattle.mich_forms.proofs.Joining.{joined_parts}
use Rattle.mich_forms.proofs.OneSpelling.{written_is}
use Rattle.mich_forms.proofs.addresses.Address.bytes.Goals as goal

pub returns-clause-valid : goal.returns-clause-valid
returns-clause-valid c =
    let is_no_default : c.args.self.now.entrypoint ≢ default_name = search rules in
    rw (c.joined.ensures, c.as_slice.ensures.bytes, c.as_slice-2.ensures.name)
    (joined_parts c.bytes-place.result c.args.self.now.entrypoint c.bytes-place.ensures.valid
    (written_is c.args.self.now.entrypoint c.as_slice-2.ensures.valid is_no_default))
