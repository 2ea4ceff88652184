use Rattle.mich_forms.proofs.OneSpelling.{only_address, parts_of}
use Rattle.mich_forms.proofs.addresses.Address.read.Goals as goal

pub returns-clause-only : goal.returns-clause-only
returns-clause-only c =
    only_address c.read_address.result c.args.bytes.now c.read_address.ensures.spelled c.read_address.ensures.parts

pub returns-clause-parts : goal.returns-clause-parts
returns-clause-parts c =
    parts_of c.read_address.result c.args.bytes.now c.read_address.ensures.spelled c.read_address.ensures.parts
