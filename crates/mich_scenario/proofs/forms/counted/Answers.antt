use Rattle.std.proofs.Common.{arith}
use Rattle.mich_scenario.proofs.Groups.{many_counted, counted_form}
use Rattle.mich_scenario.proofs.forms.counted.Goals as goal

pub returns-then-len-gt-MOST_CONTENTS : goal.returns-then-len-gt-MOST_CONTENTS
returns-then-len-gt-MOST_CONTENTS c = many_counted c.args.nodes (omega (arith, c.len.ensures, c.if-len-gt-MOST_CONTENTS.true))

pub returns : goal.returns
returns c = counted_form c.args.nodes c.each_content.result c.if-is_empty.ensures (omega (arith, c.len.ensures, c.if-len-gt-MOST_CONTENTS.false)) c.each_content.ensures
