use Rattle.std.proofs.Common.{ap, ◌∙◌}
use Rattle.rules_data.specs.values.Val as v
use Rattle.mich_base.specs.View.{tree}
use Rattle.mich_interpreter.proofs.Mapped.{seen_lambda}
use Rattle.mich_interpreter.proofs.giving.typed_lambda.Goals as goal

pub typed-requires : goal.typed-requires
typed-requires c = rw (c.in_ok-arg.ensures, c.in_ok-ret.ensures, c.in_ok-node.ensures, c.in_ok-code.ensures) c.requires

pub returns : goal.returns
returns c = λ big. seen_lambda big c.in_ok-body.body c.args.recursive ∙ ap (λ n. v.lambda (tree n) c.args.recursive) (c.in_ok-body.ensures ∙ c.in_ok-node.ensures)
