use Rattle.mich_base.specs.TypeView.{kind}
use Rattle.mich_base.specs.View.{tree}
use Rattle.mich_term.specs.ValueView.{val}
use Rattle.mich_check.proofs.HeldTyping.{all_held}
use Rattle.mich_check.proofs.LiteralTyping.{again_is, value_is}
use Rattle.mich_check.proofs.Sequences.{read_sequences}
use Rattle.mich_check.proofs.literals.check_literal_at.Goals as goal

pub with_lambdas-requires-clause-held : goal.with_lambdas-requires-clause-held
with_lambdas-requires-clause-held c = all_held _ _ (c.in_ok-lambdas.ensures.held (read_sequences (kind c.args.ty.now) c.args.at (tree c.args.node.now) _ _ c.in_ok-read.ensures.read))

pub with_lambdas-requires-clause-reads : goal.with_lambdas-requires-clause-reads
with_lambdas-requires-clause-reads c = value_is _ _ _ c.in_ok-read.ensures.read

pub returns-clause-checked : goal.returns-clause-checked
returns-clause-checked c =
    again_is (kind c.args.ty.now) c.args.at (tree c.args.node.now) (val c.in_ok-read.read.value) (val c.in_ok-value.value) _ _
    c.in_ok-read.ensures.read c.in_ok-value.ensures.value c.in_ok-lambdas.ensures.fault c.in_ok-claims.ensures
