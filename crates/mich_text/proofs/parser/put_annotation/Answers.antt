use Rattle.std.proofs.Common.{◌-◌, vec_len, refl, arith}
use Rattle.mich_text.specs.Machine.{put_annotation}
use Rattle.mich_text.proofs.grammar.Stacks.{change_last, annotation_top}
use Rattle.mich_text.proofs.parser.put_annotation.Goals as goal

pub returns-in_ok-annotate : goal.returns-in_ok-annotate
returns-in_ok-annotate c =
    change_last (put_annotation c.args.annotation) (annotation_top c.args.annotation) c.args.stack.now.items
    (vec_len c.args.stack.now - 1) c.in-Some.frame.now c.annotate.new.self
    (omega (arith, c.in-Some.ensures.variant.0 refl)) c.in-Some.ensures.value c.in_ok-annotate.ensures
