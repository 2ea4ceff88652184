use Rattle.std.proofs.Common.{ap, length, sym, ◌∙◌}
use Rattle.std.specs.Prelude.{pos}
use Rattle.rules_data.specs.values.Val.{number}
use Rattle.mich_step.proofs.collections_lemmas.Members.{count_is}
use Rattle.mich_step.proofs.collections.sets.set_size.Goals as goal

pub returns-clause-value : goal.returns-clause-value
returns-clause-value c = λ big. c.count_value.ensures.value big ∙ ap (λ n. number (pos n)) (c.len.ensures.value ∙ ap length c.get.ensures ∙ sym (count_is c.args.set.now))
