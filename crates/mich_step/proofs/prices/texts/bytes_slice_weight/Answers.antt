use Rattle.std.proofs.Common.{rules, ◌≡◌, sym, ap, ◌∙◌}
use Rattle.std.specs.Prelude.{unsigned_abs}
use Rattle.rules_code.specs.steps.Costs.{length_found}
use Rattle.rules_code.specs.steps.Texts.{slice}
use Rattle.mich_term.specs.Weights.{capped}
use Rattle.mich_stack.specs.Views.{values}
use Rattle.mich_step.proofs.prices_lemmas.Cutting.{bytes_cut, bytes_parts}
use Rattle.mich_step.proofs.prices.texts.bytes_slice_weight.Goals as goal

pub returns : goal.returns
returns c = λ big.
    let x = c.in-Some-Number-Number-Bytes-default in
    let parts = bytes_parts c.requires.0 (values c.requires.0 c.args.stack.now) (values c.requires.0 x.field-0-3.now) x.field-0-0.now x.field-0-1.now x.field-0-2.now x.offset x.count x.s
    (ap (values c.requires.0) (sym c.as_slice.ensures) ∙ x.ensures c.requires.0) x.field-0-0-is x.field-0-1-is x.field-0-2-is c.requires.1 in
    let weighed : c.cut_weight.result ≡ capped (length_found (slice (unsigned_abs x.offset) (unsigned_abs x.count) x.s)) = search rules in
    weighed ∙ ap capped (bytes_cut big (values big c.args.stack.now) (values big x.field-0-3.now) x.field-0-0.now x.field-0-1.now x.field-0-2.now x.offset x.count x.s
    (ap (values big) (sym c.as_slice.ensures) ∙ x.ensures big) x.field-0-0-is x.field-0-1-is x.field-0-2-is parts)
