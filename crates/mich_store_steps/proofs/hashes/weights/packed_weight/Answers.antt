use Rattle.std.proofs.Common.{sym, ap, ◌∙◌}
use Rattle.mich_stack.specs.Views.{seen, values}
use Rattle.mich_term.specs.ValueView.{val}
use Rattle.mich_term.specs.Weights.{capped}
use Rattle.mich_store_steps.proofs.hashes_lemmas.Packed.{all_alike, operand_here, pack_weighs}
use Rattle.mich_store_steps.proofs.hashes.weights.packed_weight.Goals as goal

pub returns-in-Some : goal.returns-in-Some
returns-in-Some c = λ big.
    let r = c.requires in
    let x = c.in-Some in
    let h = operand_here (values r.0 c.args.stack.now) (seen r.0 x.value.now) (values r.0 x.field-0-1.now) (ap (values r.0) (sym c.as_slice.ensures) ∙ x.ensures r.0) r.1 in
    c.packed_len.ensures ∙ ap capped (sym (pack_weighs (values big c.args.stack.now) (seen big x.value.now) (val x.value.now) (values big x.field-0-1.now) (ap (values big) (sym c.as_slice.ensures) ∙ x.ensures big) (all_alike r.0 big x.value.now h.1)))
