use Rattle.std.proofs.Common.{◌∷◌, drop, Err, sym, ap, subst, ◌∙◌}
use Rattle.rules_code.specs.steps.Packing.{packed}
use Rattle.mich_pack.specs.Answers.{IsPacked}
use Rattle.mich_pack.specs.declared.error.PackError.{PackError}
use Rattle.mich_stack.specs.Views.{seen, values}
use Rattle.mich_term.specs.ValueView.{val}
use Rattle.mich_store_steps.proofs.hashes_lemmas.Packed.{all_alike, packable_alike, operand_here, pack_is, pack_over, bytes_seen}
use Rattle.mich_store_steps.proofs.hashes.steps.pack_step.Goals as goal

pub pack-requires : goal.pack-requires
pack-requires c =
    let r = c.requires in
    let x = c.in-Some in
    let h = operand_here (values r.0 c.args.stack.now) (seen r.0 x.value.now) (values r.0 x.field-0-1.now) (ap (values r.0) (sym c.as_slice.ensures) ∙ x.ensures r.0) r.1 in
    packable_alike r.0 x.value.now h.1 h.0

pub returns-in_ok-put-in-Ok : goal.returns-in_ok-put-in-Ok
returns-in_ok-put-in-Ok c = λ passes big.
    let r = c.requires in
    let x = c.in-Some in
    let h = operand_here (values r.0 c.args.stack.now) (seen r.0 x.value.now) (values r.0 x.field-0-1.now) (ap (values r.0) (sym c.as_slice.ensures) ∙ x.ensures r.0) r.1 in
    pack_is passes (values big c.args.stack.now) (seen big x.value.now) (val x.value.now) (values big x.field-0-1.now) (ap (values big) (sym c.as_slice.ensures) ∙ x.ensures big) (all_alike r.0 big x.value.now h.1)
    c.in-Ok.packed (values big c.put.new.stack) c.in-Ok.ensures.0 c.in-Ok.ensures.1
    (c.in_ok-put-in-Ok.ensures big ∙ ap (λ v. v ∷ drop 1 (values big c.args.stack.now)) (bytes_seen big c.in-Ok.packed))

pub returns-in-Err-SizeLimit : goal.returns-in-Err-SizeLimit
returns-in-Err-SizeLimit c = λ passes big.
    let r = c.requires in
    let x = c.in-Some in
    let h = operand_here (values r.0 c.args.stack.now) (seen r.0 x.value.now) (values r.0 x.field-0-1.now) (ap (values r.0) (sym c.as_slice.ensures) ∙ x.ensures r.0) r.1 in
    pack_over passes (values big c.args.stack.now) (seen big x.value.now) (val x.value.now) (values big x.field-0-1.now) (ap (values big) (sym c.as_slice.ensures) ∙ x.ensures big) (all_alike r.0 big x.value.now h.1)
    (subst (λ (e : PackError). IsPacked (Err e) (packed (val x.value.now))) c.in-Err-SizeLimit.field-0-is c.in-Err-SizeLimit.ensures)
