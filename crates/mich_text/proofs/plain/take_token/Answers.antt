use Rattle.std.proofs.Common.{option_map, sym, ap, subst, ◌∙◌}
use Rattle.rules_text.specs.nodes.Limits.{depth_limit}
use Rattle.mich_text.specs.Machine.{Stack, refused}
use Rattle.mich_text.specs.Nodes.{stack_view, refusal_view}
use Rattle.mich_text.specs.Views.{token_view}
use Rattle.mich_text.specs.Gives.{flaw_view}
use Rattle.mich_text.specs.Results.{IsPlaced}
use Rattle.mich_text.proofs.readings.Steps.{bad_char, shape_read, own_flaw, refused_place, placed}
use Rattle.mich_text.proofs.plain.take_token.Goals as goal

pub returns-in_default : goal.returns-in_default
returns-in_default c = bad_char c.args.here.now (stack_view c.args.stack.now.items) c.requires (sym c.in_default.ensures)

pub returns-in-Err-Flaw : goal.returns-in-Err-Flaw
returns-in-Err-Flaw c =
    let here = c.args.here.now in
    let shape = c.in-Some.shape in
    let e = rw c.in-Err-Flaw.field-0-is at c.in-Err-Flaw.ensures in
    let n = rw c.in-Err-Flaw.own-is at c.first_flaw.ensures in
    rw n (own_flaw here (stack_view c.args.stack.now.items) (flaw_view c.in-Err-Flaw.own) shape
    (option_map refusal_view c.why_not-refusal.result) e (shape_read here shape c.requires (sym c.in-Some.ensures))
    (c.why_not-refusal.ensures ∙ ap (λ (x : Stack). refused depth_limit x shape) c.in_ok-ready_for.ensures))

pub returns-in-Some-refusal : goal.returns-in-Some-refusal
returns-in-Some-refusal c =
    let here = c.args.here.now in
    let shape = c.in-Some.shape in
    rw c.kind_of.ensures (refused_place here c.in-Ok.behind.now (stack_view c.args.stack.now.items) (token_view c.in-Ok.token) shape
    (refusal_view c.in-Some-refusal.refusal) c.in-Ok.ensures (shape_read here shape c.requires (sym c.in-Some.ensures))
    (ap (λ (x : Stack). refused depth_limit x shape) (sym c.in_ok-ready_for.ensures) ∙ sym c.in-Some-refusal.ensures))

pub returns-in-None : goal.returns-in-None
returns-in-None c =
    let here = c.args.here.now in
    let shape = c.in-Some.shape in
    placed here c.in-Ok.behind.now (stack_view c.args.stack.now.items) (stack_view c.place_token.new.stack.items)
    (token_view c.in-Ok.token) shape c.place_token.result c.in-Ok.ensures (shape_read here shape c.requires (sym c.in-Some.ensures))
    (ap (λ (x : Stack). refused depth_limit x shape) (sym c.in_ok-ready_for.ensures) ∙ sym c.in-None.ensures)
    (subst (λ (x : Stack). IsPlaced (token_view c.in-Ok.token) c.in-Ok.behind.now x
    (stack_view c.place_token.new.stack.items) c.place_token.result) c.in_ok-ready_for.ensures c.place_token.ensures)
