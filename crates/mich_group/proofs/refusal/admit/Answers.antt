use Rattle.std.proofs.Common.{◌≡◌, ◌<◌, ◌≤◌, List, map, true, false, sym, ap, ◌∙◌, arith}
use Rattle.std.specs.List.{list_any}
use Rattle.rules_world.specs.world.Groups.{all_fees, is_over_gas}
use Rattle.mich_ops.specs.View.{content as content_of, contents as contents_of}
use Rattle.mich_ops.specs.declared.group.Content.{Content}
use Rattle.mich_group.proofs.Fees.{too_high, too_poor, not_refused}
use Rattle.mich_group.proofs.refusal.admit.Goals as goal

pub returns-then-is_over-clause-refusal : goal.returns-then-is_over-clause-refusal
returns-then-is_over-clause-refusal c = λ w s p.
    let over : list_any is_over_gas (contents_of c.args.group.now) ≡ true
    = ap (λ (cs : List Content). list_any is_over_gas (map content_of cs)) (sym c.as_slice.ensures) ∙ sym c.if-is_over.ensures in
    too_high c.args.world.now w c.args.group.now.source (contents_of c.args.group.now) s p c.in-Some.balance (sym c.in-Some.ensures) over

pub returns-then-from-fees-clause-refusal : goal.returns-then-from-fees-clause-refusal
returns-then-from-fees-clause-refusal c = λ w s p.
    let under : list_any is_over_gas (contents_of c.args.group.now) ≡ false
    = ap (λ (cs : List Content). list_any is_over_gas (map content_of cs)) (sym c.as_slice.ensures) ∙ sym c.if-is_over.ensures in
    let all : c.all_fees-fees.result ≡ all_fees (contents_of c.args.group.now)
    = c.all_fees-fees.ensures ∙ ap (λ (cs : List Content). all_fees (map content_of cs)) c.as_slice-2.ensures in
    let had = c.from.ensures in
    let less : c.in-Some.balance < all_fees (contents_of c.args.group.now) = omega arith in
    too_poor c.args.world.now w c.args.group.now.source (contents_of c.args.group.now) s p c.in-Some.balance (sym c.in-Some.ensures) under less

pub returns-clause-refusal : goal.returns-clause-refusal
returns-clause-refusal c = λ w s p.
    let under : list_any is_over_gas (contents_of c.args.group.now) ≡ false
    = ap (λ (cs : List Content). list_any is_over_gas (map content_of cs)) (sym c.as_slice.ensures) ∙ sym c.if-is_over.ensures in
    let all : c.all_fees-fees.result ≡ all_fees (contents_of c.args.group.now)
    = c.all_fees-fees.ensures ∙ ap (λ (cs : List Content). all_fees (map content_of cs)) c.as_slice-2.ensures in
    let had = c.from.ensures in
    let enough : all_fees (contents_of c.args.group.now) ≤ c.in-Some.balance = omega arith in
    not_refused c.args.world.now w c.args.group.now.source (contents_of c.args.group.now) s p c.in-Some.balance (sym c.in-Some.ensures) under enough
