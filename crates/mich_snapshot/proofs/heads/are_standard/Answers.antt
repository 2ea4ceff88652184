use Rattle.std.proofs.Common.{◌≡◌, false, take, sym, ap, ◌∙◌, arith}
use Rattle.std.specs.List.{list_all}
use Rattle.std.proofs.lemmas.Grind.{common_steps}
use Rattle.std.proofs.lemmas.List.Folds.{list_all-map, list_all_at, list_all_more}
use Rattle.rules_files.specs.snapshots.Rules.{is_standard}
use Rattle.mich_gas.specs.View.{seen_price}
use Rattle.mich_gas.specs.declared.costs.Price.{Price}
use Rattle.mich_snapshot.proofs.heads.are_standard.Goals as goal

pub returns-then-not-is_standard : goal.returns-then-not-is_standard
returns-then-not-is_standard c =
    let fails : list_all (λ (p : Price). is_standard (seen_price p)) c.as_slice-price-items.result.now ≡ false = grind (arith, common_steps, list_all_at) in
    sym (list_all-map is_standard seen_price c.args.prices.now ∙ ap (list_all (λ (p : Price). is_standard (seen_price p))) (sym c.as_slice-price-items.ensures) ∙ fails)

pub loop-price-preserved : goal.loop-price-preserved
loop-price-preserved c = grind (arith, common_steps, list_all_more)

pub returns : goal.returns
returns c =
    let all : take c.loop-price.price-index c.as_slice-price-items.result.now ≡ c.as_slice-price-items.result.now = grind (arith, common_steps) in
    sym (list_all-map is_standard seen_price c.args.prices.now ∙ ap (list_all (λ (p : Price). is_standard (seen_price p))) (sym (all ∙ c.as_slice-price-items.ensures)) ∙ c.loop-price.invariant)
