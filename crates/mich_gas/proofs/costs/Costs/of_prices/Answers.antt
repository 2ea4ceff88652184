use Rattle.std.proofs.Common.{◌≡◌, ℕ, ◌<◌, ◌∙◌, sym, length, get_or, slice_get}
use Rattle.std.specs.Prelude.{None}
use Rattle.rules_data.specs.gas.Kinds.{place}
use Rattle.mich_gas.proofs.Tables.{all_listed, put_next}
use Rattle.mich_gas.proofs.costs.Costs.of_prices.Goals as goal

pub loop-place-init : goal.loop-place-init
loop-place-init c = (sym c.requires, λ j below. elim (below) [ ])

pub loop-place-preserved : goal.loop-place-preserved
loop-place-preserved c =
    let kept : (length c.loop-place.listed ≡ length c.args.prices.now) × ((j : ℕ) → j < c.loop-place.place → get_or c.loop-place.listed j None ≡ slice_get c.args.prices.now j) = c.loop-place.invariant in
    put_next c.loop-place.listed c.args.prices.now c.loop-place.place (record { base = 0; coefficient = 0 }) kept.0 c.loop-place-test.true kept.1

pub returns : goal.returns
returns c kind =
    let kept : (length c.loop-place.listed ≡ length c.args.prices.now) × ((j : ℕ) → j < c.loop-place.place → get_or c.loop-place.listed j None ≡ slice_get c.args.prices.now j) = c.loop-place.invariant in
    all_listed c.loop-place.listed c.args.prices.now c.loop-place.place (place kind) kept.0 c.loop-place-test.false kept.1
