use Rattle.std.proofs.Common.{◌≡◌, ◌≤◌, ◌<◌, ◌-◌, ℕ, false, is_none, arith, refl, rules, ap, sym, subst, ◌∙◌}
use Rattle.rules_world.specs.world.Growth.{size_of}
use Rattle.mich_bigmap.specs.Stored.{Stored}
use Rattle.mich_forms.specs.declared.places.Place.TheVariants as place
use Rattle.mich_ops.specs.declared.receipt.Effect.TheVariants as effect
use Rattle.mich_world.specs.Standing.{plain}
use Rattle.mich_world.proofs.ForCallers.{world_same}
use Rattle.mich_operations.proofs.Growths.{charged, no_growth, pays_nothing, some_rate, uncharged}
use Rattle.mich_operations.proofs.growing.charge.Goals as goal

pub returns-then-is_none-clause-pays : goal.returns-then-is_none-clause-pays
returns-then-is_none-clause-pays c = pays_nothing c.args.world.now c.args.source.now c.args.hash.now

pub returns-then-is_none-clause-keeps : goal.returns-then-is_none-clause-keeps
returns-then-is_none-clause-keeps c = world_same c.args.world.now

pub returns-in_err-size-clause-pays : goal.returns-in_err-size-clause-pays
returns-in_err-size-clause-pays c = pays_nothing c.args.world.now c.args.source.now c.args.hash.now

pub returns-in_err-size-clause-keeps : goal.returns-in_err-size-clause-keeps
returns-in_err-size-clause-keeps c = world_same c.args.world.now

pub returns-then-size-paid-clause-charges : goal.returns-then-size-paid-clause-charges
returns-then-size-paid-clause-charges c = λ w stands form key.
    let d = c.in-Some.contract.now in
    let sized = c.in_ok-size.ensures ∙ ap (λ (s : Stored). size_of (plain s.bases.present d)) c.store.ensures in
    no_growth c.args.world.now w c.args.source.now c.args.hash.now stands d (sym c.in-Some.ensures) (subst (λ (n : ℕ). n ≤ d.paid) sized c.if-size-paid.true)

pub returns-then-size-paid-clause-keeps : goal.returns-then-size-paid-clause-keeps
returns-then-size-paid-clause-keeps c = world_same c.args.world.now

pub returns-in-Ok-clause-charges : goal.returns-in-Ok-clause-charges
returns-in-Ok-clause-charges c = λ w stands form key.
    let v = c.args.world.now in
    let d = c.in-Some.contract.now in
    let sized = c.in_ok-size.ensures ∙ ap (λ (s : Stored). size_of (plain s.bases.present d)) c.store.ensures in
    let some : is_none v.funds.present.rate ≡ false = search rules in
    let grew : d.paid < c.in_ok-size.size = omega (arith, c.if-size-paid.false) in
    charged v w c.args.source.now c.args.hash.now stands d (sym c.in-Some.ensures) _ c.in_ok-size.size (some_rate v.funds.present.rate some) sized grew form key
    c.pay_storage.new.self c.in-Ok.burn (effect.Storage (place.Contract c.args.hash.now) (c.in_ok-size.size - d.paid) c.in-Ok.burn) refl c.in-Ok.ensures.answer c.in-Ok.ensures.others

pub returns-in-Err-BalanceTooLow-clause-charges : goal.returns-in-Err-BalanceTooLow-clause-charges
returns-in-Err-BalanceTooLow-clause-charges c = λ w stands form key.
    let v = c.args.world.now in
    let d = c.in-Some.contract.now in
    let sized = c.in_ok-size.ensures ∙ ap (λ (s : Stored). size_of (plain s.bases.present d)) c.store.ensures in
    let some : is_none v.funds.present.rate ≡ false = search rules in
    let grew : d.paid < c.in_ok-size.size = omega (arith, c.if-size-paid.false) in
    uncharged v w c.args.source.now c.args.hash.now stands d (sym c.in-Some.ensures) _ c.in_ok-size.size (some_rate v.funds.present.rate some) sized grew form key
    c.pay_storage.new.self (rw c.in-Err-BalanceTooLow.field-0-is at c.in-Err-BalanceTooLow.ensures.answer)
