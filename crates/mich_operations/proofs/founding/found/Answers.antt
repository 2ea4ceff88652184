use Rattle.std.proofs.Common.{arith, is_some, List, refl, rules, subst, sym, true, ◌≡◌, ℕ}
use Rattle.rules_world.specs.world.Groups.{setting_of}
use Rattle.mich_bigmap.specs.Extended.{Extends}
use Rattle.mich_bigmap.specs.Stored.{Stored}
use Rattle.mich_ops.specs.declared.failure.Failure.TheVariants as failures
use Rattle.mich_world.specs.Holders.{contract_at}
use Rattle.mich_world.proofs.ForCallers.{world_trans}
use Rattle.mich_operations.proofs.Foundings.{contracts_founded, founds, founds_grown, founds_too_much, hosting_founded, there_founded}
use Rattle.mich_operations.proofs.Growths.{either_way}
use Rattle.mich_operations.proofs.founding.found.Goals as goal

pub with_growth-requires-clause-none : goal.with_growth-requires-clause-none
with_growth-requires-clause-none c = c.made.ensures.growth

pub with_growth-requires-clause-there : goal.with_growth-requires-clause-there
with_growth-requires-clause-there c =
    subst (λ (q : List ℕ). is_some (contract_at c.install.new.self.funds.present q) ≡ true) (sym c.made.ensures.by)
    (there_founded c.args.world.now c.install.new.self c.args.from.now c.args.hash c.args.balance c.args.script c.args.storage c.in-Ok.ensures.answer.1)

pub with_growth-requires-clause-hosting : goal.with_growth-requires-clause-hosting
with_growth-requires-clause-hosting c =
    hosting_founded c.args.world.now c.install.new.self c.args.from.now c.args.hash c.args.balance c.args.script c.args.storage
    c.in-Ok.ensures.answer.1 c.requires.typed (c.in-Ok.ensures.stored c.requires.hosting.stored) c.requires.hosting

pub returns-in-Ok-clause-ends : goal.returns-in-Ok-clause-ends
returns-in-Ok-clause-ends c = λ prices w gas group counts p.
    founds_grown c.args.world.now c.install.new.self w c.args.from.now c.args.hash c.args.balance c.args.script c.args.storage
    (setting_of prices group c.args.source.now) c.with_growth.new.world gas counts c.made.result.by c.with_growth.result c.made.ensures.by
    (c.with_growth.ensures.ends prices group _ gas counts counts
    (founds c.args.world.now c.install.new.self w c.args.from.now c.args.hash c.args.balance c.args.script c.args.storage c.args.source.now gas counts c.made.result p
    c.requires.hosting c.requires.there (first_of (search rules, omega (arith, c.well_formed))) c.requires.absent c.requires.formed c.in-Ok.ensures.answer.0
    c.in-Ok.ensures.answer.1 c.made.ensures.effect c.made.ensures.emitted c.made.ensures.growth))

pub returns-in-Ok-clause-bases : goal.returns-in-Ok-clause-bases
returns-in-Ok-clause-bases c =
    either_way c.with_growth.result
    (subst (λ (s : Stored). Extends c.args.world.now.store.bases.present s.bases.present) (sym c.with_growth.ensures.store) c.in-Ok.ensures.answer.1.lays.others)

pub returns-in-Ok-clause-contracts : goal.returns-in-Ok-clause-contracts
returns-in-Ok-clause-contracts c =
    either_way c.with_growth.result (λ hash there.
    c.with_growth.ensures.contracts hash
    (contracts_founded c.args.world.now c.install.new.self c.args.from.now c.args.hash c.args.balance c.args.script c.args.storage c.in-Ok.ensures.answer.1 hash there))

pub returns-in-Ok-clause-keeps : goal.returns-in-Ok-clause-keeps
returns-in-Ok-clause-keeps c = world_trans _ _ _ c.in-Ok.ensures.keeps c.with_growth.ensures.keeps

pub returns-in-Err-BalanceTooLow-clause-ends : goal.returns-in-Err-BalanceTooLow-clause-ends
returns-in-Err-BalanceTooLow-clause-ends c = λ prices w gas group counts p.
    let low = rw c.in-Err-BalanceTooLow.field-0-is at c.in-Err-BalanceTooLow.ensures.answer in
    founds_too_much c.args.world.now c.install.new.self w c.args.from.now c.args.hash c.args.balance c.args.script c.args.storage (setting_of prices group c.args.source.now) c.install.new.self gas counts
    failures.BalanceTooLow p.payer low.0 refl
