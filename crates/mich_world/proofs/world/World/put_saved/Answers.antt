-- A contract is put in.
use Rattle.std.proofs.Common.{[], ◌∷◌, refl, sym, ap, subst}
use Rattle.mich_base.specs.undo.History.{History}
use Rattle.mich_bigmap.specs.Shared.{SharesBy}
use Rattle.mich_instr.specs.declared.instr.Script.{Script}
use Rattle.mich_world.specs.Holders.{Holders, balance_in, contract_at}
use Rattle.mich_world.specs.Restoring.{MayPutContracts, PutsContracts}
use Rattle.mich_world.specs.Storages.{storage_kind}
use Rattle.mich_world.specs.World.{World}
use Rattle.mich_world.proofs.restoring_lemmas.Alone.{alone_based}
use Rattle.mich_world.proofs.restoring_lemmas.Stages.{contract_put}
use Rattle.mich_world.proofs.world.World.put_saved.Goals as goal

pub settle_all-requires-clause-based : goal.settle_all-requires-clause-based
settle_all-requires-clause-based c = alone_based c.self.inside.store.bases.present c.args.saved.contract.storage c.requires.alone.0.alone

pub returns : goal.returns
returns c =
    let x = c.args.saved in
    let i = c.self.inside in
    let u : World = record { chain = i.chain; level = i.level; moment = i.moment; funds = i.funds; ledger = i.ledger; store = i.store } in
    let v : World = record {
      chain = i.chain;
      level = i.level;
      moment = i.moment;
      funds = c.write_contract.new.self;
      ledger = c.enter.new.self;
      store = c.settle_all.new.store;
    } in
    let shares : SharesBy (storage_kind x.contract.script) x.contract.storage c.in_ok-storage.storage
    = subst (λ (s : Script). SharesBy (storage_kind s) x.contract.storage c.in_ok-storage.storage) c.get.ensures c.in_ok-storage.ensures.shared in
    let may : MayPutContracts (x ∷ []) u = subst (λ (w : World). MayPutContracts (x ∷ []) w) (sym c.self.view_is) c.requires in
    subst (λ (w : World). PutsContracts (x ∷ []) w v) c.self.view_is
    (contract_put x u v c.in_ok-storage.storage (balance_in (contract_at u.funds.present x.hash)) may (record { chain = refl; level = refl; moment = refl })
    (ap (λ (h : History Holders). h.present) c.in_ok-write_contract.ensures.new) c.in_ok-write_contract.ensures.total c.in_ok-enter.ensures.moves
    c.in_ok-storage.ensures.settles shares c.in_ok-storage.ensures.lays)
