-- Storages that hold no tickets, by their type.
use Rattle.std.proofs.Common.{◌≡◌, ℕ, true, List, [], Some, None, refl, sym, ap, ◌∙◌, subst}
use Rattle.std.specs.Prelude.{option_map}
use Rattle.std.specs.declared.option.Option.{Option}
use Rattle.std.specs.BTreeMap.{is_at}
use Rattle.rules_code.specs.evaluation.Surroundings.{Contract as PlainContract}
use Rattle.rules_code.specs.instructions.Arguments.{found}
use Rattle.rules_code.specs.typing.Nodes.{script}
use Rattle.rules_code.specs.typing.Scripts.{Script as PlainScript}
use Rattle.rules_data.specs.types.Attributes.{duplicable}
use Rattle.rules_data.specs.values.Tickets.{tickets}
use Rattle.rules_world.specs.world.Good.{known_with, FitsIn, Stores}
use Rattle.laws_code.proofs.stacks.ForCallers.{nothing_in}
use Rattle.laws_world.proofs.runs.ForCallers.{IsMet, is_met, orderly, contract_stores}
use Rattle.mich_base.specs.undo.History.{History}
use Rattle.mich_bigmap.specs.Bases.{Bases}
use Rattle.mich_bigmap.proofs.ForCallers.{tickets_in_store}
use Rattle.mich_instr.specs.Scripts.{IsTypedScript}
use Rattle.mich_instr.specs.View.{script_node}
use Rattle.mich_ops.specs.declared.issued.Issued.{Issued}
use Rattle.mich_stack.specs.Views.{seen}
use Rattle.mich_store_steps.specs.seen.Sights.{sight}
use Rattle.mich_term.specs.ValueView.{val}
use Rattle.mich_term.specs.declared.value.Value.{Value}
use Rattle.mich_world.specs.Holders.{Holders, by_bytes, contract_at}
use Rattle.mich_world.specs.Standing.{plain}
use Rattle.mich_world.specs.Storages.{storage_kind, stored_tickets}
use Rattle.mich_world.specs.World.{World}
use Rattle.mich_world.specs.declared.contract.Contract.{Contract}
use Rattle.mich_world.proofs.simulation_lemmas.ForCallers.{contracts_agree, stored_are}
use Rattle.mich_machine.specs.Endings.{IsEnding}
use Rattle.mich_machine.specs.Plain.{is_plain}
use Rattle.mich_machine.specs.Returned.{by_number, Pick, picks}
use Rattle.mich_machine.proofs.Begun.{at_one, found_one, read_storage, typed_is}
use Rattle.mich_machine.proofs.Ended.{bs, r, one_contract, ticketless, is, given_formed, stored_is}

some_plain : (o : Option Contract) → is_plain o ≡ true → (c : Contract) × (o ≡ Some c) × (duplicable (storage_kind c.script) ≡ true)
some_plain (Some c) h = (c, refl, h)
some_plain None h = absurd cc

module _ {v : World} {to : List ℕ} {stack : List Value} {issued : List Issued} (e : IsEnding v to stack issued) (p : Pick) (is_picked : picks (by_number issued) (r e).numbers ≡ Some p)
    (plain_type : is_plain (contract_at v.funds.present to) ≡ true) where
  abbrev before : PlainContract
  before = (is e p is_picked).before

  abbrev there : Contract
  there = (some_plain (contract_at v.funds.present to) plain_type).0

  abbrev starts : Bases
  starts = e.start.store.bases.present

  same_contract : contract_at e.start.funds.present e.t.hash ≡ contract_at v.funds.present to
  same_contract = ap (λ (f : History Holders). contract_at f.present e.t.hash) (sym e.funds) ∙ ap (contract_at v.funds.present) e.hash

  there_at_start : contract_at e.start.funds.present e.t.hash ≡ Some there
  there_at_start = same_contract ∙ (some_plain (contract_at v.funds.present to) plain_type).1

  before_is : before ≡ plain starts there
  before_is =
      one_contract before (plain starts there)
      (sym (is e p is_picked).there ∙ contracts_agree e.start e.w e.t.hash e.stands ∙ ap (option_map (plain starts)) there_at_start)

  typed : IsTypedScript there.script
  typed = at_one (λ c. IsTypedScript c.script) (is_at (by_bytes e.t.hash)) e.start.funds.present.contracts there e.hosting.typed there_at_start

  abbrev met : IsMet e.w e.t
  met = is_met e.e e.s e.w e.t e.argument e.counts e.call

  read : script before.script ≡ found e.t.script
  read = subst (λ (c : PlainContract). script c.script ≡ found e.t.script) (one_contract met.contract before (sym met.there ∙ (is e p is_picked).there)) met.read

  read_there : script (script_node there.script) ≡ found e.t.script
  read_there = subst (λ (c : PlainContract). script c.script ≡ found e.t.script) before_is read

  kind_is : e.t.script.storage ≡ storage_kind there.script
  kind_is = read_storage (script_node there.script) _ (storage_kind there.script) _ _ _ e.t.script (typed_is there.script typed) read_there

  without : duplicable e.t.script.storage ≡ true
  without = ap duplicable kind_is ∙ (some_plain (contract_at v.funds.present to) plain_type).2

  stores : Stores e.w before.script before.storage
  stores = contract_stores e.w (orderly e.e e.s e.w e.t e.argument e.counts e.call) e.t.hash before (is e p is_picked).there

  fits_before : FitsIn e.w e.t.script.storage before.storage
  fits_before = subst (λ (s : PlainScript). FitsIn e.w s.storage before.storage) (found_one stores.0 e.t.script (sym stores.1 ∙ read)) stores.3

  -- the storage before
  pub none_before : stored_tickets (contract_at v.funds.present to) ≡ []
  none_before =
      ap stored_tickets (sym same_contract)
      ∙ stored_are e.start.funds.present starts e.start.ledger.books.present e.w e.t.hash before e.stands.those e.hosting.stored e.hosting.ticketless (is e p is_picked).there
      ∙ nothing_in (known_with e.w []) e.t.script.storage before.storage without fits_before

  -- and the new one
  pub none_after : (given : Value) → seen (sight (bs e)) given ≡ (r e).storage → tickets (val given) ≡ []
  none_after given seen_so =
      sym (tickets_in_store (bs e) given (ticketless e) (given_formed e p is_picked given seen_so))
      ∙ ap tickets (stored_is e p is_picked given seen_so)
      ∙ nothing_in (known_with e.w []) e.t.script.storage (is e p is_picked).storage without (is e p is_picked).fits
