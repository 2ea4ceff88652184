use Rattle.std.proofs.Common.{◌≡◌, ℕ, List, false, is_some, refl, sym, ap, ◌∙◌, subst}
use Rattle.std.proofs.lemmas.Result.{err_from_is_err_and}
use Rattle.rules_text.specs.nodes.Tree.{Tree}
use Rattle.rules_code.specs.instructions.Arguments.{found}
use Rattle.rules_code.specs.typing.Nodes.{script}
use Rattle.rules_data.specs.values.Tickets.{tickets}
use Rattle.rules_world.specs.world.Groups.{setting_of}
use Rattle.mich_base.specs.TypeView.{kind}
use Rattle.mich_base.specs.View.{tree}
use Rattle.mich_literals.proofs.arguments_lemmas.ForCallers.{storage_read}
use Rattle.mich_instr.specs.View.{script_node}
use Rattle.mich_instr.specs.declared.instr.Script.{out-Script}
use Rattle.mich_machine.specs.Calls.{counts_of}
use Rattle.mich_term.specs.ValueView.{val}
use Rattle.mich_tickets.specs.Carrying.{MayEnter}
use Rattle.mich_world.specs.Holders.{contract_at}
use Rattle.mich_world.specs.Storages.{owner_of}
use Rattle.mich_operations.proofs.Issuing.{keeps_either}
use Rattle.mich_operations.proofs.Orders.{absent_there, ends_founded, ends_unstored, originations_within, source_founds, storage_enters, storage_formed}
use Rattle.mich_operations.proofs.Whole.{whole_based, whole_stands}
use Rattle.mich_operations.proofs.originating.originate.Goals as goal

pub invariant_of-counts-clause-originated_within : goal.invariant_of-counts-clause-originated_within
invariant_of-counts-clause-originated_within c =
    let n = c.requires.next in
    let s = setting_of n.0 c.args.counts.now.group c.args.source.now in
    originations_within c.args.world.now n.1 s c.args.balance (tree c.args.script.now) (tree c.args.storage.now) (counts_of c.args.counts.now) n.2

pub returns-in_err-typed-clause-keeps : goal.returns-in_err-typed-clause-keeps
returns-in_err-typed-clause-keeps c = keeps_either c.from_residual.result c.args.world.now

pub returns-in_err-value-clause-keeps : goal.returns-in_err-value-clause-keeps
returns-in_err-value-clause-keeps c = keeps_either c.from_residual-in_err-value.result c.args.world.now

pub returns-in_err-value-clause-ends : goal.returns-in_err-value-clause-ends
returns-in_err-value-clause-ends c = λ prices w gas b.
    let k = c.in_ok-typed.typed in
    let r = storage_read k c.in_ok-typed.ensures.1 in
    let t = tree c.args.script.now in
    let read : script t ≡ found r.0 = subst (λ (n : Tree). script n ≡ found r.0) c.in_ok-typed.ensures.0 r.1 in
    let p = err_from_is_err_and c.from_residual-in_err-value.result c.from_residual-in_err-value.ensures.1 in
    rw (p.1, p.2)
    (ends_unstored w (setting_of prices c.args.counts.now.group c.args.source.now) c.args.balance t (tree c.args.storage.now) c.args.world.now gas c.args.counts.now r.0
    (kind (out-Script k).storage) read r.2 c.in_err-value.field-0.0 (c.in_err-value.ensures.storage w b.stands))

pub found-requires-clause-absent : goal.found-requires-clause-absent
found-requires-clause-absent c =
    let n = c.requires.next in
    let s = setting_of n.0 c.args.counts.now.group c.args.source.now in
    subst (λ (h : List ℕ). is_some (contract_at c.args.world.now.funds.present h) ≡ false) (sym c.new_contract-hash.ensures)
    (absent_there c.args.world.now n.1 s c.args.balance (tree c.args.script.now) (tree c.args.storage.now) (counts_of c.args.counts.now) n.2)

pub found-requires-clause-enter : goal.found-requires-clause-enter
found-requires-clause-enter c =
    let n = c.requires.next in
    let s = setting_of n.0 c.args.counts.now.group c.args.source.now in
    let k = c.in_ok-typed.typed in
    let v = c.in_ok-value.value in
    subst (λ (h : List ℕ). MayEnter (owner_of h) c.args.world.now.ledger.books.present (tickets (val v))) (sym c.new_contract-hash.ensures)
    (storage_enters c.args.world.now n.1 s c.args.balance (tree c.args.script.now) (tree c.args.storage.now) (counts_of c.args.counts.now) n.2
    (kind (out-Script k).storage) v (c.in_ok-value.ensures.storage n.1 n.2.stands) c.in_ok-value.ensures.whole (c.in_ok-value.ensures.formed (storage_formed k c.in_ok-typed.ensures.1)) c.requires.hosting.ticketless)

pub found-requires-clause-formed : goal.found-requires-clause-formed
found-requires-clause-formed c = c.in_ok-value.ensures.formed (storage_formed c.in_ok-typed.typed c.in_ok-typed.ensures.1)

pub found-requires-clause-based : goal.found-requires-clause-based
found-requires-clause-based c =
    whole_based c.args.world.now.store.bases.present (kind (out-Script c.in_ok-typed.typed).storage) c.in_ok-value.value c.in_ok-value.ensures.whole

pub returns-clause-ends : goal.returns-clause-ends
returns-clause-ends c = λ prices w gas b.
    let s = setting_of prices c.args.counts.now.group c.args.source.now in
    let k = c.in_ok-typed.typed in
    let v = c.in_ok-value.value in
    let bs = c.args.world.now.store.bases.present in
    let held = c.in_ok-new.field-0 in
    let a = kind (out-Script k).storage in
    let r = storage_read k c.in_ok-typed.ensures.1 in
    let t = tree c.args.script.now in
    let read : script t ≡ found r.0 = subst (λ (n : Tree). script n ≡ found r.0) c.in_ok-typed.ensures.0 r.1 in
    ends_founded w s c.args.balance t (tree c.args.storage.now) c.found.new.world gas c.args.counts.now r.0 a read r.2 bs _ _ held v c.new_contract-hash.result c.found.result
    (c.in_ok-value.ensures.storage w b.stands) (whole_stands bs a v c.in_ok-value.ensures.whole (c.in_ok-value.ensures.formed (storage_formed k c.in_ok-typed.ensures.1)))
    (ap script_node c.in_ok-new.ensures ∙ c.in_ok-typed.ensures.0) c.new_contract-hash.ensures refl refl
    (c.found.ensures.ends prices w gas c.args.counts.now.group _
    (source_founds c.args.world.now w s c.args.balance t (tree c.args.storage.now) (counts_of c.args.counts.now) b r.0 a read r.2 bs held v c.new_contract-hash.result
    (c.in_ok-value.ensures.storage w b.stands) (whole_stands bs a v c.in_ok-value.ensures.whole (c.in_ok-value.ensures.formed (storage_formed k c.in_ok-typed.ensures.1)))
    (ap script_node c.in_ok-new.ensures ∙ c.in_ok-typed.ensures.0) c.new_contract-hash.ensures))
