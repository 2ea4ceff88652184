-- Contracts that a source makes.
use Rattle.std.proofs.Common.{◌≡◌, ◌≤◌, ◌<◌, ◌+◌, ◌^◌, ℕ, List, false, is_some, refl, sym, ap, ◌∙◌, subst, arith, Ok, Err, Result}
use Rattle.std.proofs.lemmas.List.Elements.{All-head}
use Rattle.rules_text.specs.nodes.Limits.{most_contents, most_mutez}
use Rattle.rules_text.specs.nodes.Tree.{Tree, size}
use Rattle.rules_code.specs.evaluation.Operations.{new_contract}
use Rattle.rules_code.specs.instructions.Arguments.{Found, found, fault}
use Rattle.rules_code.specs.steps.Failure.{bad_storage}
use Rattle.rules_code.specs.typing.Nodes.{script}
use Rattle.rules_code.specs.typing.Scripts.{Script as PlainScript}
use Rattle.rules_data.specs.forms.Spelling.{implicit_place}
use Rattle.rules_data.specs.types.Kind.{Kind}
use Rattle.rules_data.specs.values.Tickets.{tickets}
use Rattle.rules_data.specs.values.Val.{Val}
use Rattle.rules_world.specs.world.Arguments.{literal_in}
use Rattle.rules_world.specs.world.Contents.{Originate}
use Rattle.rules_world.specs.world.Forms.{IsSmall, IsWorld}
use Rattle.rules_world.specs.world.Good.{FitsIn, IsGoodWaiting}
use Rattle.rules_world.specs.world.Originations.{Founding, found_contract, founded, founding_of, one_more, with_script, with_storage}
use Rattle.rules_world.specs.world.Outcomes.{Setting, Outcome, Counts as PlainCounts, ordered}
use Rattle.rules_world.specs.world.World.{World as PlainWorld}
use Rattle.laws_world.proofs.accounts.ForCallers.{literal_empty, literal_fits}
use Rattle.laws_world.proofs.operations.ForCallers.{new_length}
use Rattle.laws_world.proofs.runs.ForCallers.{orderly_of, script_code}
use Rattle.laws_data.specs.types.Laws.{IsWellFormed}
use Rattle.mich_base.specs.TypeView.{kind}
use Rattle.mich_bigmap.specs.Bases.{Bases}
use Rattle.mich_bigmap.specs.Standing.{val_in}
use Rattle.mich_bigmap.specs.Ticketless.{HoldNoTickets}
use Rattle.mich_world.proofs.preconditions_lemmas.ForCallers.{installs_fit, plain_values_may_run}
use Rattle.mich_data.specs.Whole.{IsWhole}
use Rattle.mich_forms.specs.declared.places.Place.TheVariants as place
use Rattle.mich_instr.specs.Scripts.{IsTypedScript}
use Rattle.mich_instr.specs.View.{script_node}
use Rattle.mich_instr.specs.declared.instr.Script.{Script, out-Script}
use Rattle.mich_literals.proofs.arguments_lemmas.ForCallers.{storage_read}
use Rattle.mich_state.specs.declared.state.Counts.{Counts}
use Rattle.mich_machine.specs.Calls.{counts_of}
use Rattle.mich_ops.specs.declared.failure.Failure.TheVariants as failures
use Rattle.mich_world.proofs.simulation_lemmas.ForCallers.{contracts_agree}
use Rattle.laws_data.proofs.forms_lemmas.ForCallers.{implicit_is}
use Rattle.mich_term.specs.Layers.{AreFormed}
use Rattle.mich_term.specs.ValueView.{val}
use Rattle.mich_term.specs.declared.value.Value.{Value}
use Rattle.mich_tickets.specs.Carrying.{MayEnter}
use Rattle.mich_world.specs.Holders.{contract_at}
use Rattle.mich_world.specs.Storages.{owner_of}
use Rattle.mich_world.specs.World.{World}
use Rattle.mich_operations.specs.Foundings.{IsFounding, IsPayer, IsStorageOf, founding}
use Rattle.mich_operations.specs.Going.{Begins, EndsAs}
use Rattle.mich_operations.specs.declared.applied.Applied.{Applied}
use Rattle.mich_operations.specs.declared.applied.ApplyError.{ApplyError}
use Rattle.mich_operations.specs.declared.applied.ApplyError.TheVariants.{Failed, Memory}
use Rattle.mich_operations.proofs.Foundings.{founded_form}
use Rattle.mich_operations.proofs.Issuing.{some_none}
use Rattle.mich_operations.proofs.Paying.{ends_along, ends_failed}
use Rattle.mich_operations.proofs.Whole.{whole_stands}

le_same : (n : ℕ) → n ≤ n
le_same n = omega arith

-- one more origination is no other group
counted_one : (o : Outcome) (x : World) (gas : ℕ) (old mid new : Counts) (r : Result Applied ApplyError) → mid.group ≡ old.group →
    EndsAs o x gas mid new r → EndsAs o x gas old new r
counted_one o x gas old mid new (Ok a) e h = record {
  world = h.world;
  stands = h.stands;
  same = h.same;
  group = h.group ∙ e;
  handed = h.handed;
  there = h.there;
}
counted_one Rattle.rules_world.specs.world.Outcomes.stuck x gas old mid new (Err (Failed f)) e h = absurd h
counted_one (Rattle.rules_world.specs.world.Outcomes.failed why) x gas old mid new (Err (Failed f)) e h = h
counted_one (Rattle.rules_world.specs.world.Outcomes.applied a) x gas old mid new (Err (Failed f)) e h = absurd h
counted_one o x gas old mid new (Err Memory) e h = tt

module _ (v : World) (w : PlainWorld) (s : Setting) (balance : ℕ) (t u : Tree) (counts : PlainCounts)
    (b : Begins v w s (ordered (Originate balance t u)) counts) where
  its_fields : (balance ≤ most_mutez) × IsSmall t × IsSmall u
  its_fields = All-head (IsGoodWaiting w) (ordered (Originate balance t u)) b.next.behind b.next.going.good.waits

  pub small_storage : size u < 2 ^ 32
  small_storage = its_fields.2

  -- the count of originations has room
  pub originations_within : counts.originations + 1 ≤ counts.operations + most_contents
  originations_within = let o = b.next.going.originations in let few = b.next.few in omega (arith, o, few)

  few_originations : counts.originations + 1 < 2 ^ 32
  few_originations = let a = b.next.going.operations in let within = originations_within in omega (arith, a, within)

  pub absent_there : is_some (contract_at v.funds.present (new_contract s.group counts.originations)) ≡ false
  absent_there =
      let few = few_originations in
      let room : counts.originations < 2 ^ 32 = omega (arith, few) in
      let hash = new_contract s.group counts.originations in
      some_none v.store.bases.present _ (contract_at v.funds.present hash) (contracts_agree v w hash b.stands)
      (b.next.going.fresh.later counts.originations (le_same counts.originations) room)

  pub source_pays : IsPayer v w (place.Implicit s.source)
  source_pays = record {
    stands = b.stands;
    form = b.next.going.good.sound.form;
    payer = implicit_is s.source b.next.setting.source;
  }

  -- for a contract of this script and storage
  pub source_founds : (p : PlainScript) (a : Kind) → script t ≡ found p → p.storage ≡ a → (bs : Bases) (k : Script) (x : Value) (hash : List ℕ) →
      literal_in w a u ≡ found (val x) → val_in bs x ≡ val x → script_node k ≡ t → hash ≡ new_contract s.group counts.originations →
      IsFounding v w s.source (place.Implicit s.source) (founding bs (place.Implicit s.source) hash balance k x)
  source_founds p a read stored bs k x hash e same node made =
      let few = few_originations in
      let room : counts.originations < 2 ^ 32 = omega (arith, few) in
      let founds : founding bs (place.Implicit s.source) hash balance k x ≡ founding_of s counts balance t (val x)
      = (λ i. record { sender = implicit_place s.source; hash = made i; balance = balance; script = node i; storage = same i }) in
      record {
        payer = source_pays;
        form = subst (λ (f : Founding). IsWorld (founded w f)) (sym founds)
            (founded_form w (founding_of s counts balance t (val x)) (orderly_of w b.next.going.good.sound) (new_length s.group counts.originations)
            (b.next.going.fresh.later counts.originations (le_same counts.originations) room)
            (p, read, its_fields.1, subst (λ (g : Kind). FitsIn w g (val x)) (sym stored) (literal_fits w a u (val x) e small_storage)));
        key = b.next.setting.source;
      }

  -- its storage holds no ticket
  pub storage_enters : (a : Kind) (x : Value) → literal_in w a u ≡ found (val x) → IsWhole a x → AreFormed x → HoldNoTickets v.store.bases.present →
      MayEnter (owner_of (new_contract s.group counts.originations)) v.ledger.books.present (tickets (val x))
  storage_enters a x e whole formed ticketless =
      let here : val_in v.store.bases.present x ≡ val x = whole_stands v.store.bases.present a x whole formed in
      installs_fit v w (new_contract s.group counts.originations) x a b.stands ticketless formed (new_length s.group counts.originations)
      (subst (λ (y : Val). Rattle.rules_world.specs.world.Good.FitsIn w a y) (sym here) (literal_fits w a u (val x) e small_storage))
      (subst (λ (y : Val). Rattle.rules_world.specs.world.Good.MayRun w y) (sym here)
      (plain_values_may_run w _ (val x) b.next.going.good (literal_empty w a u (val x) e)))

-- ---- how it ends

module _ (w : PlainWorld) (s : Setting) (balance : ℕ) (t u : Tree) (x : World) (gas : ℕ) (old : Counts) where
  module _ (p : PlainScript) (a : Kind) (read : script t ≡ found p) (stored : p.storage ≡ a) where
    reads_storage : with_script (script t) s w balance t u gas (counts_of old) ≡ with_storage (literal_in w a u) s w balance t gas (counts_of old)
    reads_storage =
        ap (λ (f : Found PlainScript). with_script f s w balance t u gas (counts_of old)) read
        ∙ ap (λ (g : Kind). with_storage (literal_in w g u) s w balance t gas (counts_of old)) stored

    pub ends_bad_storage : (new : Counts) (l : ℕ) → literal_in w a u ≡ fault l → EndsAs (with_script (script t) s w balance t u gas (counts_of old)) x gas old new (Err (Failed (failures.BadStorage l)))
    ends_bad_storage new l e =
        ends_failed _ x gas old new (failures.BadStorage l) (bad_storage l)
        (reads_storage ∙ ap (λ (f : Found Val). with_storage f s w balance t gas (counts_of old)) e) refl

    pub ends_founded : (bs : Bases) (mid new : Counts) (k : Script) (value : Value) (hash : List ℕ) (r : Result Applied ApplyError) → literal_in w a u ≡ found (val value) →
        val_in bs value ≡ val value → script_node k ≡ t → hash ≡ new_contract s.group old.originated → mid.group ≡ old.group → counts_of mid ≡ one_more (counts_of old) →
        EndsAs (found_contract s w (founding bs (place.Implicit s.source) hash balance k value) gas (counts_of mid)) x gas mid new r →
        EndsAs (with_script (script t) s w balance t u gas (counts_of old)) x gas old new r
    ends_founded bs mid new k value hash r e same node made group one h =
        let founds : founding bs (place.Implicit s.source) hash balance k value ≡ founding_of s (counts_of old) balance t (val value)
        = (λ i. record { sender = implicit_place s.source; hash = made i; balance = balance; script = node i; storage = same i }) in
        ends_along (with_script (script t) s w balance t u gas (counts_of old)) (found_contract s w (founding bs (place.Implicit s.source) hash balance k value) gas (counts_of mid)) x gas old new r
        (reads_storage ∙ ap (λ (f : Found Val). with_storage f s w balance t gas (counts_of old)) e
        ∙ ap (λ (f : Founding). found_contract s w f gas (one_more (counts_of old))) (sym founds)
        ∙ ap (λ (n : PlainCounts). found_contract s w (founding bs (place.Implicit s.source) hash balance k value) gas n) (sym one))
        (counted_one (found_contract s w (founding bs (place.Implicit s.source) hash balance k value) gas (counts_of mid)) x gas old mid new r group h)

-- ---- the type of a storage

pub storage_formed : (k : Script) → IsTypedScript k → IsWellFormed (kind (out-Script k).storage)
storage_formed k typed =
    let p = storage_read k typed in
    subst IsWellFormed p.2 (script_code (script_node k) p.0 p.1).formed

-- ---- a storage that isn't one

module _ (w : PlainWorld) (s : Setting) (balance : ℕ) (t u : Tree) (x : World) (gas : ℕ) (counts : Counts) (p : PlainScript) (a : Kind)
    (read : script t ≡ found p) (stored : p.storage ≡ a) where
  pub ends_unstored : (e : ApplyError) → IsStorageOf (literal_in w a u) (Err e) → EndsAs (with_script (script t) s w balance t u gas (counts_of counts)) x gas counts counts (Err e)
  ends_unstored (Failed (failures.BadStorage l)) h = ends_bad_storage w s balance t u x gas counts p a read stored counts l h
  ends_unstored (Failed (failures.FailedWith ty v)) h = absurd h
  ends_unstored (Failed failures.OutOfGas) h = absurd h
  ends_unstored (Failed failures.IntegerLimit) h = absurd h
  ends_unstored (Failed failures.MutezOverflow) h = absurd h
  ends_unstored (Failed failures.ShiftLimit) h = absurd h
  ends_unstored (Failed failures.SizeLimit) h = absurd h
  ends_unstored (Failed failures.DepthLimit) h = absurd h
  ends_unstored (Failed failures.TooManyOperations) h = absurd h
  ends_unstored (Failed failures.OperationReplay) h = absurd h
  ends_unstored (Failed failures.NoContract) h = absurd h
  ends_unstored (Failed failures.NoEntrypoint) h = absurd h
  ends_unstored (Failed (failures.BadParameter l)) h = absurd h
  ends_unstored (Failed failures.BalanceTooLow) h = absurd h
  ends_unstored (Failed failures.EmptyTransaction) h = absurd h
  ends_unstored (Failed (failures.IllTyped l)) h = absurd h
  ends_unstored (Failed failures.UnregisteredDelegate) h = absurd h
  ends_unstored (Failed failures.TicketShort) h = absurd h
  ends_unstored (Failed failures.CannotPayBurn) h = absurd h
  ends_unstored Memory h = tt
