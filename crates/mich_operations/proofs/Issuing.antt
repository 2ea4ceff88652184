-- Operations that a contract issued.
use Rattle.std.proofs.Common.{◌≡◌, ◌-◌, ℕ, Bool, true, false, List, length, is_some, None, Some, refl, sym, ap, ◌∙◌, Ok, Err, Result}
use Rattle.std.specs.Prelude.{nat_lt, option_map}
use Rattle.std.specs.declared.option.Option.{Option}
use Rattle.std.proofs.lemmas.List.Elements.{All-head}
use Rattle.laws_world.proofs.operations.ForCallers.{new_length}
use Rattle.laws_world.proofs.runs.ForCallers.{orderly_of}
use Rattle.rules_code.specs.evaluation.Operations.{origination}
use Rattle.rules_code.specs.evaluation.Surroundings.{Contract as PlainContract}
use Rattle.rules_data.specs.forms.Spelling.{contract_place}
use Rattle.rules_data.specs.gas.Prices.{cost}
use Rattle.rules_data.specs.declared.gas.Kind.TheVariants as price
use Rattle.rules_data.specs.values.Tickets.{tickets}
use Rattle.rules_data.specs.values.Val.{Val, Pairs}
use Rattle.rules_world.specs.world.Transfers.{as_ticket}
use Rattle.rules_world.specs.world.Application.{apply, told}
use Rattle.rules_world.specs.world.Good.{IsGoodWaiting}
use Rattle.rules_world.specs.world.Originations.{found_contract, unless_delegated}
use Rattle.rules_world.specs.world.Outcomes.{Setting, Waiting, issued, Counts as PlainCounts}
use Rattle.rules_world.specs.world.World.{World as PlainWorld}
use Rattle.mich_base.specs.TypeView.{kind}
use Rattle.mich_base.specs.declared.ty.Ty.{Ty}
use Rattle.mich_bigmap.specs.Bases.{Bases}
use Rattle.mich_bigmap.specs.Standing.{val_in, big_val_in, big_step_in}
use Rattle.mich_bigmap.specs.Ticketless.{HoldNoTickets}
use Rattle.mich_world.proofs.preconditions_lemmas.ForCallers.{installs_fit, originations_may_run}
use Rattle.mich_forms.specs.declared.places.Place.TheVariants as place
use Rattle.mich_instr.specs.View.{script_node}
use Rattle.mich_instr.specs.declared.instr.Script.{Script}
use Rattle.mich_ops.specs.declared.issued.Issued.{Issued}
use Rattle.mich_ops.specs.declared.issued.Issued.TheVariants as i
use Rattle.mich_machine.specs.Calls.{counts_of}
use Rattle.mich_state.specs.declared.state.Counts.{Counts}
use Rattle.mich_world.proofs.simulation_lemmas.ForCallers.{contracts_agree}
use Rattle.mich_term.specs.Layers.{AreFormed}
use Rattle.mich_term.specs.ValueView.{val, value_step}
use Rattle.mich_term.specs.declared.value.BigMap.{BigMap}
use Rattle.mich_term.specs.declared.value.Value.{Value, roll-Value, out-Value, roll-out-Value, fold-roll-Value, map-Value}
use Rattle.mich_term.specs.declared.value.Value.TheOpen.{Value-F}
use Rattle.mich_tickets.specs.Carrying.{MayEnter}
use Rattle.mich_world.specs.Holders.{contract_at}
use Rattle.mich_world.specs.Marks.{KeepsWorld}
use Rattle.mich_world.specs.Standing.{plain}
use Rattle.mich_world.specs.Storages.{owner_of}
use Rattle.mich_world.specs.World.{World}
use Rattle.mich_world.specs.declared.contract.Contract.{Contract}
use Rattle.mich_world.proofs.ForCallers.{world_same}
use Rattle.mich_operations.specs.Foundings.{IsFounding, founding}
use Rattle.mich_operations.specs.Going.{Begins, EndsAs, WithMemory, issued_by}
use Rattle.mich_operations.specs.declared.applied.Applied.{Applied}
use Rattle.mich_operations.specs.declared.applied.ApplyError.{ApplyError}
use Rattle.mich_operations.specs.declared.applied.ApplyError.TheVariants.{Failed, Memory}
use Rattle.mich_operations.proofs.Foundings.{founded_form}
use Rattle.mich_operations.proofs.Paying.{ends_along, charged_paid}

-- ---- contracts that a contract makes

pub some_none : (bs : Bases) (o : Option PlainContract) (q : Option Contract) → o ≡ option_map (plain bs) q → o ≡ None → is_some q ≡ false
some_none bs o None e n = refl
some_none bs o (Some c) e n = absurd cc

module _ (v : World) (w : PlainWorld) (s : Setting) (by : List ℕ) (number : ℕ) (delegate : Option (List ℕ)) (amount : ℕ) (script : Script) (storage : Value) (hash : List ℕ) where
  abbrev bs : Bases
  bs = v.store.bases.present

  abbrev op : Issued
  op = i.Origination number delegate amount script storage hash

  abbrev waits : Waiting
  waits = issued (contract_place by) (origination delegate amount (script_node script) (val_in bs storage) hash)

  module _ (counts : PlainCounts) (b : Begins v w s waits counts) where
    -- it isn't there yet
    pub absent_yet : is_some (contract_at v.funds.present hash) ≡ false
    absent_yet = some_none bs _ (contract_at v.funds.present hash) (contracts_agree v w hash b.stands) b.next.going.fresh.absent.0

    pub twenty : length hash ≡ 20
    twenty = let new = b.next.going.fresh.waiting.0 in ap length new.3 ∙ new_length s.group new.0

    -- the tickets of its storage may come to it
    pub may_enter : HoldNoTickets bs → AreFormed storage → MayEnter (owner_of hash) v.ledger.books.present (tickets (val storage))
    may_enter ticketless formed =
        let first = All-head (IsGoodWaiting w) waits b.next.behind b.next.going.good.waits in
        installs_fit v w hash storage first.1.0.0.storage b.stands ticketless formed twenty first.1.0.3
        (originations_may_run w (contract_place by) delegate amount (script_node script) (val_in bs storage) hash b.next.behind b.next.going.good)

    pub pays_for : IsFounding v w s.source (place.Contract by) (founding bs (place.Contract by) hash amount script storage)
    pays_for =
        let first = All-head (IsGoodWaiting w) waits b.next.behind b.next.going.good.waits in
        record {
          payer = record { stands = b.stands; form = b.next.going.good.sound.form; payer = first.0 };
          form = founded_form w (founding bs (place.Contract by) hash amount script storage) (orderly_of w b.next.going.good.sound) twenty
              b.next.going.fresh.absent.0 first.1.0;
          key = b.next.setting.source;
        }

  module _ (x : World) (gas left : ℕ) (counts : Counts) (r : Result Applied ApplyError) (paid : nat_lt gas (cost s.prices price.Origination 0) ≡ false) (rest : left ≡ gas - cost s.prices price.Origination 0) where
    pub makes : delegate ≡ None → EndsAs (found_contract s w (founding bs (place.Contract by) hash amount script storage) left (counts_of counts)) x left counts counts r →
        EndsAs (apply s w (issued_by bs by op) gas (counts_of counts)) x left counts counts r
    makes none h =
        ends_along (apply s w (issued_by bs by op) gas (counts_of counts)) (found_contract s w (founding bs (place.Contract by) hash amount script storage) left (counts_of counts)) x left counts counts r
        (charged_paid s.prices price.Origination gas left _ paid rest
        ∙ ap (λ (d : Option (List ℕ)). unless_delegated s d w (founding bs (place.Contract by) hash amount script storage) left (counts_of counts)) none)
        h

-- ---- events

pub tells : (v x : World) (w : PlainWorld) (s : Setting) (by : List ℕ) (number : ℕ) (tag : List ℕ) (ty : Ty) (value : Value) (gas left : ℕ) (counts : Counts) (r : Result Applied ApplyError) →
    nat_lt gas (cost s.prices price.Event 0) ≡ false → left ≡ gas - cost s.prices price.Event 0 →
    EndsAs (told w (contract_place by) tag (kind ty) (val_in v.store.bases.present value) left (counts_of counts)) x left counts counts r →
    EndsAs (apply s w (issued_by v.store.bases.present by (i.Event number tag ty value)) gas (counts_of counts)) x left counts counts r
tells v x w s by number tag ty value gas left counts r paid rest h =
    ends_along (apply s w (issued_by v.store.bases.present by (i.Event number tag ty value)) gas (counts_of counts))
    (told w (contract_place by) tag (kind ty) (val_in v.store.bases.present value) left (counts_of counts)) x left counts counts r
    (charged_paid s.prices price.Event gas left _ paid rest) h

-- ---- tickets

-- a value is a ticket where its layer is one
abbrev pub is_ticket_layer : Value-F Value BigMap → Bool
is_ticket_layer (Value-F.Ticket t) = true
is_ticket_layer l = false

ticket_layer : (bs : Bases) (l : Value-F Value BigMap) → is_some (as_ticket (val_in bs (roll-Value l))) ≡ is_ticket_layer l
ticket_layer bs l = ap (λ (x : Val). is_some (as_ticket x)) (fold-roll-Value Val Pairs value_step (big_step_in bs) l) ∙ by l
  where
    by : (l : Value-F Value BigMap) → is_some (as_ticket (value_step (map-Value Value BigMap Val Pairs (val_in bs) (big_val_in bs) l))) ≡ is_ticket_layer l
    by Value-F.Unit = refl
    by (Value-F.Bool b) = refl
    by (Value-F.Number n) = refl
    by (Value-F.Text s) = refl
    by (Value-F.Bytes s) = refl
    by Value-F.None = refl
    by (Value-F.Some v) = refl
    by (Value-F.Left v) = refl
    by (Value-F.Right v) = refl
    by (Value-F.Pair v x) = refl
    by (Value-F.List vs) = refl
    by (Value-F.Set ds) = refl
    by (Value-F.Map es) = refl
    by (Value-F.BigMap m) = refl
    by (Value-F.Lambda n r) = refl
    by (Value-F.Operation n) = refl
    by (Value-F.Ticket t) = refl

pub is_ticket : (bs : Bases) (v : Value) → is_some (as_ticket (val_in bs v)) ≡ is_ticket_layer (out-Value v)
is_ticket bs v = ap (λ (x : Value). is_some (as_ticket (val_in bs x))) (sym (roll-out-Value v)) ∙ ticket_layer bs (out-Value v)

-- ---- what is left as it is

pub none_of : (o : Option (List ℕ)) → is_some o ≡ false → o ≡ None
none_of None h = refl
none_of (Some x) h = absurd cc

pub keeps_either : (r : Result Applied ApplyError) (v : World) → WithMemory r (KeepsWorld v v)
keeps_either (Ok a) v = world_same v
keeps_either (Err (Failed why)) v = world_same v
keeps_either (Err Memory) v = tt
