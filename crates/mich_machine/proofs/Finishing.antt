-- What `finish` asks of the calls that it makes, and what it leaves.
use Rattle.std.proofs.Common.{◌≡◌, ℕ, Bool, true, false, cond, List, [], ◌∷◌, map, Some, None, refl, sym, ap, ◌∙◌, subst, is_some}
use Rattle.std.specs.declared.option.Option.{Option}
use Rattle.std.specs.BTreeMap.{is_at}
use Rattle.std.specs.List.{AllByRecursion}
use Rattle.std.specs.Map.{values_of}
use Rattle.rules_code.specs.steps.Changes.{burns}
use Rattle.rules_data.specs.values.Tickets.{tickets}
use Rattle.rules_data.specs.values.Val.{Val, Vals, both, list}
use Rattle.rules_world.specs.world.Runs.{Returned, numbers_in, Ended}
use Rattle.mich_store_steps.specs.seen.Sights.{sight}
use Rattle.mich_bigmap.specs.Layers.{HasBases}
use Rattle.mich_instr.specs.Scripts.{IsTypedScript}
use Rattle.mich_ops.specs.declared.issued.Issued.{Issued}
use Rattle.mich_interpreter.specs.View.{tops}
use Rattle.mich_ops.specs.declared.failure.Failure.TheVariants as failures
use Rattle.mich_stack.specs.Views.{Sight, seen}
use Rattle.mich_term.specs.View.{vals_of}
use Rattle.mich_term.specs.ValueView.{val}
use Rattle.mich_term.specs.declared.ticket.Change.{Change}
use Rattle.mich_term.specs.declared.value.Value.{Value}
use Rattle.mich_tickets.specs.Books.{State}
use Rattle.mich_tickets.specs.Effects.{Tells}
use Rattle.mich_base.specs.undo.Undone.{changed_at}
use Rattle.mich_world.specs.Holders.{Holders, by_bytes, restored, contract_at}
use Rattle.mich_world.specs.Standing.{StandsFor}
use Rattle.mich_world.specs.Storages.{AreStored, MayReplace, owner_of, stored_tickets, Commits}
use Rattle.mich_world.specs.World.{World, with_ledger}
use Rattle.mich_world.specs.declared.contract.Contract.{Contract}
use Rattle.mich_machine.specs.Calls.{IsHosting}
use Rattle.mich_machine.specs.Endings.{IsEnding}
use Rattle.mich_machine.specs.Ends.{run_at, FailsSo, EndsWith}
use Rattle.mich_machine.specs.Plain.{is_plain}
use Rattle.mich_machine.specs.Returned.{by_number, handed, Numbered, Pick, picks, IsPicked}
use Rattle.mich_machine.proofs.Ended.{some, shape, replayed, there_so, may_replace, y_stored, new_world, z_stands, z_ticketless, run_so, handed_so, given_based}
use Rattle.mich_machine.proofs.Ticketless.{none_before, none_after}

-- ---- the stack

one_list : (a b : Vals) (x y : Val) → both (list a) x ∷ [] ≡ both (list b) y ∷ [] → (a ≡ b) × (x ≡ y)
one_list a b x y e = (cc, cc)

module _ {v : World} {to : List ℕ} {stack : List Value} {issued : List Issued} (e : IsEnding v to stack issued) where
  abbrev big : Sight
  big = sight v.store.bases.present

  abbrev pub r : Returned
  r = (some e).0

  module _ (numbers : List Value) (storage : Value) (parts : tops big stack ≡ both (list (vals_of (map (seen big) numbers))) (seen big storage) ∷ []) where
    same : (vals_of (map (seen big) numbers) ≡ (shape e).operations) × (seen big storage ≡ r.storage)
    same = one_list (vals_of (map (seen big) numbers)) (shape e).operations (seen big storage) r.storage (sym parts ∙ (shape e).is)

    pub numbers_so : numbers_in (vals_of (map (seen big) numbers)) ≡ Some r.numbers
    numbers_so = ap numbers_in same.0 ∙ (shape e).numbers

    pub storage_so : seen big storage ≡ r.storage
    storage_so = same.1

  -- ---- nothing is picked

  none_of : (q : Option Pick) (left : Numbered) → IsPicked q None left → q ≡ None
  none_of None left h = refl
  none_of (Some p) left h = absurd h

  pub replay_so : (q left : Numbered) → q ≡ by_number issued → IsPicked (picks q r.numbers) None left → FailsSo (run_at e) failures.OperationReplay
  replay_so q left same h =
      subst (λ (o : Ended). FailsSo o failures.OperationReplay)
      (sym (replayed e (none_of (picks (by_number issued) r.numbers) left (subst (λ (m : Numbered). IsPicked (picks m r.numbers) None left) same h)))) refl

-- ---- operations are picked

some_of : (q : Option Pick) (xs : List Issued) (left : Numbered) → IsPicked q (Some xs) left → (p : Pick) × (q ≡ Some p) × (xs ≡ p.picked) × (left ≡ p.left)
some_of None xs left h = absurd h
some_of (Some p) xs left h = (p, refl, h.0, h.1)

pub picked_so : (issued : List Issued) (q left : Numbered) (ns : List ℕ) (xs : List Issued) → q ≡ by_number issued → IsPicked (picks q ns) (Some xs) left →
    (p : Pick) × (picks (by_number issued) ns ≡ Some p) × (xs ≡ p.picked) × (left ≡ p.left)
picked_so issued q left ns xs same h = some_of (picks (by_number issued) ns) xs left (subst (λ (m : Numbered). IsPicked (picks m ns) (Some xs) left) same h)

typed_changed : (t : List ℕ → Bool) (x : Value) (cs : List (List ℕ × Contract)) → AllByRecursion (λ c. IsTypedScript c.1.script) cs →
    AllByRecursion (λ c. IsTypedScript c.1.script) (changed_at t cs (restored x))
typed_changed t x [] h = tt
typed_changed t x (c ∷ cs) h = by (t c.0) (typed_changed t x cs h.1)
  where
    by : (b : Bool) → AllByRecursion (λ c. IsTypedScript c.1.script) (changed_at t cs (restored x)) →
        AllByRecursion (λ c. IsTypedScript c.1.script) (cond b ((c.0, restored x c.1) ∷ cs) (c ∷ changed_at t cs (restored x)))
    by true later = h
    by false later = (h.0, later)

module _ {v : World} {to : List ℕ} {stack : List Value} {issued : List Issued} (e : IsEnding v to stack issued) (p : Pick) (is_picked : picks (by_number issued) (r e).numbers ≡ Some p)
    (given : Value) (seen_so : seen (sight v.store.bases.present) given ≡ (r e).storage)
    (y : World) (y_is : y ≡ with_ledger v y.ledger) (tells : Tells (burns (handed (values_of p.left))) v.ledger y.ledger) where
  pub replace_so : MayReplace (owner_of to) y.ledger.books.present (stored_tickets (contract_at y.funds.present to)) (tickets (val given))
  replace_so =
      subst (λ (w : World). MayReplace (owner_of to) y.ledger.books.present (stored_tickets (contract_at w.funds.present to)) (tickets (val given))) (sym y_is)
      (may_replace e p is_picked given seen_so y.ledger tells)

  pub none_before_so : is_plain (contract_at y.funds.present to) ≡ true → stored_tickets (contract_at y.funds.present to) ≡ []
  none_before_so =
      subst (λ (w : World). is_plain (contract_at w.funds.present to) ≡ true → stored_tickets (contract_at w.funds.present to) ≡ []) (sym y_is)
      (λ plain_type. none_before e p is_picked plain_type)

  pub none_after_so : is_plain (contract_at y.funds.present to) ≡ true → tickets (val given) ≡ []
  none_after_so =
      subst (λ (w : World). is_plain (contract_at w.funds.present to) ≡ true → tickets (val given) ≡ []) (sym y_is)
      (λ plain_type. none_after e p is_picked plain_type given seen_so)

  pub there_still : is_some (contract_at y.funds.present to) ≡ true
  there_still = subst (λ (w : World). is_some (contract_at w.funds.present to) ≡ true) (sym y_is) (there_so e)

  pub based_so : HasBases y.store.bases.present given
  based_so = subst (λ (w : World). HasBases w.store.bases.present given) (sym y_is) (given_based e p is_picked given seen_so)

  pub stored_so : AreStored y
  stored_so = subst AreStored (sym y_is) (y_stored e p is_picked given seen_so y.ledger tells)

  module _ (z : World) (commits : Commits to given y z) where
    abbrev l : State
    l = y.ledger

    from : Commits to given (with_ledger v l) z
    from = subst (λ (w : World). Commits to given w z) y_is commits

    -- where the list of changes is taken out
    abbrev pub last : World
    last = with_ledger z (record { books = z.ledger.books; changes = [] })

    stands_still : StandsFor last (new_world e p is_picked given seen_so l tells z from)
    stands_still = let s = z_stands e p is_picked given seen_so l tells z from in record { chain = s.chain; level = s.level; moment = s.moment; those = s.those }

    pub ends_so : (xs : List Issued) (cs : List Change) → xs ≡ p.picked → cs ≡ z.ledger.changes → EndsWith e last (record { returned = xs; changes = cs })
    ends_so xs cs same told =
        subst (λ (ys : List Issued). EndsWith e last (record { returned = ys; changes = cs })) (sym same)
        (subst (λ (ds : List Change). EndsWith e last (record { returned = p.picked; changes = ds })) (sym told)
        (record {
          world = new_world e p is_picked given seen_so l tells z from;
          stands = stands_still;
          same = run_so e p is_picked given seen_so l tells z from;
          handed = handed_so e p is_picked given seen_so l tells z from;
        }))

    typed_so : AllByRecursion (λ c. IsTypedScript c.1.script) z.funds.present.contracts
    typed_so =
        subst (λ (h : Holders). AllByRecursion (λ c. IsTypedScript c.1.script) h.contracts) (sym from.funds)
        (typed_changed (is_at (by_bytes to)) from.storage v.funds.present.contracts
        (subst (λ f. AllByRecursion (λ c. IsTypedScript c.1.script) f.present.contracts) (sym e.funds) e.hosting.typed))

    pub hosting_so : AreStored z → IsHosting last
    hosting_so stored = record { typed = typed_so; stored = stored; ticketless = z_ticketless e p is_picked given seen_so l tells z from }
