-- Each operation, each content and each group make lists longer by one item at most for each unit of gas.
use Rattle.std.proofs.Common.{◌≡◌, ◌≤◌, ◌+◌, ◌-◌, ℕ, zero, suc, Bool, true, false, List, [], ◌∷◌, ◌++◌, length, Option, Some, None, refl, subst, arith}
use Rattle.std.specs.Prelude.{nat_le, if◌then◌else◌}
use Rattle.std.specs.List.{AllByRecursion}
use Rattle.std.specs.Str.{bytes_eq}
use Rattle.rules_text.specs.nodes.Limits.{byte_limit}
use Rattle.rules_text.specs.nodes.Tree.{Tree, size}
use Rattle.rules_data.specs.declared.gas.Kind.TheVariants as price
use Rattle.rules_data.specs.forms.Spelling.{default_name, implicit_place, is_implicit, place_of}
use Rattle.rules_data.specs.types.Kind.{Kind}
use Rattle.rules_data.specs.types.Kind as k
use Rattle.rules_data.specs.types.Attributes.{comparable}
use Rattle.rules_data.specs.types.Entrypoints.{Entry, find_entry}
use Rattle.rules_data.specs.types.Reading.{Reading, a_type, bad_type, too_large, type_at}
use Rattle.rules_data.specs.values.Tickets.{Held}
use Rattle.rules_data.specs.values.Val.{Val}
use Rattle.rules_data.specs.values.Literals.{Literal, good, bad, read}
use Rattle.rules_code.specs.instructions.Arguments.{Found, found, fault}
use Rattle.rules_code.specs.instructions.Same.{same_kind}
use Rattle.rules_code.specs.steps.Failure.{Failure, no_entrypoint}
use Rattle.rules_code.specs.typing.Nodes.{script}
use Rattle.rules_code.specs.typing.Scripts.{Script}
use Rattle.rules_code.specs.evaluation.Contracts.{hash_in}
use Rattle.rules_code.specs.evaluation.Operations.{transfer, origination, event}
use Rattle.rules_code.specs.evaluation.Surroundings.{Contract}
use Rattle.rules_world.specs.world.Application.{ordered_transaction, issued_transaction, apply}
use Rattle.rules_world.specs.world.Arguments.{argument_in, literal_in}
use Rattle.rules_world.specs.world.Balances.{balance_or_none, moved}
use Rattle.rules_world.specs.world.Contents.{Originate, Call, Give}
use Rattle.rules_world.specs.world.Gives.{Offer, ticket_with, ticket_by, offered, as_value, Gift, give_effect, is_short, given_to_account, given_to_contract, if_wanted, handed, with_offered}
use Rattle.rules_world.specs.world.Holdings.{debited}
use Rattle.rules_world.specs.world.Originations.{Founding, founding_of, one_more, with_storage, with_script, unless_delegated}
use Rattle.rules_world.specs.world.Outcomes.{Setting, Waiting, ordered, issued, Counts, Outcome, applied, failed, stuck}
use Rattle.rules_world.specs.world.Receipts.{Effect}
use Rattle.rules_world.specs.world.Targets.{Target, Search, met, missing, unreadable, with_entry, in_script, in_contract, search, on_met}
use Rattle.rules_world.specs.world.Transfers.{Transaction, transfer_effect, taken_by_account, as_ticket, account_failure, with_ticket, received, account_outcome, with_taken, if_covered, with_argument, delivered}
use Rattle.rules_world.specs.world.Trees.{Walk, completed, broken_off, stuck_walk, behind_one, with_emitted, tree_within}
use Rattle.rules_world.specs.world.World.{World, contract_at, key_hash_in}
use Rattle.laws_code.specs.evaluation.Laws.{IsCharged}
use Rattle.laws_world.proofs.runs.ForCallers.{script_code}
use Rattle.laws_commands.specs.reached.Counted.{ListsWithin}
use Rattle.laws_commands.proofs.reached_lemmas.Steps.{more_lists}
use Rattle.laws_commands.proofs.reached_lemmas.Literals.{literals_are_counted}
use Rattle.laws_commands.proofs.reached_lemmas.Outcomes.{same_gas, less_room, roomy}
use Rattle.laws_commands.proofs.reached_lemmas.Forms.{take_most}
use Rattle.laws_commands.proofs.reached_lemmas.Worlds.{WorldWithin, more_world, one_within, moved_within, credited_within, debited_within, WaitingWithin, more_waiting, FoundWithin, literal_within, ArgumentWithin, argument_within, Leaves, leaves_charged, leaves_run, leaves_founding}
use Rattle.laws_commands.proofs.common.Numbers.{rises}
use Rattle.laws_commands.proofs.common.Lists.{all_append}

-- a target in a world
pub record TargetIs (n : ℕ) (t : Target) : Type 0 where
  pub hash : length t.hash ≤ 20
  pub code : size t.script.code ≤ n

abbrev pub SearchIs : ℕ → Search → Type 0
SearchIs n (met t) = TargetIs n t
SearchIs n (missing failure) = Unit {0}
SearchIs n unreadable = Unit {0}

pub search_is : (n : ℕ) (w : World) (hash name : List ℕ) → WorldWithin n w → length hash ≤ 20 → SearchIs n (search w hash name)
search_is n w hash name p short = by (contract_at w hash) refl
  where
    with_entry_is : (s : Script) → size s.code ≤ n → (o : Option Entry) → SearchIs n (with_entry hash s o)
    with_entry_is s le (Some entry) = record { hash = short; code = le }
    with_entry_is s le None = tt

    in_script_is : (c : Contract) → contract_at w hash ≡ Some c → (o : Found Script) → script c.script ≡ o →
        SearchIs n (in_script hash name o)
    in_script_is c there (found s) e =
        with_entry_is s (rises (size s.code) (size c.script) n (script_code c.script s e).within (one_within n w hash c p there).0)
        (find_entry name s.entries)
    in_script_is c there (fault l) e = tt

    by : (o : Option Contract) → contract_at w hash ≡ o → SearchIs n (in_contract hash name o)
    by (Some c) there = in_script_is c there (script c.script) refl
    by None there = tt

module _ (most : ℕ) (s : Setting) (prices : IsCharged s.prices) (key : length s.source ≤ 21) where
  less_sum : (g h : ℕ) → g ≤ h → byte_limit + h ≤ most → byte_limit + g ≤ most
  less_sum g h le f = omega (arith, le, f)

  later : (w : World) (left g : ℕ) → left ≤ g → WorldWithin (most - g) w → WorldWithin (most - left) w
  later w left g le p = more_world (most - g) (most - left) w (less_room most left g le) p

  leaves_met : (g : ℕ) (q : Search) (next : Target → Outcome) → SearchIs (most - g) q → ((t : Target) → TargetIs (most - g) t →
      Leaves most g (next t)) → Leaves most g (on_met q next)
  leaves_met g (met t) next h f = f t h
  leaves_met g (missing failure) next h f = tt
  leaves_met g unreadable next h f = tt

  module _ (w : World) (g : ℕ) (room : byte_limit + g ≤ most) (p : WorldWithin (most - g) w) (counts : Counts) where
    large : byte_limit ≤ most - g
    large = roomy most byte_limit g room

    -- ---- transfers

    module _ (t : Transaction) (sent : length t.sender ≤ most - g) where
      received_within : (x : Val) → WorldWithin (most - g) (received w t x)
      received_within x = by (as_ticket x)
        where
          by : (h : Option Held) →
              WorldWithin (most - g) (with_ticket (moved w t.sender t.destination t.amount) (key_hash_in t.destination) h)
          by (Some h) = credited_within (most - g) (moved w t.sender t.destination t.amount) (key_hash_in t.destination) h
              (moved_within (most - g) w t.sender t.destination t.amount p)
          by None = moved_within (most - g) w t.sender t.destination t.amount p

      outcome_leaves : (f : Option Failure) (x : Val) → Leaves most g (account_outcome f w t x g counts)
      outcome_leaves (Some failure) x = tt
      outcome_leaves None x = (same_gas g, received_within x, tt)

      taken_leaves : (o : Option Val) → Leaves most g (with_taken o w t g counts)
      taken_leaves (Some x) = outcome_leaves (account_failure w t x) x
      taken_leaves None = tt

      covered_leaves : (b : Bool) (target : Target) (x : Val) → TargetIs (most - g) target → ListsWithin (most - g) x →
          Leaves most g (if_covered b s w t target x g counts)
      covered_leaves true target x is h =
          leaves_run most s prices key (moved w t.sender t.destination t.amount) g room (moved_within
          (most - g) w t.sender t.destination t.amount p)
          (record { target = target; sender = t.sender; amount = t.amount; argument = x }) counts
          (transfer_effect t x) sent is.hash h is.code
      covered_leaves false target x is h = tt

      argument_leaves : (o : Found Val) (target : Target) → TargetIs (most - g) target → FoundWithin (most - g) o →
          Leaves most g (with_argument o s w t target g counts)
      argument_leaves (found x) target is h = covered_leaves (nat_le t.amount (balance_or_none w t.sender)) target x is h
      argument_leaves (fault location) target is h = tt

      delivered_leaves : (b : Bool) → ArgumentWithin (most - g) t.argument → Leaves most g (delivered b s w t g counts)
      delivered_leaves true h = by (bytes_eq t.entrypoint default_name)
        where
          by : (b : Bool) → Leaves most g (if b then with_taken (taken_by_account t.argument) w t g counts else failed no_entrypoint)
          by true = taken_leaves (taken_by_account t.argument)
          by false = tt
      delivered_leaves false h =
          leaves_met g (search w (hash_in t.destination) t.entrypoint) _ (search_is (most - g) w (hash_in t.destination) t.entrypoint p
          (take_most 20 _))
          (λ target is. argument_leaves (argument_in w target.entry.kind t.argument) target is (argument_within
          (most - g) w target.entry.kind t.argument large h))

    -- ---- gifts

    abbrev TicketIs : Option Held → Type 0
    TicketIs (Some t) = ListsWithin (most - g) (as_value t)
    TicketIs None = Unit {0}

    ticket_is : (o : Offer) → length o.issuer ≤ most - g → size o.content ≤ most - g → (x : Option Held) → offered o ≡ x → TicketIs x
    ticket_is o h f x e = subst TicketIs e (of_type (type_at 0 o.kind))
      where
        of_literal : (a : Kind) (l : Literal Val) → read a 0 o.content ≡ l → TicketIs (ticket_with o a l)
        of_literal a (good x ps) e = (h, literals_are_counted (most - g) a 0 o.content x ps f large e)
        of_literal a (bad l) e = tt

        of_kind : (a : Kind) (b : Bool) → TicketIs (if b then ticket_with o a (read a 0 o.content) else None)
        of_kind a true = of_literal a (read a 0 o.content) refl
        of_kind a false = tt

        of_type : (r : Reading) → TicketIs (ticket_by o r)
        of_type (a_type a) = of_kind a (comparable a)
        of_type (bad_type l) = tt
        of_type too_large = tt

    module _ (gift : Gift) (held : ListsWithin (most - g) (as_value gift.ticket)) where
      account_given : (b : Bool) → Leaves most g (given_to_account b s w gift g counts)
      account_given true = tt
      account_given false = (
        same_gas g,
        credited_within (most - g) (debited w s.source gift.ticket) (key_hash_in gift.destination) gift.ticket (debited_within
            (most - g) w s.source gift.ticket p),
        tt,
      )

      contract_given : (b : Bool) (target : Target) → TargetIs (most - g) target →
          Leaves most g (given_to_contract b s w gift target g counts)
      contract_given true target is = tt
      contract_given false target is =
          leaves_run most s prices key (debited w s.source gift.ticket) g room (debited_within (most - g) w s.source gift.ticket p)
          (record { target = target; sender = implicit_place s.source; amount = 0; argument = as_value gift.ticket }) counts
          (give_effect s gift)
          (omega (arith, key, large)) is.hash held is.code

      wanted_leaves : (b : Bool) (target : Target) → TargetIs (most - g) target → Leaves most g (if_wanted b s w gift target g counts)
      wanted_leaves true target is = contract_given (is_short s w gift) target is
      wanted_leaves false target is = tt

      handed_leaves : (b : Bool) → Leaves most g (handed b s w gift g counts)
      handed_leaves true = by (bytes_eq gift.entrypoint default_name)
        where
          by : (b : Bool) → Leaves most g (if b then given_to_account (is_short s w gift) s w gift g counts else failed no_entrypoint)
          by true = account_given (is_short s w gift)
          by false = tt
      handed_leaves false =
          leaves_met g (search w (hash_in gift.destination) gift.entrypoint) _ (search_is (most - g) w
          (hash_in gift.destination) gift.entrypoint p (take_most 20 _))
          (λ target is. wanted_leaves (same_kind target.entry.kind (k.ticket gift.ticket.kind)) target is)

    offered_leaves : (x : Option Held) (destination entrypoint : List ℕ) → TicketIs x →
        Leaves most g (with_offered x s w destination entrypoint g counts)
    offered_leaves (Some t) destination entrypoint h =
        handed_leaves (record { ticket = t; destination = destination; entrypoint = entrypoint }) h (is_implicit destination)
    offered_leaves None destination entrypoint h = tt

    -- ---- originations

    storage_leaves : (o : Found Val) (balance : ℕ) (t : Tree) → size t ≤ most - g → FoundWithin (most - g) o →
        Leaves most g (with_storage o s w balance t g counts)
    storage_leaves (found x) balance t few h = leaves_founding most s prices key w g room p (founding_of s counts balance t x)
        (one_more counts) few h
    storage_leaves (fault l) balance t few h = tt

    script_leaves : (o : Found Script) (balance : ℕ) (t storage : Tree) → size t ≤ most - g → size storage ≤ most - g →
        Leaves most g (with_script o s w balance t storage g counts)
    script_leaves (found x) balance t storage few h =
        storage_leaves (literal_in w x.storage storage) balance t few (literal_within (most - g) w x.storage storage large h)
    script_leaves (fault l) balance t storage few h = tt

    delegated_leaves : (delegate : Option (List ℕ)) (f : Founding) → size f.script ≤ most - g → ListsWithin (most - g) f.storage →
        Leaves most g (unless_delegated s delegate w f g counts)
    delegated_leaves (Some delegate) f few h = tt
    delegated_leaves None f few h = leaves_founding most s prices key w g room p f counts few h

  -- ---- all operations

  sender_few : (a n : ℕ) → a ≤ 21 → byte_limit ≤ n → suc a ≤ n
  sender_few a n h big = omega (arith, h, big)

  leaves_apply : (w : World) (g : ℕ) → byte_limit + g ≤ most → WorldWithin (most - g) w → (x : Waiting) (counts : Counts) →
      WaitingWithin (most - g) x →
      Leaves most g (apply s w x g counts)
  leaves_apply w g room p (ordered (Originate balance t storage)) counts h =
      leaves_charged most s.prices price.Origination g _ (λ left le. script_leaves w left (less_sum left g le room)
      (later w left g le p) counts (script t) balance t storage
      (rises (size t) (most - g) (most - left) h.0 (less_room most left g le)) (rises (size storage) (most - g) (most - left) h.1
      (less_room most left g le)))
  leaves_apply w g room p (ordered (Call amount destination entrypoint argument)) counts h =
      leaves_charged most s.prices price.Transfer g _ (λ left le. delivered_leaves w left (less_sum left g le room)
      (later w left g le p) counts
      (ordered_transaction s amount destination entrypoint argument)
      (sender_few (length s.source) (most - left) key (roomy most byte_limit left (less_sum left g le room)))
      (is_implicit destination) (rises (size argument) (most - g) (most - left) h (less_room most left g le)))
  leaves_apply w g room p (ordered (Give issuer kind content amount destination entrypoint)) counts h =
      let o : Offer = record { issuer = issuer; kind = kind; content = content; amount = amount } in
      leaves_charged most s.prices price.Transfer g _ (λ left le. offered_leaves w left (less_sum left g le room)
      (later w left g le p) counts (offered o) destination entrypoint
      (ticket_is w left (less_sum left g le room) (later w left g le p) counts o (rises (length issuer) (most - g) (most - left) h.0
      (less_room most left g le))
      (rises (size content) (most - g) (most - left) h.1 (less_room most left g le)) (offered o) refl))
  leaves_apply w g room p (issued sender (transfer argument amount address)) counts h =
      leaves_charged most s.prices price.Transfer g _ (λ left le. delivered_leaves w left (less_sum left g le room)
      (later w left g le p) counts
      (issued_transaction sender argument amount address) (rises (length sender) (most - g) (most - left) h.0 (less_room most left g le))
      (is_implicit (place_of address)) (more_lists (most - g) (most - left) argument (less_room most left g le) h.1))
  leaves_apply w g room p (issued sender (origination delegate amount t storage hash)) counts h =
      leaves_charged most s.prices price.Origination g _ (λ left le. delegated_leaves w left (less_sum left g le room)
      (later w left g le p) counts delegate
      (record { sender = sender; hash = hash; balance = amount; script = t; storage = storage })
      (rises (size t) (most - g) (most - left) h.1.0 (less_room most left g le)) (more_lists (most - g) (most - left) storage
      (less_room most left g le) h.1.1))
  leaves_apply w g room p (issued sender (event tag a x)) counts h =
      leaves_charged most s.prices price.Event g _ (λ left le. (same_gas left, later w left g le p, tt))

  -- ---- a tree

  abbrev pub WalkWithin : ℕ → Walk → Type 0
  WalkWithin g (completed last) = (last.gas ≤ g) × WorldWithin (most - last.gas) last.world
  WalkWithin g (broken_off count failure) = Unit {0}
  WalkWithin g stuck_walk = Unit {0}

  behind_within : (g h : ℕ) (effects : List Effect) (t : Walk) → g ≤ h → WalkWithin g t → WalkWithin h (behind_one effects t)
  behind_within g h effects (completed last) le x = (rises last.gas g h x.0 le, x.1)
  behind_within g h effects (broken_off count failure) le x = tt
  behind_within g h effects stuck_walk le x = tt

  emitted_within : (g : ℕ) (waiting : List Waiting) (o : Outcome) (again : World → List Waiting → ℕ → Counts → Walk) →
      AllByRecursion (WaitingWithin (most - g)) waiting →
      Leaves most g o →
      ((x : World) (ops : List Waiting) (left : ℕ) (counts : Counts) → left ≤ g → WorldWithin (most - left) x →
      AllByRecursion (WaitingWithin (most - left)) ops → WalkWithin left (again x ops left counts)) →
      WalkWithin g (with_emitted o waiting again)
  emitted_within g waiting (applied a) again ws h f =
      behind_within a.gas g a.effects (again a.world (a.emitted ++ waiting) a.gas a.counts) h.0
      (f a.world (a.emitted ++ waiting) a.gas a.counts h.0 h.1
      (all_append (WaitingWithin (most - a.gas)) a.emitted waiting h.2 (more_waiting (most - g) (most - a.gas) waiting
      (less_room most a.gas g h.0) ws)))
  emitted_within g waiting (failed failure) again ws h f = tt
  emitted_within g waiting stuck again ws h f = tt

  pub walk_within : (limit : ℕ) (w : World) (waiting : List Waiting) (g : ℕ) (counts : Counts) → byte_limit + g ≤ most →
      WorldWithin (most - g) w →
      AllByRecursion (WaitingWithin (most - g)) waiting → WalkWithin g (tree_within limit s w waiting g counts)
  walk_within limit w [] g counts room p ws = (same_gas g, p)
  walk_within zero w (x ∷ waiting) g counts room p ws = tt
  walk_within (suc limit) w (x ∷ waiting) g counts room p ws =
      emitted_within g waiting (apply s w x g counts) (tree_within limit s) ws.1 (leaves_apply w g room p x counts ws.0)
      (λ y ops left counts le q us. walk_within limit y ops left counts (less_sum left g le room) q us)
