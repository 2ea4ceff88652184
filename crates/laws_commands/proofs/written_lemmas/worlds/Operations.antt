-- What each operation leaves.
use Rattle.std.proofs.Common.{◌≡◌, ◌<◌, ◌≤◌, ◌^◌, ◌-◌, ℕ, ℤ, pos, Bool, true, false, ◌||◌, List, [], ◌∷◌, length, take, drop, Option, Some, None, refl, sym, ap, ◌∙◌, subst, unwrap_or, arith}
use Rattle.std.specs.Prelude.{◌+ℤ◌, ◌-ℤ◌, ◌≤ℤ◌, nat_lt, int_lt, if◌then◌else◌}
use Rattle.std.specs.Str.{bytes_eq}
use Rattle.std.specs.List.{AllByRecursion}
use Rattle.std.proofs.lemmas.Int.{ints}
use Rattle.std.proofs.lemmas.Bool.{and_parts}
use Rattle.std.proofs.lemmas.List.Elements.{All-head}
use Rattle.rules_text.specs.nodes.Limits.{most_mutez}
use Rattle.rules_text.specs.nodes.Tree.{Tree, size}
use Rattle.rules_data.specs.gas.Prices.{cost}
use Rattle.rules_data.specs.declared.gas.Kind.TheVariants as price
use Rattle.rules_data.specs.forms.Spelling.{default_name, is_written_entrypoint, is_implicit, is_contract, is_place, is_address, implicit_place, contract_place, place_of, entrypoint_of, spelled_address}
use Rattle.rules_data.specs.types.Attributes.{comparable}
use Rattle.rules_data.specs.types.Kind.{Kind}
use Rattle.rules_data.specs.types.Kind as k
use Rattle.rules_data.specs.types.Reading.{Reading, a_type, bad_type, too_large, type_at}
use Rattle.rules_data.specs.values.Canonical.{canonical}
use Rattle.rules_data.specs.values.Forms.{is_ticket_amount}
use Rattle.rules_data.specs.values.Literals.{Literal, good, bad, read}
use Rattle.rules_data.specs.values.Tickets.{Identity, Held}
use Rattle.rules_data.specs.values.Val.{Val}
use Rattle.rules_code.specs.instructions.Arguments.{Found, found, fault}
use Rattle.rules_code.specs.instructions.Same.{same_kind}
use Rattle.rules_code.specs.steps.Changes.{Change, identity_of, amount_of, amount_in, amount_among}
use Rattle.rules_code.specs.typing.Scripts.{Script}
use Rattle.rules_code.specs.typing.Nodes.{script}
use Rattle.rules_code.specs.evaluation.Contracts.{hash_in, takes}
use Rattle.rules_code.specs.evaluation.Operations.{transfer, origination, event}
use Rattle.rules_world.specs.world.Contents.{Action, Originate, Call, Give}
use Rattle.rules_world.specs.world.Forms.{AreDestination, IsSmall, IsTicket}
use Rattle.rules_world.specs.world.Good.{known_with, FitsIn, IsGoodWaiting, IsGoodOperation}
use Rattle.rules_world.specs.world.World.{World, Account, no_account, account_at, account_or_none, contract_at, key_hash_in}
use Rattle.rules_world.specs.world.Balances.{balance_or_none, with_less}
use Rattle.rules_world.specs.world.Holdings.{held, held_by, held_by_account, amount_held, debited}
use Rattle.rules_world.specs.world.Outcomes.{Setting, Counts, Waiting, ordered, issued, failed}
use Rattle.rules_world.specs.world.Targets.{Target, Search, met, missing, unreadable, on_met, search}
use Rattle.rules_world.specs.world.Arguments.{literal_in}
use Rattle.rules_world.specs.world.Transfers.{delivered, transferred}
use Rattle.rules_world.specs.world.Gives.{Offer, Gift, ticket_with, ticket_by, offered, give_effect, is_short, given_to_account, given_to_contract, if_wanted, handed, with_offered, as_value}
use Rattle.rules_world.specs.world.Originations.{Founding, founding_outcome, with_storage, with_script, founding_of, unless_delegated, one_more}
use Rattle.rules_world.specs.world.Application.{apply, ordered_transaction, issued_transaction}
use Rattle.rules_world.specs.world.Application.{told as event_told}
use Rattle.laws_data.proofs.forms_lemmas.ForCallers.{place_length}
use Rattle.laws_data.proofs.types_lemmas.ForCallers.{same_kind_true}
use Rattle.laws_world.specs.runs.Going.{IsSetting, IsGoing}
use Rattle.laws_world.proofs.accounts.ForCallers.{debited_held, fits_in_more, literal_fits, literal_empty}
use Rattle.laws_world.proofs.runs.ForCallers.{IsOrderly, account_holdings, contract_length, IsMet, Searched, searched, met_more, met_takes, address_takes, orderly_of}
use Rattle.laws_world.proofs.groups_lemmas.ForCallers.{IsReceived, account_changed, run_called, IsOffered, offered_is, taken_on, taken_order, taken_transfer}
use Rattle.mich_text.specs.Written.{IsBytes, HasTextForm}
use Rattle.laws_commands.specs.written.Written.{HasForm, IsByte, AreBytes, IsWritten, IsWrittenChange}
use Rattle.laws_commands.specs.written.Worlds.{IsMade, IsWrittenWaiting, IsWrittenEffect, IsWrittenWorld}
use Rattle.laws_commands.proofs.written_lemmas.values.Bytes.{bytes_tested, implicit_bytes, contract_bytes, contract_short}
use Rattle.laws_commands.proofs.written_lemmas.values.Values.{kind_form}
use Rattle.laws_commands.proofs.common.Readings.{Gives}
use Rattle.laws_commands.proofs.written_lemmas.values.Literals.{reads}
use Rattle.laws_commands.proofs.written_lemmas.values.Fitting.{fits_form}
use Rattle.laws_commands.proofs.written_lemmas.evaluation.Tags.{name_bytes}
use Rattle.laws_commands.proofs.written_lemmas.evaluation.Given.{new_bytes}
use Rattle.laws_commands.proofs.written_lemmas.evaluation.Operating.{name_is}
use Rattle.laws_commands.proofs.written_lemmas.worlds.Worlds.{contract_written, less_written, credited_written, debited_written}
use Rattle.laws_commands.proofs.written_lemmas.locations.Located.{IsLocated, literal_located, script_located}
use Rattle.laws_commands.proofs.written_lemmas.worlds.Applied.{Leaves, leaves_charged, place_is, spelled_is, taken_short, named_short, entry_short, hash_bytes, FoundIs, literal_written, unit_taken, MissedIs, missed_is, leaves_growing, leaves_run, leaves_to_account, leaves_to_contract, IsHanded}
use Rattle.rules_code.specs.steps.Failure.{no_entrypoint}
use Rattle.laws_commands.proofs.common.Lists.{all_take, all_drop}

-- ---- a ticket goes from its source

less_by : (x m : ℤ) → x -ℤ m ≡ x +ℤ (pos 0 -ℤ m)
less_by x m = omega (arith, ints)

held_there : (o : Option Account) (id : Identity) → held_by_account o id ≡ amount_held (unwrap_or o no_account) id
held_there None id = refl
held_there (Some a) id = refl

at_least : (a b : ℤ) → int_lt b a ≡ false → a ≤ℤ b
at_least a b h = omega (arith, ints)

on_way : (y h m : ℤ) → y ≡ h +ℤ (pos 0 -ℤ m) → y +ℤ (m +ℤ pos 0) ≡ h +ℤ pos 0
on_way y h m e = omega (arith, ints, e)

zero_small : (n : ℕ) → 0 ≤ n
zero_small n = omega arith

-- ---- tickets that are offered

abbrev OfferedIs : Option Held → Type 0
OfferedIs None = Unit {0}
OfferedIs (Some t) = IsBytes t.issuer × AreBytes t.issuer × IsWritten t.content

offered_written : (o : Offer) → IsBytes o.issuer → AreBytes o.issuer → HasForm o.content → OfferedIs (offered o)
offered_written o issuer bytes content = by (type_at 0 o.kind)
  where
    by_literal : (a : Kind) (l : Literal Val) → Gives IsWritten l → OfferedIs (ticket_with o a l)
    by_literal a (good x ps) h = (issuer, bytes, h)
    by_literal a (bad l) h = tt

    by_kind : (a : Kind) (c : Bool) → OfferedIs (if c then ticket_with o a (read a 0 o.content) else None)
    by_kind a true = by_literal a (read a 0 o.content) (reads a 0 o.content content)
    by_kind a false = tt

    by : (r : Reading) → OfferedIs (ticket_by o r)
    by (a_type a) = by_kind a (comparable a)
    by (bad_type l) = tt
    by too_large = tt

module _ (start : World) (s : Setting) (setting : IsSetting s) (source : AreBytes s.source) (contents : ℕ) (few : contents ≤ 1000)
    (w : World) (world : IsWrittenWorld w)
    (waiting : List Waiting) (counts : Counts) where
  source_place : is_place (implicit_place s.source) ≡ true
  source_place = let h = setting.source in rw h refl

  payer : AreBytes (implicit_place s.source)
  payer = implicit_bytes s.source source

  payer_is : IsBytes (implicit_place s.source)
  payer_is = place_is (implicit_place s.source) payer source_place

  -- ---- transfers of a source

  ordered_leaves : (amount : ℕ) (destination entrypoint : List ℕ) (argument : Tree) (gas : ℕ) → AreBytes destination →
      HasForm argument →
      IsGoing start s.group contents w (ordered (Call amount destination entrypoint argument) ∷ waiting) counts →
      Leaves (transferred s w (ordered_transaction s amount destination entrypoint argument) gas counts)
  ordered_leaves amount destination entrypoint argument gas to form g =
      leaves_charged _ _ _ (λ left. by left (is_implicit destination) refl)
    where
      action : (amount ≤ most_mutez) × AreDestination destination entrypoint × IsSmall argument
      action = All-head (IsGoodWaiting w) (ordered (Call amount destination entrypoint argument)) waiting g.good.waits

      address : IsBytes (spelled_address destination entrypoint)
      address =
          let long : length destination ≡ 22 = place_length destination action.1.0 in
          spelled_is destination entrypoint to (name_bytes entrypoint action.1.1) (omega (arith, long)) (named_short entrypoint action.1.1)

      handed_is : (target : Target) (x : Found Val) → literal_in w target.entry.kind argument ≡ x → FoundIs x → IsLocated x →
          IsHanded w (λ id. pos 0) target x
      handed_is target (found x) e h l = (
        literal_fits w target.entry.kind argument x e action.2,
        λ id. sym (ap (λ ts. amount_among id ts) (literal_empty w target.entry.kind argument x
            e)),
        h,
      )
      handed_is target (fault l) e h i = i

      by : (left : ℕ) (b : Bool) → is_implicit destination ≡ b →
          Leaves (delivered b s w (ordered_transaction s amount destination entrypoint argument) left counts)
      by left true e = leaves_to_account s source setting.source w world (ordered_transaction s amount destination entrypoint argument)
          payer_is payer to address left counts (unit_taken argument)
      by left false e =
          leaves_to_contract s source setting.source w world (ordered_transaction s amount destination entrypoint argument) payer_is payer
          to address start setting contents few waiting counts (λ id. pos 0)
          (taken_order start s.group contents w waiting counts (Call amount destination entrypoint argument) g) e source_place action.0 left
          (λ target m hash name. handed_is target (literal_in w target.entry.kind argument) refl
          (literal_written w target.entry.kind argument form)
          (literal_located w target.entry.kind argument action.2))

  -- ---- and of a contract

  issued_leaves : (sender : List ℕ) (argument : Val) (amount : ℕ) (address : List ℕ) (gas : ℕ) → AreBytes sender → IsWritten argument →
      AreBytes address →
      is_address address ≡ true → IsGoing start s.group contents w (issued sender (transfer argument amount address) ∷ waiting) counts →
      Leaves (transferred s w (issued_transaction sender argument amount address) gas counts)
  issued_leaves sender argument amount address gas from written bytes form g =
      leaves_charged _ _ _ (λ left. by left (is_implicit (place_of address)) refl)
    where
      first : (is_place sender ≡ true) × IsGoodOperation w (transfer argument amount address)
      first = All-head (IsGoodWaiting w) (issued sender (transfer argument amount address)) waiting g.good.waits

      sender_is : IsBytes sender
      sender_is = place_is sender from first.0

      place : AreBytes (place_of address)
      place = all_take IsByte 22 address bytes

      spelled : IsBytes (spelled_address (place_of address) (entrypoint_of address))
      spelled =
          spelled_is (place_of address) (entrypoint_of address) place (name_is (drop 22 address) (all_drop IsByte 22 address bytes))
          (taken_short 22 address)
          (entry_short (drop 22 address) (and_parts (is_place (take 22 address)) (is_written_entrypoint (drop 22 address)) form).1)

      literal : HasTextForm (canonical argument)
      literal = fits_form (known_with w []) first.1.0 argument first.1.2 written

      takes_it : takes (contract_at w) (place_of address) (entrypoint_of address) first.1.0 ≡ true
      takes_it = address_takes (contract_at w) first.1.0 address first.1.1

      by : (left : ℕ) (b : Bool) → is_implicit (place_of address) ≡ b →
          Leaves (delivered b s w (issued_transaction sender argument amount address) left counts)
      by left true e = leaves_to_account s source setting.source w world (issued_transaction sender argument amount address) sender_is from
          place spelled left counts (written, literal)
      by left false e =
          leaves_to_contract s source setting.source w world (issued_transaction sender argument amount address) sender_is from place
          spelled start setting contents few waiting counts (λ id. amount_in id argument)
          (taken_transfer start s.group contents w waiting counts sender argument amount address g) e first.0 first.1.3 left
          (λ target m hash named.
          let same : target.entry.kind ≡ first.1.0 = met_takes w target first.1.0 (place_of address) (entrypoint_of address) m e hash named
          takes_it in
          (subst (λ a. FitsIn w a argument) (sym same) first.1.2, λ id. refl, written))

  -- ---- gifts

  holds_enough : (g : Gift) → is_short s w g ≡ false → g.ticket.amount ≤ℤ amount_held (account_or_none w s.source) (identity_of g.ticket)
  holds_enough g h =
      let source = setting.source in
      let same : held_by w (identity_of g.ticket) (implicit_place s.source) ≡ amount_held (account_or_none w s.source)
      (identity_of g.ticket) =
      rw source (held_there (account_at w s.source) (identity_of g.ticket)) in
      subst (λ z. g.ticket.amount ≤ℤ z) same (at_least g.ticket.amount (held_by w (identity_of g.ticket) (implicit_place s.source)) h)

  debited_is : (g : Gift) → IsOrderly w → IsTicket g.ticket → is_short s w g ≡ false → IsReceived w (debited w s.source g.ticket)
      (λ id. pos 0 -ℤ amount_of id g.ticket)
  debited_is g o i h =
      account_changed w s.source (identity_of g.ticket) (amount_held (account_or_none w s.source) (identity_of g.ticket) -ℤ g.ticket.amount)
      (λ id. pos 0 -ℤ amount_of id g.ticket) o setting.source i.0
      (λ id. debited_held (account_or_none w s.source) g.ticket id (account_holdings w o s.source) (holds_enough g h)
      ∙ less_by (amount_held (account_or_none w s.source) id) (amount_of id g.ticket))

  module _ (action : Action) (going : IsGoing start s.group contents w (ordered action ∷ waiting) counts) (g : Gift)
      (to : AreBytes g.destination)
      (address : IsBytes (spelled_address g.destination g.entrypoint)) (ticket : IsTicket g.ticket)
      (fits : FitsIn w (k.ticket g.ticket.kind) (as_value g.ticket)) (offer : OfferedIs (Some g.ticket)) where
    content : HasTextForm (canonical g.ticket.content)
    content = fits_form (known_with w []) g.ticket.kind g.ticket.content fits.1 offer.2

    effect_is : (cs : List Change) → AllByRecursion IsWrittenChange cs → IsWrittenEffect (give_effect s g cs)
    effect_is cs h = (payer_is, address, offer.0, kind_form g.ticket.kind, content, h)

    after_is : IsWrittenWorld (debited w s.source g.ticket)
    after_is = debited_written w s.source g.ticket world source (offer.0, content)

    account_leaves : (b : Bool) (gas : ℕ) → Leaves (given_to_account b s w g gas counts)
    account_leaves true gas = tt
    account_leaves false gas = (
      credited_written (debited w s.source g.ticket) (key_hash_in g.destination) g.ticket after_is (all_drop IsByte 1 g.destination to)
          (offer.0, content),
      tt,
      (effect_is [] tt, tt),
    )

    named_leaves : (b : Bool) (gas : ℕ) →
        Leaves (if b then given_to_account (is_short s w g) s w g gas counts else failed
        no_entrypoint)
    named_leaves true gas = account_leaves (is_short s w g) gas
    named_leaves false gas = tt

    contract_leaves : (target : Target) (gas : ℕ) (b : Bool) → is_short s w g ≡ b → IsMet w target → target.hash ≡ hash_in g.destination →
        FitsIn w target.entry.kind (as_value g.ticket) → Leaves (given_to_contract b s w g target gas counts)
    contract_leaves target gas true e m hash f = tt
    contract_leaves target gas false e m hash f =
        let y = debited w s.source g.ticket in
        let d = debited_is g (orderly_of w going.good.sound) ticket e in
        let on = taken_on start s.group contents w waiting counts (λ id. pos 0) (λ id. amount_in id (as_value g.ticket)) y
        (taken_order start s.group contents w waiting counts action going) d.orderly d.more d.none d.log d.granted d.mutez
        (λ id. on_way (held y id) (held w id) (amount_of id g.ticket) (d.tickets id)) in
        leaves_run s source setting.source y (record {
          target = target;
          sender = implicit_place s.source;
          amount = 0;
          argument = as_value g.ticket;
        }) gas counts (give_effect s g)
        after_is payer (subst AreBytes (sym hash) (hash_bytes g.destination to))
        (contract_length w (orderly_of w going.good.sound) target.hash m.contract m.there)
        (offer.0, offer.1, offer.2, content)
        (run_called start s setting contents few y (record {
          target = target;
          sender = implicit_place s.source;
          amount = 0;
          argument = as_value g.ticket;
        }) waiting counts on
        (met_more w y target d.more m) (fits_in_more w y d.more target.entry.kind (as_value g.ticket) f) source_place
        (zero_small most_mutez))
        effect_is

    wanted_leaves : (target : Target) (gas : ℕ) (b : Bool) → same_kind target.entry.kind (k.ticket g.ticket.kind) ≡ b → IsMet w target →
        target.hash ≡ hash_in g.destination →
        Leaves (if_wanted b s w g target gas counts)
    wanted_leaves target gas true e m hash =
        contract_leaves target gas (is_short s w g) refl m hash
        (subst (λ a. FitsIn w a (as_value g.ticket)) (sym (same_kind_true target.entry.kind (k.ticket g.ticket.kind) e)) fits)
    wanted_leaves target gas false e m hash = omega arith

    handed_leaves : (b : Bool) (gas : ℕ) → Leaves (handed b s w g gas counts)
    handed_leaves true gas = named_leaves (bytes_eq g.entrypoint default_name) gas
    handed_leaves false gas =
        by (search w (hash_in g.destination) g.entrypoint) (searched w (orderly_of w going.good.sound) (hash_in g.destination) g.entrypoint)
        (missed_is w (hash_in g.destination) g.entrypoint)
      where
        by : (q : Search) → Searched w (hash_in g.destination) g.entrypoint q → MissedIs q →
            Leaves (on_met q (λ target. if_wanted (same_kind target.entry.kind (k.ticket g.ticket.kind)) s w g target gas counts))
        by (met target) h f = wanted_leaves target gas (same_kind target.entry.kind (k.ticket g.ticket.kind)) refl h.0 h.1
        by (missing x) h f = f
        by unreadable h f = tt

  contract_place_is : (b : List ℕ) → is_contract b ≡ true → is_place b ≡ true
  contract_place_is b h = by (is_implicit b)
    where
      by : (c : Bool) → (c || is_contract b) ≡ true
      by true = refl
      by false = h

  give_leaves : (issuer : List ℕ) (kind content : Tree) (amount : ℤ) (destination entrypoint : List ℕ) (gas : ℕ) → AreBytes issuer →
      HasForm content →
      AreBytes destination → IsGoing start s.group contents w (ordered (Give issuer kind content amount destination entrypoint) ∷ waiting)
      counts →
      Leaves (apply s w (ordered (Give issuer kind content amount destination entrypoint)) gas counts)
  give_leaves issuer kind content amount destination entrypoint gas bytes form to g =
      leaves_charged _ _ _ (λ left. by left (offered o) (offered_is w o action.0 action.1 action.3)
      (offered_written o issuer_is bytes form))
    where
      o : Offer
      o = record { issuer = issuer; kind = kind; content = content; amount = amount }

      action : (is_contract issuer ≡ true) × (is_ticket_amount amount ≡ true) × AreDestination destination entrypoint × IsSmall content
      action = All-head (IsGoodWaiting w) (ordered (Give issuer kind content amount destination entrypoint)) waiting g.good.waits

      issuer_is : IsBytes issuer
      issuer_is = place_is issuer bytes (contract_place_is issuer action.0)

      address : IsBytes (spelled_address destination entrypoint)
      address =
          let long : length destination ≡ 22 = place_length destination action.2.0 in
          spelled_is destination entrypoint to (name_bytes entrypoint action.2.1) (omega (arith, long)) (named_short entrypoint action.2.1)

      by : (left : ℕ) (q : Option Held) → IsOffered w q → OfferedIs q → Leaves (with_offered q s w destination entrypoint left counts)
      by left (Some t) i h =
          handed_leaves (Give issuer kind content amount destination entrypoint) g (record {
            ticket = t;
            destination = destination;
            entrypoint = entrypoint;
          }) to address i.0 i.1 h
          (is_implicit destination) left
      by left None i h = omega arith

  -- ---- originations

  founding_leaves : (b : Bool) (f : Founding) (gas : ℕ) (counts : Counts) → IsBytes f.sender → AreBytes f.sender → AreBytes f.hash →
      length f.hash ≡ 20 → HasForm f.script →
      IsWritten f.storage → IsMade f.hash → Leaves (founding_outcome b w f gas counts)
  founding_leaves true f gas counts h from bytes long i j m = tt
  founding_leaves false f gas counts h from bytes long i j m = (
    contract_written (with_less w f.sender f.balance) f.hash (record {
      balance = f.balance;
      paid = 0;
      script = f.script;
      storage = f.storage;
    })
        (less_written w f.sender f.balance world from) bytes (i, j, omega arith) m,
    tt,
    ((h, (bytes_tested (contract_place f.hash) (contract_bytes f.hash bytes), contract_short f.hash long)), tt),
  )

  storage_leaves : (q : Found Val) (balance : ℕ) (t : Tree) (gas : ℕ) → HasForm t → FoundIs q → IsLocated q →
      Leaves (with_storage q s w balance t gas counts)
  storage_leaves (found x) balance t gas h i l =
      let f : Founding = founding_of s counts balance t x in
      leaves_growing s source setting.source f.hash (founding_outcome (nat_lt (balance_or_none w f.sender) f.balance) w f
      gas (one_more counts)) (new_bytes s.group counts.originations) refl
      (founding_leaves (nat_lt (balance_or_none w f.sender) f.balance) f gas (one_more counts) payer_is payer
      (new_bytes s.group counts.originations) refl h i (s.group, counts.originations, setting.small, refl))
  storage_leaves (fault n) balance t gas h i l = l

  script_leaves : (q : Found Script) (balance : ℕ) (t storage : Tree) (gas : ℕ) → HasForm t → HasForm storage →
      size storage < 2 ^ 32 → IsLocated q →
      Leaves (with_script q s w balance t storage gas counts)
  script_leaves (found a) balance t storage gas h i small l =
      storage_leaves (literal_in w a.storage storage) balance t gas h (literal_written w a.storage storage i)
      (literal_located w a.storage storage small)
  script_leaves (fault n) balance t storage gas h i small l = l

  delegate_leaves : (o : Option (List ℕ)) (f : Founding) (gas : ℕ) → IsBytes f.sender → AreBytes f.sender → AreBytes f.hash →
      length f.hash ≡ 20 → HasForm f.script →
      IsWritten f.storage → IsMade f.hash → Leaves (unless_delegated s o w f gas counts)
  delegate_leaves (Some d) f gas h from bytes long i j m = tt
  delegate_leaves None f gas h from bytes long i j m =
      leaves_growing s source setting.source f.hash (founding_outcome (nat_lt (balance_or_none w f.sender) f.balance) w f gas counts) bytes
      long
      (founding_leaves (nat_lt (balance_or_none w f.sender) f.balance) f gas counts h from bytes long i j m)

  -- ---- all

  pub leaves_apply : (op : Waiting) (gas : ℕ) → IsWrittenWaiting op → IsGoing start s.group contents w (op ∷ waiting) counts →
      Leaves (apply s w op gas counts)
  leaves_apply (ordered (Originate balance t storage)) gas h g =
      let action : (balance ≤ most_mutez) × IsSmall t × IsSmall storage = All-head (IsGoodWaiting w) (ordered (Originate balance t storage))
      waiting g.good.waits in
      leaves_charged _ _ _ (λ left. script_leaves (script t) balance t storage left h.0 h.1 action.2 (script_located t action.1))
  leaves_apply (ordered (Call amount destination entrypoint argument)) gas h g = ordered_leaves amount destination entrypoint argument
      gas h.0 h.1 g
  leaves_apply (ordered (Give issuer kind content amount destination entrypoint)) gas h g = give_leaves issuer kind content amount
      destination entrypoint gas h.0 h.1 h.2 g
  leaves_apply (issued sender (transfer argument amount address)) gas h g = issued_leaves sender argument amount address gas h.0 h.1.0 h.1.1
      h.1.2 g
  leaves_apply (issued sender (origination delegate amount t storage hash)) gas h g =
      let place = (All-head (IsGoodWaiting w) (issued sender (origination delegate amount t storage hash)) waiting g.good.waits).0 in
      leaves_charged _ _ _ (λ left. delegate_leaves delegate (record {
        sender = sender;
        hash = hash;
        balance = amount;
        script = t;
        storage = storage;
      }) left
      (place_is sender h.0 place) h.0 h.1.2 h.1.3 h.1.0 h.1.1
      (let new = g.fresh.waiting.0 in (s.group, new.0, setting.small, new.3)))
  leaves_apply (issued sender (event tag a x)) gas h g =
      let first : (is_place sender ≡ true) × IsGoodOperation w (event tag a x) = All-head (IsGoodWaiting w) (issued sender (event tag a x))
      waiting g.good.waits in
      leaves_charged (nat_lt gas (cost s.prices price.Event 0)) (gas - cost s.prices price.Event 0)
      (λ left. event_told w sender tag a x left counts) (λ left.
      (world, tt, ((place_is sender h.0 first.0, h.1.0, kind_form a, fits_form (known_with w []) a x first.1.1 h.1.1), tt)))
