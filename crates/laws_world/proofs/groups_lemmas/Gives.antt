-- Gifts of tickets.
use Rattle.std.proofs.Common.{◌≡◌, ◌≤◌, ◌^◌, ◌<◌, ℕ, List, ◌∷◌, Bool, true, false, Some, None, refl, sym, ◌∙◌, subst, ℤ, pos, ◌+ℤ◌, ◌-ℤ◌, ◌≤ℤ◌, arith, ◌||◌, unwrap_or}
use Rattle.std.specs.Prelude.{if◌then◌else◌, int_lt}
use Rattle.std.specs.declared.option.Option.{Option}
use Rattle.std.specs.Str.{bytes_eq}
use Rattle.std.proofs.lemmas.Int.{ints}
use Rattle.std.proofs.lemmas.List.Elements.{All-head}
use Rattle.rules_text.specs.nodes.Tree.{Tree, size}
use Rattle.rules_data.specs.forms.Spelling.{default_name, implicit_place, is_implicit, is_contract, is_place}
use Rattle.rules_data.specs.declared.gas.Kind.TheVariants as price
use Rattle.rules_data.specs.types.Kind.{Kind}
use Rattle.rules_data.specs.types.Kind as k
use Rattle.rules_data.specs.types.Attributes.{comparable}
use Rattle.rules_data.specs.types.Reading.{Reading, a_type, bad_type, too_large, type_at}
use Rattle.rules_data.specs.values.Forms.{is_ticket_amount}
use Rattle.rules_data.specs.values.Literals.{Literal, good, bad, read}
use Rattle.rules_data.specs.values.Val.{Val}
use Rattle.rules_data.specs.values.Tickets.{Identity, Held}
use Rattle.rules_code.specs.instructions.Same.{same_kind}
use Rattle.rules_code.specs.steps.Changes.{identity_of, amount_of, amount_in}
use Rattle.rules_code.specs.evaluation.Contracts.{hash_in}
use Rattle.rules_world.specs.world.World.{World, Account, no_account, account_at, account_or_none, contract_at, key_hash_in}
use Rattle.rules_world.specs.world.Contents.{Give}
use Rattle.rules_world.specs.world.Holdings.{held, held_by, held_by_account, amount_held, credited, debited}
use Rattle.rules_world.specs.world.Outcomes.{Setting, Waiting, ordered, Counts, failed}
use Rattle.rules_world.specs.world.Targets.{Target, Search, met, missing, unreadable, search, on_met}
use Rattle.rules_world.specs.world.Gives.{Offer, ticket_with, ticket_by, offered, as_value, Gift, give_effect, is_short, given_to_account, give_account, given_to_contract, if_wanted, give_contract, handed, with_offered, given}
use Rattle.rules_world.specs.world.Forms.{AreDestination, IsSmall, IsTicket}
use Rattle.rules_world.specs.world.Good.{FitsIn, IsGoodWaiting}
use Rattle.laws_data.proofs.types_lemmas.ForCallers.{same_kind_true}
use Rattle.laws_world.specs.runs.Going.{IsSetting, IsGoing, KeepsGoing}
use Rattle.laws_world.proofs.groups_lemmas.Accounts.{IsReceived, account_changed, credited_is}
use Rattle.laws_world.proofs.groups_lemmas.Calls.{run_keeps}
use Rattle.laws_world.proofs.accounts.ForCallers.{debited_held, extends_trans, fits_in_more, compared_fits}
use Rattle.laws_world.proofs.runs.ForCallers.{implicit_hash, IsMet, met_more, Searched, searched, orderly_of, keeps_charged, account_holdings}
use Rattle.laws_world.proofs.groups_lemmas.Taken.{IsTaken, taken_order, taken_held, taken_on}

-- ---- the ticket

-- one that is offered has its form, and fits its type
abbrev pub IsOffered : World → Option Held → Type 0
IsOffered w (Some t) = IsTicket t × FitsIn w (k.ticket t.kind) (as_value t)
IsOffered w None = Unit {0}

contract_place : (b : List ℕ) → is_contract b ≡ true → is_place b ≡ true
contract_place b h = by (is_implicit b)
  where
    by : (c : Bool) → (c || is_contract b) ≡ true
    by true = refl
    by false = h

pub offered_is : (w : World) (o : Offer) → is_contract o.issuer ≡ true → is_ticket_amount o.amount ≡ true →
    size o.content < 2 ^ 32 → IsOffered w (offered o)
offered_is w o issuer amount small = by (type_at 0 o.kind)
  where
    place : is_place o.issuer ≡ true
    place = contract_place o.issuer issuer

    by_literal : (a : Kind) → comparable a ≡ true → (l : Literal Val) → read a 0 o.content ≡ l → IsOffered w (ticket_with o a l)
    by_literal a c (good x ps) e = ((place, amount), (refl, compared_fits w a o.content x ps c e small, amount, place))
    by_literal a c (bad l) e = tt

    by_kind : (a : Kind) (c : Bool) → comparable a ≡ c → IsOffered w (if c then ticket_with o a (read a 0 o.content) else None)
    by_kind a true e = by_literal a e (read a 0 o.content) refl
    by_kind a false e = tt

    by : (r : Reading) → IsOffered w (ticket_by o r)
    by (a_type a) = by_kind a (comparable a) refl
    by (bad_type l) = tt
    by too_large = tt

-- ---- a ticket goes from its source

less_by : (x m : ℤ) → x -ℤ m ≡ x +ℤ (pos 0 -ℤ m)
less_by x m = omega (arith, ints)

held_there : (o : Option Account) (id : Identity) → held_by_account o id ≡ amount_held (unwrap_or o no_account) id
held_there None id = refl
held_there (Some a) id = refl

module _ (s : Setting) (setting : IsSetting s) where
  holds_enough : (w : World) (g : Gift) → is_short s w g ≡ false →
      g.ticket.amount ≤ℤ amount_held (account_or_none w s.source) (identity_of g.ticket)
  holds_enough w g h =
      let source = setting.source in
      let same : held_by w (identity_of g.ticket) (implicit_place s.source) ≡ amount_held (account_or_none w s.source)
      (identity_of g.ticket) = rw source (held_there (account_at w s.source) (identity_of g.ticket)) in
      let enough : g.ticket.amount ≤ℤ held_by w (identity_of g.ticket) (implicit_place s.source) = at_least g.ticket.amount
      (held_by w (identity_of g.ticket) (implicit_place s.source)) h in
      subst (λ z. g.ticket.amount ≤ℤ z) same enough
    where
      at_least : (a b : ℤ) → int_lt b a ≡ false → a ≤ℤ b
      at_least a b h = omega (arith, ints)

  debited_is : (w : World) (g : Gift) → Rattle.laws_world.proofs.runs.ForCallers.IsOrderly w → IsTicket g.ticket →
      is_short s w g ≡ false → IsReceived w (debited w s.source g.ticket) (λ id. pos 0 -ℤ amount_of id g.ticket)
  debited_is w g o i h =
      account_changed w s.source (identity_of g.ticket) (amount_held (account_or_none w s.source)
      (identity_of g.ticket) -ℤ g.ticket.amount) (λ id. pos 0 -ℤ amount_of id g.ticket) o setting.source i.0
      (λ id. debited_held (account_or_none w s.source) g.ticket id (account_holdings w o s.source) (holds_enough w g h)
      ∙ less_by _ (amount_of id g.ticket))

  module _ (start : World) (contents : ℕ) (w : World) (waiting : List Waiting) (counts : Counts)
      (taken : IsTaken start s.group contents w (λ id. pos 0) waiting counts) where
    to_and_from : (z y h m : ℤ) → z ≡ y +ℤ m → y ≡ h +ℤ (pos 0 -ℤ m) → z ≡ h +ℤ pos 0
    to_and_from z y h m e f = omega (arith, ints, e, f)

    account_keeps : (g : Gift) (gas : ℕ) (b : Bool) → is_short s w g ≡ b → IsTicket g.ticket →
        is_implicit g.destination ≡ true → KeepsGoing start s contents waiting (given_to_account b s w g gas counts)
    account_keeps g gas true e i implicit = tt
    account_keeps g gas false e i implicit =
        let y = debited w s.source g.ticket in
        let d = debited_is w g (orderly_of w taken.sound) i e in
        let c = credited_is y (key_hash_in g.destination) g.ticket d.orderly (implicit_hash g.destination implicit) i in
        let z = credited y (key_hash_in g.destination) g.ticket in
        taken_held start s.group contents w waiting counts (λ id. pos 0) z taken c.orderly
        (extends_trans (contract_at w) (contract_at y) (contract_at z) d.more c.more) (λ q h. c.none q (d.none q h))
        (c.log ∙ d.log) (c.granted ∙ d.granted) (c.mutez ∙ d.mutez)
        (λ id. to_and_from (held z id) (held y id) (held w id) (amount_of id g.ticket) (c.tickets id) (d.tickets id))

    named_keeps : (g : Gift) (gas : ℕ) → IsTicket g.ticket → is_implicit g.destination ≡ true →
        KeepsGoing start s contents waiting (give_account s w g gas counts)
    named_keeps g gas i implicit = by (bytes_eq g.entrypoint default_name)
      where
        by : (b : Bool) → KeepsGoing start s contents waiting
            (if b then given_to_account (is_short s w g) s w g gas counts else failed
            Rattle.rules_code.specs.steps.Failure.no_entrypoint)
        by true = account_keeps g gas (is_short s w g) refl i implicit
        by false = tt

    module _ (few : contents ≤ 1000) where
      on_way : (y h m : ℤ) → y ≡ h +ℤ (pos 0 -ℤ m) → y +ℤ (m +ℤ pos 0) ≡ h +ℤ pos 0
      on_way y h m e = omega (arith, ints, e)

      source_place : is_place (implicit_place s.source) ≡ true
      source_place = let h = setting.source in rw h refl

      run_keeps_it : (g : Gift) (target : Target) (gas : ℕ) (b : Bool) → is_short s w g ≡ b → IsTicket g.ticket →
          FitsIn w target.entry.kind (as_value g.ticket) → IsMet w target →
          KeepsGoing start s contents waiting (given_to_contract b s w g target gas counts)
      run_keeps_it g target gas true e i fits m = tt
      run_keeps_it g target gas false e i fits m =
          let y = debited w s.source g.ticket in
          let d = debited_is w g (orderly_of w taken.sound) i e in
          let on = taken_on start s.group contents w waiting counts (λ id. pos 0)
          (λ id. amount_in id (as_value g.ticket)) y taken d.orderly d.more d.none d.log d.granted d.mutez
          (λ id. on_way (held y id) (held w id) (amount_of id g.ticket) (d.tickets id)) in
          run_keeps start s setting contents few y
          (record { target = target; sender = implicit_place s.source; amount = 0; argument = as_value g.ticket }) gas
          waiting counts (give_effect s g) on
          (met_more w y target d.more m) (fits_in_more w y d.more target.entry.kind (as_value g.ticket) fits) source_place
          (zero_small Rattle.rules_text.specs.nodes.Limits.most_mutez)
        where
          zero_small : (n : ℕ) → 0 ≤ n
          zero_small n = omega arith

      wanted_keeps : (g : Gift) (target : Target) (gas : ℕ) (b : Bool) →
          same_kind target.entry.kind (k.ticket g.ticket.kind) ≡ b → IsTicket g.ticket →
          FitsIn w (k.ticket g.ticket.kind) (as_value g.ticket) → IsMet w target →
          KeepsGoing start s contents waiting (if_wanted b s w g target gas counts)
      wanted_keeps g target gas true e i fits m =
          run_keeps_it g target gas (is_short s w g) refl i (subst (λ a. FitsIn w a (as_value g.ticket))
          (sym (same_kind_true target.entry.kind (k.ticket g.ticket.kind) e)) fits) m
      wanted_keeps g target gas false e i fits m = tt

      contract_keeps : (g : Gift) (gas : ℕ) → IsTicket g.ticket → FitsIn w (k.ticket g.ticket.kind) (as_value g.ticket) →
          KeepsGoing start s contents waiting (give_contract s w g gas counts)
      contract_keeps g gas i fits = by (search w (hash_in g.destination) g.entrypoint)
          (searched w (orderly_of w taken.sound) (hash_in g.destination) g.entrypoint)
        where
          by : (q : Search) → Searched w (hash_in g.destination) g.entrypoint q →
              KeepsGoing start s contents waiting
              (on_met q (λ target. if_wanted (same_kind target.entry.kind (k.ticket g.ticket.kind)) s w g target gas
              counts))
          by (met target) h = wanted_keeps g target gas (same_kind target.entry.kind (k.ticket g.ticket.kind)) refl i fits h.0
          by (missing f) h = tt
          by unreadable h = h

      offered_keeps : (o : Option Held) (destination entrypoint : List ℕ) (gas : ℕ) → IsOffered w o →
          KeepsGoing start s contents waiting (with_offered o s w destination entrypoint gas counts)
      offered_keeps None destination entrypoint gas i = tt
      offered_keeps (Some t) destination entrypoint gas i = by (is_implicit destination) refl
        where
          by : (b : Bool) → is_implicit destination ≡ b → KeepsGoing start s contents waiting
              (handed b s w (record { ticket = t; destination = destination; entrypoint = entrypoint }) gas counts)
          by true e = named_keeps (record { ticket = t; destination = destination; entrypoint = entrypoint }) gas i.0 e
          by false e = contract_keeps (record { ticket = t; destination = destination; entrypoint = entrypoint }) gas i.0 i.1

  pub give_keeps : (start : World) (contents : ℕ) → contents ≤ 1000 →
      (w : World) (waiting : List Waiting) (counts : Counts) (issuer : List ℕ) (kind content : Tree) (amount : ℤ)
      (destination entrypoint : List ℕ) (gas : ℕ) →
      IsGoing start s.group contents w (ordered (Give issuer kind content amount destination entrypoint) ∷ waiting) counts →
      KeepsGoing start s contents waiting
      (given s w (record { issuer = issuer; kind = kind; content = content; amount = amount }) destination entrypoint gas
      counts)
  give_keeps start contents few w waiting counts issuer kind content amount destination entrypoint gas g =
      let action : (is_contract issuer ≡ true) × (is_ticket_amount amount ≡ true) × AreDestination destination entrypoint ×
      IsSmall content =
      All-head (IsGoodWaiting w) (ordered (Give issuer kind content amount destination entrypoint)) waiting g.good.waits in
      let taken = taken_order start s.group contents w waiting counts
      (Give issuer kind content amount destination entrypoint) g in
      let o : Offer = record { issuer = issuer; kind = kind; content = content; amount = amount } in
      keeps_charged start s contents waiting s.prices price.Transfer gas _
      (λ left. offered_keeps start contents w waiting counts taken few (offered o) destination entrypoint left
      (offered_is w o action.0 action.1 action.3))
