-- What there is room for in a good world.
use Rattle.std.proofs.Common.{◌≡◌, ◌+◌, ℕ, ℤ, pos, ◌+ℤ◌, ◌-ℤ◌, ◌≤ℤ◌, List, ◌∷◌, Bool, true, false, is_some, None, Some, refl, sym, ap, ◌∙◌, subst, arith}
use Rattle.std.specs.Prelude.{if◌then◌else◌}
use Rattle.std.proofs.lemmas.Int.{ints}
use Rattle.std.specs.declared.option.Option.{Option}
use Rattle.std.specs.Ordering.{is_eq}
use Rattle.std.specs.Cmp.{tied_itself}
use Rattle.std.proofs.lemmas.List.Elements.{All-tail}
use Rattle.rules_code.specs.evaluation.Contracts.{hash_in}
use Rattle.rules_code.specs.evaluation.Operations.{Operation, transfer, origination, operation_tickets}
use Rattle.rules_code.specs.evaluation.Surroundings.{Contract}
use Rattle.rules_data.specs.forms.Spelling.{implicit_place, is_implicit, is_key_hash}
use Rattle.rules_code.specs.steps.Changes.{amount_of, amount_among, amount_in, identity_of, is_alike, minted_in, burnt_in}
use Rattle.rules_data.specs.values.Tickets.{Identity, Held}
use Rattle.rules_world.specs.world.Balances.{supply, moved}
use Rattle.rules_world.specs.world.Forms.{IsTicket}
use Rattle.rules_world.specs.world.Gives.{as_value}
use Rattle.rules_world.specs.world.Good.{IsGood, IsGoodWaiting, MayRun, amount_waiting}
use Rattle.rules_world.specs.world.Holdings.{held, held_by, amount_held, debited_account, minted_ever, burnt_ever}
use Rattle.rules_world.specs.world.Outcomes.{Waiting, issued}
use Rattle.rules_world.specs.world.World.{World, Account, account_or_none, contract_at, with_account}
use Rattle.laws_world.proofs.accounts.ForCallers.{debited_held, with_amount_form, identity_total, alike_equal, IsOwner, account_supply}
use Rattle.laws_world.proofs.runs.ForCallers.{in_order, moved_moves, moved_supply, orderly_of, sound_again, minted_again, waiting_positive, IsOrderly, account_holdings, orderly_account, held_account}
use Rattle.mich_world.specs.preconditions.Laws.{MayReceive, TransfersMayRun, OriginationsMayRun, PlainValuesMayRun, GiftsMayRun, MovesLeaveRoom}
use Rattle.mich_world.proofs.simulation_lemmas.ForCallers.{same_balance, account_held}

-- ---- what waits

less : (h a r m : ℤ) → h +ℤ (a +ℤ r) ≡ m → pos 0 ≤ℤ r → (h +ℤ a) ≤ℤ m
less h a r m e p = omega (arith, ints, e, p)

first_waiting : (w : World) (sender : List ℕ) (op : Operation) (waiting : List Waiting) (id : Identity) → IsGood w (issued sender op ∷ waiting)
    → (held w id +ℤ amount_among id (operation_tickets op)) ≤ℤ (minted_ever w id -ℤ burnt_ever w id)
first_waiting w sender op waiting id g =
    less (held w id) (amount_among id (operation_tickets op)) (amount_waiting id waiting) (minted_ever w id -ℤ burnt_ever w id) (g.tickets id)
    (waiting_positive id w waiting (All-tail (IsGoodWaiting w) (issued sender op) waiting g.waits))

pub transfers_may_run : TransfersMayRun
transfers_may_run w sender argument amount destination waiting g =
    record { sound = g.sound; tickets = λ id. first_waiting w sender (transfer argument amount destination) waiting id g }

pub originations_may_run : OriginationsMayRun
originations_may_run w sender delegate amount script storage hash waiting g =
    record { sound = g.sound; tickets = λ id. first_waiting w sender (origination delegate amount script storage hash) waiting id g }

none_among : (h a r m : ℤ) → h +ℤ r ≡ m → pos 0 ≤ℤ r → a ≡ pos 0 → (h +ℤ a) ≤ℤ m
none_among h a r m e p z = omega (arith, ints, e, p, z)

pub plain_values_may_run : PlainValuesMayRun
plain_values_may_run w waiting x g none = record {
  sound = g.sound;
  tickets = λ id. none_among (held w id) (amount_in id x) (amount_waiting id waiting) (minted_ever w id -ℤ burnt_ever w id) (g.tickets id)
      (waiting_positive id w waiting g.waits) (ap (amount_among id) none);
}

-- ---- gifts

one_alike : (i : Identity) → is_alike i i ≡ true
one_alike i = alike_equal i i ∙ ap is_eq (tied_itself identity_total i)

pub whole_of : (t : Held) → amount_of (identity_of t) t ≡ t.amount
whole_of t = ap (λ (b : Bool). if b then t.amount else pos 0) (one_alike (identity_of t))

one_more : (a : ℤ) → a ≡ a +ℤ pos 0
one_more a = omega (arith, ints)

pub one_in : (id : Identity) (t : Held) → amount_of id t ≡ amount_in id (as_value t)
one_in id t = one_more (amount_of id t)

gone : (x h old new m n r l : ℤ) → x +ℤ old ≡ h +ℤ new → new ≡ old -ℤ m → h +ℤ r ≡ l → pos 0 ≤ℤ r → m ≡ n → (x +ℤ n) ≤ℤ l
gone x h old new m n r l e f g p q = omega (arith, ints, e, f, g, p, q)

same_supply : (x w a b : ℕ) → x + a ≡ w + b → b ≡ a → x ≡ w
same_supply x w a b e f = omega (arith, e, f)

module _ (w : World) (waiting : List Waiting) (who : List ℕ) (t : Held) (g : IsGood w waiting) (key : is_key_hash who ≡ true) (form : IsTicket t)
    (enough : t.amount ≤ℤ held_by w (identity_of t) (implicit_place who)) where
  abbrev a : Account
  a = account_or_none w who

  abbrev b : Account
  b = debited_account a t

  abbrev x : World
  x = with_account w who b

  o : IsOrderly w
  o = orderly_of w g.sound

  has : t.amount ≤ℤ amount_held a (identity_of t)
  has = subst (λ (z : ℤ). t.amount ≤ℤ z) (account_held w who (identity_of t) key) enough

  gift_has_room : MayRun x (as_value t)
  gift_has_room = record {
    sound = sound_again w x g.sound
        (orderly_account w who b o key (with_amount_form a (identity_of t) (amount_held a (identity_of t) -ℤ t.amount) (account_holdings w o who) form.0))
        (minted_again w x g.sound refl)
        (same_supply (supply x) (supply w) a.balance b.balance (account_supply w who b (in_order w o))
        (same_balance a (identity_of t) (amount_held a (identity_of t) -ℤ t.amount)));
    tickets = λ id. gone (held x id) (held w id) (amount_held a id) (amount_held b id) (amount_of id t) (amount_in id (as_value t)) (amount_waiting id waiting)
        (minted_ever w id -ℤ burnt_ever w id)
        (held_account w who b id o) (debited_held a t id (account_holdings w o who) has) (g.tickets id) (waiting_positive id w waiting g.waits) (one_in id t);
  }

pub gifts_may_run : GiftsMayRun
gifts_may_run w waiting who t g key form enough = gift_has_room w waiting who t g key form enough

-- ---- moves

owner_of : (w : World) (place : List ℕ) → MayReceive w place → IsOwner w place (is_implicit place)
owner_of w place h = by (is_implicit place) (contract_at w (hash_in place)) refl h
  where
    by : (b : Bool) (o : Option Contract) → contract_at w (hash_in place) ≡ o → (b ≡ false → is_some (contract_at w (hash_in place)) ≡ true) → IsOwner w place b
    by true o e h = tt
    by false (Some c) e h = (c, e)
    by false None e h = let x : false ≡ true = ap is_some (sym e) ∙ h refl in absurd cc

pub moves_leave_room : MovesLeaveRoom
moves_leave_room w from to mutez x m enough may =
    let owner = owner_of w to may in
    let o = orderly_of w m.sound in
    let after = moved w from to mutez in
    let only = moved_moves w from to mutez o in
    record {
      sound = sound_again w after m.sound only.orderly (minted_again w after m.sound only.log) (moved_supply w from to mutez o enough owner);
      tickets = λ id. kept_room (held w id) (held after id) (amount_in id x) (minted_ever w id) (minted_ever after id) (burnt_ever w id) (burnt_ever after id)
          (only.held id) (ap (minted_in id) only.log) (ap (burnt_in id) only.log) (m.tickets id);
    }
  where
    kept_room : (h k a m n b c : ℤ) → k ≡ h → n ≡ m → c ≡ b → (h +ℤ a) ≤ℤ (m -ℤ b) → (k +ℤ a) ≤ℤ (n -ℤ c)
    kept_room h k a m n b c e f g r = omega (arith, ints, e, f, g, r)
