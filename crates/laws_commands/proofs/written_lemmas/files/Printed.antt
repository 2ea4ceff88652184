-- The nodes that are printed of receipts and of a world.
use Rattle.std.proofs.Common.{◌<◌, ◌^◌, ℕ, ℤ, Option, Some, None, List, [], ◌∷◌, map, refl, sym, subst, arith}
use Rattle.std.specs.Prelude.{codes}
use Rattle.std.specs.List.{All, AllByRecursion}
use Rattle.std.specs.Ordering.{match_ordering}
use Rattle.std.specs.declared.cmp.Ordering.{Ordering}
use Rattle.std.specs.declared.cmp.Ordering.TheVariants.{Less, Equal, Greater}
use Rattle.std.proofs.lemmas.List.Elements.{All-head, All-tail}
use Rattle.rules_text.specs.nodes.Tree.{Tree, int, trees_of}
use Rattle.rules_data.specs.forms.Spelling.{contract_place}
use Rattle.rules_data.specs.values.Tickets.{Identity, Held}
use Rattle.rules_code.specs.steps.Changes.{Change, minted, burnt, identity_of}
use Rattle.rules_code.specs.steps.Failure.{Failure}
use Rattle.rules_code.specs.steps.Failure as f
use Rattle.rules_code.specs.evaluation.Surroundings.{Contract}
use Rattle.rules_world.specs.lines.Nodes.{over, number, located, failure_node, change_over, change_node, changes_node, effect_node, status_node, fault_node, receipt_node, group_node, held_node, account_node, paid_nodes, contract_node, ticket_node, burn_nodes, state_nodes}
use Rattle.rules_world.specs.world.Forms.{IsChange, IsAccount, IsTwentyBytes}
use Rattle.rules_world.specs.world.Good.{known_with, IsGoodContract, IsSound}
use Rattle.rules_world.specs.world.Balances.{supply}
use Rattle.rules_world.specs.world.Holdings.{held, minted_ever, burnt_ever, with_identity, identities}
use Rattle.rules_world.specs.world.World.{World, Account, identity_order}
use Rattle.rules_world.specs.world.Receipts.{Effect, GroupFault, UnknownSource, GasTooHigh, FeeTooHigh, Transfer, Give, Origination, Event, Storage, Status, Applied, Backtracked, Failed, Skipped, Receipt, Refused, Done}
use Rattle.mich_text.specs.Written.{IsNumber, IsName, HasTextForm, HaveTextForms}
use Rattle.laws_commands.specs.written.Written.{IsWrittenIdentity, IsWrittenTicket, IsWrittenChange, IsWrittenFailure}
use Rattle.laws_commands.specs.written.Worlds.{IsWrittenAccount, IsWrittenAt, IsWrittenWorld, IsWrittenEffect, IsWrittenStatus, IsWrittenReceipt}
use Rattle.laws_commands.specs.audits.Receipts.{IsAmount, IsEffect, IsStatus, IsReceipt}
use Rattle.laws_commands.specs.audits.States.{IsToldHolding, IsToldAccount, IsCount, IsToldTicket}
use Rattle.laws_commands.proofs.written_lemmas.values.Bytes.{bytes_tested, contract_bytes, contract_short}
use Rattle.laws_commands.proofs.written_lemmas.values.Values.{kind_form}
use Rattle.laws_commands.proofs.written_lemmas.values.Fitting.{fits_form, ticket_is, hash_short}
use Rattle.laws_commands.proofs.common.Lists.{all_append}

abbrev AllForms : List Tree → Type 0
AllForms = AllByRecursion HasTextForm

trees_form : (ts : List Tree) → AllForms ts → HaveTextForms (trees_of ts)
trees_form [] h = tt
trees_form (t ∷ ts) h = (h.0, trees_form ts h.1)

over_form : (name : List ℕ) (ts : List Tree) → IsName name → AllForms ts → HasTextForm (over name ts)
over_form name ts n h = (n, tt, trees_form ts h)

amount_form : (n : ℕ) → IsAmount n → HasTextForm (number n)
amount_form n h = omega (arith, h)

-- ---- failures

located_form : (name : List ℕ) (l : ℕ) → IsName name → l < 2 ^ 32 → HasTextForm (located name l)
located_form name l n h = over_form name (number l ∷ []) n (omega (arith, h), tt)

failure_form : (x : Failure) → IsWrittenFailure x → HasTextForm (failure_node x)
failure_form (f.failed_with kind value) h = ((refl, refl, omega arith), tt, (kind_form kind, (h, tt)))
failure_form f.out_of_gas h = ((refl, refl, omega arith), tt, tt)
failure_form f.integer_limit h = ((refl, refl, omega arith), tt, tt)
failure_form f.mutez_overflow h = ((refl, refl, omega arith), tt, tt)
failure_form f.shift_limit h = ((refl, refl, omega arith), tt, tt)
failure_form f.size_limit h = ((refl, refl, omega arith), tt, tt)
failure_form f.depth_limit h = ((refl, refl, omega arith), tt, tt)
failure_form f.too_many_operations h = ((refl, refl, omega arith), tt, tt)
failure_form f.operation_replay h = ((refl, refl, omega arith), tt, tt)
failure_form f.no_contract h = ((refl, refl, omega arith), tt, tt)
failure_form f.no_entrypoint h = ((refl, refl, omega arith), tt, tt)
failure_form (f.bad_parameter l) h = located_form (codes "BadParameter") l (refl, refl, omega arith) h
failure_form f.balance_too_low h = ((refl, refl, omega arith), tt, tt)
failure_form f.empty_transaction h = ((refl, refl, omega arith), tt, tt)
failure_form (f.ill_typed l) h = located_form (codes "IllTyped") l (refl, refl, omega arith) h
failure_form (f.bad_storage l) h = located_form (codes "BadStorage") l (refl, refl, omega arith) h
failure_form f.unregistered_delegate h = ((refl, refl, omega arith), tt, tt)
failure_form f.ticket_short h = ((refl, refl, omega arith), tt, tt)
failure_form f.cannot_pay_burn h = ((refl, refl, omega arith), tt, tt)

-- ---- effects

change_form : (name : List ℕ) (t : Held) → IsName name → IsWrittenTicket t → IsNumber t.amount → HasTextForm (change_over name t)
change_form name t n h a = (n, tt, (h.0, (kind_form t.kind, (h.1, (a, tt)))))

one_change : (c : Change) → IsWrittenChange c → IsChange c → HasTextForm (change_node c)
one_change (minted t) h i = change_form (codes "Minted") t (refl, refl, omega arith) h.0 (ticket_is t.amount i.1)
one_change (burnt t) h i = change_form (codes "Burnt") t (refl, refl, omega arith) h (ticket_is t.amount i.1)

each_change : (cs : List Change) → AllByRecursion IsWrittenChange cs → AllByRecursion IsChange cs → AllForms (map change_node cs)
each_change [] h i = tt
each_change (c ∷ cs) h i = (one_change c h.0 i.0, each_change cs h.1 i.1)

changes_form : (cs : List Change) → AllByRecursion IsWrittenChange cs → AllByRecursion IsChange cs → HasTextForm (changes_node cs)
changes_form cs h i = trees_form (map change_node cs) (each_change cs h i)

effect_form : (e : Effect) → IsWrittenEffect e → IsEffect e → HasTextForm (effect_node e)
effect_form (Transfer sender destination amount argument changes) h i =
    ((refl, refl, omega arith), tt, (h.0, (h.1, (amount_form amount i.0, (h.2, (changes_form changes h.3 i.1, tt))))))
effect_form (Give sender destination issuer kind content amount changes) h i =
    ((refl, refl, omega arith), tt, (h.0, (h.1, (h.2, (h.3, (h.4, (ticket_is amount i.1, (changes_form changes h.5 i.2, tt))))))))
effect_form (Origination sender address amount) h i =
    ((refl, refl, omega arith), tt, (h.0, (h.1, (amount_form amount i, tt))))
effect_form (Event sender tag kind value) h i = ((refl, refl, omega arith), tt, (h.0, (h.1, (h.2, (h.3, tt)))))
effect_form (Storage address count burn) h i =
    let few = h.1 in ((refl, refl, omega arith), tt, (h.0, (omega (arith, few), (amount_form burn i, tt))))

each_effect : (es : List Effect) → AllByRecursion IsWrittenEffect es → AllByRecursion IsEffect es → AllForms (map effect_node es)
each_effect [] h i = tt
each_effect (e ∷ es) h i = (effect_form e h.0 i.0, each_effect es h.1 i.1)

-- ---- receipts

status_form : (s : Status) → IsWrittenStatus s → IsStatus s → HasTextForm (status_node s)
status_form (Applied gas es) h i =
    let few = h.0 in ((refl, refl, omega arith), tt, (omega (arith, few), (trees_form (map effect_node es) (each_effect es h.1 i), tt)))
status_form Backtracked h i = ((refl, refl, omega arith), tt, tt)
status_form (Failed count x) h i =
    let few = h.0 in ((refl, refl, omega arith), tt, (omega (arith, few), (failure_form x h.1, tt)))
status_form Skipped h i = ((refl, refl, omega arith), tt, tt)

each_status : (ss : List Status) → AllByRecursion IsWrittenStatus ss → AllByRecursion IsStatus ss → AllForms (map status_node ss)
each_status [] h i = tt
each_status (s ∷ ss) h i = (status_form s h.0 i.0, each_status ss h.1 i.1)

fault_form : (x : GroupFault) → HasTextForm (fault_node x)
fault_form UnknownSource = ((refl, refl, omega arith), tt, tt)
fault_form GasTooHigh = ((refl, refl, omega arith), tt, tt)
fault_form FeeTooHigh = ((refl, refl, omega arith), tt, tt)

receipt_form : (r : Receipt) → IsWrittenReceipt r → IsReceipt r → HasTextForm (receipt_node r)
receipt_form (Refused x) h i = ((refl, refl, omega arith), tt, (fault_form x, tt))
receipt_form (Done ss) h i = trees_form (map status_node ss) (each_status ss h i)

pub group_form : (n : ℕ) (r : Receipt) → IsAmount n → IsWrittenReceipt r → IsReceipt r → HasTextForm (group_node n r)
group_form n r a h i = ((refl, refl, omega arith), tt, (amount_form n a, (receipt_form r h i, tt)))

-- ---- the world

held_form : (h : Identity × ℤ) → IsWrittenIdentity h.0 → IsToldHolding h → HasTextForm (held_node h)
held_form h i t = ((refl, refl, omega arith), tt, (i.0, (kind_form h.0.kind, (i.1, (ticket_is h.1 t.1, tt)))))

each_held : (hs : List (Identity × ℤ)) → All (λ h. IsWrittenIdentity h.0) hs → AllByRecursion IsToldHolding hs → AllForms (map held_node hs)
each_held [] h i = tt
each_held (x ∷ hs) h i =
    (held_form x (All-head (λ h. IsWrittenIdentity h.0) x hs h) i.0, each_held hs (All-tail (λ h. IsWrittenIdentity h.0) x hs h) i.1)

account_form : (a : List ℕ × Account) → IsWrittenAccount a → IsAccount a → IsToldAccount a → HasTextForm (account_node a)
account_form a h i t = (
  (refl, refl, omega arith),
  tt,
  (
    (bytes_tested a.0 h.0, hash_short a.0 i.0),
    (
      amount_form a.1.balance t.0,
      (trees_form (map held_node a.1.holdings) (each_held a.1.holdings h.1 t.1), tt),
    ),
  ),
)

each_account : (owners : List (List ℕ × Account)) → All IsWrittenAccount owners → All IsAccount owners →
    AllByRecursion IsToldAccount owners → AllForms (map account_node owners)
each_account [] h i t = tt
each_account (a ∷ owners) h i t = (
  account_form a (All-head IsWrittenAccount a owners h) (All-head IsAccount a owners i) t.0,
  each_account owners (All-tail IsWrittenAccount a owners h) (All-tail IsAccount a owners i) t.1,
)

paid_forms : (rate : Option ℕ) (c : Contract) → c.paid < 2 ^ 64 → AllForms (paid_nodes rate c)
paid_forms (Some rate) c h = (omega (arith, h), tt)
paid_forms None c h = tt

contract_form : (w : World) (c : List ℕ × Contract) → IsWrittenAt c → IsTwentyBytes c → IsGoodContract w c → IsAmount c.1.balance →
    HasTextForm (contract_node w.rate c)
contract_form w c h long good a = (
  (refl, refl, omega arith),
  tt,
  (
    (bytes_tested (contract_place c.0) (contract_bytes c.0 h.0), contract_short c.0 long),
    (
      amount_form c.1.balance a,
      (
        fits_form (known_with w []) good.0.storage c.1.storage good.3 h.1.1,
        trees_form (paid_nodes w.rate c.1)
            (paid_forms w.rate c.1 h.1.2),
      ),
    ),
  ),
)

each_contract : (w : World) (cs : List (List ℕ × Contract)) → All IsWrittenAt cs → All IsTwentyBytes cs → All (IsGoodContract w) cs →
    AllByRecursion (λ c. IsAmount c.1.balance) cs →
    AllForms (map (contract_node w.rate) cs)
each_contract w [] h l g a = tt
each_contract w (c ∷ cs) h l g a = (
  contract_form w c (All-head IsWrittenAt c cs h) (All-head IsTwentyBytes c cs l) (All-head (IsGoodContract w) c cs g) a.0,
  each_contract w cs (All-tail IsWrittenAt c cs h) (All-tail IsTwentyBytes c cs l) (All-tail (IsGoodContract w) c cs g) a.1,
)

with_one : (id : Identity) (ids : List Identity) → IsWrittenIdentity id → AllByRecursion IsWrittenIdentity ids →
    AllByRecursion IsWrittenIdentity (with_identity id ids)
with_one id [] h g = (h, tt)
with_one id (j ∷ js) h g = by (identity_order id j) (with_one id js h g.1)
  where
    by : (r : Ordering) → AllByRecursion IsWrittenIdentity (with_identity id js) →
        AllByRecursion IsWrittenIdentity (match_ordering r (id ∷ j ∷ js) (j ∷ js) (j ∷ with_identity id js))
    by Less r = (h, g)
    by Equal r = g
    by Greater r = (g.0, r)

all_identities : (cs : List Change) → AllByRecursion IsWrittenChange cs → AllByRecursion IsWrittenIdentity (identities cs)
all_identities [] h = tt
all_identities (minted t ∷ cs) h = with_one (identity_of t) (identities cs) h.0.0 (all_identities cs h.1)
all_identities (burnt t ∷ cs) h = all_identities cs h.1

count_form : (z : ℤ) → IsCount z → HasTextForm (int z)
count_form z h = let small = h.2 in subst IsNumber (sym h.1) (omega (arith, small))

ticket_form : (w : World) (id : Identity) → IsWrittenIdentity id → IsToldTicket w id → HasTextForm (ticket_node w id)
ticket_form w id h t = (
  (refl, refl, omega arith),
  tt,
  (
    h.0,
    (
      kind_form id.kind,
      (
        h.1,
        (
          count_form (minted_ever w id) t.1,
          (
            count_form (burnt_ever w id) t.2,
            (
              count_form (held w id) t.3,
              tt,
            ),
          ),
        ),
      ),
    ),
  ),
)

each_ticket : (w : World) (ids : List Identity) → AllByRecursion IsWrittenIdentity ids → AllByRecursion (IsToldTicket w) ids →
    AllForms (map (ticket_node w) ids)
each_ticket w [] h t = tt
each_ticket w (id ∷ ids) h t = (ticket_form w id h.0 t.0, each_ticket w ids h.1 t.1)

burn_forms : (rate : Option ℕ) (n : ℕ) → IsAmount n → AllForms (burn_nodes rate n)
burn_forms (Some rate) n h = (over_form (codes "StorageBurn") (number n ∷ []) (refl, refl, omega arith) (amount_form n h, tt), tt)
burn_forms None n h = tt

pub state_forms : (w : World) → IsWrittenWorld w → IsSound w → AllByRecursion IsToldAccount w.accounts →
    AllByRecursion (λ c. IsAmount c.1.balance) w.contracts →
    AllByRecursion (IsToldTicket w) (identities w.log) → IsAmount w.fees → IsAmount w.storage_burn → IsAmount (supply w) →
    AllByRecursion HasTextForm (state_nodes w)
state_forms w h g accounts contracts tickets fees burn all =
    all_append HasTextForm (map account_node w.accounts) _ (each_account w.accounts h.accounts g.form.accounts accounts)
    (all_append HasTextForm (map (contract_node w.rate) w.contracts) _
    (each_contract w w.contracts h.contracts g.form.contracts g.contracts contracts)
    (all_append HasTextForm (map (ticket_node w) (identities w.log)) _
    (each_ticket w (identities w.log) (all_identities w.log h.log) tickets) (
      over_form (codes "Fees") (number w.fees ∷ []) (refl, refl, omega arith) (amount_form w.fees fees, tt),
      all_append HasTextForm (burn_nodes w.rate w.storage_burn) _ (burn_forms w.rate w.storage_burn burn)
          (over_form (codes "Supply") (number (supply w) ∷ []) (refl, refl, omega arith) (amount_form (supply w) all, tt), tt),
    )))
