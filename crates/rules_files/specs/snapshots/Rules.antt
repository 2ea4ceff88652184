-- Which states are sound. A state has parts, and each part has its rules; the place of a fault is that of the first byte of
-- the earliest part whose rules fail.
use Rattle.std.specs.Prelude.{ℕ, ◌+◌, ◌^◌, ◌-◌, ◌==◌, nat_le, ℤ, pos, ◌+ℤ◌, ◌-ℤ◌, int_le, int_lt, Bool, true, false, ◌&&◌, ◌||◌, not, List, [], ◌∷◌, ◌++◌, length, take, drop, replicate, Option, Some, None, if◌then◌else◌}
use Rattle.std.specs.Int.{w64, from_be_bytes}
use Rattle.std.specs.List.{list_all, list_any, sum_by}
use Rattle.std.specs.Ordering.{nat_cmp, is_lt, int_eq}
use Rattle.std.specs.declared.cmp.Ordering.{Ordering}
use Rattle.std.specs.Cmp.Lexicographic.{slice_cmp}
use Rattle.std.specs.Str.{bytes_eq}
use Rattle.rules_text.specs.nodes.Limits.{most_mutez, most_price, most_level, most_rate}
use Rattle.rules_text.specs.nodes.Tree.{Tree, seq}
use Rattle.rules_code.specs.evaluation.Contracts.{hash_in}
use Rattle.rules_code.specs.evaluation.Surroundings.{Contract}
use Rattle.rules_data.specs.gas.Prices.{Price}
use Rattle.rules_code.specs.instructions.Arguments.{Found, found, fault}
use Rattle.rules_code.specs.instructions.Context as place
use Rattle.rules_code.specs.instructions.Control.{call_kinds}
use Rattle.rules_code.specs.instructions.Same.{same_kind, same_kinds}
use Rattle.rules_code.specs.steps.Changes.{is_alike, identity_of}
use Rattle.rules_data.specs.types.Kind.{Kind}
use Rattle.rules_data.specs.types.Kind as k
use Rattle.rules_code.specs.typing.Nodes.{tree_type, script}
use Rattle.rules_code.specs.typing.Scripts.{Script}
use Rattle.rules_code.specs.typing.Typing.{Typing, goes, fails, bad}
use Rattle.rules_data.specs.values.Val.{Val, Vals, no_val, more_vals, Pairs, no_pair, more_pairs}
use Rattle.rules_data.specs.values.Val as v
use Rattle.rules_data.specs.values.Forms.{has_simple_form, is_ticket_amount}
use Rattle.rules_data.specs.values.Order.{order}
use Rattle.rules_data.specs.values.Tickets.{Identity, tickets}
use Rattle.rules_world.specs.world.World.{Account, identity_order}
use Rattle.rules_world.specs.world.Growth.{size_of}
use Rattle.rules_world.specs.world.Holdings.{held_by_accounts, held_by_contracts}
use Rattle.rules_files.specs.snapshots.State.{State, Total}
use Rattle.rules_files.specs.snapshots.Spelling.{eight, head_spelling, costs_spelling, sums_spelling, account_spelling, contract_spelling, total_spelling}

-- ---- values of types that can be stored

abbrev pub all_values : (Val → Bool) → Vals → Bool
all_values test no_val = true
all_values test (more_vals x xs) = test x && all_values test xs

abbrev pub all_entries : (Val → Bool) → (Val → Bool) → Pairs → Bool
all_entries key value no_pair = true
all_entries key value (more_pairs x y es) = key x && value y && all_entries key value es

-- each is below the next one
abbrev pub is_below_first : Val → Vals → Bool
is_below_first x no_val = true
is_below_first x (more_vals y ys) = is_lt (order x y)

abbrev pub are_increasing : Vals → Bool
are_increasing no_val = true
are_increasing (more_vals x xs) = is_below_first x xs && are_increasing xs

abbrev pub keys : Pairs → Vals
keys no_pair = no_val
keys (more_pairs x y es) = more_vals x (keys es)

abbrev pub is_sequence : Tree → Bool
is_sequence (seq ts) = true
is_sequence t = false

-- a body goes to these types, or to none because it fails
abbrev pub leads : Typing → List Kind → Bool
leads (goes B) C = same_kinds B C
leads fails C = true
leads (bad l) C = false

-- a sequence whose body goes from the argument, above the lambda itself where it is recursive, to the result alone
abbrev pub is_lambda : Kind → Kind → Tree → Bool → Bool
is_lambda a b t recursive = is_sequence t && leads (tree_type t place.lambda (call_kinds a b recursive)) (b ∷ [])

abbrev pub is_stored : Kind → Val → Bool
is_stored (k.simple s) x = has_simple_form s x
is_stored (k.option a) v.nothing = true
is_stored (k.option a) (v.some x) = is_stored a x
is_stored (k.or a b) (v.left x) = is_stored a x
is_stored (k.or a b) (v.right x) = is_stored b x
is_stored (k.pair a b) (v.both x y) = is_stored a x && is_stored b y
is_stored (k.list a) (v.list xs) = all_values (is_stored a) xs
is_stored (k.set a) (v.set xs) = all_values (is_stored a) xs && are_increasing xs
is_stored (k.map a b) (v.table es) = all_entries (is_stored a) (is_stored b) es && are_increasing (keys es)
is_stored (k.big_map a b) (v.big_table es) = all_entries (is_stored a) (is_stored b) es && are_increasing (keys es)
is_stored (k.lambda a b) (v.lambda t recursive) = is_lambda a b t recursive
is_stored (k.ticket a) (v.ticket issuer kind content amount) = same_kind kind a && is_stored a content && is_ticket_amount amount
is_stored a x = false

-- ---- the head

abbrev pub is_standard : Price → Bool
is_standard p = p.base == 1 && p.coefficient == 1

-- whether there are groups, accounts or contracts
abbrev pub has_begun : State → Bool
has_begun s = nat_le 1 s.groups || nat_le 1 (length s.accounts) || nat_le 1 (length s.contracts)

-- level, groups and rate are in their ranges, and the marks are set where something shows what they mark
abbrev pub is_head : State → Bool
is_head s =
    nat_le s.level most_level
    && nat_le s.groups (2 ^ 63 - 1)
    && nat_le s.rate (if s.pays then most_rate else 0)
    && (s.started || not (has_begun s))
    && (s.costs_stood || list_all is_standard s.prices)

-- ---- the costs

abbrev pub is_price : Price → Bool
is_price p = nat_le 1 p.base && nat_le p.base most_price && nat_le p.coefficient most_price

abbrev pub are_costs : State → Bool
are_costs s = list_all is_price s.prices

-- ---- the sums

-- all mutez: balances, fees, and what was burnt for storage
abbrev pub all_mutez : State → ℕ
all_mutez s = sum_by (λ a. a.1.balance) s.accounts + sum_by (λ c. c.1.balance) s.contracts + s.fees + s.storage_burn

abbrev pub are_sums : State → Bool
are_sums s = nat_le (all_mutez s) most_mutez && (s.pays || s.storage_burn == 0)

-- ---- tickets of a state

-- whether the state has a total of this ticket
abbrev pub has_total : State → Identity → Bool
has_total s id = list_any (λ t. is_alike t.identity id) s.tickets

-- how much of a ticket accounts hold and contracts store
abbrev pub amount_there : State → Identity → ℤ
amount_there s id = held_by_accounts id s.accounts +ℤ held_by_contracts id s.contracts

-- the content of a ticket is a value of its type
abbrev pub is_content : Identity → Bool
is_content id = is_stored id.kind id.content

-- ---- accounts; the key hash, the 20 bytes or the ticket of the part before is below

abbrev pub is_above : {A : Type 0} → (A → A → Ordering) → Option A → A → Bool
is_above compare None x = true
is_above compare (Some former) x = is_lt (compare former x)

abbrev pub byte_order : List ℕ → List ℕ → Ordering
byte_order = slice_cmp nat_cmp

-- a holding is positive, of a ticket that has a total, above the one before
abbrev pub is_holding : State → Option Identity → Identity × ℤ → Bool
is_holding s former h = int_lt (pos 0) h.1 && is_content h.0 && has_total s h.0 && is_above identity_order former h.0

abbrev pub are_holdings : State → Option Identity → List (Identity × ℤ) → Bool
are_holdings s former [] = true
are_holdings s former (h ∷ hs) = is_holding s former h && are_holdings s (Some h.0) hs

abbrev pub is_account : State → Option (List ℕ) → List ℕ × Account → Bool
is_account s former a = is_above byte_order former a.0 && are_holdings s None a.1.holdings

-- ---- contracts

-- the number of a group that there was, any four bytes, and zeros
abbrev pub is_hash : State → List ℕ → Bool
is_hash s hash =
    nat_le 1 (from_be_bytes w64 (take 8 hash)) && nat_le (from_be_bytes w64 (take 8 hash)) s.groups && bytes_eq (drop 12 hash) (replicate 8 0)

abbrev pub has_storage : Found Script → Val → Bool
has_storage (found s) x = is_stored s.storage x
has_storage (fault l) x = false

-- a contract has paid for as many bytes as it takes, or for none where storage isn't paid for
abbrev pub is_paid : Bool → Contract → Bool
is_paid true c = nat_le (size_of c) c.paid
is_paid false c = c.paid == 0

abbrev pub is_contract : State → Option (List ℕ) → List ℕ × Contract → Bool
is_contract s former c =
    is_above byte_order former c.0
    && is_hash s c.0
    && has_storage (script c.1.script) c.1.storage
    && is_paid s.pays c.1
    && list_all (λ t. has_total s (identity_of t)) (tickets c.1.storage)

-- ---- tickets

-- issued by a contract of the state, minted at least once, and there as often as it was minted less what was burnt
abbrev pub is_total : State → Option Identity → Total → Bool
is_total s former t =
    is_above identity_order former t.identity
    && is_content t.identity
    && list_any (λ c. bytes_eq c.0 (hash_in t.identity.issuer)) s.contracts
    && is_ticket_amount t.minted
    && int_le (pos 0) t.burnt
    && int_eq (amount_there s t.identity) (t.minted -ℤ t.burnt)

-- ---- the parts in their order

-- the bytes of a part, and whether its rules hold
pub record Part : Type 0 where
  pub text : List ℕ
  pub holds : Bool

abbrev pub part : List ℕ → Bool → Part
part text holds = record { text = text; holds = holds }

-- parts of one kind, each with what its order is told by
abbrev pub parts_of : {A K : Type 0} → (A → List ℕ) → (Option K → A → Bool) → (A → K) → Option K → List A → List Part
parts_of text rules key former [] = []
parts_of text rules key former (x ∷ xs) = part (text x) (rules former x) ∷ parts_of text rules key (Some (key x)) xs

-- a count of parts, for which there is no rule, and these
abbrev pub counted_parts : {A K : Type 0} → (A → List ℕ) → (Option K → A → Bool) → (A → K) → List A → List Part
counted_parts text rules key xs = part (eight (length xs)) true ∷ parts_of text rules key None xs

abbrev pub parts : State → List Part
parts s =
    part (head_spelling s) (is_head s)
    ∷ part (costs_spelling s) (are_costs s)
    ∷ part (sums_spelling s) (are_sums s)
    ∷ counted_parts account_spelling (is_account s) (λ a. a.0) s.accounts
    ++ (counted_parts contract_spelling (is_contract s) (λ c. c.0) s.contracts
    ++ counted_parts total_spelling (is_total s) (λ t. t.identity) s.tickets)

abbrev pub is_sound : State → Bool
is_sound s = list_all (λ p. p.holds) (parts s)

-- the place of the first part whose rules fail, the parts beginning at a place
abbrev pub first_fault : ℕ → List Part → Option ℕ
first_fault place [] = None
first_fault place (p ∷ ps) = if p.holds then first_fault (place + length p.text) ps else Some place
