-- The amounts in receipts are in their ranges.
use Rattle.std.proofs.Common.{◌≡◌, ◌≤◌, ◌+◌, ℕ, zero, suc, Bool, true, false, cond, ◌||◌, Option, Some, None, List, [], ◌∷◌, ◌++◌, map, length, refl, sym, subst, arith}
use Rattle.std.specs.Prelude.{◌-◌, nat_le, nat_lt, unsigned_abs}
use Rattle.std.specs.List.{All, AllByRecursion}
use Rattle.std.specs.Str.{bytes_eq}
use Rattle.std.proofs.lemmas.List.Elements.{All-head, All-tail}
use Rattle.rules_text.specs.nodes.Limits.{most_mutez}
use Rattle.rules_text.specs.nodes.Tree.{Tree}
use Rattle.rules_data.specs.forms.Spelling.{is_implicit, is_contract, is_place, contract_place, implicit_place, default_name}
use Rattle.rules_data.specs.gas.Prices.{Listed, cost}
use Rattle.rules_data.specs.declared.gas.Kind.TheVariants as price
use Rattle.rules_data.specs.types.Attributes.{comparable}
use Rattle.rules_data.specs.types.Kind.{Kind}
use Rattle.rules_data.specs.types.Kind as k
use Rattle.rules_data.specs.types.Reading.{Reading, a_type, bad_type, too_large, type_at}
use Rattle.rules_data.specs.values.Val.{Val}
use Rattle.rules_data.specs.values.Forms.{is_ticket_amount}
use Rattle.rules_data.specs.values.Literals.{Literal, good, bad, read}
use Rattle.rules_data.specs.values.Tickets.{Held}
use Rattle.rules_code.specs.instructions.Arguments.{Found, found, fault}
use Rattle.rules_code.specs.instructions.Same.{same_kind}
use Rattle.rules_code.specs.steps.Changes.{Change}
use Rattle.rules_code.specs.steps.Failure.{Failure}
use Rattle.rules_code.specs.evaluation.Operations.{transfer, origination, event}
use Rattle.rules_code.specs.evaluation.Contracts.{hash_in}
use Rattle.rules_code.specs.evaluation.Surroundings.{Contract}
use Rattle.rules_code.specs.typing.Scripts.{Script}
use Rattle.rules_code.specs.typing.Nodes.{script}
use Rattle.rules_world.specs.world.Contents.{Originate, Call, Give, Content}
use Rattle.rules_world.specs.world.Forms.{IsContent, IsChange}
use Rattle.rules_world.specs.world.Good.{IsGoodWaiting}
use Rattle.rules_world.specs.world.Laws.{IsGroup}
use Rattle.rules_world.specs.world.Receipts.{Effect, GroupFault, Status, Applied, Backtracked, Failed, Skipped, Receipt, Refused, Done}
use Rattle.rules_world.specs.world.Receipts as receipts
use Rattle.rules_world.specs.world.World.{World, contract_at}
use Rattle.rules_world.specs.world.Balances.{balance_or_none, moved}
use Rattle.rules_world.specs.world.Growth.{Burn, burn_of, burning, burnt_from, growing, unless_short, with_paid}
use Rattle.rules_world.specs.world.Outcomes.{Setting, Counts, no_counts, Waiting, ordered, issued, Outcome, applied, failed, stuck, charged_by}
use Rattle.rules_world.specs.world.Targets.{Target, Search, met, on_met, search}
use Rattle.rules_world.specs.world.Runs.{Ended, finished, run_failed, run_stuck, with_effect, run, run_in, environment_of}
use Rattle.rules_world.specs.world.Runs as runs
use Rattle.rules_world.specs.world.Transfers.{Transaction, transfer_effect, account_failure, account_outcome, taken_by_account, with_taken, if_covered, with_argument, delivered, transferred}
use Rattle.rules_world.specs.world.Arguments.{argument_in, literal_in}
use Rattle.rules_world.specs.world.Gives.{Offer, Gift, ticket_with, ticket_by, offered, give_effect, is_short, given_to_account, given_to_contract, if_wanted, handed, with_offered, as_value}
use Rattle.rules_world.specs.world.Holdings.{debited}
use Rattle.rules_world.specs.world.Originations.{Founding, founding_outcome, with_storage, with_script, founding_of, unless_delegated, one_more}
use Rattle.rules_world.specs.world.Application.{apply, ordered_transaction, issued_transaction}
use Rattle.rules_world.specs.world.Application.{told as event_told}
use Rattle.rules_world.specs.world.Trees.{Walk, completed, broken_off, stuck_walk, behind_one, with_emitted, tree_within, tree}
use Rattle.rules_world.specs.world.Groups.{Turn, all_applied, one_failed, stuck_turn, behind_applied, skipped, with_tree, in_turn, Settled, fees_taken, settled_by, setting_of, unless_refused, refusal_of, group}
use Rattle.laws_world.specs.runs.Going.{IsSetting, IsGoing, KeepsGoing}
use Rattle.laws_world.proofs.groups_lemmas.ForCallers.{KeepsWalk, apply_keeps, begins, tree_keeps, fees_going, fees_there, setting}
use Rattle.laws_commands.specs.audits.Receipts.{IsAmount, IsEffect, IsStatus, IsReceipt}
use Rattle.laws_commands.specs.audits.Changes.{effect_changes, effects_changes, status_changes, statuses_changes, receipt_changes}
use Rattle.laws_commands.specs.audits.Amounts.{ReceiptsHaveRanges}
use Rattle.laws_commands.proofs.audits_lemmas.Logs.{receipts_tell}
use Rattle.laws_world.proofs.groups_lemmas.Groups.{groups_keep_good}
use Rattle.laws_commands.proofs.common.Lists.{all_first, all_second, all_append}

-- ---- effects

abbrev pub HasRange : Effect → Type 0
HasRange (receipts.Transfer sender destination amount argument changes) = IsAmount amount
HasRange (receipts.Give sender destination issuer kind content amount changes) = (is_place issuer ≡ true) × (is_ticket_amount amount ≡ true)
HasRange (receipts.Origination sender address amount) = IsAmount amount
HasRange (receipts.Event sender tag kind value) = Unit {0}
HasRange (receipts.Storage address bytes burn) = IsAmount burn

-- the same, where no more than so much is burnt
abbrev IsWithin : ℕ → Effect → Type 0
IsWithin n (receipts.Transfer sender destination amount argument changes) = IsAmount amount
IsWithin n (receipts.Give sender destination issuer kind content amount changes) = (is_place issuer ≡ true) × (is_ticket_amount amount ≡ true)
IsWithin n (receipts.Origination sender address amount) = IsAmount amount
IsWithin n (receipts.Event sender tag kind value) = Unit {0}
IsWithin n (receipts.Storage address bytes burn) = burn ≤ n

within_range : (n : ℕ) (e : Effect) → IsAmount n → IsWithin n e → HasRange e
within_range n (receipts.Transfer sender destination amount argument changes) small h = h
within_range n (receipts.Give sender destination issuer kind content amount changes) small h = h
within_range n (receipts.Origination sender address amount) small h = h
within_range n (receipts.Event sender tag kind value) small h = tt
within_range n (receipts.Storage address bytes burn) small h = omega (arith, small, h)

within_more : (n m : ℕ) (e : Effect) → n ≤ m → IsWithin n e → IsWithin m e
within_more n m (receipts.Transfer sender destination amount argument changes) more h = h
within_more n m (receipts.Give sender destination issuer kind content amount changes) more h = h
within_more n m (receipts.Origination sender address amount) more h = h
within_more n m (receipts.Event sender tag kind value) more h = tt
within_more n m (receipts.Storage address bytes burn) more h = omega (arith, more, h)

all_ranges : (n : ℕ) (es : List Effect) → IsAmount n → AllByRecursion (IsWithin n) es → AllByRecursion HasRange es
all_ranges n [] small h = tt
all_ranges n (e ∷ es) small h = (within_range n e small h.0, all_ranges n es small h.1)

all_more : (n m : ℕ) (es : List Effect) → n ≤ m → AllByRecursion (IsWithin n) es → AllByRecursion (IsWithin m) es
all_more n m [] more h = tt
all_more n m (e ∷ es) more h = (within_more n m e more h.0, all_more n m es more h.1)

abbrev Ranged : Outcome → Type 0
Ranged (applied a) = AllByRecursion (IsWithin a.world.storage_burn) a.effects
Ranged (failed f) = Unit {0}
Ranged stuck = Unit {0}

within : (n : ℕ) → n ≤ most_mutez → IsAmount n
within n h = omega (arith, h)

ranged_charged : (b : Bool) (left : ℕ) (next : ℕ → Outcome) → ((n : ℕ) → Ranged (next n)) → Ranged (charged_by b left next)
ranged_charged true left next h = tt
ranged_charged false left next h = h left

ranged_if : (b : Bool) (o : Outcome) (f : Failure) → Ranged o → Ranged (cond b o (failed f))
ranged_if true o f h = h
ranged_if false o f h = tt

ranged_met : (m : Search) (next : Target → Outcome) → ((t : Target) → Ranged (next t)) → Ranged (on_met m next)
ranged_met (met t) next h = h t
ranged_met _ next h = tt

ranged_effect : (hash : List ℕ) (effect : List Change → Effect) → ((n : ℕ) (cs : List Change) → IsWithin n (effect cs)) → (e : Ended) → Ranged (with_effect hash effect e)
ranged_effect hash effect h (finished f) = (h f.world.storage_burn f.changes, tt)
ranged_effect hash effect h (run_failed f) = tt
ranged_effect hash effect h run_stuck = tt

-- what is burnt is among all that was burnt
paid_burn : (w : World) (hash : List ℕ) (bytes : ℕ) (c : Option Contract) → (with_paid w hash bytes c).storage_burn ≡ w.storage_burn
paid_burn w hash bytes (Some c) = refl
paid_burn w hash bytes None = refl

ranged_growing : (s : Setting) (hash : List ℕ) (o : Outcome) → Ranged o → Ranged (growing s hash o)
ranged_growing s hash (applied a) h = by (burn_of a.world hash)
  where
    payer : List ℕ
    payer = implicit_place s.source

    paid : (b : Burn) (short : Bool) → Ranged (unless_short short payer hash b a)
    paid b true = tt
    paid b false =
        let x = burnt_from a.world payer b.mutez in
        let all : a.world.storage_burn + b.mutez ≡ (with_paid x hash b.bytes (contract_at x hash)).storage_burn = sym (paid_burn x hash b.bytes (contract_at x hash)) in
        let fits : b.mutez ≤ a.world.storage_burn + b.mutez = omega arith in
        let more : a.world.storage_burn ≤ a.world.storage_burn + b.mutez = omega arith in
        subst (λ n. AllByRecursion (IsWithin n) (a.effects ++ receipts.Storage (contract_place hash) b.bytes b.mutez ∷ [])) all
        (all_append (IsWithin (a.world.storage_burn + b.mutez)) a.effects (receipts.Storage (contract_place hash) b.bytes b.mutez ∷ [])
        (all_more a.world.storage_burn (a.world.storage_burn + b.mutez) a.effects more h) (fits, tt))

    by : (b : Option Burn) → Ranged (burning b payer hash a)
    by (Some b) = paid b (nat_lt (balance_or_none a.world payer) b.mutez)
    by None = h
ranged_growing s hash (failed f) h = tt
ranged_growing s hash stuck h = tt

ranged_run : (s : Setting) (w : World) (c : runs.Call) (gas : ℕ) (counts : Counts) (effect : List Change → Effect) → ((n : ℕ) (cs : List Change) → IsWithin n (effect cs)) →
    Ranged (run s w c gas counts effect)
ranged_run s w c gas counts effect h =
    ranged_growing s c.target.hash (with_effect c.target.hash effect (run_in (environment_of s w c) s w c.target c.argument gas counts))
    (ranged_effect c.target.hash effect h (run_in (environment_of s w c) s w c.target c.argument gas counts))

-- ---- transfers

module _ (s : Setting) (w : World) (t : Transaction) (most : IsAmount t.amount) where
  ranged_account : (o : Option Failure) (v : Val) (gas : ℕ) (counts : Counts) → Ranged (account_outcome o w t v gas counts)
  ranged_account (Some f) v gas counts = tt
  ranged_account None v gas counts = (most, tt)

  ranged_taken : (o : Option Val) (gas : ℕ) (counts : Counts) → Ranged (with_taken o w t gas counts)
  ranged_taken (Some v) gas counts = ranged_account (account_failure w t v) v gas counts
  ranged_taken None gas counts = tt

  ranged_covered : (b : Bool) (target : Target) (v : Val) (gas : ℕ) (counts : Counts) → Ranged (if_covered b s w t target v gas counts)
  ranged_covered true target v gas counts = ranged_run s (moved w t.sender t.destination t.amount) (record { target = target; sender = t.sender; amount = t.amount; argument = v }) gas counts (transfer_effect t v) (λ n cs. most)
  ranged_covered false target v gas counts = tt

  ranged_argument : (q : Found Val) (target : Target) (gas : ℕ) (counts : Counts) → Ranged (with_argument q s w t target gas counts)
  ranged_argument (found v) target gas counts = ranged_covered (nat_le t.amount (balance_or_none w t.sender)) target v gas counts
  ranged_argument (fault l) target gas counts = tt

  ranged_delivered : (b : Bool) (gas : ℕ) (counts : Counts) → Ranged (delivered b s w t gas counts)
  ranged_delivered true gas counts = ranged_if (bytes_eq t.entrypoint default_name) (with_taken (taken_by_account t.argument) w t gas counts) _ (ranged_taken (taken_by_account t.argument) gas counts)
  ranged_delivered false gas counts =
      ranged_met (search w (hash_in t.destination) t.entrypoint) _ (λ target. ranged_argument (argument_in w target.entry.kind t.argument) target gas counts)

  ranged_transferred : (gas : ℕ) (counts : Counts) → Ranged (transferred s w t gas counts)
  ranged_transferred gas counts = ranged_charged _ _ _ (λ left. ranged_delivered (is_implicit t.destination) left counts)

-- ---- gifts

abbrev IsOffered : Option Held → Type 0
IsOffered (Some t) = (is_place t.issuer ≡ true) × (is_ticket_amount t.amount ≡ true)
IsOffered None = Unit {0}

offered_with : (o : Offer) (a : Kind) (l : Literal Val) → is_place o.issuer ≡ true → is_ticket_amount o.amount ≡ true → IsOffered (ticket_with o a l)
offered_with o a (good v pending) i n = (i, n)
offered_with o a (bad location) i n = tt

offered_if : (o : Offer) (a : Kind) (b : Bool) → is_place o.issuer ≡ true → is_ticket_amount o.amount ≡ true → IsOffered (cond b (ticket_with o a (read a 0 o.content)) None)
offered_if o a true i n = offered_with o a (read a 0 o.content) i n
offered_if o a false i n = tt

offered_by : (o : Offer) (r : Reading) → is_place o.issuer ≡ true → is_ticket_amount o.amount ≡ true → IsOffered (ticket_by o r)
offered_by o (a_type a) i n = offered_if o a (comparable a) i n
offered_by o (bad_type location) i n = tt
offered_by o too_large i n = tt

module _ (s : Setting) (w : World) where
  ranged_to_account : (b : Bool) (g : Gift) (gas : ℕ) (counts : Counts) → IsOffered (Some g.ticket) → Ranged (given_to_account b s w g gas counts)
  ranged_to_account true g gas counts h = tt
  ranged_to_account false g gas counts h = (h, tt)

  ranged_to_contract : (b : Bool) (g : Gift) (target : Target) (gas : ℕ) (counts : Counts) → IsOffered (Some g.ticket) → Ranged (given_to_contract b s w g target gas counts)
  ranged_to_contract true g target gas counts h = tt
  ranged_to_contract false g target gas counts h = ranged_run s (debited w s.source g.ticket) (record { target = target; sender = implicit_place s.source; amount = 0; argument = as_value g.ticket }) gas counts (give_effect s g) (λ n cs. h)

  ranged_wanted : (b : Bool) (g : Gift) (target : Target) (gas : ℕ) (counts : Counts) → IsOffered (Some g.ticket) → Ranged (if_wanted b s w g target gas counts)
  ranged_wanted true g target gas counts h = ranged_to_contract (is_short s w g) g target gas counts h
  ranged_wanted false g target gas counts h = tt

  ranged_handed : (b : Bool) (g : Gift) (gas : ℕ) (counts : Counts) → IsOffered (Some g.ticket) → Ranged (handed b s w g gas counts)
  ranged_handed true g gas counts h =
      ranged_if (bytes_eq g.entrypoint default_name) (given_to_account (is_short s w g) s w g gas counts) _ (ranged_to_account (is_short s w g) g gas counts h)
  ranged_handed false g gas counts h =
      ranged_met (search w (hash_in g.destination) g.entrypoint) _ (λ target. ranged_wanted (same_kind target.entry.kind (k.ticket g.ticket.kind)) g target gas counts h)

  ranged_offered : (o : Option Held) (destination entrypoint : List ℕ) (gas : ℕ) (counts : Counts) → IsOffered o → Ranged (with_offered o s w destination entrypoint gas counts)
  ranged_offered (Some t) destination entrypoint gas counts h =
      ranged_handed (is_implicit destination) (record { ticket = t; destination = destination; entrypoint = entrypoint }) gas counts h
  ranged_offered None destination entrypoint gas counts h = tt

  -- ---- originations

  ranged_founding : (b : Bool) (f : Founding) (gas : ℕ) (counts : Counts) → IsAmount f.balance → Ranged (founding_outcome b w f gas counts)
  ranged_founding true f gas counts h = tt
  ranged_founding false f gas counts h = (h, tt)

  ranged_storage : (q : Found Val) (balance : ℕ) (t : Tree) (gas : ℕ) (counts : Counts) → IsAmount balance → Ranged (with_storage q s w balance t gas counts)
  ranged_storage (found v) balance t gas counts h =
      ranged_growing s (founding_of s counts balance t v).hash _
      (ranged_founding (nat_lt (balance_or_none w (implicit_place s.source)) balance) (founding_of s counts balance t v) gas (one_more counts) h)
  ranged_storage (fault l) balance t gas counts h = tt

  ranged_script : (q : Found Script) (balance : ℕ) (t storage : Tree) (gas : ℕ) (counts : Counts) → IsAmount balance → Ranged (with_script q s w balance t storage gas counts)
  ranged_script (found a) balance t storage gas counts h = ranged_storage (literal_in w a.storage storage) balance t gas counts h
  ranged_script (fault l) balance t storage gas counts h = tt

  ranged_delegate : (o : Option (List ℕ)) (f : Founding) (gas : ℕ) (counts : Counts) → IsAmount f.balance → Ranged (unless_delegated s o w f gas counts)
  ranged_delegate (Some d) f gas counts h = tt
  ranged_delegate None f gas counts h = ranged_growing s f.hash _ (ranged_founding (nat_lt (balance_or_none w f.sender) f.balance) f gas counts h)

  -- ---- operations

  place_of : (b : List ℕ) → is_contract b ≡ true → is_place b ≡ true
  place_of b h = by (is_implicit b) (is_contract b) h
    where
      by : (x y : Bool) → y ≡ true → (x || y) ≡ true
      by true y h = refl
      by false y h = h

  ranged_apply : (op : Waiting) (gas : ℕ) (counts : Counts) → IsGoodWaiting w op → Ranged (apply s w op gas counts)
  ranged_apply (ordered (Originate balance t storage)) gas counts h =
      ranged_charged _ _ _ (λ left. ranged_script (script t) balance t storage left counts (within balance h.0))
  ranged_apply (ordered (Call amount destination entrypoint argument)) gas counts h =
      ranged_transferred s w (ordered_transaction s amount destination entrypoint argument) (within amount h.0) gas counts
  ranged_apply (ordered (Give issuer kind content amount destination entrypoint)) gas counts h =
      ranged_charged _ _ _ (λ left. ranged_offered (offered (record { issuer = issuer; kind = kind; content = content; amount = amount })) destination entrypoint left counts
      (offered_by (record { issuer = issuer; kind = kind; content = content; amount = amount }) (type_at 0 kind) (place_of issuer h.0) h.1))
  ranged_apply (issued sender (transfer argument amount destination)) gas counts h =
      ranged_transferred s w (issued_transaction sender argument amount destination) (within amount h.1.3) gas counts
  ranged_apply (issued sender (origination delegate amount t storage hash)) gas counts h =
      ranged_charged _ _ _ (λ left. ranged_delegate delegate (record { sender = sender; hash = hash; balance = amount; script = t; storage = storage }) left counts (within amount h.1.1))
  ranged_apply (issued sender (event tag kind v)) gas counts h =
      ranged_charged (nat_lt gas (cost s.prices price.Event 0)) (gas - cost s.prices price.Event 0) (λ left. event_told w sender tag kind v left counts) (λ left. (tt, tt))

-- ---- trees

abbrev RangedWalk : Walk → Type 0
RangedWalk (completed last) = AllByRecursion HasRange last.effects
RangedWalk (broken_off count f) = Unit {0}
RangedWalk stuck_walk = Unit {0}

abbrev pub HasRanges : Status → Type 0
HasRanges (Applied gas es) = AllByRecursion HasRange es
HasRanges Backtracked = Unit {0}
HasRanges (Failed count f) = Unit {0}
HasRanges Skipped = Unit {0}

abbrev RangedTurn : Turn → Type 0
RangedTurn (all_applied w ss) = AllByRecursion HasRanges ss
RangedTurn (one_failed ss) = AllByRecursion HasRanges ss
RangedTurn stuck_turn = Unit {0}

behind_ranged : (es : List Effect) (t : Walk) → AllByRecursion HasRange es → RangedWalk t → RangedWalk (behind_one es t)
behind_ranged es (completed last) h g = all_append HasRange es last.effects h g
behind_ranged es (broken_off count f) h g = tt
behind_ranged es stuck_walk h g = tt

turn_behind : (gas : ℕ) (es : List Effect) (t : Turn) → AllByRecursion HasRange es → RangedTurn t → RangedTurn (behind_applied (Applied gas es) t)
turn_behind gas es (all_applied w ss) h g = (h, g)
turn_behind gas es (one_failed ss) h g = (tt, g)
turn_behind gas es stuck_turn h g = tt

skipped_ranged : (cs : List Content) → AllByRecursion HasRanges (map skipped cs)
skipped_ranged [] = tt
skipped_ranged (c ∷ cs) = (tt, skipped_ranged cs)

module _ (start : World) (s : Setting) (set : IsSetting s) where
  module _ (contents : ℕ) (few : contents ≤ 1000) where
    emitted_ranged : (waiting : List Waiting) (o : Outcome) (again : World → List Waiting → ℕ → Counts → Walk) → Ranged o → KeepsGoing start s contents waiting o →
        ((x : World) (ops : List Waiting) (gas : ℕ) (counts : Counts) → IsGoing start s.group contents x ops counts → RangedWalk (again x ops gas counts)) →
        RangedWalk (with_emitted o waiting again)
    emitted_ranged waiting (applied a) again r g h =
        let mutez = g.good.sound.mutez in
        let small : IsAmount a.world.storage_burn = omega (arith, mutez) in
        behind_ranged a.effects (again a.world (a.emitted ++ waiting) a.gas a.counts) (all_ranges a.world.storage_burn a.effects small r)
        (h a.world (a.emitted ++ waiting) a.gas a.counts g)
    emitted_ranged waiting (failed f) again r g h = tt
    emitted_ranged waiting stuck again r g h = tt

    within_ranged : (limit : ℕ) (w : World) (waiting : List Waiting) (gas : ℕ) (counts : Counts) → IsGoing start s.group contents w waiting counts →
        RangedWalk (tree_within limit s w waiting gas counts)
    within_ranged limit w [] gas counts g = tt
    within_ranged zero w (op ∷ waiting) gas counts g = tt
    within_ranged (suc limit) w (op ∷ waiting) gas counts g =
        emitted_ranged waiting (apply s w op gas counts) (tree_within limit s) (ranged_apply s w op gas counts (All-head (IsGoodWaiting w) op waiting g.good.waits))
        (apply_keeps start s set contents few w op waiting gas counts g) (λ x ops gas counts h. within_ranged limit x ops gas counts h)

    after_tree : (gas : ℕ) (t : Walk) (rest : List Content) (again : World → Counts → Turn) → KeepsWalk start s set contents few t → RangedWalk t →
        ((x : World) (counts : Counts) → IsGoing start s.group contents x [] counts → RangedTurn (again x counts)) → RangedTurn (with_tree gas t rest again)
    after_tree gas (completed last) rest again g r h = turn_behind (gas - last.gas) last.effects (again last.world last.counts) r (h last.world last.counts g)
    after_tree gas (broken_off count f) rest again g r h = (tt, skipped_ranged rest)
    after_tree gas stuck_walk rest again g r h = tt

  turn_ranged : (cs : List Content) (contents : ℕ) (w : World) (counts : Counts) → contents + length cs ≤ 1000 → All IsContent cs →
      IsGoing start s.group contents w [] counts → RangedTurn (in_turn s cs w counts)
  turn_ranged [] contents w counts few all g = tt
  turn_ranged (c ∷ cs) contents w counts few all g =
      let less : suc contents ≤ 1000 = omega arith in
      let going = begins start s set contents w c.action counts (All-head IsContent c cs all).2 g in
      after_tree (suc contents) less (unsigned_abs c.gas) (tree s w (ordered c.action ∷ []) (unsigned_abs c.gas) counts) cs (in_turn s cs)
      (tree_keeps start s set (suc contents) less w (ordered c.action ∷ []) (unsigned_abs c.gas) counts going)
      (within_ranged (suc contents) less (unsigned_abs c.gas) w (ordered c.action ∷ []) (unsigned_abs c.gas) counts going)
      (λ x counts h. turn_ranged cs (suc contents) x counts (omega arith) (All-tail IsContent c cs all) h)

-- ---- groups

abbrev pub HasReceiptRanges : Receipt → Type 0
HasReceiptRanges (Refused why) = Unit {0}
HasReceiptRanges (Done statuses) = AllByRecursion HasRanges statuses

abbrev RangedSettled : Option Settled → Type 0
RangedSettled (Some s) = HasReceiptRanges s.receipt
RangedSettled None = Unit {0}

settled_ranged : (w : World) (t : Turn) → RangedTurn t → RangedSettled (settled_by w t)
settled_ranged w (all_applied x ss) h = h
settled_ranged w (one_failed ss) h = h
settled_ranged w stuck_turn h = tt

unless_ranged : (o : Option GroupFault) (prices : Listed) (number : ℕ) (source : List ℕ) (cs : List Content) (w : World) → IsGroup prices number source cs w → refusal_of w source cs ≡ o →
    RangedSettled (unless_refused o prices number source cs w)
unless_ranged (Some why) prices number source cs w g e = tt
unless_ranged None prices number source cs w g e =
    settled_ranged (fees_taken w source cs) (in_turn (setting_of prices number source) cs (fees_taken w source cs) no_counts)
    (turn_ranged w (setting_of prices number source) (setting prices number source cs w g) cs 0 (fees_taken w source cs) no_counts (let few = g.few in omega arith) g.forms
    (fees_going prices number source cs w g (fees_there w source cs e)))

pub receipts_ranged : (prices : Listed) (number : ℕ) (source : List ℕ) (contents : List Content) (w : World) (settled : Settled) → IsGroup prices number source contents w →
    group prices number source contents w ≡ Some settled → HasReceiptRanges settled.receipt
receipts_ranged prices number source contents w settled g e =
    subst RangedSettled e (unless_ranged (refusal_of w source contents) prices number source contents w g refl)

-- ---- with the changes

each_change : (cs : List Change) → All IsChange cs → AllByRecursion IsChange cs
each_change [] h = tt
each_change (c ∷ cs) h = (All-head IsChange c cs h, each_change cs (All-tail IsChange c cs h))

effect_is : (e : Effect) → HasRange e → AllByRecursion IsChange (effect_changes e) → IsEffect e
effect_is (receipts.Transfer sender destination amount argument changes) h c = (h, c)
effect_is (receipts.Give sender destination issuer kind content amount changes) h c = (h.0, h.1, c)
effect_is (receipts.Origination sender address amount) h c = h
effect_is (receipts.Event sender tag kind value) h c = tt
effect_is (receipts.Storage address bytes burn) h c = h

effects_are : (es : List Effect) → AllByRecursion HasRange es → AllByRecursion IsChange (effects_changes es) → AllByRecursion IsEffect es
effects_are [] h c = tt
effects_are (e ∷ es) h c = (effect_is e h.0 (all_first IsChange (effect_changes e) (effects_changes es) c), effects_are es h.1 (all_second IsChange (effect_changes e) (effects_changes es) c))

status_is : (s : Status) → HasRanges s → AllByRecursion IsChange (status_changes s) → IsStatus s
status_is (Applied gas es) h c = effects_are es h c
status_is Backtracked h c = tt
status_is (Failed count f) h c = tt
status_is Skipped h c = tt

statuses_are : (ss : List Status) → AllByRecursion HasRanges ss → AllByRecursion IsChange (statuses_changes ss) → AllByRecursion IsStatus ss
statuses_are [] h c = tt
statuses_are (s ∷ ss) h c = (status_is s h.0 (all_first IsChange (status_changes s) (statuses_changes ss) c), statuses_are ss h.1 (all_second IsChange (status_changes s) (statuses_changes ss) c))

receipt_is : (r : Receipt) → HasReceiptRanges r → AllByRecursion IsChange (receipt_changes r) → IsReceipt r
receipt_is (Refused why) h c = tt
receipt_is (Done ss) h c = statuses_are ss h c

pub receipts_have_ranges : ReceiptsHaveRanges
receipts_have_ranges prices number source contents w settled g e =
    let log = receipts_tell prices number source contents w settled e in
    let form = (groups_keep_good prices number source contents w settled g e).sound.form in
    let changes = subst (AllByRecursion IsChange) log (each_change settled.world.log form.log) in
    receipt_is settled.receipt (receipts_ranged prices number source contents w settled g e) (all_second IsChange w.log (receipt_changes settled.receipt) changes)
