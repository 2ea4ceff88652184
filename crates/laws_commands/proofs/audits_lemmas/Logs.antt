-- A group adds to the log what its receipt tells, and burns nothing where there is no rate.
use Rattle.std.proofs.Common.{◌≡◌, ℕ, zero, suc, Bool, true, false, cond, Option, Some, None, List, [], ◌∷◌, ◌++◌, map, refl, sym, ap, ◌∙◌, subst, append_assoc}
use Rattle.std.proofs.lemmas.List.{append-nil}
use Rattle.std.specs.Prelude.{◌-◌, ◌+◌, nat_le, nat_lt, unsigned_abs}
use Rattle.std.specs.Str.{bytes_eq}
use Rattle.rules_text.specs.nodes.Tree.{Tree}
use Rattle.rules_data.specs.forms.Spelling.{is_implicit, contract_place, implicit_place, default_name}
use Rattle.rules_data.specs.gas.Prices.{Listed, cost}
use Rattle.rules_data.specs.declared.gas.Kind.TheVariants as price
use Rattle.rules_data.specs.types.Kind as k
use Rattle.rules_data.specs.values.Val.{Val}
use Rattle.rules_data.specs.values.Tickets.{Held}
use Rattle.rules_code.specs.instructions.Arguments.{Found, found, fault}
use Rattle.rules_code.specs.instructions.Same.{same_kind}
use Rattle.rules_code.specs.steps.Changes.{Change}
use Rattle.rules_code.specs.steps.Failure.{Failure}
use Rattle.rules_code.specs.evaluation.Surroundings.{Contract}
use Rattle.rules_code.specs.evaluation.Operations.{Issued, transfer, origination, event, Tally}
use Rattle.rules_code.specs.evaluation.Outcome as code
use Rattle.rules_code.specs.evaluation.Contracts.{hash_in}
use Rattle.rules_code.specs.typing.Scripts.{Script}
use Rattle.rules_code.specs.typing.Nodes.{script}
use Rattle.rules_world.specs.world.Contents.{Originate, Call, Give, Content}
use Rattle.rules_world.specs.world.Receipts.{Effect, GroupFault, Storage, Applied}
use Rattle.rules_world.specs.world.World.{World, contract_at}
use Rattle.rules_world.specs.world.Balances.{with_balance, with_contract_balance, with_less, moved, balance_or_none}
use Rattle.rules_world.specs.world.Growth.{Burn, burn_by, burn_for, burning, burnt_from, growing, size_of, unless_short, with_paid}
use Rattle.rules_world.specs.world.Outcomes.{Setting, Counts, no_counts, Waiting, ordered, issued, Outcome, applied, failed, stuck, charged_by}
use Rattle.rules_world.specs.world.Targets.{Target, Search, met, on_met, search}
use Rattle.rules_world.specs.world.Runs.{Returned, Ended, finished, run_failed, run_stuck, finished_with, unless_twice, with_returned, behind_code, run_of, run_in, with_effect, run, environment_of, has_twice, discarded, issued_with, returned, outcome_of, tally_of}
use Rattle.rules_world.specs.world.Transfers.{Transaction, transfer_effect, as_ticket, with_ticket, account_failure, account_outcome, taken_by_account, with_taken, called, if_covered, with_argument, delivered, transferred}
use Rattle.rules_world.specs.world.Runs as runs
use Rattle.rules_world.specs.world.Arguments.{argument_in, literal_in}
use Rattle.rules_world.specs.world.Gives.{Gift, offered, give_effect, is_short, given_to_account, given_to_contract, if_wanted, handed, with_offered, as_value}
use Rattle.rules_world.specs.world.Holdings.{debited}
use Rattle.rules_world.specs.world.Originations.{Founding, founding_outcome, found_contract, with_storage, with_script, founding_of, unless_delegated}
use Rattle.rules_world.specs.world.Application.{apply, ordered_transaction, issued_transaction}
use Rattle.rules_world.specs.world.Application.{told as event_told}
use Rattle.rules_world.specs.world.Trees.{Walk, completed, broken_off, stuck_walk, behind_one, with_emitted, tree_within, tree}
use Rattle.rules_world.specs.world.Groups.{Turn, all_applied, one_failed, stuck_turn, behind_applied, skipped, with_tree, in_turn, Settled, fees_taken, settled_by, setting_of, unless_refused, refusal_of, all_fees, group}
use Rattle.laws_commands.specs.audits.Changes.{GroupsKeepBurn, KeepsBurn, effect_changes, effects_changes, statuses_changes, receipt_changes, ReceiptsTellChanges}

-- ---- mutez and tickets leave the log and what was burnt

-- the log, the rate and the burn stay
abbrev Stays : World → World → Type 0
Stays w x = (x.log ≡ w.log) × KeepsBurn w x

burn_then : (w x y : World) → KeepsBurn w x → KeepsBurn x y → KeepsBurn w y
burn_then w x y p q = (q.0 ∙ p.0, λ e. q.1 (p.0 ∙ e) ∙ p.1 e)

stays_then : (w x y : World) → Stays w x → Stays x y → Stays w y
stays_then w x y p q = (q.0 ∙ p.0, burn_then w x y p.1 q.1)

contract_log : (w : World) (hash : List ℕ) (mutez : ℕ) (c : Option Contract) → Stays w (with_contract_balance w hash mutez c)
contract_log w hash mutez (Some c) = (refl, (refl, λ e. refl))
contract_log w hash mutez None = (refl, (refl, λ e. refl))

balance_log : (w : World) (place : List ℕ) (mutez : ℕ) → Stays w (with_balance w place mutez)
balance_log w place mutez = by (is_implicit place)
  where
    by : (b : Bool) → Stays w (cond b (Rattle.rules_world.specs.world.Balances.with_account_balance w (Rattle.rules_world.specs.world.World.key_hash_in place) mutez) (with_contract_balance w (hash_in place) mutez (contract_at w (hash_in place))))
    by true = (refl, (refl, λ e. refl))
    by false = contract_log w (hash_in place) mutez (contract_at w (hash_in place))

less_log : (w : World) (place : List ℕ) (mutez : ℕ) → Stays w (with_less w place mutez)
less_log w place mutez = balance_log w place (balance_or_none w place - mutez)

moved_log : (w : World) (from to : List ℕ) (mutez : ℕ) → Stays w (moved w from to mutez)
moved_log w from to mutez =
    stays_then w (with_less w from mutez) (moved w from to mutez) (less_log w from mutez)
    (balance_log (with_less w from mutez) to (balance_or_none (with_less w from mutez) to + mutez))

ticket_log : (w : World) (who : List ℕ) (o : Option Held) → Stays w (with_ticket w who o)
ticket_log w who (Some t) = (refl, (refl, λ e. refl))
ticket_log w who None = (refl, (refl, λ e. refl))

paid_log : (w : World) (hash : List ℕ) (bytes : ℕ) (c : Option Contract) → Stays w (with_paid w hash bytes c)
paid_log w hash bytes (Some c) = (refl, (refl, λ e. refl))
paid_log w hash bytes None = (refl, (refl, λ e. refl))

-- ---- outcomes

-- what was applied adds to the log what its effects tell, and burns nothing where there is no rate
abbrev Telling : World → Outcome → Type 0
Telling w (applied a) = (a.world.log ≡ w.log ++ effects_changes a.effects) × KeepsBurn w a.world
Telling w (failed f) = Unit {0}
Telling w stuck = Unit {0}

telling_from : (w x : World) → Stays w x → (o : Outcome) → Telling x o → Telling w o
telling_from w x e (applied a) h = (h.0 ∙ ap (λ l. l ++ effects_changes a.effects) e.0, burn_then w x a.world e.1 h.1)
telling_from w x e (failed f) h = tt
telling_from w x e stuck h = tt

told_charged : (w : World) (b : Bool) (left : ℕ) (next : ℕ → Outcome) → ((n : ℕ) → Telling w (next n)) → Telling w (charged_by b left next)
told_charged w true left next h = tt
told_charged w false left next h = h left

told_if : (w : World) (b : Bool) (o : Outcome) (f : Failure) → Telling w o → Telling w (cond b o (failed f))
told_if w true o f h = h
told_if w false o f h = tt

told_met : (w : World) (m : Search) (next : Target → Outcome) → ((t : Target) → Telling w (next t)) → Telling w (on_met m next)
told_met w (met t) next h = h t
told_met w _ next h = tt

-- ---- runs

abbrev Ending : World → Ended → Type 0
Ending w (finished f) = (f.world.log ≡ w.log ++ f.changes) × KeepsBurn w f.world
Ending w (run_failed f) = Unit {0}
Ending w run_stuck = Unit {0}

end_issued : (w : World) (hash : List ℕ) (c : Contract) (storage : Val) (changes : List Change) (m : Tally) (o : Option (List Issued)) → Ending w (finished_with w hash c storage changes m o)
end_issued w hash c storage changes m (Some is) = (refl, (refl, λ e. refl))
end_issued w hash c storage changes m None = tt

end_twice : (b : Bool) (w : World) (hash : List ℕ) (c : Contract) (m : Tally) (r : Returned) → Ending w (unless_twice b w hash c m r)
end_twice true w hash c m r = tt
end_twice false w hash c m r = end_issued w hash c r.storage (m.changes ++ discarded r.numbers m.issued) m (issued_with m.issued r.numbers)

end_returned : (w : World) (hash : List ℕ) (c : Contract) (m : Tally) (o : Option Returned) → Ending w (with_returned w hash c m o)
end_returned w hash c m (Some r) = end_twice (has_twice r.numbers) w hash c m r
end_returned w hash c m None = tt

end_code : (w : World) (hash : List ℕ) (c : Contract) (o : code.Outcome) → Ending w (behind_code w hash c o)
end_code w hash c (code.stack A V m) = end_returned w hash c m (returned V)
end_code w hash c (code.failed f) = tt
end_code w hash c code.stuck = tt

told_effect : (w : World) (hash : List ℕ) (effect : List Change → Effect) → ((cs : List Change) → effect_changes (effect cs) ≡ cs) → (e : Ended) → Ending w e → Telling w (with_effect hash effect e)
told_effect w hash effect same (finished f) h =
    (h.0 ∙ ap (λ cs. w.log ++ cs) (sym (append-nil (effect_changes (effect f.changes)) ∙ same f.changes)), h.1)
told_effect w hash effect same (run_failed f) h = tt
told_effect w hash effect same run_stuck h = tt

changes_append : (es fs : List Effect) → effects_changes (es ++ fs) ≡ effects_changes es ++ effects_changes fs
changes_append [] fs = refl
changes_append (e ∷ es) fs = ap (λ cs. effect_changes e ++ cs) (changes_append es fs) ∙ sym (append_assoc (effect_changes e) (effects_changes es) (effects_changes fs))

-- growth adds nothing to the log, and is charged only where there is a rate
told_growing : (s : Setting) (w : World) (hash : List ℕ) (o : Outcome) → Telling w o → Telling w (growing s hash o)
told_growing s w hash (applied a) h = by a.world.rate (contract_at a.world hash) refl
  where
    payer : List ℕ
    payer = implicit_place s.source

    rated : (rate : ℕ) → Some rate ≡ None → ⊥
    rated rate e = absurd cc

    paid : (rate : ℕ) (b : Burn) (short : Bool) → a.world.rate ≡ Some rate → Telling w (unless_short short payer hash b a)
    paid rate b true e = tt
    paid rate b false e =
        let less = less_log a.world payer b.mutez in
        let x = burnt_from a.world payer b.mutez in
        let grown = paid_log x hash b.bytes (contract_at x hash) in (
          grown.0 ∙ less.0 ∙ h.0 ∙ ap (λ cs. w.log ++ cs) (sym (changes_append a.effects (Storage (contract_place hash) b.bytes b.mutez ∷ []) ∙ append-nil (effects_changes a.effects))),
          (grown.1.0 ∙ less.1.0 ∙ h.1.0, λ none. absurd (rated rate (sym e ∙ h.1.0 ∙ none))),
        )

    some : (rate : ℕ) (c : Contract) (larger : Bool) → a.world.rate ≡ Some rate →
        Telling w (burning (cond larger (Some (burn_for rate (size_of c - c.paid))) None) payer hash a)
    some rate c true e = paid rate (burn_for rate (size_of c - c.paid)) (nat_lt (balance_or_none a.world payer) (burn_for rate (size_of c - c.paid)).mutez) e
    some rate c false e = h

    by : (rate : Option ℕ) (c : Option Contract) → a.world.rate ≡ rate → Telling w (burning (burn_by rate c) payer hash a)
    by None c e = h
    by (Some rate) None e = h
    by (Some rate) (Some c) e = some rate c (nat_lt c.paid (size_of c)) e
told_growing s w hash (failed f) h = tt
told_growing s w hash stuck h = tt

told_run : (s : Setting) (w : World) (c : runs.Call) (gas : ℕ) (counts : Counts) (effect : List Change → Effect) → ((cs : List Change) → effect_changes (effect cs) ≡ cs) →
    Telling w (run s w c gas counts effect)
told_run s w c gas counts effect same =
    told_growing s w c.target.hash (with_effect c.target.hash effect (run_in (environment_of s w c) s w c.target c.argument gas counts))
    (told_effect w c.target.hash effect same (run_in (environment_of s w c) s w c.target c.argument gas counts) (by (contract_at w c.target.hash)))
  where
    by : (o : Option Contract) → Ending w (run_of o (environment_of s w c) s w c.target c.argument gas counts)
    by (Some d) = end_code w c.target.hash d (outcome_of (environment_of s w c) s w c.target c.argument d (tally_of gas counts))
    by None = tt

-- ---- transfers

told_account : (o : Option Failure) (w : World) (t : Transaction) (v : Val) (gas : ℕ) (counts : Counts) → Telling w (account_outcome o w t v gas counts)
told_account (Some f) w t v gas counts = tt
told_account None w t v gas counts =
    let x = moved w t.sender t.destination t.amount in
    let who = Rattle.rules_world.specs.world.World.key_hash_in t.destination in
    let all = stays_then w x (with_ticket x who (as_ticket v)) (moved_log w t.sender t.destination t.amount) (ticket_log x who (as_ticket v)) in
    (all.0 ∙ sym (append-nil w.log), all.1)

told_taken : (o : Option Val) (w : World) (t : Transaction) (gas : ℕ) (counts : Counts) → Telling w (with_taken o w t gas counts)
told_taken (Some v) w t gas counts = told_account (account_failure w t v) w t v gas counts
told_taken None w t gas counts = tt

told_covered : (b : Bool) (s : Setting) (w : World) (t : Transaction) (target : Target) (v : Val) (gas : ℕ) (counts : Counts) → Telling w (if_covered b s w t target v gas counts)
told_covered true s w t target v gas counts =
    telling_from w (moved w t.sender t.destination t.amount) (moved_log w t.sender t.destination t.amount) (called s w t target v gas counts)
    (told_run s (moved w t.sender t.destination t.amount) (record { target = target; sender = t.sender; amount = t.amount; argument = v }) gas counts (transfer_effect t v) (λ cs. refl))
told_covered false s w t target v gas counts = tt

told_argument : (q : Found Val) (s : Setting) (w : World) (t : Transaction) (target : Target) (gas : ℕ) (counts : Counts) → Telling w (with_argument q s w t target gas counts)
told_argument (found v) s w t target gas counts = told_covered (nat_le t.amount (balance_or_none w t.sender)) s w t target v gas counts
told_argument (fault l) s w t target gas counts = tt

told_delivered : (b : Bool) (s : Setting) (w : World) (t : Transaction) (gas : ℕ) (counts : Counts) → Telling w (delivered b s w t gas counts)
told_delivered true s w t gas counts = told_if w (bytes_eq t.entrypoint default_name) (with_taken (taken_by_account t.argument) w t gas counts) _ (told_taken (taken_by_account t.argument) w t gas counts)
told_delivered false s w t gas counts =
    told_met w (search w (hash_in t.destination) t.entrypoint) _ (λ target. told_argument (argument_in w target.entry.kind t.argument) s w t target gas counts)

told_transferred : (s : Setting) (w : World) (t : Transaction) (gas : ℕ) (counts : Counts) → Telling w (transferred s w t gas counts)
told_transferred s w t gas counts = told_charged w _ _ _ (λ left. told_delivered (is_implicit t.destination) s w t left counts)

-- ---- gifts

told_to_account : (b : Bool) (s : Setting) (w : World) (g : Gift) (gas : ℕ) (counts : Counts) → Telling w (given_to_account b s w g gas counts)
told_to_account true s w g gas counts = tt
told_to_account false s w g gas counts = (sym (append-nil w.log), (refl, λ e. refl))

told_to_contract : (b : Bool) (s : Setting) (w : World) (g : Gift) (target : Target) (gas : ℕ) (counts : Counts) → Telling w (given_to_contract b s w g target gas counts)
told_to_contract true s w g target gas counts = tt
told_to_contract false s w g target gas counts =
    telling_from w (debited w s.source g.ticket) (refl, (refl, λ e. refl)) (given_to_contract false s w g target gas counts)
    (told_run s (debited w s.source g.ticket) (record { target = target; sender = implicit_place s.source; amount = 0; argument = as_value g.ticket }) gas counts (give_effect s g) (λ cs. refl))

told_wanted : (b : Bool) (s : Setting) (w : World) (g : Gift) (target : Target) (gas : ℕ) (counts : Counts) → Telling w (if_wanted b s w g target gas counts)
told_wanted true s w g target gas counts = told_to_contract (is_short s w g) s w g target gas counts
told_wanted false s w g target gas counts = tt

told_handed : (b : Bool) (s : Setting) (w : World) (g : Gift) (gas : ℕ) (counts : Counts) → Telling w (handed b s w g gas counts)
told_handed true s w g gas counts = told_if w (bytes_eq g.entrypoint default_name) (given_to_account (is_short s w g) s w g gas counts) _ (told_to_account (is_short s w g) s w g gas counts)
told_handed false s w g gas counts =
    told_met w (search w (hash_in g.destination) g.entrypoint) _ (λ target. told_wanted (same_kind target.entry.kind (k.ticket g.ticket.kind)) s w g target gas counts)

told_offered : (o : Option Held) (s : Setting) (w : World) (destination entrypoint : List ℕ) (gas : ℕ) (counts : Counts) → Telling w (with_offered o s w destination entrypoint gas counts)
told_offered (Some t) s w destination entrypoint gas counts =
    told_handed (is_implicit destination) s w (record { ticket = t; destination = destination; entrypoint = entrypoint }) gas counts
told_offered None s w destination entrypoint gas counts = tt

-- ---- originations

told_founding : (b : Bool) (w : World) (f : Founding) (gas : ℕ) (counts : Counts) → Telling w (founding_outcome b w f gas counts)
told_founding true w f gas counts = tt
told_founding false w f gas counts = let less = less_log w f.sender f.balance in (less.0 ∙ sym (append-nil w.log), less.1)

told_found : (s : Setting) (w : World) (f : Founding) (gas : ℕ) (counts : Counts) → Telling w (found_contract s w f gas counts)
told_found s w f gas counts =
    told_growing s w f.hash (founding_outcome (nat_lt (balance_or_none w f.sender) f.balance) w f gas counts)
    (told_founding (nat_lt (balance_or_none w f.sender) f.balance) w f gas counts)

told_storage : (q : Found Val) (s : Setting) (w : World) (balance : ℕ) (t : Tree) (gas : ℕ) (counts : Counts) → Telling w (with_storage q s w balance t gas counts)
told_storage (found v) s w balance t gas counts = told_found s w (founding_of s counts balance t v) gas _
told_storage (fault l) s w balance t gas counts = tt

told_script : (q : Found Script) (s : Setting) (w : World) (balance : ℕ) (t storage : Tree) (gas : ℕ) (counts : Counts) → Telling w (with_script q s w balance t storage gas counts)
told_script (found a) s w balance t storage gas counts = told_storage (literal_in w a.storage storage) s w balance t gas counts
told_script (fault l) s w balance t storage gas counts = tt

told_delegate : (s : Setting) (o : Option (List ℕ)) (w : World) (f : Founding) (gas : ℕ) (counts : Counts) → Telling w (unless_delegated s o w f gas counts)
told_delegate s (Some d) w f gas counts = tt
told_delegate s None w f gas counts = told_found s w f gas counts

-- ---- operations, trees and groups

told_apply : (s : Setting) (w : World) (op : Waiting) (gas : ℕ) (counts : Counts) → Telling w (apply s w op gas counts)
told_apply s w (ordered (Originate balance t storage)) gas counts = told_charged w _ _ _ (λ left. told_script (script t) s w balance t storage left counts)
told_apply s w (ordered (Call amount destination entrypoint argument)) gas counts = told_transferred s w (ordered_transaction s amount destination entrypoint argument) gas counts
told_apply s w (ordered (Give issuer kind content amount destination entrypoint)) gas counts =
    told_charged w _ _ _ (λ left. told_offered (offered (record { issuer = issuer; kind = kind; content = content; amount = amount })) s w destination entrypoint left counts)
told_apply s w (issued sender (transfer argument amount destination)) gas counts = told_transferred s w (issued_transaction sender argument amount destination) gas counts
told_apply s w (issued sender (origination delegate amount t storage hash)) gas counts =
    told_charged w _ _ _ (λ left. told_delegate s delegate w (record { sender = sender; hash = hash; balance = amount; script = t; storage = storage }) left counts)
told_apply s w (issued sender (event tag kind v)) gas counts =
    told_charged w (nat_lt gas (cost s.prices price.Event 0)) (gas - cost s.prices price.Event 0) (λ left. event_told w sender tag kind v left counts) (λ left. (sym (append-nil w.log), (refl, λ e. refl)))

abbrev Walking : World → Walk → Type 0
Walking w (completed last) = (last.world.log ≡ w.log ++ effects_changes last.effects) × KeepsBurn w last.world
Walking w (broken_off count f) = Unit {0}
Walking w stuck_walk = Unit {0}

walk_behind : (w x : World) (es : List Effect) → (x.log ≡ w.log ++ effects_changes es) × KeepsBurn w x → (walk : Walk) → Walking x walk → Walking w (behind_one es walk)
walk_behind w x es e (completed last) h = (
  h.0 ∙ ap (λ l. l ++ effects_changes last.effects) e.0 ∙ append_assoc w.log (effects_changes es) (effects_changes last.effects)
      ∙ ap (λ cs. w.log ++ cs) (sym (changes_append es last.effects)),
  burn_then w x last.world e.1 h.1,
)
walk_behind w x es e (broken_off count f) h = tt
walk_behind w x es e stuck_walk h = tt

walk_emitted : (w : World) (o : Outcome) (waiting : List Waiting) (again : World → List Waiting → ℕ → Counts → Walk) → Telling w o →
    ((x : World) (ops : List Waiting) (gas : ℕ) (counts : Counts) → Walking x (again x ops gas counts)) → Walking w (with_emitted o waiting again)
walk_emitted w (applied a) waiting again h g = walk_behind w a.world a.effects h (again a.world (a.emitted ++ waiting) a.gas a.counts) (g a.world (a.emitted ++ waiting) a.gas a.counts)
walk_emitted w (failed f) waiting again h g = tt
walk_emitted w stuck waiting again h g = tt

walks : (limit : ℕ) (s : Setting) (w : World) (ops : List Waiting) (gas : ℕ) (counts : Counts) → Walking w (tree_within limit s w ops gas counts)
walks zero s w [] gas counts = (sym (append-nil w.log), (refl, λ e. refl))
walks (suc limit) s w [] gas counts = (sym (append-nil w.log), (refl, λ e. refl))
walks zero s w (op ∷ ops) gas counts = tt
walks (suc limit) s w (op ∷ ops) gas counts = walk_emitted w (apply s w op gas counts) ops (tree_within limit s) (told_apply s w op gas counts) (walks limit s)

abbrev Turning : World → Turn → Type 0
Turning w (all_applied x ss) = (x.log ≡ w.log ++ statuses_changes ss) × KeepsBurn w x
Turning w (one_failed ss) = statuses_changes ss ≡ []
Turning w stuck_turn = Unit {0}

skipped_none : (cs : List Content) → statuses_changes (map skipped cs) ≡ []
skipped_none [] = refl
skipped_none (c ∷ cs) = skipped_none cs

turn_behind : (w x : World) (gas : ℕ) (es : List Effect) → (x.log ≡ w.log ++ effects_changes es) × KeepsBurn w x → (t : Turn) → Turning x t → Turning w (behind_applied (Applied gas es) t)
turn_behind w x gas es e (all_applied y ss) h =
    (h.0 ∙ ap (λ l. l ++ statuses_changes ss) e.0 ∙ append_assoc w.log (effects_changes es) (statuses_changes ss), burn_then w x y e.1 h.1)
turn_behind w x gas es e (one_failed ss) h = h
turn_behind w x gas es e stuck_turn h = tt

turn_tree : (w : World) (gas : ℕ) (walk : Walk) (cs : List Content) (again : World → Counts → Turn) → Walking w walk →
    ((x : World) (counts : Counts) → Turning x (again x counts)) → Turning w (with_tree gas walk cs again)
turn_tree w gas (completed last) cs again h g = turn_behind w last.world (gas - last.gas) last.effects h (again last.world last.counts) (g last.world last.counts)
turn_tree w gas (broken_off count f) cs again h g = skipped_none cs
turn_tree w gas stuck_walk cs again h g = tt

turns : (s : Setting) (cs : List Content) (w : World) (counts : Counts) → Turning w (in_turn s cs w counts)
turns s [] w counts = (sym (append-nil w.log), (refl, λ e. refl))
turns s (c ∷ cs) w counts =
    turn_tree w (unsigned_abs c.gas) (tree s w (ordered c.action ∷ []) (unsigned_abs c.gas) counts) cs (in_turn s cs)
    (walks (unsigned_abs c.gas) s w (ordered c.action ∷ []) (unsigned_abs c.gas) counts) (turns s cs)

-- what is settled, if anything
abbrev Settling : World → Option Settled → Type 0
Settling w (Some s) = (s.world.log ≡ w.log ++ receipt_changes s.receipt) × KeepsBurn w s.world
Settling w None = Unit {0}

settle : (w after_fees : World) → Stays w after_fees → (t : Turn) → Turning after_fees t → Settling w (settled_by after_fees t)
settle w f e (all_applied x ss) h = (h.0 ∙ ap (λ l. l ++ statuses_changes ss) e.0, burn_then w f x e.1 h.1)
settle w f e (one_failed ss) h = (e.0 ∙ sym (append-nil w.log) ∙ ap (λ cs. w.log ++ cs) (sym h), e.1)
settle w f e stuck_turn h = tt

settle_unless : (o : Option GroupFault) (prices : Listed) (number : ℕ) (source : List ℕ) (cs : List Content) (w : World) → Settling w (unless_refused o prices number source cs w)
settle_unless (Some why) prices number source cs w = (sym (append-nil w.log), (refl, λ e. refl))
settle_unless None prices number source cs w =
    settle w (fees_taken w source cs) (less_log w (implicit_place source) (all_fees cs)) (in_turn (setting_of prices number source) cs (fees_taken w source cs) no_counts)
    (turns (setting_of prices number source) cs (fees_taken w source cs) no_counts)

settles : (prices : Listed) (number : ℕ) (source : List ℕ) (cs : List Content) (w : World) (settled : Settled) →
    group prices number source cs w ≡ Some settled → Settling w (Some settled)
settles prices number source cs w settled e = subst (Settling w) e (settle_unless (refusal_of w source cs) prices number source cs w)

pub receipts_tell : ReceiptsTellChanges
receipts_tell prices number source cs w settled e = (settles prices number source cs w settled e).0

pub groups_keep_burn : GroupsKeepBurn
groups_keep_burn prices number source cs w settled e = (settles prices number source cs w settled e).1
