-- Contracts that are called, and what comes of it.
use Rattle.std.proofs.Common.{◌≡◌, ◌≤◌, ◌<◌, ℕ, ℤ, Bool, true, false, List, [], ◌∷◌, length, map, None, Some, Ok, Err, Result, IfOk, refl, sym, ap, ◌∙◌, subst, is_some, arith}
use Rattle.std.specs.Prelude.{nat_le, option_map}
use Rattle.std.specs.declared.option.Option.{Option}
use Rattle.std.specs.List.{AllByRecursion}
use Rattle.std.proofs.lemmas.Bool.Decides.{nat_tests}
use Rattle.rules_code.specs.evaluation.Surroundings.{Contract as PlainContract}
use Rattle.rules_data.specs.forms.Spelling.{contract_place, spelled_address, is_place}
use Rattle.rules_data.specs.gas.Prices.{Listed}
use Rattle.rules_code.specs.steps.Changes.{Change as PlainChange}
use Rattle.rules_code.specs.steps.Environment.{Environment}
use Rattle.rules_code.specs.steps.Failure.{balance_too_low}
use Rattle.rules_code.specs.typing.Nodes.{script}
use Rattle.rules_data.specs.values.Canonical.{canonical}
use Rattle.rules_data.specs.values.Val.{Val}
use Rattle.rules_world.specs.world.Arguments.{Argument, value}
use Rattle.rules_world.specs.world.Balances.{balance_or_none, moved}
use Rattle.rules_world.specs.world.Forms.{IsWorld}
use Rattle.rules_world.specs.world.Good.{Stores}
use Rattle.rules_world.specs.world.Groups.{setting_of}
use Rattle.rules_world.specs.world.Growth.{growing}
use Rattle.rules_world.specs.world.Outcomes.{Setting, Counts as PlainCounts, Success, Outcome, applied, failed, stuck, issued}
use Rattle.rules_world.specs.world.Receipts.{Effect, Transfer}
use Rattle.rules_world.specs.world.RunLaws.{IsCall}
use Rattle.rules_world.specs.world.Runs.{Call, environment_of, Finished as PlainFinished, Ended, finished, run_failed, run_stuck, run_in, waiting_of, with_effect, run}
use Rattle.rules_world.specs.world.Targets.{Target}
use Rattle.rules_world.specs.world.Transfers.{transfer_effect, if_covered}
use Rattle.rules_world.specs.world.World.{World as PlainWorld, contract_at as plain_contract_at, with_contract}
use Rattle.laws_world.proofs.accounts.ForCallers.{Extends}
use Rattle.laws_world.specs.runs.RunEnds.{IsFinished as IsFinishedRun, EndsWell}
use Rattle.laws_world.proofs.runs.ForCallers.{contract_length, contract_stores, extends_replaced, is_met, orderly, orderly_contract, orderly_log, runs_end_well}
use Rattle.mich_base.specs.View.{tree}
use Rattle.mich_base.specs.declared.node.Node.{Node}
use Rattle.mich_bigmap.specs.Bases.{Bases}
use Rattle.mich_bigmap.specs.Standing.{val_in}
use Rattle.mich_forms.specs.Spelled.{place_bytes}
use Rattle.mich_forms.specs.declared.places.Place.{Place}
use Rattle.mich_forms.specs.declared.places.Place.TheVariants as place
use Rattle.mich_gas.specs.View.{listed}
use Rattle.mich_gas.specs.declared.costs.Costs.{Costs}
use Rattle.mich_ops.specs.declared.issued.Issued.{Issued}
use Rattle.mich_state.specs.declared.state.Counts.{Counts}
use Rattle.mich_machine.specs.Calls.{Calls, counts_of, issued_in, run_of, setting}
use Rattle.mich_machine.specs.Calls as machine
use Rattle.mich_machine.specs.declared.running.Finished.{Finished}
use Rattle.mich_machine.specs.declared.running.RunError.TheVariants as errors
use Rattle.mich_ops.specs.Told.{told}
use Rattle.mich_ops.specs.View.{failure, effect as effect_of, change as change_of}
use Rattle.mich_ops.specs.declared.failure.Failure.{Failure as Why}
use Rattle.mich_ops.specs.declared.receipt.Effect.TheVariants as effects
use Rattle.mich_world.proofs.simulation_lemmas.ForCallers.{contracts_agree, length_is}
use Rattle.laws_data.proofs.forms_lemmas.ForCallers.{contract_is}
use Rattle.mich_step.specs.Views.{environment}
use Rattle.mich_step.specs.declared.environment.Env.{Env}
use Rattle.mich_term.specs.declared.ticket.Change.{Change}
use Rattle.mich_term.specs.declared.ticket.Change.TheVariants as made
use Rattle.mich_term.specs.declared.value.Value.{Value}
use Rattle.mich_tickets.specs.Effects.{change}
use Rattle.mich_world.specs.Holders.{contract_at, may_receive, balance_or_none as balance_in, moved as moved_in}
use Rattle.mich_world.specs.Standing.{plain, StandsFor}
use Rattle.mich_world.specs.World.{World, with_funds}
use Rattle.mich_world.specs.declared.contract.Contract.{Contract}
use Rattle.mich_world.proofs.ForCallers.{balance_or_none_is, moves_agree}
use Rattle.mich_operations.specs.Calls.{before_growth, call_of, covered, IsReady, IsDue}
use Rattle.mich_operations.specs.Going.{EndsAs, IsApplied, KeepsContracts, WithMemory, grown, issued_by}
use Rattle.mich_operations.specs.Growths.{IsGrowing}
use Rattle.mich_operations.specs.Transfers.{transaction}
use Rattle.mich_operations.specs.declared.applied.Applied.{Applied}
use Rattle.mich_operations.specs.declared.applied.ApplyError.{ApplyError}
use Rattle.mich_operations.specs.declared.applied.ApplyError.TheVariants.{Failed, Memory}
use Rattle.mich_operations.proofs.Growths.{growing_stops}
use Rattle.mich_operations.proofs.Paying.{ends_along, ends_failed}

-- ---- contracts that are there

some_mapped : (f : Contract → PlainContract) (o : Option Contract) → is_some (option_map f o) ≡ is_some o
some_mapped f None = refl
some_mapped f (Some c) = refl

some_one : (o : Option PlainContract) → is_some o ≡ true → (c : PlainContract) × (o ≡ Some c)
some_one (Some c) h = (c, refl)
some_one None h = absurd cc

-- one that is there is there in the world that a world stands for
pub there_in : (v : World) (w : PlainWorld) (hash : List ℕ) → StandsFor v w → is_some (plain_contract_at w hash) ≡ is_some (contract_at v.funds.present hash)
there_in v w hash s = ap is_some (contracts_agree v w hash s) ∙ some_mapped (plain v.store.bases.present) (contract_at v.funds.present hash)

pub twenty_of : (v : World) (w : PlainWorld) (hash : List ℕ) → StandsFor v w → IsWorld w → is_some (contract_at v.funds.present hash) ≡ true → length hash ≡ 20
twenty_of v w hash s form there =
    let c = some_one (plain_contract_at w hash) (there_in v w hash s ∙ there) in
    length_is w hash c.0 form c.1

-- ---- what surrounds one

pub surrounds : (v : World) (w : PlainWorld) (prices : Listed) (group : ℕ) (source : List ℕ) (from : Place) (to : List ℕ) (amount : ℕ) (t : Target) (x : Val)
    (chain : List ℕ) (level : ℕ) (now : ℤ) (balance : ℕ) → StandsFor v w → t.hash ≡ to → length to ≡ 20 → chain ≡ v.chain → level ≡ v.level → now ≡ v.moment →
    balance ≡ balance_in v.funds.present (place.Contract to) →
    environment (record { chain = chain; level = level; now = now; source = source; sender = from; me = to; amount = amount; balance = balance })
    ≡ environment_of (setting_of prices group source) w (call_of from amount t x)
surrounds v w prices group source from to amount t x chain level now balance s hash twenty is_chain is_level is_now is_balance = (λ i. record {
  chain = (is_chain ∙ sym s.chain) i;
  level = (is_level ∙ sym s.level) i;
  moment = (is_now ∙ sym s.moment) i;
  source = source;
  sender = place_bytes from;
  own = sym hash i;
  amount = amount;
  balance = (is_balance
      ∙ balance_or_none_is v.funds.present v.store.bases.present v.ledger.books.present w (place.Contract to) s.those (contract_is to twenty)
      ∙ ap (λ (h : List ℕ). balance_or_none w (contract_place h)) (sym hash)) i;
})

-- ---- one that runs

module _ (v : World) (w : PlainWorld) (costs : Costs) (counts : Counts) (source : List ℕ) (from : Place) (to name : List ℕ) (amount : ℕ) (argument : Value) (t : Target) (env : Env)
    (ready : IsReady v w (setting_of (listed costs) counts.group source) (counts_of counts) from to name amount argument t) where
  abbrev s : Setting
  s = setting_of (listed costs) counts.group source

  abbrev x : Val
  x = val_in v.store.bases.present argument

  abbrev call : Call
  call = call_of from amount t x

  module _ (around : environment env ≡ environment_of s w call) (src : env.source ≡ source) where
    -- it may run
    pub ready_calls : Calls v w (listed costs) counts to name argument env t
    ready_calls = record {
      stands = ready.stands;
      hash = ready.hash;
      named = ready.named;
      call = subst (λ (e : Environment). IsCall e (setting (listed costs) counts env) w t x (counts_of counts)) (sym around)
          (subst (λ (who : List ℕ). IsCall (environment_of s w call) (setting_of (listed costs) counts.group who) w t x (counts_of counts)) (sym src) ready.call);
    }

    run_is : (gas : ℕ) → run_of v w (listed costs) counts gas argument env t ≡ run_in (environment_of s w call) s w t x gas (counts_of counts)
    run_is gas = (λ i. run_in (around i) (setting_of (listed costs) counts.group (src i)) w t x gas (counts_of counts))

    -- contracts that were there are there
    kept_by : (gas : ℕ) (f : PlainFinished) → run_in (environment_of s w call) s w t x gas (counts_of counts) ≡ finished f → (z : World) → StandsFor z f.world → KeepsContracts v z
    kept_by gas f end z stands hash there =
        let is : IsFinishedRun s w t x (counts_of counts) f =
        subst (EndsWell s w t x (counts_of counts)) end (runs_end_well (environment_of s w call) s w t x gas (counts_of counts) ready.call) in
        let more : Extends (plain_contract_at w) (plain_contract_at f.world) =
        subst (λ (y : PlainWorld). Extends (plain_contract_at w) (plain_contract_at y)) (sym is.world) (extends_replaced w t.hash (record is.before { storage = is.storage }) is.before is.there refl) in
        let c = some_one (plain_contract_at w hash) (there_in v w hash ready.stands ∙ there) in
        let d = more hash c.0 c.1 in
        sym (there_in z f.world hash stands) ∙ ap is_some d.1

    pub keeps_contracts : (gas : ℕ) (z : World) (new : Counts) (left : ℕ) (done : Finished) →
        machine.IsFinished (run_of v w (listed costs) counts gas argument env t) z left counts new done → KeepsContracts v z
    keeps_contracts gas z new left done h = kept_by gas _ (sym (run_is gas) ∙ h.same) z h.stands

    -- ---- its end

    emits : (bs : Bases) (xs : List Issued) → waiting_of (contract_place t.hash) (map (issued_in bs) xs) ≡ map (issued_by bs to) xs
    emits bs [] = refl
    emits bs (i ∷ xs) = (λ j. issued (contract_place (ready.hash j)) (issued_in bs i).operation ∷ emits bs xs j)

    same_change : (c : Change) → change c ≡ change_of c
    same_change (made.Minted id n) = refl
    same_change (made.Burnt id n) = refl

    same_changes : (cs : List Change) → map change cs ≡ map change_of cs
    same_changes [] = refl
    same_changes (c ∷ cs) = (λ i. same_change c i ∷ same_changes cs i)

    pub ran : (effect : List PlainChange → Effect) (gas left : ℕ) (z : World) (new : Counts) (done : Finished) (a : Applied) →
        effect_of a.effect ≡ effect (map change_of done.changes) → a.by ≡ to → a.emitted ≡ done.returned → a.growth ≡ None →
        is_some (contract_at v.funds.present to) ≡ true →
        machine.IsFinished (run_of v w (listed costs) counts gas argument env t) z left counts new done →
        EndsAs (before_growth s w call gas (counts_of counts) effect) z left counts new (Ok a)
    ran effect gas left z new done a did by emitted alone there h = record {
      world = h.world;
      stands = h.stands;
      same = ap (with_effect t.hash effect) (sym (run_is gas) ∙ h.same)
          ∙ (λ i. applied (record {
            world = h.world;
            emitted = (emits z.store.bases.present done.returned ∙ (λ j. map (issued_by z.store.bases.present (sym by j)) (sym emitted j))) i;
            effects = (ap effect (same_changes done.changes) ∙ sym did) i ∷ grown (sym alone i);
            gas = left;
            counts = counts_of new;
          }));
      group = h.group;
      handed = subst (AllByRecursion (machine.IsHanded z.store.bases.present)) (sym emitted) h.handed;
      there = λ _. subst (λ (hash : List ℕ). is_some (contract_at z.funds.present hash) ≡ true) (sym by) (keeps_contracts gas z new left done h to there);
    }

    pub ran_failed : (effect : List PlainChange → Effect) (gas left : ℕ) (z : World) (new : Counts) (f : Why) →
        machine.EndsAs (run_of v w (listed costs) counts gas argument env t) z left counts new (Err (errors.Failed f)) →
        EndsAs (before_growth s w call gas (counts_of counts) effect) z left counts new (Err (Failed f))
    ran_failed effect gas left z new f h = by (run_in (environment_of s w call) s w t x gas (counts_of counts)) (subst (λ (o : Ended). machine.EndsAs o z left counts new (Err (errors.Failed f))) (run_is gas) h)
      where
        by : (o : Ended) → machine.EndsAs o z left counts new (Err (errors.Failed f)) → EndsAs (with_effect t.hash effect o) z left counts new (Err (Failed f))
        by (run_failed why) g = g
        by (finished e) g = absurd g
        by run_stuck g = absurd g

-- ---- one that ran, with the growth behind it

-- the world behind an operation that was applied
abbrev world_in : PlainWorld → Outcome → PlainWorld
world_in w (applied a) = a.world
world_in w (failed why) = w
world_in w stuck = w

module _ (w : PlainWorld) (s : Setting) (c : Call) (counts : PlainCounts) (called : IsCall (environment_of s w c) s w c.target c.argument counts) where
  finished_form : (f : PlainFinished) → IsFinishedRun s w c.target c.argument counts f → IsWorld f.world
  finished_form f is =
      let t = c.target in
      let o = orderly (environment_of s w c) s w t c.argument counts called in
      let m = is_met (environment_of s w c) s w t c.argument counts called in
      let d : PlainContract = record is.before { storage = is.storage } in
      let one : Some m.contract ≡ Some is.before = sym m.there ∙ is.there in
      let same : m.contract ≡ is.before = cc in
      let stores : Stores w d.script d.storage
      = (t.script, ap (λ (k : PlainContract). script k.script) (sym same) ∙ m.read, (contract_stores w o t.hash is.before is.there).2, is.fits) in
      let more = extends_replaced w t.hash d is.before is.there refl in
      subst IsWorld (sym is.world)
      (orderly_log (with_contract w t.hash d) f.changes
      (orderly_contract w t.hash d o (contract_length w o t.hash is.before is.there) more stores) is.changes).form

  form_behind : (effect : List PlainChange → Effect) (gas : ℕ) (b : Success) → before_growth s w c gas counts effect ≡ applied b → IsWorld b.world
  form_behind effect gas b e =
      by (run_in (environment_of s w c) s w c.target c.argument gas counts)
      (runs_end_well (environment_of s w c) s w c.target c.argument gas counts called) e
    where
      by : (r : Ended) → EndsWell s w c.target c.argument counts r → with_effect c.target.hash effect r ≡ applied b → IsWorld b.world
      by (finished f) h e = subst IsWorld (ap (world_in w) e) (finished_form f h)
      by (run_failed why) h e = absurd cc
      by run_stuck h e = absurd h

module _ (v : World) (w : PlainWorld) (s : Setting) (counts : PlainCounts) (from : Place) (to name : List ℕ) (amount : ℕ) (argument : Value) (t : Target)
    (ready : IsReady v w s counts from to name amount argument t) where
  abbrev go : Call
  go = call_of from amount t (val_in v.store.bases.present argument)

  pub grows_on : (effect : List PlainChange → Effect) (gas left : ℕ) (z : World) (old new : Counts) (a : Applied) →
      IsApplied (before_growth s w go gas counts effect) z left old new a → IsGrowing (before_growth s w go gas counts effect) z s.source left old new a
  grows_on effect gas left z old new a h = record {
    applied = h;
    form = form_behind w s go counts ready.call effect gas _ h.same;
    key = ready.call.environment.source;
  }

  pub runs_on : (effect : List PlainChange → Effect) (gas left : ℕ) (y : World) (old new : Counts) (by : List ℕ) (r : Result Applied ApplyError) → by ≡ to →
      EndsAs (growing s by (before_growth s w go gas counts effect)) y left old new r → EndsAs (run s w go gas counts effect) y left old new r
  runs_on effect gas left y old new by r is h =
      subst (λ (q : List ℕ). EndsAs (growing s q (before_growth s w go gas counts effect)) y left old new r) (is ∙ sym ready.hash) h

  pub runs_not : (effect : List PlainChange → Effect) (gas left : ℕ) (y : World) (old new : Counts) (e : ApplyError) →
      EndsAs (before_growth s w go gas counts effect) y left old new (Err e) → EndsAs (run s w go gas counts effect) y left old new (Err e)
  runs_not effect gas left y old new e h = growing_stops s t.hash (before_growth s w go gas counts effect) y left old new e h

-- what a transfer to a contract did
pub transfer_told : (from : Place) (to name : List ℕ) (amount : ℕ) (x : Val) (literal : Node) (changes : List Change) → tree literal ≡ canonical x →
    effect_of (effects.Transfer from (record { place = place.Contract to; entrypoint = name }) amount literal changes)
    ≡ transfer_effect (transaction from (place.Contract to) name amount (value x)) x (map change_of changes)
transfer_told from to name amount x literal changes printed =
    ap (λ n. Transfer (place_bytes from) (spelled_address (contract_place to) name) amount n (map change_of changes)) printed

pub ends_memory : (o : Outcome) (v : World) (gas : ℕ) (old new : Counts) → EndsAs o v gas old new (Err Memory)
ends_memory (applied a) v gas old new = tt
ends_memory (failed why) v gas old new = tt
ends_memory stuck v gas old new = tt

pub with_memory : {A B : Type 0} (r : Result Applied ApplyError) → (A → B) → WithMemory r A → WithMemory r B
with_memory (Ok a) g h = g h
with_memory (Err (Failed f)) g h = g h
with_memory (Err Memory) g h = h

pub memory_either : {A : Type 0} (r : Result Applied ApplyError) → A → WithMemory r A
memory_either (Ok a) h = h
memory_either (Err (Failed f)) h = h
memory_either (Err Memory) h = tt

pub contracts_then : (u v w : World) (r : Result Applied ApplyError) → KeepsContracts u v → IfOk r (λ _. KeepsContracts v w) → IfOk r (λ _. KeepsContracts u w)
contracts_then u v w (Ok a) g h = λ hash there. h hash (g hash there)
contracts_then u v w (Err e) g h = tt

-- ---- mutez that go to one

at_most : (n m : ℕ) → n ≤ m → nat_le n m ≡ true
at_most n m h = grind (arith, nat_tests)

not_at_most : (n m : ℕ) → m < n → nat_le n m ≡ false
not_at_most n m h = grind (arith, nat_tests)

module _ (v : World) (w : PlainWorld) (s : Setting) (counts : PlainCounts) (from : Place) (to name : List ℕ) (amount : ℕ) (argument : Value) (t : Target)
    (due : IsDue v w s counts from to name amount argument t) where
  abbrev bs : Bases
  bs = v.store.bases.present

  balance_here : balance_in v.funds.present from ≡ balance_or_none w (place_bytes from)
  balance_here = balance_or_none_is v.funds.present bs v.ledger.books.present w from due.stands.those due.sender

  receiver : is_place (contract_place to) ≡ true
  receiver = contract_is to (twenty_of v w to due.stands due.form due.there)

  module _ (payer : may_receive v.funds.present from ≡ true) (enough : amount ≤ balance_in v.funds.present from) (z : World) (same : z ≡ with_funds v z.funds)
      (moves : z.funds.present ≡ moved_in v.funds.present from (place.Contract to) amount) where
    pub same_bases : z.store.bases.present ≡ bs
    same_bases = ap (λ (y : World). y.store.bases.present) same

    pub due_ready : IsReady z (moved w (place_bytes from) (contract_place to) amount) s counts from to name amount argument t
    due_ready = record {
      stands = moves_agree v z w from (place.Contract to) amount due.stands due.form due.sender receiver payer due.there same moves;
      hash = due.hash;
      named = due.named;
      call = subst (λ (cs : Bases). IsCall (environment_of s (moved w (place_bytes from) (contract_place to) amount) (call_of from amount t (val_in cs argument))) s
          (moved w (place_bytes from) (contract_place to) amount) t (val_in cs argument) counts) (sym same_bases)
          (due.call (subst (λ (n : ℕ). amount ≤ n) balance_here enough));
    }

    pub covers : (a : Argument) (gas left : ℕ) (old new : Counts) (y : World) (r : Result Applied ApplyError) →
        EndsAs (run s (moved w (place_bytes from) (contract_place to) amount) (call_of from amount t (val_in z.store.bases.present argument)) gas (counts_of old)
        (transfer_effect (transaction from (place.Contract to) name amount (value (val_in z.store.bases.present argument))) (val_in z.store.bases.present argument))) y left old new r →
        EndsAs (covered s w (transaction from (place.Contract to) name amount a) t (val_in bs argument) gas (counts_of old)) y left old new r
    covers a gas left old new y r h =
        ends_along _ _ y left old new r
        (ap (λ (b : Bool). if_covered b s w (transaction from (place.Contract to) name amount a) t (val_in bs argument) gas (counts_of old))
        (at_most amount (balance_or_none w (place_bytes from)) (subst (λ (n : ℕ). amount ≤ n) balance_here enough)))
        (subst (λ (cs : Bases). EndsAs (run s (moved w (place_bytes from) (contract_place to) amount) (call_of from amount t (val_in cs argument)) gas (counts_of old)
        (transfer_effect (transaction from (place.Contract to) name amount (value (val_in cs argument))) (val_in cs argument))) y left old new r) same_bases h)

  pub not_covered : (a : Argument) (gas left : ℕ) (old new : Counts) (y : World) (f : Why) → balance_in v.funds.present from < amount → failure f ≡ told balance_too_low →
      EndsAs (covered s w (transaction from (place.Contract to) name amount a) t (val_in bs argument) gas (counts_of old)) y left old new (Err (Failed f))
  not_covered a gas left old new y f low h =
      ends_failed _ y left old new f balance_too_low
      (ap (λ (b : Bool). if_covered b s w (transaction from (place.Contract to) name amount a) t (val_in bs argument) gas (counts_of old))
      (not_at_most amount (balance_or_none w (place_bytes from)) (subst (λ (n : ℕ). n < amount) balance_here low)))
      h
