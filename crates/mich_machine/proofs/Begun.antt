-- Where the code of a contract begins, and that it ends as the definitions say.
use Rattle.std.proofs.Common.{rules, ◌≡◌, ℕ, ℤ, pos, ◌-ℤ◌, Bool, true, false, cond, List, [], ◌∷◌, map, Some, None, Ok, Err, Result, refl, sym, ap, ◌∙◌, subst, arith, is_some}
use Rattle.std.specs.Prelude.{◌+ℤ◌, option_map}
use Rattle.std.specs.declared.option.Option.{Option}
use Rattle.std.specs.BTreeMap.{is_at}
use Rattle.std.specs.List.{AllByRecursion}
use Rattle.std.specs.Map.{lookup}
use Rattle.std.proofs.lemmas.Int.{ints}
use Rattle.rules_text.specs.nodes.Tree.{Tree, seq}
use Rattle.rules_data.specs.types.Entrypoints.{Entry, find_entry}
use Rattle.rules_data.specs.types.Kind.{Kind}
use Rattle.rules_code.specs.instructions.Arguments.{found}
use Rattle.rules_code.specs.typing.Nodes.{script}
use Rattle.rules_code.specs.typing.Scripts.{Script as PlainScript}
use Rattle.rules_data.specs.values.Val.{Val, both}
use Rattle.rules_code.specs.steps.Environment.{Environment}
use Rattle.rules_code.specs.steps.Changes.{Change}
use Rattle.rules_code.specs.steps.Failure.{Failure}
use Rattle.rules_code.specs.evaluation.Evaluation.{eval}
use Rattle.rules_code.specs.evaluation.Loops.{ending}
use Rattle.rules_code.specs.evaluation.Outcome.{Outcome, stack, failed, only_if}
use Rattle.rules_code.specs.evaluation.Surroundings.{Contract as PlainContract}
use Rattle.rules_world.specs.world.Outcomes.{Setting}
use Rattle.rules_world.specs.world.Runs.{surroundings_of, tally_of, type_before, type_after, value_before, returned, with_returned, behind_code, run_of, Ended, finished, run_failed, run_stuck, run_in}
use Rattle.rules_world.specs.world.Targets.{Target, wrapped}
use Rattle.rules_world.specs.world.World.{World as PlainWorld, contract_at as plain_contract_at}
use Rattle.rules_world.specs.world.Holdings.{burnt_ever}
use Rattle.laws_data.proofs.types_lemmas.ForCallers.{same_kinds_refl}
use Rattle.laws_world.specs.operations.NewOperations.{AreInTurn, Advances, AdvancesTo}
use Rattle.laws_world.proofs.operations.ForCallers.{operations_are_new}
use Rattle.laws_world.proofs.runs.ForCallers.{IsMet, is_met}
use Rattle.mich_frames.proofs.called.ForCallers.{call_opens}
use Rattle.mich_store_steps.specs.seen.Sights.{sight}
use Rattle.mich_store_steps.proofs.seen.ForCallers.{sound_of, sound_seen, sight_shows}
use Rattle.mich_base.specs.TypeView.{kind}
use Rattle.mich_bigmap.specs.Bases.{Bases}
use Rattle.mich_bigmap.specs.Layers.{HasBases}
use Rattle.mich_bigmap.specs.Standing.{val_in}
use Rattle.mich_frames.specs.Around.{Around}
use Rattle.mich_frames.specs.Around as frames
use Rattle.mich_frames.specs.Stands.{OpensAt}
use Rattle.mich_gas.specs.View.{listed}
use Rattle.mich_gas.specs.declared.costs.Costs.{Costs}
use Rattle.mich_instr.specs.Code as made
use Rattle.mich_instr.specs.Scripts.{IsTypedScript}
use Rattle.mich_instr.specs.Typed.{IsScript, is_script}
use Rattle.mich_instr.specs.View.{script_node, script_code, codes, view_codes}
use Rattle.mich_instr.specs.declared.instr.Instr.{Instr}
use Rattle.mich_instr.specs.declared.instr.Script.{Script, out-Script}
use Rattle.mich_instr.specs.declared.instr.Script as scripts
use Rattle.mich_interpreter.specs.Begins.{Opens}
use Rattle.mich_interpreter.specs.Ends.{KeepsState, failure}
use Rattle.mich_interpreter.specs.Sees.{Sees}
use Rattle.mich_interpreter.specs.View.{Beyond, tops, around, tally}
use Rattle.mich_interpreter.specs.declared.act.Failed.{Failed}
use Rattle.mich_state.specs.declared.state.Counts.{Counts}
use Rattle.mich_state.specs.declared.state.State.{State}
use Rattle.mich_stack.specs.Views.{Sight, seen}
use Rattle.mich_step.specs.Views.{environment}
use Rattle.mich_step.specs.declared.environment.Env.{Env}
use Rattle.mich_term.specs.Layers.{AreFormed}
use Rattle.mich_term.specs.declared.value.Value.{Value}
use Rattle.mich_tickets.specs.Books.{State as Ledger}
use Rattle.mich_tickets.specs.Effects.{change, Adds}
use Rattle.mich_world.specs.Holders.{by_bytes, contract_at}
use Rattle.mich_world.specs.Standing.{plain}
use Rattle.mich_world.specs.Storages.{IsStored}
use Rattle.mich_world.specs.World.{World, with_ledger}
use Rattle.mich_world.specs.declared.contract.Contract.{Contract}
use Rattle.mich_world.proofs.simulation_lemmas.ForCallers.{ledgers_run, contracts_agree}
use Rattle.mich_machine.specs.Begins.{entries_of, code_of}
use Rattle.mich_machine.specs.Calls.{IsHosting, Calls, setting, counts_of, EndsAs, WithMemory}
use Rattle.mich_machine.specs.Endings.{IsEnding}
use Rattle.mich_machine.specs.Ends.{FailsSo, EndsSo}
use Rattle.mich_machine.specs.declared.running.Finished.{Finished}
use Rattle.mich_machine.specs.declared.running.RunError.{RunError}
use Rattle.mich_machine.specs.declared.running.RunError.TheVariants as errors
use Rattle.mich_ops.specs.Told.{told}
use Rattle.mich_ops.specs.View as failures
use Rattle.mich_ops.specs.declared.failure.Failure.{Failure as Why}

-- ---- scripts

abbrev views_of : Script → made.ViewCodes
views_of s = view_codes (out-Script s).views

script_is : (s : Script) → script_code s ≡ made.script (script_node s) (kind (out-Script s).parameter.ty) (entries_of s) (kind (out-Script s).storage) (codes (code_of s)) (views_of s)
script_is s = search (rules, scripts.the_lemmas)

pub typed_is : (s : Script) → IsTypedScript s →
    IsScript (script_node s) (made.script (script_node s) (kind (out-Script s).parameter.ty) (entries_of s) (kind (out-Script s).storage) (codes (code_of s)) (views_of s))
typed_is s h = subst (IsScript (script_node s)) (script_is s) h

pub found_one : (x y : PlainScript) → found x ≡ found y → x ≡ y
found_one x y e = cc

read_entries : (n : Tree) (p g : Kind) (es : List Entry) (is : made.Codes) (vs : made.ViewCodes) (t : PlainScript) → IsScript n (made.script n p es g is vs) → script n ≡ found t → t.entries ≡ es
read_entries n p g es is vs t h read = by n n p g es is vs h read
  where
    by : (n m : Tree) (p g : Kind) (es : List Entry) (is : made.Codes) (vs : made.ViewCodes) → IsScript n (made.script m p es g is vs) → script n ≡ found t → t.entries ≡ es
    by n _ p g es is _ (is_script {ts = ts} {vs = ws} typed code views) read =
        let same : record { parameter = p; entries = es; storage = g; code = seq ts; views = ws } ≡ t = found_one _ _ (sym typed ∙ read) in
        sym (ap (λ (s : PlainScript). s.entries) same)

pub read_storage : (n : Tree) (p g : Kind) (es : List Entry) (is : made.Codes) (vs : made.ViewCodes) (t : PlainScript) → IsScript n (made.script n p es g is vs) → script n ≡ found t → t.storage ≡ g
read_storage n p g es is vs t h read = by n n p g es is vs h read
  where
    by : (n m : Tree) (p g : Kind) (es : List Entry) (is : made.Codes) (vs : made.ViewCodes) → IsScript n (made.script m p es g is vs) → script n ≡ found t → t.storage ≡ g
    by n _ p g es is _ (is_script {ts = ts} {vs = ws} typed code views) read =
        let same : record { parameter = p; entries = es; storage = g; code = seq ts; views = ws } ≡ t = found_one _ _ (sym typed ∙ read) in
        sym (ap (λ (s : PlainScript). s.storage) same)

-- ---- contracts

pub at_one : (P : Contract → Type 0) (test : List ℕ → Bool) (cs : List (List ℕ × Contract)) (k : Contract) → AllByRecursion (λ c. P c.1) cs → lookup test cs ≡ Some k → P k
at_one P test [] k h e = cc
at_one P test (c ∷ cs) k h e = by (test c.0) e (λ g. at_one P test cs k h.1 g)
  where
    by : (b : Bool) → cond b (Some c.1) (lookup test cs) ≡ Some k → (lookup test cs ≡ Some k → P k) → P k
    by true g later = let one : c.1 ≡ k = cc in subst P one h.0
    by false g later = later g

one_of : (x y : PlainContract) → Some x ≡ Some y → x ≡ y
one_of x y e = cc

none_burnt : (a b : ℤ) → a ≡ b → (a -ℤ (pos 0 +ℤ pos 0)) ≡ b
none_burnt a b e = omega (arith, ints, e)

none_minted : (a b : ℤ) → a ≡ b → (a -ℤ pos 0) ≡ b
none_minted a b e = omega (arith, ints, e)

some_contract : (f : Contract → PlainContract) (o : Option Contract) (c : PlainContract) → option_map f o ≡ Some c → is_some o ≡ true
some_contract f None c e = cc
some_contract f (Some k) c e = refl

-- ---- how a run ends

pub memory_as : (o : Ended) (v : World) (gas : ℕ) (old new : Counts) → EndsAs o v gas old new (Err errors.Memory)
memory_as (finished f) v gas old new = tt
memory_as (run_failed why) v gas old new = tt
memory_as run_stuck v gas old new = tt

failed_as : (o : Ended) (v : World) (gas : ℕ) (old new : Counts) (f : Why) → FailsSo o f → EndsAs o v gas old new (Err (errors.Failed f))
failed_as (run_failed why) v gas old new f h = h
failed_as (finished e) v gas old new f h = h
failed_as run_stuck v gas old new f h = h

pub with_memory : {A B : Type 0} (r : Result Finished RunError) → (A → B) → WithMemory r A → WithMemory r B
with_memory (Ok f) g h = g h
with_memory (Err (errors.Failed f)) g h = g h
with_memory (Err errors.Memory) g h = h

pub failed_so : (o : Ended) (v : World) (gas : ℕ) (old new : Counts) (f : Why) (why : Failure) → o ≡ run_failed why → failures.failure f ≡ told why → EndsAs o v gas old new (Err (errors.Failed f))
failed_so o v gas old new f why e h = subst (λ (p : Ended). EndsAs p v gas old new (Err (errors.Failed f))) (sym e) h

-- ---- a call

-- a call that `run` may be asked for
pub record Asked : Type 0 where
  pub v : World
  pub w : PlainWorld
  pub costs : Costs
  pub counts : Counts
  pub to : List ℕ
  pub name : List ℕ
  pub argument : Value
  pub env : Env
  pub t : Target
  pub h : IsHosting v
  pub formed : AreFormed argument
  pub based : HasBases v.store.bases.present argument
  pub c : Calls v w (listed costs) counts to name argument env t

module _ (q : Asked) where
  abbrev pub bs : Bases
  bs = q.v.store.bases.present

  abbrev pub e : Environment
  e = environment q.env

  abbrev pub s : Setting
  s = setting (listed q.costs) q.counts q.env

  abbrev pub arg : Val
  arg = val_in bs q.argument

  met : IsMet q.w q.t
  met = is_met e s q.w q.t arg (counts_of q.counts) q.c.call

  there_in : option_map (plain bs) (contract_at q.v.funds.present q.to) ≡ Some met.contract
  there_in = subst (λ (hash : List ℕ). option_map (plain bs) (contract_at q.v.funds.present hash) ≡ Some met.contract) q.c.hash (sym (contracts_agree q.v q.w q.t.hash q.c.stands) ∙ met.there)

  -- the contract is there
  pub called_there : is_some (contract_at q.v.funds.present q.to) ≡ true
  called_there = some_contract (plain bs) (contract_at q.v.funds.present q.to) met.contract there_in

  module _ (k : Contract) (there : contract_at q.v.funds.present q.to ≡ Some k) where
    plain_is : plain bs k ≡ met.contract
    plain_is = one_of (plain bs k) met.contract (ap (option_map (plain bs)) (sym there) ∙ there_in)

    plain_there : plain_contract_at q.w q.t.hash ≡ Some (plain bs k)
    plain_there = met.there ∙ ap Some (sym plain_is)

    typed : IsTypedScript k.script
    typed = at_one (λ c. IsTypedScript c.script) (is_at (by_bytes q.to)) q.v.funds.present.contracts k q.h.typed there

    stored : IsStored bs k
    stored = at_one (IsStored bs) (is_at (by_bytes q.to)) q.v.funds.present.contracts k q.h.stored there

    read : script (script_node k.script) ≡ found q.t.script
    read = subst (λ (x : PlainContract). script x.script ≡ found q.t.script) (sym plain_is) met.read

    pub entry_is : find_entry q.name (entries_of k.script) ≡ Some q.t.entry
    entry_is =
        ap (find_entry q.name) (sym (read_entries (script_node k.script) _ _ (entries_of k.script) _ _ q.t.script (typed_is k.script typed) read))
        ∙ subst (λ (n : List ℕ). find_entry n q.t.script.entries ≡ Some q.t.entry) q.c.named met.entry

    pub entry_some : is_some (find_entry q.name (entries_of k.script)) ≡ true
    entry_some = ap is_some entry_is

    abbrev pub x : Beyond
    x = record {
      sight = sight bs;
      shows = sight_shows bs q.h.ticketless;
      contract_at = plain_contract_at q.w;
      before = record { issued = []; changes = [] };
    }

    -- it sees the world, without the ledger too
    pub sees_so : (u : World) (l : Ledger) → u ≡ with_ledger q.v l → Sees u x
    sees_so u l e = subst (λ (z : World). Sees z x) (sym e) (record {
      sight = refl;
      contracts = λ hash. contracts_agree q.v q.w hash q.c.stands;
      typed = q.h.typed;
      stored = q.h.stored;
    })

    module _ (value : Value)
        (seen_so : (big : Sight) (d : Entry) → find_entry q.name (entries_of k.script) ≡ Some d → seen big value ≡ both (wrapped d.path (seen big q.argument)) (seen big k.storage))
        (gas : ℕ) where
      -- what the code begins with
      abbrev pub begun : State
      begun = record {
        stack = value ∷ [];
        meter = gas;
        counts = q.counts;
        env = q.env;
        ledger = record { books = q.v.ledger.books; changes = [] };
        issued = [];
      }

      abbrev pub Z : List Kind
      Z = type_after q.t.script ∷ []

      abbrev pub W : List Val
      W = value_before q.t arg (plain bs k) ∷ []

      abbrev pub o : Outcome
      o = eval q.t.script.code (surroundings_of e s q.w q.t) 0 (type_before q.t.script ∷ []) W (tally_of gas (counts_of q.counts))

      value_is : seen (sight bs) value ≡ value_before q.t arg (plain bs k)
      value_is =
          seen_so (sight bs) q.t.entry entry_is
          ∙ (λ i. both (wrapped q.t.entry.path (sound_seen bs q.argument (sound_of bs q.argument q.formed q.based) i))
          (sound_seen bs k.storage (sound_of bs k.storage stored.formed stored.based) i))

      around_is : around x q.costs begun ≡ frames.around (surroundings_of e s q.w q.t) (burnt_ever q.w)
      around_is = (λ i. record {
        environment = e;
        group = q.counts.group;
        prices = listed q.costs;
        contract_at = plain_contract_at q.w;
        minted = λ id. none_minted _ _ (q.c.stands.those.minted id) i;
        burnt = λ id. none_burnt _ _ (q.c.stands.those.burnt id) i;
      })

      pub opens_so : Opens x q.costs (code_of k.script) begun Z o
      opens_so =
          subst (λ (u : Around). frames_open u (seen (sight bs) value ∷ [])) (sym around_is)
          (subst (λ (V : List Val). frames_open (frames.around (surroundings_of e s q.w q.t) (burnt_ever q.w)) V) (λ i. sym value_is i ∷ [])
          (call_opens e s q.w q.t arg (counts_of q.counts) q.c.call gas (plain bs k) plain_there _ _ (entries_of k.script) (codes (code_of k.script)) _ (typed_is k.script typed)))
        where
          frames_open : Around → List Val → Type 0
          frames_open u V = OpensAt (codes (code_of k.script)) [] u V (tally_of gas (counts_of q.counts)) 0 (type_after q.t.script ∷ []) (eval q.t.script.code (surroundings_of e s q.w q.t) 0 (type_before q.t.script ∷ []) (value_before q.t arg (plain bs k) ∷ []) (tally_of gas (counts_of q.counts)))

      pub state_is : (m : State) → m.stack ≡ value ∷ [] → m.meter ≡ gas → m.counts ≡ q.counts → m.env ≡ q.env → m.ledger ≡ record { books = q.v.ledger.books; changes = [] } → m.issued ≡ [] → m ≡ begun
      state_is m a b d f g i = (λ j. record { stack = a j; meter = b j; counts = d j; env = f j; ledger = g j; issued = i j })

      pub opens_at : (code : List Instr) (m : State) → code ≡ code_of k.script → m ≡ begun → Opens x q.costs code m (type_after q.t.script ∷ []) (eval q.t.script.code (surroundings_of e s q.w q.t) 0 (type_before q.t.script ∷ []) (value_before q.t arg (plain bs k) ∷ []) (tally_of gas (counts_of q.counts)))
      opens_at code m same is =
          subst (λ (d : State). Opens x q.costs code d Z o) (sym is) (subst (λ (p : List Instr). Opens x q.costs p begun Z o) (sym same) opens_so)

      -- ---- it fails

      pub fails_so : (m : State) (why : Failed) → o ≡ failed (failure (sight bs) why) → run_in e s q.w q.t arg gas (counts_of q.counts) ≡ run_failed (failure (sight bs) why)
      fails_so m why end =
          ap (λ (d : Option PlainContract). run_of d e s q.w q.t arg gas (counts_of q.counts)) plain_there
          ∙ ap (λ (p : Outcome). behind_code q.w q.t.hash (plain bs k) (ending p (type_after q.t.script ∷ []) stack)) end

      pub fails_as : (z : World) (left : ℕ) (new : Counts) (m : State) (why : Failed) (f : Why) → o ≡ failed (failure (sight bs) why) →
          ((big : Sight) → failures.failure f ≡ told (failure big why)) → EndsAs (run_in e s q.w q.t arg gas (counts_of q.counts)) z left q.counts new (Err (errors.Failed f))
      fails_as z left new m why f end h = failed_so (run_in e s q.w q.t arg gas (counts_of q.counts)) z left q.counts new f (failure (sight bs) why) (fails_so m why end) (h (sight bs))

      -- ---- it comes to its end

      module _ (m : State) (keeps : KeepsState begun m) (end : o ≡ stack Z (tops (sight bs) m.stack) (tally x m)) where
        run_so : run_in e s q.w q.t arg gas (counts_of q.counts) ≡ with_returned q.w q.t.hash (plain bs k) (tally x m) (returned (tops (sight bs) m.stack))
        run_so =
            ap (λ (d : Option PlainContract). run_of d e s q.w q.t arg gas (counts_of q.counts)) plain_there
            ∙ ap (λ (p : Outcome). behind_code q.w q.t.hash (plain bs k) (ending p (type_after q.t.script ∷ []) stack)) end
            ∙ ap (λ (b : Bool). behind_code q.w q.t.hash (plain bs k) (only_if b (stack Z (tops (sight bs) m.stack) (tally x m)))) (same_kinds_refl Z)

        advances : Advances q.counts.group (tally_of gas (counts_of q.counts)) (tally x m)
        advances =
            subst (AdvancesTo q.counts.group (tally_of gas (counts_of q.counts))) end
            (operations_are_new q.t.script.code (surroundings_of e s q.w q.t) 0 (type_before q.t.script ∷ []) W (tally_of gas (counts_of q.counts)))

        turns_so : AreInTurn q.counts.group q.counts.issued q.counts.originated m.counts.issued m.counts.originated (tally x m).issued
        turns_so = subst (AreInTurn q.counts.group q.counts.issued q.counts.originated m.counts.issued m.counts.originated) (sym advances.behind) advances.turns

        abbrev pub ended_world : World
        ended_world = with_ledger q.v m.ledger

        adds_so : Adds (map change m.ledger.changes) q.v.ledger.books.present m.ledger.books.present
        adds_so = subst (λ (cs : List Change). Adds cs q.v.ledger.books.present m.ledger.books.present) (sym keeps.tells.told) keeps.tells.books

        pub ending_so : IsEnding ended_world q.to m.stack m.issued
        ending_so = record {
          e = e;
          s = s;
          w = q.w;
          t = q.t;
          argument = arg;
          gas = gas;
          counts = counts_of q.counts;
          call = q.c.call;
          hash = q.c.hash;
          start = q.v;
          hosting = q.h;
          stands = q.c.stands;
          runs = ledgers_run q.v m.ledger (map change m.ledger.changes) adds_so;
          store = refl;
          funds = refl;
          tally = tally x m;
          contract = plain bs k;
          there = plain_there;
          ends = run_so;
          issues = refl;
          changes = refl;
          turns = turns_so;
          scripts = keeps.scripts tt;
        }

        -- what is made of its end is the end of the run
        pub ends_as : (z : World) (r : Result Finished RunError) → EndsSo ending_so z r → EndsAs (run_in e s q.w q.t arg gas (counts_of q.counts)) z m.meter q.counts m.counts r
        unfolding ending_so
        ends_as z (Ok r) h = record { world = h.world; stands = h.stands; same = h.same; group = keeps.group; handed = h.handed }
        ends_as z (Err (errors.Failed f)) h = failed_as (run_in e s q.w q.t arg gas (counts_of q.counts)) z m.meter q.counts m.counts f h
        ends_as z (Err errors.Memory) h = memory_as (run_in e s q.w q.t arg gas (counts_of q.counts)) z m.meter q.counts m.counts

        pub finished_so : (u : World) → u ≡ ended_world → (z : World) (r : Result Finished RunError) → ((i : IsEnding u q.to m.stack m.issued) → EndsSo i z r) →
            EndsAs (run_in e s q.w q.t arg gas (counts_of q.counts)) z m.meter q.counts m.counts r
        finished_so u same z r h = ends_as z r (subst (λ (v : World). (i : IsEnding v q.to m.stack m.issued) → EndsSo i z r) same h ending_so)
