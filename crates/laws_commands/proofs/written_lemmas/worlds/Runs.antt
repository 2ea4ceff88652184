-- The run of a contract, and its end.
use Rattle.std.proofs.Common.{◌≡◌, ◌<◌, ◌^◌, ℕ, Bool, true, false, cond, List, [], ◌∷◌, ◌++◌, flat_map, Option, Some, None, sym, subst, arith}
use Rattle.std.specs.Prelude.{◌==◌, option_map, find, filter, not}
use Rattle.std.specs.List.{AllByRecursion}
use Rattle.std.proofs.lemmas.List.Elements.{All-head}
use Rattle.rules_text.specs.nodes.Tree.{size}
use Rattle.rules_data.specs.values.Val.{Val, Vals}
use Rattle.rules_data.specs.values.Val as v
use Rattle.rules_code.specs.steps.Changes.{Change}
use Rattle.rules_code.specs.steps.Environment.{Environment}
use Rattle.rules_code.specs.typing.Nodes.{tree_type}
use Rattle.rules_code.specs.evaluation.Surroundings.{Contract, Surroundings}
use Rattle.rules_code.specs.evaluation.Operations.{Operation, transfer, origination, event, operation_tickets, Issued, Tally}
use Rattle.rules_code.specs.evaluation.Outcome as code
use Rattle.rules_code.specs.evaluation.Evaluation.{eval}
use Rattle.rules_world.specs.world.World.{World, contract_at, with_contract}
use Rattle.rules_world.specs.world.Outcomes.{Setting, Counts}
use Rattle.rules_world.specs.world.Targets.{Target, wrapped}
use Rattle.rules_world.specs.world.Runs.{surroundings_of, tally_of, type_before, value_before, type_after, Returned, numbers_in, returned, has_twice, stands_in, with_issued, issued_with, unreturned, discarded, Ended, finished, run_failed, run_stuck, finished_with, unless_twice, with_returned, behind_code, outcome_of, run_of, run_in}
use Rattle.rules_world.specs.world.RunLaws.{IsCall}
use Rattle.laws_typing.specs.packing.Laws.{IsTyped}
use Rattle.laws_code.specs.evaluation.Laws.{IsType}
use Rattle.laws_world.proofs.runs.ForCallers.{script_code, IsMet, is_met, orderly, stands, contract_stores}
use Rattle.laws_commands.specs.written.Written.{HasIssuer, AreBytes, IsWritten, AllWritten, IsWrittenTicket, IsWrittenChange, IsWrittenFailure, IsWrittenContract, IsWrittenOperation, IsWrittenTally, IsWrittenEnvironment}
use Rattle.laws_commands.specs.written.Worlds.{IsThere, IsMade, IsWrittenWorld}
use Rattle.laws_commands.proofs.written_lemmas.values.Steps.{tickets_written, burns_written}
use Rattle.laws_commands.proofs.written_lemmas.evaluation.Issuers.{burns_issued, issuers_more}
use Rattle.laws_commands.proofs.written_lemmas.evaluation.Scripts.{code_written}
use Rattle.laws_commands.proofs.written_lemmas.evaluation.Stands.{Keeps, Begins, keeps_ending}
use Rattle.laws_commands.proofs.written_lemmas.evaluation.Calls.{leads_typed}
use Rattle.laws_commands.proofs.written_lemmas.evaluation.Evaluation.{keeps_eval, safe_run}
use Rattle.laws_commands.proofs.written_lemmas.worlds.Worlds.{contract_is, contract_written, hash_made, there_more}
use Rattle.laws_commands.proofs.common.Lists.{all_append, all_flat}

-- ---- how it ends

abbrev OperationIs : Issued → Type 0
OperationIs i = IsWrittenOperation i.operation

abbrev pub EndsWritten : Ended → Type 0
EndsWritten (finished f) = IsWrittenWorld f.world × AllByRecursion OperationIs f.returned × AllByRecursion IsWrittenChange f.changes
EndsWritten (run_failed failure) = IsWrittenFailure failure
EndsWritten run_stuck = Unit {0}

abbrev IssuedIf : Option Issued → Type 0
IssuedIf None = Unit {0}
IssuedIf (Some i) = OperationIs i

found_one : (test : Issued → Bool) (is : List Issued) → AllByRecursion OperationIs is → IssuedIf (find test is)
found_one test [] h = tt
found_one test (i ∷ is) h = by (test i) (found_one test is h.1)
  where
    by : (b : Bool) → IssuedIf (find test is) → IssuedIf (cond b (Some i) (find test is))
    by true r = h.0
    by false r = r

abbrev AllIssuedIf : Option (List Issued) → Type 0
AllIssuedIf None = Unit {0}
AllIssuedIf (Some is) = AllByRecursion OperationIs is

both_issued : (o : Option Issued) (os : Option (List Issued)) → IssuedIf o → AllIssuedIf os → AllIssuedIf (with_issued o os)
both_issued (Some i) (Some is) h g = (h, g)
both_issued None os h g = tt
both_issued (Some i) None h g = tt

picked : (is : List Issued) (ns : List ℕ) → AllByRecursion OperationIs is → AllIssuedIf (issued_with is ns)
picked is [] h = tt
picked is (n ∷ ns) h = both_issued (find (λ i. i.number == n) is) (issued_with is ns) (found_one (λ i. i.number == n) is h) (picked is ns h)

operation_held : (o : Operation) → IsWrittenOperation o → AllByRecursion IsWrittenTicket (operation_tickets o)
operation_held (transfer x amount destination) h = tickets_written x h.0
operation_held (origination delegate amount t x hash) h = tickets_written x h.1
operation_held (event tag kind x) h = tickets_written x h.1

all_filtered : {X : Type 0} (P : X → Type 0) (test : X → Bool) (xs : List X) → AllByRecursion P xs → AllByRecursion P (filter test xs)
all_filtered P test [] h = tt
all_filtered P test (x ∷ xs) h = by (test x) (all_filtered P test xs h.1)
  where
    by : (b : Bool) → AllByRecursion P (filter test xs) → AllByRecursion P (cond b (x ∷ filter test xs) (filter test xs))
    by true r = (h.0, r)
    by false r = r

discarded_written : (ns : List ℕ) (is : List Issued) → AllByRecursion OperationIs is → AllByRecursion IsWrittenChange (discarded ns is)
discarded_written ns is h =
    burns_written (flat_map (λ i. operation_tickets i.operation) (unreturned ns is))
    (all_flat OperationIs IsWrittenTicket (λ i. operation_tickets i.operation) (unreturned ns is) (λ i. operation_held i.operation)
    (all_filtered OperationIs (λ i. not (stands_in i.number ns)) is h))

abbrev StorageIf : Option Returned → Type 0
StorageIf None = Unit {0}
StorageIf (Some r) = IsWritten r.storage

returned_storage : (V : List Val) → AllWritten V → StorageIf (returned V)
returned_storage (v.both (v.list xs) storage ∷ []) h = by (numbers_in xs)
  where
    by : (o : Option (List ℕ)) → StorageIf (option_map (λ ns. record { numbers = ns; storage = storage }) o)
    by (Some ns) = h.0.1
    by None = tt
returned_storage _ h = tt

-- ---- the run

module _ (w : World) (hash : List ℕ) (contract : Contract) (world : IsWrittenWorld w) (bytes : AreBytes hash)
    (script : IsWrittenContract contract) (made : IsMade hash) where
  abbrev after_storage : Val → World
  after_storage storage = with_contract w hash (record contract { storage = storage })

  issued_end : (m : Tally) (storage : Val) (changes : List Change) (o : Option (List Issued)) → IsWritten storage →
      AllByRecursion IsWrittenChange changes → AllByRecursion (HasIssuer (IsThere w)) changes → AllIssuedIf o →
      EndsWritten (finished_with w hash contract storage changes m o)
  issued_end m storage changes (Some is) h g there i =
      let x = contract_written w hash (record contract { storage = storage }) world bytes (script.0, h, script.2) made in (
        record {
          chain = x.chain;
          level = x.level;
          accounts = x.accounts;
          contracts = x.contracts;
          log = all_append IsWrittenChange w.log changes world.log g;
          issuers = all_append (HasIssuer (IsThere (after_storage storage))) w.log changes x.issuers
              (issuers_more (IsThere w) (IsThere (after_storage storage)) (there_more w hash (record contract { storage = storage })) changes there);
        },
        i,
        g,
      )
  issued_end m storage changes None h g there i = tt

  twice_end : (b : Bool) (m : Tally) (r : Returned) → IsWrittenTally (IsThere w) m → IsWritten r.storage →
      EndsWritten (unless_twice b w hash contract m r)
  twice_end true m r t h = tt
  twice_end false m r t h =
      issued_end m r.storage (m.changes ++ discarded r.numbers m.issued) (issued_with m.issued r.numbers) h
      (all_append IsWrittenChange m.changes (discarded r.numbers m.issued) t.changes (discarded_written r.numbers m.issued t.issued))
      (all_append (HasIssuer (IsThere w)) m.changes (discarded r.numbers m.issued) t.issuers
      (burns_issued (IsThere w) (flat_map (λ i. operation_tickets i.operation) (unreturned r.numbers m.issued))))
      (picked m.issued r.numbers t.issued)

  returned_end : (m : Tally) (o : Option Returned) → IsWrittenTally (IsThere w) m → StorageIf o → EndsWritten (with_returned w hash contract m o)
  returned_end m (Some r) t h = twice_end (has_twice r.numbers) m r t h
  returned_end m None t h = tt

  code_end : (o : code.Outcome) → Keeps (IsThere w) o → EndsWritten (behind_code w hash contract o)
  code_end (code.stack A V m) h = returned_end m (returned V) h.1 (returned_storage V h.0)
  code_end (code.failed f) h = h
  code_end code.stuck h = tt

wrapped_written : (path : List Bool) (x : Val) → IsWritten x → IsWritten (wrapped path x)
wrapped_written [] x h = h
wrapped_written (false ∷ path) x h = wrapped_written path x h
wrapped_written (true ∷ path) x h = wrapped_written path x h

module _ (e : Environment) (s : Setting) (w : World) (t : Target) (argument : Val) (gas : ℕ) (counts : Counts)
    (call : IsCall e s w t argument counts)
    (world : IsWrittenWorld w) (around : IsWrittenEnvironment e) (bytes : AreBytes t.hash) (written : IsWritten argument) where
  abbrev m : IsMet w t
  m = is_met e s w t argument counts call

  abbrev S : Surroundings
  S = surroundings_of e s w t

  abbrev V : List Val
  V = value_before t argument m.contract ∷ []

  script : IsWrittenContract m.contract
  script = contract_is w t.hash m.contract world m.there

  begins : Begins (IsThere w) S (type_before t.script ∷ []) V (tally_of gas counts)
  begins =
      let b = stands e s w t argument counts call gas in
      record {
        good = b.good;
        sees = record { environment = around; contracts = λ hash c there. contract_is w hash c world there };
        sound = record {
          types = (All-head IsType (type_before t.script) [] b.types, tt);
          fit = b.fit;
          below = λ id. (b.tickets id).1;
          most = λ id. (b.tickets id).0;
          mints = b.tally.mints;
        };
        values = ((wrapped_written t.entry.path argument written, script.1), tt);
        tally = record { issued = tt; changes = tt; issuers = tt };
        own = (m.contract, subst (λ (h : List ℕ). contract_at w h ≡ Some m.contract) (sym call.own) m.there);
        around = λ hash c there. (c, there);
      }

  ends : Keeps (IsThere w) (outcome_of e s w t argument m.contract (tally_of gas counts))
  ends =
      let c = script_code m.contract.script t.script m.read in
      let size_of = contract_stores w (orderly e s w t argument counts call) t.hash m.contract m.there in
      let small : size t.script.code < 2 ^ 32 = let a = c.within in let b = size_of.2 in omega (arith, a, b) in
      let typed : IsTyped (tree_type t.script.code S.context (type_before t.script ∷ [])) =
      leads_typed (tree_type t.script.code S.context (type_before t.script ∷ [])) (type_after t.script ∷ []) c.leads in
      let b = begins in
      keeps_ending (IsThere w) S (tally_of gas counts) V (tree_type t.script.code S.context (type_before t.script ∷ []))
      (eval t.script.code S 0 (type_before t.script ∷ []) V (tally_of gas counts)) (type_after t.script ∷ []) code.stack
      (safe_run t.script.code small S 0 (type_before t.script ∷ []) V (tally_of gas counts) b.good b.sound)
      (keeps_eval (IsThere w) t.script.code small (code_written m.contract.script t.script script.0 m.read) S 0 (type_before t.script ∷ []) V
      (tally_of gas counts) b typed) typed
      (λ W n a values tally. (values, tally))

  pub run_written : EndsWritten (run_in e s w t argument gas counts)
  run_written =
      subst (λ o. EndsWritten (run_of o e s w t argument gas counts)) (sym m.there)
      (code_end w t.hash m.contract world bytes script (hash_made w t.hash m.contract world m.there) (outcome_of e s w t argument m.contract (tally_of gas counts)) ends)
