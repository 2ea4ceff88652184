-- The run of a contract in a good world ends well: code that is typed is never stuck and leaves what it must.
use Rattle.std.proofs.Common.{◌≡◌, ◌≤◌, ◌<◌, ◌+◌, ◌-◌, ◌^◌, ℕ, List, [], ◌∷◌, ◌++◌, Bool, true, false, Some, refl, sym, ap, ◌∙◌, subst, ℤ, pos, ◌+ℤ◌, ◌≤ℤ◌, arith, flat_map}
use Rattle.std.specs.List.{All}
use Rattle.std.proofs.lemmas.Int.{ints}
use Rattle.std.proofs.lemmas.List.Elements.{All-nil, All-append, All-filter, All-weaker}
use Rattle.rules_text.specs.nodes.Limits.{operation_limit}
use Rattle.rules_data.specs.types.Kind.{Kind}
use Rattle.rules_data.specs.values.Val.{Val}
use Rattle.rules_data.specs.values.Tickets.{Identity}
use Rattle.rules_code.specs.instructions.Same.{same_kinds}
use Rattle.rules_code.specs.typing.Typing.{Typing, goes, fails, bad}
use Rattle.rules_code.specs.typing.Nodes.{tree_type}
use Rattle.rules_code.specs.typing.Fits.{AllFit, Leads}
use Rattle.rules_code.specs.steps.Changes.{minted_in}
use Rattle.rules_code.specs.steps.Environment.{Environment}
use Rattle.rules_code.specs.evaluation.Surroundings.{Contract}
use Rattle.rules_code.specs.evaluation.Operations.{Issued, Tally, operation_tickets}
use Rattle.rules_code.specs.evaluation.Outcome as code
use Rattle.rules_code.specs.evaluation.Loops.{ending}
use Rattle.rules_code.specs.evaluation.Evaluation.{eval}
use Rattle.rules_world.specs.world.World.{World, contract_at}
use Rattle.rules_world.specs.world.Holdings.{minted_ever}
use Rattle.rules_world.specs.world.Outcomes.{Setting, Counts}
use Rattle.rules_world.specs.world.Targets.{Target}
use Rattle.rules_world.specs.world.Runs.{surroundings_of, tally_of, type_before, value_before, type_after, returned, has_twice, issued_with, unreturned, discarded, Finished, Ended, finished, run_failed, run_stuck, kept, finished_with, unless_twice, with_returned, behind_code, run_of, run_in}
use Rattle.rules_world.specs.world.RunLaws.{IsCall, RunsEnd}
use Rattle.rules_world.specs.world.Forms.{IsChange}
use Rattle.rules_world.specs.world.Good.{known_with, FitsIn, IsGoodOperation}
use Rattle.laws_code.specs.evaluation.Laws.{known, Keeps}
use Rattle.laws_data.proofs.types_lemmas.ForCallers.{same_kinds_refl}
use Rattle.laws_tickets.proofs.runs_lemmas.ForCallers.{runs_keep}
use Rattle.laws_world.specs.operations.Fresh.{made_by_issued, AreNew}
use Rattle.laws_world.specs.operations.NewOperations.{AreInTurn, Advances, AdvancesTo}
use Rattle.laws_world.specs.runs.RunEnds.{EndsWell, RunsEndWell}
use Rattle.laws_code.specs.safety.Laws.{StaysWell, LeavesWell}
use Rattle.laws_code.specs.stacks.Sound.{seen, IsSoundIssue, IsWell}
use Rattle.laws_code.proofs.safety_lemmas.ForCallers.{never_stuck, code_leaves_well}
use Rattle.laws_world.proofs.runs.Unissued.{storable_free, unissued}
use Rattle.laws_world.proofs.operations.ForCallers.{turns_grow, operations_are_new, numbers_issued, picked, picks_of, picked_all, picked_new}
use Rattle.laws_world.proofs.accounts.ForCallers.{minted_append}
use Rattle.laws_world.proofs.runs.Codes.{script_code}
use Rattle.laws_world.proofs.runs.Scripts.{IsMet}
use Rattle.laws_world.proofs.runs.Surrounded.{is_met, stands}
use Rattle.laws_world.proofs.runs.Worlds.{set_here, contract_stores}
use Rattle.laws_world.proofs.runs.RunStacks.{known_before, issue_good, burns_good, burns_mint, tickets_of, end_shape}

-- ---- the run

-- all of what `IsFinished` says but for the tickets
record IsLeft (s : Setting) (w : World) (t : Target) (counts : Counts) (f : Finished) : Type 0 where
  before : Contract
  there : contract_at w t.hash ≡ Some before
  storage : Val
  world : f.world ≡ kept w t.hash before storage f.changes
  fits : FitsIn w t.script.storage storage
  returned : All (λ i. IsGoodOperation w i.operation) f.returned
  changes : All IsChange f.changes
  minted : (id : Identity) → (minted_ever w id +ℤ minted_in id f.changes) ≤ℤ pos (2 ^ 127 - 1)
  operations : f.counts.operations ≤ operation_limit
  originations : f.counts.originations + counts.operations ≤ counts.originations + f.counts.operations
  grows : counts.originations ≤ f.counts.originations
  new : AreNew s.group counts.originations f.counts.originations (made_by_issued f.returned)

abbrev EndsLeft : Setting → World → Target → Counts → Ended → Type 0
EndsLeft s w t counts (finished f) = IsLeft s w t counts f
EndsLeft s w t counts (run_failed failure) = Unit {0}
EndsLeft s w t counts run_stuck = ⊥

module _ (e : Environment) (s : Setting) (w : World) (t : Target) (argument : Val) (gas : ℕ) (counts : Counts)
    (call : IsCall e s w t argument counts) where
  abbrev m : IsMet w t
  m = is_met e s w t argument counts call

  -- at the end of the code
  module _ (n : Tally) (left : StaysWell (surroundings_of e s w t) (tally_of gas counts) n)
      (advances : Advances s.group (tally_of gas counts) n) where
    well : IsWell (seen (surroundings_of e s w t)) n.issued n.changes
    well = left.well (All-nil (λ i. IsSoundIssue (contract_at w) i.operation), All-nil IsChange)

    good_issued : All (λ i. IsGoodOperation w i.operation) n.issued
    good_issued = All-weaker (λ i. IsSoundIssue (contract_at w) i.operation) (λ i. IsGoodOperation w i.operation)
        (λ i h. issue_good w i.operation h) n.issued well.0

    turns : AreInTurn s.group counts.operations counts.originations n.operations n.originations n.issued
    turns = subst (λ is. AreInTurn s.group counts.operations counts.originations n.operations n.originations is)
        (sym advances.behind) advances.turns

    no_minted : (a b c d : ℤ) → b ≡ c +ℤ pos 0 → (a +ℤ c) ≤ℤ d → (a +ℤ b) ≤ℤ d
    no_minted a b c d e h = omega (arith, ints, e, h)

    -- by numbers that are not twice there, all issued
    picked_left : (ns : List ℕ) (storage : Val) (is : List Issued) → FitsIn w t.script.storage storage → has_twice ns ≡ false →
        issued_with n.issued ns ≡ Some is →
        EndsLeft s w t counts (finished_with w t.hash m.contract storage (n.changes ++ discarded ns n.issued) n (Some is))
    picked_left ns storage is fits once pick =
        let picks = picks_of n.issued ns is pick in
        let gone = tickets_of w (unreturned ns n.issued) (All-filter _
        (λ i. IsGoodOperation w i.operation) n.issued good_issued) in
        let limited = advances.limited call.operations in
        record {
          before = m.contract;
          there = m.there;
          storage = storage;
          world = refl;
          fits = fits;
          returned = picked_all (λ i. IsGoodOperation w i.operation) n.issued ns is picks good_issued;
          changes = All-append IsChange n.changes (discarded ns n.issued) well.1 (burns_good _ gone);
          minted = λ id. no_minted (minted_ever w id) (minted_in id (n.changes ++ discarded ns n.issued))
              (minted_in id n.changes) (pos (2 ^ 127 - 1))
              (minted_append id n.changes (discarded ns n.issued)
              ∙ ap (λ z. minted_in id n.changes +ℤ z) (burns_mint id
              (flat_map (λ (i : Issued). operation_tickets i.operation) (unreturned ns n.issued)))) (left.minted id);
          operations = limited;
          originations = advances.counted;
          grows = (turns_grow s.group counts.operations counts.originations n.operations n.originations n.issued turns).1;
          new = picked_new s.group counts.operations counts.originations n.operations n.originations n.issued ns is
              (let a = advances.counted in let b = call.originations in omega (arith, a, b, limited)) turns once picks;
        }

    twice_left : (ns : List ℕ) (storage : Val) (is : List Issued) → FitsIn w t.script.storage storage →
        issued_with n.issued ns ≡ Some is → (b : Bool) → has_twice ns ≡ b →
        EndsLeft s w t counts (unless_twice b w t.hash m.contract n (record { numbers = ns; storage = storage }))
    twice_left ns storage is fits pick true h = tt
    twice_left ns storage is fits pick false h = rw pick (picked_left ns storage is fits h pick)

    end_left : (V : List Val) → AllFit (known (contract_at w) n.issued) (type_after t.script ∷ []) V →
        EndsLeft s w t counts (with_returned w t.hash m.contract n (returned V))
    end_left V fit =
        let d = end_shape (known (contract_at w) n.issued) t.script.storage V fit in
        let numbers = numbers_issued (known (contract_at w) n.issued) n.issued (λ i h. h) d.operations d.issued in
        let pick = picked n.issued numbers.0 numbers.2 in
        let c = script_code m.contract.script t.script m.read in
        let fits : FitsIn w t.script.storage d.storage = unissued (known (contract_at w) n.issued) (known_with w [])
        (known_before w n.issued) t.script.storage d.storage c.formed (storable_free t.script.storage c.stored) d.fits in
        rw (d.is, numbers.1) (twice_left numbers.0 d.storage pick.0 fits pick.1 (has_twice numbers.0) refl)

  -- by how the code ends
  outcome_left : (T : Typing) (o : code.Outcome) → Leads T (type_after t.script ∷ []) → Keeps (surroundings_of e s w t) T o →
      LeavesWell (surroundings_of e s w t) (tally_of gas counts) T o → AdvancesTo s.group (tally_of gas counts) o →
      EndsLeft s w t counts (behind_code w t.hash m.contract (ending o (type_after t.script ∷ []) code.stack))
  outcome_left (goes B) (code.stack C V n) l h f a =
      let C_is : C ≡ type_after t.script ∷ [] = h.0 ∙ l in
      let fit : AllFit (known (contract_at w) n.issued) (type_after t.script ∷ []) V = subst
      (λ B. AllFit (known (contract_at w) n.issued) B V) l h.1 in
      let test : same_kinds C (type_after t.script ∷ []) ≡ true = ap (λ C. same_kinds C (type_after t.script ∷ [])) C_is
      ∙ same_kinds_refl (type_after t.script ∷ []) in
      rw test (end_left n f a V fit)
  outcome_left (goes B) (code.failed x) l h f a = tt
  outcome_left (goes B) code.stuck l h f a = absurd h
  outcome_left fails (code.stack C V n) l h f a = absurd h
  outcome_left fails (code.failed x) l h f a = tt
  outcome_left fails code.stuck l h f a = absurd h
  outcome_left (bad i) o l h f a = absurd l

  run_left : EndsLeft s w t counts (run_in e s w t argument gas counts)
  run_left =
      let S = surroundings_of e s w t in
      let c = script_code m.contract.script t.script m.read in
      let A : List Kind = type_before t.script ∷ [] in
      let V : List Val = value_before t argument m.contract ∷ [] in
      let begins = stands e s w t argument counts call gas in
      let size_of = contract_stores w (Rattle.laws_world.proofs.runs.Surrounded.orderly e s w t argument counts call) t.hash
      m.contract m.there in
      let small : Rattle.rules_text.specs.nodes.Tree.size t.script.code < 2 ^ 32 = let a = c.within in let b = size_of.2 in
      omega (arith, a, b) in
      let all = outcome_left (tree_type t.script.code S.context A) (eval t.script.code S 0 A V (tally_of gas counts)) c.leads
      (never_stuck t.script.code S 0 A V (tally_of gas counts) small begins)
      (code_leaves_well t.script.code S 0 A V (tally_of gas counts) small begins)
      (operations_are_new t.script.code S 0 A V (tally_of gas counts)) in
      subst (λ o. EndsLeft s w t counts (run_of o e s w t argument gas counts)) (sym m.there) all

  ended : (E : Ended) → run_in e s w t argument gas counts ≡ E → EndsLeft s w t counts E → EndsWell s w t argument counts E
  ended (finished f) h l = record {
    before = l.before;
    there = l.there;
    storage = l.storage;
    world = l.world;
    fits = l.fits;
    returned = l.returned;
    changes = l.changes;
    minted = l.minted;
    tickets = runs_keep e s w t argument gas counts call f l.before (record l.before { storage = l.storage }) h l.there
        (ap (λ x. contract_at x t.hash) l.world ∙ set_here w t.hash (record l.before { storage = l.storage }));
    operations = l.operations;
    originations = l.originations;
    grows = l.grows;
    new = l.new;
  }
  ended (run_failed failure) h l = tt
  ended run_stuck h l = l

pub runs_end_well : RunsEndWell
runs_end_well e s w t argument gas counts call =
    ended e s w t argument gas counts call (run_in e s w t argument gas counts) refl (run_left e s w t argument gas counts call)

-- so a run is never stuck
pub runs_end : RunsEnd
runs_end e s w t argument gas counts call = by (run_in e s w t argument gas counts)
    (runs_end_well e s w t argument gas counts call)
  where
    by : (E : Ended) → EndsWell s w t argument counts E → E ≡ run_stuck → ⊥
    by (finished f) h same = cc
    by (run_failed f) h same = cc
    by run_stuck h same = h
