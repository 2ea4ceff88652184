-- Tickets are linear over calls of entrypoints.
use Rattle.std.proofs.Common.{◌≡◌, ℕ, true, cond, List, [], ◌∷◌, Option, Some, None, refl, sym, ap, ◌∙◌, subst}
use Rattle.std.specs.Prelude.{◌+ℤ◌}
use Rattle.std.specs.declared.cmp.Ordering.{Ordering}
use Rattle.std.specs.declared.cmp.Ordering.TheVariants.{Less, Equal, Greater}
use Rattle.std.specs.Ordering.{nat_cmp, match_ordering, is_eq}
use Rattle.std.specs.Cmp.{IsTotalOrder}
use Rattle.std.specs.Cmp.Lexicographic.{slice_cmp}
use Rattle.std.specs.BTreeMap.{is_at, insert_entry}
use Rattle.std.specs.Map.{lookup}
use Rattle.std.proofs.lemmas.Cmp.{nat_list_cmp_total, tied_itself}
use Rattle.rules_data.specs.types.Entrypoints.{Entry, find_entry}
use Rattle.rules_code.specs.instructions.Arguments.{Found, found, fault}
use Rattle.rules_data.specs.values.Val.{Val}
use Rattle.rules_data.specs.values.Tickets.{Identity}
use Rattle.rules_code.specs.typing.Scripts.{Script}
use Rattle.rules_code.specs.typing.Nodes.{script}
use Rattle.rules_code.specs.steps.Changes.{amount_in, amount_among, burnt_in}
use Rattle.rules_code.specs.evaluation.Surroundings.{Contract}
use Rattle.rules_code.specs.evaluation.Operations.{Issued, operation_tickets}
use Rattle.rules_world.specs.world.World.{World, contract_at}
use Rattle.rules_world.specs.world.Targets.{Target, met, with_entry, in_script, in_contract, search, wrapped}
use Rattle.rules_world.specs.world.Runs.{Finished}
use Rattle.rules_world.specs.world.Good.{known_with}
use Rattle.rules_world.specs.world.RunLaws.{amount_returned, RunsKeepTickets}
use Rattle.laws_data.specs.types.Laws.{IsWellFormed}
use Rattle.laws_tickets.specs.totals.Agreement.{Agrees}
use Rattle.laws_tickets.specs.totals.Totals.{amount_issued}
use Rattle.laws_tickets.specs.runs.Laws.{TicketsAreLinear}
use Rattle.laws_tickets.proofs.totals.ForCallers.{fitting_agrees, EntriesLead, leads_well, wrapped_agrees, found_leads, outline_typed, script_is, issued_cons}
use Rattle.laws_tickets.proofs.runs_lemmas.Ends.{IsLinear, stored_agrees, good_contract, run_linear}

-- ---- the entrypoint

-- an entrypoint that is met is one of the contract's script
record IsMet (c : Contract) (name : List ℕ) (t : Target) : Type 0 where
  is_script : script c.script ≡ found t.script
  is_entry : find_entry name t.script.entries ≡ Some t.entry

entry_met : (hash name : List ℕ) (c : Contract) (s : Script) (o : Option Entry) (t : Target) → script c.script ≡ found s →
    find_entry name s.entries ≡ o → with_entry hash s o ≡ met t → IsMet c name t
entry_met hash name c s (Some x) t e f h =
    let same : record { hash = hash; script = s; entry = x } ≡ t = cc in
    subst (IsMet c name) same (record { is_script = e; is_entry = f })
entry_met hash name c s None t e f h = absurd cc

script_met : (hash name : List ℕ) (c : Contract) (o : Found Script) (t : Target) → script c.script ≡ o →
    in_script hash name o ≡ met t → IsMet c name t
script_met hash name c (found s) t e h = entry_met hash name c s (find_entry name s.entries) t e refl h
script_met hash name c (fault l) t e h = absurd cc

contract_met : (w : World) (hash name : List ℕ) (c : Contract) (t : Target) → contract_at w hash ≡ Some c →
    search w hash name ≡ met t → IsMet c name t
contract_met w hash name c t e h = script_met hash name c (script c.script) t refl (sym (ap (in_contract hash name) e) ∙ h)

-- ---- the contract after

module _ {K X : Type 0} (R : K → K → Ordering) (total : IsTotalOrder R) (k : K) (v : X) where
  itself : is_eq (R k k) ≡ true
  itself = ap is_eq (tied_itself total k)

  inserted_there : (es : List (K × X)) → lookup (is_at (R k)) (insert_entry R es k v) ≡ Some v
  inserted_there [] = ap (λ b. cond b (Some v) None) itself
  inserted_there (e ∷ es) = by_case (R k e.0) refl (inserted_there es)
    where
      by_case : (o : Ordering) → R k e.0 ≡ o → lookup (is_at (R k)) (insert_entry R es k v) ≡ Some v →
          lookup (is_at (R k)) (match_ordering o ((k, v) ∷ e ∷ es) ((e.0, v) ∷ es) (e ∷ insert_entry R es k v)) ≡ Some v
      by_case Less f later = ap (λ b. cond b (Some v) (lookup (is_at (R k)) (e ∷ es))) itself
      by_case Equal f later = ap (λ o. cond (is_eq o) (Some v) (lookup (is_at (R k)) es)) f
      by_case Greater f later = ap (λ o. cond (is_eq o) (Some e.1) (lookup (is_at (R k)) (insert_entry R es k v))) f ∙ later

storage_after : (w : World) (t : Target) (argument : Val) (before after : Contract) (f : Finished)
    (h : IsLinear w t argument before f) → contract_at f.world t.hash ≡ Some after → h.storage ≡ after.storage
storage_after w t argument before after f h e =
    let there : contract_at f.world t.hash ≡ Some (record before { storage = h.storage }) =
    ap (λ v. contract_at v t.hash) h.world ∙ inserted_there (slice_cmp nat_cmp) nat_list_cmp_total t.hash
    (record before { storage = h.storage }) w.contracts in
    let same : record before { storage = h.storage } ≡ after = cc in
    ap (λ (c : Contract). c.storage) same

-- ---- the laws

pub linear : TicketsAreLinear
linear e s w t argument gas counts call f before after run at then id =
    let m = contract_met w t.hash t.entry.name before t at call.found in
    let p = script_is before.script t.script m.is_script in
    let o = outline_typed before.script p.types p.outlined in
    let well : IsWellFormed t.script.parameter = subst IsWellFormed (sym p.parameter) o.parameter in
    let lead : EntriesLead t.script.parameter t.script.entries =
    subst (λ es. EntriesLead t.script.parameter es) (sym p.entries)
    (subst (λ a. EntriesLead a p.types.entries) (sym p.parameter) o.entries) in
    let path = found_leads t.script.parameter t.entry.name t.script.entries t.entry lead m.is_entry in
    let handed : Agrees t.script.parameter (wrapped t.entry.path argument) =
    wrapped_agrees t.entry.path t.script.parameter t.entry.kind argument path
    (fitting_agrees (known_with w []) t.entry.kind argument
    (leads_well t.entry.path t.script.parameter t.entry.kind path well) call.fits) in
    let stored : Agrees t.script.storage before.storage =
    subst (λ a. Agrees a before.storage) (sym p.storage)
    (stored_agrees w call.contracts before p.types (good_contract w call.contracts t.hash before at) p.outlined) in
    let h = run_linear e s w t argument gas counts before f call.contracts at (handed, stored) run in
    h.tickets id ∙ ap (λ x. amount_in id x +ℤ amount_issued id f.returned +ℤ burnt_in id f.changes)
    (storage_after w t argument before after f h then)

returned_is : (id : Identity) (is : List Issued) → amount_issued id is ≡ amount_returned id is
returned_is id [] = refl
returned_is id (i ∷ is) = issued_cons id i is ∙ ap (λ z. amount_among id (operation_tickets i.operation) +ℤ z) (returned_is id is)

pub runs_keep : RunsKeepTickets
runs_keep e s w t argument gas counts call f before after run at then id =
    linear e s w t argument gas counts (record { contracts = call.may.sound.contracts; found = call.found; fits = call.fits }) f before after run at then id
    ∙ ap (λ z. amount_in id after.storage +ℤ z +ℤ burnt_in id f.changes) (returned_is id f.returned)
