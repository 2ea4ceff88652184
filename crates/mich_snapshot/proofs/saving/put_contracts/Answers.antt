use Rattle.std.proofs.Common.{rules, ◌≡◌, ◌+◌, drop, get_or, [], ◌∷◌, ℕ, List, ◌++◌, refl, sym, ap, ◌∙◌, arith}
use Rattle.std.proofs.lemmas.List.{at_drop_more}
use Rattle.std.proofs.lemmas.Result.{err_from_is_err_and}
use Rattle.rules_files.specs.snapshots.Spelling.{contract_spelling, counted}
use Rattle.mich_snapshot.specs.Saved.{contract_nodes_at, contract_text_at}
use Rattle.mich_snapshot.proofs.Putting.{any_long, counted_first, long_next, put_all, put_next, put_stops}
use Rattle.mich_snapshot.proofs.Parts.{all_contracts, all_nodes, contracts_nodes, contracts_text, none_left}
use Rattle.mich_snapshot.proofs.saving.put_contracts.Goals as goal

pub contracts-init : goal.contracts-init
contracts-init c = record {
  text = counted_first _ _ (contracts_text c.args.world.now c.as_slice-hash-items.result.now) _ _ c.in_ok-put_eight.ensures (search rules);
  long = refl;
}

pub contracts-preserved : goal.contracts-preserved
contracts-preserved c =
    let items = c.as_slice-hash-items.result.now in
    let index = c.contracts.hash-index in
    let v = c.args.world.now in
    let hash : List ℕ = get_or items index [] in
    let first : drop index items ≡ hash ∷ drop (index + 1) items = at_drop_more (λ (ks : List (List ℕ)). ks) items index [] (omega arith) in
    record {
      text = put_next _ _ (contract_text_at v hash) (contracts_text v (drop (index + 1) items)) _ _ c.in_ok-put_contract_of.ensures.0
          (ap (contracts_text v) first) c.contracts.invariant.text;
      long = long_next (contract_nodes_at v hash) (contracts_nodes v (drop (index + 1) items)) _ c.in_ok-put_contract_of.ensures.1
          (sym (ap (λ (ks : List (List ℕ)). any_long (contracts_nodes v ks)) first) ∙ c.contracts.invariant.long);
    }

pub returns-in_err-put_contract_of : goal.returns-in_err-put_contract_of
returns-in_err-put_contract_of c = λ w r.
    let p = err_from_is_err_and c.from_residual-in_err-put_contract_of.result c.from_residual-in_err-put_contract_of.ensures.1 in
    let items = c.as_slice-hash-items.result.now in
    let index = c.contracts.hash-index in
    let v = c.args.world.now in
    let hash : List ℕ = get_or items index [] in
    let first : drop index items ≡ hash ∷ drop (index + 1) items = at_drop_more (λ (ks : List (List ℕ)). ks) items index [] (omega arith) in
    rw (p.1, p.2) (put_stops c.contracts.out.items c.put_contract_of.new.out.items c.args.out.now.items c.put_contract_of.new.out.items
    (contract_text_at v hash) (counted contract_spelling w.contracts) (contract_nodes_at v hash) (contracts_nodes v (drop (index + 1) items)) _ _
    c.in_err-put_contract_of.ensures
    (sym (ap (λ (ks : List (List ℕ)). any_long (contracts_nodes v ks)) first) ∙ c.contracts.invariant.long
    ∙ ap any_long (all_nodes v w items r (c.as_slice-hash-items.ensures ∙ c.in_ok-keys.ensures))))

pub returns : goal.returns
returns c = λ w r.
    let items = c.as_slice-hash-items.result.now in
    let v = c.args.world.now in
    let keys = c.as_slice-hash-items.ensures ∙ c.in_ok-keys.ensures in (
      put_all _ _ _ (none_left (contracts_text v) items c.contracts.hash-index refl (omega arith)) c.contracts.invariant.text
          ∙ ap (λ (l : List ℕ). c.args.out.now.items ++ l) (all_contracts v w items r keys),
      sym (ap any_long (all_nodes v w items r keys)) ∙ sym c.contracts.invariant.long
          ∙ ap any_long (none_left (contracts_nodes v) items c.contracts.hash-index refl (omega arith)),
    )
