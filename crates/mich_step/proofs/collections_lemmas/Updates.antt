-- What UPDATE and GET_AND_UPDATE find on a stack.
use Rattle.std.proofs.Common.{rules, ◌≡◌, List, ◌∷◌, ap, subst, sym}
use Rattle.std.specs.Prelude.{Option, Some, None, option_to_list}
use Rattle.rules_data.specs.values.Val.{Val, Pairs, nothing, some, table}
use Rattle.rules_data.specs.values.Tables.{value_at}
use Rattle.rules_code.specs.instructions.Straight as i
use Rattle.rules_code.specs.steps.Collections.{collection_step, map_with}
use Rattle.rules_code.specs.steps.Step.{optional, kept, discarding}
use Rattle.mich_stack.specs.Ends.{IsFitting}
use Rattle.mich_step.specs.collections.Shapes.{IsMapOnTop, IsExchange}

pub update_fits : (V : List Val) → IsFitting (collection_step i.update_map V) → IsMapOnTop V
update_fits (k ∷ nothing ∷ table ps ∷ V) h = h
update_fits (k ∷ some v ∷ table ps ∷ V) h = h
update_fits _ h = search rules

pub both_fits : (V : List Val) → IsFitting (collection_step i.get_and_update_map V) → IsMapOnTop V
both_fits (k ∷ nothing ∷ table ps ∷ V) h = h
both_fits (k ∷ some v ∷ table ps ∷ V) h = h
both_fits _ h = search rules

at_option : (k : Val) (new : Option Val) (ps : Pairs) (V : List Val) (old : Option Val) → old ≡ value_at k ps →
    IsExchange (k ∷ optional new ∷ table ps ∷ V) old (table (map_with k new ps) ∷ V)
at_option k (Some v) ps V old e = record {
  update = ap (λ o. discarding (option_to_list o) (table (map_with k (Some v) ps) ∷ V)) (sym e);
  both = ap (λ o. kept (optional o ∷ table (map_with k (Some v) ps) ∷ V)) (sym e);
}
at_option k None ps V old e = record {
  update = ap (λ o. discarding (option_to_list o) (table (map_with k None ps) ∷ V)) (sym e);
  both = ap (λ o. kept (optional o ∷ table (map_with k None ps) ∷ V)) (sym e);
}

-- a map with what an option has at a key, and what stood there
pub exchange_is : (V : List Val) (k : Val) (new : Option Val) (ps qs : Pairs) (W : List Val) (old : Option Val) → V ≡ k ∷ optional new ∷ table ps ∷ W →
    old ≡ value_at k ps → qs ≡ map_with k new ps → IsExchange V old (table qs ∷ W)
exchange_is V k new ps qs W old e f g =
    subst (λ X. IsExchange X old (table qs ∷ W)) (sym e) (subst (λ q. IsExchange (k ∷ optional new ∷ table ps ∷ W) old (table q ∷ W)) (sym g) (at_option k new ps W old f))
