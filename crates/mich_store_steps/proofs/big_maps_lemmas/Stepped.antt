-- Rows on a stack whose top is known.
use Rattle.std.proofs.Common.{◌≡◌, List, [], ◌∷◌, Bool, true, Some, None, sym, ap, ◌∙◌, subst}
use Rattle.std.specs.Prelude.{is_some, option_map, option_to_list, IfSome}
use Rattle.std.specs.declared.option.Option.{Option}
use Rattle.std.proofs.lemmas.List.{append-nil}
use Rattle.rules_data.specs.types.Kind.{Kind}
use Rattle.rules_data.specs.values.Val.{Val, Pairs, no_pair, truth, big_table, is_comparable}
use Rattle.rules_data.specs.values.Tables.{value_at}
use Rattle.rules_data.specs.values.Tickets.{tickets, pair_tickets}
use Rattle.rules_code.specs.instructions.Straight as i
use Rattle.rules_code.specs.steps.Changes.{burns}
use Rattle.rules_code.specs.steps.Collections.{collection_step, map_with}
use Rattle.rules_code.specs.steps.Costs.{collection_weight, weight_found}
use Rattle.rules_code.specs.steps.Step.{Step, done, kept, discarding, optional}
use Rattle.mich_term.specs.declared.value.Value.{Value}
use Rattle.mich_store_steps.specs.seen.Sights.{is_plain, sight}
use Rattle.mich_bigmap.specs.Bases.{Bases}
use Rattle.mich_stack.proofs.ForCallers.{comparable_seen}
use Rattle.mich_term.specs.View.{datum}
use Rattle.mich_term.specs.ValueView.{val, value_step}
use Rattle.mich_term.specs.declared.datum.Datum.{Datum}
use Rattle.mich_term.specs.declared.value.BigMap.{BigMap}
use Rattle.mich_term.specs.declared.value.Value.{fold-roll-Value}
use Rattle.mich_term.specs.declared.value.Value.TheOpen.{Value-F}
use Rattle.mich_term.specs.declared.value.Value.TheVariants as v
use Rattle.mich_term.specs.declared.value.Value.TheVariants.{rolls-Unit}
use Rattle.mich_stack.specs.Views.{Sight, seen}
use Rattle.mich_store_steps.proofs.big_maps_lemmas.Sighted.{big_seen}
use Rattle.mich_store_steps.specs.big_maps.Given.{IsExchange, entries_seen, seen_in}
use Rattle.mich_store_steps.specs.big_maps.Operands.{IsPlainOption, IsOptionOnTop, IsBigMapOnTop, IsBigMapThird}

-- ---- what holds no ticket is handed out

pub unit_tickets : (big : Sight) → tickets (seen big v.Unit) ≡ []
unit_tickets big = ap (λ x. tickets (seen big x)) (sym rolls-Unit) ∙ ap tickets (fold-roll-Value Val Pairs value_step big Value-F.Unit)

pub nothing_out : (bs : Bases) (s : Step) (V : List Val) → s ≡ kept V → s ≡ done V (burns (tickets (seen_in bs v.Unit)))
nothing_out bs s V e = e ∙ ap (λ ts. done V (burns ts)) (sym (unit_tickets (sight bs)))

-- ---- rows

pub empty_is : (a b : Kind) (V new : List Val) (v : Val) → v ≡ big_table no_pair → new ≡ v ∷ V → collection_step (i.empty_big_map a b) V ≡ kept new
empty_is a b V new v e f = ap (λ x. kept (x ∷ V)) (sym e) ∙ ap kept (sym f)

pub mem_is : (V : List Val) (k : Val) (ps : Pairs) (W new : List Val) (b : Bool) (v : Val) → V ≡ k ∷ big_table ps ∷ W → b ≡ is_some (value_at k ps) → new ≡ truth b ∷ W → v ≡ big_table ps →
    collection_step i.mem_big_map V ≡ done new (burns (tickets v))
mem_is V k ps W new b v e f g h = ap (collection_step i.mem_big_map) e ∙ ap (λ c. discarding (big_table ps ∷ []) (truth c ∷ W)) (sym f)
    ∙ (λ i. done (sym g i) (burns (append-nil (pair_tickets ps) i))) ∙ ap (λ x. done new (burns (tickets x))) (sym h)

pub get_is : (V : List Val) (k : Val) (ps : Pairs) (W new : List Val) (o : Option Val) → V ≡ k ∷ big_table ps ∷ W → o ≡ value_at k ps → new ≡ optional o ∷ W →
    collection_step i.get_big_map V ≡ kept new
get_is V k ps W new o e f g = ap (collection_step i.get_big_map) e ∙ ap (λ p. kept (optional p ∷ W)) (sym f) ∙ ap kept (sym g)

pub get_weighs : (V : List Val) (k : Val) (ps : Pairs) (W : List Val) (o : Option Val) → V ≡ k ∷ big_table ps ∷ W → o ≡ value_at k ps → collection_weight i.get_big_map V ≡ weight_found o
get_weighs V k ps W o e f = ap (collection_weight i.get_big_map) e ∙ ap weight_found (sym f)

at_option : (k : Val) (new : Option Val) (ps : Pairs) (V : List Val) (old : Option Val) → old ≡ value_at k ps →
    IsExchange (k ∷ optional new ∷ big_table ps ∷ V) old (big_table (map_with k new ps) ∷ V)
at_option k (Some v) ps V old e = record {
  update = ap (λ o. discarding (option_to_list o) (big_table (map_with k (Some v) ps) ∷ V)) (sym e);
  both = ap (λ o. kept (optional o ∷ big_table (map_with k (Some v) ps) ∷ V)) (sym e);
}
at_option k None ps V old e = record {
  update = ap (λ o. discarding (option_to_list o) (big_table (map_with k None ps) ∷ V)) (sym e);
  both = ap (λ o. kept (optional o ∷ big_table (map_with k None ps) ∷ V)) (sym e);
}

-- a big map with what an option has at a key, and what stood there
pub exchange_is : (V : List Val) (k : Val) (new : Option Val) (ps qs : Pairs) (W : List Val) (old : Option Val) → V ≡ k ∷ optional new ∷ big_table ps ∷ W →
    old ≡ value_at k ps → qs ≡ map_with k new ps → IsExchange V old (big_table qs ∷ W)
exchange_is V k new ps qs W old e f g =
    subst (λ X. IsExchange X old (big_table qs ∷ W)) (sym e) (subst (λ q. IsExchange (k ∷ optional new ∷ big_table ps ∷ W) old (big_table q ∷ W)) (sym g) (at_option k new ps W old f))

-- what GET weighs, where its key and a big map are on top
pub get_found : (bs : Bases) (V W : List Val) (k m : Value) (b : BigMap) (d : Datum) (o : Option Val) → V ≡ seen_in bs k ∷ seen_in bs m ∷ W → m ≡ v.BigMap b →
    is_comparable (val k) ≡ true → datum d ≡ val k → o ≡ value_at (datum d) (entries_seen bs b) → collection_weight i.get_big_map V ≡ weight_found o
get_found bs V W k m b d o on is comparable same e =
    get_weighs V (datum d) (entries_seen bs b) W o
    (on ∙ (λ j. (comparable_seen (sight bs) k comparable ∙ sym same) j ∷ (ap (seen_in bs) is ∙ big_seen (sight bs) b) j ∷ W)) e

-- ---- what stands below a key

pub third_option : (V : List Val) (k : Val) (W : List Val) → V ≡ k ∷ W → IsBigMapThird V → IsOptionOnTop W
third_option V k W e h = by W (subst IsBigMapThird e h)
  where
    by : (W : List Val) → IsBigMapThird (k ∷ W) → IsOptionOnTop W
    by (o ∷ X) h = h.0
    by [] h = h

pub third_big : (V : List Val) (k : Val) (W : List Val) (o : Val) (X : List Val) → V ≡ k ∷ W → W ≡ o ∷ X → IsBigMapThird V → IsBigMapOnTop X
third_big V k W o X e f h = (subst IsBigMapThird (e ∙ ap (λ Y. k ∷ Y) f) h).1

pub option_plain : (see : Value → Val) (o : Option Value) (V : List Val) (k : Val) (W X : List Val) → V ≡ k ∷ W → W ≡ optional (option_map see o) ∷ X → IsBigMapThird V → IfSome o (λ v. is_plain (see v) ≡ true)
option_plain see o V k W X e f h = by o (subst IsBigMapThird (e ∙ ap (λ Y. k ∷ Y) f) h).0
  where
    by : (o : Option Value) → IsPlainOption (optional (option_map see o)) → IfSome o (λ v. is_plain (see v) ≡ true)
    by None h = tt
    by (Some x) h = h
