-- Steps on sets, maps, big maps, and the size of lists.
use Rattle.std.proofs.Common.{◌≡◌, true, ◌&&◌, List, [], ◌∷◌, ◌++◌, Option, Some, None, refl, ap, ◌∙◌}
use Rattle.std.specs.Prelude.{pos, is_some}
use Rattle.std.specs.List.{flat_map}
use Rattle.std.proofs.lemmas.Bool.{and_parts, and_from}
use Rattle.rules_data.specs.numbers.Limits.{int_or_limit}
use Rattle.rules_data.specs.types.Kind.{Kind}
use Rattle.rules_data.specs.types.Kind as k
use Rattle.rules_data.specs.types.Attributes.{duplicable}
use Rattle.rules_data.specs.values.Val.{Val, no_val, Pairs, no_pair}
use Rattle.rules_data.specs.values.Val as v
use Rattle.rules_data.specs.values.Tables.{value_at}
use Rattle.rules_data.specs.values.Tickets.{tickets, pair_tickets}
use Rattle.rules_code.specs.instructions.Types as t
use Rattle.rules_code.specs.instructions.Straight.{CollectionRow, on_collections}
use Rattle.rules_code.specs.instructions.Straight as i
use Rattle.rules_code.specs.instructions.Same.{same_kind}
use Rattle.rules_code.specs.instructions.Change.{makes, keeps}
use Rattle.rules_code.specs.instructions.Change as c
use Rattle.rules_code.specs.instructions.DataChanges.{collection_change}
use Rattle.rules_code.specs.steps.Step.{discarding, kept, optional}
use Rattle.rules_code.specs.steps.Sets.{has_element, element_count, entry_count}
use Rattle.rules_code.specs.steps.Collections.{set_with, on_option, updated, exchanged, collection_step}
use Rattle.laws_tickets.specs.totals.Agreement.{Agrees, AllAgree}
use Rattle.laws_tickets.proofs.totals.ForCallers.{same_agrees, nothing_in, nothing_compared, IsFine, step_limit, KeepsStep, KeepsChange, keeps_same, keeps_discarding, keeps_wrong, change_where, one_for}
use Rattle.laws_data.proofs.amounts.ForCallers.{OptionHas, value_has}
use Rattle.laws_tickets.proofs.steps.MapSteps.{set_with_all, IsMap, Holds, update_keeps, exchange_keeps, same_option, discarded_amount}
use Rattle.laws_code.proofs.stacks.ForCallers.{comparable_duplicable}

-- ---- all

-- the value at a key of a map whose values can be copied
get_keeps : (a b : Kind) (A : List Kind) (x y : Val) (ps : Pairs) (V : List Val) → duplicable b ≡ true → Agrees a x →
    IsMap a b ps → tickets y ≡ pair_tickets ps → tickets y ≡ [] → AllAgree A V →
    KeepsStep (k.option b ∷ A) (x ∷ y ∷ V) (kept (optional (value_at x ps) ∷ V))
get_keeps a b A x y ps V d g m e f h = by_value (value_at x ps) (value_has (Agrees a) (Agrees b) x ps m.1)
  where
    none : flat_map tickets (x ∷ y ∷ V) ≡ flat_map tickets V
    none = ap (λ ts. ts ++ (tickets y ++ flat_map tickets V)) (nothing_compared a x m.0 g) ∙ ap (λ ts. ts ++ flat_map tickets V) f

    by_value : (o : Option Val) → OptionHas (Agrees b) o → KeepsStep (k.option b ∷ A) (x ∷ y ∷ V) (kept (optional o ∷ V))
    by_value None l = keeps_same (k.option b ∷ A) (x ∷ y ∷ V) (v.nothing ∷ V) (tt, h) none
    by_value (Some z) l = one_for (k.option b) A (x ∷ y ∷ V) (v.some z) V l (nothing_in b z d l) h none

table_is : Holds v.table
table_is ps = refl

big_table_is : Holds v.big_table
big_table_is ps = refl

pub collection_keeps : (r : CollectionRow) (A : List Kind) (V : List Val) → IsFine (on_collections r) → AllAgree A V →
    KeepsChange (collection_change r A) V (collection_step r V)
collection_keeps (i.empty_set a) A V w h = keeps_same (k.set a ∷ A) V (v.set no_val ∷ V) ((w, tt), h) refl
collection_keeps (i.empty_map a b) A V w h = keeps_same (k.map a b ∷ A) V (v.table no_pair ∷ V) ((w, tt, tt), h) refl
collection_keeps (i.empty_big_map a b) A V w h = keeps_same (k.big_map a b ∷ A) V (v.big_table no_pair ∷ V) ((w, tt, tt), h) refl
collection_keeps i.size_list (k.list a ∷ A) (v.list xs ∷ V) w h =
    step_limit (int_or_limit (pos (element_count xs))) (t.nat ∷ A) (v.list xs ∷ V) (λ z. discarding (v.list xs ∷ []) (v.number z ∷ V)) (λ z.
    keeps_discarding (t.nat ∷ A) (v.list xs ∷ V) (v.list xs ∷ []) (v.number z ∷ V) (refl, h.1)
    (λ id. discarded_amount id v.unit (v.list xs) (v.number z) V refl refl))
collection_keeps i.size_set (k.set a ∷ A) (v.set xs ∷ V) w h =
    step_limit (int_or_limit (pos (element_count xs))) (t.nat ∷ A) (v.set xs ∷ V) (λ z. kept (v.number z ∷ V)) (λ z.
    keeps_same (t.nat ∷ A) (v.set xs ∷ V) (v.number z ∷ V) (refl, h.1) refl)
collection_keeps i.size_map (k.map a b ∷ A) (v.table ps ∷ V) w h =
    step_limit (int_or_limit (pos (entry_count ps))) (t.nat ∷ A) (v.table ps ∷ V) (λ z. discarding (v.table ps ∷ []) (v.number z ∷ V)) (λ z.
    keeps_discarding (t.nat ∷ A) (v.table ps ∷ V) (v.table ps ∷ []) (v.number z ∷ V) (refl, h.1)
    (λ id. discarded_amount id v.unit (v.table ps) (v.number z) V refl refl))
collection_keeps i.mem_set (j ∷ k.set a ∷ A) (x ∷ v.set xs ∷ V) w h =
    change_where (same_kind j a) (makes t.bool A) (x ∷ v.set xs ∷ V) (collection_step i.mem_set (x ∷ v.set xs ∷ V)) (λ e.
    keeps_same (t.bool ∷ A) (x ∷ v.set xs ∷ V) (v.truth (has_element x xs) ∷ V) (refl, h.1.1)
    (ap (λ ts. ts ++ flat_map tickets V) (nothing_compared a x h.1.0.0 (same_agrees j a x e h.0))))
collection_keeps i.mem_map (j ∷ k.map a b ∷ A) (x ∷ v.table ps ∷ V) w h =
    change_where (same_kind j a) (makes t.bool A) (x ∷ v.table ps ∷ V) (collection_step i.mem_map (x ∷ v.table ps ∷ V)) (λ e.
    keeps_discarding (t.bool ∷ A) (x ∷ v.table ps ∷ V) (v.table ps ∷ []) (v.truth (is_some (value_at x ps)) ∷ V) (refl, h.1.1)
    (λ id. discarded_amount id x (v.table ps) (v.truth (is_some (value_at x ps))) V
    (nothing_compared a x h.1.0.0 (same_agrees j a x e h.0)) refl))
collection_keeps i.mem_big_map (j ∷ k.big_map a b ∷ A) (x ∷ v.big_table ps ∷ V) w h =
    change_where (same_kind j a) (makes t.bool A) (x ∷ v.big_table ps ∷ V)
    (collection_step i.mem_big_map (x ∷ v.big_table ps ∷ V)) (λ e.
    keeps_discarding (t.bool ∷ A) (x ∷ v.big_table ps ∷ V) (v.big_table ps ∷ []) (v.truth (is_some (value_at x ps)) ∷ V)
    (refl, h.1.1)
    (λ id. discarded_amount id x (v.big_table ps) (v.truth (is_some (value_at x ps))) V
    (nothing_compared a x h.1.0.0 (same_agrees j a x e h.0)) refl))
collection_keeps i.get_map (j ∷ k.map a b ∷ A) (x ∷ v.table ps ∷ V) w h =
    change_where (same_kind j a) (c.where_true (duplicable b) (makes (k.option b) A)) (x ∷ v.table ps ∷ V)
    (collection_step i.get_map (x ∷ v.table ps ∷ V)) (λ e.
    change_where (duplicable b) (makes (k.option b) A) (x ∷ v.table ps ∷ V) (collection_step i.get_map (x ∷ v.table ps ∷ V)) (λ d.
    get_keeps a b A x (v.table ps) ps V d (same_agrees j a x e h.0) h.1.0 refl
    (nothing_in (k.map a b) (v.table ps) (and_from (duplicable a) (duplicable b)
    (comparable_duplicable a h.1.0.0) d) h.1.0) h.1.1))
collection_keeps i.get_big_map (j ∷ k.big_map a b ∷ A) (x ∷ v.big_table ps ∷ V) w h =
    change_where (same_kind j a) (c.where_true (duplicable b) (makes (k.option b) A)) (x ∷ v.big_table ps ∷ V)
    (collection_step i.get_big_map (x ∷ v.big_table ps ∷ V)) (λ e.
    change_where (duplicable b) (makes (k.option b) A) (x ∷ v.big_table ps ∷ V)
    (collection_step i.get_big_map (x ∷ v.big_table ps ∷ V)) (λ d.
    get_keeps a b A x (v.big_table ps) ps V d (same_agrees j a x e h.0) h.1.0 refl
    (nothing_in (k.big_map a b) (v.big_table ps)
    (and_from (duplicable a) (duplicable b) (comparable_duplicable a h.1.0.0) d) h.1.0) h.1.1))
collection_keeps i.update_set (j ∷ t.bool ∷ k.set a ∷ A) (x ∷ v.truth b ∷ v.set xs ∷ V) w h =
    change_where (same_kind j a) (keeps (k.set a ∷ A)) (x ∷ v.truth b ∷ v.set xs ∷ V)
    (collection_step i.update_set (x ∷ v.truth b ∷ v.set xs ∷ V)) (λ e.
    let g : Agrees a x = same_agrees j a x e h.0 in
    keeps_same (k.set a ∷ A) (x ∷ v.truth b ∷ v.set xs ∷ V) (v.set (set_with b x xs) ∷ V)
    ((h.1.1.0.0, set_with_all (Agrees a) b x xs g h.1.1.0.1), h.1.1.1)
    (ap (λ ts. ts ++ flat_map tickets V) (nothing_compared a x h.1.1.0.0 g)))
collection_keeps i.update_map (j ∷ k.option u ∷ k.map a b ∷ A) (x ∷ y ∷ v.table ps ∷ V) w h =
    change_where (same_kind j a && same_kind u b) (keeps (k.map a b ∷ A)) (x ∷ y ∷ v.table ps ∷ V)
    (on_option y (updated v.table x ps V)) (λ e.
    update_keeps v.table table_is a b (k.map a b) A (λ qs m. m) x ps V
    (same_agrees j a x (and_parts (same_kind j a) (same_kind u b) e).0 h.0) h.1.1.0 h.1.1.1
    y (same_option u b y (and_parts (same_kind j a) (same_kind u b) e).1 h.1.0))
collection_keeps i.update_big_map (j ∷ k.option u ∷ k.big_map a b ∷ A) (x ∷ y ∷ v.big_table ps ∷ V) w h =
    change_where (same_kind j a && same_kind u b) (keeps (k.big_map a b ∷ A)) (x ∷ y ∷ v.big_table ps ∷ V)
    (on_option y (updated v.big_table x ps V)) (λ e.
    update_keeps v.big_table big_table_is a b (k.big_map a b) A (λ qs m. m) x ps V
    (same_agrees j a x (and_parts (same_kind j a) (same_kind u b) e).0 h.0) h.1.1.0 h.1.1.1
    y (same_option u b y (and_parts (same_kind j a) (same_kind u b) e).1 h.1.0))
collection_keeps i.get_and_update_map (j ∷ k.option u ∷ k.map a b ∷ A) (x ∷ y ∷ v.table ps ∷ V) w h =
    change_where (same_kind j a && same_kind u b) (makes (k.option b) (k.map a b ∷ A)) (x ∷ y ∷ v.table ps ∷ V)
    (on_option y (exchanged v.table x ps V)) (λ e.
    exchange_keeps v.table table_is a b (k.map a b) A (λ qs m. m) x ps V
    (same_agrees j a x (and_parts (same_kind j a) (same_kind u b) e).0 h.0) h.1.1.0 h.1.1.1
    y (same_option u b y (and_parts (same_kind j a) (same_kind u b) e).1 h.1.0))
collection_keeps i.get_and_update_big_map (j ∷ k.option u ∷ k.big_map a b ∷ A) (x ∷ y ∷ v.big_table ps ∷ V) w h =
    change_where (same_kind j a && same_kind u b) (makes (k.option b) (k.big_map a b ∷ A)) (x ∷ y ∷ v.big_table ps ∷ V)
    (on_option y (exchanged v.big_table x ps V)) (λ e.
    exchange_keeps v.big_table big_table_is a b (k.big_map a b) A (λ qs m. m) x ps V
    (same_agrees j a x (and_parts (same_kind j a) (same_kind u b) e).0 h.0) h.1.1.0 h.1.1.1
    y (same_option u b y (and_parts (same_kind j a) (same_kind u b) e).1 h.1.0))
collection_keeps i.mem_set (j ∷ k.set a ∷ A) _ w h = keeps_wrong _ _
collection_keeps i.mem_map (j ∷ k.map a b ∷ A) _ w h = keeps_wrong _ _
collection_keeps i.mem_big_map (j ∷ k.big_map a b ∷ A) _ w h = keeps_wrong _ _
collection_keeps i.get_map (j ∷ k.map a b ∷ A) _ w h = keeps_wrong _ _
collection_keeps i.get_big_map (j ∷ k.big_map a b ∷ A) _ w h = keeps_wrong _ _
collection_keeps i.update_set (j ∷ t.bool ∷ k.set a ∷ A) _ w h = keeps_wrong _ _
collection_keeps i.update_map (j ∷ k.option u ∷ k.map a b ∷ A) _ w h = keeps_wrong _ _
collection_keeps i.update_big_map (j ∷ k.option u ∷ k.big_map a b ∷ A) _ w h = keeps_wrong _ _
collection_keeps i.get_and_update_map (j ∷ k.option u ∷ k.map a b ∷ A) _ w h = keeps_wrong _ _
collection_keeps i.get_and_update_big_map (j ∷ k.option u ∷ k.big_map a b ∷ A) _ w h = keeps_wrong _ _
collection_keeps _ _ _ w h = tt
