-- Rules of instructions on a stack whose top is known.
use Rattle.std.proofs.Common.{◌≡◌, ℕ, ◌<◌, ◌≤◌, Ok, List, [], ◌∷◌, length, sym, ap, ◌∙◌}
use Rattle.std.specs.Prelude.{ℤ, pos, Bool, Option, is_some, if◌then◌else◌}
use Rattle.std.proofs.lemmas.List.{append-nil}
use Rattle.rules_text.specs.nodes.Limits.{byte_limit}
use Rattle.rules_data.specs.numbers.Limits.{int_or_limit}
use Rattle.rules_data.specs.values.Val.{Val, Vals, Pairs, truth, number, text, bytes, list, set, table}
use Rattle.rules_data.specs.values.Tables.{value_at}
use Rattle.rules_data.specs.values.Tickets.{tickets, all_tickets, pair_tickets}
use Rattle.rules_code.specs.instructions.Straight as i
use Rattle.rules_code.specs.steps.Changes.{burns}
use Rattle.rules_code.specs.steps.Failure as why
use Rattle.rules_code.specs.steps.Collections.{collection_step}
use Rattle.rules_code.specs.steps.Sets.{has_element, element_count, entry_count}
use Rattle.rules_code.specs.steps.Step.{done, fails, kept, discarding, optional, within_limit}
use Rattle.rules_code.specs.steps.Texts.{text_step, joined}
use Rattle.mich_step.proofs.collections_lemmas.Sizes.{within_is, over_is}

pub size_set_is : (V : List Val) (xs : Vals) (W new : List Val) (n : ℤ) → V ≡ set xs ∷ W → int_or_limit (pos (element_count xs)) ≡ Ok n → new ≡ number n ∷ W →
    collection_step i.size_set V ≡ kept new
size_set_is V xs W new n e f g = ap (collection_step i.size_set) e ∙ ap (λ r. within_limit r (λ z. kept (number z ∷ W))) f ∙ ap kept (sym g)

pub mem_set_is : (V : List Val) (x : Val) (xs : Vals) (W new : List Val) (b : Bool) → V ≡ x ∷ set xs ∷ W → b ≡ has_element x xs → new ≡ truth b ∷ W →
    collection_step i.mem_set V ≡ kept new
mem_set_is V x xs W new b e f g = ap (collection_step i.mem_set) e ∙ ap (λ c. kept (truth c ∷ W)) (sym f) ∙ ap kept (sym g)

pub size_list_is : (V : List Val) (xs : Vals) (W new : List Val) (n : ℤ) (v : Val) → V ≡ list xs ∷ W → int_or_limit (pos (element_count xs)) ≡ Ok n → new ≡ number n ∷ W → v ≡ list xs →
    collection_step i.size_list V ≡ done new (burns (tickets v))
size_list_is V xs W new n v e f g h = ap (collection_step i.size_list) e ∙ ap (λ r. within_limit r (λ z. discarding (list xs ∷ []) (number z ∷ W))) f
    ∙ (λ i. done (sym g i) (burns (append-nil (all_tickets xs) i))) ∙ ap (λ x. done new (burns (tickets x))) (sym h)

pub size_map_is : (V : List Val) (ps : Pairs) (W new : List Val) (n : ℤ) (v : Val) → V ≡ table ps ∷ W → int_or_limit (pos (entry_count ps)) ≡ Ok n → new ≡ number n ∷ W → v ≡ table ps →
    collection_step i.size_map V ≡ done new (burns (tickets v))
size_map_is V ps W new n v e f g h = ap (collection_step i.size_map) e ∙ ap (λ r. within_limit r (λ z. discarding (table ps ∷ []) (number z ∷ W))) f
    ∙ (λ i. done (sym g i) (burns (append-nil (pair_tickets ps) i))) ∙ ap (λ x. done new (burns (tickets x))) (sym h)

pub mem_map_is : (V : List Val) (k : Val) (ps : Pairs) (W new : List Val) (b : Bool) (v : Val) → V ≡ k ∷ table ps ∷ W → b ≡ is_some (value_at k ps) → new ≡ truth b ∷ W → v ≡ table ps →
    collection_step i.mem_map V ≡ done new (burns (tickets v))
mem_map_is V k ps W new b v e f g h = ap (collection_step i.mem_map) e ∙ ap (λ c. discarding (table ps ∷ []) (truth c ∷ W)) (sym f)
    ∙ (λ i. done (sym g i) (burns (append-nil (pair_tickets ps) i))) ∙ ap (λ x. done new (burns (tickets x))) (sym h)

pub get_map_is : (V : List Val) (k : Val) (ps : Pairs) (W new : List Val) (o : Option Val) → V ≡ k ∷ table ps ∷ W → o ≡ value_at k ps → new ≡ optional o ∷ W →
    collection_step i.get_map V ≡ kept new
get_map_is V k ps W new o e f g = ap (collection_step i.get_map) e ∙ ap (λ p. kept (optional p ∷ W)) (sym f) ∙ ap kept (sym g)

pub string_list_is : (V : List Val) (xs : Vals) (W new : List Val) (b : List ℕ) → V ≡ list xs ∷ W → length (joined xs) ≤ byte_limit → b ≡ joined xs → new ≡ text b ∷ W →
    text_step i.concat_string_list V ≡ kept new
string_list_is V xs W new b e l f g = ap (text_step i.concat_string_list) e ∙ ap (λ c. if c then kept (text (joined xs) ∷ W) else fails why.size_limit) (within_is (joined xs) l)
    ∙ ap (λ c. kept (text c ∷ W)) (sym f) ∙ ap kept (sym g)

pub string_list_over : (V : List Val) (xs : Vals) (W : List Val) → V ≡ list xs ∷ W → byte_limit < length (joined xs) → text_step i.concat_string_list V ≡ fails why.size_limit
string_list_over V xs W e l = ap (text_step i.concat_string_list) e ∙ ap (λ c. if c then kept (text (joined xs) ∷ W) else fails why.size_limit) (over_is (joined xs) l)

pub bytes_list_is : (V : List Val) (xs : Vals) (W new : List Val) (b : List ℕ) → V ≡ list xs ∷ W → length (joined xs) ≤ byte_limit → b ≡ joined xs → new ≡ bytes b ∷ W →
    text_step i.concat_bytes_list V ≡ kept new
bytes_list_is V xs W new b e l f g = ap (text_step i.concat_bytes_list) e ∙ ap (λ c. if c then kept (bytes (joined xs) ∷ W) else fails why.size_limit) (within_is (joined xs) l)
    ∙ ap (λ c. kept (bytes c ∷ W)) (sym f) ∙ ap kept (sym g)

pub bytes_list_over : (V : List Val) (xs : Vals) (W : List Val) → V ≡ list xs ∷ W → byte_limit < length (joined xs) → text_step i.concat_bytes_list V ≡ fails why.size_limit
bytes_list_over V xs W e l = ap (text_step i.concat_bytes_list) e ∙ ap (λ c. if c then kept (bytes (joined xs) ∷ W) else fails why.size_limit) (over_is (joined xs) l)
