-- What an instruction that isn't one on big maps burns depends on the tickets in big maps alone.
use Rattle.std.proofs.Common.{◌≡◌, ℕ, zero, suc, Bool, true, false, List, [], ◌∷◌, ◌++◌, take, drop, length, map, flat_map, refl, sym, ap, ◌∙◌}
use Rattle.std.specs.Prelude.{pos, ◌-◌, Option, Some, None, Result, Ok, Err, option_map, option_to_list, if◌then◌else◌, nat_le, slice_get, insert, remove}
use Rattle.std.specs.Ordering.{is_eq, nat_cmp, ordering_then}
use Rattle.std.proofs.lemmas.List.{map-append}
use Rattle.rules_data.specs.numbers.Limits.{Limit, int_or_limit}
use Rattle.rules_data.specs.values.Val.{Val, truth, number, nothing, some, left, right, both, list, set, table, big_table, Vals, no_val, more_vals, Pairs, no_pair, more_pairs}
use Rattle.rules_data.specs.values.Order.{order, form}
use Rattle.rules_data.specs.values.Tables.{value_at}
use Rattle.rules_data.specs.values.Tickets.{Held, tickets, all_tickets, pair_tickets}
use Rattle.rules_code.specs.instructions.Straight.{StackRow, PairRow, CollectionRow}
use Rattle.rules_code.specs.instructions.Straight as i
use Rattle.rules_code.specs.steps.Changes.{burns}
use Rattle.rules_code.specs.steps.Step.{Step, discarding, kept, on_some, where_true, within_limit}
use Rattle.rules_code.specs.steps.Sets.{element_count, entry_count}
use Rattle.rules_code.specs.steps.Stack.{Part, Replaced, stack_step, pair_step, comb, parts, part_at, passing, replaced, behind}
use Rattle.rules_code.specs.steps.Collections.{collection_step, on_option, updated, exchanged}
use Rattle.mich_overload.specs.Steps.{is_on_big_map}
use Rattle.mich_step.specs.Shown.{as_entries, shown, all_shown, entries_shown}
use Rattle.mich_step.specs.Tells.{changes_of}

-- ---- the tickets stay

entries_tickets : (ts : List Held) → pair_tickets (as_entries ts) ≡ ts
entries_tickets [] = refl
entries_tickets (t ∷ ts) = ap (λ l. t ∷ l) (entries_tickets ts)

mutual
  pub tickets_shown : (v : Val) → tickets (shown v) ≡ tickets v
  tickets_shown (some v) = tickets_shown v
  tickets_shown (left v) = tickets_shown v
  tickets_shown (right v) = tickets_shown v
  tickets_shown (both v w) = (λ i. tickets_shown v i ++ tickets_shown w i)
  tickets_shown (list vs) = all_tickets_shown vs
  tickets_shown (table ps) = pair_tickets_shown ps
  tickets_shown (big_table ps) = entries_tickets (pair_tickets ps)
  tickets_shown _ = refl

  all_tickets_shown : (vs : Vals) → all_tickets (all_shown vs) ≡ all_tickets vs
  all_tickets_shown no_val = refl
  all_tickets_shown (more_vals v vs) = (λ i. tickets_shown v i ++ all_tickets_shown vs i)

  pair_tickets_shown : (ps : Pairs) → pair_tickets (entries_shown ps) ≡ pair_tickets ps
  pair_tickets_shown no_pair = refl
  pair_tickets_shown (more_pairs k v ps) = (λ i. tickets_shown v i ++ pair_tickets_shown ps i)

flat_shown : (V : List Val) → flat_map tickets (map shown V) ≡ flat_map tickets V
flat_shown [] = refl
flat_shown (v ∷ V) = (λ i. tickets_shown v i ++ flat_shown V i)

-- ---- steps that burn the same

abbrev Same : Step → Step → Type 0
Same s t = changes_of s ≡ changes_of t

same_some : {A B : Type 0} (o : Option A) (f : A → B) (go : A → Step) (there : B → Step) → ((x : A) → Same (there (f x)) (go x)) →
    Same (on_some (option_map f o) there) (on_some o go)
same_some None f go there h = refl
same_some (Some x) f go there h = h x

none_some : {A : Type 0} (o : Option A) (go : A → Step) → ((x : A) → changes_of (go x) ≡ []) → changes_of (on_some o go) ≡ []
none_some None go h = refl
none_some (Some x) go h = h x

none_where : (b : Bool) (V : List Val) → changes_of (where_true b (kept V)) ≡ []
none_where true V = refl
none_where false V = refl

same_where : (b : Bool) (s t : Step) → Same s t → Same (where_true b s) (where_true b t)
same_where true s t h = h
same_where false s t h = refl

same_limit : {A : Type 0} (r : Result A Limit) (go there : A → Step) → ((x : A) → Same (there x) (go x)) → Same (within_limit r there) (within_limit r go)
same_limit (Ok x) go there h = h x
same_limit (Err l) go there h = refl

none_limit : {A : Type 0} (r : Result A Limit) (go : A → Step) → ((x : A) → changes_of (go x) ≡ []) → changes_of (within_limit r go) ≡ []
none_limit (Ok x) go h = h x
none_limit (Err l) go h = refl

-- ---- the order of the stack

take_shown : (n : ℕ) (V : List Val) → take n (map shown V) ≡ map shown (take n V)
take_shown zero [] = refl
take_shown zero (v ∷ V) = refl
take_shown (suc n) [] = refl
take_shown (suc n) (v ∷ V) = ap (λ W. shown v ∷ W) (take_shown n V)

length_shown : (V : List Val) → length (map shown V) ≡ length V
length_shown [] = refl
length_shown (v ∷ V) = ap suc (length_shown V)

pub stack_shown : (r : StackRow) (V : List Val) → Same (stack_step r (map shown V)) (stack_step r V)
stack_shown (i.drop n) V =
    ap (λ m. changes_of (where_true (nat_le n m) (discarding (take n (map shown V)) (drop n (map shown V))))) (length_shown V)
    ∙ same_where (nat_le n (length V)) (discarding (take n (map shown V)) (drop n (map shown V))) (discarding (take n V) (drop n V))
    (ap burns (ap (flat_map tickets) (take_shown n V) ∙ flat_shown (take n V)))
stack_shown (i.dup n) V =
    none_some (slice_get (map shown V) (n - 1)) (λ v. kept (v ∷ map shown V)) (λ v. refl) ∙ sym (none_some (slice_get V (n - 1)) (λ v. kept (v ∷ V)) (λ v. refl))
stack_shown i.swap (v ∷ w ∷ V) = refl
stack_shown i.swap (v ∷ []) = refl
stack_shown i.swap [] = refl
stack_shown (i.dig n) V =
    none_some (slice_get (map shown V) n) (λ v. kept (v ∷ remove (map shown V) n)) (λ v. refl) ∙ sym (none_some (slice_get V n) (λ v. kept (v ∷ remove V n)) (λ v. refl))
stack_shown (i.dug n) (v ∷ V) =
    none_where (nat_le n (length (map shown V))) (insert (map shown V) n (shown v)) ∙ sym (none_where (nat_le n (length V)) (insert V n v))
stack_shown (i.dug n) [] = refl
stack_shown i.unit V = refl
stack_shown (i.cast a) (v ∷ V) = refl
stack_shown (i.cast a) [] = refl
stack_shown i.rename (v ∷ V) = refl
stack_shown i.rename [] = refl

-- ---- pairs

abbrev part_shown : Part → Part
part_shown p = record { before = map shown p.before; found = shown p.found; behind = map shown p.behind }

passing_shown : (v : Val) (o : Option Part) → option_map (passing (shown v)) (option_map part_shown o) ≡ option_map part_shown (option_map (passing v) o)
passing_shown v None = refl
passing_shown v (Some p) = refl

part_is : (n : ℕ) (v : Val) → part_at n (shown v) ≡ option_map part_shown (part_at n v)
part_is zero v = refl
part_is (suc zero) (both v w) = refl
part_is (suc (suc n)) (both v w) = ap (option_map (passing (shown v))) (part_is n w) ∙ passing_shown v (part_at n w)
part_is (suc zero) _ = refl
part_is (suc (suc n)) _ = refl

abbrev replaced_shown : Replaced → Replaced
replaced_shown r = record { comb = shown r.comb; old = shown r.old }

behind_shown : (v : Val) (o : Option Replaced) → option_map (behind (shown v)) (option_map replaced_shown o) ≡ option_map replaced_shown (option_map (behind v) o)
behind_shown v None = refl
behind_shown v (Some r) = refl

replaced_is : (n : ℕ) (x v : Val) → replaced n (shown x) (shown v) ≡ option_map replaced_shown (replaced n x v)
replaced_is zero x v = refl
replaced_is (suc zero) x (both v w) = refl
replaced_is (suc (suc n)) x (both v w) = ap (option_map (behind (shown v))) (replaced_is n x w) ∙ behind_shown v (replaced n x w)
replaced_is (suc zero) x _ = refl
replaced_is (suc (suc n)) x _ = refl

one_shown : (v : Val) → burns (tickets (shown v) ++ []) ≡ burns (tickets v ++ [])
one_shown v = ap (λ l. burns (l ++ [])) (tickets_shown v)

pub pair_shown : (r : PairRow) (V : List Val) → Same (pair_step r (map shown V)) (pair_step r V)
pair_shown (i.pair n) (v ∷ V) =
    none_some (comb (n - 1) (shown v) (map shown V)) (λ c. kept (c ∷ drop (n - 1) (map shown V))) (λ c. refl) ∙ sym (none_some (comb (n - 1) v V) (λ c. kept (c ∷ drop (n - 1) V)) (λ c. refl))
pair_shown (i.pair n) [] = refl
pair_shown (i.unpair n) (v ∷ V) =
    none_some (parts (n - 1) (shown v)) (λ vs. kept (vs ++ map shown V)) (λ vs. refl) ∙ sym (none_some (parts (n - 1) v) (λ vs. kept (vs ++ V)) (λ vs. refl))
pair_shown (i.unpair n) [] = refl
pair_shown i.car (both v w ∷ V) = one_shown w
pair_shown i.car [] = refl
pair_shown i.car _ = refl
pair_shown i.cdr (both v w ∷ V) = one_shown v
pair_shown i.cdr [] = refl
pair_shown i.cdr _ = refl
pair_shown (i.get_part n) (v ∷ V) =
    ap (λ o. changes_of (on_some o (λ p. discarding (p.before ++ p.behind) (p.found ∷ map shown V)))) (part_is n v)
    ∙ same_some (part_at n v) part_shown (λ p. discarding (p.before ++ p.behind) (p.found ∷ V)) (λ p. discarding (p.before ++ p.behind) (p.found ∷ map shown V))
    (λ p. ap burns (ap (flat_map tickets) (sym (map-append shown p.before p.behind)) ∙ flat_shown (p.before ++ p.behind)))
pair_shown (i.get_part n) [] = refl
pair_shown (i.update_part n) (x ∷ v ∷ V) =
    ap (λ o. changes_of (on_some o (λ r. discarding (r.old ∷ []) (r.comb ∷ map shown V)))) (replaced_is n x v)
    ∙ same_some (replaced n x v) replaced_shown (λ r. discarding (r.old ∷ []) (r.comb ∷ V)) (λ r. discarding (r.old ∷ []) (r.comb ∷ map shown V))
    (λ r. one_shown r.old)
pair_shown (i.update_part n) (x ∷ []) = refl
pair_shown (i.update_part n) [] = refl

-- ---- sets, maps and lists

late : (v w : Val) → nat_cmp (form (shown v)) (form w) ≡ nat_cmp (form v) (form w)
late (some v) w = refl
late (left v) w = refl
late (right v) w = refl
late (both v x) w = refl
late (list vs) w = refl
late (table ps) w = refl
late (big_table ps) w = refl
late _ w = refl

order_shown : (v w : Val) → order (shown v) w ≡ order v w
order_shown (some v) (some w) = order_shown v w
order_shown (left v) (left w) = order_shown v w
order_shown (right v) (right w) = order_shown v w
order_shown (both v w) (both x y) = (λ i. ordering_then (order_shown v x i) (order_shown w y i))
order_shown _ _ = refl

count_shown : (vs : Vals) → element_count (all_shown vs) ≡ element_count vs
count_shown no_val = refl
count_shown (more_vals v vs) = ap suc (count_shown vs)

entries_count_shown : (ps : Pairs) → entry_count (entries_shown ps) ≡ entry_count ps
entries_count_shown no_pair = refl
entries_count_shown (more_pairs k v ps) = ap suc (entries_count_shown ps)

if_shown : (b : Bool) (v : Val) (o p : Option Val) → o ≡ option_map shown p → (if b then Some (shown v) else o) ≡ option_map shown (if b then Some v else p)
if_shown true v o p h = refl
if_shown false v o p h = h

value_shown : (k : Val) (ps : Pairs) → value_at (shown k) (entries_shown ps) ≡ option_map shown (value_at k ps)
value_shown k no_pair = refl
value_shown k (more_pairs j v ps) =
    ap (λ o. if is_eq o then Some (shown v) else value_at (shown k) (entries_shown ps)) (order_shown k j)
    ∙ if_shown (is_eq (order k j)) v (value_at (shown k) (entries_shown ps)) (value_at k ps) (value_shown k ps)

old_shown : (o : Option Val) → flat_map tickets (option_to_list (option_map shown o)) ≡ flat_map tickets (option_to_list o)
old_shown None = refl
old_shown (Some v) = ap (λ l. l ++ []) (tickets_shown v)

update_shown : (k : Val) (ps : Pairs) → burns (flat_map tickets (option_to_list (value_at (shown k) (entries_shown ps)))) ≡ burns (flat_map tickets (option_to_list (value_at k ps)))
update_shown k ps = ap (λ o. burns (flat_map tickets (option_to_list o))) (value_shown k ps) ∙ ap burns (old_shown (value_at k ps))

updated_shown : (k v : Val) (ps : Pairs) (V : List Val) →
    Same (on_option (shown v) (updated table (shown k) (entries_shown ps) (map shown V))) (on_option v (updated table k ps V))
updated_shown k nothing ps V = update_shown k ps
updated_shown k (some v) ps V = update_shown k ps
updated_shown k _ ps V = refl

exchanged_shown : (k v : Val) (ps : Pairs) (V : List Val) →
    Same (on_option (shown v) (exchanged table (shown k) (entries_shown ps) (map shown V))) (on_option v (exchanged table k ps V))
exchanged_shown k nothing ps V = refl
exchanged_shown k (some v) ps V = refl
exchanged_shown k _ ps V = refl

pub collection_shown : (r : CollectionRow) (V : List Val) → is_on_big_map r ≡ false → Same (collection_step r (map shown V)) (collection_step r V)
collection_shown (i.empty_set a) V h = refl
collection_shown (i.empty_map a b) V h = refl
collection_shown (i.empty_big_map a b) V h = absurd cc
collection_shown i.size_list (list xs ∷ V) h =
    ap (λ n. changes_of (within_limit (int_or_limit (pos n)) (λ z. discarding (list (all_shown xs) ∷ []) (number z ∷ map shown V)))) (count_shown xs)
    ∙ same_limit (int_or_limit (pos (element_count xs))) (λ z. discarding (list xs ∷ []) (number z ∷ V)) (λ z. discarding (list (all_shown xs) ∷ []) (number z ∷ map shown V)) (λ z. one_shown (list xs))
collection_shown i.size_set (set xs ∷ V) h =
    none_limit (int_or_limit (pos (element_count xs))) (λ z. kept (number z ∷ map shown V)) (λ z. refl) ∙ sym (none_limit (int_or_limit (pos (element_count xs))) (λ z. kept (number z ∷ V)) (λ z. refl))
collection_shown i.size_map (table ps ∷ V) h =
    ap (λ n. changes_of (within_limit (int_or_limit (pos n)) (λ z. discarding (table (entries_shown ps) ∷ []) (number z ∷ map shown V)))) (entries_count_shown ps)
    ∙ same_limit (int_or_limit (pos (entry_count ps))) (λ z. discarding (table ps ∷ []) (number z ∷ V)) (λ z. discarding (table (entries_shown ps) ∷ []) (number z ∷ map shown V)) (λ z. one_shown (table ps))
collection_shown i.mem_set (x ∷ set xs ∷ V) h = refl
collection_shown i.mem_map (k ∷ table ps ∷ V) h = one_shown (table ps)
collection_shown i.mem_big_map V h = absurd cc
collection_shown i.get_map (k ∷ table ps ∷ V) h = refl
collection_shown i.get_big_map V h = absurd cc
collection_shown i.update_set (x ∷ truth b ∷ set xs ∷ V) h = refl
collection_shown i.update_map (k ∷ v ∷ table ps ∷ V) h = updated_shown k v ps V
collection_shown i.update_big_map V h = absurd cc
collection_shown i.get_and_update_map (k ∷ v ∷ table ps ∷ V) h = exchanged_shown k v ps V
collection_shown i.get_and_update_big_map V h = absurd cc
collection_shown _ _ h = refl

-- ---- on stacks that show the same

module _ (V W : List Val) (e : map shown V ≡ map shown W) where
  pub stack_same : (r : StackRow) → Same (stack_step r V) (stack_step r W)
  stack_same r = sym (stack_shown r V) ∙ ap (λ X. changes_of (stack_step r X)) e ∙ stack_shown r W

  pub pair_same : (r : PairRow) → Same (pair_step r V) (pair_step r W)
  pair_same r = sym (pair_shown r V) ∙ ap (λ X. changes_of (pair_step r X)) e ∙ pair_shown r W

  pub collection_same : (r : CollectionRow) → is_on_big_map r ≡ false → Same (collection_step r V) (collection_step r W)
  collection_same r h = sym (collection_shown r V h) ∙ ap (λ X. changes_of (collection_step r X)) e ∙ collection_shown r W h

  -- the same tickets lie on them
  pub tickets_same : flat_map tickets V ≡ flat_map tickets W
  tickets_same = sym (flat_shown V) ∙ ap (flat_map tickets) e ∙ flat_shown W
