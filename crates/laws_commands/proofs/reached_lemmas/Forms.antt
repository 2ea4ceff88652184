-- Instructions of each form make lists longer by one item at most for each unit of gas.
use Rattle.std.proofs.Common.{◌≡◌, ◌≤◌, ◌<◌, ◌+◌, ◌-◌, ℕ, zero, suc, pos, Bool, true, false, cond, ◌&&◌, List, [], ◌∷◌, ◌++◌, length, take, drop, Option, Some, None, refl, sym, ap, subst, arith, nat_le}
use Rattle.std.specs.Prelude.{is_none, option_map, option_and_then, if◌then◌else◌}
use Rattle.std.specs.Str.{bytes_eq}
use Rattle.std.proofs.lemmas.Bool.{leb-true}
use Rattle.std.proofs.lemmas.List.{length-append}
use Rattle.rules_text.specs.nodes.Limits.{byte_limit, applied_size, applied_depth}
use Rattle.rules_text.specs.nodes.Tree.{Tree, int, str, bytes, prim, seq, Trees, none, more, size, sizes, depth}
use Rattle.rules_data.specs.forms.Spelling.{default_name, contract_place, spelled_address, written_entrypoint, place_of, entrypoint_of, name_of, is_implicit, is_entrypoint}
use Rattle.rules_data.specs.declared.gas.Kind.{Kind as Priced}
use Rattle.rules_data.specs.types.Kind.{Kind}
use Rattle.rules_data.specs.types.Kind as k
use Rattle.rules_data.specs.types.Attributes.{pushable}
use Rattle.rules_data.specs.values.Val.{Val, Vals, no_val, more_vals, Pairs, no_pair, more_pairs}
use Rattle.rules_data.specs.values.Val as v
use Rattle.rules_data.specs.values.Literals.{Pending, Literal, good, bad, read}
use Rattle.rules_data.specs.values.Weight.{weight}
use Rattle.rules_code.specs.instructions.Types as t
use Rattle.rules_code.specs.instructions.Same.{same_kind}
use Rattle.rules_code.specs.instructions.Straight.{Straight, OperationRow, on_stack, on_pairs, on_unions, on_collections, on_numbers, on_truth, on_text, on_hashes, on_environment, on_operations, on_tickets}
use Rattle.rules_code.specs.instructions.Straight as i
use Rattle.rules_code.specs.instructions.Control.{Pushed, call_kinds, push_of, self_of}
use Rattle.rules_code.specs.instructions.Arguments.{Found, found, fault, and_then, no_argument, type_argument, annotated}
use Rattle.rules_code.specs.instructions.Rules.{Ruled, ruled, faulty}
use Rattle.rules_code.specs.steps.Steps.{step}
use Rattle.rules_code.specs.steps.Step.{optional}
use Rattle.rules_code.specs.steps.Costs.{kind_of, weight_of}
use Rattle.rules_code.specs.typing.Typing.{Typing, bad}
use Rattle.rules_code.specs.typing.Literals.{lambda_fault}
use Rattle.rules_code.specs.typing.Scripts.{TypedView, Outline}
use Rattle.rules_code.specs.typing.Nodes.{outline}
use Rattle.rules_code.specs.evaluation.Surroundings.{Contract, Surroundings}
use Rattle.rules_code.specs.evaluation.Operations.{Operation, transfer, origination, event, Tally, new_contract}
use Rattle.rules_code.specs.evaluation.Outcome.{Outcome, stack, Run, finish}
use Rattle.rules_code.specs.evaluation.Branches.{chosen, if_run, if_none_run, if_left_run, if_cons_run, dip_run}
use Rattle.rules_code.specs.evaluation.Items.{Items, items, mapped_items, with_items, rebuilt, elements, entries, list_of, with_values}
use Rattle.rules_code.specs.evaluation.Shapes.{on_top}
use Rattle.rules_code.specs.evaluation.Loops.{turn_where, turns_run, left_turns_run, loop_run, loop_left_run, each_run, iter_run, map_each_run, map_run}
use Rattle.rules_code.specs.evaluation.Calls.{in_lambda, call_values, exec_run, applied, shallow_enough, small_enough, within_bounds, apply_run, fail_run}
use Rattle.rules_code.specs.evaluation.Contracts.{Lookup, if_found, chosen_entrypoint, takes, address_where, contract_named, contract_of, hash_in, Viewed, viewed_with, viewed_of, view_named, viewed}
use Rattle.rules_code.specs.evaluation.Trying.{trial}
use Rattle.rules_code.specs.evaluation.Issuing.{with_origination}
use Rattle.rules_code.specs.evaluation.Given.{value_of, push_run, body_of, lambda_run, self_run, script_of, on_delegate, create_run}
use Rattle.rules_code.specs.evaluation.Operating.{in_view, behind_view, view_run, operation_run}
use Rattle.rules_code.specs.evaluation.Straight.{minted_so_far, row_run, ruled_run}
use Rattle.rules_files.specs.snapshots.Spelling.{count_vals}
use Rattle.laws_code.proofs.typed.ForCallers.{FoundHas, found_then, named_entrypoint, AllTyped, OutlineGood, outline_good}
use Rattle.laws_commands.proofs.written_lemmas.evaluation.Tags.{name_short, IsNamed, IsNamedRule}
use Rattle.laws_commands.specs.reached.Counted.{ListsWithin, AllListsWithin, EntryListsWithin, StackWithin, EnvironmentWithin, OperationWithin, IssuedWithin, ContractWithin, Begins, Ends}
use Rattle.laws_commands.proofs.reached_lemmas.Literals.{literals_are_counted}
use Rattle.laws_commands.proofs.reached_lemmas.Steps.{more_lists, more_stack, more_step, place_length, step_keeps}
use Rattle.laws_commands.proofs.reached_lemmas.Outcomes.{same_gas, below, still_below, more_issued, less_room, one_more, roomy, begins_again, with_stack, EndsWell, EndsBelow, run_less, ends_after, ends_if, ends_ending, ends_unless, ends_found, ends_goes, ends_charge, ends_paid, ends_finish, ends_issue}
use Rattle.laws_commands.proofs.common.Numbers.{rises}
use Rattle.laws_commands.proofs.common.Lists.{all_append, all_take, all_drop}

-- ---- items

elements_within : (n : ℕ) (xs : Vals) → AllListsWithin n xs → StackWithin n (elements xs)
elements_within n no_val h = tt
elements_within n (more_vals x xs) h = (h.0, elements_within n xs h.1)

entries_within : (n : ℕ) (es : Pairs) → EntryListsWithin n es → StackWithin n (entries es)
entries_within n no_pair h = tt
entries_within n (more_pairs x y es) h = ((h.0, h.1), entries_within n es h.2)

abbrev ItemsWithin : ℕ → Option Items → Type 0
ItemsWithin n None = Unit {0}
ItemsWithin n (Some i) = StackWithin n i.values

items_within : (n : ℕ) (c : Kind) (x : Val) → ListsWithin n x → ItemsWithin n (items c x)
items_within n (k.list a) (v.list xs) h = elements_within n xs h.1
items_within n (k.set a) (v.set xs) h = elements_within n xs h
items_within n (k.map a b) (v.table es) h = entries_within n es h
items_within n _ _ h = tt

mapped_within : (n : ℕ) (c : Kind) (x : Val) → ListsWithin n x → ItemsWithin n (mapped_items c x)
mapped_within n (k.list a) (v.list xs) h = elements_within n xs h.1
mapped_within n (k.map a b) (v.table es) h = entries_within n es h
mapped_within n (k.option a) (v.some x) h = (h, tt)
mapped_within n (k.option a) v.nothing h = tt
mapped_within n _ _ h = tt

listed : (n : ℕ) (ys : List Val) → StackWithin n ys → AllListsWithin n (list_of ys)
listed n [] h = tt
listed n (y ∷ ys) h = (h.0, listed n ys h.1)

listed_count : (ys : List Val) → count_vals (list_of ys) ≡ length ys
listed_count [] = refl
listed_count (y ∷ ys) = ap suc (listed_count ys)

elements_count : (xs : Vals) → length (elements xs) ≡ count_vals xs
elements_count no_val = refl
elements_count (more_vals x xs) = ap suc (elements_count xs)

valued : (n : ℕ) (es : Pairs) (ys : List Val) → EntryListsWithin n es → StackWithin n ys → EntryListsWithin n (with_values es ys)
valued n no_pair ys h g = tt
valued n (more_pairs x y es) [] h g = tt
valued n (more_pairs x y es) (z ∷ zs) h g = (h.0, g.0, valued n es zs h.2 g.1)

three : (a b c d n : ℕ) → a ≡ b → b ≡ c → c ≡ d → d ≤ n → a ≤ n
three a b c d n e f g h = omega (arith, e, f, g, h)

same_items : (x y : Items) → Some x ≡ Some y → x.values ≡ y.values
same_items x y e = cc

rebuilt_within : (n : ℕ) (c : Kind) (x : Val) (i : Items) (ys : List Val) → mapped_items c x ≡ Some i → ListsWithin n x →
    length ys ≡ length i.values → StackWithin n ys →
    ListsWithin n (rebuilt x ys)
rebuilt_within n (k.list a) (v.list xs) i ys e h l g = (
  three (count_vals (list_of ys)) (length ys) (length i.values) (count_vals xs) n (listed_count ys) l
      (subst (λ zs. length zs ≡ count_vals xs) (same_items (record { kind = a; values = elements xs }) i e) (elements_count xs)) h.0,
  listed n ys g,
)
rebuilt_within n (k.map a b) (v.table es) i ys e h l g = valued n es ys h g
rebuilt_within n (k.option a) (v.some x) i [] e h l g = h
rebuilt_within n (k.option a) (v.some x) i (y ∷ ys) e h l g = g.0
rebuilt_within n (k.option a) v.nothing i ys e h l g = tt
rebuilt_within n _ _ i ys e h l g = absurd cc

no_item : (a c : ℕ) → a + 0 ≡ c → a ≡ c
no_item a c e = omega (arith, e)

one_longer : (ys : List Val) (y : Val) → length (ys ++ y ∷ []) ≡ suc (length ys)
one_longer ys y = let e = length-append ys (y ∷ []) in omega (arith, e)

-- ---- what is written in arguments

pushed_small : (ts : Trees) → FoundHas (λ p. size p.literal ≤ sizes ts) (push_of ts)
pushed_small (more t (more x none)) = by (type_argument pushable 1 t)
  where
    by : (a : Found Kind) →
        FoundHas (λ (p : Pushed). size p.literal ≤ sizes (more t (more x none))) (and_then a
        (λ a. found record { kind = a; location = 1 + size t; literal = x }))
    by (found a) = omega arith
    by (fault l) = tt
pushed_small none = tt
pushed_small (more t none) = tt
pushed_small (more t (more x (more y ts))) = tt

found_is : {A : Type 0} (P : A → Type 0) (o : Found A) (x : A) → FoundHas P o → o ≡ found x → P x
found_is P (found y) x h e = let f : y ≡ x = cc in subst P f h
found_is P (fault l) x h e = absurd cc

value_is : (l : Literal Val) (x : Val) → value_of l ≡ Some x → (ps : List Pending) × (l ≡ good x ps)
value_is (good y ps) x e = let f : y ≡ x = cc in (ps, ap (λ z. good z ps) f)
value_is (bad l) x e = absurd cc

body_small : (ts : Trees) (x : Tree) → body_of ts ≡ Some x → size x ≤ sizes ts
body_small (more a (more r (more (seq ts) none))) x e = let f : seq ts ≡ x = cc in subst (λ y. size y ≤ sizes (more a (more r (more
    (seq ts) none)))) f (omega arith)
body_small none x e = absurd cc
body_small (more a none) x e = absurd cc
body_small (more a (more r none)) x e = absurd cc
body_small (more a (more r (more (int n) ts))) x e = absurd cc
body_small (more a (more r (more (str n) ts))) x e = absurd cc
body_small (more a (more r (more (bytes n) ts))) x e = absurd cc
body_small (more a (more r (more (prim n as' us) ts))) x e = absurd cc
body_small (more a (more r (more (seq us) (more w ts)))) x e = absurd cc

script_small : (ts : Trees) (x : Tree) → script_of ts ≡ Some x → size x ≤ sizes ts
script_small (more u none) x e = let f : u ≡ x = cc in subst (λ y. size y ≤ sizes (more u none)) f (omega arith)
script_small none x e = absurd cc
script_small (more u (more w ts)) x e = absurd cc

abbrev IsShortNamed : List ℕ → Type 0
IsShortNamed name = length name ≤ 31

self_named : (annots : List (List ℕ)) (ts : Trees) → FoundHas IsShortNamed (self_of annots ts)
self_named annots ts =
    found_then (λ name. is_entrypoint name ≡ true) IsShortNamed (annotated default_name annots) (λ name. no_argument ts name)
    (named_entrypoint default_name annots refl) (λ name h. by ts name h)
  where
    by : (ts : Trees) (name : List ℕ) → is_entrypoint name ≡ true → FoundHas IsShortNamed (no_argument ts name)
    by none name h = (name_short name h).1
    by (more t ts) name h = tt

-- ---- addresses

written_short : (name : List ℕ) → length (written_entrypoint name) ≤ length name
written_short name = by (bytes_eq name default_name)
  where
    by : (b : Bool) → length (cond b [] name) ≤ length name
    by true = omega arith
    by false = omega arith

spelled_length : (place name : List ℕ) → length (spelled_address place name) ≤ length place + length name
spelled_length place name = let e = length-append place (written_entrypoint name) in let w = written_short name in omega (arith, e, w)

pub take_most : (n : ℕ) (b : List ℕ) → length (take n b) ≤ n
take_most zero b = omega arith
take_most (suc n) [] = omega arith
take_most (suc n) (x ∷ b) = let h : length (take n b) ≤ n = take_most n b in omega (arith, h)

both_parts : (n : ℕ) (b : List ℕ) → length (take n b) + length (drop n b) ≡ length b
both_parts zero b = omega arith
both_parts (suc n) [] = omega arith
both_parts (suc n) (x ∷ b) = let h : length (take n b) + length (drop n b) ≡ length b = both_parts n b in omega (arith, h)

abbrev ShortIf : ℕ → Option (List ℕ) → Type 0
ShortIf n None = Unit {0}
ShortIf n (Some b) = length b ≤ n

address_within : (n : ℕ) (at : Lookup) (place : List ℕ) (a : Kind) (o : Option (List ℕ)) →
    ShortIf n (option_map (λ name. spelled_address place name) o) →
    ShortIf n (contract_named at place a o)
address_within n at place a None h = tt
address_within n at place a (Some name) h = by (takes at place name a)
  where
    by : (q : Bool) → ShortIf n (address_where q (spelled_address place name))
    by true = h
    by false = tt

some_room : (a b c d n : ℕ) → a ≤ b + c → b ≤ 22 → c ≤ 31 → byte_limit ≤ n → a ≤ n
some_room a b c d n h g f e = omega (arith, h, g, f, e)

-- a default name is written as nothing
written_name : (rest : List ℕ) → length (written_entrypoint (name_of rest)) ≤ length rest
written_name [] = by (bytes_eq default_name default_name) refl
  where
    by : (b : Bool) → bytes_eq default_name default_name ≡ b → length (cond b [] default_name) ≤ 0
    by true e = omega arith
    by false e = absurd cc
written_name (c ∷ name) = written_short (c ∷ name)

whole : (n : ℕ) (b : List ℕ) → length b ≤ n → length (spelled_address (place_of b) (entrypoint_of b)) ≤ n
whole n b h =
    let e = length-append (place_of b) (written_entrypoint (entrypoint_of b)) in
    let w = written_name (drop 22 b) in
    let p = both_parts 22 b in
    omega (arith, e, w, p, h)

contract_within : (n : ℕ) (at : Lookup) (name b : List ℕ) (a : Kind) → byte_limit ≤ n → length name ≤ 31 → length b ≤ n →
    ShortIf n (contract_of at name a b)
contract_within n at name b a big short h =
    address_within n at (place_of b) a (chosen_entrypoint (entrypoint_of b) name) (by (bytes_eq (entrypoint_of b) default_name))
  where
    other : (q : Bool) → ShortIf n (option_map (λ name. spelled_address (place_of b) name) (if q then Some (entrypoint_of b) else None))
    other true = whole n b h
    other false = tt

    by : (q : Bool) → ShortIf n (option_map (λ name. spelled_address (place_of b) name)
        (if q then Some name else if bytes_eq name default_name then Some (entrypoint_of b) else None))
    by true =
        some_room (length (spelled_address (place_of b) name)) (length (place_of b)) (length name) 0 n (spelled_length
        (place_of b) name) (take_most 22 b) short big
    by false = other (bytes_eq name default_name)

address_is : (n : ℕ) (o : Option (List ℕ)) → ShortIf n o → ListsWithin n (optional (option_map v.bytes o))
address_is n None h = tt
address_is n (Some b) h = h

-- ---- views

record ViewWithin (n : ℕ) (w : Viewed) : Type 0 where
  hash : length w.hash ≤ 20
  body : size w.body ≤ n
  storage : ListsWithin n w.contract.storage

abbrev ViewIf : ℕ → Option Viewed → Type 0
ViewIf n None = Unit {0}
ViewIf n (Some w) = ViewWithin n w

module _ (n : ℕ) (a b : Kind) (hash : List ℕ) (short : length hash ≤ 20) (c : Contract) (within : ContractWithin n c) where
  one_view : (s : Kind) (w : TypedView) → size w.body.node ≤ size c.script → ViewIf n (viewed_with hash c s a b w)
  one_view s w h = by (same_kind w.input a && same_kind w.output b)
    where
      by : (q : Bool) → ViewIf n (if q then Some (record { hash = hash; contract = c; storage = s; body = w.body.node }) else None)
      by true = record { hash = short; body = rises (size w.body.node) (size c.script) n h within.0; storage = within.1 }
      by false = tt

  view_found : (s : Kind) (name : List ℕ) (ws : List TypedView) → AllTyped (size c.script) ws →
      ViewIf n (option_and_then (viewed_with hash c s a b) (view_named name ws))
  view_found s name [] h = tt
  view_found s name (w ∷ ws) h = by (bytes_eq w.name name) (view_found s name ws h.1)
    where
      by : (q : Bool) → ViewIf n (option_and_then (viewed_with hash c s a b) (view_named name ws)) →
          ViewIf n (option_and_then (viewed_with hash c s a b) (if q then Some w else view_named name ws))
      by true r = one_view s w (h.0.body.small)
      by false r = r

  of_outline : (name : List ℕ) (o : Found Outline) → FoundHas (OutlineGood (size c.script)) o →
      ViewIf n (option_and_then (λ o. option_and_then (viewed_with hash c o.storage a b) (view_named name o.views)) (if_found o))
  of_outline name (found o) h = view_found o.storage name o.views h.views
  of_outline name (fault l) h = tt

view_within : (n : ℕ) (e : Surroundings) → ((hash : List ℕ) (c : Contract) → e.contract_at hash ≡ Some c → ContractWithin n c) →
    (a b : Kind) (name address : List ℕ) →
    ViewIf n (viewed e.contract_at name a b address)
view_within n e cs a b name address = by (is_implicit (place_of address))
  where
    at_hash : (o : Option Contract) → e.contract_at (hash_in (place_of address)) ≡ o →
        ViewIf n (option_and_then (λ c. viewed_of (hash_in (place_of address)) c name a b) o)
    at_hash None there = tt
    at_hash (Some c) there =
        of_outline n a b (hash_in (place_of address)) (take_most 20 (drop 1 (place_of address))) c (cs (hash_in
        (place_of address)) c there) name (outline c.script)
        (outline_good c.script)

    by : (q : Bool) → ViewIf n (option_and_then (λ c. viewed_of (hash_in (place_of address)) c name a b)
        (if q then None else e.contract_at (hash_in (place_of address))))
    by true = tt
    by false = at_hash (e.contract_at (hash_in (place_of address))) refl

-- ---- branches and loops

module _ (most : ℕ) (e : Surroundings) (d : ℕ) where
  chosen_ends : (b : Bool) (g : ℕ) (r s : Run) → EndsWell most g r → EndsWell most g s → EndsWell most g (chosen b r s)
  chosen_ends true g r s n h = n
  chosen_ends false g r s n h = h

  pub run_if : (A : List Kind) (V : List Val) (m : Tally) (r s : Run) → Begins most e V m → EndsWell most m.gas r →
      EndsWell most m.gas s → Ends most m.gas (if_run r s e d A V m)
  run_if (t.bool ∷ A) (v.truth b ∷ V) m r s g n h =
      ends_paid most e _ (v.truth b ∷ V) m _ g (λ gas lt g. chosen_ends b m.gas r s n h e d A V (record m { gas = gas })
      (below gas m.gas lt)
      (with_stack most e (v.truth b ∷ V) (record m { gas = gas }) g V g.values.1))
  run_if _ _ m r s g n h = tt

  pub run_if_none : (A : List Kind) (V : List Val) (m : Tally) (r s : Run) → Begins most e V m → EndsWell most m.gas r →
      EndsWell most m.gas s → Ends most m.gas (if_none_run r s e d A V m)
  run_if_none (k.option a ∷ A) (v.nothing ∷ V) m r s g n h =
      ends_paid most e _ (v.nothing ∷ V) m _ g (λ gas lt g. n e d A V (record m { gas = gas }) (below gas m.gas lt)
      (with_stack most e (v.nothing ∷ V) (record m { gas = gas }) g V g.values.1))
  run_if_none (k.option a ∷ A) (v.some x ∷ V) m r s g n h =
      ends_paid most e _ (v.some x ∷ V) m _ g (λ gas lt g. h e d (a ∷ A) (x ∷ V) (record m { gas = gas }) (below gas m.gas lt)
      (with_stack most e (v.some x ∷ V) (record m { gas = gas }) g (x ∷ V) g.values))
  run_if_none _ _ m r s g n h = tt

  pub run_if_left : (A : List Kind) (V : List Val) (m : Tally) (r s : Run) → Begins most e V m → EndsWell most m.gas r →
      EndsWell most m.gas s → Ends most m.gas (if_left_run r s e d A V m)
  run_if_left (k.or a b ∷ A) (v.left x ∷ V) m r s g n h =
      ends_paid most e _ (v.left x ∷ V) m _ g (λ gas lt g. n e d (a ∷ A) (x ∷ V) (record m { gas = gas }) (below gas m.gas lt)
      (with_stack most e (v.left x ∷ V) (record m { gas = gas }) g (x ∷ V) g.values))
  run_if_left (k.or a b ∷ A) (v.right x ∷ V) m r s g n h =
      ends_paid most e _ (v.right x ∷ V) m _ g (λ gas lt g. h e d (b ∷ A) (x ∷ V) (record m { gas = gas }) (below gas m.gas lt)
      (with_stack most e (v.right x ∷ V) (record m { gas = gas }) g (x ∷ V) g.values))
  run_if_left _ _ m r s g n h = tt

  fewer : (a n : ℕ) → suc a ≤ n → a ≤ n
  fewer a n h = omega (arith, h)

  pub run_if_cons : (A : List Kind) (V : List Val) (m : Tally) (r s : Run) → Begins most e V m → EndsWell most m.gas r →
      EndsWell most m.gas s → Ends most m.gas (if_cons_run r s e d A V m)
  run_if_cons (k.list a ∷ A) (v.list (more_vals x xs) ∷ V) m r s g n h =
      ends_paid most e _ (v.list (more_vals x xs) ∷ V) m _ g (λ gas lt g. n e d (a ∷ k.list a ∷ A) (x ∷ v.list xs ∷ V)
      (record m { gas = gas }) (below gas m.gas lt)
      (with_stack most e (v.list (more_vals x xs) ∷ V) (record m { gas = gas }) g (x ∷ v.list xs ∷ V)
      (g.values.0.1.0, ((fewer (count_vals xs) (most - gas) g.values.0.0, g.values.0.1.1), g.values.1))))
  run_if_cons (k.list a ∷ A) (v.list no_val ∷ V) m r s g n h =
      ends_paid most e _ (v.list no_val ∷ V) m _ g (λ gas lt g. h e d A V (record m { gas = gas }) (below gas m.gas lt)
      (with_stack most e (v.list no_val ∷ V) (record m { gas = gas }) g V g.values.1))
  run_if_cons _ _ m r s g n h = tt

  pub run_dip : (n : ℕ) (A : List Kind) (V : List Val) (m : Tally) (r : Run) → Begins most e V m → EndsWell most m.gas r →
      Ends most m.gas (dip_run n r e d A V m)
  run_dip n A V m r g h =
      ends_if most (nat_le n (length A) && nat_le n (length V)) m.gas _ (ends_paid most e _ V m _ g (λ gas lt g.
      let i : Tally = record m { gas = gas } in
      ends_after most gas (r e d (drop n A) (drop n V) i) (λ B W m. stack (take n A ++ B) (take n V ++ W) m)
      (h e d (drop n A) (drop n V) i (below gas m.gas lt) (with_stack most e V i g (drop n V) (all_drop (ListsWithin
      (most - gas)) n V g.values)))
      (λ B W j le w s. (
        same_gas j.gas,
        all_append (ListsWithin (most - j.gas)) (take n V) W
            (more_stack (most - gas) (most - j.gas) (take n V) (less_room most j.gas gas le) (all_take (ListsWithin
            (most - gas)) n V g.values)) w,
        s,
      ))))

  run_turn : (b : Bool) (A : List Kind) (V : List Val) (m : Tally) (p r : Run) → Begins most e V m → EndsBelow most m.gas p →
      EndsWell most m.gas r →
      Ends most m.gas (turn_where b p r e d A V m)
  run_turn true A V m p r g n h =
      ends_paid most e _ V m _ g (λ gas lt g.
      let i : Tally = record m { gas = gas } in
      ends_ending most gas (r e d A V i) (t.bool ∷ A) (p e d) (h e d A V i (below gas m.gas lt) g)
      (λ B W j le w s. n e d B W j (still_below j.gas gas m.gas le lt) (begins_again most e V i g W j le w s)))
  run_turn false A V m p r g n h = (same_gas m.gas, g.values, g.issued)

  pub run_turns : (A : List Kind) (V : List Val) (m : Tally) (p r : Run) → Begins most e V m → EndsBelow most m.gas p →
      EndsWell most m.gas r → Ends most m.gas (turns_run p r e d A V m)
  run_turns (t.bool ∷ A) (v.truth b ∷ V) m p r g n h = run_turn b A V m p r (with_stack most e (v.truth b ∷ V) m g V g.values.1) n h
  run_turns _ _ m p r g n h = tt

  pub run_left_turns : (A : List Kind) (V : List Val) (m : Tally) (p r : Run) → Begins most e V m → EndsBelow most m.gas p →
      EndsWell most m.gas r →
      Ends most m.gas (left_turns_run p r e d A V m)
  run_left_turns (k.or a b ∷ A) (v.left x ∷ V) m p r g n h =
      ends_paid most e _ (v.left x ∷ V) m _ g (λ gas lt g.
      let i : Tally = record m { gas = gas } in
      ends_ending most gas (r e d (a ∷ A) (x ∷ V) i) (k.or a b ∷ A) (p e d)
      (h e d (a ∷ A) (x ∷ V) i (below gas m.gas lt) (with_stack most e (v.left x ∷ V) i g (x ∷ V) g.values))
      (λ B W j le w s. n e d B W j (still_below j.gas gas m.gas le lt) (begins_again most e (v.left x ∷ V) i g W j le w s)))
  run_left_turns (k.or a b ∷ A) (v.right x ∷ V) m p r g n h = (same_gas m.gas, g.values, g.issued)
  run_left_turns _ _ m p r g n h = tt

  pub run_loop : (A : List Kind) (V : List Val) (m : Tally) (p : Run) → Begins most e V m → EndsBelow most m.gas p →
      Ends most m.gas (loop_run p e d A V m)
  run_loop (t.bool ∷ A) (v.truth b ∷ V) m p g n =
      ends_paid most e _ (v.truth b ∷ V) m _ g (λ gas lt g. n e d (t.bool ∷ A) (v.truth b ∷ V) (record m { gas = gas }) lt g)
  run_loop _ _ m p g n = tt

  pub run_loop_left : (A : List Kind) (V : List Val) (m : Tally) (p : Run) → Begins most e V m → EndsBelow most m.gas p →
      Ends most m.gas (loop_left_run p e d A V m)
  run_loop_left (k.or a b ∷ A) (v.left x ∷ V) m p g n =
      ends_paid most e _ (v.left x ∷ V) m _ g (λ gas lt g. n e d (k.or a b ∷ A) (v.left x ∷ V) (record m { gas = gas }) lt g)
  run_loop_left (k.or a b ∷ A) (v.right x ∷ V) m p g n =
      ends_paid most e _ (v.right x ∷ V) m _ g (λ gas lt g. n e d (k.or a b ∷ A) (v.right x ∷ V) (record m { gas = gas }) lt g)
  run_loop_left _ _ m p g n = tt

  -- ---- ITER and MAP

  run_each : (a : Kind) (xs : List Val) (A : List Kind) (V : List Val) (m : Tally) (r : Run) → Begins most e V m →
      StackWithin (most - m.gas) xs → EndsWell most m.gas r →
      Ends most m.gas (each_run r a xs e d A V m)
  run_each a [] A V m r g w n = (same_gas m.gas, g.values, g.issued)
  run_each a (x ∷ xs) A V m r g w n =
      ends_paid most e _ V m _ g (λ gas lt g.
      let i : Tally = record m { gas = gas } in
      let ws : StackWithin (most - gas) (x ∷ xs) = more_stack (most - m.gas) (most - gas) (x ∷ xs) (less_room most gas m.gas
      (below gas m.gas lt)) w in
      ends_ending most gas (r e d (a ∷ A) (x ∷ V) i) A (λ B W j. each_run r a xs e d B W j)
      (n e d (a ∷ A) (x ∷ V) i (below gas m.gas lt) (with_stack most e V i g (x ∷ V) (ws.0, g.values)))
      (λ B W j le u s. run_each a xs B W j r (begins_again most e V i g W j le u s) (more_stack (most - gas) (most - j.gas) xs
      (less_room most j.gas gas le) ws.1)
      (run_less most m.gas j.gas r (rises j.gas gas m.gas le (below gas m.gas lt)) n)))

  pub run_iter : (A : List Kind) (V : List Val) (m : Tally) (r : Run) → Begins most e V m → EndsWell most m.gas r →
      Ends most m.gas (iter_run r e d A V m)
  run_iter (c ∷ A) (x ∷ V) m r g n =
      ends_unless most m.gas (items c x) _ (λ is same. ends_paid most e _ (x ∷ V) m _ g (λ gas lt g.
      let i : Tally = record m { gas = gas } in
      run_each is.kind is.values A V i r (with_stack most e (x ∷ V) i g V g.values.1)
      (subst (ItemsWithin (most - gas)) same (items_within (most - gas) c x g.values.0)) (run_less most m.gas gas r
      (below gas m.gas lt) n)))
  run_iter [] V m r g n = tt
  run_iter (c ∷ A) [] m r g n = tt

  module _ (r : Run) (a b c : Kind) (made : List Val → Val) (total low : ℕ)
      (kept : (n : ℕ) → low ≤ n → (ys : List Val) → length ys ≡ total → StackWithin n ys → ListsWithin n (made ys)) where
    run_map_each : (xs ys : List Val) (A : List Kind) (V : List Val) (m : Tally) → Begins most e V m → StackWithin (most - m.gas) xs →
        StackWithin (most - m.gas) ys →
        length ys + length xs ≡ total → low ≤ most - m.gas → EndsWell most m.gas r →
        Ends most m.gas (map_each_run r a b made c ys xs e d A V m)
    run_map_each [] ys A V m g w u count le n =
        (same_gas m.gas, (kept (most - m.gas) le ys (no_item (length ys) total count) u, g.values), g.issued)
    run_map_each (x ∷ xs) ys A V m g w u count le n =
        ends_paid most e _ V m _ g (λ gas lt g.
        let i : Tally = record m { gas = gas } in
        let room = less_room most gas m.gas (below gas m.gas lt) in
        let ws : StackWithin (most - gas) (x ∷ xs) = more_stack (most - m.gas) (most - gas) (x ∷ xs) room w in
        let us : StackWithin (most - gas) ys = more_stack (most - m.gas) (most - gas) ys room u in
        ends_ending most gas (r e d (a ∷ A) (x ∷ V) i) (b ∷ A) (λ B W j. on_top B W (λ _ B y W. map_each_run r a b made c
        (ys ++ y ∷ []) xs e d B W j))
        (n e d (a ∷ A) (x ∷ V) i (below gas m.gas lt) (with_stack most e V i g (x ∷ V) (ws.0, g.values)))
        (λ B W j less f s. by B W j (begins_again most e V i g W j less f s) (λ B y W b. run_map_each xs (ys ++ y ∷ []) B W j
        (with_stack most e (y ∷ W) j b W b.values.1)
        (more_stack (most - gas) (most - j.gas) xs (less_room most j.gas gas less) ws.1)
        (all_append (ListsWithin (most - j.gas)) ys (y ∷ []) (more_stack (most - gas) (most - j.gas) ys
        (less_room most j.gas gas less) us) (b.values.0, tt))
        (let l = one_longer ys y in omega (arith, l, count))
        (rises low (most - m.gas) (most - j.gas) le (less_room most j.gas m.gas (rises j.gas gas m.gas less (below gas m.gas lt))))
        (run_less most m.gas j.gas r (rises j.gas gas m.gas less (below gas m.gas lt)) n))))
      where
        by : (B : List Kind) (W : List Val) (j : Tally) → Begins most e W j →
            ((B : List Kind) (y : Val) (W : List Val) → Begins most e (y ∷ W) j →
            Ends most j.gas (map_each_run r a b made c (ys ++ y ∷ []) xs e d B W j)) →
            Ends most j.gas (on_top B W (λ _ B y W. map_each_run r a b made c (ys ++ y ∷ []) xs e d B W j))
        by [] W j g again = tt
        by (z ∷ B) [] j g again = tt
        by (z ∷ B) (y ∷ W) j g again = again B y W g

  pub run_map : (result : Kind → List Kind → Option Kind) (A : List Kind) (V : List Val) (m : Tally) (r : Run) → Begins most e V m →
      EndsWell most m.gas r →
      Ends most m.gas (map_run result r e d A V m)
  run_map result (c ∷ A) (x ∷ V) m r g n =
      ends_unless most m.gas (mapped_items c x) _ (λ is same. ends_unless most m.gas (result is.kind A) _ (λ b q. ends_paid most e _
      (x ∷ V) m _ g (λ gas lt g.
      let i : Tally = record m { gas = gas } in
      run_map_each r is.kind b (with_items c b) (rebuilt x) (length is.values) (most - gas)
      (λ n le ys count w. rebuilt_within n c x is ys same (more_lists (most - gas) n x le g.values.0) count w) is.values [] A V i
      (with_stack most e (x ∷ V) i g V g.values.1) (subst (ItemsWithin (most - gas)) same (mapped_within
      (most - gas) c x g.values.0)) tt (omega arith)
      (same_gas (most - gas)) (run_less most m.gas gas r (below gas m.gas lt) n))))
  run_map result [] V m r g n = tt
  run_map result (c ∷ A) [] m r g n = tt

-- ---- calls

begins_lambda : (most : ℕ) (e : Surroundings) (V : List Val) (m : Tally) → Begins most e V m → Begins most (in_lambda e) V m
begins_lambda most e V m b = record {
  charged = b.charged;
  room = b.room;
  environment = b.environment;
  contracts = b.contracts;
  values = b.values;
  issued = b.issued;
}

called_within : (n : ℕ) (x : Val) (body : Trees) (self : Bool) → ListsWithin n x → size (seq body) ≤ n →
    StackWithin n (call_values x body self)
called_within n x body true h g = (h, (g, tt))
called_within n x body false h g = (h, tt)

applied_few : (a n : ℕ) → a ≤ applied_size → byte_limit ≤ n → a ≤ n
applied_few a n h g = omega (arith, h, g)

-- nodes that are evaluated with less gas
abbrev pub NodesBelow : ℕ → ℕ → (Tree → Run) → Type 0
NodesBelow most g p = (x : Tree) (e : Surroundings) (d : ℕ) (A : List Kind) (V : List Val) (m : Tally) → m.gas < g →
    size x ≤ most - m.gas → Begins most e V m →
    Ends most m.gas (p x e d A V m)

module _ (most : ℕ) (e : Surroundings) (d : ℕ) where
  pub run_exec : (A : List Kind) (V : List Val) (m : Tally) (p : Tree → Run) → Begins most e V m → NodesBelow most m.gas p →
      Ends most m.gas (exec_run p e d A V m)
  run_exec (a ∷ k.lambda c r ∷ A) (x ∷ v.lambda (seq body) self ∷ V) m p g n =
      ends_if most (same_kind a c) m.gas _ (ends_if most (is_none (lambda_fault a r self (seq body))) m.gas _
      (ends_paid most e _ (x ∷ v.lambda (seq body) self ∷ V) m _ g (λ gas lt g.
      let i : Tally = record m { gas = gas } in
      let around : Begins most (in_lambda e) (x ∷ v.lambda (seq body) self ∷ V) i = begins_lambda most e (x ∷ v.lambda
      (seq body) self ∷ V) i g in
      ends_ending most gas (p (seq body) (in_lambda e) d (call_kinds a r self) (call_values x body self) i) (r ∷ []) (λ _ W m. stack
      (r ∷ A) (W ++ V) m)
      (n (seq body) (in_lambda e) d (call_kinds a r self) (call_values x body self) i lt g.values.1.0
      (with_stack most (in_lambda e) (x ∷ v.lambda (seq body) self ∷ V) i around (call_values x body self) (called_within
      (most - gas) x body self g.values.0 g.values.1.0)))
      (λ B W j le w s. (
        same_gas j.gas,
        all_append (ListsWithin (most - j.gas)) W V w (more_stack (most - gas) (most - j.gas) V (less_room most j.gas gas le) g.values.1.1),
        s,
      )))))
  run_exec _ _ m p g n = tt

  run_within : (g : ℕ) (x : Tree) (go : Tree → Outcome) → (size x ≤ applied_size → Ends most g (go x)) → Ends most g (within_bounds x go)
  run_within g x go h = by (nat_le (size x) applied_size) refl
    where
      shallow : (b : Bool) → Ends most g (go x) → Ends most g (shallow_enough b x go)
      shallow true f = f
      shallow false f = tt

      by : (b : Bool) → nat_le (size x) applied_size ≡ b → Ends most g (small_enough b x go)
      by true q = shallow (nat_le (depth x) applied_depth) (h (leb-true (size x) applied_size q))
      by false q = tt

  pub run_apply : (A : List Kind) (V : List Val) (m : Tally) → Begins most e V m → Ends most m.gas (apply_run e d A V m)
  run_apply (a ∷ k.lambda (k.pair c b) r ∷ A) (x ∷ v.lambda (seq body) self ∷ V) m g =
      ends_if most (same_kind a c) m.gas _ (ends_if most (pushable a) m.gas _ (ends_charge most e _ (weight x) (x ∷ v.lambda
      (seq body) self ∷ V) m _ g (λ gas lt g.
      run_within gas (applied a b r x (seq body) self) (λ y. stack (k.lambda b r ∷ A) (v.lambda y false ∷ V) (record m { gas = gas }))
      (λ few. (
        same_gas gas,
        (applied_few (size (applied a b r x (seq body) self)) (most - gas) few (roomy most byte_limit gas g.room), g.values.1.1),
        g.issued,
      )))))
  run_apply _ _ m g = tt

  pub run_fail : (A : List Kind) (V : List Val) (m : Tally) → Begins most e V m → Ends most m.gas (fail_run e d A V m)
  run_fail (a ∷ A) (x ∷ V) m g = ends_if most (pushable a) m.gas _ (ends_paid most e _ (x ∷ V) m _ g (λ gas lt g. tt))
  run_fail [] V m g = tt
  run_fail (a ∷ A) [] m g = tt

  -- ---- what is written in arguments

  pub run_push : (ts : Trees) (u : Typing) (A : List Kind) (V : List Val) (m : Tally) → Begins most e V m → sizes ts ≤ most - m.gas →
      Ends most m.gas (push_run ts u e d A V m)
  run_push ts u A V m g few =
      ends_found most m.gas (push_of ts) _ (λ p q. ends_unless most m.gas (value_of (read p.kind p.location p.literal)) _
      (λ x o. ends_goes most m.gas u _
      (λ B. ends_charge most e _ (weight x) V m _ g (λ gas lt g.
      let l = value_is (read p.kind p.location p.literal) x o in
      let f : size p.literal ≤ sizes ts = found_is (λ p. size p.literal ≤ sizes ts) (push_of ts) p (pushed_small ts) q in
      let room = less_room most gas m.gas (below gas m.gas lt) in (
        same_gas gas,
        (
          literals_are_counted (most - gas) p.kind p.location p.literal x l.0
              (rises (size p.literal) (sizes ts) (most - gas) f (rises (sizes ts) (most - m.gas) (most - gas) few room))
              (roomy most byte_limit gas g.room) l.1,
          g.values,
        ),
        g.issued,
      )))))

  pub run_lambda : (kind : Priced) (self : Bool) (ts : Trees) (u : Typing) (A : List Kind) (V : List Val) (m : Tally) →
      Begins most e V m → sizes ts ≤ most - m.gas →
      Ends most m.gas (lambda_run kind self ts u e d A V m)
  run_lambda kind self ts u A V m g few =
      ends_unless most m.gas (body_of ts) _ (λ body q. ends_goes most m.gas u _ (λ B. ends_paid most e kind V m _ g (λ gas lt g. (
        same_gas gas,
        (
          rises (size body) (sizes ts) (most - gas) (body_small ts body q)
              (rises (sizes ts) (most - m.gas) (most - gas) few (less_room most gas m.gas (below gas m.gas lt))),
          g.values,
        ),
        g.issued,
      ))))

  own_named : (own name : List ℕ) (n : ℕ) → length own ≤ 20 → length name ≤ 31 → byte_limit ≤ n →
      length (spelled_address (contract_place own) name) ≤ n
  own_named own name n h g big =
      let l = spelled_length (contract_place own) name in
      let p = length-append own (0 ∷ []) in
      omega (arith, l, p, h, g, big)

  pub run_self : (annots : List (List ℕ)) (ts : Trees) (u : Typing) (A : List Kind) (V : List Val) (m : Tally) → Begins most e V m →
      Ends most m.gas (self_run annots ts u e d A V m)
  run_self annots ts u A V m g =
      ends_found most m.gas (self_of annots ts) _ (λ name q. ends_goes most m.gas u _ (λ B. ends_paid most e _ V m _ g (λ gas lt g. (
        same_gas gas,
        (
          own_named e.environment.own name (most - gas) g.environment.own (found_is IsShortNamed (self_of annots ts) name
              (self_named annots ts) q)
              (roomy most byte_limit gas g.room),
          g.values,
        ),
        g.issued,
      ))))

  on_delegate_ends : (g : ℕ) (x : Val) (go : Option (List ℕ) → Outcome) → ((o : Option (List ℕ)) → Ends most g (go o)) →
      Ends most g (on_delegate x go)
  on_delegate_ends g v.nothing go h = h None
  on_delegate_ends g (v.some (v.bytes b)) go h = h (Some b)
  on_delegate_ends g _ go h = tt

  new_short : (group index : ℕ) → length (contract_place (new_contract group index)) ≤ byte_limit
  new_short group index = place_length (new_contract group index) (omega arith)

  pub run_create : (ts : Trees) (u : Typing) (A : List Kind) (V : List Val) (m : Tally) → Begins most e V m → sizes ts ≤ most - m.gas →
      Ends most m.gas (create_run ts u e d A V m)
  run_create ts u A (x ∷ v.number (pos amount) ∷ y ∷ V) m g few =
      ends_unless most m.gas (script_of ts) _ (λ script q. ends_goes most m.gas u _ (λ B. on_delegate_ends m.gas x _ (λ delegate.
      ends_paid most e _ (x ∷ v.number (pos amount) ∷ y ∷ V) m _ g (λ gas lt g.
      let i : Tally = record m { gas = gas } in
      let hash = new_contract e.group m.originations in
      ends_issue most (origination delegate amount script y hash) (with_origination i) (λ o m. stack B (o ∷ v.bytes
      (contract_place hash) ∷ V) m) (
        rises (size script) (sizes ts) (most - gas) (script_small ts script q)
            (rises (sizes ts) (most - m.gas) (most - gas) few (less_room most gas m.gas (below gas m.gas lt))),
        g.values.1.1.0,
      ) g.issued
      (λ l j same s. ended j gas same B l hash V (rises (length (contract_place hash)) byte_limit (most - gas)
      (new_short e.group m.originations) (roomy most byte_limit gas g.room))
      g.values.1.1.1 s)))))
    where
      ended : (j : Tally) (gas : ℕ) → j.gas ≡ gas → (B : List Kind) (l : ℕ) (hash : List ℕ) (V : List Val) →
          length (contract_place hash) ≤ most - gas → StackWithin (most - gas) V →
          IssuedWithin (most - gas) j.issued → Ends most gas (stack B (v.operation l ∷ v.bytes (contract_place hash) ∷ V) j)
      ended j gas same B l hash V h w s = subst (λ gas. Ends most gas (stack B (v.operation l ∷ v.bytes
          (contract_place hash) ∷ V) j)) same (
            same_gas j.gas,
            (
              tt,
              (
                subst (λ gas. length (contract_place hash) ≤ most - gas) (sym same) h,
                subst (λ gas. StackWithin (most - gas) V)
                    (sym same) w,
              ),
            ),
            subst (λ gas. IssuedWithin (most - gas) j.issued) (sym same) s,
          )
  run_create ts u A _ m g few = ends_unless most m.gas (script_of ts) _ (λ script q. ends_goes most m.gas u _ (λ B. tt))

-- ---- instructions without bodies

begins_view : (most : ℕ) (e : Surroundings) (V : List Val) (m : Tally) (w : Viewed) → Begins most e V m → ViewWithin (most - m.gas) w →
    Begins most (in_view e w) V m
begins_view most e V m w b h = record {
  charged = b.charged;
  room = b.room;
  environment = record {
    chain = b.environment.chain;
    source = b.environment.source;
    sender = rises (length (contract_place e.environment.own)) byte_limit (most - m.gas)
        (place_length e.environment.own b.environment.own) (roomy most byte_limit m.gas b.room);
    own = h.hash;
  };
  contracts = b.contracts;
  values = b.values;
  issued = b.issued;
}

module _ (most : ℕ) (p : Tree → Run) (e : Surroundings) (d : ℕ) (m : Tally) (g : ℕ) (lt : m.gas < g) (n : NodesBelow most g p)
    (V : List Val) (b : Begins most e V m) where
  run_view : (a c : Kind) (o : Option Viewed) (x : Val) (A : List Kind) (W : List Val) → ViewIf (most - m.gas) o →
      ListsWithin (most - m.gas) x → StackWithin (most - m.gas) W →
      Ends most m.gas (view_run p e d a c o x A W m)
  run_view a c None x A W h f w = (same_gas m.gas, (tt, w), b.issued)
  run_view a c (Some u) x A W h f w =
      ends_ending most m.gas (p u.body (in_view e u) d (k.pair a u.storage ∷ []) (v.both x u.contract.storage ∷ []) m) (c ∷ [])
      (λ B Y j. on_top B Y (λ _ _ y _. stack A (v.some y ∷ W) (behind_view m j)))
      (n u.body (in_view e u) d (k.pair a u.storage ∷ []) (v.both x u.contract.storage ∷ []) m lt h.body
      (with_stack most (in_view e u) V m (begins_view most e V m u b h) (v.both x u.contract.storage ∷ []) ((f, h.storage), tt)))
      (λ B Y j le y s. by B Y j le y)
    where
      by : (B : List Kind) (Y : List Val) (j : Tally) → j.gas ≤ m.gas → StackWithin (most - j.gas) Y →
          Ends most j.gas (on_top B Y (λ _ _ y _. stack A (v.some y ∷ W) (behind_view m j)))
      by [] Y j le y = tt
      by (z ∷ B) [] j le y = tt
      by (z ∷ B) (y ∷ Y) j le h = (
        same_gas j.gas,
        (h.0, more_stack (most - m.gas) (most - j.gas) W (less_room most j.gas m.gas le) w),
        more_issued (most - m.gas) (most - j.gas) m.issued (less_room most j.gas m.gas le) b.issued,
      )

  -- an operation's result on the stack
  issue_ends : (o : Operation) (B : List Kind) (W : List Val) → OperationWithin (most - m.gas) o → StackWithin (most - m.gas) W →
      (l : ℕ) (j : Tally) → j.gas ≡ m.gas →
      IssuedWithin (most - m.gas) j.issued → Ends most m.gas (stack B (v.operation l ∷ W) j)
  issue_ends o B W h w l j same s = subst (λ gas. Ends most gas (stack B (v.operation l ∷ W) j)) same (
    same_gas j.gas,
    (tt, subst (λ gas. StackWithin (most - gas) W) (sym same) w),
    subst (λ gas. IssuedWithin (most - gas) j.issued) (sym same) s,
  )

  longer_place : (c n l : ℕ) → c ≤ n → n + 1 ≤ l → suc c ≤ l
  longer_place c n l h f = omega (arith, h, f)

  run_operation : (low : ℕ) → low + 1 ≤ most - m.gas → (row : OperationRow) (B : List Kind) (W : List Val) →
      IsNamed (on_operations row) → StackWithin low W → StackWithin (most - m.gas) W →
      Ends most m.gas (operation_run p row e d B W m)
  run_operation low le i.address B (v.bytes c ∷ W) named q w = (same_gas m.gas, w, b.issued)
  run_operation low le i.implicit_account B (v.bytes c ∷ W) named q w =
      (same_gas m.gas, (longer_place (length c) low (most - m.gas) q.0 le, w.1), b.issued)
  run_operation low le (i.contract name a) B (v.bytes c ∷ W) named q w = (
    same_gas m.gas,
    (
      address_is (most - m.gas) (contract_of e.contract_at name a c)
          (contract_within (most - m.gas) e.contract_at name c a (roomy most byte_limit m.gas b.room) named.1 w.0),
      w.1,
    ),
    b.issued,
  )
  run_operation low le i.transfer_tokens B (x ∷ v.number (pos amount) ∷ v.bytes c ∷ W) named q w =
      ends_issue most (transfer x amount c) m (λ o m. stack B (o ∷ W) m) w.0 b.issued (issue_ends (transfer x amount c) B W w.0 w.1.1.1)
  run_operation low le (i.emit tag a) B (x ∷ W) named q w =
      ends_issue most (event tag a x) m (λ o m. stack B (o ∷ W) m) tt b.issued (issue_ends (event tag a x) B W tt w.1)
  run_operation low le (i.view name a c) B (x ∷ v.bytes address ∷ W) named q w =
      run_view a c (viewed e.contract_at name a c address) x B W (view_within (most - m.gas) e b.contracts a c name address) w.0 w.1.1
  run_operation low le _ B _ named q w = tt

  stepped : (low : ℕ) → low + 1 ≤ most - m.gas → byte_limit ≤ low → EnvironmentWithin low e.environment →
      (row : Straight) (B : List Kind) (W : List Val) → StackWithin low W →
      Ends most m.gas (finish (step e.environment (minted_so_far e m) (trial e) row W) B m)
  stepped low le big around row B W q =
      ends_finish most (step e.environment (minted_so_far e m) (trial e) row W) B m
      (more_step (low + 1) (most - m.gas) (step e.environment (minted_so_far e m) (trial e) row W) le
      (step_keeps e.environment (minted_so_far e m) (trial e) row low W big around q)) b.issued

  run_row : (low : ℕ) → low + 1 ≤ most - m.gas → byte_limit ≤ low → EnvironmentWithin low e.environment →
      (row : Straight) (B : List Kind) (W : List Val) → IsNamed row →
      StackWithin low W → StackWithin (most - m.gas) W → Ends most m.gas (row_run p row e d B W m)
  run_row low le big around (on_operations row) B W named q w = run_operation low le row B W named q w
  run_row low le big around (on_stack row) B W named q w = stepped low le big around (on_stack row) B W q
  run_row low le big around (on_pairs row) B W named q w = stepped low le big around (on_pairs row) B W q
  run_row low le big around (on_unions row) B W named q w = stepped low le big around (on_unions row) B W q
  run_row low le big around (on_collections row) B W named q w = stepped low le big around (on_collections row) B W q
  run_row low le big around (on_numbers row) B W named q w = stepped low le big around (on_numbers row) B W q
  run_row low le big around (on_truth row) B W named q w = stepped low le big around (on_truth row) B W q
  run_row low le big around (on_text row) B W named q w = stepped low le big around (on_text row) B W q
  run_row low le big around (on_hashes row) B W named q w = stepped low le big around (on_hashes row) B W q
  run_row low le big around (on_environment row) B W named q w = stepped low le big around (on_environment row) B W q
  run_row low le big around (on_tickets row) B W named q w = stepped low le big around (on_tickets row) B W q

pub run_ruled : (most : ℕ) (p : Tree → Run) (e : Surroundings) (d : ℕ) (u : Ruled) → IsNamedRule u →
    (A : List Kind) (V : List Val) (m : Tally) → Begins most e V m →
    NodesBelow most m.gas p → Ends most m.gas (ruled_run p u e d A V m)
run_ruled most p e d (ruled row B) named A V m g n =
    ends_charge most e (kind_of row) (weight_of row V) V m _ g (λ gas lt b.
    run_row most p e d (record m { gas = gas }) m.gas lt n V b (most - m.gas) (one_more most byte_limit gas m.gas lt g.room)
    (roomy most byte_limit m.gas g.room)
    g.environment row B V named g.values b.values)
run_ruled most p e d (faulty l) named A V m g n = tt
