-- What an instruction burns is a part of the tickets on the stack, and so may be burnt where these may.
use Rattle.std.proofs.Common.{◌≡◌, ℕ, zero, suc, Bool, true, false, List, [], ◌∷◌, ◌++◌, take, drop, flat_map, refl, sym, ap, ◌∙◌, subst, arith}
use Rattle.std.specs.Prelude.{◌-◌, pos, ◌≤ℤ◌, Option, Some, None, Result, Ok, Err, option_map, option_to_list, if◌then◌else◌, nat_le, length, slice_get, insert, remove, is_some}
use Rattle.std.specs.List.{AllByRecursion}
use Rattle.std.specs.Ordering.{is_eq}
use Rattle.std.proofs.lemmas.Int.{ints}
use Rattle.std.proofs.lemmas.List.{append-nil, take-append-drop}
use Rattle.std.proofs.Common.{append_assoc}
use Rattle.rules_data.specs.numbers.Limits.{Limit, int_or_limit}
use Rattle.rules_data.specs.values.Val.{Val, truth, number, nothing, some, both, list, set, table, big_table, Pairs, no_pair, more_pairs}
use Rattle.rules_data.specs.values.Order.{order}
use Rattle.rules_data.specs.values.Tables.{value_at}
use Rattle.rules_data.specs.values.Tickets.{Identity, Held, tickets, pair_tickets}
use Rattle.rules_code.specs.instructions.Straight.{StackRow, PairRow, CollectionRow, TicketRow}
use Rattle.rules_code.specs.instructions.Straight as i
use Rattle.rules_code.specs.steps.Changes.{amount_among}
use Rattle.rules_code.specs.steps.Step.{Step, discarding, kept, on_some, where_true, within_limit}
use Rattle.rules_code.specs.steps.Sets.{element_count, entry_count}
use Rattle.rules_code.specs.steps.Stack.{Part, Replaced, stack_step, pair_step, comb, parts, part_at, passing, replaced, behind}
use Rattle.rules_code.specs.steps.Collections.{collection_step, on_option, updated, exchanged, map_with}
use Rattle.mich_stack.specs.Ends.{gone}
use Rattle.mich_stack.proofs.ForCallers.{burnt_among_burns}
use Rattle.mich_tickets.specs.Books.{Books}
use Rattle.mich_tickets.specs.Limits.{IsPositive, IsReady}
use Rattle.mich_tickets.specs.Prefixes.{among_least, among_append, first_positive, last_positive}
use Rattle.mich_step.specs.Rule.{ticket_stake, tickets_on_top}

-- with ys the tickets xs are positive too, and together no more
pub record IsPart (xs ys : List Held) : Type 0 where
  pub positive : AllByRecursion IsPositive ys → AllByRecursion IsPositive xs
  pub less : AllByRecursion IsPositive ys → (j : Identity) → amount_among j xs ≤ℤ amount_among j ys

pub part_ready : (b : Books) (xs ys : List Held) → IsPart xs ys → IsReady b ys → IsReady b xs
part_ready b xs ys p r = record {
  positive = p.positive r.positive;
  within = λ j. let w = r.within j in let l = p.less r.positive j in omega (arith, ints);
}

part_same : (xs : List Held) → IsPart xs xs
part_same xs = record { positive = λ p. p; less = λ p j. omega (arith, ints) }

pub part_none : (ys : List Held) → IsPart [] ys
part_none ys = record { positive = λ p. tt; less = λ p j. among_least j ys p }

part_trans : (xs ys zs : List Held) → IsPart xs ys → IsPart ys zs → IsPart xs zs
part_trans xs ys zs p q = record {
  positive = λ r. p.positive (q.positive r);
  less = λ r j. let a = p.less (q.positive r) j in let b = q.less r j in omega (arith, ints);
}

pub part_front : (xs ys : List Held) → IsPart xs (xs ++ ys)
part_front xs ys = record {
  positive = first_positive xs ys;
  less = λ p j. let e = among_append j xs ys in let l = among_least j ys (last_positive xs ys p) in omega (arith, ints);
}

part_back : (xs ys : List Held) → IsPart ys (xs ++ ys)
part_back xs ys = record {
  positive = last_positive xs ys;
  less = λ p j. let e = among_append j xs ys in let l = among_least j xs (first_positive xs ys p) in omega (arith, ints);
}

all_both : (xs ys : List Held) → AllByRecursion IsPositive xs → AllByRecursion IsPositive ys → AllByRecursion IsPositive (xs ++ ys)
all_both [] ys p q = q
all_both (x ∷ xs) ys p q = (p.0, all_both xs ys p.1 q)

part_behind : (ts xs ys : List Held) → IsPart xs ys → IsPart (ts ++ xs) (ts ++ ys)
part_behind ts xs ys p = record {
  positive = λ r. all_both ts xs (first_positive ts ys r) (p.positive (last_positive ts ys r));
  less = λ r j. let e = among_append j ts xs in let f = among_append j ts ys in let l = p.less (last_positive ts ys r) j in omega (arith, ints);
}

-- of what stands first
part_within : (xs ys zs : List Held) → IsPart xs ys → IsPart xs (ys ++ zs)
part_within xs ys zs p = part_trans xs ys (ys ++ zs) p (part_front ys zs)

part_past : (xs ys zs : List Held) → IsPart xs zs → IsPart xs (ys ++ zs)
part_past xs ys zs p = part_trans xs zs (ys ++ zs) p (part_back ys zs)

part_one : (xs ys : List Held) → IsPart xs ys → IsPart (xs ++ []) ys
part_one xs ys p = subst (λ l. IsPart l ys) (sym (append-nil xs)) p

flat_append : (V W : List Val) → flat_map tickets (V ++ W) ≡ flat_map tickets V ++ flat_map tickets W
flat_append [] W = refl
flat_append (v ∷ V) W = ap (λ l. tickets v ++ l) (flat_append V W) ∙ sym (append_assoc (tickets v) (flat_map tickets V) (flat_map tickets W))

-- ---- what is discarded

gone_discarding : (gs V : List Val) (ys : List Held) → IsPart (flat_map tickets gs) ys → IsPart (gone (discarding gs V)) ys
gone_discarding gs V ys p = subst (λ l. IsPart l ys) (sym (burnt_among_burns (flat_map tickets gs))) p

gone_some : {A : Type 0} (o : Option A) (go : A → Step) (ys : List Held) → ((x : A) → o ≡ Some x → IsPart (gone (go x)) ys) → IsPart (gone (on_some o go)) ys
gone_some None go ys p = part_none ys
gone_some (Some x) go ys p = p x refl

gone_where : (b : Bool) (s : Step) (ys : List Held) → IsPart (gone s) ys → IsPart (gone (where_true b s)) ys
gone_where true s ys p = p
gone_where false s ys p = part_none ys

gone_limit : {A : Type 0} (r : Result A Limit) (go : A → Step) (ys : List Held) → ((x : A) → IsPart (gone (go x)) ys) → IsPart (gone (within_limit r go)) ys
gone_limit (Ok x) go ys p = p x
gone_limit (Err l) go ys p = part_none ys

-- ---- the order of the stack

taken_part : (n : ℕ) (V : List Val) → IsPart (flat_map tickets (take n V)) (flat_map tickets V)
taken_part n V =
    subst (λ l. IsPart (flat_map tickets (take n V)) l) (sym (flat_append (take n V) (drop n V)) ∙ ap (flat_map tickets) (take-append-drop n V))
    (part_front (flat_map tickets (take n V)) (flat_map tickets (drop n V)))

pub stack_part : (r : StackRow) (V : List Val) → IsPart (gone (stack_step r V)) (flat_map tickets V)
stack_part (i.drop n) V = gone_where (nat_le n (length V)) (discarding (take n V) (drop n V)) (flat_map tickets V) (gone_discarding (take n V) (drop n V) (flat_map tickets V) (taken_part n V))
stack_part (i.dup n) V = gone_some (slice_get V (n - 1)) (λ v. kept (v ∷ V)) (flat_map tickets V) (λ v e. part_none (flat_map tickets V))
stack_part i.swap (v ∷ w ∷ V) = part_none (flat_map tickets (v ∷ w ∷ V))
stack_part i.swap (v ∷ []) = part_none (flat_map tickets (v ∷ []))
stack_part i.swap [] = part_none []
stack_part (i.dig n) V = gone_some (slice_get V n) (λ v. kept (v ∷ remove V n)) (flat_map tickets V) (λ v e. part_none (flat_map tickets V))
stack_part (i.dug n) (v ∷ V) = gone_where (nat_le n (length V)) (kept (insert V n v)) (flat_map tickets (v ∷ V)) (part_none (flat_map tickets (v ∷ V)))
stack_part (i.dug n) [] = part_none []
stack_part i.unit V = part_none (flat_map tickets V)
stack_part (i.cast a) (v ∷ V) = part_none (flat_map tickets (v ∷ V))
stack_part (i.cast a) [] = part_none []
stack_part i.rename (v ∷ V) = part_none (flat_map tickets (v ∷ V))
stack_part i.rename [] = part_none []

-- ---- pairs

some_is : {A : Type 0} (P : A → Type 0) (x y : A) → Some x ≡ Some y → P x → P y
some_is P x y e p = let f : x ≡ y = cc in subst P f p

abbrev LeavesPart : Val → Part → Type 0
LeavesPart v p = IsPart (flat_map tickets (p.before ++ p.behind)) (tickets v)

left_part : (n : ℕ) (v : Val) (p : Part) → part_at n v ≡ Some p → LeavesPart v p
left_part zero v p e = some_is (LeavesPart v) (record { before = []; found = v; behind = [] }) p e (part_none (tickets v))
left_part (suc zero) (both v w) p e =
    some_is (LeavesPart (both v w)) (record { before = []; found = v; behind = w ∷ [] }) p e (part_one (tickets w) (tickets v ++ tickets w) (part_back (tickets v) (tickets w)))
left_part (suc (suc n)) (both v w) p e = by (part_at n w) (λ q. left_part n w q) e
  where
    by : (o : Option Part) → ((q : Part) → o ≡ Some q → LeavesPart w q) → option_map (passing v) o ≡ Some p → LeavesPart (both v w) p
    by None f g = absurd cc
    by (Some q) f g = some_is (LeavesPart (both v w)) (passing v q) p g (part_behind (tickets v) (flat_map tickets (q.before ++ q.behind)) (tickets w) (f q refl))
left_part (suc zero) _ p e = absurd cc
left_part (suc (suc n)) _ p e = absurd cc

abbrev OldPart : Val → Replaced → Type 0
OldPart v r = IsPart (tickets r.old) (tickets v)

old_part : (n : ℕ) (x v : Val) (r : Replaced) → replaced n x v ≡ Some r → OldPart v r
old_part zero x v r e = some_is (OldPart v) (record { comb = x; old = v }) r e (part_same (tickets v))
old_part (suc zero) x (both v w) r e = some_is (OldPart (both v w)) (record { comb = both x w; old = v }) r e (part_front (tickets v) (tickets w))
old_part (suc (suc n)) x (both v w) r e = by (replaced n x w) (λ q. old_part n x w q) e
  where
    by : (o : Option Replaced) → ((q : Replaced) → o ≡ Some q → OldPart w q) → option_map (behind v) o ≡ Some r → OldPart (both v w) r
    by None f g = absurd cc
    by (Some q) f g = some_is (OldPart (both v w)) (behind v q) r g (part_past (tickets q.old) (tickets v) (tickets w) (f q refl))
old_part (suc zero) x _ r e = absurd cc
old_part (suc (suc n)) x _ r e = absurd cc

pub pair_part : (r : PairRow) (V : List Val) → IsPart (gone (pair_step r V)) (flat_map tickets V)
pair_part (i.pair n) (v ∷ V) = gone_some (comb (n - 1) v V) (λ c. kept (c ∷ drop (n - 1) V)) (flat_map tickets (v ∷ V)) (λ c e. part_none (flat_map tickets (v ∷ V)))
pair_part (i.pair n) [] = part_none []
pair_part (i.unpair n) (v ∷ V) = gone_some (parts (n - 1) v) (λ vs. kept (vs ++ V)) (flat_map tickets (v ∷ V)) (λ c e. part_none (flat_map tickets (v ∷ V)))
pair_part (i.unpair n) [] = part_none []
pair_part i.car (both v w ∷ V) =
    gone_discarding (w ∷ []) (v ∷ V) (flat_map tickets (both v w ∷ V))
    (part_one (tickets w) _ (part_within (tickets w) (tickets v ++ tickets w) (flat_map tickets V) (part_back (tickets v) (tickets w))))
pair_part i.car [] = part_none []
pair_part i.car (v ∷ V) = part_none _
pair_part i.cdr (both v w ∷ V) =
    gone_discarding (v ∷ []) (w ∷ V) (flat_map tickets (both v w ∷ V))
    (part_one (tickets v) _ (part_within (tickets v) (tickets v ++ tickets w) (flat_map tickets V) (part_front (tickets v) (tickets w))))
pair_part i.cdr [] = part_none []
pair_part i.cdr (v ∷ V) = part_none _
pair_part (i.get_part n) (v ∷ V) =
    gone_some (part_at n v) (λ p. discarding (p.before ++ p.behind) (p.found ∷ V)) (flat_map tickets (v ∷ V)) (λ p e.
    gone_discarding (p.before ++ p.behind) (p.found ∷ V) (flat_map tickets (v ∷ V)) (part_within _ (tickets v) (flat_map tickets V) (left_part n v p e)))
pair_part (i.get_part n) [] = part_none []
pair_part (i.update_part n) (x ∷ v ∷ V) =
    gone_some (replaced n x v) (λ r. discarding (r.old ∷ []) (r.comb ∷ V)) (flat_map tickets (x ∷ v ∷ V)) (λ r e.
    gone_discarding (r.old ∷ []) (r.comb ∷ V) (flat_map tickets (x ∷ v ∷ V)) (part_one (tickets r.old) _
    (part_past (tickets r.old) (tickets x) (flat_map tickets (v ∷ V)) (part_within (tickets r.old) (tickets v) (flat_map tickets V) (old_part n x v r e)))))
pair_part (i.update_part n) (x ∷ []) = part_none _
pair_part (i.update_part n) [] = part_none []

-- ---- sets, maps and lists

value_part : (k : Val) (ps : Pairs) → IsPart (flat_map tickets (option_to_list (value_at k ps))) (pair_tickets ps)
value_part k no_pair = part_none []
value_part k (more_pairs j v ps) = by (is_eq (order k j)) (value_part k ps)
  where
    by : (b : Bool) → IsPart (flat_map tickets (option_to_list (value_at k ps))) (pair_tickets ps) →
        IsPart (flat_map tickets (option_to_list (if b then Some v else value_at k ps))) (tickets v ++ pair_tickets ps)
    by true later = part_one (tickets v) (tickets v ++ pair_tickets ps) (part_front (tickets v) (pair_tickets ps))
    by false later = part_past (flat_map tickets (option_to_list (value_at k ps))) (tickets v) (pair_tickets ps) later

option_part : (v : Val) (go : Option Val → Step) (ys : List Held) → ((o : Option Val) → IsPart (gone (go o)) ys) → IsPart (gone (on_option v go)) ys
option_part nothing go ys p = p None
option_part (some v) go ys p = p (Some v)
option_part _ go ys p = part_none ys

updated_part : (made : Pairs → Val) (k v : Val) (ps : Pairs) (V : List Val) → tickets (made ps) ≡ pair_tickets ps →
    IsPart (gone (on_option v (updated made k ps V))) (flat_map tickets (k ∷ v ∷ made ps ∷ V))
updated_part made k v ps V m = option_part v (updated made k ps V) (flat_map tickets (k ∷ v ∷ made ps ∷ V)) (λ o.
    gone_discarding (option_to_list (value_at k ps)) (made (map_with k o ps) ∷ V) (flat_map tickets (k ∷ v ∷ made ps ∷ V))
    (part_past _ (tickets k) _ (part_past _ (tickets v) _ (part_within _ (tickets (made ps)) (flat_map tickets V)
    (subst (λ l. IsPart (flat_map tickets (option_to_list (value_at k ps))) l) (sym m) (value_part k ps))))))

exchanged_part : (made : Pairs → Val) (k v : Val) (ps : Pairs) (V : List Val) (ys : List Held) → IsPart (gone (on_option v (exchanged made k ps V))) ys
exchanged_part made k v ps V ys = option_part v (exchanged made k ps V) ys (λ o. part_none ys)

whole_part : (v : Val) (V W : List Val) (x : Val) → IsPart (gone (discarding (v ∷ []) W)) (flat_map tickets (x ∷ v ∷ V))
whole_part v V W x = gone_discarding (v ∷ []) W (flat_map tickets (x ∷ v ∷ V)) (part_one (tickets v) _ (part_past (tickets v) (tickets x) _ (part_front (tickets v) (flat_map tickets V))))

sized_part : (v : Val) (V W : List Val) → IsPart (gone (discarding (v ∷ []) W)) (flat_map tickets (v ∷ V))
sized_part v V W = gone_discarding (v ∷ []) W (flat_map tickets (v ∷ V)) (part_one (tickets v) _ (part_front (tickets v) (flat_map tickets V)))

pub collection_part : (r : CollectionRow) (V : List Val) → IsPart (gone (collection_step r V)) (flat_map tickets V)
collection_part (i.empty_set a) V = part_none _
collection_part (i.empty_map a b) V = part_none _
collection_part (i.empty_big_map a b) V = part_none _
collection_part i.size_list (list xs ∷ V) = gone_limit (int_or_limit (pos (element_count xs))) (λ z. discarding (list xs ∷ []) (number z ∷ V)) _ (λ z. sized_part (list xs) V (number z ∷ V))
collection_part i.size_set (set xs ∷ V) = gone_limit (int_or_limit (pos (element_count xs))) (λ z. kept (number z ∷ V)) _ (λ z. part_none _)
collection_part i.size_map (table ps ∷ V) = gone_limit (int_or_limit (pos (entry_count ps))) (λ z. discarding (table ps ∷ []) (number z ∷ V)) _ (λ z. sized_part (table ps) V (number z ∷ V))
collection_part i.mem_set (x ∷ set xs ∷ V) = part_none _
collection_part i.mem_map (k ∷ table ps ∷ V) = whole_part (table ps) V (truth (is_some (value_at k ps)) ∷ V) k
collection_part i.mem_big_map (k ∷ big_table ps ∷ V) = whole_part (big_table ps) V (truth (is_some (value_at k ps)) ∷ V) k
collection_part i.get_map (k ∷ table ps ∷ V) = part_none _
collection_part i.get_big_map (k ∷ big_table ps ∷ V) = part_none _
collection_part i.update_set (x ∷ truth b ∷ set xs ∷ V) = part_none _
collection_part i.update_map (k ∷ v ∷ table ps ∷ V) = updated_part table k v ps V refl
collection_part i.update_big_map (k ∷ v ∷ big_table ps ∷ V) = updated_part big_table k v ps V refl
collection_part i.get_and_update_map (k ∷ v ∷ table ps ∷ V) = exchanged_part table k v ps V _
collection_part i.get_and_update_big_map (k ∷ v ∷ big_table ps ∷ V) = exchanged_part big_table k v ps V _
collection_part _ _ = part_none _

-- ---- tickets

top_part : (V : List Val) → IsPart (tickets_on_top V) (flat_map tickets V)
top_part [] = part_none []
top_part (v ∷ V) = part_front (tickets v) (flat_map tickets V)

pub ticket_part : (r : TicketRow) (V : List Val) → IsPart (ticket_stake r V) (flat_map tickets V)
ticket_part (i.ticket a) V = part_none _
ticket_part i.read_ticket V = part_none _
ticket_part i.split_ticket V = top_part V
ticket_part i.join_tickets V = top_part V
