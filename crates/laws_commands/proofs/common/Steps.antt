-- Instructions without bodies, but for those on contracts and operations, keep a property of values that goes by parts.
use Rattle.std.proofs.Common.{◌≡◌, ℕ, zero, suc, ◌-◌, Bool, true, false, cond, Option, Some, None, Result, Ok, Err, List, [], ◌∷◌, ◌++◌, length, ◌≤◌, ◌+◌, ◌&&◌, refl}
use Rattle.std.proofs.lemmas.Bool.{leb-true}
use Rattle.sha2.specs.Sha256.{sha256}
use Rattle.sha2.specs.Sha512.{sha512}
use Rattle.rules_text.specs.hash.Blake2b.{blake}
use Rattle.std.specs.Prelude.{ℤ, pos, take, nat_lt, neg_ℤ, ◌-ℤ◌, ◌*ℤ◌, unsigned_abs, ◌+ℤ◌, int_le, nat_le, drop, slice_get, ◌==◌, option_map, is_some, option_to_list}
use Rattle.std.specs.List.{list_all, AllByRecursion, flat_map}
use Rattle.rules_text.specs.nodes.Limits.{byte_limit, most_minted}
use Rattle.rules_data.specs.forms.Spelling.{contract_place, implicit_place}
use Rattle.rules_data.specs.numbers.Limits.{Limit, int_or_limit}
use Rattle.rules_data.specs.numbers.Integers.{division, shifted_left, shifted_right}
use Rattle.rules_data.specs.values.Val.{Val, Vals, no_val, more_vals, Pairs, no_pair, more_pairs}
use Rattle.rules_data.specs.values.Tables.{value_at, with_value, without_key}
use Rattle.rules_data.specs.values.Tickets.{Identity, Held, tickets}
use Rattle.rules_code.specs.instructions.Straight.{StackRow, PairRow, UnionRow, CollectionRow, NumberRow, LogicRow, TextRow, HashRow, EnvironmentRow, TicketRow, Straight, on_stack, on_pairs, on_unions, on_collections, on_numbers, on_truth, on_text, on_hashes, on_environment, on_operations, on_tickets}
use Rattle.rules_code.specs.steps.Changes.{minted, identity_of, is_alike, burns, Change}
use Rattle.rules_code.specs.steps.Failure.{Failure}
use Rattle.rules_code.specs.steps.Environment.{Environment}
use Rattle.rules_code.specs.steps.Step.{Step, done, fails, wrong, kept, discarding, on_some, where_true, within_limit, optional, past_limit}
use Rattle.rules_code.specs.steps.Stack.{stack_step, comb, parts, part_at, replaced, pair_step, union_step, Part, passing, Replaced, behind}
use Rattle.rules_code.specs.steps.Sets.{element_count, entry_count, with_element, without_element}
use Rattle.rules_code.specs.steps.Collections.{set_with, map_with, on_option, updated, exchanged, collection_step}
use Rattle.rules_code.specs.steps.Numbers.{give_number, give_amount, quotient, number_step, logic_step, natural}
use Rattle.rules_code.specs.steps.Texts.{joined, text_step, slice, within_size}
use Rattle.rules_code.specs.steps.Packing.{Trial, packed, key_hash, hash_step, tried, of_decoded, unpacked}
use Rattle.rules_code.specs.steps.Reading.{environment_step}
use Rattle.rules_code.specs.steps.TicketSteps.{as_value, are_parts, ticket_step}
use Rattle.rules_code.specs.steps.Steps.{step}
use Rattle.rules_data.specs.numbers.Bytes.{natural_in, integer_in, natural_bytes, integer_bytes}
use Rattle.rules_data.specs.numbers.Mutez.{mutez_sum, mutez_product, mutez_difference}
use Rattle.std.specs.Ordering.{match_ordering, is_eq}
use Rattle.std.specs.declared.cmp.Ordering.{Ordering}
use Rattle.std.specs.declared.cmp.Ordering.TheVariants.{Less, Equal, Greater}
use Rattle.rules_data.specs.types.Kind.{Kind}
use Rattle.rules_text.specs.nodes.Tree.{Tree}
use Rattle.rules_text.specs.binary.Reading.{Fault, decoded}
use Rattle.rules_data.specs.values.Literals.{Literal, good, bad, read, bodies, claims}
use Rattle.rules_data.specs.values.Order.{order}
use Rattle.rules_data.specs.values.Val as v
use Rattle.rules_code.specs.instructions.Straight as i
use Rattle.rules_code.specs.steps.Failure as f
use Rattle.laws_commands.proofs.common.Parts.{HasParts, IsOfParts}
use Rattle.laws_commands.proofs.common.Readings.{Gives}
use Rattle.laws_commands.proofs.common.Lists.{all_append, all_take, all_drop, all_get, all_insert, all_remove, both_all, OnSome}

abbrev pub StepHas : (Val → Type 0) → (Change → Type 0) → (Failure → Type 0) → Step → Type 0
StepHas P C F (done V cs) = AllByRecursion P V × AllByRecursion C cs
StepHas P C F (fails f) = F f
StepHas P C F wrong = Unit {0}

-- ---- what is made beside parts of what there was

pub record AreMade (P : Val → Type 0) (C : Change → Type 0) (F : Failure → Type 0) : Type 0 where
  pub burnt : (V : List Val) → AllByRecursion P V → AllByRecursion C (burns (flat_map tickets V))
  pub limits : (l : Limit) → F (past_limit l)
  pub too_long : F f.size_limit
  pub nat_to_bytes : (n : ℕ) → P (v.bytes (natural_bytes n))
  pub int_to_bytes : (z : ℤ) → P (v.bytes (integer_bytes z))
  pub concat_strings : (a b : List ℕ) → P (v.text a) → P (v.text b) → P (v.text (a ++ b))
  pub concat_bytes : (a b : List ℕ) → length (a ++ b) ≤ byte_limit → P (v.bytes a) → P (v.bytes b) → P (v.bytes (a ++ b))
  pub concat_string_list : (xs : Vals) → P (v.list xs) → P (v.text (joined xs))
  pub concat_bytes_list : (xs : Vals) → length (joined xs) ≤ byte_limit → P (v.list xs) → P (v.bytes (joined xs))
  pub slice_string : (offset count : ℕ) (b : List ℕ) → P (v.text b) → P (v.text (take count (drop offset b)))
  pub slice_bytes : (offset count : ℕ) (b : List ℕ) → P (v.bytes b) → P (v.bytes (take count (drop offset b)))
  pub pack : (x : Val) → length (packed x) ≤ byte_limit → P x → P (v.bytes (packed x))
  pub unpack : (a : Kind) (c : ℕ) (b : List ℕ) (t : Tree) → P (v.bytes (c ∷ b)) → decoded b ≡ Ok t → Gives P (read a 0 t)
  pub blake2b : (b : List ℕ) → P (v.bytes (blake 32 b))
  pub hash_256 : (b : List ℕ) → P (v.bytes (sha256 b))
  pub hash_512 : (b : List ℕ) → P (v.bytes (sha512 b))
  pub hash_key : (b : List ℕ) → P (v.bytes b) → P (v.bytes (key_hash b))
  pub issuer : (place : List ℕ) (a : Kind) (x : Val) (n : ℤ) → P (v.ticket place a x n) → P (v.bytes place)
  pub content : (place : List ℕ) (a : Kind) (x : Val) (n : ℤ) → P (v.ticket place a x n) → P x
  pub amount : (place : List ℕ) (a : Kind) (x : Val) (n m : ℤ) → P (v.ticket place a x n) → P (v.ticket place a x m)

-- what surrounds the run, and a ticket that it mints where it may
pub record AreAround (P : Val → Type 0) (C : Change → Type 0) (May : Kind → Val → Type 0) (e : Environment) : Type 0 where
  pub sender : P (v.bytes e.sender)
  pub source : P (v.bytes (implicit_place e.source))
  pub own : P (v.bytes (contract_place e.own))
  pub chain : P (v.bytes e.chain)
  pub mint : (a : Kind) (x : Val) (n : ℕ) → May a x → P x →
      P (v.ticket (contract_place e.own) a x (pos (suc n)))
      × C (minted (record { issuer = contract_place e.own; kind = a; content = x; amount = pos (suc n) }))

-- a new ticket may be of its type and its content
abbrev pub MayMint : (Kind → Val → Type 0) → TicketRow → List Val → Type 0
MayMint May (i.ticket a) (x ∷ V) = May a x
MayMint May r V = Unit {0}

abbrev pub MayStep : (Kind → Val → Type 0) → Straight → List Val → Type 0
MayStep May (on_tickets r) V = MayMint May r V
MayStep May r V = Unit {0}

-- ---- where nothing is asked

pub any_all : {X : Type 0} (xs : List X) → AllByRecursion (λ x. Unit {0}) xs
any_all [] = tt
any_all (x ∷ xs) = (tt, any_all xs)

pub may_any : (r : Straight) (V : List Val) → MayStep (λ a x. Unit {0}) r V
may_any (on_tickets (i.ticket a)) [] = tt
may_any (on_tickets (i.ticket a)) (x ∷ V) = tt
may_any _ V = tt

-- ---- steps

pub optional_has : (P : Val → Type 0) (All : Vals → Type 0) (Entries : Pairs → Type 0) → HasParts P All Entries → (o : Option Val) →
    OnSome P o → P (optional o)
optional_has P All Entries p None h = p.nothing
optional_has P All Entries p (Some x) h = p.some x h

module _ (P : Val → Type 0) (All : Vals → Type 0) (Entries : Pairs → Type 0) (C : Change → Type 0) (F : Failure → Type 0)
    (p : HasParts P All Entries) (q : IsOfParts P All Entries) (m : AreMade P C F) where
  abbrev AllHave : List Val → Type 0
  AllHave V = AllByRecursion P V

  abbrev Keeps : Step → Type 0
  Keeps s = StepHas P C F s

  -- ---- the forms of steps

  keeps_discarding : (gone V : List Val) → AllHave gone → AllHave V → Keeps (discarding gone V)
  keeps_discarding gone V g h = (h, m.burnt gone g)

  keeps_some : {A : Type 0} (o : Option A) (go : A → Step) → ((x : A) → o ≡ Some x → Keeps (go x)) → Keeps (on_some o go)
  keeps_some (Some x) go h = h x refl
  keeps_some None go h = tt

  keeps_where : (b : Bool) (s : Step) → Keeps s → Keeps (where_true b s)
  keeps_where true s h = h
  keeps_where false s h = tt

  keeps_within : {A : Type 0} (r : Result A Limit) (go : A → Step) → ((x : A) → Keeps (go x)) → Keeps (within_limit r go)
  keeps_within (Ok x) go h = h x
  keeps_within (Err l) go h = m.limits l

  given_number : (r : Result ℤ Limit) (V : List Val) → AllHave V → Keeps (within_limit r (give_number V))
  given_number r V h = keeps_within r (give_number V) (λ z. ((p.number z, h), tt))

  given_amount : (r : Result ℕ Limit) (V : List Val) → AllHave V → Keeps (within_limit r (give_amount V))
  given_amount r V h = keeps_within r (give_amount V) (λ n. ((p.number (pos n), h), tt))

  list_has : (o : Option Val) → OnSome P o → AllHave (option_to_list o)
  list_has None h = tt
  list_has (Some x) h = (h, tt)

  -- ---- stacks

  stack_keeps : (r : StackRow) (V : List Val) → AllHave V → Keeps (stack_step r V)
  stack_keeps (i.drop n) V h = keeps_where (nat_le n (length V)) _
      (keeps_discarding (take n V) (drop n V) (all_take P n V h) (all_drop P n V h))
  stack_keeps (i.dup n) V h = keeps_some (slice_get V (n - 1)) _ (λ x e. ((all_get P (n - 1) V x h e, h), tt))
  stack_keeps i.swap (x ∷ y ∷ V) h = ((h.1.0, (h.0, h.1.1)), tt)
  stack_keeps (i.dig n) V h = keeps_some (slice_get V n) _ (λ x e. ((all_get P n V x h e, all_remove P n V h), tt))
  stack_keeps (i.dug n) (x ∷ V) h = keeps_where (nat_le n (length V)) _ (all_insert P n V x h.1 h.0, tt)
  stack_keeps i.unit V h = ((p.unit, h), tt)
  stack_keeps (i.cast a) (x ∷ V) h = (h, tt)
  stack_keeps i.rename (x ∷ V) h = (h, tt)
  stack_keeps i.swap [] h = tt
  stack_keeps i.swap (x ∷ []) h = tt
  stack_keeps (i.dug n) [] h = tt
  stack_keeps (i.cast a) [] h = tt
  stack_keeps i.rename [] h = tt

  -- ---- pairs

  comb_is : (n : ℕ) (x : Val) (V : List Val) → P x → AllHave V → OnSome P (comb n x V)
  comb_is zero x V g h = g
  comb_is (suc n) x [] g h = tt
  comb_is (suc n) x (y ∷ V) g h = by (comb n y V) (comb_is n y V h.0 h.1)
    where
      by : (o : Option Val) → OnSome P o → OnSome P (option_map (v.both x) o)
      by None j = tt
      by (Some z) j = p.both x z g j

  parts_are : (n : ℕ) (x : Val) → P x → OnSome AllHave (parts n x)
  parts_are zero x h = (h, tt)
  parts_are (suc n) (v.both x y) h = by (parts n y) (parts_are n y (q.both x y h).1)
    where
      by : (o : Option (List Val)) → OnSome AllHave o → OnSome AllHave (option_map (λ xs. x ∷ xs) o)
      by None j = tt
      by (Some xs) j = ((q.both x y h).0, j)
  parts_are (suc n) _ h = tt

  abbrev PartHas : Option Part → Type 0
  PartHas None = Unit {0}
  PartHas (Some o) = AllHave o.before × P o.found × AllHave o.behind

  part_is : (n : ℕ) (x : Val) → P x → PartHas (part_at n x)
  part_is zero x h = (tt, h, tt)
  part_is (suc zero) (v.both x y) h = let hs = q.both x y h in (tt, hs.0, (hs.1, tt))
  part_is (suc (suc n)) (v.both x y) h = by (part_at n y) (part_is n y (q.both x y h).1)
    where
      by : (o : Option Part) → PartHas o → PartHas (option_map (passing x) o)
      by None j = tt
      by (Some o) j = (((q.both x y h).0, j.0), j.1, j.2)
  part_is (suc zero) _ h = tt
  part_is (suc (suc n)) _ h = tt

  abbrev ReplacedHas : Option Replaced → Type 0
  ReplacedHas None = Unit {0}
  ReplacedHas (Some r) = P r.comb × P r.old

  replaced_is : (n : ℕ) (x y : Val) → P x → P y → ReplacedHas (replaced n x y)
  replaced_is zero x y g h = (g, h)
  replaced_is (suc zero) x (v.both y z) g h = let hs = q.both y z h in (p.both x z g hs.1, hs.0)
  replaced_is (suc (suc n)) x (v.both y z) g h = by (replaced n x z) (replaced_is n x z g (q.both y z h).1)
    where
      by : (o : Option Replaced) → ReplacedHas o → ReplacedHas (option_map (behind y) o)
      by None j = tt
      by (Some r) j = (p.both y r.comb (q.both y z h).0 j.0, j.1)
  replaced_is (suc zero) x _ g h = tt
  replaced_is (suc (suc n)) x _ g h = tt

  pair_keeps : (r : PairRow) (V : List Val) → AllHave V → Keeps (pair_step r V)
  pair_keeps (i.pair n) (x ∷ V) h = by (comb (n - 1) x V) (comb_is (n - 1) x V h.0 h.1)
    where
      by : (o : Option Val) → OnSome P o → Keeps (on_some o (λ c. kept (c ∷ drop (n - 1) V)))
      by None j = tt
      by (Some c) j = ((j, all_drop P (n - 1) V h.1), tt)
  pair_keeps (i.unpair n) (x ∷ V) h = by (parts (n - 1) x) (parts_are (n - 1) x h.0)
    where
      by : (o : Option (List Val)) → OnSome AllHave o → Keeps (on_some o (λ xs. kept (xs ++ V)))
      by None j = tt
      by (Some xs) j = (all_append P xs V j h.1, tt)
  pair_keeps i.car (v.both x y ∷ V) h = let hs = q.both x y h.0 in keeps_discarding (y ∷ []) (x ∷ V) (hs.1, tt) (hs.0, h.1)
  pair_keeps i.cdr (v.both x y ∷ V) h = let hs = q.both x y h.0 in keeps_discarding (x ∷ []) (y ∷ V) (hs.0, tt) (hs.1, h.1)
  pair_keeps (i.get_part n) (x ∷ V) h = by (part_at n x) (part_is n x h.0)
    where
      by : (o : Option Part) → PartHas o → Keeps (on_some o (λ o. discarding (o.before ++ o.behind) (o.found ∷ V)))
      by None j = tt
      by (Some o) j = keeps_discarding (o.before ++ o.behind) (o.found ∷ V) (all_append P o.before o.behind j.0 j.2) (j.1, h.1)
  pair_keeps (i.update_part n) (x ∷ y ∷ V) h = by (replaced n x y) (replaced_is n x y h.0 h.1.0)
    where
      by : (o : Option Replaced) → ReplacedHas o → Keeps (on_some o (λ r. discarding (r.old ∷ []) (r.comb ∷ V)))
      by None j = tt
      by (Some r) j = keeps_discarding (r.old ∷ []) (r.comb ∷ V) (j.1, tt) (j.0, h.1.1)
  pair_keeps _ _ h = tt

  -- ---- sets and maps

  with_is : (x : Val) (xs : Vals) → P x → All xs → All (with_element x xs)
  with_is x no_val g h = p.value x no_val g h
  with_is x (more_vals y ys) g h = by (order x y) (with_is x ys g hs.1)
    where
      hs : P y × All ys
      hs = q.value y ys h

      by : (o : Ordering) → All (with_element x ys) →
          All (match_ordering o (more_vals x (more_vals y ys)) (more_vals y ys) (more_vals y (with_element x ys)))
      by Less j = p.value x (more_vals y ys) g h
      by Equal j = h
      by Greater j = p.value y (with_element x ys) hs.0 j

  without_is : (x : Val) (xs : Vals) → All xs → All (without_element x xs)
  without_is x no_val h = h
  without_is x (more_vals y ys) h = by (is_eq (order x y)) (without_is x ys hs.1)
    where
      hs : P y × All ys
      hs = q.value y ys h

      by : (b : Bool) → All (without_element x ys) → All (cond b ys (more_vals y (without_element x ys)))
      by true j = hs.1
      by false j = p.value y (without_element x ys) hs.0 j

  set_is : (b : Bool) (x : Val) (xs : Vals) → P x → All xs → All (set_with b x xs)
  set_is true x xs g h = with_is x xs g h
  set_is false x xs g h = without_is x xs h

  value_is : (x : Val) (es : Pairs) → Entries es → OnSome P (value_at x es)
  value_is x no_pair h = tt
  value_is x (more_pairs y z es) h = by (is_eq (order x y)) (value_is x es hs.2)
    where
      hs : P y × P z × Entries es
      hs = q.entry y z es h

      by : (b : Bool) → OnSome P (value_at x es) → OnSome P (cond b (Some z) (value_at x es))
      by true j = hs.1
      by false j = j

  with_value_is : (x y : Val) (es : Pairs) → P x → P y → Entries es → Entries (with_value x y es)
  with_value_is x y no_pair g f h = p.entry x y no_pair g f h
  with_value_is x y (more_pairs z w es) g f h = by (order x z) (with_value_is x y es g f hs.2)
    where
      hs : P z × P w × Entries es
      hs = q.entry z w es h

      by : (o : Ordering) → Entries (with_value x y es) →
          Entries (match_ordering o (more_pairs x y (more_pairs z w es)) (more_pairs z y es) (more_pairs z w (with_value x y es)))
      by Less j = p.entry x y (more_pairs z w es) g f h
      by Equal j = p.entry z y es hs.0 f hs.2
      by Greater j = p.entry z w (with_value x y es) hs.0 hs.1 j

  without_key_is : (x : Val) (es : Pairs) → Entries es → Entries (without_key x es)
  without_key_is x no_pair h = h
  without_key_is x (more_pairs z w es) h = by (is_eq (order x z)) (without_key_is x es hs.2)
    where
      hs : P z × P w × Entries es
      hs = q.entry z w es h

      by : (b : Bool) → Entries (without_key x es) → Entries (cond b es (more_pairs z w (without_key x es)))
      by true j = hs.2
      by false j = p.entry z w (without_key x es) hs.0 hs.1 j

  map_is : (x : Val) (new : Option Val) (es : Pairs) → P x → OnSome P new → Entries es → Entries (map_with x new es)
  map_is x (Some y) es g f h = with_value_is x y es g f h
  map_is x None es g f h = without_key_is x es h

  module _ (made : Pairs → Val) (k : (es : Pairs) → Entries es → P (made es)) (x : Val) (es : Pairs) (V : List Val)
      (g : P x) (h : Entries es) (l : AllHave V) where
    update_keeps : (y : Val) → P y → Keeps (on_option y (updated made x es V))
    update_keeps v.nothing f =
        keeps_discarding (option_to_list (value_at x es)) (made (map_with x None es) ∷ V) (list_has (value_at x es) (value_is x es h))
        (k (map_with x None es) (map_is x None es g tt h), l)
    update_keeps (v.some y) f =
        keeps_discarding (option_to_list (value_at x es)) (made (map_with x (Some y) es) ∷ V)
        (list_has (value_at x es) (value_is x es h)) (k (map_with x (Some y) es) (map_is x (Some y) es g (q.some y f) h), l)
    update_keeps _ f = tt

    exchange_keeps : (y : Val) → P y → Keeps (on_option y (exchanged made x es V))
    exchange_keeps v.nothing f =
        ((optional_has P All Entries p (value_at x es) (value_is x es h), (k (map_with x None es) (map_is x None es g tt h), l)), tt)
    exchange_keeps (v.some y) f = (
      (
        optional_has P All Entries p (value_at x es) (value_is x es h),
        (k (map_with x (Some y) es) (map_is x (Some y) es g (q.some y f) h), l),
      ),
      tt,
    )
    exchange_keeps _ f = tt

  collection_keeps : (r : CollectionRow) (V : List Val) → AllHave V → Keeps (collection_step r V)
  collection_keeps (i.empty_set a) V h = ((p.set no_val p.no_value, h), tt)
  collection_keeps (i.empty_map a b) V h = ((p.table no_pair p.no_entry, h), tt)
  collection_keeps (i.empty_big_map a b) V h = ((p.big_table no_pair p.no_entry, h), tt)
  collection_keeps i.size_list (v.list xs ∷ V) h =
      keeps_within (int_or_limit (pos (element_count xs))) (λ z. discarding (v.list xs ∷ []) (v.number z ∷ V))
      (λ z. keeps_discarding (v.list xs ∷ []) (v.number z ∷ V) (h.0, tt) (p.number z, h.1))
  collection_keeps i.size_set (v.set xs ∷ V) h = given_number (int_or_limit (pos (element_count xs))) V h.1
  collection_keeps i.size_map (v.table es ∷ V) h =
      keeps_within (int_or_limit (pos (entry_count es))) (λ z. discarding (v.table es ∷ []) (v.number z ∷ V))
      (λ z. keeps_discarding (v.table es ∷ []) (v.number z ∷ V) (h.0, tt) (p.number z, h.1))
  collection_keeps i.mem_set (x ∷ v.set xs ∷ V) h = ((p.truth _, h.1.1), tt)
  collection_keeps i.mem_map (x ∷ v.table es ∷ V) h =
      keeps_discarding (v.table es ∷ []) (v.truth (is_some (value_at x es)) ∷ V) (h.1.0, tt) (p.truth _, h.1.1)
  collection_keeps i.mem_big_map (x ∷ v.big_table es ∷ V) h =
      keeps_discarding (v.big_table es ∷ []) (v.truth (is_some (value_at x es)) ∷ V) (h.1.0, tt) (p.truth _, h.1.1)
  collection_keeps i.get_map (x ∷ v.table es ∷ V) h =
      ((optional_has P All Entries p (value_at x es) (value_is x es (q.table es h.1.0)), h.1.1), tt)
  collection_keeps i.get_big_map (x ∷ v.big_table es ∷ V) h =
      ((optional_has P All Entries p (value_at x es) (value_is x es (q.big_table es h.1.0)), h.1.1), tt)
  collection_keeps i.update_set (x ∷ v.truth b ∷ v.set xs ∷ V) h =
      ((p.set (set_with b x xs) (set_is b x xs h.0 (q.set xs h.1.1.0)), h.1.1.1), tt)
  collection_keeps i.update_map (x ∷ y ∷ v.table es ∷ V) h =
      update_keeps v.table p.table x es V h.0 (q.table es h.1.1.0) h.1.1.1 y h.1.0
  collection_keeps i.update_big_map (x ∷ y ∷ v.big_table es ∷ V) h =
      update_keeps v.big_table p.big_table x es V h.0 (q.big_table es h.1.1.0) h.1.1.1 y h.1.0
  collection_keeps i.get_and_update_map (x ∷ y ∷ v.table es ∷ V) h =
      exchange_keeps v.table p.table x es V h.0 (q.table es h.1.1.0) h.1.1.1 y h.1.0
  collection_keeps i.get_and_update_big_map (x ∷ y ∷ v.big_table es ∷ V) h =
      exchange_keeps v.big_table p.big_table x es V h.0 (q.big_table es h.1.1.0) h.1.1.1 y h.1.0
  collection_keeps _ _ h = tt

  -- ---- numbers

  quotient_is : (o : Option (ℤ × ℤ)) → P (quotient o)
  quotient_is None = p.nothing
  quotient_is (Some o) = p.some _ (p.both _ _ (p.number o.0) (p.number o.1))

  natural_is : (z : ℤ) → P (natural z)
  natural_is z = by (int_le (pos 0) z)
    where
      by : (b : Bool) → P (cond b (v.some (v.number z)) v.nothing)
      by true = p.some (v.number z) (p.number z)
      by false = p.nothing

  difference_is : (o : Option ℕ) → P (optional (option_map (λ n. v.number (pos n)) o))
  difference_is None = p.nothing
  difference_is (Some n) = p.some (v.number (pos n)) (p.number (pos n))

  number_keeps : (r : NumberRow) (V : List Val) → AllHave V → Keeps (number_step r V)
  number_keeps i.add_numbers (v.number x ∷ v.number y ∷ V) h = given_number (int_or_limit (x +ℤ y)) V h.1.1
  number_keeps i.add_amounts (v.number (pos x) ∷ v.number (pos y) ∷ V) h = given_amount (mutez_sum x y) V h.1.1
  number_keeps i.sub (v.number x ∷ v.number y ∷ V) h = given_number (int_or_limit (x -ℤ y)) V h.1.1
  number_keeps i.sub_mutez (v.number (pos x) ∷ v.number (pos y) ∷ V) h = ((difference_is (mutez_difference x y), h.1.1), tt)
  number_keeps i.mul_numbers (v.number x ∷ v.number y ∷ V) h = given_number (int_or_limit (x *ℤ y)) V h.1.1
  number_keeps i.mul_amounts (v.number (pos x) ∷ v.number (pos y) ∷ V) h = given_amount (mutez_product x y) V h.1.1
  number_keeps i.ediv (v.number x ∷ v.number y ∷ V) h = keeps_within (division x y) (λ o. kept (quotient o ∷ V))
      (λ o. ((quotient_is o, h.1.1), tt))
  number_keeps i.abs (v.number x ∷ V) h = given_number (int_or_limit (pos (unsigned_abs x))) V h.1
  number_keeps i.neg (v.number x ∷ V) h = given_number (int_or_limit (neg_ℤ x)) V h.1
  number_keeps i.int (v.number x ∷ V) h = (h, tt)
  number_keeps i.isnat (v.number x ∷ V) h = ((natural_is x, h.1), tt)
  number_keeps i.lsl (v.number x ∷ v.number y ∷ V) h = given_number (shifted_left x y) V h.1.1
  number_keeps i.lsr (v.number x ∷ v.number y ∷ V) h = given_number (shifted_right x y) V h.1.1
  number_keeps i.nat_to_bytes (v.number (pos n) ∷ V) h = ((m.nat_to_bytes n, h.1), tt)
  number_keeps i.int_to_bytes (v.number x ∷ V) h = ((m.int_to_bytes x, h.1), tt)
  number_keeps i.bytes_to_nat (v.bytes b ∷ V) h = given_number (int_or_limit (pos (natural_in b))) V h.1
  number_keeps i.bytes_to_int (v.bytes b ∷ V) h = given_number (int_or_limit (integer_in b)) V h.1
  number_keeps _ _ h = tt

  logic_keeps : (r : LogicRow) (V : List Val) → AllHave V → Keeps (logic_step r V)
  logic_keeps i.and_bools (v.truth b ∷ v.truth c ∷ V) h = ((p.truth _, h.1.1), tt)
  logic_keeps i.or_bools (v.truth b ∷ v.truth c ∷ V) h = ((p.truth _, h.1.1), tt)
  logic_keeps i.xor_bools (v.truth b ∷ v.truth c ∷ V) h = ((p.truth _, h.1.1), tt)
  logic_keeps i.not_bool (v.truth b ∷ V) h = ((p.truth _, h.1), tt)
  logic_keeps i.and_numbers (v.number x ∷ v.number y ∷ V) h = ((p.number _, h.1.1), tt)
  logic_keeps i.or_numbers (v.number x ∷ v.number y ∷ V) h = ((p.number _, h.1.1), tt)
  logic_keeps i.xor_numbers (v.number x ∷ v.number y ∷ V) h = ((p.number _, h.1.1), tt)
  logic_keeps i.not_number (v.number x ∷ V) h = ((p.number _, h.1), tt)
  logic_keeps i.compare (x ∷ y ∷ V) h = ((p.number _, h.1.1), tt)
  logic_keeps i.eq (v.number x ∷ V) h = ((p.truth _, h.1), tt)
  logic_keeps i.neq (v.number x ∷ V) h = ((p.truth _, h.1), tt)
  logic_keeps i.lt (v.number x ∷ V) h = ((p.truth _, h.1), tt)
  logic_keeps i.gt (v.number x ∷ V) h = ((p.truth _, h.1), tt)
  logic_keeps i.le (v.number x ∷ V) h = ((p.truth _, h.1), tt)
  logic_keeps i.ge (v.number x ∷ V) h = ((p.truth _, h.1), tt)
  logic_keeps _ _ h = tt

  -- ---- texts and bytes

  sized : (made : List ℕ → Val) (xs : List ℕ) (V : List Val) → (length xs ≤ byte_limit → P (made xs)) → AllHave V →
      Keeps (within_size made xs V)
  sized made xs V g h = by (nat_le (length xs) byte_limit) refl
    where
      by : (b : Bool) → nat_le (length xs) byte_limit ≡ b → Keeps (cond b (kept (made xs ∷ V)) (fails f.size_limit))
      by true e = ((g (leb-true (length xs) byte_limit e), h), tt)
      by false e = m.too_long

  slice_is : (made : List ℕ → Val) (offset count : ℕ) (b : List ℕ) → P (made (take count (drop offset b))) →
      P (optional (option_map made (slice offset count b)))
  slice_is made offset count b g = by (nat_lt offset (length b) && nat_le (offset + count) (length b))
    where
      by : (t : Bool) → P (optional (option_map made (cond t (Some (take count (drop offset b))) None)))
      by true = p.some (made (take count (drop offset b))) g
      by false = p.nothing

  text_keeps : (r : TextRow) (V : List Val) → AllHave V → Keeps (text_step r V)
  text_keeps i.concat_strings (v.text a ∷ v.text b ∷ V) h =
      sized v.text (a ++ b) V (λ short. m.concat_strings a b h.0 h.1.0) h.1.1
  text_keeps i.concat_bytes (v.bytes a ∷ v.bytes b ∷ V) h =
      sized v.bytes (a ++ b) V (λ short. m.concat_bytes a b short h.0 h.1.0) h.1.1
  text_keeps i.concat_string_list (v.list xs ∷ V) h = sized v.text (joined xs) V (λ short. m.concat_string_list xs h.0) h.1
  text_keeps i.concat_bytes_list (v.list xs ∷ V) h = sized v.bytes (joined xs) V (λ short. m.concat_bytes_list xs short h.0) h.1
  text_keeps i.slice_string (v.number (pos offset) ∷ v.number (pos count) ∷ v.text b ∷ V) h =
      ((slice_is v.text offset count b (m.slice_string offset count b h.1.1.0), h.1.1.1), tt)
  text_keeps i.slice_bytes (v.number (pos offset) ∷ v.number (pos count) ∷ v.bytes b ∷ V) h =
      ((slice_is v.bytes offset count b (m.slice_bytes offset count b h.1.1.0), h.1.1.1), tt)
  text_keeps i.size_string (v.text b ∷ V) h = ((p.number _, h.1), tt)
  text_keeps i.size_bytes (v.bytes b ∷ V) h = ((p.number _, h.1), tt)
  text_keeps _ _ h = tt

  -- ---- packing and hashes

  tried_is : (passes : Trial) (l : Literal Val) → Gives P l → OnSome P (tried passes l)
  tried_is passes (good x ps) h = by (list_all passes (bodies ps) && list_all passes (claims ps))
    where
      by : (t : Bool) → OnSome P (cond t (Some x) None)
      by true = h
      by false = tt
  tried_is passes (bad l) h = tt

  unpacked_is : (passes : Trial) (a : Kind) (b : List ℕ) → P (v.bytes b) → OnSome P (unpacked passes a b)
  unpacked_is passes a [] h = tt
  unpacked_is passes a (c ∷ b) h = by (c == 5)
    where
      of_decoded_is : (r : Result Tree Fault) → decoded b ≡ r → OnSome P (of_decoded passes a r)
      of_decoded_is (Ok t) e = tried_is passes (read a 0 t) (m.unpack a c b t h e)
      of_decoded_is (Err x) e = tt

      by : (t : Bool) → OnSome P (cond t (of_decoded passes a (decoded b)) None)
      by true = of_decoded_is (decoded b) refl
      by false = tt

  hash_keeps : (passes : Trial) (r : HashRow) (V : List Val) → AllHave V → Keeps (hash_step passes r V)
  hash_keeps passes i.pack (x ∷ V) h = sized v.bytes (packed x) V (λ short. m.pack x short h.0) h.1
  hash_keeps passes (i.unpack a) (v.bytes b ∷ V) h = ((optional_has P All Entries p (unpacked passes a b) (unpacked_is passes a b h.0), h.1), tt)
  hash_keeps passes i.blake2b (v.bytes b ∷ V) h = ((m.blake2b b, h.1), tt)
  hash_keeps passes i.sha256 (v.bytes b ∷ V) h = ((m.hash_256 b, h.1), tt)
  hash_keeps passes i.sha512 (v.bytes b ∷ V) h = ((m.hash_512 b, h.1), tt)
  hash_keeps passes i.hash_key (v.bytes b ∷ V) h = ((m.hash_key b h.0, h.1), tt)
  hash_keeps passes _ _ h = tt

  -- ---- what surrounds the run, and tickets

  module _ (May : Kind → Val → Type 0) (e : Environment) (w : AreAround P C May e) where
    environment_keeps : (r : EnvironmentRow) (V : List Val) → AllHave V → Keeps (environment_step e r V)
    environment_keeps i.amount V h = ((p.number _, h), tt)
    environment_keeps i.balance V h = ((p.number _, h), tt)
    environment_keeps i.sender V h = ((w.sender, h), tt)
    environment_keeps i.source V h = ((w.source, h), tt)
    environment_keeps i.self_address V h = ((w.own, h), tt)
    environment_keeps i.now V h = ((p.number _, h), tt)
    environment_keeps i.level V h = ((p.number _, h), tt)
    environment_keeps i.chain_id V h = ((w.chain, h), tt)

    minted_keeps : (b : Bool) (t : Held) (V : List Val) → P (as_value t) → C (minted t) → AllHave V →
        Keeps (cond b (done (v.some (as_value t) ∷ V) (minted t ∷ [])) (fails f.integer_limit))
    minted_keeps true t V g i h = ((p.some (as_value t) g, h), (i, tt))
    minted_keeps false t V g i h = m.limits Limit.integer_limit

    one_of : (b : Bool) (x : Val) (gone V : List Val) → P x → AllHave gone → AllHave V →
        Keeps (cond b (kept (v.some x ∷ V)) (discarding gone (v.nothing ∷ V)))
    one_of true x gone V g k h = ((p.some x g, h), tt)
    one_of false x gone V g k h = keeps_discarding gone (v.nothing ∷ V) k (p.nothing, h)

    ticket_keeps : (total : Identity → ℤ) (r : TicketRow) (V : List Val) → MayMint May r V → AllHave V → Keeps (ticket_step e total r V)
    ticket_keeps total (i.ticket a) (x ∷ v.number (pos zero) ∷ V) k h = ((p.nothing, h.1.1), tt)
    ticket_keeps total (i.ticket a) (x ∷ v.number (pos (suc n)) ∷ V) k h =
        let t : Held = record { issuer = contract_place e.own; kind = a; content = x; amount = pos (suc n) } in
        let new = w.mint a x n k h.0 in
        minted_keeps (int_le (total (identity_of t) +ℤ pos (suc n)) most_minted) t V new.0 new.1 h.1.1
    ticket_keeps total i.read_ticket (v.ticket issuer a x n ∷ V) k h = (
      (
        p.both (v.bytes issuer) (v.both x (v.number n)) (m.issuer issuer a x n h.0)
            (p.both x (v.number n) (m.content issuer a x n h.0) (p.number n)),
        h,
      ),
      tt,
    )
    ticket_keeps total i.split_ticket (v.ticket issuer c x n ∷ v.both (v.number a) (v.number b) ∷ V) k h =
        one_of (are_parts a b n) (v.both (v.ticket issuer c x a) (v.ticket issuer c x b)) (v.ticket issuer c x n ∷ []) V
        (p.both (v.ticket issuer c x a) (v.ticket issuer c x b) (m.amount issuer c x n a h.0) (m.amount issuer c x n b h.0))
        (h.0, tt) h.1.1
    ticket_keeps total i.join_tickets (v.both (v.ticket issuer c x n) (v.ticket issuer' c' x' n') ∷ V) k h =
        let hs = q.both (v.ticket issuer c x n) (v.ticket issuer' c' x' n') h.0 in
        one_of (is_alike (record { issuer = issuer; kind = c; content = x }) (record { issuer = issuer'; kind = c'; content = x' }))
        (v.ticket issuer c x (n +ℤ n')) (v.ticket issuer c x n ∷ v.ticket issuer' c' x' n' ∷ []) V
        (m.amount issuer c x n (n +ℤ n') hs.0) (hs.0, (hs.1, tt)) h.1
    ticket_keeps total _ _ k h = tt

    -- ---- all, where CONS alone makes a longer list

    module _ (Q : Val → Type 0) (weak : (x : Val) → P x → Q x) (nil : Q (v.list no_val))
        (cons : (x : Val) (xs : Vals) → P x → P (v.list xs) → Q (v.list (more_vals x xs))) where
      all_weak : (V : List Val) → AllHave V → AllByRecursion Q V
      all_weak V h = both_all P Q V h weak

      step_weak : (s : Step) → Keeps s → StepHas Q C F s
      step_weak (done V cs) h = (all_weak V h.0, h.1)
      step_weak (fails f) h = h
      step_weak wrong h = tt

      union_keeps : (r : UnionRow) (V : List Val) → AllHave V → StepHas Q C F (union_step r V)
      union_keeps (i.left b) (x ∷ V) h = ((weak (v.left x) (p.left x h.0), all_weak V h.1), tt)
      union_keeps (i.right a) (x ∷ V) h = ((weak (v.right x) (p.right x h.0), all_weak V h.1), tt)
      union_keeps i.some (x ∷ V) h = ((weak (v.some x) (p.some x h.0), all_weak V h.1), tt)
      union_keeps (i.none a) V h = ((weak v.nothing p.nothing, all_weak V h), tt)
      union_keeps (i.nil a) V h = ((nil, all_weak V h), tt)
      union_keeps i.cons (x ∷ v.list xs ∷ V) h = ((cons x xs h.0 h.1.0, all_weak V h.1.1), tt)
      union_keeps _ _ h = tt

      pub step_keeps : (total : Identity → ℤ) (passes : Trial) (r : Straight) (V : List Val) → MayStep May r V → AllHave V →
          StepHas Q C F (step e total passes r V)
      step_keeps total passes (on_stack r) V k h = step_weak (stack_step r V) (stack_keeps r V h)
      step_keeps total passes (on_pairs r) V k h = step_weak (pair_step r V) (pair_keeps r V h)
      step_keeps total passes (on_unions r) V k h = union_keeps r V h
      step_keeps total passes (on_collections r) V k h = step_weak (collection_step r V) (collection_keeps r V h)
      step_keeps total passes (on_numbers r) V k h = step_weak (number_step r V) (number_keeps r V h)
      step_keeps total passes (on_truth r) V k h = step_weak (logic_step r V) (logic_keeps r V h)
      step_keeps total passes (on_text r) V k h = step_weak (text_step r V) (text_keeps r V h)
      step_keeps total passes (on_hashes r) V k h = step_weak (hash_step passes r V) (hash_keeps passes r V h)
      step_keeps total passes (on_environment r) V k h = step_weak (environment_step e r V) (environment_keeps r V h)
      step_keeps total passes (on_operations r) V k h = tt
      step_keeps total passes (on_tickets r) V k h = step_weak (ticket_step e total r V) (ticket_keeps total r V k h)
