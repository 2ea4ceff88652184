-- Behind the statements of a file lists in storages can be counted in eight bytes.
use Rattle.std.proofs.Common.{◌≡◌, ◌≤◌, ◌<◌, ◌+◌, ◌^◌, ◌&&◌, ℕ, ℤ, Bool, true, false, cond, nat_le, List, [], ◌∷◌, length, drop, Option, Some, None, Ok, Err, is_some, refl, sym, subst, arith}
use Rattle.std.specs.Prelude.{Result, is_none, codes, pos, option_map}
use Rattle.std.specs.List.{All, AllByRecursion}
use Rattle.std.specs.Map.{values_of}
use Rattle.std.specs.Str.{bytes_eq}
use Rattle.std.proofs.lemmas.Bool.{eqb-true}
use Rattle.std.proofs.lemmas.List.{length-drop}
use Rattle.std.proofs.lemmas.List.Elements.{All-nil, All-cons, All-head, All-tail}
use Rattle.rules_text.specs.nodes.Limits.{file_limit, most_mutez, most_level, most_rate, most_contents}
use Rattle.rules_text.specs.nodes.Tree.{Tree, int, str, bytes, prim, seq, Trees, none, more, size, sizes}
use Rattle.rules_text.specs.text.Token.{Token}
use Rattle.rules_text.specs.text.Syntax.{element_tree}
use Rattle.rules_text.specs.text.Text.{Leads, Stands, EndsAt}
use Rattle.rules_data.specs.forms.Spelling.{is_chain_id, is_key_hash}
use Rattle.rules_data.specs.gas.Prices.{Listed}
use Rattle.rules_data.specs.gas.Tables.{table_of}
use Rattle.rules_data.specs.values.Val.{Val, Vals, no_val, more_vals, Pairs, no_pair, more_pairs}
use Rattle.rules_data.specs.values.Val as v
use Rattle.rules_code.specs.evaluation.Surroundings.{Contract}
use Rattle.rules_world.specs.world.Balances.{Granted, Repeated, TooMuch, endowed}
use Rattle.rules_world.specs.world.Contents.{Content}
use Rattle.rules_world.specs.world.Groups.{Settled, group}
use Rattle.rules_world.specs.world.Receipts.{Receipt}
use Rattle.rules_world.specs.world.World.{account_at}
use Rattle.rules_files.specs.course.Course.{Course, Step, goes_on, stops, stuck_step, first_step, step_behind, with_rate, with_prices, costs_step, granting, is_later, timed, numbered, BadOrder}
use Rattle.rules_files.specs.course.Ranges.{IsStatement}
use Rattle.rules_files.specs.commands.Places.{Placed, AreStatements, IsNodeAt}
use Rattle.rules_files.specs.commands.Replay.{Run, going, stopped, stuck_run, step, continued, taken, run_one, run_all}
use Rattle.rules_files.specs.snapshots.Spelling.{count_vals}
use Rattle.rules_files.specs.statements.Statements.{Statement, Chain, Profile, Costs, Account, Block, Group, ◌>>=◌, only_if, nodes_of, number_of, bytes_of, moment_of, within, named, content_by, each_content, counted, contents_of, chain_of, profile_of, costs_of, account_of, block_of, group_of, statement_by, form}
use Rattle.rules_files.specs.statements.Statements as statements
use Rattle.laws_files.specs.Files.{granted_by}
use Rattle.laws_files.specs.Laws.{IsGoodCourse}
use Rattle.laws_files.proofs.ForCallers.{statements_have_ranges, statements_are_small}
use Rattle.laws_files.proofs.sizes.Nodes.{element_fits}
use Rattle.laws_files.proofs.sizes.Tokens.{gap_le, token_shorter}
use Rattle.laws_commands.specs.reached.Counted.{ListsWithin, AllListsWithin, EntryListsWithin, ContractWithin}
use Rattle.laws_commands.specs.reached.Kept.{CanBeCounted, AllCanBeCounted, EntriesCanBeCounted}
use Rattle.laws_commands.specs.reached.Reached.{ListsAreCounted, ReachedAreSound}
use Rattle.laws_commands.proofs.reached_lemmas.Courses.{IsGoodIf, Stays, one_stays}
use Rattle.laws_commands.proofs.reached_lemmas.Groups.{spare, spare_rises, spare_is, SettledWithin, group_within}
use Rattle.laws_commands.proofs.written_lemmas.files.Statements.{then_has, any_then, either_has}
use Rattle.laws_commands.proofs.reached_lemmas.Reached.{counted_are_sound}
use Rattle.laws_commands.proofs.reached_lemmas.Worlds.{WorldWithin, more_world}
use Rattle.laws_commands.proofs.common.Lists.{OnSome}

-- ---- statements take as many bytes as they have nodes

leads_fit : (text : List ℕ) (ts : List Token) (rest : List ℕ) → Leads text ts (Some rest) → length ts + length rest ≤ length text
leads_fit text [] rest p = omega (arith, gap_le text rest p)
leads_fit text (t ∷ ts) rest p = omega (arith, gap_le text p.0 p.2, token_shorter p.0 p.1 t p.3, leads_fit p.1 ts rest p.4)

end_fits : (rest : List ℕ) (end : ℕ) → EndsAt rest end → end ≤ length rest
end_fits [] end e = omega (arith, e)
end_fits (c ∷ rest) end e = omega (arith, token_shorter (c ∷ rest) e.0 Token.semicolon e.1, e.2)

stands_fits : (text : List ℕ) (t : Tree) (start end : ℕ) → Stands text t start end → size t + end ≤ length text
stands_fits text t start end s =
    let nodes : size t ≤ length s.tokens =
    subst (λ (x : Tree). size x ≤ length s.tokens) (sym s.statement.stands)
    (subst (λ (ts : List Token). size (element_tree s.statement.element) ≤ length ts) (sym s.statement.tokens)
    (element_fits s.statement.element)) in
    omega (arith, leads_fit text s.tokens s.rest s.leads, nodes, end_fits s.rest end s.ends)

node_fits : (file : List ℕ) (place : ℕ) (t : Tree) (first behind : ℕ) → place ≤ length file → IsNodeAt file place t first behind →
    (size t + place ≤ behind) × (behind ≤ length file)
node_fits file place t first behind within n =
    (omega (arith, stands_fits (drop place file) t n.0 n.1 n.2.stands, length-drop place file, within, n.4), omega (arith, n.4))

-- ---- groups have no more contents than nodes

abbrev FewContents : ℕ → Statement → Type 0
FewContents n (Group source contents) = length contents ≤ n
FewContents n s = Unit {0}

nodes_count : (ts : Trees) → length (nodes_of ts) ≤ sizes ts
nodes_count none = omega arith
nodes_count (more t ts) = let one = some_node t in let rest = nodes_count ts in omega (arith, one, rest)
  where
    some_node : (t : Tree) → 1 ≤ size t
    some_node (int n) = omega arith
    some_node (str s) = omega arith
    some_node (bytes b) = omega arith
    some_node (prim name annots ts) = omega arith
    some_node (seq ts) = omega arith

each_few : (ts : List Tree) → OnSome (λ (cs : List Content). length cs ≤ length ts) (each_content ts)
each_few [] = omega arith
each_few (t ∷ ts) =
    any_then (λ (cs : List Content). length cs ≤ length (t ∷ ts)) (named content_by t) _ (λ content.
    then_has (λ (cs : List Content). length cs ≤ length ts) (λ (cs : List Content). length cs ≤ length (t ∷ ts)) (each_content ts)
    (λ contents. Some (content ∷ contents)) (each_few ts)
    (λ contents h. omega (arith, h)))

counted_few : (ts : List Tree) → OnSome (λ (cs : List Content). length cs ≤ length ts) (counted ts)
counted_few ts = by (nat_le 1 (length ts) && nat_le (length ts) most_contents)
  where
    by : (b : Bool) → OnSome (λ (cs : List Content). length cs ≤ length ts) (only_if b ts >>= each_content)
    by true = each_few ts
    by false = tt

weaken : {A : Type 0} (P Q : A → Type 0) (o : Option A) → ((x : A) → P x → Q x) → OnSome P o → OnSome Q o
weaken P Q None f h = tt
weaken P Q (Some x) f h = f x h

contents_few : (t : Tree) → OnSome (λ (cs : List Content). length cs ≤ size t) (contents_of t)
contents_few (seq ts) =
    weaken (λ (cs : List Content). length cs ≤ length (nodes_of ts)) (λ (cs : List Content). length cs ≤ size (seq ts)) (counted
    (nodes_of ts))
    (λ cs h. let n = nodes_count ts in omega (arith, n, h)) (counted_few (nodes_of ts))
contents_few (int n) = tt
contents_few (str s) = tt
contents_few (bytes b) = tt
contents_few (prim name annots ts) = tt

module _ (n : ℕ) where
  chain_has : (ts : List Tree) → OnSome (FewContents n) (chain_of ts)
  chain_has (id ∷ level ∷ moment ∷ []) =
      any_then (FewContents n) (bytes_of is_chain_id id) _ (λ id.
      any_then (FewContents n) (number_of most_level level) _ (λ level. any_then (FewContents n) (moment_of moment) (λ moment. Some
      (Chain id level moment)) (λ moment. tt)))
  chain_has _ = tt

  profile_has : (ts : List Tree) → OnSome (FewContents n) (profile_of ts)
  profile_has (profile ∷ rate ∷ []) = any_then (FewContents n) (within (pos 2) (pos 2) profile) _ (λ p. by (number_of most_rate rate))
    where
      by : (o : Option ℕ) → OnSome (FewContents n) (option_map Profile o)
      by (Some n) = tt
      by None = tt
  profile_has _ = tt

  costs_has : (ts : List Tree) → OnSome (FewContents n) (costs_of ts)
  costs_has (table ∷ []) = by (statements.table_of table)
    where
      by : (o : Option Tree) → OnSome (FewContents n) (option_map Costs o)
      by (Some n) = tt
      by None = tt
  costs_has _ = tt

  account_has : (ts : List Tree) → OnSome (FewContents n) (account_of ts)
  account_has (who ∷ mutez ∷ []) =
      any_then (FewContents n) (bytes_of is_key_hash who) _ (λ who. any_then (FewContents n) (number_of most_mutez mutez) (λ mutez. Some
      (Account who mutez)) (λ mutez. tt))
  account_has _ = tt

  block_has : (ts : List Tree) → OnSome (FewContents n) (block_of ts)
  block_has (level ∷ moment ∷ []) =
      any_then (FewContents n) (number_of most_level level) _ (λ level. any_then (FewContents n) (moment_of moment) (λ moment. Some
      (Block level moment)) (λ moment. tt))
  block_has _ = tt

  group_has : (ts : Trees) → sizes ts ≤ n → OnSome (FewContents n) (group_of (nodes_of ts))
  group_has (more source (more contents none)) le =
      any_then (FewContents n) (bytes_of is_key_hash source) _ (λ source.
      then_has (λ (cs : List Content). length cs ≤ size contents) (FewContents n) (contents_of contents) (λ contents. Some
      (Group source contents)) (contents_few contents)
      (λ cs h. omega (arith, h, le)))
  group_has none le = tt
  group_has (more a none) le = tt
  group_has (more a (more b (more c ts))) le = tt

  statement_has : (name : List ℕ) (ts : Trees) → sizes ts ≤ n → OnSome (FewContents n) (statement_by name (nodes_of ts))
  statement_has name ts le =
      either_has (FewContents n) (bytes_eq name (codes "Chain")) _ _ (chain_has (nodes_of ts))
      (either_has (FewContents n) (bytes_eq name (codes "Profile")) _ _ (profile_has (nodes_of ts))
      (either_has (FewContents n) (bytes_eq name (codes "Costs")) _ _ (costs_has (nodes_of ts))
      (either_has (FewContents n) (bytes_eq name (codes "Account")) _ _ (account_has (nodes_of ts))
      (either_has (FewContents n) (bytes_eq name (codes "Block")) _ _ (block_has (nodes_of ts))
      (either_has (FewContents n) (bytes_eq name (codes "Group")) _ _ (group_has ts le) tt)))))

form_few : (t : Tree) → OnSome (FewContents (size t)) (form t)
form_few (prim name [] args) = statement_has (size (prim name [] args)) name args (omega arith)
form_few (prim name (a ∷ annots) args) = tt
form_few (int n) = tt
form_few (str s) = tt
form_few (bytes b) = tt
form_few (seq ts) = tt

-- ---- courses

abbrev CourseWithin : ℕ → Option Course → Type 0
CourseWithin k None = Unit {0}
CourseWithin k (Some c) = WorldWithin (spare k) c.world

abbrev StepWithin : ℕ → Step → Type 0
StepWithin k (goes_on c receipts) = WorldWithin (spare k) c.world
StepWithin k (stops why) = Unit {0}
StepWithin k stuck_step = Unit {0}

first_within : (j : ℕ) (s : Statement) → IsStatement s → StepWithin j (first_step s)
first_within j (Chain id level moment) i = record {
  chain = (let e = eqb-true (length id) 4 i.0 in omega
      (arith, e));
  contracts = All-nil (ContractWithin (spare j));
}
first_within j (Profile rate) i = tt
first_within j (Costs table) i = tt
first_within j (Account who mutez) i = tt
first_within j (Block level moment) i = tt
first_within j (Group source contents) i = tt

module _ (c : Course) (good : IsGoodCourse c) (k j : ℕ) (p : WorldWithin (spare k) c.world) (le : k ≤ j) where
  later : WorldWithin (spare j) c.world
  later = more_world (spare k) (spare j) c.world (spare_rises k j le) p

  profile_within : (rate : ℕ) (b : Bool) → StepWithin j (cond b (goes_on (with_rate c rate) []) (stops BadOrder))
  profile_within rate true = record { chain = later.chain; contracts = later.contracts }
  profile_within rate false = tt

  prices_within : (r : Result Listed ℕ) → StepWithin j (with_prices c r)
  prices_within (Ok prices) = later
  prices_within (Err location) = tt

  costs_within : (b : Bool) (table : Tree) → StepWithin j (costs_step b c table)
  costs_within true table = prices_within (table_of table)
  costs_within false table = tt

  grant_within : (who : List ℕ) (mutez : ℕ) (a b : Bool) →
      StepWithin j (granting c (cond a Repeated (cond b (Granted (endowed c.world who mutez)) TooMuch)))
  grant_within who mutez true b = tt
  grant_within who mutez false true = record { chain = later.chain; contracts = later.contracts }
  grant_within who mutez false false = tt

  block_within : (level : ℕ) (moment : ℤ) (b : Bool) → StepWithin j (cond b (goes_on (timed c level moment) []) (stops BadOrder))
  block_within level moment true = record { chain = later.chain; contracts = later.contracts }
  block_within level moment false = tt

  settled_within : (o : Option Settled) → SettledWithin (spare j) o → StepWithin j (numbered c o)
  settled_within (Some s) h = h
  settled_within None h = tt

  step_within : (s : Statement) (n : ℕ) → IsStatement s → FewContents n s → k + n ≤ j → StepWithin j (step_behind c s)
  step_within (Chain id level moment) n i f room = tt
  step_within (Profile rate) n i f room = profile_within rate (c.at_head && is_none c.world.rate)
  step_within (Costs table) n i f room = costs_within c.at_head table
  step_within (Account who mutez) n i f room = grant_within who mutez (is_some (account_at c.world who)) (nat_le
      (c.world.granted + mutez) most_mutez)
  step_within (Block level moment) n i f room = block_within level moment (is_later c.world level moment)
  step_within (Group source contents) n i f room =
      settled_within (group c.prices (c.groups + 1) source contents c.world)
      (group_within c.prices (c.groups + 1) source contents c.world k j good.charged i.0 i.1 (omega (arith, f, room)) p)

-- ---- runs

abbrev RunWithin : ℕ → Run → Type 0
RunWithin k (going receipts c) = CourseWithin k c
RunWithin k (stopped receipts f place) = Unit {0}
RunWithin k stuck_run = Unit {0}

continued_within : (k : ℕ) (receipts : List Receipt) (place : ℕ) (x : Step) → StepWithin k x → RunWithin k (continued receipts place x)
continued_within k receipts place (goes_on c rs) h = h
continued_within k receipts place (stops why) h = tt
continued_within k receipts place stuck_step h = tt

stepped_within : (groups granted k j n : ℕ) (c : Option Course) (s : Statement) → IsGoodIf groups granted c → CourseWithin k c →
    IsStatement s → FewContents n s → k + n ≤ j →
    StepWithin j (step c s)
stepped_within groups granted k j n None s g p i f room = first_within j s i
stepped_within groups granted k j n (Some c) s g p i f room = step_within c g.0 k j p (omega (arith, room)) s n i f room

one_within : (s : Placed) (granted most k j : ℕ) (r : Run) → size s.node < 2 ^ 32 → Stays granted most r → k + size s.node ≤ j →
    RunWithin k r → RunWithin j (run_one r s)
one_within s granted most k j (going receipts c) small h room p = by (form s.node) refl
  where
    by : (o : Option Statement) → form s.node ≡ o → RunWithin j (taken receipts c s.place o)
    by (Some x) e =
        continued_within j receipts s.place (step c x)
        (stepped_within (length receipts) granted k j (size s.node) c x h.0 p (statements_have_ranges s.node x e small) (subst (OnSome
        (FewContents (size s.node))) e (form_few s.node)) room)
    by None e = tt
one_within s granted most k j (stopped receipts f place) small h room p = tt
one_within s granted most k j stuck_run small h room p = tt

all_within : (file : List ℕ) (place : ℕ) (ss : List Placed) (to granted most : ℕ) (r : Run) →
    AllByRecursion (λ s. size s.node < 2 ^ 32) ss → most + length ss < 2 ^ 64 →
    Stays granted most r → place ≤ length file → AreStatements file place ss to → RunWithin place r → RunWithin to (run_all r ss)
all_within file place [] to granted most r small room h within e p = subst (λ k. RunWithin k r) e p
all_within file place (s ∷ ss) to granted most r small room h within (behind, n, tail) p =
    let fits = node_fits file place s.node s.place behind within n in
    all_within file behind ss to (granted + granted_by (form s.node)) (most + 1) (run_one r s) small.1 (omega (arith, room))
    (one_stays s granted most r small.0 (omega (arith, room)) h) fits.1 tail
    (one_within s granted most place behind r small.0 h (omega (arith, fits.0)) p)

-- ---- all storages

fewer : (a n : ℕ) → a ≤ n → n < 2 ^ 64 → a < 2 ^ 64
fewer a n h g = omega (arith, h, g)

mutual
  value_counted : (n : ℕ) (x : Val) → n < 2 ^ 64 → ListsWithin n x → CanBeCounted x
  value_counted n (v.some x) few h = value_counted n x few h
  value_counted n (v.left x) few h = value_counted n x few h
  value_counted n (v.right x) few h = value_counted n x few h
  value_counted n (v.both x y) few h = (value_counted n x few h.0, value_counted n y few h.1)
  value_counted n (v.list xs) few h = (fewer (count_vals xs) n h.0 few, values_counted n xs few h.1)
  value_counted n (v.table es) few h = entries_counted n es few h
  value_counted n (v.big_table es) few h = entries_counted n es few h
  value_counted n (v.ticket issuer kind content amount) few h = tt
  value_counted n v.unit few h = tt
  value_counted n (v.truth b) few h = tt
  value_counted n (v.number z) few h = tt
  value_counted n (v.text b) few h = tt
  value_counted n (v.bytes b) few h = tt
  value_counted n v.nothing few h = tt
  value_counted n (v.set xs) few h = tt
  value_counted n (v.lambda t recursive) few h = tt
  value_counted n (v.operation k) few h = tt

  values_counted : (n : ℕ) (xs : Vals) → n < 2 ^ 64 → AllListsWithin n xs → AllCanBeCounted xs
  values_counted n no_val few h = tt
  values_counted n (more_vals x xs) few h = (value_counted n x few h.0, values_counted n xs few h.1)

  entries_counted : (n : ℕ) (es : Pairs) → n < 2 ^ 64 → EntryListsWithin n es → EntriesCanBeCounted es
  entries_counted n no_pair few h = tt
  entries_counted n (more_pairs x y es) few h = (value_counted n y few h.1, entries_counted n es few h.2)

contracts_counted : (n : ℕ) (cs : List (List ℕ × Contract)) → n < 2 ^ 64 → All (ContractWithin n) (values_of cs) →
    All (λ (d : List ℕ × Contract). CanBeCounted d.1.storage) cs
contracts_counted n [] few h = All-nil (λ (d : List ℕ × Contract). CanBeCounted d.1.storage)
contracts_counted n (d ∷ cs) few h =
    All-cons (λ (d : List ℕ × Contract). CanBeCounted d.1.storage) d cs
    (value_counted n d.1.storage few (All-head (ContractWithin n) d.1 (values_of cs) h).1)
    (contracts_counted n cs few (All-tail (ContractWithin n) d.1 (values_of cs) h))

spare_few : (to : ℕ) → to ≤ file_limit → spare to < 2 ^ 64
spare_few to h = let s = spare_is to in omega (arith, s, h)

pub lists_are_counted : ListsAreCounted
lists_are_counted file ss to receipts c stand runs =
    let few = statements_are_small file ss to stand in
    let p : RunWithin to (run_all (going [] None) ss) =
    all_within file 0 ss to 0 0 (going [] None) few.nodes (omega (arith, few.count, few.within)) ((refl, refl), tt, tt, omega arith)
    (omega arith) stand tt in
    let q : RunWithin to (going receipts (Some c)) = subst (RunWithin to) runs p in
    contracts_counted (spare to) c.world.contracts (spare_few to few.within) q.contracts

pub reached_are_sound : ReachedAreSound
reached_are_sound file bs s reached saves few = counted_are_sound lists_are_counted file bs s reached saves few
