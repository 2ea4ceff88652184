-- The ranges of the fields of statements.
use Rattle.std.proofs.Common.{◌≡◌, ◌≤◌, ◌<◌, ◌+◌, ◌-◌, ◌^◌, ◌&&◌, ◌≤ℤ◌, ℕ, ℤ, pos, neg_ℤ, int_le, nat_le, unsigned_abs, Bool, true, false, List, [], ◌∷◌, length, codes, Some, None, refl, sym, ap, subst, arith, suc, if◌then◌else◌}
use Rattle.std.specs.declared.option.Option.{Option}
use Rattle.std.specs.Option.{option_map}
use Rattle.std.specs.List.{All}
use Rattle.std.specs.Str.{bytes_eq}
use Rattle.std.proofs.lemmas.List.Elements.{All-nil, All-cons}
use Rattle.rules_text.specs.nodes.Limits.{most_mutez, most_level, most_contents, most_rate, most_tickets}
use Rattle.rules_text.specs.nodes.Tree.{Tree, int, str, bytes, prim, seq, Trees, none, more, size, sizes}
use Rattle.rules_data.specs.gas.Tables.{is_table}
use Rattle.rules_data.specs.forms.Spelling.{is_chain_id, is_contract, is_entrypoint, is_key_hash, is_place}
use Rattle.rules_data.specs.values.Forms.{is_ticket_amount}
use Rattle.rules_world.specs.world.Contents.{Action, Originate, Call, Give, Content}
use Rattle.rules_world.specs.world.Forms.{is_moment, IsAction, IsContent}
use Rattle.rules_files.specs.course.Ranges.{IsStatement}
use Rattle.rules_files.specs.statements.Statements.{Statement, Chain, Profile, Costs, Account, Block, Group, ◌>>=◌, only_if, integer_of, within, number_of, moment_of, gas_of, ticket_amount_of, bytes_of, entrypoint_of, table_of, nodes_of, named, originate_of, call_of, give_of, action_by, content_by, each_content, contents_of, chain_of, profile_of, costs_of, account_of, block_of, group_of, statement_by}
use Rattle.laws_files.specs.Laws.{StatementsHaveRanges}

-- ---- what is found step by step

pub record Found {A B : Type 0} (o : Option A) (f : A → Option B) (y : B) : Type 0 where
  pub part : A
  pub first : o ≡ Some part
  pub rest : f part ≡ Some y

found : {A B : Type 0} (o : Option A) (f : A → Option B) (y : B) → (o >>= f) ≡ Some y → Found o f y
found (Some x) f y h = record { part = x; first = refl; rest = h }
found None f y h = absurd cc

passed : {A : Type 0} (test : Bool) (x y : A) → only_if test x ≡ Some y → (test ≡ true) × (y ≡ x)
passed true x y h = (refl, cc)
passed false x y h = absurd cc

-- ---- fields

in_range : (low high : ℤ) (t : Tree) (n : ℤ) → within low high t ≡ Some n → (int_le low n && int_le n high) ≡ true
in_range low high t n h =
    let f = found (integer_of t) (λ m. only_if (int_le low m && int_le m high) m) n h in
    let p = passed (int_le low f.part && int_le f.part high) f.part n f.rest in
    subst (λ m. (int_le low m && int_le m high) ≡ true) (sym p.1) p.0

abs_within : (most : ℕ) (n : ℤ) → (int_le (pos 0) n && int_le n (pos most)) ≡ true → unsigned_abs n ≤ most
abs_within most n h = grind arith

mapped : {A B : Type 0} (f : A → B) (o : Option A) (y : B) → option_map f o ≡ Some y → (x : A) × (o ≡ Some x) × (y ≡ f x)
mapped f (Some x) y h = (x, refl, cc)
mapped f None y h = absurd cc

number_within : (most : ℕ) (t : Tree) (n : ℕ) → number_of most t ≡ Some n → n ≤ most
number_within most t n h =
    let m = mapped unsigned_abs (within (pos 0) (pos most) t) n h in
    subst (λ k. k ≤ most) (sym m.2) (abs_within most m.0 (in_range (pos 0) (pos most) t m.0 m.1))

moment_within : (t : Tree) (n : ℤ) → moment_of t ≡ Some n → is_moment n ≡ true
moment_within t n h = in_range (neg_ℤ (pos (2 ^ 63))) (pos (2 ^ 63 - 1)) t n h

not_negative : (n : ℤ) → int_le (pos 0) n ≡ true → pos 0 ≤ℤ n
not_negative n h = grind arith

gas_within : (t : Tree) (n : ℤ) → gas_of t ≡ Some n → pos 0 ≤ℤ n
gas_within t n h =
    let f = found (integer_of t) (λ m. only_if (int_le (pos 0) m) m) n h in
    let p = passed (int_le (pos 0) f.part) f.part n f.rest in
    subst (λ m. pos 0 ≤ℤ m) (sym p.1) (not_negative f.part p.0)

amount_within : (t : Tree) (n : ℤ) → ticket_amount_of t ≡ Some n → is_ticket_amount n ≡ true
amount_within t n h = in_range (pos 1) (pos most_tickets) t n h

bytes_pass : (test : List ℕ → Bool) (t : Tree) (b : List ℕ) → bytes_of test t ≡ Some b → test b ≡ true
bytes_pass test (bytes c) b h = let p = passed (test c) c b h in subst (λ x. test x ≡ true) (sym p.1) p.0
bytes_pass test (int n) b h = absurd cc
bytes_pass test (str s) b h = absurd cc
bytes_pass test (prim n as' ts) b h = absurd cc
bytes_pass test (seq ts) b h = absurd cc

names_entrypoint : (t : Tree) (e : List ℕ) → entrypoint_of t ≡ Some e → is_entrypoint e ≡ true
names_entrypoint (str s) e h = let p = passed (is_entrypoint s) s e h in subst (λ x. is_entrypoint x ≡ true) (sym p.1) p.0
names_entrypoint (int n) e h = absurd cc
names_entrypoint (bytes b) e h = absurd cc
names_entrypoint (prim n as' ts) e h = absurd cc
names_entrypoint (seq ts) e h = absurd cc

-- ---- actions; the nodes within one have fewer than 2^32 nodes

total : List Tree → ℕ
total [] = 0
total (t ∷ ts) = size t + total ts

total_is : (ts : Trees) → total (nodes_of ts) ≡ sizes ts
unfolding total
total_is none = refl
total_is (more t ts) = ap (λ n. size t + n) (total_is ts)

originates : (fields : List Tree) (a : Action) → originate_of fields ≡ Some a → total fields < 2 ^ 32 → IsAction a
unfolding total
originates (balance ∷ script ∷ storage ∷ []) a h small =
    let n = found (number_of most_mutez balance) (λ n. Some (Originate n script storage)) a h in
    let same : a ≡ Originate n.part script storage = sym (some n.rest) in
    subst IsAction (sym same) (number_within most_mutez balance n.part n.first, omega arith, omega arith)
  where
    some : {x : Action} → Some x ≡ Some a → x ≡ a
    some e = cc
originates [] a h small = absurd cc
originates (x ∷ []) a h small = absurd cc
originates (x ∷ y ∷ []) a h small = absurd cc
originates (x ∷ y ∷ z ∷ w ∷ ts) a h small = absurd cc

calls : (fields : List Tree) (a : Action) → call_of fields ≡ Some a → total fields < 2 ^ 32 → IsAction a
unfolding total
calls (amount ∷ destination ∷ entrypoint ∷ argument ∷ []) a h small =
    let n = found (number_of most_mutez amount) _ a h in
    let d = found (bytes_of is_place destination) _ a n.rest in
    let e = found (entrypoint_of entrypoint) (λ e. Some (Call n.part d.part e argument)) a d.rest in
    let same : a ≡ Call n.part d.part e.part argument = sym (some e.rest) in
    subst IsAction (sym same) (
      number_within most_mutez amount n.part n.first,
      (bytes_pass is_place destination d.part d.first, names_entrypoint entrypoint e.part e.first),
      omega arith,
    )
  where
    some : {x : Action} → Some x ≡ Some a → x ≡ a
    some e = cc
calls [] a h small = absurd cc
calls (x ∷ []) a h small = absurd cc
calls (x ∷ y ∷ []) a h small = absurd cc
calls (x ∷ y ∷ z ∷ []) a h small = absurd cc
calls (x ∷ y ∷ z ∷ w ∷ v ∷ ts) a h small = absurd cc

gives : (fields : List Tree) (a : Action) → give_of fields ≡ Some a → total fields < 2 ^ 32 → IsAction a
unfolding total
gives (issuer ∷ kind ∷ content ∷ amount ∷ destination ∷ entrypoint ∷ []) a h small =
    let i = found (bytes_of is_contract issuer) _ a h in
    let n = found (ticket_amount_of amount) _ a i.rest in
    let d = found (bytes_of is_place destination) _ a n.rest in
    let e = found (entrypoint_of entrypoint) (λ e. Some (Give i.part kind content n.part d.part e)) a d.rest in
    let same : a ≡ Give i.part kind content n.part d.part e.part = sym (some e.rest) in
    subst IsAction (sym same) (
      bytes_pass is_contract issuer i.part i.first,
      amount_within amount n.part n.first,
      (bytes_pass is_place destination d.part d.first, names_entrypoint entrypoint e.part e.first),
      omega arith,
    )
  where
    some : {x : Action} → Some x ≡ Some a → x ≡ a
    some e = cc
gives [] a h small = absurd cc
gives (x ∷ []) a h small = absurd cc
gives (x ∷ y ∷ []) a h small = absurd cc
gives (x ∷ y ∷ z ∷ []) a h small = absurd cc
gives (x ∷ y ∷ z ∷ w ∷ []) a h small = absurd cc
gives (x ∷ y ∷ z ∷ w ∷ v ∷ []) a h small = absurd cc
gives (x ∷ y ∷ z ∷ w ∷ v ∷ u ∷ t ∷ ts) a h small = absurd cc

acts : (name : List ℕ) (fields : List Tree) (a : Action) → action_by name fields ≡ Some a → total fields < 2 ^ 32 → IsAction a
acts name fields a h small = by (bytes_eq name (codes "Originate")) (bytes_eq name (codes "Call")) (bytes_eq name (codes "Give")) h
  where
    by : (o c g : Bool) → (if o then originate_of fields else if c then call_of fields else if g then give_of fields else None) ≡ Some a → IsAction a
    by true c g e = originates fields a e small
    by false true g e = calls fields a e small
    by false false true e = gives fields a e small
    by false false false e = absurd cc

-- ---- contents

is_content : (name : List ℕ) (fields : List Tree) (c : Content) → content_by name fields ≡ Some c → total fields < 2 ^ 32 → IsContent c
unfolding total
is_content name (fee ∷ gas ∷ fields) c h small =
    let f = found (number_of most_mutez fee) _ c h in
    let g = found (gas_of gas) _ c f.rest in
    let a = found (action_by name fields) (λ a. Some (record { fee = f.part; gas = g.part; action = a })) c g.rest in
    let same : c ≡ record { fee = f.part; gas = g.part; action = a.part } = sym (some a.rest) in
    subst IsContent (sym same) (
      number_within most_mutez fee f.part f.first,
      gas_within gas g.part g.first,
      acts name fields a.part a.first (omega arith),
    )
  where
    some : {x : Content} → Some x ≡ Some c → x ≡ c
    some e = cc
is_content name [] c h small = absurd cc
is_content name (fee ∷ []) c h small = absurd cc

content_in : (t : Tree) (c : Content) → named content_by t ≡ Some c → size t < 2 ^ 32 → IsContent c
unfolding total
content_in (prim name [] ts) c h small =
    let less : total (nodes_of ts) < 2 ^ 32 = subst (λ n. n < 2 ^ 32) (sym (total_is ts)) (omega arith) in
    is_content name (nodes_of ts) c h less
content_in (prim name (a ∷ as') ts) c h small = absurd cc
content_in (int n) c h small = absurd cc
content_in (str s) c h small = absurd cc
content_in (bytes b) c h small = absurd cc
content_in (seq ts) c h small = absurd cc

pub record AreContents (cs : List Content) (n : ℕ) : Type 0 where
  pub forms : All IsContent cs
  pub count : length cs ≡ n

each : (ts : List Tree) (cs : List Content) → each_content ts ≡ Some cs → total ts < 2 ^ 32 → AreContents cs (length ts)
unfolding total
each [] cs h small = let none : cs ≡ [] = cc in subst (λ x. AreContents x 0) (sym none) (record { forms = All-nil IsContent; count = refl })
each (t ∷ ts) cs h small =
    let c = found (named content_by t) _ cs h in
    let more = found (each_content ts) (λ xs. Some (c.part ∷ xs)) cs c.rest in
    let same : cs ≡ c.part ∷ more.part = sym (some more.rest) in
    let others = each ts more.part more.first (omega arith) in
    subst (λ x. AreContents x (length (t ∷ ts))) (sym same) (record { forms = All-cons IsContent c.part more.part (content_in t c.part c.first (omega arith)) others.forms; count = ap suc others.count })
  where
    some : {x : List Content} → Some x ≡ Some cs → x ≡ cs
    some e = cc

few : (n : ℕ) → (nat_le 1 n && nat_le n most_contents) ≡ true → n ≤ most_contents
few n h = grind arith

contents_in : (t : Tree) (cs : List Content) → contents_of t ≡ Some cs → size t < 2 ^ 32 → All IsContent cs × (length cs ≤ most_contents)
unfolding total
contents_in (seq ts) cs h small =
    let o = found (only_if (nat_le 1 (length (nodes_of ts)) && nat_le (length (nodes_of ts)) most_contents) (nodes_of ts)) each_content cs h in
    let p = passed (nat_le 1 (length (nodes_of ts)) && nat_le (length (nodes_of ts)) most_contents) (nodes_of ts) o.part o.first in
    let less : total (nodes_of ts) < 2 ^ 32 = subst (λ n. n < 2 ^ 32) (sym (total_is ts)) (omega arith) in
    let a = each (nodes_of ts) cs (subst (λ x. each_content x ≡ Some cs) p.1 o.rest) less in
    (a.forms, subst (λ n. n ≤ most_contents) (sym a.count) (few (length (nodes_of ts)) p.0))
contents_in (int n) cs h small = absurd cc
contents_in (str s) cs h small = absurd cc
contents_in (bytes b) cs h small = absurd cc
contents_in (prim n as' ts) cs h small = absurd cc

-- ---- statements

level_small : (n : ℕ) → n ≤ most_level → n < 2 ^ 32
level_small n h = omega arith

chains : (fields : List Tree) (s : Statement) → chain_of fields ≡ Some s → IsStatement s
chains (id ∷ level ∷ moment ∷ []) s h =
    let i = found (bytes_of is_chain_id id) _ s h in
    let l = found (number_of most_level level) _ s i.rest in
    let m = found (moment_of moment) (λ m. Some (Chain i.part l.part m)) s l.rest in
    let same : s ≡ Chain i.part l.part m.part = sym (some m.rest) in
    subst IsStatement (sym same) (
      bytes_pass is_chain_id id i.part i.first,
      level_small l.part (number_within most_level level l.part l.first),
      moment_within moment m.part m.first,
    )
  where
    some : {x : Statement} → Some x ≡ Some s → x ≡ s
    some e = cc
chains [] s h = absurd cc
chains (x ∷ []) s h = absurd cc
chains (x ∷ y ∷ []) s h = absurd cc
chains (x ∷ y ∷ z ∷ w ∷ ts) s h = absurd cc

profiles : (fields : List Tree) (s : Statement) → profile_of fields ≡ Some s → IsStatement s
profiles (profile ∷ rate ∷ []) s h =
    let p = found (within (pos 2) (pos 2) profile) (λ p. option_map Profile (number_of most_rate rate)) s h in
    let m = mapped Profile (number_of most_rate rate) s p.rest in
    subst IsStatement (sym m.2) (number_within most_rate rate m.0 m.1)
profiles [] s h = absurd cc
profiles (x ∷ []) s h = absurd cc
profiles (x ∷ y ∷ z ∷ ts) s h = absurd cc

tables : (fields : List Tree) (s : Statement) → costs_of fields ≡ Some s → total fields < 2 ^ 32 → IsStatement s
unfolding total
tables (table ∷ []) s h small =
    let m = mapped Costs (table_of table) s h in
    let p = passed (is_table table) table m.0 m.1 in
    subst IsStatement (sym m.2) (subst (λ x. (is_table x ≡ true) × (size x < 2 ^ 32)) (sym p.1) (p.0, omega arith))
tables [] s h small = absurd cc
tables (x ∷ y ∷ ts) s h small = absurd cc

accounts : (fields : List Tree) (s : Statement) → account_of fields ≡ Some s → IsStatement s
accounts (who ∷ mutez ∷ []) s h =
    let w = found (bytes_of is_key_hash who) _ s h in
    let n = found (number_of most_mutez mutez) (λ n. Some (Account w.part n)) s w.rest in
    let same : s ≡ Account w.part n.part = sym (some n.rest) in
    subst IsStatement (sym same) (bytes_pass is_key_hash who w.part w.first, number_within most_mutez mutez n.part n.first)
  where
    some : {x : Statement} → Some x ≡ Some s → x ≡ s
    some e = cc
accounts [] s h = absurd cc
accounts (x ∷ []) s h = absurd cc
accounts (x ∷ y ∷ z ∷ ts) s h = absurd cc

blocks : (fields : List Tree) (s : Statement) → block_of fields ≡ Some s → IsStatement s
blocks (level ∷ moment ∷ []) s h =
    let l = found (number_of most_level level) _ s h in
    let m = found (moment_of moment) (λ m. Some (Block l.part m)) s l.rest in
    let same : s ≡ Block l.part m.part = sym (some m.rest) in
    subst IsStatement (sym same) (level_small l.part (number_within most_level level l.part l.first), moment_within moment m.part m.first)
  where
    some : {x : Statement} → Some x ≡ Some s → x ≡ s
    some e = cc
blocks [] s h = absurd cc
blocks (x ∷ []) s h = absurd cc
blocks (x ∷ y ∷ z ∷ ts) s h = absurd cc

groups : (fields : List Tree) (s : Statement) → group_of fields ≡ Some s → total fields < 2 ^ 32 → IsStatement s
unfolding total
groups (source ∷ contents ∷ []) s h small =
    let w = found (bytes_of is_key_hash source) _ s h in
    let c = found (contents_of contents) (λ c. Some (Group w.part c)) s w.rest in
    let same : s ≡ Group w.part c.part = sym (some c.rest) in
    let forms = contents_in contents c.part c.first (omega arith) in
    subst IsStatement (sym same) (bytes_pass is_key_hash source w.part w.first, forms.0, forms.1)
  where
    some : {x : Statement} → Some x ≡ Some s → x ≡ s
    some e = cc
groups [] s h small = absurd cc
groups (x ∷ []) s h small = absurd cc
groups (x ∷ y ∷ z ∷ ts) s h small = absurd cc

by_name : (name : List ℕ) (fields : List Tree) (s : Statement) → statement_by name fields ≡ Some s → total fields < 2 ^ 32 → IsStatement s
by_name name fields s h small =
    by (bytes_eq name (codes "Chain")) (bytes_eq name (codes "Profile")) (bytes_eq name (codes "Costs")) (bytes_eq name (codes "Account")) (bytes_eq name (codes "Block")) (bytes_eq name (codes "Group")) h
  where
    by : (c r p a b g : Bool) →
        (if c then chain_of fields else if r then profile_of fields else if p then costs_of fields else if a then account_of fields else if b then block_of fields else if g then group_of fields else None) ≡ Some s →
        IsStatement s
    by true r p a b g e = chains fields s e
    by false true p a b g e = profiles fields s e
    by false false true a b g e = tables fields s e small
    by false false false true b g e = accounts fields s e
    by false false false false true g e = blocks fields s e
    by false false false false false true e = groups fields s e small
    by false false false false false false e = absurd cc

pub statements_have_ranges : StatementsHaveRanges
statements_have_ranges (prim name [] ts) s h small =
    let less : total (nodes_of ts) < 2 ^ 32 = subst (λ n. n < 2 ^ 32) (sym (total_is ts)) (omega arith) in
    by_name name (nodes_of ts) s h less
statements_have_ranges (prim name (a ∷ as') ts) s h small = absurd cc
statements_have_ranges (int n) s h small = absurd cc
statements_have_ranges (str s') s h small = absurd cc
statements_have_ranges (bytes b) s h small = absurd cc
statements_have_ranges (seq ts) s h small = absurd cc
