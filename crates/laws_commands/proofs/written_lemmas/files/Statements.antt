-- The statements of nodes that can be written.
use Rattle.std.proofs.Common.{◌≡◌, ◌≤◌, ℕ, ℤ, pos, int_le, unsigned_abs, Bool, true, false, ◌&&◌, Option, Some, None, List, [], ◌∷◌, length, refl, subst, arith}
use Rattle.std.specs.Prelude.{codes, nat_le, option_map, if◌then◌else◌}
use Rattle.std.specs.Str.{bytes_eq}
use Rattle.std.specs.List.{AllByRecursion}
use Rattle.rules_text.specs.nodes.Limits.{most_mutez, most_rate, most_level, most_contents}
use Rattle.rules_text.specs.nodes.Tree.{Tree, int, str, bytes, prim, seq, Trees, none, more}
use Rattle.rules_data.specs.forms.Spelling.{is_chain_id, is_key_hash, is_place, is_contract}
use Rattle.rules_world.specs.world.Contents.{Originate, Call, Give}
use Rattle.rules_files.specs.statements.Statements.{Statement, Chain, Profile, Costs, Account, Block, Group, ◌>>=◌, only_if, integer_of, number_of, moment_of, gas_of, ticket_amount_of, within, bytes_of, entrypoint_of, table_of, nodes_of, named, originate_of, call_of, give_of, action_by, content_by, each_content, contents_of, chain_of, profile_of, costs_of, account_of, block_of, group_of, statement_by, form}
use Rattle.laws_commands.specs.written.Written.{HasForm, HaveForms, AreBytes}
use Rattle.laws_commands.specs.written.Worlds.{IsWrittenAction, IsWrittenContent, IsWrittenStatement}
use Rattle.laws_commands.proofs.written_lemmas.values.Bytes.{bytes_from}
use Rattle.laws_commands.proofs.common.Lists.{OnSome}

pub then_has : {A B : Type 0} (Q : A → Type 0) (P : B → Type 0) (o : Option A) (f : A → Option B) → OnSome Q o →
    ((x : A) → Q x → OnSome P (f x)) → OnSome P (o >>= f)
then_has Q P None f h g = tt
then_has Q P (Some x) f h g = g x h

pub any_then : {A B : Type 0} (P : B → Type 0) (o : Option A) (f : A → Option B) → ((x : A) → OnSome P (f x)) → OnSome P (o >>= f)
any_then P None f g = tt
any_then P (Some x) f g = g x

if_has : {A : Type 0} (P : A → Type 0) (b : Bool) (x : A) → P x → OnSome P (only_if b x)
if_has P true x h = h
if_has P false x h = tt

pub either_has : {A : Type 0} (P : A → Type 0) (b : Bool) (o q : Option A) → OnSome P o → OnSome P q → OnSome P (if b then o else q)
either_has P true o q h g = h
either_has P false o q h g = g

abbrev Fields : List Tree → Type 0
Fields = AllByRecursion HasForm

each_form : (ts : Trees) → HaveForms ts → Fields (nodes_of ts)
each_form none h = tt
each_form (more t ts) h = (h.0, each_form ts h.1)

named_has : {A : Type 0} (P : A → Type 0) (f : List ℕ → List Tree → Option A) (t : Tree) → HasForm t →
    ((name : List ℕ) (ts : List Tree) → Fields ts → OnSome P (f name ts)) →
    OnSome P (named f t)
named_has P f (prim name [] ts) h g = g name (nodes_of ts) (each_form ts h.2)
named_has P f (prim name (a ∷ annots) ts) h g = tt
named_has P f (int n) h g = tt
named_has P f (str s) h g = tt
named_has P f (bytes b) h g = tt
named_has P f (seq ts) h g = tt

bytes_has : (test : List ℕ → Bool) (t : Tree) → HasForm t → OnSome AreBytes (bytes_of test t)
bytes_has test (bytes b) h = if_has AreBytes (test b) b (bytes_from b h.0)
bytes_has test (int n) h = tt
bytes_has test (str s) h = tt
bytes_has test (prim name annots ts) h = tt
bytes_has test (seq ts) h = tt

abs_within : (most : ℕ) (n : ℤ) → (int_le (pos 0) n && int_le n (pos most)) ≡ true → unsigned_abs n ≤ most
abs_within most n h = grind arith

pub number_has : (most : ℕ) (t : Tree) → OnSome (λ n. n ≤ most) (number_of most t)
number_has most t = by (integer_of t)
  where
    ranged : (n : ℤ) (b : Bool) → (int_le (pos 0) n && int_le n (pos most)) ≡ b → OnSome (λ m. m ≤ most) (option_map unsigned_abs (only_if b n))
    ranged n true e = abs_within most n e
    ranged n false e = tt

    by : (o : Option ℤ) → OnSome (λ m. m ≤ most) (option_map unsigned_abs (o >>= λ n. only_if (int_le (pos 0) n && int_le n (pos most)) n))
    by (Some n) = ranged n (int_le (pos 0) n && int_le n (pos most)) refl
    by None = tt

-- ---- contents

originate_has : (ts : List Tree) → Fields ts → OnSome IsWrittenAction (originate_of ts)
originate_has (balance ∷ script ∷ storage ∷ []) h =
    any_then IsWrittenAction (number_of most_mutez balance) (λ balance. Some (Originate balance script storage))
    (λ balance. (h.1.0, h.1.1.0))
originate_has _ h = tt

call_has : (ts : List Tree) → Fields ts → OnSome IsWrittenAction (call_of ts)
call_has (amount ∷ destination ∷ entrypoint ∷ argument ∷ []) h =
    any_then IsWrittenAction (number_of most_mutez amount) _ (λ amount.
    then_has AreBytes IsWrittenAction (bytes_of is_place destination) _ (bytes_has is_place destination h.1.0) (λ destination b.
    any_then IsWrittenAction (entrypoint_of entrypoint) (λ entrypoint. Some (Call amount destination entrypoint argument))
    (λ entrypoint. (b, h.1.1.1.0))))
call_has _ h = tt

give_has : (ts : List Tree) → Fields ts → OnSome IsWrittenAction (give_of ts)
give_has (issuer ∷ kind ∷ content ∷ amount ∷ destination ∷ entrypoint ∷ []) h =
    then_has AreBytes IsWrittenAction (bytes_of is_contract issuer) _ (bytes_has is_contract issuer h.0) (λ issuer i.
    any_then IsWrittenAction (ticket_amount_of amount) _ (λ amount.
    then_has AreBytes IsWrittenAction (bytes_of is_place destination) _ (bytes_has is_place destination h.1.1.1.1.0) (λ destination b.
    any_then IsWrittenAction (entrypoint_of entrypoint) (λ entrypoint. Some (Give issuer kind content amount destination entrypoint))
    (λ entrypoint. (i, h.1.1.0, b)))))
give_has _ h = tt

action_has : (name : List ℕ) (ts : List Tree) → Fields ts → OnSome IsWrittenAction (action_by name ts)
action_has name ts h =
    either_has IsWrittenAction (bytes_eq name (codes "Originate")) _ _ (originate_has ts h)
    (either_has IsWrittenAction (bytes_eq name (codes "Call")) _ _ (call_has ts h)
    (either_has IsWrittenAction (bytes_eq name (codes "Give")) (give_of ts) None (give_has ts h) tt))

content_has : (name : List ℕ) (ts : List Tree) → Fields ts → OnSome IsWrittenContent (content_by name ts)
content_has name (fee ∷ gas ∷ ts) h =
    any_then IsWrittenContent (number_of most_mutez fee) _ (λ fee. any_then IsWrittenContent (gas_of gas) _ (λ gas.
    then_has IsWrittenAction IsWrittenContent (action_by name ts) (λ action. Some (record { fee = fee; gas = gas; action = action }))
    (action_has name ts h.1.1) (λ action i. i)))
content_has name [] h = tt
content_has name (fee ∷ []) h = tt

each_has : (ts : List Tree) → Fields ts → OnSome (AllByRecursion IsWrittenContent) (each_content ts)
each_has [] h = tt
each_has (t ∷ ts) h =
    then_has IsWrittenContent (AllByRecursion IsWrittenContent) (named content_by t) _
    (named_has IsWrittenContent content_by t h.0 content_has) (λ c i.
    then_has (AllByRecursion IsWrittenContent) (AllByRecursion IsWrittenContent) (each_content ts) (λ cs. Some (c ∷ cs)) (each_has ts h.1)
    (λ cs j. (i, j)))

contents_has : (t : Tree) → HasForm t → OnSome (AllByRecursion IsWrittenContent) (contents_of t)
contents_has (seq us) h =
    let ts : List Tree = nodes_of us in
    then_has Fields (AllByRecursion IsWrittenContent) (only_if (nat_le 1 (length ts) && nat_le (length ts) most_contents) ts) each_content
    (if_has Fields (nat_le 1 (length ts) && nat_le (length ts) most_contents) ts (each_form us h.0)) each_has
contents_has (int n) h = tt
contents_has (str s) h = tt
contents_has (bytes b) h = tt
contents_has (prim name annots ts) h = tt

-- ---- statements

chain_has : (ts : List Tree) → Fields ts → OnSome IsWrittenStatement (chain_of ts)
chain_has (id ∷ level ∷ moment ∷ []) h =
    then_has AreBytes IsWrittenStatement (bytes_of is_chain_id id) _ (bytes_has is_chain_id id h.0) (λ id b.
    then_has (λ n. n ≤ most_level) IsWrittenStatement (number_of most_level level) _ (number_has most_level level)
    (λ level few. any_then IsWrittenStatement (moment_of moment) (λ moment. Some (Chain id level moment)) (λ moment. (b, few))))
chain_has _ h = tt

profile_has : (ts : List Tree) → Fields ts → OnSome IsWrittenStatement (profile_of ts)
profile_has (profile ∷ rate ∷ []) h = any_then IsWrittenStatement (within (pos 2) (pos 2) profile) _ (λ p. by (number_of most_rate rate))
  where
    by : (o : Option ℕ) → OnSome IsWrittenStatement (option_map Profile o)
    by (Some n) = tt
    by None = tt
profile_has _ h = tt

costs_has : (ts : List Tree) → Fields ts → OnSome IsWrittenStatement (costs_of ts)
costs_has (table ∷ []) h = by (table_of table)
  where
    by : (o : Option Tree) → OnSome IsWrittenStatement (option_map Costs o)
    by (Some n) = tt
    by None = tt
costs_has _ h = tt

account_has : (ts : List Tree) → Fields ts → OnSome IsWrittenStatement (account_of ts)
account_has (who ∷ mutez ∷ []) h =
    then_has AreBytes IsWrittenStatement (bytes_of is_key_hash who) _ (bytes_has is_key_hash who h.0) (λ who b.
    any_then IsWrittenStatement (number_of most_mutez mutez) (λ mutez. Some (Account who mutez)) (λ mutez. b))
account_has _ h = tt

block_has : (ts : List Tree) → Fields ts → OnSome IsWrittenStatement (block_of ts)
block_has (level ∷ moment ∷ []) h =
    then_has (λ n. n ≤ most_level) IsWrittenStatement (number_of most_level level) _ (number_has most_level level)
    (λ level few. any_then IsWrittenStatement (moment_of moment) (λ moment. Some (Block level moment)) (λ moment. few))
block_has _ h = tt

group_has : (ts : List Tree) → Fields ts → OnSome IsWrittenStatement (group_of ts)
group_has (source ∷ contents ∷ []) h =
    then_has AreBytes IsWrittenStatement (bytes_of is_key_hash source) _ (bytes_has is_key_hash source h.0) (λ source b.
    then_has (AllByRecursion IsWrittenContent) IsWrittenStatement (contents_of contents) (λ contents. Some (Group source contents))
    (contents_has contents h.1.0) (λ cs c. (b, c)))
group_has _ h = tt

statement_has : (name : List ℕ) (ts : List Tree) → Fields ts → OnSome IsWrittenStatement (statement_by name ts)
statement_has name ts h =
    either_has IsWrittenStatement (bytes_eq name (codes "Chain")) _ _ (chain_has ts h)
    (either_has IsWrittenStatement (bytes_eq name (codes "Profile")) _ _ (profile_has ts h)
    (either_has IsWrittenStatement (bytes_eq name (codes "Costs")) _ _ (costs_has ts h)
    (either_has IsWrittenStatement (bytes_eq name (codes "Account")) _ _ (account_has ts h)
    (either_has IsWrittenStatement (bytes_eq name (codes "Block")) _ _ (block_has ts h)
    (either_has IsWrittenStatement (bytes_eq name (codes "Group")) (group_of ts) None (group_has ts h) tt)))))

pub form_written : (t : Tree) (s : Statement) → HasForm t → form t ≡ Some s → IsWrittenStatement s
form_written t s h e = subst (OnSome IsWrittenStatement) e (named_has IsWrittenStatement statement_by t h statement_has)
