-- The statements of a file, with the values of their fields, and the nodes that are statements.
use Rattle.std.specs.Prelude.{ℕ, ◌-◌, ◌^◌, ◌&&◌, nat_le, Bool, if◌then◌else◌, ℤ, pos, neg_ℤ, int_le, unsigned_abs, List, [], ◌∷◌, length, codes, Some, None}
use Rattle.std.specs.declared.option.Option.{Option}
use Rattle.std.specs.Option.{option_map}
use Rattle.std.specs.Str.{bytes_eq}
use Rattle.rules_text.specs.nodes.Limits.{most_tickets, most_contents, most_level, most_mutez, most_rate}
use Rattle.rules_text.specs.nodes.Tree.{Tree, int, str, bytes, prim, seq, Trees, none, more}
use Rattle.rules_data.specs.gas.Tables.{is_table}
use Rattle.rules_data.specs.forms.Spelling.{is_entrypoint, is_chain_id, is_key_hash, is_contract, is_place}
use Rattle.rules_world.specs.world.Contents.{Action, Originate, Call, Give, Content}

-- `Chain id level moment` says where and when the groups run, and `Block level moment` when those behind it do;
-- `Profile 2 rate` says how many mutez are burnt for a byte of storage;
-- `Costs { Cost NAME base coefficient ; .. }` lists prices; `Account key_hash mutez` grants mutez to a new account; and
-- `Group source { content ; .. }` is a group of operations. A table of prices is kept as its node.
pub data Statement : Type 0 where
  Chain : (id : List ℕ) (level : ℕ) (moment : ℤ) → Statement
  Profile : (rate : ℕ) → Statement
  Costs : (table : Tree) → Statement
  Account : (key_hash : List ℕ) (mutez : ℕ) → Statement
  Block : (level : ℕ) (moment : ℤ) → Statement
  Group : (source : List ℕ) (contents : List Content) → Statement

-- ---- fields

infixl 10 ◌>>=◌
abbrev pub ◌>>=◌ : {A B : Type 0} → Option A → (A → Option B) → Option B
None >>= f = None
(Some x) >>= f = f x

abbrev pub only_if : {A : Type 0} → Bool → A → Option A
only_if test x = if test then Some x else None

abbrev pub integer_of : Tree → Option ℤ
integer_of (int n) = Some n
integer_of (str s) = None
integer_of (bytes b) = None
integer_of (prim name annotations arguments) = None
integer_of (seq elements) = None

-- a number from one to another
abbrev pub within : ℤ → ℤ → Tree → Option ℤ
within low high t = integer_of t >>= λ n. only_if (int_le low n && int_le n high) n

-- a number from 0 to so much
abbrev pub number_of : ℕ → Tree → Option ℕ
number_of most t = option_map unsigned_abs (within (pos 0) (pos most) t)

-- a moment in seconds
abbrev pub moment_of : Tree → Option ℤ
moment_of t = within (neg_ℤ (pos (2 ^ 63))) (pos (2 ^ 63 - 1)) t

-- a number that isn't negative
abbrev pub gas_of : Tree → Option ℤ
gas_of t = integer_of t >>= λ n. only_if (int_le (pos 0) n) n

-- an amount of tickets
abbrev pub ticket_amount_of : Tree → Option ℤ
ticket_amount_of t = within (pos 1) (pos most_tickets) t

-- bytes that pass a test
abbrev pub bytes_of : (List ℕ → Bool) → Tree → Option (List ℕ)
bytes_of test (bytes b) = only_if (test b) b
bytes_of test (int n) = None
bytes_of test (str s) = None
bytes_of test (prim name annotations arguments) = None
bytes_of test (seq elements) = None

-- a string that names an entrypoint
abbrev pub entrypoint_of : Tree → Option (List ℕ)
entrypoint_of (str s) = only_if (is_entrypoint s) s
entrypoint_of (int n) = None
entrypoint_of (bytes b) = None
entrypoint_of (prim name annotations arguments) = None
entrypoint_of (seq elements) = None

abbrev pub table_of : Tree → Option Tree
table_of t = only_if (is_table t) t

-- ---- contents

abbrev pub nodes_of : Trees → List Tree
nodes_of none = []
nodes_of (more t ts) = t ∷ nodes_of ts

-- an application of a name without annotations: what the arguments make
abbrev pub named : {A : Type 0} → (List ℕ → List Tree → Option A) → Tree → Option A
named f (prim name [] arguments) = f name (nodes_of arguments)
named f (prim name (a ∷ annotations) arguments) = None
named f (int n) = None
named f (str s) = None
named f (bytes b) = None
named f (seq elements) = None

-- balance script storage
abbrev pub originate_of : List Tree → Option Action
originate_of (balance ∷ script ∷ storage ∷ []) = number_of most_mutez balance >>= λ balance. Some (Originate balance script storage)
originate_of _ = None

-- amount destination "entrypoint" argument
abbrev pub call_of : List Tree → Option Action
call_of (amount ∷ destination ∷ entrypoint ∷ argument ∷ []) =
    number_of most_mutez amount >>= λ amount. bytes_of is_place destination >>= λ destination. entrypoint_of entrypoint >>= λ entrypoint.
    Some (Call amount destination entrypoint argument)
call_of _ = None

-- issuer type content amount destination "entrypoint"
abbrev pub give_of : List Tree → Option Action
give_of (issuer ∷ kind ∷ content ∷ amount ∷ destination ∷ entrypoint ∷ []) =
    bytes_of is_contract issuer >>= λ issuer. ticket_amount_of amount >>= λ amount.
    bytes_of is_place destination >>= λ destination. entrypoint_of entrypoint >>= λ entrypoint.
    Some (Give issuer kind content amount destination entrypoint)
give_of _ = None

abbrev pub action_by : List ℕ → List Tree → Option Action
action_by name fields =
    if bytes_eq name (codes "Originate") then originate_of fields
    else if bytes_eq name (codes "Call") then call_of fields
    else if bytes_eq name (codes "Give") then give_of fields
    else None

-- a fee and gas before the action's own fields
abbrev pub content_by : List ℕ → List Tree → Option Content
content_by name (fee ∷ gas ∷ fields) =
    number_of most_mutez fee >>= λ fee. gas_of gas >>= λ gas. action_by name fields >>= λ action.
    Some (record { fee = fee; gas = gas; action = action })
content_by name _ = None

-- each node is a content
abbrev pub each_content : List Tree → Option (List Content)
each_content [] = Some []
each_content (t ∷ ts) = named content_by t >>= λ content. each_content ts >>= λ contents. Some (content ∷ contents)

-- one content or more, but not too many
abbrev pub counted : List Tree → Option (List Content)
counted ts = only_if (nat_le 1 (length ts) && nat_le (length ts) most_contents) ts >>= each_content

abbrev pub contents_of : Tree → Option (List Content)
contents_of (seq elements) = counted (nodes_of elements)
contents_of (int n) = None
contents_of (str s) = None
contents_of (bytes b) = None
contents_of (prim name annotations arguments) = None

-- ---- statements

-- id level moment
abbrev pub chain_of : List Tree → Option Statement
chain_of (id ∷ level ∷ moment ∷ []) = bytes_of is_chain_id id >>= λ id. number_of most_level level >>= λ level. moment_of moment >>= λ moment. Some (Chain id level moment)
chain_of _ = None

-- 2 rate
abbrev pub profile_of : List Tree → Option Statement
profile_of (profile ∷ rate ∷ []) = within (pos 2) (pos 2) profile >>= λ profile. option_map Profile (number_of most_rate rate)
profile_of _ = None

-- { Cost NAME base coefficient ; .. }
abbrev pub costs_of : List Tree → Option Statement
costs_of (table ∷ []) = option_map Costs (table_of table)
costs_of _ = None

-- key_hash mutez
abbrev pub account_of : List Tree → Option Statement
account_of (who ∷ mutez ∷ []) = bytes_of is_key_hash who >>= λ who. number_of most_mutez mutez >>= λ mutez. Some (Account who mutez)
account_of _ = None

-- level moment
abbrev pub block_of : List Tree → Option Statement
block_of (level ∷ moment ∷ []) = number_of most_level level >>= λ level. moment_of moment >>= λ moment. Some (Block level moment)
block_of _ = None

-- source { content ; .. }
abbrev pub group_of : List Tree → Option Statement
group_of (source ∷ contents ∷ []) = bytes_of is_key_hash source >>= λ source. contents_of contents >>= λ contents. Some (Group source contents)
group_of _ = None

abbrev pub statement_by : List ℕ → List Tree → Option Statement
statement_by name fields =
    if bytes_eq name (codes "Chain") then chain_of fields
    else if bytes_eq name (codes "Profile") then profile_of fields
    else if bytes_eq name (codes "Costs") then costs_of fields
    else if bytes_eq name (codes "Account") then account_of fields
    else if bytes_eq name (codes "Block") then block_of fields
    else if bytes_eq name (codes "Group") then group_of fields
    else None

-- the statement that a node is, or none; an annotation on a statement or content makes it none
abbrev pub form : Tree → Option Statement
form t = named statement_by t
