-- The bytes of a snapshot (this host's own). Numbers stand with their most significant byte first.
use Rattle.std.specs.Prelude.{ℕ, suc, ℤ, Bool, true, false, List, [], ◌∷◌, ◌++◌, length, map, codes}
use Rattle.std.specs.Int.{Width, w32, w64, w128, to_be_bytes, cast_unsigned}
use Rattle.std.specs.List.{flat_map}
use Rattle.rules_text.specs.nodes.Tree.{Tree, prim, preorder}
use Rattle.rules_text.specs.binary.Spelling.{field, code, spelling}
use Rattle.rules_code.specs.evaluation.Contracts.{hash_in}
use Rattle.rules_data.specs.gas.Prices.{Price}
use Rattle.rules_data.specs.types.Kind.{Kind}
use Rattle.rules_data.specs.types.Printing.{node_of}
use Rattle.rules_data.specs.values.Val.{Val, Vals, no_val, more_vals, Pairs, no_pair, more_pairs}
use Rattle.rules_data.specs.values.Val as v
use Rattle.rules_data.specs.values.Tickets.{Identity}
use Rattle.rules_code.specs.evaluation.Surroundings.{Contract}
use Rattle.rules_world.specs.world.World.{Account}
use Rattle.rules_files.specs.snapshots.State.{State, Total}

-- ---- numbers

abbrev pub four : ℕ → List ℕ
four n = to_be_bytes w32 n

abbrev pub eight : ℕ → List ℕ
eight n = to_be_bytes w64 n

-- in two's complement
abbrev pub signed : Width → ℤ → List ℕ
signed w z = to_be_bytes w (cast_unsigned w z)

-- one byte
abbrev pub mark : Bool → List ℕ
mark false = 0 ∷ []
mark true = 1 ∷ []

-- ---- values

abbrev pub count_vals : Vals → ℕ
count_vals no_val = 0
count_vals (more_vals x xs) = suc (count_vals xs)

abbrev pub count_pairs : Pairs → ℕ
count_pairs no_pair = 0
count_pairs (more_pairs x y es) = suc (count_pairs es)

-- four bytes of length and the binary form of a node
abbrev pub node_spelling : Tree → List ℕ
node_spelling t = field (spelling t)

abbrev mutual
  -- A type tells how its values are read, so nothing of it stands in them. An operation is in no storage, and nothing stands for it.
  pub value_spelling : Val → List ℕ
  value_spelling v.unit = []
  value_spelling (v.truth b) = mark b
  value_spelling (v.number n) = signed w128 n
  value_spelling (v.text b) = field b
  value_spelling (v.bytes b) = field b
  value_spelling v.nothing = mark false
  value_spelling (v.some x) = mark true ++ value_spelling x
  value_spelling (v.left x) = mark false ++ value_spelling x
  value_spelling (v.right x) = mark true ++ value_spelling x
  value_spelling (v.both x y) = value_spelling x ++ value_spelling y
  value_spelling (v.list xs) = eight (count_vals xs) ++ value_spellings xs
  value_spelling (v.set xs) = eight (count_vals xs) ++ value_spellings xs
  value_spelling (v.table es) = eight (count_pairs es) ++ entry_spellings es
  value_spelling (v.big_table es) = eight (count_pairs es) ++ entry_spellings es
  value_spelling (v.lambda t recursive) = mark recursive ++ node_spelling t
  value_spelling (v.operation n) = []
  value_spelling (v.ticket issuer kind content amount) = hash_in issuer ++ (value_spelling content ++ signed w128 amount)

  pub value_spellings : Vals → List ℕ
  value_spellings no_val = []
  value_spellings (more_vals x xs) = value_spelling x ++ value_spellings xs

  pub entry_spellings : Pairs → List ℕ
  entry_spellings no_pair = []
  entry_spellings (more_pairs x y es) = value_spelling x ++ (value_spelling y ++ entry_spellings es)

-- ---- types and tickets

-- the code of the name of a node
abbrev pub code_of_node : Tree → ℕ
code_of_node (prim name annotations args) = code name
code_of_node t = 0

-- a type is spelt by the codes of the names in its node, in pre-order
abbrev pub kind_spelling : Kind → List ℕ
kind_spelling a = map code_of_node (preorder (node_of a))

-- the 20 bytes of the issuer, the type and the content
abbrev pub identity_spelling : Identity → List ℕ
identity_spelling id = hash_in id.issuer ++ (kind_spelling id.kind ++ value_spelling id.content)

-- ---- parts of a state

abbrev pub magic : List ℕ
magic = codes "MICHSNP1"

-- 2 where storage is paid for, else 1
abbrev pub profile : Bool → List ℕ
profile false = 1 ∷ []
profile true = 2 ∷ []

abbrev pub head_spelling : State → List ℕ
head_spelling s =
    magic ++ (s.chain ++ (four s.level ++ (signed w64 s.moment ++ (profile s.pays ++ (eight s.rate
    ++ (eight s.groups ++ (mark s.costs_stood ++ mark s.started)))))))

abbrev pub price_spelling : Price → List ℕ
price_spelling p = four p.base ++ four p.coefficient

abbrev pub costs_spelling : State → List ℕ
costs_spelling s = flat_map price_spelling s.prices

abbrev pub sums_spelling : State → List ℕ
sums_spelling s = eight s.fees ++ eight s.storage_burn

-- eight bytes of count, and so many parts
abbrev pub counted : {A : Type 0} → (A → List ℕ) → List A → List ℕ
counted part xs = eight (length xs) ++ flat_map part xs

abbrev pub holding_spelling : Identity × ℤ → List ℕ
holding_spelling h = identity_spelling h.0 ++ signed w128 h.1

abbrev pub account_spelling : List ℕ × Account → List ℕ
account_spelling a = a.0 ++ (eight a.1.balance ++ counted holding_spelling a.1.holdings)

abbrev pub contract_spelling : List ℕ × Contract → List ℕ
contract_spelling c = c.0 ++ (eight c.1.balance ++ (eight c.1.paid ++ (node_spelling c.1.script ++ value_spelling c.1.storage)))

abbrev pub total_spelling : Total → List ℕ
total_spelling t = identity_spelling t.identity ++ (signed w128 t.minted ++ signed w128 t.burnt)

-- ---- states

abbrev pub state_spelling : State → List ℕ
state_spelling s =
    head_spelling s ++ (costs_spelling s ++ (sums_spelling s
    ++ (counted account_spelling s.accounts ++ (counted contract_spelling s.contracts ++ counted total_spelling s.tickets))))
