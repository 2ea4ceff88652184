-- What is read stands in the bytes as it is spelt.
use Rattle.std.specs.Prelude.{◌≡◌, ◌*◌, ◌^◌, [], length, ℕ, ◌<◌, ◌≤◌, ℤ, pos, negsuc, true, List, ◌++◌, Some, Ok, slice_index}
use Rattle.std.specs.List.{list_all}
use Rattle.rules_text.specs.nodes.Limits.{depth_limit, byte_limit}
use Rattle.rules_text.specs.nodes.Tree.{Tree, int, str, bytes, prim, seq, Trees, none, more, depth, size}
use Rattle.rules_text.specs.nodes.Primitives.{code_of_name}
use Rattle.rules_text.specs.binary.Spelling.{field, integer, spelling}
use Rattle.rules_text.specs.binary.Reading.{Spot, is_text, is_annotation, field_at, integer_at, decoded}

-- each element is a byte
abbrev pub IsBytes : List ℕ → Type 0
IsBytes bs = (i : ℕ) → slice_index bs i < 256

-- reading took this text
abbrev pub Took : Spot → List ℕ → Spot → Type 0
Took s text after = s.left ≡ text ++ after.left

abbrev pub FieldsAreSpelt : Type 0
FieldsAreSpelt = (s inner after : Spot) → IsBytes s.left → field_at s ≡ Ok (inner, after) → Took s (field inner.left) after

abbrev pub IntegersAreSpelt : Type 0
IntegersAreSpelt = (s after : Spot) (z : ℤ) → IsBytes s.left → integer_at s ≡ Ok (z, after) → Took s (integer z) after

abbrev pub DecodedIsSpelt : Type 0
DecodedIsSpelt = (bs : List ℕ) (t : Tree) → IsBytes bs → decoded bs ≡ Ok t → bs ≡ spelling t

-- a node that is decoded has at most half as many nodes as there are bytes
abbrev pub DecodedNodesAreFew : Type 0
DecodedNodesAreFew = (bs : List ℕ) (t : Tree) → IsBytes bs → decoded bs ≡ Ok t → 2 * size t ≤ length bs

-- the spelling of a node that was decoded is decoded as that node
abbrev pub SpellingIsDecoded : Type 0
SpellingIsDecoded = (bs : List ℕ) (t : Tree) → IsBytes bs → decoded bs ≡ Ok t → decoded (spelling t) ≡ Ok t

-- no two lists of bytes are decoded as one node
abbrev pub OneSpelling : Type 0
OneSpelling = (bs cs : List ℕ) (t : Tree) → IsBytes bs → IsBytes cs → decoded bs ≡ Ok t → decoded cs ≡ Ok t → bs ≡ cs

-- from -2^127 to 2^127-1
abbrev pub IsWithinRange : ℤ → Type 0
IsWithinRange (pos n) = n < 2 ^ 127
IsWithinRange (negsuc n) = n < 2 ^ 127

abbrev pub HasCode : List ℕ → Type 0
HasCode name = (code : ℕ) × (code_of_name name ≡ Some code)

abbrev mutual
  -- numbers, texts and bytes within their limits, names with codes, annotations of their form
  pub HasBinaryForm : Tree → Type 0
  HasBinaryForm (int z) = IsWithinRange z
  HasBinaryForm (str s) = (list_all is_text s ≡ true) × (length s ≤ byte_limit)
  HasBinaryForm (bytes b) = length b ≤ byte_limit
  HasBinaryForm (prim name annotations args) = HasCode name × (list_all is_annotation annotations ≡ true) × HaveBinaryForms args
  HasBinaryForm (seq ts) = HaveBinaryForms ts

  pub HaveBinaryForms : Trees → Type 0
  HaveBinaryForms none = Unit {0}
  HaveBinaryForms (more t ts) = HasBinaryForm t × HaveBinaryForms ts

-- a field tells its length in four bytes
abbrev pub HasShortSpelling : Tree → Type 0
HasShortSpelling t = length (spelling t) < 2 ^ 32

-- a node that the binary form can hold is decoded from its spelling
abbrev pub NodesAreDecoded : Type 0
NodesAreDecoded = (t : Tree) → HasBinaryForm t → depth t ≤ depth_limit → HasShortSpelling t → decoded (spelling t) ≡ Ok t

-- no two such nodes have one spelling
abbrev pub OneNode : Type 0
OneNode = (t u : Tree) → HasBinaryForm t → HasBinaryForm u → depth t ≤ depth_limit → depth u ≤ depth_limit → HasShortSpelling t → spelling t ≡ spelling u → t ≡ u

-- no spelling is a proper prefix of another
abbrev pub NoPrefix : Type 0
NoPrefix = (t u : Tree) (more_bytes : List ℕ) → HasShortSpelling t → HasShortSpelling u → spelling t ++ more_bytes ≡ spelling u → more_bytes ≡ []
