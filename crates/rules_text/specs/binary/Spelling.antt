-- The binary form of a node as a list of bytes (Octez "data encoding", Micheline expressions).
use Rattle.std.specs.Prelude.{ℕ, zero, suc, ◌+◌, ◌/◌, ◌%◌, ℤ, pos, negsuc, List, [], ◌∷◌, ◌++◌, length, nat_lt, if◌then◌else◌, unwrap_or}
use Rattle.std.specs.Int.{w32, to_be_bytes}
use Rattle.std.specs.List.{join_with_byte}
use Rattle.rules_text.specs.nodes.Tree.{Tree, int, str, bytes, prim, seq, Trees, none, more}
use Rattle.rules_text.specs.nodes.Primitives.{code_of_name}

-- a number in groups of seven bits, the least significant first, where each group but the last has 128 added;
-- no number has more groups than its own value, or one
abbrev pub groups_within : ℕ → ℕ → List ℕ
groups_within zero n = n ∷ []
groups_within (suc k) n = if nat_lt n 128 then n ∷ [] else (128 + n % 128) ∷ groups_within k (n / 128)

unfoldable pub groups : ℕ → List ℕ
groups n = groups_within n n

-- a first byte with the sign, 64 for negative, and the six lowest bits; with 128 added where groups follow
abbrev pub signed_groups : ℕ → ℕ → List ℕ
signed_groups sign n = if nat_lt n 64 then (sign + n) ∷ [] else (128 + sign + n % 64) ∷ groups (n / 64)

-- an integer by its sign and its absolute value
unfoldable pub integer : ℤ → List ℕ
integer (pos n) = signed_groups 0 n
integer (negsuc n) = signed_groups 64 (suc n)

-- four bytes of length, the most significant first, and so many bytes
unfoldable pub field : List ℕ → List ℕ
field content = to_be_bytes w32 (length content) ++ content

-- annotations are joined by single spaces
abbrev pub joined : List (List ℕ) → List ℕ
joined annotations = join_with_byte 32 annotations

-- a tag, a code and the arguments; where there are annotations the next tag, with them behind
abbrev pub short : ℕ → ℕ → List ℕ → List ℕ → List ℕ
short tag code args [] = tag ∷ code ∷ args
short tag code args (b ∷ bs) = (tag + 1) ∷ code ∷ args ++ field (b ∷ bs)

-- an application by its code, how many arguments it has, these as bytes, and its joined annotations; from
-- three arguments on they stand in a field, and so do the annotations, even of none
unfoldable pub application : ℕ → ℕ → List ℕ → List ℕ → List ℕ
application code zero args notes = short 3 code args notes
application code (suc zero) args notes = short 5 code args notes
application code (suc (suc zero)) args notes = short 7 code args notes
application code (suc (suc (suc n))) args notes = 9 ∷ code ∷ field args ++ field notes

abbrev pub count : Trees → ℕ
count none = 0
count (more t ts) = suc (count ts)

-- the code of a name; a name that is no primitive's has no spelling, and 0 stands for its code here
abbrev pub code : List ℕ → ℕ
code name = unwrap_or (code_of_name name) 0

abbrev mutual
  -- the spelling of a node
  pub spelling : Tree → List ℕ
  spelling (int n) = 0 ∷ integer n
  spelling (str s) = 1 ∷ field s
  spelling (bytes b) = 10 ∷ field b
  spelling (prim name annotations args) = application (code name) (count args) (spellings args) (joined annotations)
  spelling (seq ts) = 2 ∷ field (spellings ts)

  -- nodes one behind the other
  pub spellings : Trees → List ℕ
  spellings none = []
  spellings (more t ts) = spelling t ++ spellings ts
