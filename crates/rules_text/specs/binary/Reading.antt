-- Reading the binary form of a node from left to right, up to the first fault (Octez "data encoding",
-- Micheline expressions, narrowed to one spelling for each node).
use Rattle.std.specs.Prelude.{ℕ, zero, suc, ◌+◌, ◌-◌, ◌*◌, ◌%◌, ◌^◌, ℤ, pos, neg_ℤ, List, [], ◌∷◌, length, take, drop, Bool, true, false, ◌&&◌, ◌||◌, ◌==◌, nat_lt, nat_le, Option, Some, None, Result, Ok, Err, if◌then◌else◌, slice_get}
use Rattle.std.specs.Int.{w32, from_be_bytes}
use Rattle.std.specs.List.{prefix_len, list_all}
use Rattle.std.specs.Char.{is_ascii_alphanumeric}
use Rattle.rules_text.specs.nodes.Limits.{byte_limit, depth_limit, name_limit}
use Rattle.rules_text.specs.nodes.Tree.{Tree, int, str, bytes, prim, seq, Trees, none, more}
use Rattle.rules_text.specs.nodes.Primitives.{name_of_code}
use Rattle.rules_text.specs.binary.Spelling.{count}
use Rattle.rules_text.specs.declared.binary.DecodeKind.{DecodeKind}
use Rattle.rules_text.specs.declared.binary.DecodeKind.TheVariants.{BadTag, BadPrim, BadLength, BadInteger, BadString, Trailing, TooDeep, TooWide}
use Rattle.rules_text.specs.declared.binary.Tag.{Tag}
use Rattle.rules_text.specs.declared.binary.Tag.TheVariants as tags

pub record Fault : Type 0 where
  pub kind : DecodeKind
  pub place : ℕ

-- where reading stands: the place of the next byte, and the bytes left in the field that is read
pub record Spot : Type 0 where
  pub place : ℕ
  pub left : List ℕ

infixl 10 ◌>>=◌
abbrev pub ◌>>=◌ : {A B : Type 0} → Result A Fault → (A → Result B Fault) → Result B Fault
(Ok x) >>= f = f x
(Err e) >>= f = Err e

abbrev pub fault : {A : Type 0} → DecodeKind → ℕ → Result A Fault
fault kind place = Err (record { kind = kind; place = place })

-- n bytes further
abbrev pub past : ℕ → Spot → Spot
past n s = record { place = s.place + n; left = drop n s.left }

-- ---- bytes and fields

abbrev pub byte_of : ℕ → List ℕ → Result (ℕ × Spot) Fault
byte_of place [] = fault BadLength place
byte_of place (b ∷ bs) = Ok (b, record { place = place + 1; left = bs })

unfoldable pub byte_at : Spot → Result (ℕ × Spot) Fault
byte_at s = byte_of s.place s.left

-- four bytes of length and so many bytes: where these begin, and where reading goes on
abbrev pub field_of : ℕ → Spot → Result (Spot × Spot) Fault
field_of n s = if nat_lt (length s.left) (4 + n) then fault BadLength s.place else Ok (record { place = s.place + 4; left = take n (drop 4 s.left) }, past (4 + n) s)

unfoldable pub field_at : Spot → Result (Spot × Spot) Fault
field_at s = if nat_lt (length s.left) 4 then fault BadLength s.place else field_of (from_be_bytes w32 (take 4 s.left)) s

-- a field that is no longer than strings and bytes may be
unfoldable pub narrow_field_at : Spot → Result (Spot × Spot) Fault
narrow_field_at s = do
  f ← field_at s
  if nat_lt byte_limit (length f.0.left) then fault TooWide s.place else Ok f

-- ---- integers

-- whether another byte of the integer follows
abbrev pub goes_on : ℕ → Bool
goes_on b = nat_le 128 b

-- the value of groups of seven bits, the least significant first
abbrev pub groups_value : List ℕ → ℕ
groups_value [] = 0
groups_value (b ∷ bs) = b % 128 + 128 * groups_value bs

-- of one byte: minus zero; of more: a last byte that adds nothing
abbrev pub is_longer_by : ℕ → Option ℕ → Bool
is_longer_by b None = b == 64
is_longer_by b (Some end) = end == 0

-- whether an integer has a shorter spelling
abbrev pub is_longer : ℕ → List ℕ → Bool
is_longer b bs = is_longer_by b (slice_get bs (length bs - 1))

-- an integer by its sign and absolute value, within -2^127 to 2^127-1
abbrev pub ranged : Bool → ℕ → Option ℤ
ranged true n = if nat_lt (2 ^ 127) n then None else Some (neg_ℤ (pos n))
ranged false n = if nat_le (2 ^ 127) n then None else Some (pos n)

-- the integer that bytes spell: the sign and six bits, and then groups of seven
abbrev pub integer_of : List ℕ → Option ℤ
integer_of [] = None
integer_of (b ∷ bs) = if is_longer b bs then None else ranged (nat_le 64 (b % 128)) (b % 64 + 64 * groups_value bs)

abbrev pub integer_by : Option ℤ → ℕ → Spot → Result (ℤ × Spot) Fault
integer_by None n s = fault BadInteger s.place
integer_by (Some z) n s = Ok (z, past n s)

-- an integer's bytes end with the first that is below 128
unfoldable pub integer_at : Spot → Result (ℤ × Spot) Fault
integer_at s =
    let n = prefix_len goes_on s.left + 1 in
    if nat_lt (length s.left) n then fault BadLength s.place else integer_by (integer_of (take n s.left)) n s

-- ---- strings and bytes

-- backspace, tab, line feed, carriage return, and what ASCII prints
abbrev pub is_text : ℕ → Bool
is_text b = (nat_le 32 b && nat_le b 126) || (nat_le 8 b && nat_le b 10) || b == 13

unfoldable pub string_at : Spot → Result (List ℕ × Spot) Fault
string_at s = do
  f ← narrow_field_at s
  if nat_lt (prefix_len is_text f.0.left) (length f.0.left) then fault BadString (f.0.place + prefix_len is_text f.0.left) else Ok (f.0.left, f.1)

unfoldable pub bytes_at : Spot → Result (List ℕ × Spot) Fault
bytes_at s = do
  f ← narrow_field_at s
  Ok (f.0.left, f.1)

-- ---- annotations (Michelson reference, "Annotations")

-- A-Z a-z 0-9 _ . % @
abbrev pub is_noted : ℕ → Bool
is_noted b = is_ascii_alphanumeric b || b == 95 || b == 46 || b == 37 || b == 64

-- `@`, `:` or `%`, then at most `name_limit` bytes
abbrev pub is_annotation : List ℕ → Bool
is_annotation [] = false
is_annotation (b ∷ bs) = (b == 64 || b == 58 || b == 37) && list_all is_noted bs && nat_le (length bs) name_limit

abbrev pub before : ℕ → List (List ℕ) → List (List ℕ)
before b [] = (b ∷ []) ∷ []
before b (p ∷ ps) = (b ∷ p) ∷ ps

-- the pieces between spaces
abbrev pub pieces : List ℕ → List (List ℕ)
pieces [] = [] ∷ []
pieces (b ∷ bs) = if b == 32 then [] ∷ pieces bs else before b (pieces bs)

-- annotations joined by single spaces, at least one
abbrev pub annotations_of : Spot → Result (List (List ℕ)) Fault
annotations_of s = if list_all is_annotation (pieces s.left) then Ok (pieces s.left) else fault BadString s.place

-- the same, or none
abbrev pub any_annotations : Spot → List ℕ → Result (List (List ℕ)) Fault
any_annotations s [] = Ok []
any_annotations s (b ∷ bs) = annotations_of s

unfoldable pub annotations_at : Spot → Result (List (List ℕ) × Spot) Fault
annotations_at s = do
  f ← field_at s
  annotations ← annotations_of f.0
  Ok (annotations, f.1)

unfoldable pub any_annotations_at : Spot → Result (List (List ℕ) × Spot) Fault
any_annotations_at s = do
  f ← field_at s
  annotations ← any_annotations f.0 f.0.left
  Ok (annotations, f.1)

-- those of a short application: behind its arguments, or none
abbrev pub short_annotations_at : Bool → Spot → Result (List (List ℕ) × Spot) Fault
short_annotations_at true s = annotations_at s
short_annotations_at false s = Ok ([], s)

-- ---- nodes; `node` reads one node, and what is read behind a node depends on no more of it

-- the name of a primitive, by its code
abbrev pub name_by : Option (List ℕ) → ℕ → Spot → Result (List ℕ × Spot) Fault
name_by None place s = fault BadPrim place
name_by (Some name) place s = Ok (name, s)

unfoldable pub name_at : Spot → Result (List ℕ × Spot) Fault
name_at s = do
  code ← byte_at s
  name_by (name_of_code code.0) s.place code.1

-- n nodes, one behind the other
abbrev pub arguments_at : (Spot → Result (Tree × Spot) Fault) → ℕ → Spot → Result (Trees × Spot) Fault
arguments_at node zero s = Ok (none, s)
arguments_at node (suc n) s = do
  first ← node s
  others ← arguments_at node n first.1
  Ok (more first.0 others.0, others.1)

-- nodes one behind the other up to the end of the field, which has at most n bytes
abbrev pub nodes_within : (Spot → Result (Tree × Spot) Fault) → ℕ → Spot → Result (Trees × Spot) Fault
nodes_within node zero s = Ok (none, s)
nodes_within node (suc n) s = if length s.left == 0 then Ok (none, s) else (do
  first ← node s
  others ← nodes_within node n first.1
  Ok (more first.0 others.0, others.1))

-- a field of nodes
unfoldable pub nodes_at : (Spot → Result (Tree × Spot) Fault) → Spot → Result (Trees × Spot) Fault
nodes_at node s = do
  f ← field_at s
  nodes ← nodes_within node (length f.0.left) f.0
  Ok (nodes.0, f.1)

-- an application behind its tag: a code, n arguments, and annotations where the tag says so
unfoldable pub application_at : (Spot → Result (Tree × Spot) Fault) → ℕ → Bool → Spot → Result (Tree × Spot) Fault
application_at node n annotated s = do
  name ← name_at s
  args ← arguments_at node n name.1
  annotations ← short_annotations_at annotated args.1
  Ok (prim name.0 annotations.0 args.0, annotations.1)

-- an application of three or more arguments behind its tag, which stood at this place
unfoldable pub many_at : (Spot → Result (Tree × Spot) Fault) → ℕ → Spot → Result (Tree × Spot) Fault
many_at node place s = do
  name ← name_at s
  args ← nodes_at node name.1
  if nat_lt (count args.0) 3 then fault BadTag place else (do
    annotations ← any_annotations_at args.1
    Ok (prim name.0 annotations.0 args.0, annotations.1))

-- a node behind its tag, which stood at this place
unfoldable pub node_by : (Spot → Result (Tree × Spot) Fault) → Tag → ℕ → Spot → Result (Tree × Spot) Fault
node_by node tags.Integer place s = do
  z ← integer_at s
  Ok (int z.0, z.1)
node_by node tags.Text place s = do
  text ← string_at s
  Ok (str text.0, text.1)
node_by node tags.Sequence place s = do
  nodes ← nodes_at node s
  Ok (seq nodes.0, nodes.1)
node_by node tags.Alone place s = application_at node 0 false s
node_by node tags.AloneAnnotated place s = application_at node 0 true s
node_by node tags.One place s = application_at node 1 false s
node_by node tags.OneAnnotated place s = application_at node 1 true s
node_by node tags.Two place s = application_at node 2 false s
node_by node tags.TwoAnnotated place s = application_at node 2 true s
node_by node tags.Many place s = many_at node place s
node_by node tags.Bytes place s = do
  content ← bytes_at s
  Ok (bytes content.0, content.1)

-- each tag stands at its byte
unfoldable pub tags_in_order : List Tag
tags_in_order =
    tags.Integer ∷ tags.Text ∷ tags.Sequence ∷ tags.Alone ∷ tags.AloneAnnotated ∷ tags.One ∷ tags.OneAnnotated ∷
    tags.Two ∷ tags.TwoAnnotated ∷ tags.Many ∷ tags.Bytes ∷ []

abbrev pub tag_by : Option Tag → ℕ → Spot → Result (Tag × Spot) Fault
tag_by None place s = fault BadTag place
tag_by (Some tag) place s = Ok (tag, s)

unfoldable pub tag_at : Spot → Result (Tag × Spot) Fault
tag_at s = do
  b ← byte_at s
  tag_by (slice_get tags_in_order b.0) s.place b.1

-- a node with at most so many levels
unfoldable pub node_at : ℕ → Spot → Result (Tree × Spot) Fault
node_at zero s = do
  tag ← tag_at s
  fault TooDeep s.place
node_at (suc n) s = do
  tag ← tag_at s
  node_by (node_at n) tag.0 s.place tag.1

-- what the bytes are: one node and nothing behind it, or the first fault
unfoldable pub decoded : List ℕ → Result Tree Fault
decoded bs = do
  root ← node_at depth_limit (record { place = 0; left = bs })
  if length root.1.left == 0 then Ok root.0 else fault Trailing root.1.place
