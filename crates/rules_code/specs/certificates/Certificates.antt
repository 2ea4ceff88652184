-- Certificates: a script with its derivation written beside it, what `certify` answers, and which nodes are valid.
use Rattle.std.specs.Prelude.{◌≡◌, ℕ, ◌-◌, pos, nat_le, if◌then◌else◌, Bool, List, [], ◌∷◌, length, codes, Option, Some, None}
use Rattle.std.specs.List.{list_all}
use Rattle.rules_text.specs.nodes.Limits.{depth_limit, statement_limit}
use Rattle.rules_text.specs.nodes.Tree.{Tree, int, seq, Trees, none, more, depth}
use Rattle.rules_text.specs.text.Printed.{printed}
use Rattle.rules_data.specs.types.Kind.{Kind}
use Rattle.rules_data.specs.types.Printing.{named, node_of}
use Rattle.rules_code.specs.instructions.Arguments.{Found, found, fault}
use Rattle.rules_code.specs.typing.Scripts.{Script}
use Rattle.rules_code.specs.typing.Nodes.{script}
use Rattle.rules_code.specs.certificates.Derivation.{Entry, before, end, failing, derivation}

-- ---- the node

abbrev pub stack_nodes : List Kind → Trees
stack_nodes [] = none
stack_nodes (a ∷ A) = more (node_of a) (stack_nodes A)

abbrev pub located : ℕ → Trees → Trees
located l ts = more (int (pos l)) ts

-- `At location { types }`, `End location { types }` and `Fails location`
abbrev pub entry_node : Entry → Tree
entry_node (before l A) = named (codes "At") (located l (more (seq (stack_nodes A)) none))
entry_node (end l A) = named (codes "End") (located l (more (seq (stack_nodes A)) none))
entry_node (failing l) = named (codes "Fails") (located l none)

abbrev pub entry_nodes : List Entry → Trees
entry_nodes [] = none
entry_nodes (e ∷ es) = more (entry_node e) (entry_nodes es)

-- `Certified script { entries }`
abbrev pub certified_node : Tree → List Entry → Tree
certified_node t es = named (codes "Certified") (more t (more (seq (entry_nodes es)) none))

abbrev pub certificate : Tree → Tree
certificate t = certified_node t (derivation t)

-- ---- levels and length, so that a certificate is one line that can be read again

-- the levels that a type may have as a node, and a script
abbrev pub kind_levels : ℕ
kind_levels = depth_limit - 10

abbrev pub script_levels : ℕ
script_levels = depth_limit - 2

abbrev pub is_flat : Kind → Bool
is_flat a = nat_le (depth (node_of a)) kind_levels

-- the location of the first entry with a type of more levels
abbrev pub deep_entry : List Entry → Option ℕ
deep_entry [] = None
deep_entry (before l A ∷ es) = if list_all is_flat A then deep_entry es else Some l
deep_entry (end l A ∷ es) = if list_all is_flat A then deep_entry es else Some l
deep_entry (failing l ∷ es) = deep_entry es

-- ---- certify

-- a certificate; or the first fault of the typing; or where there are too many levels; or that the line is too long
pub data Certifying : Type 0 where
  certified : Tree → Certifying
  ill_typed : ℕ → Certifying
  too_deep : ℕ → Certifying
  too_long : Certifying

abbrev pub within_line : Tree → Certifying
within_line n = if nat_le (length (printed n)) statement_limit then certified n else too_long

abbrev pub unless_deep : Option ℕ → Tree → Certifying
unless_deep (Some l) n = too_deep l
unless_deep None n = within_line n

abbrev pub of_accepted : Tree → Certifying
of_accepted t = if nat_le (depth t) script_levels then unless_deep (deep_entry (derivation t)) (certificate t) else too_deep 0

abbrev pub of_typing : Found Script → Tree → Certifying
of_typing (found s) t = of_accepted t
of_typing (fault l) t = ill_typed l

abbrev pub certifying : Tree → Certifying
certifying t = of_typing (script t) t

-- ---- verify

-- a node is valid where it is the certificate of a script that typing accepts
pub record IsValid (n : Tree) : Type 0 where
  pub script_node : Tree
  pub accepted : Script
  pub is_accepted : script script_node ≡ found accepted
  pub is_certificate : n ≡ certificate script_node
