-- What `encode` and `decode` answer to a file (Octez "Micheline", "data encoding").
use Rattle.std.specs.Prelude.{◌≡◌, ℕ, List, [], ◌∷◌, ◌++◌, length, codes, None, Some, Result, Ok, Err}
use Rattle.std.specs.declared.option.Option.{Option}
use Rattle.hex.specs.Hex.{encode_lower}
use Rattle.rules_text.specs.nodes.Tree.{Tree, int, str, bytes, prim, seq}
use Rattle.rules_text.specs.declared.text.TextKind.{TextKind}
use Rattle.rules_world.specs.lines.Nodes.{line}
use Rattle.rules_text.specs.binary.Encoding.{Refusal, no_code, too_long, encoded}
use Rattle.rules_text.specs.binary.Reading.{Fault, decoded}
use Rattle.rules_text.specs.declared.binary.DecodeKind.{DecodeKind}
use Rattle.rules_text.specs.declared.binary.DecodeKind.TheVariants as binary
use Rattle.rules_files.specs.commands.Places.{Placed, Listing, IsListing}
use Rattle.rules_files.specs.commands.Lines.{text_kind_name}
use Rattle.rules_files.specs.commands.Answers.{Answer, done_with, refused_with, misplaced}

-- ---- a file of one statement

-- a second statement isn't the command's input
abbrev pub alone : Answer → List Placed → Answer
alone answer [] = answer
alone answer (s ∷ ss) = misplaced s.place

-- where the first statement is the command's input, its answer
abbrev pub fitting : Option Answer → ℕ → List Placed → Answer
fitting (Some answer) place rest = alone answer rest
fitting None place rest = misplaced place

-- the answer that a command gives to a node, for the one statement of a file of so many bytes
abbrev pub of_statements : (Tree → Option Answer) → ℕ → List Placed → Answer
of_statements answer size [] = misplaced size
of_statements answer size (s ∷ ss) = fitting (answer s.node) s.place ss

-- the first fault of the text comes before all else
abbrev pub of_text : Option (TextKind × ℕ) → Answer → Answer
of_text (Some fault) answer = refused_with (text_kind_name fault.0) fault.1
of_text None answer = answer

abbrev pub of_listing : (Tree → Option Answer) → ℕ → Listing → Answer
of_listing answer size found = of_text found.fault (of_statements answer size found.statements)

-- ---- encode: any node

-- bytes in hexadecimal digits
abbrev pub bytes_line : List ℕ → List ℕ
bytes_line b = codes "0x" ++ (encode_lower b ++ codes "\n")

abbrev pub encoding_answer : Result (List ℕ) Refusal → Answer
encoding_answer (Ok b) = done_with (bytes_line b)
encoding_answer (Err (no_code location)) = refused_with (codes "NoCode") location
encoding_answer (Err too_long) = refused_with (codes "TooLong") 0

abbrev pub encode_node : Tree → Option Answer
encode_node t = Some (encoding_answer (encoded t))

-- ---- decode: a literal of bytes

abbrev pub decode_kind_name : DecodeKind → List ℕ
decode_kind_name binary.BadTag = codes "BadTag"
decode_kind_name binary.BadPrim = codes "BadPrim"
decode_kind_name binary.BadLength = codes "BadLength"
decode_kind_name binary.BadInteger = codes "BadInteger"
decode_kind_name binary.BadString = codes "BadString"
decode_kind_name binary.Trailing = codes "Trailing"
decode_kind_name binary.TooDeep = codes "TooDeep"
decode_kind_name binary.TooWide = codes "TooWide"

abbrev pub decoding_answer : Result Tree Fault → Answer
decoding_answer (Ok t) = done_with (line t)
decoding_answer (Err fault) = refused_with (decode_kind_name fault.kind) fault.place

abbrev pub decode_node : Tree → Option Answer
decode_node (bytes b) = Some (decoding_answer (decoded b))
decode_node (int n) = None
decode_node (str s) = None
decode_node (prim name annotations arguments) = None
decode_node (seq elements) = None

-- ---- files

-- the answer to a file, of a command that gives this answer to a node
abbrev pub IsCodecAnswer : (Tree → Option Answer) → List ℕ → Answer → Type 0
IsCodecAnswer command file answer = (found : Listing) × IsListing file found × (answer ≡ of_listing command (length file) found)
