-- What the types of the code stand for.
use Rattle.std.specs.Prelude.{ℕ, Bool, false, List, map}
use Rattle.rules_data.specs.declared.types.Simple.{Simple}
use Rattle.rules_data.specs.declared.types.Simple.TheVariants as s
use Rattle.rules_data.specs.forms.Spelling.{is_key_hash, is_key, is_signature, is_chain_id, is_address}
use Rattle.rules_data.specs.values.Literals.{Word, unit_word, true_word, false_word, none_word, some_word, left_word, right_word, pair_word, entry_word, recursive_word, other_word, is_short}
use Rattle.rules_data.specs.values.Literals as rules
use Rattle.mich_forms.specs.Spelled.{address_bytes}
use Rattle.mich_base.specs.View.{tree}
use Rattle.mich_base.specs.TypeView.{kind}
use Rattle.mich_data.specs.declared.words.Word.{Word as CodeWord}
use Rattle.mich_data.specs.declared.words.Word.TheVariants as w
use Rattle.mich_data.specs.declared.pending.Pending.{Pending}
use Rattle.mich_data.specs.declared.pending.Pending.TheVariants.{Body, Claim}

abbrev pub word : CodeWord → Word
word w.Unit = unit_word
word w.True = true_word
word w.False = false_word
word w.None = none_word
word w.Some = some_word
word w.Left = left_word
word w.Right = right_word
word w.Pair = pair_word
word w.Entry = entry_word
word w.Recursive = recursive_word
word w.Other = other_word

-- the test of bytes as literals of a type; no bytes are of the others
abbrev pub byte_test : Simple → List ℕ → Bool
byte_test s.Bytes b = is_short b
byte_test s.Key b = is_key b
byte_test s.KeyHash b = is_key_hash b
byte_test s.Signature b = is_signature b
byte_test s.ChainId b = is_chain_id b
byte_test s.Address b = is_address b
byte_test s b = false

abbrev pub pending : Pending → rules.Pending
pending (Body location arg ret recursive node) = rules.body location (kind arg) (kind ret) recursive (tree node)
pending (Claim location address ty) = rules.claim location (address_bytes address) (kind ty)

abbrev pub all_pending : List Pending → List rules.Pending
all_pending ps = map pending ps
