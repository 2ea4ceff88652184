-- The form that a value of a type has. It says all of what fits a type but what the world and a checker must say: that
-- a lambda's body goes from the argument's type to the result's, that an address is one of a contract of its type, and
-- that an operation was issued.
use Rattle.std.specs.Prelude.{◌≡◌, ◌<◌, ◌^◌, ◌&&◌, Bool, true, false, ℤ, pos, int_le}
use Rattle.rules_text.specs.nodes.Limits.{most_tickets}
use Rattle.rules_text.specs.nodes.Tree.{Tree, seq, size}
use Rattle.rules_data.specs.numbers.Limits.{is_int}
use Rattle.rules_data.specs.declared.types.Simple.{Simple}
use Rattle.rules_data.specs.declared.types.Simple.TheVariants as s
use Rattle.rules_data.specs.types.Kind.{Kind}
use Rattle.rules_data.specs.types.Kind as k
use Rattle.rules_data.specs.values.Val.{Val, Vals, no_val, more_vals, Pairs, no_pair, more_pairs}
use Rattle.rules_data.specs.values.Val as v
use Rattle.rules_data.specs.values.Tables.{AreIncreasing, AreIncreasingKeys}
use Rattle.rules_data.specs.forms.Spelling.{is_key_hash, is_key, is_signature, is_chain_id, is_address}
use Rattle.rules_data.specs.values.Literals.{is_nat, is_amount, is_text, is_short}

abbrev pub has_simple_form : Simple → Val → Bool
has_simple_form s.Unit v.unit = true
has_simple_form s.Bool (v.truth b) = true
has_simple_form s.Int (v.number n) = is_int n
has_simple_form s.Timestamp (v.number n) = is_int n
has_simple_form s.Nat (v.number n) = is_nat n
has_simple_form s.Mutez (v.number n) = is_amount n
has_simple_form s.String (v.text b) = is_text b
has_simple_form s.Bytes (v.bytes b) = is_short b
has_simple_form s.KeyHash (v.bytes b) = is_key_hash b
has_simple_form s.Key (v.bytes b) = is_key b
has_simple_form s.Signature (v.bytes b) = is_signature b
has_simple_form s.ChainId (v.bytes b) = is_chain_id b
has_simple_form s.Address (v.bytes b) = is_address b
has_simple_form s x = false

abbrev pub AllHave : (Val → Type 0) → Vals → Type 0
AllHave P no_val = Unit {0}
AllHave P (more_vals x xs) = P x × AllHave P xs

abbrev pub AllEntriesHave : (Val → Type 0) → (Val → Type 0) → Pairs → Type 0
AllEntriesHave P Q no_pair = Unit {0}
AllEntriesHave P Q (more_pairs x y es) = P x × Q y × AllEntriesHave P Q es

abbrev pub IsSequence : Tree → Type 0
IsSequence (seq ts) = Unit {0}
IsSequence t = ⊥

-- amounts of tickets are positive ints (Octez "Tickets")
abbrev pub is_ticket_amount : ℤ → Bool
is_ticket_amount n = int_le (pos 1) n && int_le n (pos most_tickets)

abbrev pub HasForm : Kind → Val → Type 0
HasForm (k.simple s) x = has_simple_form s x ≡ true
HasForm k.operation (v.operation n) = Unit {0}
HasForm (k.option a) v.nothing = Unit {0}
HasForm (k.option a) (v.some x) = HasForm a x
HasForm (k.or a b) (v.left x) = HasForm a x
HasForm (k.or a b) (v.right x) = HasForm b x
HasForm (k.pair a b) (v.both x y) = HasForm a x × HasForm b y
HasForm (k.list a) (v.list xs) = AllHave (HasForm a) xs
HasForm (k.set a) (v.set xs) = AllHave (HasForm a) xs × AreIncreasing xs
HasForm (k.map a b) (v.table es) = AllEntriesHave (HasForm a) (HasForm b) es × AreIncreasingKeys es
HasForm (k.big_map a b) (v.big_table es) = AllEntriesHave (HasForm a) (HasForm b) es × AreIncreasingKeys es
HasForm (k.lambda a b) (v.lambda t recursive) = IsSequence t × (size t < 2 ^ 32)
HasForm (k.contract a) (v.bytes b) = is_address b ≡ true
HasForm (k.ticket a) (v.ticket issuer kind content amount) = (kind ≡ a) × HasForm a content × (is_ticket_amount amount ≡ true)
HasForm a x = ⊥
