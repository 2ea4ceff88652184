-- Literals of types without arguments, and the values that they are.
use Rattle.std.proofs.Common.{◌≡◌, ℕ, ℤ, Bool, true, false, List, is_some, refl}
use Rattle.rules_text.specs.nodes.Tree.{int, str, bytes}
use Rattle.rules_data.specs.numbers.Limits.{is_int}
use Rattle.rules_data.specs.forms.Spelling.{is_key_hash, is_key, is_signature, is_chain_id, is_address}
use Rattle.rules_data.specs.declared.types.Simple.{Simple}
use Rattle.rules_data.specs.declared.types.Simple.TheVariants as s
use Rattle.rules_data.specs.types.Kind.{Kind}
use Rattle.rules_data.specs.types.Kind as k
use Rattle.rules_data.specs.values.Val.{Val}
use Rattle.rules_data.specs.values.Val as v
use Rattle.rules_data.specs.values.Forms.{has_simple_form}
use Rattle.rules_data.specs.values.Literals.{simple_value, tested, is_nat, is_amount, is_text, is_short}
use Rattle.rules_files.specs.snapshots.Rules.{is_stored}
use Rattle.mich_snapshot.specs.Leaves.{is_leaf}

tested_is : (b : Bool) (x : Val) → is_some (tested b x) ≡ b
tested_is true x = refl
tested_is false x = refl

number_simple : (c : Simple) (n : ℤ) → is_some (simple_value c (int n)) ≡ has_simple_form c (v.number n)
number_simple s.Unit n = refl
number_simple s.Never n = refl
number_simple s.Bool n = refl
number_simple s.Int n = tested_is (is_int n) (v.number n)
number_simple s.Nat n = tested_is (is_nat n) (v.number n)
number_simple s.String n = refl
number_simple s.Bytes n = refl
number_simple s.Mutez n = tested_is (is_amount n) (v.number n)
number_simple s.Timestamp n = tested_is (is_int n) (v.number n)
number_simple s.Key n = refl
number_simple s.KeyHash n = refl
number_simple s.Signature n = refl
number_simple s.ChainId n = refl
number_simple s.Address n = refl

pub number_leaf : (a : Kind) (n : ℤ) → is_leaf a (int n) ≡ is_stored a (v.number n)
number_leaf (k.simple c) n = number_simple c n
number_leaf k.operation n = refl
number_leaf (k.option a) n = refl
number_leaf (k.or a b) n = refl
number_leaf (k.pair a b) n = refl
number_leaf (k.list a) n = refl
number_leaf (k.set a) n = refl
number_leaf (k.map a b) n = refl
number_leaf (k.big_map a b) n = refl
number_leaf (k.lambda a b) n = refl
number_leaf (k.contract a) n = refl
number_leaf (k.ticket a) n = refl

text_simple : (c : Simple) (l : List ℕ) → is_some (simple_value c (str l)) ≡ has_simple_form c (v.text l)
text_simple s.Unit l = refl
text_simple s.Never l = refl
text_simple s.Bool l = refl
text_simple s.Int l = refl
text_simple s.Nat l = refl
text_simple s.String l = tested_is (is_text l) (v.text l)
text_simple s.Bytes l = refl
text_simple s.Mutez l = refl
text_simple s.Timestamp l = refl
text_simple s.Key l = refl
text_simple s.KeyHash l = refl
text_simple s.Signature l = refl
text_simple s.ChainId l = refl
text_simple s.Address l = refl

pub text_leaf : (a : Kind) (l : List ℕ) → is_leaf a (str l) ≡ is_stored a (v.text l)
text_leaf (k.simple c) l = text_simple c l
text_leaf k.operation l = refl
text_leaf (k.option a) l = refl
text_leaf (k.or a b) l = refl
text_leaf (k.pair a b) l = refl
text_leaf (k.list a) l = refl
text_leaf (k.set a) l = refl
text_leaf (k.map a b) l = refl
text_leaf (k.big_map a b) l = refl
text_leaf (k.lambda a b) l = refl
text_leaf (k.contract a) l = refl
text_leaf (k.ticket a) l = refl

bytes_simple : (c : Simple) (l : List ℕ) → is_some (simple_value c (bytes l)) ≡ has_simple_form c (v.bytes l)
bytes_simple s.Unit l = refl
bytes_simple s.Never l = refl
bytes_simple s.Bool l = refl
bytes_simple s.Int l = refl
bytes_simple s.Nat l = refl
bytes_simple s.String l = refl
bytes_simple s.Bytes l = tested_is (is_short l) (v.bytes l)
bytes_simple s.Mutez l = refl
bytes_simple s.Timestamp l = refl
bytes_simple s.Key l = tested_is (is_key l) (v.bytes l)
bytes_simple s.KeyHash l = tested_is (is_key_hash l) (v.bytes l)
bytes_simple s.Signature l = tested_is (is_signature l) (v.bytes l)
bytes_simple s.ChainId l = tested_is (is_chain_id l) (v.bytes l)
bytes_simple s.Address l = tested_is (is_address l) (v.bytes l)

pub bytes_leaf : (a : Kind) (l : List ℕ) → is_leaf a (bytes l) ≡ is_stored a (v.bytes l)
bytes_leaf (k.simple c) l = bytes_simple c l
bytes_leaf k.operation l = refl
bytes_leaf (k.option a) l = refl
bytes_leaf (k.or a b) l = refl
bytes_leaf (k.pair a b) l = refl
bytes_leaf (k.list a) l = refl
bytes_leaf (k.set a) l = refl
bytes_leaf (k.map a b) l = refl
bytes_leaf (k.big_map a b) l = refl
bytes_leaf (k.lambda a b) l = refl
bytes_leaf (k.contract a) l = refl
bytes_leaf (k.ticket a) l = refl
