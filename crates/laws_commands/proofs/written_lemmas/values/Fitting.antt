-- The literal of a value that fits its type and is written can be written.
use Rattle.std.proofs.Common.{◌≡◌, ◌≤◌, ℕ, suc, Bool, true, false, ◌&&◌, nat_le, List, [], ◌∷◌, length, take, drop, refl, sym, arith, cond}
use mathlib.Core.Bool.{true≢false}
use Rattle.std.specs.Prelude.{◌==◌, codes, ℤ, pos, negsuc, not}
use Rattle.std.specs.List.{list_all}
use Rattle.std.specs.Str.{bytes_eq}
use Rattle.std.proofs.lemmas.Bool.{and_parts, leb-true, eqb-true, and_from}
use Rattle.std.proofs.lemmas.Bool.Decides.{nat_tests}
use Rattle.std.proofs.lemmas.Int.{ints}
use Rattle.std.proofs.lemmas.List.{length-drop}
use Rattle.rules_text.specs.nodes.Limits.{byte_limit}
use Rattle.rules_data.specs.declared.types.Simple.{Simple}
use Rattle.rules_data.specs.declared.types.Simple.TheVariants as s
use Rattle.rules_data.specs.types.Kind.{Kind}
use Rattle.rules_data.specs.types.Kind as k
use Rattle.rules_data.specs.numbers.Limits.{is_int}
use Rattle.rules_data.specs.forms.Spelling.{default_name, is_name_byte, is_entrypoint, is_key_hash, key_length, is_key, is_place, is_written_entrypoint, is_address}
use Rattle.rules_data.specs.values.Val.{Val, Vals, no_val, more_vals, Pairs, no_pair, more_pairs}
use Rattle.rules_data.specs.values.Val as v
use Rattle.rules_data.specs.values.Canonical.{canonical, canonicals, canonical_entries}
use Rattle.rules_data.specs.values.Forms.{has_simple_form, AllHave, AllEntriesHave, is_ticket_amount}
use Rattle.rules_data.specs.values.Literals.{is_text_byte, is_text, is_nat, is_amount}
use Rattle.rules_code.specs.typing.Fits.{Known, Fits}
use Rattle.mich_text.specs.Written.{IsNumber, IsString, IsBytes, HasTextForm, HaveTextForms}
use Rattle.mich_text.specs.Written as forms
use Rattle.laws_commands.specs.written.Written.{AreBytes, IsWritten, AreWritten, EntriesAreWritten}
use Rattle.laws_commands.proofs.written_lemmas.values.Levels.{text_form}
use Rattle.laws_commands.proofs.written_lemmas.values.Bytes.{bytes_tested}
use Rattle.laws_commands.proofs.written_lemmas.values.Values.{kind_form, truth_form, lambda_form, over_one_form, over_two_form}

-- ---- numbers

pub int_is : (n : ℤ) → is_int n ≡ true → IsNumber n
int_is (pos n) h = grind (arith, ints)
int_is (negsuc n) h = grind (arith, ints)

pub nat_is : (n : ℤ) → is_nat n ≡ true → IsNumber n
nat_is (pos n) h = grind (arith, ints)
nat_is (negsuc n) h = grind (arith, ints)

pub amount_is : (n : ℤ) → is_amount n ≡ true → IsNumber n
amount_is (pos n) h = grind (arith, ints)
amount_is (negsuc n) h = grind (arith, ints)

pub ticket_is : (n : ℤ) → is_ticket_amount n ≡ true → IsNumber n
ticket_is (pos n) h = grind (arith, ints)
ticket_is (negsuc n) h = grind (arith, ints)

-- ---- strings and bytes

same_text : (c : ℕ) → is_text_byte c ≡ true → forms.is_text c ≡ true
same_text c h = grind (arith, nat_tests)

all_text : (b : List ℕ) → list_all is_text_byte b ≡ true → list_all forms.is_text b ≡ true
all_text [] h = refl
all_text (c ∷ b) h =
    let hs = and_parts (is_text_byte c) (list_all is_text_byte b) h in
    and_from (forms.is_text c) (list_all forms.is_text b) (same_text c hs.0) (all_text b hs.1)

pub string_is : (b : List ℕ) → is_text b ≡ true → IsString b
string_is b h =
    let hs = and_parts (nat_le (length b) byte_limit) (list_all is_text_byte b) h in
    (all_text b hs.1, leb-true (length b) byte_limit hs.0)

bytes_are : (b : List ℕ) → AreBytes b → length b ≤ byte_limit → IsBytes b
bytes_are b h short = (bytes_tested b h, short)

pub hash_short : (b : List ℕ) → is_key_hash b ≡ true → length b ≤ byte_limit
hash_short [] h = absurd cc
hash_short (tag ∷ hash) h =
    let long : length hash ≡ 20 = eqb-true (length hash) 20 (and_parts (nat_le tag 3) (length hash == 20) h).1 in
    omega (arith, long)

pub key_short : (b : List ℕ) → is_key b ≡ true → length b ≤ byte_limit
key_short [] h = absurd cc
key_short (tag ∷ body) h = by (tag == 0) (and_parts (nat_le tag 2) (length body == key_length tag) h).1
  where
    by : (t : Bool) → (length body == cond t 32 33) ≡ true → suc (length body) ≤ byte_limit
    by true e = let long : length body ≡ 32 = eqb-true (length body) 32 e in omega (arith, long)
    by false e = let long : length body ≡ 33 = eqb-true (length body) 33 e in omega (arith, long)

pub length_short : (b : List ℕ) (n : ℕ) → n ≤ byte_limit → (length b == n) ≡ true → length b ≤ byte_limit
length_short b n less h = let long : length b ≡ n = eqb-true (length b) n h in omega (arith, long, less)

entrypoint_short : (b : List ℕ) → is_written_entrypoint b ≡ true → length b ≤ 31
entrypoint_short [] h = omega arith
entrypoint_short (c ∷ b) h =
    let name = (and_parts (is_entrypoint (c ∷ b)) (not (bytes_eq (c ∷ b) default_name)) h).0 in
    leb-true (length (c ∷ b)) 31 (and_parts (nat_le 1 (length (c ∷ b))) (nat_le (length (c ∷ b)) 31)
    (and_parts (nat_le 1 (length (c ∷ b)) && nat_le (length (c ∷ b)) 31) (list_all is_name_byte (c ∷ b)) name).0).1

pub address_short : (b : List ℕ) → is_address b ≡ true → length b ≤ byte_limit
address_short b h = omega (
  arith,
  length-drop 22 b,
  entrypoint_short (drop 22 b) (and_parts (is_place (take 22 b))
      (is_written_entrypoint (drop 22 b)) h).1,
)

simple_form : (u : Simple) (x : Val) → has_simple_form u x ≡ true → IsWritten x → HasTextForm (canonical x)
simple_form s.Unit v.unit h g = ((refl, refl, omega arith), tt, tt)
simple_form s.Bool (v.truth b) h g = truth_form b
simple_form s.Int (v.number n) h g = int_is n h
simple_form s.Timestamp (v.number n) h g = int_is n h
simple_form s.Nat (v.number n) h g = nat_is n h
simple_form s.Mutez (v.number n) h g = amount_is n h
simple_form s.String (v.text b) h g = string_is b h
simple_form s.Bytes (v.bytes b) h g = bytes_are b g (leb-true (length b) byte_limit h)
simple_form s.KeyHash (v.bytes b) h g = bytes_are b g (hash_short b h)
simple_form s.Key (v.bytes b) h g = bytes_are b g (key_short b h)
simple_form s.Signature (v.bytes b) h g = bytes_are b g (length_short b 64 (omega arith) h)
simple_form s.ChainId (v.bytes b) h g = bytes_are b g (length_short b 4 (omega arith) h)
simple_form s.Address (v.bytes b) h g = bytes_are b g (address_short b h)
simple_form u x h g = absurd (true≢false (sym h))

-- ---- all types

module _ (w : Known) where
  mutual
    pub fits_form : (a : Kind) (x : Val) → Fits w a x → IsWritten x → HasTextForm (canonical x)
    fits_form (k.simple u) x h g = simple_form u x h g
    fits_form k.operation (v.operation n) h g = tt
    fits_form (k.option a) v.nothing h g = ((refl, refl, omega arith), tt, tt)
    fits_form (k.option a) (v.some x) h g = over_one_form (codes "Some") (canonical x) (refl, refl, omega arith) (fits_form a x h g)
    fits_form (k.or a b) (v.left x) h g = over_one_form (codes "Left") (canonical x) (refl, refl, omega arith) (fits_form a x h g)
    fits_form (k.or a b) (v.right x) h g = over_one_form (codes "Right") (canonical x) (refl, refl, omega arith) (fits_form b x h g)
    fits_form (k.pair a b) (v.both x y) h g =
        over_two_form (codes "Pair") (canonical x) (canonical y) (refl, refl, omega arith) (fits_form a x h.0 g.0) (fits_form b y h.1 g.1)
    fits_form (k.list a) (v.list xs) h g = all_form a xs h g
    fits_form (k.set a) (v.set xs) h g = all_form a xs h.0 g
    fits_form (k.map a b) (v.table es) h g = entries_form a b es h.0 g
    fits_form (k.big_map a b) (v.big_table es) h g = entries_form a b es h.0 g
    fits_form (k.lambda a b) (v.lambda t recursive) h g = lambda_form t recursive (text_form t g)
    fits_form (k.contract a) (v.bytes b) h g = bytes_are b g (address_short b h.0)
    fits_form (k.ticket a) (v.ticket issuer kind content amount) h g =
        ((refl, refl, omega arith), tt, (g.0, (kind_form kind, (g.3, (ticket_is amount h.2, tt)))))
    fits_form a x h g = absurd h

    all_form : (a : Kind) (xs : Vals) → AllHave (Fits w a) xs → AreWritten xs → HaveTextForms (canonicals xs)
    all_form a no_val h g = tt
    all_form a (more_vals x xs) h g = (fits_form a x h.0 g.0, all_form a xs h.1 g.1)

    entries_form : (a b : Kind) (es : Pairs) → AllEntriesHave (Fits w a) (Fits w b) es → EntriesAreWritten es →
        HaveTextForms (canonical_entries es)
    entries_form a b no_pair h g = tt
    entries_form a b (more_pairs x y es) h g = (
      over_two_form (codes "Elt") (canonical x) (canonical y) (refl, refl, omega arith) (fits_form a x h.0 g.0) (fits_form b y h.1 g.1),
      entries_form a b es h.2 g.2,
    )
