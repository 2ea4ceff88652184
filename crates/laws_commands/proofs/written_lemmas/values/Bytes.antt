-- Bytes.
use Rattle.std.proofs.Common.{◌≡◌, ◌<◌, ◌≤◌, ℕ, zero, suc, true, List, [], ◌∷◌, length, arith}
use Rattle.std.specs.List.{list_all}
use Rattle.std.specs.Int.{bytes_high_first, bytes_low_first, byte_at}
use Rattle.std.proofs.lemmas.Bool.Decides.{nat_tests}
use Rattle.std.proofs.lemmas.List.{length-append}
use Rattle.rules_text.specs.nodes.Limits.{byte_limit}
use Rattle.rules_data.specs.forms.Spelling.{implicit_place, contract_place}
use Rattle.mich_text.specs.Written.{is_text, is_byte}
use Rattle.laws_commands.specs.written.Written.{IsByte, AreBytes}
use Rattle.laws_commands.proofs.common.Lists.{all_append, all_test, all_tested}

pub byte_small : (k n : ℕ) → byte_at k n < 256
byte_small zero n = omega arith
byte_small (suc k) n = omega arith

pub high_first : (k n : ℕ) → AreBytes (bytes_high_first k n)
high_first zero n = tt
high_first (suc k) n = (byte_small k n, high_first k n)

pub low_first : (i k n : ℕ) → AreBytes (bytes_low_first i k n)
low_first i zero n = tt
low_first i (suc k) n = (byte_small i n, low_first (suc i) k n)

byte_is : (c : ℕ) → is_byte c ≡ true → c < 256
byte_is c h = grind (arith, nat_tests)

is_a_byte : (c : ℕ) → c < 256 → is_byte c ≡ true
is_a_byte c h = grind (arith, nat_tests)

pub bytes_from : (b : List ℕ) → list_all is_byte b ≡ true → AreBytes b
bytes_from b h = all_test IsByte is_byte b byte_is h

pub bytes_tested : (b : List ℕ) → AreBytes b → list_all is_byte b ≡ true
bytes_tested b h = all_tested IsByte is_byte b is_a_byte h

text_small : (c : ℕ) → is_text c ≡ true → c < 256
text_small c h = grind (arith, nat_tests)

pub text_bytes : (s : List ℕ) → list_all is_text s ≡ true → AreBytes s
text_bytes s h = all_test IsByte is_text s text_small h

-- ---- places

pub implicit_bytes : (b : List ℕ) → AreBytes b → AreBytes (implicit_place b)
implicit_bytes b h = (omega arith, h)

pub contract_bytes : (b : List ℕ) → AreBytes b → AreBytes (contract_place b)
contract_bytes b h = (omega arith, all_append IsByte b (0 ∷ []) h (omega arith, tt))

pub contract_short : (b : List ℕ) → length b ≡ 20 → length (contract_place b) ≤ byte_limit
contract_short b h = omega (arith, length-append b (0 ∷ []))
