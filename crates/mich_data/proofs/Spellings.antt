-- Addresses that are read, against the test of their bytes.
use Rattle.std.proofs.Common.{◌≡◌, ℕ, true, false, Option, Some, None, List, sym, is_some, option_map}
use Rattle.std.specs.Option.{SomeIff, MatchOption}
use Rattle.std.proofs.lemmas.Bool.{false_from_ne_true}
use Rattle.rules_data.specs.forms.Spelling.{IsAddress, is_address}
use Rattle.mich_forms.specs.Spelled.{address_bytes}
use Rattle.mich_forms.specs.declared.addresses.Address.{Address}

pub address_told : (o : Option Address) (b : List ℕ) → SomeIff (option_map address_bytes o) (IsAddress b) b → is_some o ≡ is_address b
address_told None b h = sym (false_from_ne_true (is_address b) h)
address_told (Some a) b h = sym h.0

-- what the bytes of an address tell of the test
pub addressed : (o : Option Address) (b : List ℕ) → SomeIff (option_map address_bytes o) (IsAddress b) b →
    MatchOption o (is_address b ≡ false) (λ a. (is_address b ≡ true) × (address_bytes a ≡ b))
addressed None b h = false_from_ne_true (is_address b) h
addressed (Some a) b h = h
