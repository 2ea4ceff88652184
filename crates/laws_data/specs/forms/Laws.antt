-- What holds of the places of accounts and contracts.
use Rattle.std.specs.Prelude.{◌≡◌, ℕ, List, length}
use Rattle.rules_data.specs.forms.Spelling.{IsAddress, IsPlace}

abbrev pub PlacesHaveTheirLength : Type 0
PlacesHaveTheirLength = (bytes : List ℕ) → IsPlace bytes → length bytes ≡ 22

abbrev pub PlacesAreAddresses : Type 0
PlacesAreAddresses = (bytes : List ℕ) → IsPlace bytes → IsAddress bytes
