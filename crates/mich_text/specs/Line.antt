-- Elements of a sequence, as they are written one after another.
use Rattle.std.specs.Prelude.{ℕ, List, [], ◌++◌, Bool, ◌&&◌, nat_le}
use Rattle.rules_text.specs.nodes.Tree.{Trees, none, more}
use Rattle.rules_text.specs.text.Printed.{printed, elements_text}

-- the first behind this separator, each other behind a `;`
abbrev pub joined : List ℕ → Trees → List ℕ
joined separator none = []
joined separator (more x xs) = separator ++ (printed x ++ elements_text xs)

-- what ASCII prints
abbrev pub is_printing : ℕ → Bool
is_printing c = nat_le 32 c && nat_le c 126
