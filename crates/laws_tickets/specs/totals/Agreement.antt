-- Where the tickets of a value are (Octez "Tickets"; Michelson reference, "Types"): a value agrees with a type where it has
-- that type's shape, so that it holds tickets in the places of tickets alone. Nothing is said of ranges, texts and lambdas.
use Rattle.std.specs.Prelude.{◌≡◌, ℕ, true, List, [], ◌∷◌, Some}
use Rattle.rules_data.specs.types.Kind.{Kind}
use Rattle.rules_data.specs.types.Kind as k
use Rattle.rules_data.specs.types.Attributes.{comparable}
use Rattle.rules_data.specs.values.Val.{Val}
use Rattle.rules_data.specs.values.Val as v
use Rattle.rules_data.specs.values.Tables.{AreIncreasingKeys}
use Rattle.rules_data.specs.values.Tickets.{tickets}
use Rattle.rules_data.specs.values.Forms.{AllHave, AllEntriesHave}
use Rattle.rules_code.specs.instructions.Arguments.{found}
use Rattle.rules_code.specs.typing.Scripts.{Outline}
use Rattle.rules_code.specs.typing.Nodes.{outline}
use Rattle.rules_code.specs.evaluation.Surroundings.{Contract, Surroundings}

-- elements, keys and contents of tickets are of comparable types, and the keys of a map increase
abbrev pub Agrees : Kind → Val → Type 0
Agrees (k.simple s) x = tickets x ≡ []
Agrees k.operation (v.operation n) = Unit {0}
Agrees (k.option a) v.nothing = Unit {0}
Agrees (k.option a) (v.some x) = Agrees a x
Agrees (k.or a b) (v.left x) = Agrees a x
Agrees (k.or a b) (v.right x) = Agrees b x
Agrees (k.pair a b) (v.both x y) = Agrees a x × Agrees b y
Agrees (k.list a) (v.list xs) = AllHave (Agrees a) xs
Agrees (k.set a) (v.set xs) = (comparable a ≡ true) × AllHave (Agrees a) xs
Agrees (k.map a b) (v.table es) = (comparable a ≡ true) × AllEntriesHave (Agrees a) (Agrees b) es × AreIncreasingKeys es
Agrees (k.big_map a b) (v.big_table es) =
    (comparable a ≡ true) × AllEntriesHave (Agrees a) (Agrees b) es × AreIncreasingKeys es
Agrees (k.lambda a b) (v.lambda t recursive) = Unit {0}
Agrees (k.contract a) (v.bytes b) = Unit {0}
Agrees (k.ticket a) (v.ticket issuer kind content amount) = (comparable a ≡ true) × Agrees a content
Agrees a x = ⊥

-- each value of a stack with its type
abbrev pub AllAgree : List Kind → List Val → Type 0
AllAgree [] [] = Unit {0}
AllAgree (a ∷ A) (x ∷ V) = Agrees a x × AllAgree A V
AllAgree A V = ⊥

-- the storages that views read agree with the types in their scripts
abbrev pub SeesAgreement : Surroundings → Type 0
SeesAgreement e = (hash : List ℕ) (c : Contract) (o : Outline) →
    e.contract_at hash ≡ Some c → outline c.script ≡ found o → Agrees o.storage c.storage
