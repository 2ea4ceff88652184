-- That a value has a type, where what addresses and operations there are is told from outside (Michelson reference, "Types").
use Rattle.std.specs.Prelude.{◌≡◌, ℕ, ◌<◌, ◌^◌, true, List, [], ◌∷◌}
use Rattle.rules_text.specs.nodes.Tree.{size}
use Rattle.rules_data.specs.types.Kind.{Kind}
use Rattle.rules_data.specs.types.Kind as k
use Rattle.rules_data.specs.values.Val.{Val}
use Rattle.rules_data.specs.values.Val as v
use Rattle.rules_data.specs.values.Tables.{AreIncreasing, AreIncreasingKeys}
use Rattle.rules_data.specs.forms.Spelling.{is_address, is_place}
use Rattle.rules_data.specs.values.Forms.{has_simple_form, AllHave, AllEntriesHave, IsSequence, is_ticket_amount}
use Rattle.rules_code.specs.instructions.Context as place
use Rattle.rules_code.specs.instructions.Control.{call_kinds}
use Rattle.rules_code.specs.typing.Typing.{Typing, goes, fails, bad}
use Rattle.rules_code.specs.typing.Nodes.{tree_type}

-- to these types, or to none because it fails
abbrev pub Leads : Typing → List Kind → Type 0
Leads (goes B) C = B ≡ C
Leads fails C = Unit {0}
Leads (bad l) C = ⊥

-- which address is one of a contract of a type, and which number is that of an operation that was issued
pub record Known : Type 1 where
  pub is_contract : List ℕ → Kind → Type 0
  pub is_issued : ℕ → Type 0

-- An operation is one that was issued; a lambda's body goes from its argument, above the lambda itself where it is
-- recursive, to its result alone; an address of a contract is one of its type; a ticket has its content's type.
abbrev pub Fits : Known → Kind → Val → Type 0
Fits w (k.simple s) x = has_simple_form s x ≡ true
Fits w k.operation (v.operation n) = w.is_issued n
Fits w (k.option a) v.nothing = Unit {0}
Fits w (k.option a) (v.some x) = Fits w a x
Fits w (k.or a b) (v.left x) = Fits w a x
Fits w (k.or a b) (v.right x) = Fits w b x
Fits w (k.pair a b) (v.both x y) = Fits w a x × Fits w b y
Fits w (k.list a) (v.list xs) = AllHave (Fits w a) xs
Fits w (k.set a) (v.set xs) = AllHave (Fits w a) xs × AreIncreasing xs
Fits w (k.map a b) (v.table es) = AllEntriesHave (Fits w a) (Fits w b) es × AreIncreasingKeys es
Fits w (k.big_map a b) (v.big_table es) = AllEntriesHave (Fits w a) (Fits w b) es × AreIncreasingKeys es
Fits w (k.lambda a b) (v.lambda t recursive) =
    IsSequence t × (size t < 2 ^ 32) × Leads (tree_type t place.lambda (call_kinds a b recursive)) (b ∷ [])
Fits w (k.contract a) (v.bytes b) = (is_address b ≡ true) × w.is_contract b a
Fits w (k.ticket a) (v.ticket issuer kind content amount) =
    (kind ≡ a) × Fits w a content × (is_ticket_amount amount ≡ true) × (is_place issuer ≡ true)
Fits w a x = ⊥

-- each value of a stack has its type
abbrev pub AllFit : Known → List Kind → List Val → Type 0
AllFit w [] [] = Unit {0}
AllFit w (a ∷ A) (x ∷ xs) = Fits w a x × AllFit w A xs
AllFit w A xs = ⊥
