-- Whether two types are one.
use Rattle.std.specs.Prelude.{ℕ, ◌==◌, Bool, true, false, ◌&&◌, List, [], ◌∷◌}
use Rattle.rules_data.specs.declared.types.Simple.{Simple}
use Rattle.rules_data.specs.declared.types.Simple.TheVariants as s
use Rattle.rules_data.specs.types.Kind.{Kind, simple, operation, option, or, pair, list, set, map, big_map, lambda, contract, ticket}

-- a number of its own for each type without arguments
abbrev pub place : Simple → ℕ
place s.Unit = 0
place s.Never = 1
place s.Bool = 2
place s.Int = 3
place s.Nat = 4
place s.String = 5
place s.Bytes = 6
place s.Mutez = 7
place s.Timestamp = 8
place s.Key = 9
place s.KeyHash = 10
place s.Signature = 11
place s.ChainId = 12
place s.Address = 13

abbrev pub same_kind : Kind → Kind → Bool
same_kind (simple s) (simple t) = place s == place t
same_kind operation operation = true
same_kind (option a) (option b) = same_kind a b
same_kind (or a b) (or c d) = same_kind a c && same_kind b d
same_kind (pair a b) (pair c d) = same_kind a c && same_kind b d
same_kind (list a) (list b) = same_kind a b
same_kind (set a) (set b) = same_kind a b
same_kind (map a b) (map c d) = same_kind a c && same_kind b d
same_kind (big_map a b) (big_map c d) = same_kind a c && same_kind b d
same_kind (lambda a b) (lambda c d) = same_kind a c && same_kind b d
same_kind (contract a) (contract b) = same_kind a b
same_kind (ticket a) (ticket b) = same_kind a b
same_kind a b = false

abbrev pub same_kinds : List Kind → List Kind → Bool
same_kinds [] [] = true
same_kinds (a ∷ A) (b ∷ B) = same_kind a b && same_kinds A B
same_kinds A B = false
