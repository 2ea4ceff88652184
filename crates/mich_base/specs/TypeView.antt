-- The kind that a `Ty` stands for.
use Rattle.rules_data.specs.types.Kind.{Kind}
use Rattle.rules_data.specs.types.Kind as k
use Rattle.rules_data.specs.declared.types.Simple.TheVariants as s
use Rattle.mich_base.specs.declared.ty.Ty.{Ty, fold-Ty}
use Rattle.mich_base.specs.declared.ty.Ty.TheOpen.{Ty-F}

-- one level of a type, with its parts already seen as kinds
abbrev pub kind_step : Ty-F Kind → Kind
kind_step Ty-F.Unit = k.simple s.Unit
kind_step Ty-F.Never = k.simple s.Never
kind_step Ty-F.Bool = k.simple s.Bool
kind_step Ty-F.Int = k.simple s.Int
kind_step Ty-F.Nat = k.simple s.Nat
kind_step Ty-F.String = k.simple s.String
kind_step Ty-F.Bytes = k.simple s.Bytes
kind_step Ty-F.Mutez = k.simple s.Mutez
kind_step Ty-F.Timestamp = k.simple s.Timestamp
kind_step Ty-F.Key = k.simple s.Key
kind_step Ty-F.KeyHash = k.simple s.KeyHash
kind_step Ty-F.Signature = k.simple s.Signature
kind_step Ty-F.ChainId = k.simple s.ChainId
kind_step Ty-F.Address = k.simple s.Address
kind_step Ty-F.Operation = k.operation
kind_step (Ty-F.Option a) = k.option a
kind_step (Ty-F.List a) = k.list a
kind_step (Ty-F.Set a) = k.set a
kind_step (Ty-F.Contract a) = k.contract a
kind_step (Ty-F.Ticket a) = k.ticket a
kind_step (Ty-F.Or a b) = k.or a b
kind_step (Ty-F.Pair a b) = k.pair a b
kind_step (Ty-F.Map a b) = k.map a b
kind_step (Ty-F.BigMap a b) = k.big_map a b
kind_step (Ty-F.Lambda a b) = k.lambda a b

abbrev pub kind : Ty → Kind
kind = fold-Ty Kind kind_step
