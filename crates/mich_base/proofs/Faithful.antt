-- Two types that are seen as one are equal.
use Rattle.std.proofs.Common.{◌≡◌, sym, ap, ◌∙◌, subst}
use Rattle.rules_data.specs.types.Kind.{Kind}
use Rattle.rules_data.specs.types.Kind as k
use Rattle.rules_data.specs.declared.types.Simple.{Simple}
use Rattle.rules_data.specs.declared.types.Simple.TheVariants as s
use Rattle.mich_base.specs.TypeView.{kind, kind_step}
use Rattle.mich_base.specs.declared.ty.Ty.{Ty, ind-Ty, fold-roll-Ty, roll-Ty, map-Ty}
use Rattle.mich_base.specs.declared.ty.Ty.TheOpen.{Ty-F}

abbrev simple_ty : Simple → Ty
simple_ty s.Unit = roll-Ty Ty-F.Unit
simple_ty s.Never = roll-Ty Ty-F.Never
simple_ty s.Bool = roll-Ty Ty-F.Bool
simple_ty s.Int = roll-Ty Ty-F.Int
simple_ty s.Nat = roll-Ty Ty-F.Nat
simple_ty s.String = roll-Ty Ty-F.String
simple_ty s.Bytes = roll-Ty Ty-F.Bytes
simple_ty s.Mutez = roll-Ty Ty-F.Mutez
simple_ty s.Timestamp = roll-Ty Ty-F.Timestamp
simple_ty s.Key = roll-Ty Ty-F.Key
simple_ty s.KeyHash = roll-Ty Ty-F.KeyHash
simple_ty s.Signature = roll-Ty Ty-F.Signature
simple_ty s.ChainId = roll-Ty Ty-F.ChainId
simple_ty s.Address = roll-Ty Ty-F.Address

-- the type that stands for a kind
abbrev ty_of : Kind → Ty
ty_of (k.simple s) = simple_ty s
ty_of k.operation = roll-Ty Ty-F.Operation
ty_of (k.option a) = roll-Ty (Ty-F.Option (ty_of a))
ty_of (k.list a) = roll-Ty (Ty-F.List (ty_of a))
ty_of (k.set a) = roll-Ty (Ty-F.Set (ty_of a))
ty_of (k.contract a) = roll-Ty (Ty-F.Contract (ty_of a))
ty_of (k.ticket a) = roll-Ty (Ty-F.Ticket (ty_of a))
ty_of (k.or a b) = roll-Ty (Ty-F.Or (ty_of a) (ty_of b))
ty_of (k.pair a b) = roll-Ty (Ty-F.Pair (ty_of a) (ty_of b))
ty_of (k.map a b) = roll-Ty (Ty-F.Map (ty_of a) (ty_of b))
ty_of (k.big_map a b) = roll-Ty (Ty-F.BigMap (ty_of a) (ty_of b))
ty_of (k.lambda a b) = roll-Ty (Ty-F.Lambda (ty_of a) (ty_of b))

abbrev TyBack : Ty → Type 0
TyBack t = ty_of (kind t) ≡ t

abbrev TyWithBack : Type 0
TyWithBack = (t : Ty) × TyBack t

ty_level : (y : Ty-F TyWithBack) → TyBack (roll-Ty (map-Ty TyWithBack Ty (λ e. e.0) y))
ty_level Ty-F.Unit = ap ty_of (fold-roll-Ty Kind kind_step Ty-F.Unit)
ty_level Ty-F.Never = ap ty_of (fold-roll-Ty Kind kind_step Ty-F.Never)
ty_level Ty-F.Bool = ap ty_of (fold-roll-Ty Kind kind_step Ty-F.Bool)
ty_level Ty-F.Int = ap ty_of (fold-roll-Ty Kind kind_step Ty-F.Int)
ty_level Ty-F.Nat = ap ty_of (fold-roll-Ty Kind kind_step Ty-F.Nat)
ty_level Ty-F.String = ap ty_of (fold-roll-Ty Kind kind_step Ty-F.String)
ty_level Ty-F.Bytes = ap ty_of (fold-roll-Ty Kind kind_step Ty-F.Bytes)
ty_level Ty-F.Mutez = ap ty_of (fold-roll-Ty Kind kind_step Ty-F.Mutez)
ty_level Ty-F.Timestamp = ap ty_of (fold-roll-Ty Kind kind_step Ty-F.Timestamp)
ty_level Ty-F.Key = ap ty_of (fold-roll-Ty Kind kind_step Ty-F.Key)
ty_level Ty-F.KeyHash = ap ty_of (fold-roll-Ty Kind kind_step Ty-F.KeyHash)
ty_level Ty-F.Signature = ap ty_of (fold-roll-Ty Kind kind_step Ty-F.Signature)
ty_level Ty-F.ChainId = ap ty_of (fold-roll-Ty Kind kind_step Ty-F.ChainId)
ty_level Ty-F.Address = ap ty_of (fold-roll-Ty Kind kind_step Ty-F.Address)
ty_level Ty-F.Operation = ap ty_of (fold-roll-Ty Kind kind_step Ty-F.Operation)
ty_level (Ty-F.Option e) = ap ty_of (fold-roll-Ty Kind kind_step (Ty-F.Option e.0)) ∙ ap (λ t. roll-Ty (Ty-F.Option t)) e.1
ty_level (Ty-F.List e) = ap ty_of (fold-roll-Ty Kind kind_step (Ty-F.List e.0)) ∙ ap (λ t. roll-Ty (Ty-F.List t)) e.1
ty_level (Ty-F.Set e) = ap ty_of (fold-roll-Ty Kind kind_step (Ty-F.Set e.0)) ∙ ap (λ t. roll-Ty (Ty-F.Set t)) e.1
ty_level (Ty-F.Contract e) = ap ty_of (fold-roll-Ty Kind kind_step (Ty-F.Contract e.0)) ∙ ap (λ t. roll-Ty (Ty-F.Contract t)) e.1
ty_level (Ty-F.Ticket e) = ap ty_of (fold-roll-Ty Kind kind_step (Ty-F.Ticket e.0)) ∙ ap (λ t. roll-Ty (Ty-F.Ticket t)) e.1
ty_level (Ty-F.Or e f) = ap ty_of (fold-roll-Ty Kind kind_step (Ty-F.Or e.0 f.0)) ∙ (λ i. roll-Ty (Ty-F.Or (e.1 i) (f.1 i)))
ty_level (Ty-F.Pair e f) = ap ty_of (fold-roll-Ty Kind kind_step (Ty-F.Pair e.0 f.0)) ∙ (λ i. roll-Ty (Ty-F.Pair (e.1 i) (f.1 i)))
ty_level (Ty-F.Map e f) = ap ty_of (fold-roll-Ty Kind kind_step (Ty-F.Map e.0 f.0)) ∙ (λ i. roll-Ty (Ty-F.Map (e.1 i) (f.1 i)))
ty_level (Ty-F.BigMap e f) = ap ty_of (fold-roll-Ty Kind kind_step (Ty-F.BigMap e.0 f.0)) ∙ (λ i. roll-Ty (Ty-F.BigMap (e.1 i) (f.1 i)))
ty_level (Ty-F.Lambda e f) = ap ty_of (fold-roll-Ty Kind kind_step (Ty-F.Lambda e.0 f.0)) ∙ (λ i. roll-Ty (Ty-F.Lambda (e.1 i) (f.1 i)))

ty_back : (t : Ty) → TyBack t
ty_back = ind-Ty TyBack (λ x y is. subst (λ z. TyBack (roll-Ty z)) is (ty_level y))

pub kind_faithful : (a b : Ty) → kind a ≡ kind b → a ≡ b
kind_faithful a b e = sym (ty_back a) ∙ ap ty_of e ∙ ty_back b
