-- Literals with the bodies of their lambdas.
use Rattle.std.proofs.Common.{◌≡◌, ℕ, ◌+◌, Bool, List, [], ◌∷◌, ◌++◌, Option, Some, None, refl, sym, ap, ◌∙◌, subst, arith, append_assoc}
use Rattle.std.specs.Prelude.{Err}
use Rattle.std.proofs.lemmas.List.{map-append, append-nil}
use Rattle.rules_text.specs.nodes.Tree.{Tree}
use Rattle.rules_data.specs.types.Kind.{Kind}
use Rattle.rules_data.specs.values.Val.{Val}
use Rattle.rules_data.specs.values.Literals.{Literal, Pending, good, bad, read, claims}
use Rattle.rules_code.specs.instructions.Arguments.{found, fault}
use Rattle.rules_code.specs.typing.Literals.{fault_of_bodies, checked, of_reading}
use Rattle.mich_base.specs.declared.node.Node.{Node}
use Rattle.mich_base.specs.declared.ty.Ty.{Ty}
use Rattle.mich_data.specs.View.{pending, all_pending}
use Rattle.mich_data.specs.declared.pending.Pending.{Pending as Item}
use Rattle.mich_data.specs.declared.pending.Pending.TheVariants as item
use Rattle.mich_forms.specs.declared.addresses.Address.{Address}
use Rattle.mich_typed.specs.declared.error.CheckError.{CheckError}
use Rattle.mich_typed.specs.declared.error.CheckError.TheVariants as error
use Rattle.mich_check.specs.Pending.{HasValue, moved, IsFaulty, IsChecked}
use Rattle.mich_check.proofs.PushTyping.{no_move}

tried : (x : Val) (o : Option ℕ) (ps : List Pending) (e : CheckError) → IsFaulty {T = Unit {0}} (moved 0 o) (Err e) → IsChecked (checked x ps o) (Err e)
tried x (Some m) ps (error.IllTyped l) h =
    let e : 0 + m ≡ l = cc in
    let k : m ≡ l = omega (arith, e) in
    ap fault k
tried x None ps (error.IllTyped l) h = absurd cc
tried x o ps error.Memory h = tt

pub literal_is : (a : Kind) (at : ℕ) (t : Tree) (x : Val) (ps qs : List Pending) → read a at t ≡ good x ps → moved 0 (fault_of_bodies ps) ≡ None → qs ≡ claims ps →
    of_reading (read a at t) ≡ found record { value = x; claims = qs }
literal_is a at t x ps qs r h c =
    ap of_reading r ∙ ap (checked x ps) (no_move 0 (fault_of_bodies ps) h) ∙ ap (λ cs. found record { value = x; claims = cs }) (sym c)

pub value_is : (e : Literal Val) (x : Val) (ps : List Pending) → e ≡ good x ps → HasValue x e
value_is e x ps h = subst (HasValue x) (sym h) refl

pub not_bad : (e : Literal Val) (x : Val) (l : ℕ) → HasValue x e → e ≡ bad l → ⊥
not_bad e x l h g = subst (HasValue x) g h

pub same_value : (e : Literal Val) (x y : Val) (ps : List Pending) → HasValue x e → e ≡ good y ps → y ≡ x
same_value e x y ps h g = sym (subst (HasValue x) g h)

pub again_is : (a : Kind) (at : ℕ) (t : Tree) (x y : Val) (ps qs : List Pending) → read a at t ≡ good x ps → y ≡ x → moved 0 (fault_of_bodies ps) ≡ None →
    qs ≡ claims ps → of_reading (read a at t) ≡ found record { value = y; claims = qs }
again_is a at t x y ps qs r same h c = literal_is a at t x ps qs r h c ∙ ap (λ (z : Val). found record { value = z; claims = qs }) (sym same)

-- ---- the claims

pub claim_step : (ks us items rest : List Item) (l : ℕ) (a : Address) (ty : Ty) (whole : List Pending) → us ≡ ks ++ item.Claim l a ty ∷ [] → items ≡ item.Claim l a ty ∷ rest →
    all_pending ks ++ claims (all_pending items) ≡ whole → all_pending us ++ claims (all_pending rest) ≡ whole
claim_step ks us items rest l a ty whole e g h =
    ap (λ x. all_pending x ++ claims (all_pending rest)) e
    ∙ ap (λ xs. xs ++ claims (all_pending rest)) (map-append pending ks (item.Claim l a ty ∷ []))
    ∙ append_assoc (all_pending ks) (pending (item.Claim l a ty) ∷ []) (claims (all_pending rest))
    ∙ sym (ap (λ x. all_pending ks ++ claims (all_pending x)) g) ∙ h

pub body_step : (ks items rest : List Item) (l : ℕ) (a r : Ty) (recursive : Bool) (n : Node) (whole : List Pending) → items ≡ item.Body l a r recursive n ∷ rest →
    all_pending ks ++ claims (all_pending items) ≡ whole → all_pending ks ++ claims (all_pending rest) ≡ whole
body_step ks items rest l a r recursive n whole g h = sym (ap (λ x. all_pending ks ++ claims (all_pending x)) g) ∙ h

pub claims_end : (ks items : List Item) (whole : List Pending) → items ≡ [] → all_pending ks ++ claims (all_pending items) ≡ whole → all_pending ks ≡ whole
claims_end ks items whole g h =
    sym (append-nil (all_pending ks)) ∙ sym (ap (λ x. all_pending ks ++ claims (all_pending x)) g) ∙ h
