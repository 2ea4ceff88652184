-- The first contract that what is pending names.
use Rattle.std.proofs.Common.{◌≡◌, ℕ, Bool, List, [], ◌∷◌, Option, Some, None, sym, ap, ◌∙◌}
use Rattle.rules_files.specs.commands.Packs.{first_claim}
use Rattle.mich_base.specs.declared.node.Node.{Node}
use Rattle.mich_base.specs.declared.ty.Ty.{Ty}
use Rattle.mich_forms.specs.declared.addresses.Address.{Address}
use Rattle.mich_data.specs.View.{all_pending}
use Rattle.mich_data.specs.declared.pending.Pending.{Pending as Item}
use Rattle.mich_data.specs.declared.pending.Pending.TheVariants as item

pub claim_here : (items rest : List Item) (l : ℕ) (a : Address) (ty : Ty) (whole : Option ℕ) → items ≡ item.Claim l a ty ∷ rest
    → first_claim (all_pending items) ≡ whole → Some l ≡ whole
claim_here items rest l a ty whole first h = sym (ap (λ (x : List Item). first_claim (all_pending x)) first) ∙ h

pub body_here : (items rest : List Item) (l : ℕ) (a r : Ty) (recursive : Bool) (n : Node) (whole : Option ℕ) → items ≡ item.Body l a r recursive n ∷ rest
    → first_claim (all_pending items) ≡ whole → first_claim (all_pending rest) ≡ whole
body_here items rest l a r recursive n whole first h = sym (ap (λ (x : List Item). first_claim (all_pending x)) first) ∙ h

pub none_left : (items : List Item) (whole : Option ℕ) → items ≡ [] → first_claim (all_pending items) ≡ whole → None ≡ whole
none_left items whole ended h = sym (ap (λ (x : List Item). first_claim (all_pending x)) ended) ∙ h
