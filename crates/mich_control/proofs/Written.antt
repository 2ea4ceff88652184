-- What is kept of applications.
use Rattle.std.proofs.Common.{◌≡◌, ℕ, ◌≤◌, true, false, List, [], ◌∷◌, length, map, take, refl, sym, ap, ◌∙◌, subst}
use Rattle.std.proofs.lemmas.List.{take_all}
use Rattle.rules_text.specs.nodes.Tree.{Tree, prim, Trees, more, trees_of}
use Rattle.rules_text.specs.nodes.Primitives.{primitive_of_name}
use Rattle.std.specs.Prelude.{if◌then◌else◌, Option, Some}
use Rattle.rules_text.specs.declared.nodes.Primitive.{Primitive}
use Rattle.rules_text.specs.declared.nodes.Primitive.TheVariants as p
use Rattle.rules_data.specs.types.Entrypoints.{field_name}
use Rattle.mich_control.specs.Kept.{is_named}
use Rattle.rules_data.specs.types.Kind.{Kind}
use Rattle.rules_code.specs.instructions.Straight.{Straight}
use Rattle.rules_code.specs.instructions.Context.{Context}
use Rattle.rules_code.specs.instructions.Context as place
use Rattle.rules_code.specs.instructions.Forms as f
use Rattle.rules_code.specs.instructions.Rules.{Ruled, ruled, faulty, rule}
use Rattle.rules_code.specs.typing.Typing.{Typing, goes, bad, shift}
use Rattle.rules_code.specs.typing.Acts.{of_rule, outside_views}
use Rattle.rules_code.specs.typing.Nodes.{tree_type}
use Rattle.mich_base.specs.declared.node.Node.{Node}
use Rattle.mich_base.specs.declared.ty.Ty.{Ty}
use Rattle.mich_base.specs.View.{tree, trees}
use Rattle.mich_overload.specs.View.{kinds}
use Rattle.mich_stackrules.specs.Answers.{rule_from}
use Rattle.mich_instr.specs.Plain.{bare, bares, kept, naming, plain, plains, plain_arguments}
use Rattle.mich_instr.specs.Code.{Code}
use Rattle.mich_instr.specs.Code as made
use Rattle.mich_instr.specs.Typed.{HasForm, IsCode, is_straight, is_transfer}
use Rattle.mich_control.specs.View.{is_view}
use Rattle.mich_control.proofs.Shifts.{bad_here, unshift}
use Rattle.mich_control.proofs.Forms.{formed}

pub bares_whole : (ns : List Node) → bares (trees ns) ≡ trees_of (map (λ n. bare (tree n)) ns)
bares_whole [] = refl
bares_whole (n ∷ ns) = ap (more (bare (tree n))) (bares_whole ns)

pub bares_done : (copies nodes items : List Node) (i : ℕ) → map tree copies ≡ map (λ n. bare (tree n)) (take i items) → length items ≤ i → items ≡ nodes →
    trees copies ≡ bares (trees nodes)
bares_done copies nodes items i e le f =
    ap trees_of e ∙ ap (λ ns. trees_of (map (λ n. bare (tree n)) ns)) (take_all i items le ∙ f) ∙ sym (bares_whole nodes)

plain_straight : (name : List ℕ) (annots : List (List ℕ)) (ts : Trees) → HasForm f.straight name →
    plain (prim name annots ts) ≡ prim name (kept (primitive_of_name name) annots) (bares ts)
plain_straight name annots ts e = ap (λ x. prim name (kept (primitive_of_name name) annots) (plain_arguments x ts (plains ts))) e

rule_fault : (at : ℕ) (r : Ruled) (l : ℕ) → rule_from at r ≡ faulty l → shift at (of_rule r) ≡ bad l
rule_fault at (ruled r A) l h = absurd cc
rule_fault at (faulty m) l h = cc

rule_goes : (at : ℕ) (r : Ruled) (s : Straight) (A : List Kind) → rule_from at r ≡ ruled s A → r ≡ ruled s A
rule_goes at (ruled r B) s A h = h
rule_goes at (faulty m) s A h = absurd cc

module _ (at : ℕ) (c : Context) (name : List ℕ) (annots : List (List ℕ)) (ts : Trees) (S : List Kind) (e : HasForm f.straight name) where
  straight_is : shift at (tree_type (prim name annots ts) c S) ≡ shift at (of_rule (rule (primitive_of_name name) annots ts S))
  straight_is = ap (shift at) (formed f.straight name annots ts c S e)

  pub straight_fault : (l : ℕ) → rule_from at (rule (primitive_of_name name) annots ts S) ≡ faulty l → shift at (tree_type (prim name annots ts) c S) ≡ bad l
  straight_fault l h = straight_is ∙ rule_fault at (rule (primitive_of_name name) annots ts S) l h

  pub straight_made : (s : Straight) (vs : List Ty) (i : Code) (w : Tree) → rule_from at (rule (primitive_of_name name) annots ts S) ≡ ruled s (kinds vs) →
      i ≡ made.straight s w → w ≡ prim name (kept (primitive_of_name name) annots) (bares ts) →
      (shift at (tree_type (prim name annots ts) c S) ≡ goes (kinds vs)) × IsCode c (prim name annots ts) i S (kinds vs)
  straight_made s vs i w h k l =
      let g : rule (primitive_of_name name) annots ts S ≡ ruled s (kinds vs) = rule_goes at (rule (primitive_of_name name) annots ts S) s (kinds vs) h in (
        straight_is ∙ ap (λ r. shift at (of_rule r)) g,
        subst (λ x. IsCode c (prim name annots ts) x S (kinds vs)) (sym (k ∙ ap (made.straight s) (l ∙ sym (plain_straight name annots ts e)))) (is_straight e g),
      )

pub kept_is : (o : Option Primitive) (annots : List (List ℕ)) → kept o annots ≡ (if is_named o then naming (field_name annots) else [])
kept_is (Some p.OpSelf) annots = refl
kept_is (Some p.OpContract) annots = refl
kept_is (Some p.OpEmit) annots = refl
kept_is _ annots = refl

-- ---- TRANSFER_TOKENS

plain_transfer : (name : List ℕ) (annots : List (List ℕ)) (ts : Trees) → HasForm f.transfer name →
    plain (prim name annots ts) ≡ prim name (kept (primitive_of_name name) annots) (bares ts)
plain_transfer name annots ts e = ap (λ x. prim name (kept (primitive_of_name name) annots) (plain_arguments x ts (plains ts))) e

outside : (c : Context) (t : Typing) → outside_views c t ≡ (if is_view c then bad 0 else t)
outside (place.main es) t = refl
outside place.view t = refl
outside place.lambda t = refl

module _ (at : ℕ) (c : Context) (name : List ℕ) (annots : List (List ℕ)) (ts : Trees) (S : List Kind) (e : HasForm f.transfer name) where
  transfer_is : shift at (tree_type (prim name annots ts) c S) ≡ shift at (if is_view c then bad 0 else of_rule (rule (primitive_of_name name) annots ts S))
  transfer_is = ap (shift at) (formed f.transfer name annots ts c S e ∙ outside c (of_rule (rule (primitive_of_name name) annots ts S)))

  pub transfer_view : is_view c ≡ true → shift at (tree_type (prim name annots ts) c S) ≡ bad at
  transfer_view h = transfer_is ∙ ap (λ b. shift at (if b then bad 0 else of_rule (rule (primitive_of_name name) annots ts S))) h ∙ bad_here at

  module _ (h : is_view c ≡ false) where
    ruled_is : shift at (tree_type (prim name annots ts) c S) ≡ shift at (of_rule (rule (primitive_of_name name) annots ts S))
    ruled_is = transfer_is ∙ ap (λ b. shift at (if b then bad 0 else of_rule (rule (primitive_of_name name) annots ts S))) h

    pub transfer_fault : (l : ℕ) → rule_from at (rule (primitive_of_name name) annots ts S) ≡ faulty l → shift at (tree_type (prim name annots ts) c S) ≡ bad l
    transfer_fault l k = ruled_is ∙ rule_fault at (rule (primitive_of_name name) annots ts S) l k

    pub transfer_made : (s : Straight) (vs : List Ty) (i : Code) (w : Tree) → rule_from at (rule (primitive_of_name name) annots ts S) ≡ ruled s (kinds vs) →
        i ≡ made.straight s w → w ≡ prim name (kept (primitive_of_name name) annots) (bares ts) →
        (shift at (tree_type (prim name annots ts) c S) ≡ goes (kinds vs)) × IsCode c (prim name annots ts) i S (kinds vs)
    transfer_made s vs i w k l m =
        let g : rule (primitive_of_name name) annots ts S ≡ ruled s (kinds vs) = rule_goes at (rule (primitive_of_name name) annots ts S) s (kinds vs) k in
        let u : shift at (tree_type (prim name annots ts) c S) ≡ goes (kinds vs) = ruled_is ∙ ap (λ r. shift at (of_rule r)) g in (
          u,
          subst (λ x. IsCode c (prim name annots ts) x S (kinds vs)) (sym (l ∙ ap (made.straight s) (m ∙ sym (plain_transfer name annots ts e))))
              (is_transfer e g (unshift at (tree_type (prim name annots ts) c S) (Some vs) u)),
        )
