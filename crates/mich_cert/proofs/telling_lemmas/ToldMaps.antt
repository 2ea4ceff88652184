-- MAP.
use Rattle.std.proofs.Common.{◌≡◌, ℕ, ◌+◌, List, [], ◌∷◌, Option, Some, None, refl, sym, ap, ◌∙◌, subst}
use Rattle.std.specs.Prelude.{Result, Ok, Err}
use Rattle.std.proofs.lemmas.List.{append-nil}
use Rattle.rules_text.specs.nodes.Tree.{Tree, prim, Trees, none, more}
use Rattle.rules_text.specs.nodes.Primitives.{primitive_of_name}
use Rattle.rules_text.specs.declared.nodes.Primitive.{Primitive}
use Rattle.rules_data.specs.types.Kind.{Kind, option, pair, list, map}
use Rattle.rules_code.specs.instructions.Context.{Context}
use Rattle.rules_code.specs.instructions.Forms as f
use Rattle.rules_code.specs.typing.Acts.{Meanings, act_type, one_body}
use Rattle.rules_code.specs.typing.Typing.{Typing, Typer, bad, shift, mapped}
use Rattle.rules_code.specs.typing.Nodes.{bodies, body, tree_type}
use Rattle.rules_code.specs.certificates.Blocks.{Block, block, blocks}
use Rattle.rules_code.specs.certificates.Derivation.{block_entries, of_blocks, tellers}
use Rattle.mich_base.specs.declared.node.Node.{Node}
use Rattle.mich_base.specs.declared.ty.Ty.{Ty}
use Rattle.mich_base.specs.View.{tree, trees}
use Rattle.mich_instr.specs.Typed.{HasForm}
use Rattle.mich_control.specs.Answers.{typing}
use Rattle.mich_control.specs.Maps.{Mapping, mapping, mapped_over, made_to, IsMapped}
use Rattle.mich_control.specs.Maps as m
use Rattle.mich_typed.specs.declared.error.CheckError.{CheckError}
use Rattle.mich_typed.specs.declared.made.Body.{Body}
use Rattle.mich_typed.specs.declared.made.Made.{Made}
use Rattle.mich_control.proofs.Forms.{meanings, formed}
use Rattle.mich_control.proofs.Shifts.{unshift, body_at, fault_is}
use Rattle.mich_cert.specs.telling.Told.{Adds}
use Rattle.mich_cert.specs.telling.Walk.{FollowsApp, app_entries, after_of}
use Rattle.mich_cert.specs.declared.telling.told.Told.{Told}

abbrev one : Context → Mapping → List Block
one c w = block 1 c w.begins ∷ []

same : (c : Context) (v w : Mapping) → Some v ≡ Some w → one c w ≡ one c v
same c v w e = let f : v ≡ w = cc in sym (ap (one c) f)

map_blocks : (x : Tree) (c : Context) (S : List Kind) (w : Mapping) → Some w ≡ mapped_over S → blocks f.map (more x none) c S ≡ one c w
map_blocks x c (list a ∷ A) w e = same c w (mapping (a ∷ A) m.to_list A) e
map_blocks x c (option a ∷ A) w e = same c w (mapping (a ∷ A) m.to_option A) e
map_blocks x c (map k v ∷ A) w e = same c w (mapping (pair k v ∷ A) (m.to_map k) A) e
map_blocks x c _ w e = absurd cc

abbrev through : Option Mapping → Context → List Typer → Typing
through None c bs = one_body bs (λ b. bad 0)
through (Some w) c bs = one_body bs (λ b. mapped (b c w.begins) (made_to w.target) w.rest)

map_type : (name : Option Primitive) (annots : List (List ℕ)) (ts : Trees) (ms : Meanings) (c : Context) (S : List Kind) →
    act_type f.map name annots ts ms c S ≡ through (mapped_over S) c ms.bodies
map_type name annots ts ms c (list a ∷ A) = refl
map_type name annots ts ms c (option a ∷ A) = refl
map_type name annots ts ms c (map k v ∷ A) = refl
map_type name annots ts ms c _ = refl

module _ (at : ℕ) (c : Context) (name : List ℕ) (annots : List (List ℕ)) (ns : List Node) (S : List Kind) (form : HasForm f.map name)
    (x : Node) (w : Mapping) (only : ns ≡ x ∷ []) (e : Some w ≡ mapped_over S) where
  gone : shift at (tree_type (prim name annots (trees ns)) c S) ≡ shift at (mapped (body (tree x) 1 c w.begins) (made_to w.target) w.rest)
  gone =
      ap (shift at) (formed f.map name annots (trees ns) c S form ∙ map_type (primitive_of_name name) annots (trees ns) (meanings (trees ns)) c S)
      ∙ ap (λ o. shift at (through o c (bodies (trees ns) 1))) (sym e) ∙ ap (λ xs. shift at (through (Some w) c (bodies (trees xs) 1))) only

  entries_are : app_entries name (trees ns) at c S ≡ block_entries (tree x) (at + 1) c w.begins
  entries_are =
      ap (λ g. of_blocks (tellers (trees ns) (at + 1)) (blocks g (trees ns) c S)) form
      ∙ ap (λ ms. of_blocks (tellers (trees ms) (at + 1)) (blocks f.map (trees ms) c S)) only
      ∙ ap (of_blocks (tellers (more (tree x) none) (at + 1))) (map_blocks (tree x) c S w e) ∙ append-nil (block_entries (tree x) (at + 1) c w.begins)

  module _ (o : Option (List Ty)) (h : body (tree x) (at + 1) c w.begins ≡ typing o) (old new : Told) (told : Adds old new (block_entries (tree x) (at + 1) c w.begins))
      (b : Body) (kept : b.after ≡ o) where
    after_is : shift at (tree_type (prim name annots (trees ns)) c S) ≡ shift at (mapped (typing b.after) (made_to w.target) w.rest)
    after_is =
        gone ∙ ap (λ T. shift at (mapped T (made_to w.target) w.rest)) (unshift at (body (tree x) 1 c w.begins) o (body_at at 1 (tree x) c w.begins ∙ h))
        ∙ ap (λ o. shift at (mapped (typing o) (made_to w.target) w.rest)) (sym kept)

    pub map_told : (r : Result Made CheckError) → IsMapped at w.target w.rest b r → FollowsApp at c name annots (trees ns) S old new (after_of r)
    map_told (Ok n) d = (after_is ∙ d.0, subst (Adds old new) (sym entries_are) told)
    map_told (Err z) d = fault_is _ _ z after_is d
