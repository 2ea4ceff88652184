-- The blocks of scripts where they stand.
use Rattle.std.proofs.Common.{◌≡◌, ℕ, suc, ◌+◌, ◌-◌, ◌≤◌, List, [], ◌∷◌, ◌++◌, Some, refl, sym, ap, ◌∙◌, subst, arith}
use Rattle.std.specs.Prelude.{slice_get, map}
use Rattle.std.proofs.lemmas.List.{append-nil}
use Rattle.rules_text.specs.nodes.Tree.{Tree, int, str, bytes, prim, seq, Trees, none, more, size, preorder, preorders}
use Rattle.rules_data.specs.types.Kind.{Kind, pair}
use Rattle.rules_code.specs.instructions.Arguments.{Found, found, fault, and_then}
use Rattle.rules_code.specs.instructions.Context.{Context, view}
use Rattle.rules_code.specs.typing.Nodes.{outline, script}
use Rattle.rules_code.specs.typing.Scripts.{Script, Outline, TypedView, with_bodies}
use Rattle.rules_code.specs.typing.Sections.{Body}
use Rattle.rules_code.specs.certificates.Blocks.{on_found, outline_blocks, script_blocks, view_blocks}
use Rattle.rules_code.specs.certificates.Derivation.{Teller, block_entries, derivation, of_blocks, tellers, told_by}
use Rattle.mich_base.specs.View.{tree}
use Rattle.mich_outline.specs.View.{outline_of, view_of}
use Rattle.mich_outline.specs.declared.outline.Outline.{Outline as CodeOutline}
use Rattle.mich_outline.specs.declared.outline.View.{View as Item}
use Rattle.mich_cert.specs.telling.Walk.{code_entries, views_entries, outline_entries, found_entries, script_entries, views_reach}
use Rattle.mich_cert.proofs.SectionPlaces.{FoundHas, Stands, TypedStand, OutlineStands, outline_stands}
use Rattle.mich_check.proofs.PushTyping.{ends_within}
use Rattle.mich_cert.proofs.Standing.{body_told}
use Rattle.mich_cert.proofs.telling_lemmas.ToldScripts.{script_by}

module _ (T : List Teller) (from base : ℕ) where
  -- the entries of a body are those of its node
  abbrev IsThere : Body → Type 0
  IsThere b = (c : Context) (S : List Kind) → told_by (slice_get T (from + b.location - 1)) c S ≡ block_entries b.node (base + b.location) c S

  abbrev AreThere : List TypedView → Type 0
  AreThere [] = Unit {0}
  AreThere (v ∷ vs) = IsThere v.body × AreThere vs

  views_there : (s : Kind) (vs : List TypedView) → AreThere vs → of_blocks T (view_blocks from s vs) ≡ views_entries base s vs
  views_there s [] h = refl
  views_there s (v ∷ vs) h =
      ap (λ X. X ++ of_blocks T (view_blocks from s vs)) (h.0 view (pair v.input s ∷ []))
      ∙ ap (λ X. block_entries v.body.node (base + v.body.location) view (pair v.input s ∷ []) ++ X) (views_there s vs h.1)

  outline_there : (o : Outline) → IsThere o.code → AreThere o.views → of_blocks T (outline_blocks from o) ≡ outline_entries base o
  outline_there o h g =
      ap (λ X. X ++ of_blocks T (view_blocks from o.storage o.views)) (h _ _) ∙ ap (λ X. code_entries base o ++ X) (views_there o.storage o.views g)

-- a body of a script
module _ (us : Trees) (at : ℕ) where
  in_create : (b : Body) → Stands (preorder (seq us)) b → IsThere (tellers (more (seq us) none) (at + 1)) 1 (at + 1) b
  in_create b h c S =
      let e : at + (1 + b.location) ≡ at + 1 + b.location = omega arith in
      body_told (more (seq us) none) at (1 + b.location) b.location b.node c S refl (ap (λ xs. slice_get xs b.location) (append-nil (preorder (seq us))) ∙ h.node_there)
      ∙ ap (λ l. block_entries b.node l c S) e

  all_in_create : (vs : List TypedView) → TypedStand (preorder (seq us)) vs → AreThere (tellers (more (seq us) none) (at + 1)) 1 (at + 1) vs
  all_in_create [] h = tt
  all_in_create (v ∷ vs) h = (in_create v.body h.0, all_in_create vs h.1)

module _ (us : Trees) where
  in_whole : (b : Body) → Stands (preorder (seq us)) b → IsThere (tellers us 1) 0 0 b
  in_whole b h c S =
      let i : ℕ = b.location - 1 in
      let l : b.location ≡ suc i = (let f = h.inside in omega (arith, f)) in
      let k : b.location ≡ 1 + i = omega (arith, l) in
      let g : 0 + b.location - 1 ≡ b.location - 1 = omega arith in
      let there : slice_get (preorders us) i ≡ Some b.node = ap (slice_get (preorder (seq us))) (sym l) ∙ h.node_there in
      ap (λ j. told_by (slice_get (tellers us 1) j) c S) g ∙ body_told us 0 b.location i b.node c S k there

  all_in_whole : (vs : List TypedView) → TypedStand (preorder (seq us)) vs → AreThere (tellers us 1) 0 0 vs
  all_in_whole [] h = tt
  all_in_whole (v ∷ vs) h = (in_whole v.body h.0, all_in_whole vs h.1)

stands : (us : Trees) (o : Outline) → outline (seq us) ≡ found o → OutlineStands (preorder (seq us)) o
stands us o e = subst (FoundHas (OutlineStands (preorder (seq us)))) e (outline_stands us)

-- the blocks of the script of CREATE_CONTRACT
create_outline : (t : Tree) (at : ℕ) (o : Outline) → outline t ≡ found o → of_blocks (tellers (more t none) (at + 1)) (script_blocks 1 t) ≡ script_entries (at + 1) t
create_outline (seq us) at o e =
    let s = stands us o e in
    ap (λ q. of_blocks (tellers (more (seq us) none) (at + 1)) (on_found q (outline_blocks 1))) e
    ∙ outline_there (tellers (more (seq us) none) (at + 1)) 1 (at + 1) o (in_create us at o.code s.0) (all_in_create us at o.views s.1)
    ∙ sym (ap (found_entries (at + 1)) e)
create_outline (int n) at o e = absurd cc
create_outline (str s) at o e = absurd cc
create_outline (bytes b) at o e = absurd cc
create_outline (prim name annots ts) at o e = absurd cc

whole_outline : (t : Tree) (o : Outline) → outline t ≡ found o → derivation t ≡ script_entries 0 t
whole_outline (seq us) o e =
    let s = stands us o e in
    ap (λ q. of_blocks (tellers us 1) (on_found q (outline_blocks 0))) e
    ∙ outline_there (tellers us 1) 0 0 o (in_whole us o.code s.0) (all_in_whole us o.views s.1)
    ∙ sym (ap (found_entries 0) e)
whole_outline (int n) o e = absurd cc
whole_outline (str s) o e = absurd cc
whole_outline (bytes b) o e = absurd cc
whole_outline (prim name annots ts) o e = absurd cc

-- what is accepted has an outline
outlined : (q : Found Outline) (s : Script) → and_then q with_bodies ≡ found s → (o : Outline) × (q ≡ found o)
outlined (found o) s e = (o, refl)
outlined (fault l) s e = absurd cc

accepted : (t : Tree) (s : Script) → script t ≡ found s → (o : Outline) × (outline t ≡ found o)
accepted t s e = outlined (outline t) s (sym (script_by t) ∙ e)

pub create_entries : (t : Tree) (at : ℕ) (s : Script) → script t ≡ found s → of_blocks (tellers (more t none) (at + 1)) (script_blocks 1 t) ≡ script_entries (at + 1) t
create_entries t at s e = let o = accepted t s e in create_outline t at o.0 o.1

pub derivation_is : (t : Tree) (s : Script) → script t ≡ found s → derivation t ≡ script_entries 0 t
derivation_is t s e = let o = accepted t s e in whole_outline t o.0 o.1

-- ---- how far they reach

within : (us : Trees) (b : Body) → Stands (preorder (seq us)) b → b.location + size b.node ≤ size (seq us)
within us b h = ends_within (seq us) b.location b.node h.node_there

all_within : (us : Trees) (vs : List Item) → TypedStand (preorder (seq us)) (map view_of vs) → views_reach vs ≤ size (seq us)
all_within us [] h = omega arith
all_within us (v ∷ vs) h =
    let f = within us (view_of v).body h.0 in
    let g = all_within us vs h.1 in
    omega (arith, f, g)

-- the bodies of a script end within it
pub bodies_within : (t : Tree) (o : CodeOutline) → outline t ≡ found (outline_of o) → (o.code.at + size (tree o.code.node.now) ≤ size t) × (views_reach o.views ≤ size t)
bodies_within (seq us) o e = let s = stands us (outline_of o) e in (within us (outline_of o).code s.0, all_within us o.views s.1)
bodies_within (int n) o e = absurd cc
bodies_within (str s) o e = absurd cc
bodies_within (bytes b) o e = absurd cc
bodies_within (prim name annots ts) o e = absurd cc
