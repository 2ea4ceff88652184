-- The outline of a script, and where its bodies end.
use Rattle.std.proofs.Common.{◌≡◌, ℕ, ◌+◌, ◌<◌, ◌≤◌, Some, None, List, [], ◌∷◌, refl, ap, ◌∙◌, sym, subst, arith}
use Rattle.rules_text.specs.nodes.Tree.{Tree, int, str, bytes, prim, seq, size, preorder}
use Rattle.rules_code.specs.instructions.Arguments.{Found, found, fault}
use Rattle.rules_code.specs.typing.Nodes.{outline}
use Rattle.rules_code.specs.typing.Scripts.{Outline, TypedView}
use Rattle.rules_code.specs.typing.Sections.{Body}
use Rattle.mich_outline.specs.Outlines.{outline_at}
use Rattle.mich_cert.specs.Scripts.{if_found, views_reach, views_largest, bodies_reach, bodies_largest}
use Rattle.mich_cert.proofs.SectionPlaces.{FoundHas, Stands, TypedStand, OutlineStands, outline_stands}
use Rattle.mich_check.proofs.PushTyping.{ends_within}

-- ---- what is found

pub whole_outline : (t : Tree) → outline_at 0 t ≡ outline t
whole_outline (int n) = refl
whole_outline (str s) = refl
whole_outline (bytes b) = refl
whole_outline (prim name annots ts) = refl
whole_outline (seq ts) = refl

pub found_outline : (t : Tree) (o : Outline) → outline_at 0 t ≡ found o → Some o ≡ if_found (outline t)
found_outline t o e = sym (ap if_found (sym (whole_outline t) ∙ e))

pub no_outline : (t : Tree) (l : ℕ) → outline_at 0 t ≡ fault l → None ≡ if_found (outline t)
no_outline t l e = sym (ap if_found (sym (whole_outline t) ∙ e))

pub was_found : (q : Found Outline) (o : Outline) → Some o ≡ if_found q → q ≡ found o
was_found (found p) o e = cc
was_found (fault l) o e = absurd cc

pub was_fault : (q : Found Outline) → None ≡ if_found q → (l : ℕ) × (q ≡ fault l)
was_fault (found p) e = absurd cc
was_fault (fault l) e = (l, refl)

-- ---- within the script

pub record IsWithin (n : ℕ) (o : Outline) : Type 0 where
  pub reach : bodies_reach o ≤ n
  pub largest : bodies_largest o < n

module _ (t : Tree) (positive : 0 < size t) where
  body_within : (b : Body) → Stands (preorder t) b → (b.location + size b.node ≤ size t) × (size b.node < size t)
  body_within b h =
      let e : b.location + size b.node ≤ size t = ends_within t b.location b.node h.node_there in
      let i : 1 ≤ b.location = h.inside in
      (e, omega (arith, e, i))

  views_within : (vs : List TypedView) → TypedStand (preorder t) vs → (views_reach vs ≤ size t) × (views_largest vs < size t)
  views_within [] h = (omega arith, positive)
  views_within (v ∷ vs) h =
      let b = body_within v.body h.0 in
      let r = views_within vs h.1 in
      let b0 = b.0 in
      let b1 = b.1 in
      let r0 = r.0 in
      let r1 = r.1 in
      (omega (arith, b0, r0), omega (arith, b1, r1))

  outline_in : (o : Outline) → OutlineStands (preorder t) o → IsWithin (size t) o
  outline_in o h =
      let b = body_within o.code h.0 in
      let r = views_within o.views h.1 in
      let b0 = b.0 in
      let b1 = b.1 in
      let r0 = r.0 in
      let r1 = r.1 in
      record { reach = omega (arith, b0, r0); largest = omega (arith, b1, r1) }

pub outline_within : (t : Tree) (o : Outline) → Some o ≡ if_found (outline t) → IsWithin (size t) o
outline_within (seq us) o e =
    outline_in (seq us) (omega arith) o (subst (FoundHas (OutlineStands (preorder (seq us)))) (was_found (outline (seq us)) o e) (outline_stands us))
outline_within (int n) o e = absurd cc
outline_within (str s) o e = absurd cc
outline_within (bytes b) o e = absurd cc
outline_within (prim name annots ts) o e = absurd cc
