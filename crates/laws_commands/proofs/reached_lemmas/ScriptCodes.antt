-- Each name in a script that is typed is a primitive's.
use Rattle.std.proofs.Common.{◌≡◌, ℕ, ◌+◌, Bool, true, List, [], ◌∷◌, refl, sym, subst}
use Rattle.rules_text.specs.nodes.Tree.{Tree, int, str, bytes, prim, seq, Trees, none, more, size}
use Rattle.rules_data.specs.types.Kind.{Kind}
use Rattle.rules_code.specs.instructions.Context.{Context}
use Rattle.rules_code.specs.instructions.Context as place
use Rattle.rules_code.specs.instructions.Control.{call_kinds}
use Rattle.rules_code.specs.instructions.Arguments.{found}
use Rattle.rules_code.specs.typing.Typing.{Typing, goes, fails, bad, shift, in_block}
use Rattle.rules_code.specs.typing.Scripts.{Script}
use Rattle.rules_code.specs.typing.Nodes.{tree_type, trees_type, bodies, body, sections, inner_bodies, script}
use Rattle.rules_files.specs.snapshots.Rules.{leads}
use Rattle.laws_typing.specs.packing.Laws.{IsTyped}
use Rattle.laws_typing.specs.packing.Names.{HasCodes, HaveCodes}
use Rattle.laws_typing.proofs.packing_lemmas.Parts.{unshifted}
use Rattle.laws_typing.proofs.packing_lemmas.Scripts.{IsHonest, AreHonest, HonestArguments, HonestSection, AllSections, sections_codes}
use Rattle.laws_typing.proofs.packing_lemmas.TypedCode.{typed_code_has_codes}

block_codes : (ts : Trees) (c : Context) (A : List Kind) → IsTyped (trees_type ts c A) → HaveCodes ts
block_codes none c A h = tt
block_codes (more t ts) c A h = by (tree_type t c A) refl ts h (λ B g. block_codes ts c B g) (λ g. typed_code_has_codes t c A g)
  where
    by : (T : Typing) → tree_type t c A ≡ T → (ts : Trees) → IsTyped (in_block T ts (λ B. shift (size t) (trees_type ts c B))) →
        ((B : List Kind) → IsTyped (trees_type ts c B) → HaveCodes ts) → (IsTyped (tree_type t c A) → HasCodes t) → HaveCodes (more t ts)
    by (goes B) e ts h rest first = (first (subst IsTyped (sym e) tt), rest B (unshifted (size t) (trees_type ts c B) h))
    by fails e none h rest first = (first (subst IsTyped (sym e) tt), tt)
    by fails e (more u us) h rest first = absurd h
    by (bad l) e ts h rest first = absurd h

body_honest : (t : Tree) (at : ℕ) → IsHonest t (body t at)
body_honest (seq ts) at c A h = block_codes ts c A (unshifted (at + 1) (trees_type ts c A) h)
body_honest (int m) at c A h = absurd h
body_honest (str s) at c A h = absurd h
body_honest (bytes b) at c A h = absurd h
body_honest (prim name annots ts) at c A h = absurd h

bodies_honest : (ts : Trees) (at : ℕ) → AreHonest ts (bodies ts at)
bodies_honest none at = refl
bodies_honest (more t ts) at = (body_honest t at, bodies_honest ts (at + size t))

inner_honest : (t : Tree) (at : ℕ) → HonestArguments t (inner_bodies t at)
inner_honest (prim name annots ts) at = bodies_honest ts (at + 1)
inner_honest (int m) at = tt
inner_honest (str s) at = tt
inner_honest (bytes b) at = tt
inner_honest (seq ts) at = tt

sections_honest : (ts : Trees) (at : ℕ) → AllSections HonestSection (sections ts at)
sections_honest none at = tt
sections_honest (more t ts) at = (inner_honest t at, sections_honest ts (at + size t))

all_codes : (ts : Trees) (at : ℕ) → AllSections (λ s. HasCodes s.node) (sections ts at) → HaveCodes ts
all_codes none at h = tt
all_codes (more t ts) at h = (h.0, all_codes ts (at + size t) h.1)

pub script_codes : (t : Tree) (x : Script) → script t ≡ found x → HasCodes t
script_codes (seq ts) x e = all_codes ts 1 (sections_codes 0 (sections ts 1) x (sections_honest ts 1) e)
script_codes (int m) x e = absurd cc
script_codes (str s) x e = absurd cc
script_codes (bytes b) x e = absurd cc
script_codes (prim name annots ts) x e = absurd cc

-- and so is each in the body of a lambda
typed_leads : (t : Typing) (C : List Kind) → leads t C ≡ true → IsTyped t
typed_leads (goes B) C h = tt
typed_leads fails C h = tt
typed_leads (bad l) C h = absurd cc

pub lambda_codes : (a b : Kind) (t : Tree) (recursive : Bool) →
    leads (tree_type t place.lambda (call_kinds a b recursive)) (b ∷ []) ≡ true → HasCodes t
lambda_codes a b t recursive h =
    typed_code_has_codes t place.lambda (call_kinds a b recursive) (typed_leads (tree_type t place.lambda (call_kinds a b recursive)) (b ∷ []) h)
