-- Nodes as instructions.
use Rattle.std.proofs.Common.{◌≡◌, ℕ, ◌+◌, List, [], ◌∷◌, Option, refl, sym, ap, ◌∙◌, subst}
use Rattle.std.specs.Prelude.{Result, Ok, Err}
use Rattle.rules_text.specs.nodes.Primitives.{primitive_of_name}
use Rattle.rules_text.specs.nodes.Tree.{Tree, int, str, bytes, prim, seq, Trees}
use Rattle.rules_data.specs.types.Kind.{Kind}
use Rattle.rules_code.specs.instructions.Context.{Context}
use Rattle.rules_code.specs.instructions.Forms.{Form, form_of}
use Rattle.rules_code.specs.instructions.Forms as f
use Rattle.rules_code.specs.typing.Nodes.{tree_type, trees_type, body}
use Rattle.rules_code.specs.typing.Typing.{Typing, shift}
use Rattle.rules_code.specs.certificates.Blocks.{blocks}
use Rattle.rules_code.specs.certificates.Derivation.{Entry, before, block_entries, of_blocks, tellers, tree_entries, trees_entries}
use Rattle.mich_base.specs.declared.ty.Ty.{Ty}
use Rattle.mich_control.specs.Answers.{IsAfter}
use Rattle.mich_control.specs.View.{bodiless_form}
use Rattle.mich_typed.specs.declared.error.CheckError.{CheckError}
use Rattle.mich_control.specs.declared.form.Bodiless.{Bodiless}
use Rattle.mich_control.specs.declared.form.Bodiless.TheVariants as bodiless
use Rattle.mich_control.proofs.Shifts.{fault_is, shift_shift}
use Rattle.mich_cert.specs.telling.Told.{Adds}
use Rattle.mich_cert.specs.telling.Walk.{Follows, FollowsApp, app_entries, within}
use Rattle.mich_cert.specs.declared.telling.told.Told.{Told}
use Rattle.mich_cert.proofs.telling_lemmas.Lines.{adds_none, adds_both}

follows_as : (T U : Typing) (es fs : List Entry) (old new : Told) (r : Result (Option (List Ty)) CheckError) → T ≡ U → es ≡ fs → Follows U fs old new r → Follows T es old new r
follows_as T U es fs old new (Ok after) e d h = (e ∙ h.0, subst (Adds old new) (sym d) h.1)
follows_as T U es fs old new (Err z) e d h = fault_is T U z e h

-- ---- an instruction

node_entries : (t : Tree) (at : ℕ) (c : Context) (A : List Kind) → tree_entries t at c A ≡ before at A ∷ within t at c A
node_entries (prim name annots ts) at c A = refl
node_entries (seq ts) at c A = refl
node_entries (int n) at c A = refl
node_entries (str s) at c A = refl
node_entries (bytes b) at c A = refl

follows_first : (T : Typing) (e : Entry) (es : List Entry) (old now new : Told) (r : Result (Option (List Ty)) CheckError) → Adds old now (e ∷ []) → Follows T es now new r →
    Follows T (e ∷ es) old new r
follows_first T e es old now new (Ok after) a h = (h.0, adds_both old now new (e ∷ []) es a h.1)
follows_first T e es old now new (Err z) a h = h

pub node_told : (T : Typing) (t : Tree) (at : ℕ) (c : Context) (A : List Kind) (old now new : Told) (r : Result (Option (List Ty)) CheckError) → Adds old now (before at A ∷ []) →
    Follows T (within t at c A) now new r → Follows T (tree_entries t at c A) old new r
node_told T t at c A old now new r a h =
    follows_as T T (tree_entries t at c A) (before at A ∷ within t at c A) old new r refl (node_entries t at c A) (follows_first T (before at A) (within t at c A) old now new r a h)

-- ---- sequences

module _ (t : Tree) (ts : Trees) (at : ℕ) (c : Context) (A : List Kind) (old new : Told) (r : Result (Option (List Ty)) CheckError) (e : t ≡ seq ts)
    (h : Follows (shift (at + 1) (trees_type ts c A)) (trees_entries ts at (at + 1) c A) old new r) where
  pub seq_told : Follows (shift at (tree_type t c A)) (within t at c A) old new r
  seq_told =
      follows_as (shift at (tree_type t c A)) (shift (at + 1) (trees_type ts c A)) (within t at c A) (trees_entries ts at (at + 1) c A) old new r
      (ap (λ u. shift at (tree_type u c A)) e ∙ shift_shift at 1 (trees_type ts c A)) (ap (λ u. within u at c A) e) h

  pub body_seq : Follows (body t at c A) (block_entries t at c A) old new r
  body_seq =
      follows_as (body t at c A) (shift (at + 1) (trees_type ts c A)) (block_entries t at c A) (trees_entries ts at (at + 1) c A) old new r
      (ap (λ u. body u at c A) e) (ap (λ u. block_entries u at c A) e) h

-- ---- instructions without bodies

module _ (at : ℕ) (c : Context) (name : List ℕ) (annots : List (List ℕ)) (ts : Trees) (S : List Kind) (told : Told) (r : Result (Option (List Ty)) CheckError)
    (h : IsAfter (shift at (tree_type (prim name annots ts) c S)) r) where
  bare : (form : Form) → form ≡ form_of (primitive_of_name name) → blocks form ts c S ≡ [] → FollowsApp at c name annots ts S told told r
  bare form e b = by r h
    where
      none : app_entries name ts at c S ≡ []
      none = ap (λ g. of_blocks (tellers ts (at + 1)) (blocks g ts c S)) (sym e) ∙ ap (of_blocks (tellers ts (at + 1))) b

      by : (r : Result (Option (List Ty)) CheckError) → IsAfter (shift at (tree_type (prim name annots ts) c S)) r → FollowsApp at c name annots ts S told told r
      by (Ok after) h = (h, subst (Adds told told) (sym none) (adds_none told))
      by (Err z) h = h

  pub straight_told : f.straight ≡ form_of (primitive_of_name name) → FollowsApp at c name annots ts S told told r
  straight_told e = bare f.straight e refl

  pub transfer_told : f.transfer ≡ form_of (primitive_of_name name) → FollowsApp at c name annots ts S told told r
  transfer_told e = bare f.transfer e refl

  pub self_told : f.self ≡ form_of (primitive_of_name name) → FollowsApp at c name annots ts S told told r
  self_told e = bare f.self e refl

  pub bodiless_told : (b : Bodiless) → bodiless_form b ≡ form_of (primitive_of_name name) → FollowsApp at c name annots ts S told told r
  bodiless_told b e = bare (bodiless_form b) e (no_blocks b)
    where
      no_blocks : (b : Bodiless) → blocks (bodiless_form b) ts c S ≡ []
      no_blocks bodiless.Exec = refl
      no_blocks bodiless.Apply = refl
      no_blocks bodiless.Failwith = refl
      no_blocks bodiless.Never = refl
