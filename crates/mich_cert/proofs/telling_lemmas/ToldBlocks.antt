-- The entries of a block, instruction by instruction.
use Rattle.std.proofs.Common.{◌≡◌, ℕ, ◌+◌, ◌<◌, ◌≤◌, List, [], ◌∷◌, ◌++◌, drop, length, get_or, Option, Some, None, refl, sym, ap, ◌∙◌, subst}
use Rattle.rules_text.specs.nodes.Tree.{Trees, none, size}
use Rattle.rules_code.specs.instructions.Context.{Context}
use Rattle.rules_code.specs.typing.Typing.{shift}
use Rattle.rules_code.specs.typing.Nodes.{tree_type}
use Rattle.rules_code.specs.certificates.Derivation.{Entry, failing, behind, tree_entries, trees_entries}
use Rattle.mich_base.specs.declared.node.Node.{Node}
use Rattle.mich_base.specs.declared.ty.Ty.{Ty}
use Rattle.mich_base.specs.View.{tree, trees}
use Rattle.mich_data.proofs.ForCallers.{left_at, left_end}
use Rattle.mich_overload.specs.View.{kinds}
use Rattle.mich_control.specs.Answers.{typing}
use Rattle.mich_control.proofs.ForCallers.{unshift}
use Rattle.mich_cert.specs.telling.Told.{Adds}
use Rattle.mich_cert.specs.telling.Walk.{end_entries}
use Rattle.mich_cert.specs.declared.telling.told.Told.{Told}
use Rattle.mich_cert.proofs.telling_lemmas.Lines.{adds_both}

-- the entries of the rest of a block, whose next instruction is at a location
abbrev pub rest_entries : Option (List Ty) → ℕ → ℕ → Context → Trees → List Entry
rest_entries (Some ts) block next c us = trees_entries us block next c (kinds ts)
rest_entries None block next c us = failing block ∷ []

-- whatever is told from now on, with the rest the whole is told
abbrev pub Completes : Told → Told → List Entry → List Entry → Type 0
Completes old now whole rest = (new : Told) → Adds now new rest → Adds old new whole

pub completes_none : (told : Told) (es : List Entry) → Completes told told es es
completes_none told es new h = h

completes_step : (old now next : Told) (whole first rest : List Entry) → Completes old now whole (first ++ rest) → Adds now next first → Completes old next whole rest
completes_step old now next whole first rest h g new i = h new (adds_both now next new first rest g i)

behind_is : (after : Option (List Ty)) (block next : ℕ) (c : Context) (us : Trees) →
    behind block (typing after) (λ B. trees_entries us block next c B) ≡ rest_entries after block next c us
behind_is (Some ts) block next c us = refl
behind_is None block next c us = refl

rest_ends : (after : Option (List Ty)) (block next : ℕ) (c : Context) → rest_entries after block next c none ≡ end_entries block after
rest_ends (Some ts) block next c = refl
rest_ends None block next c = refl

module _ (ns : List Node) (i : ℕ) (n : Node) (h : i < length ns) (e : n ≡ get_or ns i n) (c : Context) (now : Option (List Ty)) (ts : List Ty) (some : now ≡ Some ts) where
  pub told_step : (block next new : ℕ) (whole : List Entry) (old this later : Told) (after : Option (List Ty)) → new ≡ next + size (tree n) →
      shift next (tree_type (tree n) c (kinds ts)) ≡ typing after → Completes old this whole (rest_entries now block next c (trees (drop i ns))) →
      Adds this later (tree_entries (tree n) next c (kinds ts)) → Completes old later whole (rest_entries after block new c (trees (drop (i + 1) ns)))
  told_step block next new whole old this later after f k g a =
      let us : Trees = trees (drop (i + 1) ns) in
      let first : List Entry = tree_entries (tree n) next c (kinds ts) in
      let rest : rest_entries now block next c (trees (drop i ns)) ≡ first ++ rest_entries after block new c us =
      ap (λ o. rest_entries o block next c (trees (drop i ns))) some ∙ ap (rest_entries (Some ts) block next c) (left_at ns i n h e)
      ∙ ap (λ T. first ++ behind block T (λ B. trees_entries us block (next + size (tree n)) c B)) (unshift next (tree_type (tree n) c (kinds ts)) after k)
      ∙ ap (λ R. first ++ R) (behind_is after block (next + size (tree n)) c us) ∙ ap (λ m. first ++ rest_entries after block m c us) (sym f) in
      completes_step old this later whole first (rest_entries after block new c us) (subst (Completes old this whole) rest g) a

pub told_end : (ns : List Node) (i : ℕ) → length ns ≤ i → (c : Context) (block next : ℕ) (whole : List Entry) (old this new : Told) (after : Option (List Ty)) →
    Completes old this whole (rest_entries after block next c (trees (drop i ns))) → Adds this new (end_entries block after) → Adds old new whole
told_end ns i h c block next whole old this new after g a =
    g new (subst (Adds this new) (sym (ap (rest_entries after block next c) (left_end ns i h) ∙ rest_ends after block next c)) a)
