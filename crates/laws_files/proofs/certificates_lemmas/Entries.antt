-- Nodes of certificates tell their entries.
use Rattle.std.proofs.Common.{◌≡◌, ℕ, ℤ, pos, List, [], ◌∷◌, refl, sym, ap, ◌∙◌}
use Rattle.rules_text.specs.nodes.Tree.{Tree, int, prim, seq, Trees, none, more}
use Rattle.rules_text.specs.text.Printed.{printed}
use Rattle.rules_data.specs.types.Kind.{Kind}
use Rattle.rules_data.specs.types.Printing.{node_of}
use Rattle.rules_code.specs.instructions.Arguments.{found}
use Rattle.rules_code.specs.typing.Scripts.{Script}
use Rattle.rules_code.specs.typing.Nodes.{script}
use Rattle.rules_code.specs.certificates.Derivation.{Entry, before, end, failing, derivation}
use Rattle.rules_code.specs.certificates.Certificates.{stack_nodes, entry_node, entry_nodes, certified_node, IsValid}
use Rattle.laws_world.proofs.accounts.ForCallers.{texts_tell_types}

-- ---- the parts of nodes

abbrev first : Trees → Tree → Tree
first none t = t
first (more u us) t = u

abbrev rest : Trees → Trees
rest none = none
rest (more u us) = us

abbrev arguments : Tree → Trees
arguments (prim name annots ts) = ts
arguments (seq ts) = ts
arguments t = none

abbrev number : Tree → ℤ
number (int n) = n
number t = pos 0

abbrev natural : ℤ → ℕ
natural (pos n) = n
natural (ℤ.negsuc n) = 0

-- ---- stacks and entries

kinds_told : (a b : Kind) → node_of a ≡ node_of b → a ≡ b
kinds_told a b e = texts_tell_types a b (ap printed e)

stacks_told : (A B : List Kind) → stack_nodes A ≡ stack_nodes B → A ≡ B
stacks_told [] [] e = refl
stacks_told [] (b ∷ B) e = absurd cc
stacks_told (a ∷ A) [] e = absurd cc
stacks_told (a ∷ A) (b ∷ B) e =
    let head : a ≡ b = kinds_told a b (ap (λ ts. first ts (node_of a)) e) in
    let tail : A ≡ B = stacks_told A B (ap rest e) in
    λ i. head i ∷ tail i

locations_told : (l m : ℕ) (ts us : Trees) → more (int (pos l)) ts ≡ more (int (pos m)) us → l ≡ m
locations_told l m ts us e = ap (λ vs. natural (number (first vs (int (pos 0))))) e

abbrev stack_in : Trees → Trees
stack_in ts = arguments (first (rest ts) (seq none))

entries_told : (e f : Entry) → entry_node e ≡ entry_node f → e ≡ f
entries_told (before l A) (before m B) h =
    let at : l ≡ m = locations_told l m _ _ (ap arguments h) in
    let stack : A ≡ B = stacks_told A B (ap (λ t. stack_in (arguments t)) h) in
    λ i. before (at i) (stack i)
entries_told (end l A) (end m B) h =
    let at : l ≡ m = locations_told l m _ _ (ap arguments h) in
    let stack : A ≡ B = stacks_told A B (ap (λ t. stack_in (arguments t)) h) in
    λ i. end (at i) (stack i)
entries_told (failing l) (failing m) h = ap failing (locations_told l m _ _ (ap arguments h))
entries_told (before l A) (end m B) h = absurd cc
entries_told (before l A) (failing m) h = absurd cc
entries_told (end l A) (before m B) h = absurd cc
entries_told (end l A) (failing m) h = absurd cc
entries_told (failing l) (before m B) h = absurd cc
entries_told (failing l) (end m B) h = absurd cc

pub all_told : (es fs : List Entry) → entry_nodes es ≡ entry_nodes fs → es ≡ fs
all_told [] [] e = refl
all_told [] (f ∷ fs) e = absurd cc
all_told (e ∷ es) [] h = absurd cc
all_told (e ∷ es) (f ∷ fs) h =
    let head : e ≡ f = entries_told e f (ap (λ ts. first ts (entry_node e)) h) in
    let tail : es ≡ fs = all_told es fs (ap rest h) in
    λ i. head i ∷ tail i

-- ---- certificates

pub scripts_told : (t u : Tree) (es fs : List Entry) → certified_node t es ≡ certified_node u fs → t ≡ u
scripts_told t u es fs e = ap (λ n. first (arguments n) t) e

pub derivations_told : (t u : Tree) (es fs : List Entry) → certified_node t es ≡ certified_node u fs → es ≡ fs
derivations_told t u es fs e = all_told es fs (ap (λ n. stack_in (arguments n)) e)

pub valid_typed : (t : Tree) (es : List Entry) → IsValid (certified_node t es) → ((s : Script) × (script t ≡ found s)) × (es ≡ derivation t)
valid_typed t es v =
    let same : t ≡ v.script_node = scripts_told t v.script_node es (derivation v.script_node) v.is_certificate in
    let told : es ≡ derivation v.script_node = derivations_told t v.script_node es (derivation v.script_node) v.is_certificate in
    ((v.accepted, ap script same ∙ v.is_accepted), told ∙ sym (ap derivation same))
