-- The types of a derivation are types.
use Rattle.std.proofs.Common.{◌≡◌, ℕ, zero, suc, ◌+◌, ◌-◌, Option, List, [], ◌∷◌, ◌++◌}
use Rattle.std.specs.Prelude.{slice_get}
use Rattle.rules_text.specs.nodes.Tree.{Tree, int, str, bytes, prim, seq, Trees, none, more, size}
use Rattle.rules_text.specs.nodes.Primitives.{primitive_of_name}
use Rattle.rules_text.specs.declared.nodes.Primitive.{Primitive}
use Rattle.rules_data.specs.types.Kind.{Kind}
use Rattle.rules_code.specs.instructions.Context.{Context}
use Rattle.rules_code.specs.instructions.Context as place
use Rattle.rules_code.specs.instructions.Arguments.{found}
use Rattle.rules_code.specs.instructions.Forms.{Form, form_of}
use Rattle.rules_code.specs.instructions.Forms as f
use Rattle.rules_code.specs.typing.Typing.{Typing, goes, fails, bad, Typer, shift, in_block}
use Rattle.rules_code.specs.typing.Scripts.{Script}
use Rattle.rules_code.specs.typing.Stacks.{on_origination}
use Rattle.rules_code.specs.typing.Acts.{act_type, outside_views, one_body, of_script}
use Rattle.rules_code.specs.typing.Nodes.{tree_type, trees_type, bodies, script, script_in, typings, inner_typings, typing_of}
use Rattle.rules_code.specs.certificates.Blocks.{Block, blocks, script_blocks}
use Rattle.rules_code.specs.certificates.Derivation.{Entry, Teller, behind, told_by, of_blocks, tree_entries, trees_entries, block_entries, tellers, inner_tellers, derivation}
use Rattle.laws_code.specs.stacks.Sound.{AllTypes}
use Rattle.laws_code.proofs.typed.ForCallers.{HasTypes, Types}
use Rattle.laws_code.proofs.control.ForCallers.{tree_types}
use Rattle.laws_files.specs.certificates.Laws.{IsTyped, AllTyped, EntriesHaveTypes}
use Rattle.laws_files.proofs.certificates_lemmas.Typed.{typed_shift}
use Rattle.laws_files.proofs.certificates_lemmas.Blocks.{meanings, blocks_typed}
use Rattle.laws_files.proofs.certificates_lemmas.Scripts.{is_found, not_moved, origination_typed, scripts}
use Rattle.laws_files.proofs.certificates_lemmas.Types.{BlockTypes, pushed_types, dipped_types, lambdas_types, recs_types, if_types, if_none_types, if_left_types, if_cons_types, loop_types, loop_left_types, iter_types, map_types}
use Rattle.laws_files.proofs.certificates_lemmas.ScriptTypes.{script_types}

-- ---- the blocks of instructions

create_types : (t : Tree) (A : List Kind) → IsTyped (on_origination A (λ g A. of_script (script_in (more t none) 1) g A)) → BlockTypes (script_blocks 1 t)
create_types (seq ts) A h =
    let o = origination_typed A _ h in
    let s = is_found (script_in (more (seq ts) none) 1) o.0 o.1 o.2 in
    script_types 1 ts s.0 (not_moved 1 (script (seq ts)) s.0 s.1)
create_types (int n) A h = let o = origination_typed A _ h in absurd o.2
create_types (str n) A h = let o = origination_typed A _ h in absurd o.2
create_types (bytes n) A h = let o = origination_typed A _ h in absurd o.2
create_types (prim name annots ts) A h = let o = origination_typed A _ h in absurd o.2

created_types : (ts : Trees) (c : Context) (A : List Kind) →
    IsTyped (one_body (bodies ts 1) (λ b. on_origination A (λ g A. of_script (script_in ts 1) g A))) → BlockTypes (blocks f.create_contract ts c A)
created_types (more t none) c A h = create_types t A h
created_types none c A h = tt
created_types (more t (more u ts)) c A h = tt

creates_types : (ts : Trees) (c : Context) (A : List Kind) →
    IsTyped (outside_views c (one_body (bodies ts 1) (λ b. on_origination A (λ g A. of_script (script_in ts 1) g A)))) → BlockTypes (blocks f.create_contract ts c A)
creates_types ts (place.main es) A h = created_types ts (place.main es) A h
creates_types ts place.lambda A h = created_types ts place.lambda A h
creates_types ts place.view A h = absurd h

block_types : (form : Form) (name : Option Primitive) (annots : List (List ℕ)) (ts : Trees) (c : Context) (A : List Kind) → HasTypes c → AllTypes A →
    IsTyped (act_type form name annots ts (meanings ts) c A) → BlockTypes (blocks form ts c A)
block_types f.straight name annots ts c A hc h i = tt
block_types f.transfer name annots ts c A hc h i = tt
block_types f.push name annots ts c A hc h i = pushed_types ts c A
block_types f.dip name annots ts c A hc h i = dipped_types ts c A hc h
block_types f.lambda name annots ts c A hc h i = lambdas_types ts c A
block_types f.lambda_rec name annots ts c A hc h i = recs_types ts c A i
block_types f.exec name annots ts c A hc h i = tt
block_types f.apply name annots ts c A hc h i = tt
block_types f.if_bool name annots ts c A hc h i = if_types c hc ts A h
block_types f.if_none name annots ts c A hc h i = if_none_types c hc ts A h
block_types f.if_left name annots ts c A hc h i = if_left_types c hc ts A h
block_types f.if_cons name annots ts c A hc h i = if_cons_types c hc ts A h
block_types f.loop name annots ts c A hc h i = loop_types c hc ts A h
block_types f.loop_left name annots ts c A hc h i = loop_left_types c hc ts A h
block_types f.iter name annots ts c A hc h i = iter_types c hc ts A h
block_types f.map name annots ts c A hc h i = map_types c hc ts A h
block_types f.failwith name annots ts c A hc h i = tt
block_types f.never name annots ts c A hc h i = tt
block_types f.self name annots ts c A hc h i = tt
block_types f.create_contract name annots ts c A hc h i = creates_types ts c A i

-- ---- entries

both : (es fs : List Entry) → EntriesHaveTypes es → EntriesHaveTypes fs → EntriesHaveTypes (es ++ fs)
both [] fs h g = g
both (e ∷ es) fs h g = (h.0, both es fs h.1 g)

-- what is told of a node has types, where the node is typed on types
abbrev Tells : Teller → Typer → Type 0
Tells teller typer = (c : Context) (A : List Kind) → HasTypes c → AllTypes A → IsTyped (typer c A) → EntriesHaveTypes (teller c A)

abbrev AllTell : List Teller → List Typer → Type 0
AllTell [] [] = Unit {0}
AllTell (t ∷ ts) (y ∷ ys) = Tells t y × AllTell ts ys
AllTell ts ys = ⊥

all_tell : (ts us : List Teller) (ys zs : List Typer) → AllTell ts ys → AllTell us zs → AllTell (ts ++ us) (ys ++ zs)
all_tell [] us [] zs h g = g
all_tell (t ∷ ts) us (y ∷ ys) zs h g = (h.0, all_tell ts us ys zs h.1 g)
all_tell [] us (y ∷ ys) zs h g = absurd h
all_tell (t ∷ ts) us [] zs h g = absurd h

told_there : (ts : List Teller) (ys : List Typer) → AllTell ts ys → (i : ℕ) (c : Context) (A : List Kind) → HasTypes c → AllTypes A →
    IsTyped (typing_of (slice_get ys i) c A) → EntriesHaveTypes (told_by (slice_get ts i) c A)
told_there [] [] h i c A hc g k = tt
told_there [] (y ∷ ys) h i c A hc g k = absurd h
told_there (t ∷ ts) [] h i c A hc g k = absurd h
told_there (t ∷ ts) (y ∷ ys) h zero c A hc g k = h.0 c A hc g k
told_there (t ∷ ts) (y ∷ ys) h (suc i) c A hc g k = told_there ts ys h.1 i c A hc g k

blocks_told : (ts : Trees) (us : List Teller) → AllTell us (typings ts) → (bs : List Block) → BlockTypes bs → AllTyped ts bs → EntriesHaveTypes (of_blocks us bs)
blocks_told ts us h [] g i = tt
blocks_told ts us h (b ∷ bs) g i =
    both (told_by (slice_get us (b.location - 1)) b.context b.stack) (of_blocks us bs)
    (told_there us (typings ts) h (b.location - 1) b.context b.stack g.0.0 g.0.1 i.0) (blocks_told ts us h bs g.1 i.1)

-- what stands behind an instruction
behind_told : (block : ℕ) (t : Typing) (ts : Trees) (next : List Kind → Typing) (told : List Kind → List Entry) → Types t →
    ((B : List Kind) → AllTypes B → IsTyped (next B) → EntriesHaveTypes (told B)) → IsTyped (in_block t ts next) → EntriesHaveTypes (behind block t told)
behind_told block (goes B) ts next told h g i = g B h i
behind_told block fails ts next told h g i = (tt, tt)
behind_told block (bad l) ts next told h g i = tt

typed_first : (t : Typing) (ts : Trees) (next : List Kind → Typing) → IsTyped (in_block t ts next) → IsTyped t
typed_first (goes B) ts next h = tt
typed_first fails ts next h = tt
typed_first (bad l) ts next h = h

mutual
  tree_told : (t : Tree) (at : ℕ) → Tells (λ c A. tree_entries t at c A) (λ c A. tree_type t c A)
  tree_told (prim name annots ts) at c A hc h i = (
    h,
    blocks_told ts (tellers ts (at + 1)) (all_told ts (at + 1)) (blocks (form_of (primitive_of_name name)) ts c A)
        (block_types (form_of (primitive_of_name name)) (primitive_of_name name) annots ts c A hc h i) (blocks_typed name annots ts c A i),
  )
  tree_told (seq ts) at c A hc h i = (h, trees_told ts at (at + 1) c A hc h (typed_shift 1 (trees_type ts c A) i))
  tree_told (int n) at c A hc h i = (h, tt)
  tree_told (str s) at c A hc h i = (h, tt)
  tree_told (bytes b) at c A hc h i = (h, tt)

  trees_told : (ts : Trees) (block at : ℕ) → Tells (λ c A. trees_entries ts block at c A) (λ c A. trees_type ts c A)
  trees_told none block at c A hc h i = (h, tt)
  trees_told (more t ts) block at c A hc h i =
      both (tree_entries t at c A) (behind block (tree_type t c A) (λ B. trees_entries ts block (at + size t) c B))
      (tree_told t at c A hc h (typed_first (tree_type t c A) ts (λ B. shift (size t) (trees_type ts c B)) i))
      (behind_told block (tree_type t c A) ts (λ B. shift (size t) (trees_type ts c B)) (λ B. trees_entries ts block (at + size t) c B) (tree_types t c hc A h)
      (λ B g k. trees_told ts block (at + size t) c B hc g (typed_shift (size t) (trees_type ts c B) k)) i)

  block_told : (t : Tree) (at : ℕ) → Tells (λ c A. block_entries t at c A) (λ c A. tree_type t c A)
  block_told (seq ts) at c A hc h i = trees_told ts at (at + 1) c A hc h (typed_shift 1 (trees_type ts c A) i)
  block_told (prim name annots ts) at c A hc h i = tt
  block_told (int n) at c A hc h i = tt
  block_told (str s) at c A hc h i = tt
  block_told (bytes b) at c A hc h i = tt

  all_told : (ts : Trees) (at : ℕ) → AllTell (tellers ts at) (typings ts)
  all_told none at = tt
  all_told (more t ts) at = (block_told t at, all_tell (inner_tellers t at) (tellers ts (at + size t)) (inner_typings t) (typings ts) (inner_told t at) (all_told ts (at + size t)))

  inner_told : (t : Tree) (at : ℕ) → AllTell (inner_tellers t at) (inner_typings t)
  inner_told (prim name annots ts) at = all_told ts (at + 1)
  inner_told (seq ts) at = all_told ts (at + 1)
  inner_told (int n) at = tt
  inner_told (str s) at = tt
  inner_told (bytes b) at = tt

pub derived_types : (ts : Trees) (s : Script) → script (seq ts) ≡ found s → EntriesHaveTypes (derivation (seq ts))
derived_types ts s e =
    blocks_told ts (tellers ts 1) (all_told ts 1) (script_blocks 0 (seq ts)) (script_types 0 ts s e) (scripts ts s e)
