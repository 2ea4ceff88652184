-- The first entry with a type of too many levels is found by the types on top.
use Rattle.std.proofs.Common.{◌≡◌, ℕ, zero, suc, ◌+◌, ◌-◌, Bool, true, false, ◌&&◌, List, [], ◌∷◌, ◌++◌, drop, Option, Some, None, refl, sym, ap, ◌∙◌}
use Rattle.std.specs.Prelude.{if◌then◌else◌, slice_get}
use Rattle.std.specs.List.{list_all}
use Rattle.rules_text.specs.nodes.Tree.{Tree, int, str, bytes, prim, seq, Trees, none, more, size}
use Rattle.rules_text.specs.nodes.Primitives.{primitive_of_name}
use Rattle.rules_data.specs.types.Kind.{Kind}
use Rattle.rules_data.specs.types.Kind as k
use Rattle.rules_data.specs.values.Val.{Val}
use Rattle.rules_data.specs.values.Literals.{Pending, body, claim, Literal, good, bad, read}
use Rattle.rules_code.specs.instructions.Types as ty
use Rattle.rules_code.specs.instructions.Context.{Context}
use Rattle.rules_code.specs.instructions.Arguments.{Found, found, fault}
use Rattle.rules_code.specs.instructions.Control.{push_of, dip_of, lambda_of}
use Rattle.rules_code.specs.instructions.Forms.{Form, form_of}
use Rattle.rules_code.specs.instructions.Forms as f
use Rattle.rules_code.specs.typing.Typing.{Typing, goes, fails}
use Rattle.rules_code.specs.typing.Typing as typing
use Rattle.rules_code.specs.typing.Nodes.{tree_type, outline}
use Rattle.rules_code.specs.typing.Scripts.{TypedView}
use Rattle.rules_code.specs.certificates.Blocks.{Block, blocks, on_found, pending_blocks, literal_blocks, view_blocks, outline_blocks, script_blocks}
use Rattle.rules_code.specs.certificates.Certificates.{is_flat, deep_entry}
use Rattle.rules_code.specs.certificates.Derivation.{Entry, before, end, failing, Teller, behind, told_by, of_blocks, tree_entries, trees_entries, block_entries, tellers, inner_tellers, derivation}
use Rattle.mich_cert.specs.telling.Tops.{tops_are_flat, deep_top}
use Rattle.mich_cert.proofs.telling_lemmas.FlatRows.{AllFlat, FlatBelow, under_one, under_all, drop_flat}
use Rattle.mich_cert.proofs.telling_lemmas.FlatTypings.{all_flat, Below, tree_below}

-- ---- entries one behind another

abbrev Agree : List Entry → Type 0
Agree es = deep_entry es ≡ deep_top es

-- the first of two
abbrev first : Option ℕ → Option ℕ → Option ℕ
first (Some l) o = Some l
first None o = o

first_if : (b : Bool) (l : ℕ) (o p q : Option ℕ) → o ≡ first p q → (if b then o else Some l) ≡ first (if b then p else Some l) q
first_if true l o p q e = e
first_if false l o p q e = refl

deep_both : (es fs : List Entry) → deep_entry (es ++ fs) ≡ first (deep_entry es) (deep_entry fs)
deep_both [] fs = refl
deep_both (before l A ∷ es) fs = first_if (list_all is_flat A) l (deep_entry (es ++ fs)) (deep_entry es) (deep_entry fs) (deep_both es fs)
deep_both (end l A ∷ es) fs = first_if (list_all is_flat A) l (deep_entry (es ++ fs)) (deep_entry es) (deep_entry fs) (deep_both es fs)
deep_both (failing l ∷ es) fs = deep_both es fs

top_both : (es fs : List Entry) → deep_top (es ++ fs) ≡ first (deep_top es) (deep_top fs)
top_both [] fs = refl
top_both (before l A ∷ es) fs = first_if (tops_are_flat A) l (deep_top (es ++ fs)) (deep_top es) (deep_top fs) (top_both es fs)
top_both (end l A ∷ es) fs = first_if (tops_are_flat A) l (deep_top (es ++ fs)) (deep_top es) (deep_top fs) (top_both es fs)
top_both (failing l ∷ es) fs = top_both es fs

agree_both : (es fs : List Entry) → Agree es → (deep_entry es ≡ None → Agree fs) → Agree (es ++ fs)
agree_both es fs h g = deep_both es fs ∙ by (deep_entry es) refl ∙ ap (λ o. first o (deep_top fs)) h ∙ sym (top_both es fs)
  where
    by : (o : Option ℕ) → deep_entry es ≡ o → first o (deep_entry fs) ≡ first o (deep_top fs)
    by (Some l) e = refl
    by None e = g e

-- ---- a stack

is_all : (A : List Kind) → AllFlat A → list_all is_flat A ≡ true
is_all [] h = refl
is_all (a ∷ A) h = ap (λ x. x && list_all is_flat A) h.0 ∙ is_all A h.1

and_true : (b : Bool) → (b && true) ≡ b
and_true true = refl
and_true false = refl

same_tops : (A : List Kind) → FlatBelow A → list_all is_flat A ≡ tops_are_flat A
same_tops [] h = refl
same_tops (a ∷ []) h = and_true (is_flat a)
same_tops (a ∷ b ∷ A) h = ap (λ x. is_flat a && (is_flat b && x)) (is_all A h) ∙ ap (λ x. is_flat a && x) (and_true (is_flat b))

agree_if : (b : Bool) (l : ℕ) (o p : Option ℕ) → (b ≡ true → o ≡ p) → (if b then o else Some l) ≡ (if b then p else Some l)
agree_if true l o p h = h refl
agree_if false l o p h = refl

stack_agrees : (l : ℕ) (A : List Kind) (o p : Option ℕ) → FlatBelow A → (AllFlat A → o ≡ p) →
    (if list_all is_flat A then o else Some l) ≡ (if tops_are_flat A then p else Some l)
stack_agrees l A o p h g =
    agree_if (list_all is_flat A) l o p (λ e. g (all_flat A e)) ∙ ap (λ b. if b then p else Some l) (same_tops A h)

-- ---- blocks

-- of each block's stack the two on top alone can have too many levels
abbrev BlocksBelow : List Block → Type 0
BlocksBelow [] = Unit {0}
BlocksBelow (b ∷ bs) = FlatBelow b.stack × BlocksBelow bs

pending_below : (ps : List Pending) → BlocksBelow (pending_blocks ps)
pending_below [] = tt
pending_below (body at a r true t ∷ ps) = (tt, pending_below ps)
pending_below (body at a r false t ∷ ps) = (tt, pending_below ps)
pending_below (claim at b a ∷ ps) = pending_below ps

literal_below : (x : Literal Val) → BlocksBelow (literal_blocks x)
literal_below (good x ps) = pending_below ps
literal_below (bad l) = tt

found_below : {A : Type 0} (q : Found A) (next : A → List Block) → ((x : A) → BlocksBelow (next x)) → BlocksBelow (on_found q next)
found_below (found x) next h = h x
found_below (fault l) next h = tt

views_below : (at : ℕ) (s : Kind) (vs : List TypedView) → BlocksBelow (view_blocks at s vs)
views_below at s [] = tt
views_below at s (v ∷ vs) = (tt, views_below at s vs)

script_below : (at : ℕ) (t : Tree) → BlocksBelow (script_blocks at t)
script_below at t = found_below (outline t) (outline_blocks at) (λ o. (tt, views_below at o.storage o.views))

if_below : (c : Context) (ts : Trees) (A : List Kind) → AllFlat A → BlocksBelow (blocks f.if_bool ts c A)
if_below c (more t (more u none)) (ty.bool ∷ A) h = (under_all A h.1, (under_all A h.1, tt))
if_below c _ _ h = tt

if_none_below : (c : Context) (ts : Trees) (A : List Kind) → AllFlat A → BlocksBelow (blocks f.if_none ts c A)
if_none_below c (more t (more u none)) (k.option a ∷ A) h = (under_all A h.1, (under_one a A h.1, tt))
if_none_below c _ _ h = tt

if_left_below : (c : Context) (ts : Trees) (A : List Kind) → AllFlat A → BlocksBelow (blocks f.if_left ts c A)
if_left_below c (more t (more u none)) (k.or a b ∷ A) h = (under_one a A h.1, (under_one b A h.1, tt))
if_left_below c _ _ h = tt

if_cons_below : (c : Context) (ts : Trees) (A : List Kind) → AllFlat A → BlocksBelow (blocks f.if_cons ts c A)
if_cons_below c (more t (more u none)) (k.list a ∷ A) h = (h.1, (under_all A h.1, tt))
if_cons_below c _ _ h = tt

loop_below : (c : Context) (ts : Trees) (A : List Kind) → AllFlat A → BlocksBelow (blocks f.loop ts c A)
loop_below c (more t none) (ty.bool ∷ A) h = (under_all A h.1, tt)
loop_below c _ _ h = tt

loop_left_below : (c : Context) (ts : Trees) (A : List Kind) → AllFlat A → BlocksBelow (blocks f.loop_left ts c A)
loop_left_below c (more t none) (k.or a b ∷ A) h = (under_one a A h.1, tt)
loop_left_below c _ _ h = tt

iter_below : (c : Context) (ts : Trees) (A : List Kind) → AllFlat A → BlocksBelow (blocks f.iter ts c A)
iter_below c (more t none) (k.list a ∷ A) h = (under_one a A h.1, tt)
iter_below c (more t none) (k.set a ∷ A) h = (under_one a A h.1, tt)
iter_below c (more t none) (k.map a b ∷ A) h = (under_one (k.pair a b) A h.1, tt)
iter_below c _ _ h = tt

map_below : (c : Context) (ts : Trees) (A : List Kind) → AllFlat A → BlocksBelow (blocks f.map ts c A)
map_below c (more t none) (k.list a ∷ A) h = (under_one a A h.1, tt)
map_below c (more t none) (k.option a ∷ A) h = (under_one a A h.1, tt)
map_below c (more t none) (k.map a b ∷ A) h = (under_one (k.pair a b) A h.1, tt)
map_below c _ _ h = tt

create_below : (c : Context) (ts : Trees) (A : List Kind) → BlocksBelow (blocks f.create_contract ts c A)
create_below c (more t none) A = script_below 1 t
create_below c none A = tt
create_below c (more t (more u ts)) A = tt

blocks_below : (form : Form) (ts : Trees) (c : Context) (A : List Kind) → AllFlat A → BlocksBelow (blocks form ts c A)
blocks_below f.straight ts c A h = tt
blocks_below f.transfer ts c A h = tt
blocks_below f.push ts c A h = found_below (push_of ts) (λ p. literal_blocks (read p.kind p.location p.literal)) (λ p. literal_below (read p.kind p.location p.literal))
blocks_below f.dip ts c A h = found_below (dip_of ts) _ (λ n. (under_all (drop n A) (drop_flat n A h), tt))
blocks_below f.lambda ts c A h = found_below (lambda_of ts) _ (λ x. (tt, tt))
blocks_below f.lambda_rec ts c A h = found_below (lambda_of ts) _ (λ x. (tt, tt))
blocks_below f.exec ts c A h = tt
blocks_below f.apply ts c A h = tt
blocks_below f.if_bool ts c A h = if_below c ts A h
blocks_below f.if_none ts c A h = if_none_below c ts A h
blocks_below f.if_left ts c A h = if_left_below c ts A h
blocks_below f.if_cons ts c A h = if_cons_below c ts A h
blocks_below f.loop ts c A h = loop_below c ts A h
blocks_below f.loop_left ts c A h = loop_left_below c ts A h
blocks_below f.iter ts c A h = iter_below c ts A h
blocks_below f.map ts c A h = map_below c ts A h
blocks_below f.failwith ts c A h = tt
blocks_below f.never ts c A h = tt
blocks_below f.self ts c A h = tt
blocks_below f.create_contract ts c A h = create_below c ts A

-- ---- entries

abbrev AllAgree : List Teller → Type 0
AllAgree [] = Unit {0}
AllAgree (t ∷ ts) = ((c : Context) (A : List Kind) → FlatBelow A → Agree (t c A)) × AllAgree ts

all_agree : (ts us : List Teller) → AllAgree ts → AllAgree us → AllAgree (ts ++ us)
all_agree [] us h g = g
all_agree (t ∷ ts) us h g = (h.0, all_agree ts us h.1 g)

there_agrees : (ts : List Teller) → AllAgree ts → (i : ℕ) (c : Context) (A : List Kind) → FlatBelow A → Agree (told_by (slice_get ts i) c A)
there_agrees [] h i c A g = refl
there_agrees (t ∷ ts) h zero c A g = h.0 c A g
there_agrees (t ∷ ts) h (suc i) c A g = there_agrees ts h.1 i c A g

blocks_agree : (us : List Teller) → AllAgree us → (bs : List Block) → BlocksBelow bs → Agree (of_blocks us bs)
blocks_agree us h [] g = refl
blocks_agree us h (b ∷ bs) g =
    agree_both (told_by (slice_get us (b.location - 1)) b.context b.stack) (of_blocks us bs)
    (there_agrees us h (b.location - 1) b.context b.stack g.0) (λ e. blocks_agree us h bs g.1)

behind_agrees : (block : ℕ) (T : Typing) (told : List Kind → List Entry) → Below T → ((B : List Kind) → FlatBelow B → Agree (told B)) → Agree (behind block T told)
behind_agrees block (goes B) told h g = g B h
behind_agrees block fails told h g = refl
behind_agrees block (typing.bad l) told h g = refl

mutual
  tree_agrees : (t : Tree) (at : ℕ) (c : Context) (A : List Kind) → FlatBelow A → Agree (tree_entries t at c A)
  tree_agrees (prim name annots ts) at c A h =
      let bs : List Block = blocks (form_of (primitive_of_name name)) ts c A in
      let us : List Teller = tellers ts (at + 1) in
      stack_agrees at A (deep_entry (of_blocks us bs)) (deep_top (of_blocks us bs)) h
      (λ g. blocks_agree us (tellers_agree ts (at + 1)) bs (blocks_below (form_of (primitive_of_name name)) ts c A g))
  tree_agrees (seq ts) at c A h =
      stack_agrees at A (deep_entry (trees_entries ts at (at + 1) c A)) (deep_top (trees_entries ts at (at + 1) c A)) h (λ g. trees_agree ts at (at + 1) c A h)
  tree_agrees (int n) at c A h = stack_agrees at A None None h (λ g. refl)
  tree_agrees (str s) at c A h = stack_agrees at A None None h (λ g. refl)
  tree_agrees (bytes b) at c A h = stack_agrees at A None None h (λ g. refl)

  trees_agree : (ts : Trees) (block at : ℕ) (c : Context) (A : List Kind) → FlatBelow A → Agree (trees_entries ts block at c A)
  trees_agree none block at c A h = stack_agrees block A None None h (λ g. refl)
  trees_agree (more t ts) block at c A h =
      agree_both (tree_entries t at c A) (behind block (tree_type t c A) (λ B. trees_entries ts block (at + size t) c B)) (tree_agrees t at c A h)
      (λ e. behind_agrees block (tree_type t c A) (λ B. trees_entries ts block (at + size t) c B) (tree_below t at c A e)
      (λ B g. trees_agree ts block (at + size t) c B g))

  block_agrees : (t : Tree) (at : ℕ) (c : Context) (A : List Kind) → FlatBelow A → Agree (block_entries t at c A)
  block_agrees (seq ts) at c A h = trees_agree ts at (at + 1) c A h
  block_agrees (prim name annots ts) at c A h = refl
  block_agrees (int n) at c A h = refl
  block_agrees (str s) at c A h = refl
  block_agrees (bytes b) at c A h = refl

  tellers_agree : (ts : Trees) (at : ℕ) → AllAgree (tellers ts at)
  tellers_agree none at = tt
  tellers_agree (more t ts) at =
      (λ c A h. block_agrees t at c A h, all_agree (inner_tellers t at) (tellers ts (at + size t)) (inner_agree t at) (tellers_agree ts (at + size t)))

  inner_agree : (t : Tree) (at : ℕ) → AllAgree (inner_tellers t at)
  inner_agree (prim name annots ts) at = tellers_agree ts (at + 1)
  inner_agree (seq ts) at = tellers_agree ts (at + 1)
  inner_agree (int n) at = tt
  inner_agree (str s) at = tt
  inner_agree (bytes b) at = tt

pub deep_by_tops : (t : Tree) → deep_entry (derivation t) ≡ deep_top (derivation t)
deep_by_tops t = blocks_agree (inner_tellers t 0) (inner_agree t 0) (script_blocks 0 t) (script_below 0 t)
