-- Behind an instruction whose entries tell no type of too many levels, only the two types on top can have so many.
use Rattle.std.proofs.Common.{◌≡◌, ℕ, ◌+◌, ◌-◌, nat_le, Bool, true, false, ◌&&◌, List, [], ◌∷◌, ◌++◌, length, drop, take, Option, Some, None, refl, subst}
use Rattle.std.specs.Prelude.{if◌then◌else◌, slice_get}
use Rattle.std.specs.List.{list_all}
use Rattle.std.proofs.lemmas.Bool.{and_parts}
use Rattle.rules_text.specs.nodes.Limits.{type_limit, count_limit}
use Rattle.rules_text.specs.nodes.Tree.{Tree, int, str, bytes, prim, seq, Trees, none, more, size}
use Rattle.rules_text.specs.nodes.Primitives.{primitive_of_name}
use Rattle.rules_text.specs.declared.nodes.Primitive.{Primitive}
use Rattle.rules_data.specs.types.Kind.{Kind, nodes}
use Rattle.rules_data.specs.types.Kind as k
use Rattle.rules_data.specs.types.Attributes.{pushable}
use Rattle.rules_data.specs.types.Entrypoints.{find_entry}
use Rattle.rules_data.specs.types.Entrypoints as entrypoints
use Rattle.rules_data.specs.values.Val.{Val}
use Rattle.rules_data.specs.values.Literals.{Literal, read}
use Rattle.rules_data.specs.values.Literals as reading
use Rattle.rules_code.specs.instructions.Types as ty
use Rattle.rules_code.specs.instructions.Same.{same_kind, same_kinds}
use Rattle.rules_code.specs.instructions.Context.{Context}
use Rattle.rules_code.specs.instructions.Context as place
use Rattle.rules_code.specs.instructions.Arguments.{Found, found, fault, count_argument}
use Rattle.rules_code.specs.instructions.Rules.{Ruled, ruled, faulty, rule}
use Rattle.rules_code.specs.instructions.Control.{Arrow, push_of, dip_of, lambda_of, call_kinds, self_of}
use Rattle.rules_code.specs.instructions.Forms.{Form, form_of}
use Rattle.rules_code.specs.instructions.Forms as f
use Rattle.rules_code.specs.typing.Typing.{Typing, goes, fails, bad, Typer, shift, on_found, in_block, made, made_of, join, ends, under, mapped, part_kind}
use Rattle.rules_code.specs.typing.Bodies.{bodies_fault}
use Rattle.rules_code.specs.typing.Stacks.{on_bool, on_option, on_or, on_list, on_parts, on_mapped, on_call, on_captured, on_origination, on_shown, on_never}
use Rattle.rules_code.specs.typing.Scripts.{Script}
use Rattle.rules_code.specs.typing.Acts.{Meanings, act_type, no_body, one_body, two_bodies, last_body, of_rule, outside_views, unless_fault, of_literal, push_type, dip_type, lambda_type, lambda_rec_type, of_entry, self_type, of_script}
use Rattle.rules_code.specs.typing.Nodes.{tree_type, trees_type, bodies, body, script_in, typings, typing_of}
use Rattle.rules_code.specs.certificates.Blocks.{block, blocks}
use Rattle.rules_code.specs.certificates.Blocks as blocks_of
use Rattle.rules_code.specs.certificates.Certificates.{is_flat, deep_entry}
use Rattle.rules_code.specs.certificates.Derivation.{Entry, before, end, failing, behind, told_by, of_blocks, tree_entries, trees_entries, block_entries, tellers}
use Rattle.mich_cert.proofs.telling_lemmas.FlatRows.{AllFlat, FlatBelow, under_one, under_all, take_flat, both_flat, RuledFlat, rule_flat}
use Rattle.mich_cert.proofs.Tellers.{second_told}

-- ---- entries that tell no type of too many levels

pub all_flat : (A : List Kind) → list_all is_flat A ≡ true → AllFlat A
all_flat [] h = tt
all_flat (a ∷ A) h = let hs = and_parts (is_flat a) (list_all is_flat A) h in (hs.0, all_flat A hs.1)

stack_then : (b : Bool) (l : ℕ) (o : Option ℕ) → (if b then o else Some l) ≡ None → (b ≡ true) × (o ≡ None)
stack_then true l o h = (refl, h)
stack_then false l o h = absurd cc

before_flat : (l : ℕ) (A : List Kind) (es : List Entry) → deep_entry (before l A ∷ es) ≡ None → AllFlat A × (deep_entry es ≡ None)
before_flat l A es h = let hs = stack_then (list_all is_flat A) l (deep_entry es) h in (all_flat A hs.0, hs.1)

end_flat : (l : ℕ) (A : List Kind) → deep_entry (end l A ∷ []) ≡ None → AllFlat A
end_flat l A h = all_flat A (stack_then (list_all is_flat A) l None h).0

stack_more : (b : Bool) (l : ℕ) (o p q : Option ℕ) → ((o ≡ None) → (p ≡ None) × (q ≡ None)) → (if b then o else Some l) ≡ None → ((if b then p else Some l) ≡ None) × (q ≡ None)
stack_more true l o p q g h = g h
stack_more false l o p q g h = absurd cc

pub none_deep : (es fs : List Entry) → deep_entry (es ++ fs) ≡ None → (deep_entry es ≡ None) × (deep_entry fs ≡ None)
none_deep [] fs h = (refl, h)
none_deep (before l A ∷ es) fs h = stack_more (list_all is_flat A) l (deep_entry (es ++ fs)) (deep_entry es) (deep_entry fs) (λ g. none_deep es fs g) h
none_deep (end l A ∷ es) fs h = stack_more (list_all is_flat A) l (deep_entry (es ++ fs)) (deep_entry es) (deep_entry fs) (λ g. none_deep es fs g) h
none_deep (failing l ∷ es) fs h = none_deep es fs h

-- ---- typings

-- each type of the stack behind has few enough levels
abbrev Flat : Typing → Type 0
Flat (goes B) = AllFlat B
Flat fails = Unit {0}
Flat (bad l) = Unit {0}

-- so has each below the two on top
abbrev pub Below : Typing → Type 0
Below (goes B) = FlatBelow B
Below fails = Unit {0}
Below (bad l) = Unit {0}

flat_shift : (n : ℕ) (t : Typing) → Flat t → Flat (shift n t)
flat_shift n (goes B) h = h
flat_shift n fails h = tt
flat_shift n (bad l) h = tt

below_shift : (n : ℕ) (t : Typing) → Below t → Below (shift n t)
below_shift n (goes B) h = h
below_shift n fails h = tt
below_shift n (bad l) h = tt

flat_below : (t : Typing) → Flat t → Below t
flat_below (goes B) h = under_all B h
flat_below fails h = tt
flat_below (bad l) h = tt

below_if : (b : Bool) (t : Typing) (l : ℕ) → Below t → Below (if b then t else bad l)
below_if true t l h = h
below_if false t l h = tt

below_found : {A : Type 0} (q : Found A) (next : A → Typing) → ((x : A) → Below (next x)) → Below (on_found q next)
below_found (found x) next h = h x
below_found (fault l) next h = tt

below_made : (a : Kind) (A : List Kind) → AllFlat A → Below (made a A)
below_made a A h = below_if (nat_le (nodes a) type_limit) (goes (a ∷ A)) 0 (under_one a A h)

below_ends : (t : Typing) (C : List Kind) (u : Typing) → Below u → Below (ends t C u)
below_ends (goes B) C u h = below_if (same_kinds B C) u 0 h
below_ends fails C u h = h
below_ends (bad l) C u h = tt

below_join : (t u : Typing) → Flat t → Flat u → Below (join t u)
below_join (bad l) u h g = tt
below_join (goes B) (goes C) h g = below_if (same_kinds B C) (goes B) 0 (under_all B h)
below_join (goes B) fails h g = under_all B h
below_join (goes B) (bad l) h g = tt
below_join fails u h g = flat_below u g

below_under : (A : List Kind) (t : Typing) → AllFlat A → Flat t → Below (under A t)
below_under A (goes B) h g = under_all (A ++ B) (both_flat A B h g)
below_under A fails h g = tt
below_under A (bad l) h g = tt

below_made_of : (new : Kind → Kind) (o : Option Kind) (A : List Kind) → AllFlat A → Below (made_of new o A)
below_made_of new None A h = tt
below_made_of new (Some a) A h = below_made (new a) A h

below_mapped : (t : Typing) (new : Kind → Kind) (A : List Kind) → AllFlat A → Below (mapped t new A)
below_mapped (goes B) new A h = below_made_of new (part_kind (goes B) A) A h
below_mapped fails new A h = tt
below_mapped (bad l) new A h = tt

below_outside : (c : Context) (t : Typing) → Below t → Below (outside_views c t)
below_outside (place.main es) t h = h
below_outside place.view t h = tt
below_outside place.lambda t h = h

below_unless : (o : Option ℕ) (t : Typing) → Below t → Below (unless_fault o t)
below_unless (Some l) t h = tt
below_unless None t h = h

below_literal : (typing_at : ℕ → Typer) (a : Kind) (A : List Kind) (x : Literal Val) → AllFlat A → Below (of_literal typing_at a A x)
below_literal typing_at a A (reading.good x ps) h = below_unless (bodies_fault (λ l t. typing_at l) ps) (goes (a ∷ A)) (under_one a A h)
below_literal typing_at a A (reading.bad l) h = tt

below_entry : (o : Option entrypoints.Entry) (A : List Kind) → AllFlat A → Below (of_entry o A)
below_entry (Some e) A h = below_made (k.contract e.kind) A h
below_entry None A h = tt

below_self : (name : List ℕ) (c : Context) (A : List Kind) → AllFlat A → Below (self_type name c A)
below_self name (place.main es) A h = below_entry (find_entry name es) A h
below_self name place.view A h = tt
below_self name place.lambda A h = tt

below_script : (x : Found Script) (g : Kind) (A : List Kind) → AllFlat A → Below (of_script x g A)
below_script (found s) g A h = below_if (same_kind s.storage g) (goes (k.operation ∷ ty.address ∷ A)) 0 h
below_script (fault l) g A h = tt

below_ruled : (r : Ruled) → RuledFlat r → Below (of_rule r)
below_ruled (ruled r B) h = h
below_ruled (faulty l) h = tt

below_rec : (x : Arrow) (b : Typer) (A : List Kind) → AllFlat A → Below (lambda_rec_type x b A)
below_rec x b A h =
    below_if (nat_le (nodes (k.lambda x.argument x.result)) type_limit) (ends (b place.lambda (call_kinds x.argument x.result true)) (x.result ∷ []) (goes (k.lambda x.argument x.result ∷ A))) 0
    (below_ends (b place.lambda (call_kinds x.argument x.result true)) (x.result ∷ []) (goes (k.lambda x.argument x.result ∷ A)) (under_one (k.lambda x.argument x.result) A h))

-- ---- the number of bodies

below_none : (bs : List Typer) (t : Typing) → Below t → Below (no_body bs t)
below_none [] t h = h
below_none (b ∷ bs) t h = tt

below_one : (bs : List Typer) (next : Typer → Typing) → ((b : Typer) → Below (next b)) → Below (one_body bs next)
below_one [] next h = tt
below_one (b ∷ []) next h = h b
below_one (b ∷ d ∷ bs) next h = tt

below_last : (bs : List Typer) (next : Typer → Typing) → ((b : Typer) → Below (next b)) → Below (last_body bs next)
below_last [] next h = tt
below_last (b ∷ []) next h = h b
below_last (b ∷ d ∷ bs) next h = below_last (d ∷ bs) next h

-- ---- stacks

call_below : (A : List Kind) → AllFlat A → Below (on_call A (λ r A. goes (r ∷ A)))
call_below (a ∷ k.lambda b r ∷ A) h = below_if (same_kind a b) (goes (r ∷ A)) 0 (under_one r A h.1.1)
call_below _ h = tt

captured_below : (A : List Kind) → AllFlat A → Below (on_captured A (λ b r A. goes (k.lambda b r ∷ A)))
captured_below (a ∷ k.lambda (k.pair b d) r ∷ A) h = below_if (same_kind a b && pushable a) (goes (k.lambda d r ∷ A)) 0 (under_one (k.lambda d r) A h.1.1)
captured_below _ h = tt

shown_below : (A : List Kind) → Below (on_shown A)
shown_below [] = tt
shown_below (a ∷ A) = below_if (pushable a) fails 0 tt

never_below : (A : List Kind) → Below (on_never A)
never_below (ty.never ∷ A) = tt
never_below _ = tt

create_below : (A : List Kind) (x : Found Script) → AllFlat A → Below (on_origination A (λ g A. of_script x g A))
create_below (k.option ty.key_hash ∷ ty.mutez ∷ g ∷ A) x h = below_script x g A h.1.1.1
create_below _ x h = tt

loop_below : (b : Typer) (c : Context) (A : List Kind) → AllFlat A → Below (on_bool A (λ A. ends (b c A) (ty.bool ∷ A) (goes A)))
loop_below b c (ty.bool ∷ A) h = below_ends (b c A) (ty.bool ∷ A) (goes A) (under_all A h.1)
loop_below b c _ h = tt

loop_left_below : (b : Typer) (c : Context) (A : List Kind) → AllFlat A → Below (on_or A (λ l r A. ends (b c (l ∷ A)) (k.or l r ∷ A) (goes (r ∷ A))))
loop_left_below b c (k.or l r ∷ A) h = below_ends (b c (l ∷ A)) (k.or l r ∷ A) (goes (r ∷ A)) (under_one r A h.1)
loop_left_below b c _ h = tt

iter_below : (b : Typer) (c : Context) (A : List Kind) → AllFlat A → Below (on_parts A (λ a A. ends (b c (a ∷ A)) A (goes A)))
iter_below b c (k.list a ∷ A) h = below_ends (b c (a ∷ A)) A (goes A) (under_all A h.1)
iter_below b c (k.set a ∷ A) h = below_ends (b c (a ∷ A)) A (goes A) (under_all A h.1)
iter_below b c (k.map a d ∷ A) h = below_ends (b c (k.pair a d ∷ A)) A (goes A) (under_all A h.1)
iter_below b c _ h = tt

map_below : (b : Typer) (c : Context) (A : List Kind) → AllFlat A → Below (on_mapped A (λ a new A. mapped (b c (a ∷ A)) new A))
map_below b c (k.list a ∷ A) h = below_mapped (b c (a ∷ A)) k.list A h.1
map_below b c (k.option a ∷ A) h = below_mapped (b c (a ∷ A)) k.option A h.1
map_below b c (k.map a d ∷ A) h = below_mapped (b c (k.pair a d ∷ A)) (k.map a) A h.1
map_below b c _ h = tt

-- ---- blocks

-- a block that tells no type of too many levels ends with none
trees_flat : (ts : Trees) (block at : ℕ) (c : Context) (A : List Kind) → deep_entry (trees_entries ts block at c A) ≡ None → Flat (trees_type ts c A)
trees_flat none block at c A h = end_flat block A h
trees_flat (more t ts) block at c A h =
    by (tree_type t c A) ts (λ B. trees_entries ts block (at + size t) c B) (λ B. shift (size t) (trees_type ts c B))
    (λ B g. flat_shift (size t) (trees_type ts c B) (trees_flat ts block (at + size t) c B g))
    (none_deep (tree_entries t at c A) (behind block (tree_type t c A) (λ B. trees_entries ts block (at + size t) c B)) h).1
  where
    by : (T : Typing) (us : Trees) (told : List Kind → List Entry) (next : List Kind → Typing) → ((B : List Kind) → deep_entry (told B) ≡ None → Flat (next B)) →
        deep_entry (behind block T told) ≡ None → Flat (in_block T us next)
    by (goes B) us told next g h = g B h
    by fails none told next g h = tt
    by fails (more u us) told next g h = tt
    by (bad l) us told next g h = tt

body_flat : (t : Tree) (at there : ℕ) (c : Context) (A : List Kind) → deep_entry (block_entries t at c A) ≡ None → Flat (body t there c A)
body_flat (seq ts) at there c A h = flat_shift (there + 1) (trees_type ts c A) (trees_flat ts at (at + 1) c A h)
body_flat (int n) at there c A h = tt
body_flat (str s) at there c A h = tt
body_flat (bytes b) at there c A h = tt
body_flat (prim name annots ts) at there c A h = tt

-- two branches
two_below : (t u : Tree) (at : ℕ) (c : Context) (A B : List Kind) →
    deep_entry (of_blocks (tellers (more t (more u none)) (at + 1)) (block 1 c A ∷ block (1 + size t) c B ∷ [])) ≡ None →
    Below (join (body t 1 c A) (body u (1 + size t) c B))
two_below t u at c A B h =
    let other : List Entry = told_by (slice_get (tellers (more t (more u none)) (at + 1)) (1 + size t - 1)) c B in
    let hs = none_deep (block_entries t (at + 1) c A) (other ++ []) h in
    let last = (none_deep other [] hs.1).0 in
    below_join (body t 1 c A) (body u (1 + size t) c B) (body_flat t (at + 1) 1 c A hs.0)
    (body_flat u (at + 1 + size t) (1 + size t) c B (subst (λ es. deep_entry es ≡ None) (second_told t u none (at + 1) c B) last))

module _ (at : ℕ) (c : Context) where
  abbrev told_in : Trees → List blocks_of.Block → List Entry
  told_in ts bs = of_blocks (tellers ts (at + 1)) bs

  if_below : (ts : Trees) (A : List Kind) → deep_entry (told_in ts (blocks f.if_bool ts c A)) ≡ None → Below (two_bodies (bodies ts 1) (λ b d. on_bool A (λ A. join (b c A) (d c A))))
  if_below (more t (more u none)) (ty.bool ∷ A) h = two_below t u at c A A h
  if_below _ _ h = tt

  if_none_below : (ts : Trees) (A : List Kind) → deep_entry (told_in ts (blocks f.if_none ts c A)) ≡ None →
      Below (two_bodies (bodies ts 1) (λ b d. on_option A (λ a A. join (b c A) (d c (a ∷ A)))))
  if_none_below (more t (more u none)) (k.option a ∷ A) h = two_below t u at c A (a ∷ A) h
  if_none_below _ _ h = tt

  if_left_below : (ts : Trees) (A : List Kind) → deep_entry (told_in ts (blocks f.if_left ts c A)) ≡ None →
      Below (two_bodies (bodies ts 1) (λ b d. on_or A (λ l r A. join (b c (l ∷ A)) (d c (r ∷ A)))))
  if_left_below (more t (more u none)) (k.or l r ∷ A) h = two_below t u at c (l ∷ A) (r ∷ A) h
  if_left_below _ _ h = tt

  if_cons_below : (ts : Trees) (A : List Kind) → deep_entry (told_in ts (blocks f.if_cons ts c A)) ≡ None →
      Below (two_bodies (bodies ts 1) (λ b d. on_list A (λ a A. join (b c (a ∷ k.list a ∷ A)) (d c A))))
  if_cons_below (more t (more u none)) (k.list a ∷ A) h = two_below t u at c (a ∷ k.list a ∷ A) A h
  if_cons_below _ _ h = tt

  dip_one : (t : Tree) (n : ℕ) (A : List Kind) → AllFlat A → deep_entry (told_in (more t none) (block 1 c (drop n A) ∷ [])) ≡ None → Below (dip_type n (body t 1) c A)
  dip_one t n A g h =
      below_if (nat_le n (length A)) (under (take n A) (body t 1 c (drop n A))) 0
      (below_under (take n A) (body t 1 c (drop n A)) (take_flat n A g)
      (body_flat t (at + 1) 1 c (drop n A) (none_deep (block_entries t (at + 1) c (drop n A)) [] h).0))

  dip_two : (t u : Tree) (q : Found ℕ) (A : List Kind) → AllFlat A →
      deep_entry (told_in (more t (more u none)) (blocks_of.on_found q (λ n. block (1 + size t) c (drop n A) ∷ []))) ≡ None →
      Below (on_found q (λ n. dip_type n (body u (1 + size t)) c A))
  dip_two t u (found n) A g h =
      let other : List Entry = told_by (slice_get (tellers (more t (more u none)) (at + 1)) (1 + size t - 1)) c (drop n A) in
      below_if (nat_le n (length A)) (under (take n A) (body u (1 + size t) c (drop n A))) 0
      (below_under (take n A) (body u (1 + size t) c (drop n A)) (take_flat n A g)
      (body_flat u (at + 1 + size t) (1 + size t) c (drop n A)
      (subst (λ es. deep_entry es ≡ None) (second_told t u none (at + 1) c (drop n A)) (none_deep other [] h).0)))
  dip_two t u (fault l) A g h = tt

  dip_below : (ts : Trees) (A : List Kind) → AllFlat A → deep_entry (told_in ts (blocks f.dip ts c A)) ≡ None →
      Below (on_found (dip_of ts) (λ n. last_body (bodies ts 1) (λ b. dip_type n b c A)))
  dip_below none A g h = tt
  dip_below (more t none) A g h = dip_one t 1 A g h
  dip_below (more t (more u none)) A g h = dip_two t u (count_argument 0 count_limit 1 t) A g h
  dip_below (more t (more u (more w ts))) A g h = tt

-- ---- instructions

abbrev meanings : Trees → Meanings
meanings ts = record {
  bodies = bodies ts 1;
  script = λ at. script_in ts at;
  typing_at = λ l c A. shift l (typing_of (slice_get (typings ts) (l - 1)) c A);
}

act_below : (form : Form) (name : Option Primitive) (annots : List (List ℕ)) (ts : Trees) (at : ℕ) (c : Context) (A : List Kind) → AllFlat A →
    deep_entry (of_blocks (tellers ts (at + 1)) (blocks form ts c A)) ≡ None → Below (act_type form name annots ts (meanings ts) c A)
act_below f.straight name annots ts at c A h g = below_ruled (rule name annots ts A) (rule_flat name annots ts A h)
act_below f.transfer name annots ts at c A h g = below_outside c (of_rule (rule name annots ts A)) (below_ruled (rule name annots ts A) (rule_flat name annots ts A h))
act_below f.push name annots ts at c A h g =
    below_found (push_of ts) (λ p. push_type p (meanings ts).typing_at A) (λ p. below_literal (meanings ts).typing_at p.kind A (read p.kind p.location p.literal) h)
act_below f.dip name annots ts at c A h g = dip_below at c ts A h g
act_below f.lambda name annots ts at c A h g =
    below_found (lambda_of ts) (λ x. last_body (bodies ts 1) (λ b. lambda_type x b A)) (λ x. below_last (bodies ts 1) (λ b. lambda_type x b A)
    (λ b. below_ends (b place.lambda (x.argument ∷ [])) (x.result ∷ []) (made (k.lambda x.argument x.result) A) (below_made (k.lambda x.argument x.result) A h)))
act_below f.lambda_rec name annots ts at c A h g =
    below_found (lambda_of ts) (λ x. last_body (bodies ts 1) (λ b. lambda_rec_type x b A)) (λ x. below_last (bodies ts 1) (λ b. lambda_rec_type x b A) (λ b. below_rec x b A h))
act_below f.exec name annots ts at c A h g = below_none (bodies ts 1) _ (call_below A h)
act_below f.apply name annots ts at c A h g = below_none (bodies ts 1) _ (captured_below A h)
act_below f.if_bool name annots ts at c A h g = if_below at c ts A g
act_below f.if_none name annots ts at c A h g = if_none_below at c ts A g
act_below f.if_left name annots ts at c A h g = if_left_below at c ts A g
act_below f.if_cons name annots ts at c A h g = if_cons_below at c ts A g
act_below f.loop name annots ts at c A h g = below_one (bodies ts 1) _ (λ b. loop_below b c A h)
act_below f.loop_left name annots ts at c A h g = below_one (bodies ts 1) _ (λ b. loop_left_below b c A h)
act_below f.iter name annots ts at c A h g = below_one (bodies ts 1) _ (λ b. iter_below b c A h)
act_below f.map name annots ts at c A h g = below_one (bodies ts 1) _ (λ b. map_below b c A h)
act_below f.failwith name annots ts at c A h g = below_none (bodies ts 1) _ (shown_below A)
act_below f.never name annots ts at c A h g = below_none (bodies ts 1) _ (never_below A)
act_below f.self name annots ts at c A h g = below_found (self_of annots ts) (λ entry. self_type entry c A) (λ entry. below_self entry c A h)
act_below f.create_contract name annots ts at c A h g = below_outside c _ (below_one (bodies ts 1) _ (λ b. create_below A (script_in ts 1) h))

pub tree_below : (t : Tree) (at : ℕ) (c : Context) (A : List Kind) → deep_entry (tree_entries t at c A) ≡ None → Below (tree_type t c A)
tree_below (int n) at c A h = tt
tree_below (str s) at c A h = tt
tree_below (bytes b) at c A h = tt
tree_below (prim name annots ts) at c A h =
    let hs = before_flat at A (of_blocks (tellers ts (at + 1)) (blocks (form_of (primitive_of_name name)) ts c A)) h in
    act_below (form_of (primitive_of_name name)) (primitive_of_name name) annots ts at c A hs.0 hs.1
tree_below (seq ts) at c A h =
    let hs = before_flat at A (trees_entries ts at (at + 1) c A) h in
    below_shift 1 (trees_type ts c A) (flat_below (trees_type ts c A) (trees_flat ts at (at + 1) c A hs.1))
