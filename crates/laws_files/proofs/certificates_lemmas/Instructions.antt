-- The blocks of instructions that are accepted.
use Rattle.std.proofs.Common.{◌≡◌, ℕ, ◌+◌, ◌-◌, true, Option, Some, None, List, [], ◌∷◌, refl, sym, subst, length}
use Rattle.std.specs.Prelude.{nat_le, take, drop, slice_get}
use Rattle.rules_text.specs.nodes.Limits.{type_limit, count_limit}
use Rattle.rules_text.specs.nodes.Tree.{Tree, Trees, none, more, size}
use Rattle.rules_data.specs.types.Kind.{Kind, nodes}
use Rattle.rules_data.specs.types.Kind as k
use Rattle.rules_data.specs.values.Val.{Val}
use Rattle.rules_data.specs.values.Literals.{Pending, body, claim, Literal, good, bad, read}
use Rattle.rules_code.specs.instructions.Types as types
use Rattle.rules_code.specs.instructions.Context.{Context}
use Rattle.rules_code.specs.instructions.Context as place
use Rattle.rules_code.specs.instructions.Arguments.{Found, found, fault, count_argument}
use Rattle.rules_code.specs.instructions.Control.{Pushed, push_of, dip_of, Arrow, lambda_of, call_kinds}
use Rattle.rules_code.specs.typing.Typing.{Typing, goes, fails, bad, Typer, shift, on_found, made, join, ends, mapped}
use Rattle.rules_code.specs.typing.Bodies.{body_fault, first_fault, bodies_fault}
use Rattle.rules_code.specs.typing.Acts.{two_bodies, one_body, unless_fault, of_literal, push_type, dip_type, lambda_type, lambda_rec_type, last_body}
use Rattle.rules_code.specs.typing.Stacks.{on_bool, on_option, on_or, on_list, on_parts, on_mapped}
use Rattle.rules_code.specs.typing.Nodes.{tree_type, bodies, typings, typing_of}
use Rattle.rules_code.specs.typing.Nodes as nodes_of
use Rattle.rules_code.specs.certificates.Blocks.{Block, block, blocks, pending_blocks, literal_blocks}
use Rattle.rules_code.specs.certificates.Blocks as blocks_of
use Rattle.rules_code.specs.instructions.Forms as f
use Rattle.laws_files.specs.certificates.Laws.{IsTyped, AllTyped, typing_in}
use Rattle.laws_files.proofs.certificates_lemmas.Typed.{typed_shift, typed_then, typed_join, typed_ends, typed_under, typed_mapped, typed_body, at_second, at_third}

-- ---- one body, two bodies

one : (t : Tree) (c : Context) (A : List Kind) → IsTyped (nodes_of.body t 1 c A) → AllTyped (more t none) (block 1 c A ∷ [])
one t c A h = (typed_body t 1 c A h, tt)

two : (t u : Tree) (c d : Context) (A B : List Kind) → IsTyped (join (nodes_of.body t 1 c A) (nodes_of.body u (1 + size t) d B)) →
    AllTyped (more t (more u none)) (block 1 c A ∷ block (1 + size t) d B ∷ [])
two t u c d A B h =
    let hs = typed_join (nodes_of.body t 1 c A) (nodes_of.body u (1 + size t) d B) h in
    (typed_body t 1 c A hs.0, (subst IsTyped (sym (at_second t u none d B)) (typed_body u (1 + size t) d B hs.1), tt))

pub ifs : (ts : Trees) (c : Context) (A : List Kind) →
    IsTyped (two_bodies (bodies ts 1) (λ b d. on_bool A (λ A. join (b c A) (d c A)))) → AllTyped ts (blocks f.if_bool ts c A)
ifs (more t (more u none)) c (types.bool ∷ A) h = two t u c c A A h
ifs _ c _ h = tt

pub if_nones : (ts : Trees) (c : Context) (A : List Kind) →
    IsTyped (two_bodies (bodies ts 1) (λ b d. on_option A (λ a A. join (b c A) (d c (a ∷ A))))) → AllTyped ts (blocks f.if_none ts c A)
if_nones (more t (more u none)) c (k.option a ∷ A) h = two t u c c A (a ∷ A) h
if_nones _ c _ h = tt

pub if_lefts : (ts : Trees) (c : Context) (A : List Kind) →
    IsTyped (two_bodies (bodies ts 1) (λ b d. on_or A (λ l r A. join (b c (l ∷ A)) (d c (r ∷ A))))) → AllTyped ts (blocks f.if_left ts c A)
if_lefts (more t (more u none)) c (k.or l r ∷ A) h = two t u c c (l ∷ A) (r ∷ A) h
if_lefts _ c _ h = tt

pub if_conses : (ts : Trees) (c : Context) (A : List Kind) →
    IsTyped (two_bodies (bodies ts 1) (λ b d. on_list A (λ a A. join (b c (a ∷ k.list a ∷ A)) (d c A)))) → AllTyped ts (blocks f.if_cons ts c A)
if_conses (more t (more u none)) c (k.list a ∷ A) h = two t u c c (a ∷ k.list a ∷ A) A h
if_conses _ c _ h = tt

pub loops : (ts : Trees) (c : Context) (A : List Kind) →
    IsTyped (one_body (bodies ts 1) (λ b. on_bool A (λ A. ends (b c A) (types.bool ∷ A) (goes A)))) → AllTyped ts (blocks f.loop ts c A)
loops (more t none) c (types.bool ∷ A) h = one t c A (typed_ends (nodes_of.body t 1 c A) (types.bool ∷ A) (goes A) h)
loops _ c _ h = tt

pub loop_lefts : (ts : Trees) (c : Context) (A : List Kind) →
    IsTyped (one_body (bodies ts 1) (λ b. on_or A (λ l r A. ends (b c (l ∷ A)) (k.or l r ∷ A) (goes (r ∷ A))))) → AllTyped ts (blocks f.loop_left ts c A)
loop_lefts (more t none) c (k.or l r ∷ A) h = one t c (l ∷ A) (typed_ends (nodes_of.body t 1 c (l ∷ A)) (k.or l r ∷ A) (goes (r ∷ A)) h)
loop_lefts _ c _ h = tt

pub iters : (ts : Trees) (c : Context) (A : List Kind) →
    IsTyped (one_body (bodies ts 1) (λ b. on_parts A (λ a A. ends (b c (a ∷ A)) A (goes A)))) → AllTyped ts (blocks f.iter ts c A)
iters (more t none) c (k.list a ∷ A) h = one t c (a ∷ A) (typed_ends (nodes_of.body t 1 c (a ∷ A)) A (goes A) h)
iters (more t none) c (k.set a ∷ A) h = one t c (a ∷ A) (typed_ends (nodes_of.body t 1 c (a ∷ A)) A (goes A) h)
iters (more t none) c (k.map a b ∷ A) h = one t c (k.pair a b ∷ A) (typed_ends (nodes_of.body t 1 c (k.pair a b ∷ A)) A (goes A) h)
iters _ c _ h = tt

pub maps : (ts : Trees) (c : Context) (A : List Kind) →
    IsTyped (one_body (bodies ts 1) (λ b. on_mapped A (λ a new A. mapped (b c (a ∷ A)) new A))) → AllTyped ts (blocks f.map ts c A)
maps (more t none) c (k.list a ∷ A) h = one t c (a ∷ A) (typed_mapped (nodes_of.body t 1 c (a ∷ A)) k.list A h)
maps (more t none) c (k.option a ∷ A) h = one t c (a ∷ A) (typed_mapped (nodes_of.body t 1 c (a ∷ A)) k.option A h)
maps (more t none) c (k.map a b ∷ A) h = one t c (k.pair a b ∷ A) (typed_mapped (nodes_of.body t 1 c (k.pair a b ∷ A)) (k.map a) A h)
maps _ c _ h = tt

-- ---- DIP

dip_one : (t : Tree) (n : ℕ) (c : Context) (A : List Kind) → IsTyped (dip_type n (nodes_of.body t 1) c A) →
    AllTyped (more t none) (block 1 c (drop n A) ∷ [])
dip_one t n c A h =
    one t c (drop n A) (typed_under (take n A) (nodes_of.body t 1 c (drop n A)) (typed_then (nat_le n (length A)) _ 0 h))

dip_two : (t u : Tree) (q : Found ℕ) (c : Context) (A : List Kind) →
    IsTyped (on_found q (λ n. dip_type n (nodes_of.body u (1 + size t)) c A)) →
    AllTyped (more t (more u none)) (blocks_of.on_found q (λ n. block (1 + size t) c (drop n A) ∷ []))
dip_two t u (found n) c A h =
    let g = typed_under (take n A) (nodes_of.body u (1 + size t) c (drop n A)) (typed_then (nat_le n (length A)) _ 0 h) in
    (subst IsTyped (sym (at_second t u none c (drop n A))) (typed_body u (1 + size t) c (drop n A) g), tt)
dip_two t u (fault l) c A h = absurd h

pub dips : (ts : Trees) (c : Context) (A : List Kind) →
    IsTyped (on_found (dip_of ts) (λ n. last_body (bodies ts 1) (λ b. dip_type n b c A))) → AllTyped ts (blocks f.dip ts c A)
dips (more t none) c A h = dip_one t 1 c A h
dips (more t (more u none)) c A h = dip_two t u (count_argument 0 count_limit 1 t) c A h
dips none c A h = absurd h
dips (more t (more u (more w ts))) c A h = absurd h

-- ---- LAMBDA and LAMBDA_REC

abbrev third : Tree → Tree → Tree → Typer
third t u w c A = nodes_of.body w (1 + size t + size u) c A

lambda_three : (t u w : Tree) (q : Found Arrow) (A : List Kind) → IsTyped (on_found q (λ x. lambda_type x (third t u w) A)) →
    AllTyped (more t (more u (more w none))) (blocks_of.on_found q (λ x. block (1 + size t + size u) place.lambda (x.argument ∷ []) ∷ []))
lambda_three t u w (found x) A h =
    let g = typed_ends (third t u w place.lambda (x.argument ∷ [])) (x.result ∷ []) (made (k.lambda x.argument x.result) A) h in
    (subst IsTyped (sym (at_third t u w none place.lambda (x.argument ∷ []))) (typed_body w (1 + size t + size u) place.lambda (x.argument ∷ []) g), tt)
lambda_three t u w (fault l) A h = absurd h

pub lambdas : (ts : Trees) (c : Context) (A : List Kind) →
    IsTyped (on_found (lambda_of ts) (λ x. last_body (bodies ts 1) (λ b. lambda_type x b A))) → AllTyped ts (blocks f.lambda ts c A)
lambdas (more t (more u (more w none))) c A h = lambda_three t u w (lambda_of (more t (more u (more w none)))) A h
lambdas none c A h = absurd h
lambdas (more t none) c A h = absurd h
lambdas (more t (more u none)) c A h = absurd h
lambdas (more t (more u (more w (more x ts)))) c A h = absurd h

rec_three : (t u w : Tree) (q : Found Arrow) (A : List Kind) → IsTyped (on_found q (λ x. lambda_rec_type x (third t u w) A)) →
    AllTyped (more t (more u (more w none))) (blocks_of.on_found q (λ x. block (1 + size t + size u) place.lambda (call_kinds x.argument x.result true) ∷ []))
rec_three t u w (found x) A h =
    let begins : List Kind = call_kinds x.argument x.result true in
    let small = typed_then (nat_le (nodes (k.lambda x.argument x.result)) type_limit) _ 0 h in
    let g = typed_ends (third t u w place.lambda begins) (x.result ∷ []) (goes (k.lambda x.argument x.result ∷ A)) small in
    (subst IsTyped (sym (at_third t u w none place.lambda begins)) (typed_body w (1 + size t + size u) place.lambda begins g), tt)
rec_three t u w (fault l) A h = absurd h

pub lambda_recs : (ts : Trees) (c : Context) (A : List Kind) →
    IsTyped (on_found (lambda_of ts) (λ x. last_body (bodies ts 1) (λ b. lambda_rec_type x b A))) → AllTyped ts (blocks f.lambda_rec ts c A)
lambda_recs (more t (more u (more w none))) c A h = rec_three t u w (lambda_of (more t (more u (more w none)))) A h
lambda_recs none c A h = absurd h
lambda_recs (more t none) c A h = absurd h
lambda_recs (more t (more u none)) c A h = absurd h
lambda_recs (more t (more u (more w (more x ts)))) c A h = absurd h

-- ---- PUSH

abbrev typing_at : Trees → ℕ → Typer
typing_at ts l c A = shift l (typing_of (slice_get (typings ts) (l - 1)) c A)

not_first : (o p : Option ℕ) → first_fault o p ≡ None → (o ≡ None) × (p ≡ None)
not_first None p e = (refl, e)
not_first (Some l) p e = absurd cc

no_fault : (at : ℕ) (t : Typing) (r : Kind) → body_fault at t r ≡ None → IsTyped t
no_fault at (goes B) r e = tt
no_fault at fails r e = tt
no_fault at (bad l) r e = absurd cc

pending_typed : (ts : Trees) (ps : List Pending) → bodies_fault (λ l t. typing_at ts l) ps ≡ None → AllTyped ts (pending_blocks ps)
pending_typed ts [] e = tt
pending_typed ts (body at a r recursive t ∷ ps) e =
    let begins : List Kind = call_kinds a r recursive in
    let es = not_first (body_fault at (typing_at ts at place.lambda begins) r) (bodies_fault (λ l t. typing_at ts l) ps) e in
    (typed_shift at (typing_in ts (block at place.lambda begins)) (no_fault at (typing_at ts at place.lambda begins) r es.0), pending_typed ts ps es.1)
pending_typed ts (claim at b a ∷ ps) e = pending_typed ts ps e

unless_typed : (o : Option ℕ) (t : Typing) → IsTyped (unless_fault o t) → o ≡ None
unless_typed None t h = refl
unless_typed (Some l) t h = absurd h

literal_typed : (ts : Trees) (a : Kind) (A : List Kind) (e : Literal Val) → IsTyped (of_literal (typing_at ts) a A e) → AllTyped ts (literal_blocks e)
literal_typed ts a A (good x ps) h = pending_typed ts ps (unless_typed (bodies_fault (λ l t. typing_at ts l) ps) (goes (a ∷ A)) h)
literal_typed ts a A (bad l) h = tt

push_typed : (ts : Trees) (q : Found Pushed) (A : List Kind) → IsTyped (on_found q (λ p. push_type p (typing_at ts) A)) →
    AllTyped ts (blocks_of.on_found q (λ p. literal_blocks (read p.kind p.location p.literal)))
push_typed ts (found p) A h = literal_typed ts p.kind A (read p.kind p.location p.literal) h
push_typed ts (fault l) A h = absurd h

pub pushes : (ts : Trees) (c : Context) (A : List Kind) → IsTyped (on_found (push_of ts) (λ p. push_type p (typing_at ts) A)) → AllTyped ts (blocks f.push ts c A)
pushes ts c A h = push_typed ts (push_of ts) A h
