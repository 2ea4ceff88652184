-- The types of the blocks of accepted instructions are types.
use Rattle.std.proofs.Common.{◌≡◌, ℕ, zero, suc, ◌≤◌, Bool, true, false, cond, List, [], ◌∷◌, refl, drop, arith}
use Rattle.std.specs.Prelude.{nat_le}
use Rattle.std.proofs.lemmas.Bool.{leb-true}
use Rattle.rules_text.specs.nodes.Limits.{type_limit}
use Rattle.rules_text.specs.nodes.Tree.{Trees, none, more}
use Rattle.rules_data.specs.types.Kind.{Kind, nodes}
use Rattle.rules_data.specs.types.Kind as k
use Rattle.rules_data.specs.values.Val.{Val}
use Rattle.rules_data.specs.values.Literals.{Pending, body, claim, Literal, good, bad, read}
use Rattle.rules_code.specs.instructions.Types as types
use Rattle.rules_code.specs.instructions.Context.{Context}
use Rattle.rules_code.specs.instructions.Context as place
use Rattle.rules_code.specs.instructions.Arguments.{Found, found, fault}
use Rattle.rules_code.specs.instructions.Control.{Pushed, push_of, dip_of, Arrow, lambda_of, call_kinds}
use Rattle.rules_code.specs.instructions.Forms as f
use Rattle.rules_code.specs.typing.Typing.{Typing, goes, Typer, on_found, ends}
use Rattle.rules_code.specs.typing.Typing as typing
use Rattle.rules_code.specs.typing.Acts.{lambda_rec_type, last_body}
use Rattle.rules_code.specs.typing.Nodes.{bodies}
use Rattle.rules_code.specs.certificates.Blocks.{Block, block, blocks, last_location, pending_blocks, literal_blocks}
use Rattle.rules_code.specs.certificates.Blocks as blocks_of
use Rattle.laws_code.specs.evaluation.Laws.{IsType}
use Rattle.laws_code.specs.stacks.Sound.{AllTypes}
use Rattle.laws_code.proofs.stacks.ForCallers.{type_option, type_list, type_left, type_right, type_element, type_entry}
use Rattle.laws_code.proofs.typed.ForCallers.{HasTypes, PushedType, ArrowTypes, push_read, lambda_read}
use Rattle.laws_code.proofs.typed.Carried.{FoundHas}
use Rattle.laws_files.specs.certificates.Laws.{IsTyped}
use Rattle.laws_files.proofs.certificates_lemmas.Pending.{HaveTypes, Fine, fine}

-- the types of a block, and the entrypoints of its context
abbrev pub BlockTypes : List Block → Type 0
BlockTypes [] = Unit {0}
BlockTypes (b ∷ bs) = (HasTypes b.context × AllTypes b.stack) × BlockTypes bs

one : (at : ℕ) (c : Context) (A : List Kind) → HasTypes c → AllTypes A → BlockTypes (block at c A ∷ [])
one at c A h g = ((h, g), tt)

drop_types : (n : ℕ) (A : List Kind) → AllTypes A → AllTypes (drop n A)
drop_types zero A h = h
drop_types (suc n) [] h = tt
drop_types (suc n) (a ∷ A) h = drop_types n A h.1

dip_types : (q : Found ℕ) (at : ℕ) (c : Context) (A : List Kind) → HasTypes c → AllTypes A → BlockTypes (blocks_of.on_found q (λ n. block at c (drop n A) ∷ []))
dip_types (found n) at c A h g = one at c (drop n A) h (drop_types n A g)
dip_types (fault l) at c A h g = tt

lambda_types : (q : Found Arrow) (at : ℕ) → FoundHas ArrowTypes q → BlockTypes (blocks_of.on_found q (λ x. block at place.lambda (x.argument ∷ []) ∷ []))
lambda_types (found x) at h = ((tt, (h.0, tt)), tt)
lambda_types (fault l) at h = tt

-- the lambda's own type is within the limit where LAMBDA_REC is accepted
abbrev RecTypes : Found Arrow → Type 0
RecTypes (found x) = ArrowTypes x × (nodes (k.lambda x.argument x.result) ≤ type_limit)
RecTypes (fault l) = Unit {0}

small_rec : (x : Arrow) (b : Typer) (A : List Kind) → IsTyped (lambda_rec_type x b A) → nodes (k.lambda x.argument x.result) ≤ type_limit
small_rec x b A h = by (nat_le (nodes (k.lambda x.argument x.result)) type_limit) refl h
  where
    by : (q : Bool) → nat_le (nodes (k.lambda x.argument x.result)) type_limit ≡ q →
        IsTyped (cond q (ends (b place.lambda (call_kinds x.argument x.result true)) (x.result ∷ []) (goes (k.lambda x.argument x.result ∷ A))) (typing.bad 0)) →
        nodes (k.lambda x.argument x.result) ≤ type_limit
    by true e h = leb-true (nodes (k.lambda x.argument x.result)) type_limit e
    by false e h = absurd h

small_last : (bs : List Typer) (x : Arrow) (A : List Kind) → IsTyped (last_body bs (λ b. lambda_rec_type x b A)) → nodes (k.lambda x.argument x.result) ≤ type_limit
small_last [] x A h = absurd h
small_last (b ∷ []) x A h = small_rec x b A h
small_last (b ∷ d ∷ bs) x A h = small_last (d ∷ bs) x A h

rec_found : (q : Found Arrow) (bs : List Typer) (A : List Kind) → FoundHas ArrowTypes q → IsTyped (on_found q (λ x. last_body bs (λ b. lambda_rec_type x b A))) → RecTypes q
rec_found (found x) bs A h g = (h, small_last bs x A g)
rec_found (fault l) bs A h g = tt

rec_types : (q : Found Arrow) (at : ℕ) → RecTypes q → BlockTypes (blocks_of.on_found q (λ x. block at place.lambda (call_kinds x.argument x.result true) ∷ []))
rec_types (found x) at h = ((tt, (h.0.0, (((h.0.0.0, h.0.1.0), h.1), tt))), tt)
rec_types (fault l) at h = tt

pending_types : (ps : List Pending) → HaveTypes ps → BlockTypes (pending_blocks ps)
pending_types [] h = tt
pending_types (body at a r true t ∷ ps) h =
    let lambda : IsType (k.lambda a r) = h.0 in
    let n : nodes (k.lambda a r) ≤ type_limit = lambda.1 in
    ((tt, ((lambda.0.0, omega arith), (lambda, tt))), pending_types ps h.1)
pending_types (body at a r false t ∷ ps) h =
    let lambda : IsType (k.lambda a r) = h.0 in
    let n : nodes (k.lambda a r) ≤ type_limit = lambda.1 in
    ((tt, ((lambda.0.0, omega arith), tt)), pending_types ps h.1)
pending_types (claim at b a ∷ ps) h = pending_types ps h.1

literal_types : (e : Literal Val) → Fine e → BlockTypes (literal_blocks e)
literal_types (good x ps) h = pending_types ps h
literal_types (bad l) h = tt

push_types : (q : Found Pushed) → FoundHas PushedType q → BlockTypes (blocks_of.on_found q (λ p. literal_blocks (read p.kind p.location p.literal)))
push_types (found p) h = literal_types (read p.kind p.location p.literal) (fine p.kind h.1 p.location p.literal)
push_types (fault l) h = tt

pub pushed_types : (ts : Trees) (c : Context) (A : List Kind) → BlockTypes (blocks f.push ts c A)
pushed_types ts c A = push_types (push_of ts) (push_read ts)

pub dipped_types : (ts : Trees) (c : Context) (A : List Kind) → HasTypes c → AllTypes A → BlockTypes (blocks f.dip ts c A)
dipped_types ts c A h g = dip_types (dip_of ts) (last_location ts 1) c A h g

pub lambdas_types : (ts : Trees) (c : Context) (A : List Kind) → BlockTypes (blocks f.lambda ts c A)
lambdas_types ts c A = lambda_types (lambda_of ts) (last_location ts 1) (lambda_read ts)

pub recs_types : (ts : Trees) (c : Context) (A : List Kind) → IsTyped (on_found (lambda_of ts) (λ x. last_body (bodies ts 1) (λ b. lambda_rec_type x b A))) →
    BlockTypes (blocks f.lambda_rec ts c A)
recs_types ts c A h = rec_types (lambda_of ts) (last_location ts 1) (rec_found (lambda_of ts) (bodies ts 1) A (lambda_read ts) h)

module _ (c : Context) (hc : HasTypes c) where
  pub if_types : (ts : Trees) (A : List Kind) → AllTypes A → BlockTypes (blocks f.if_bool ts c A)
  if_types (more t (more u none)) (types.bool ∷ A) h = ((hc, h.1), ((hc, h.1), tt))
  if_types _ _ h = tt

  pub if_none_types : (ts : Trees) (A : List Kind) → AllTypes A → BlockTypes (blocks f.if_none ts c A)
  if_none_types (more t (more u none)) (k.option a ∷ A) h = ((hc, h.1), ((hc, (type_option a h.0, h.1)), tt))
  if_none_types _ _ h = tt

  pub if_left_types : (ts : Trees) (A : List Kind) → AllTypes A → BlockTypes (blocks f.if_left ts c A)
  if_left_types (more t (more u none)) (k.or a b ∷ A) h = ((hc, (type_left a b h.0, h.1)), ((hc, (type_right a b h.0, h.1)), tt))
  if_left_types _ _ h = tt

  pub if_cons_types : (ts : Trees) (A : List Kind) → AllTypes A → BlockTypes (blocks f.if_cons ts c A)
  if_cons_types (more t (more u none)) (k.list a ∷ A) h = ((hc, (type_list a h.0, h)), ((hc, h.1), tt))
  if_cons_types _ _ h = tt

  pub loop_types : (ts : Trees) (A : List Kind) → AllTypes A → BlockTypes (blocks f.loop ts c A)
  loop_types (more t none) (types.bool ∷ A) h = ((hc, h.1), tt)
  loop_types _ _ h = tt

  pub loop_left_types : (ts : Trees) (A : List Kind) → AllTypes A → BlockTypes (blocks f.loop_left ts c A)
  loop_left_types (more t none) (k.or a b ∷ A) h = ((hc, (type_left a b h.0, h.1)), tt)
  loop_left_types _ _ h = tt

  pub iter_types : (ts : Trees) (A : List Kind) → AllTypes A → BlockTypes (blocks f.iter ts c A)
  iter_types (more t none) (k.list a ∷ A) h = ((hc, (type_list a h.0, h.1)), tt)
  iter_types (more t none) (k.set a ∷ A) h = ((hc, (type_element a h.0, h.1)), tt)
  iter_types (more t none) (k.map a b ∷ A) h = ((hc, (type_entry a b h.0, h.1)), tt)
  iter_types _ _ h = tt

  pub map_types : (ts : Trees) (A : List Kind) → AllTypes A → BlockTypes (blocks f.map ts c A)
  map_types (more t none) (k.list a ∷ A) h = ((hc, (type_list a h.0, h.1)), tt)
  map_types (more t none) (k.option a ∷ A) h = ((hc, (type_option a h.0, h.1)), tt)
  map_types (more t none) (k.map a b ∷ A) h = ((hc, (type_entry a b h.0, h.1)), tt)
  map_types _ _ h = tt
