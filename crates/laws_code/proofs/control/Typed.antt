-- The types after code that is typed are types.
use Rattle.std.proofs.Common.{◌≡◌, ℕ, zero, suc, ◌+◌, ◌≤◌, nat_le, Bool, true, false, ◌&&◌, List, [], ◌∷◌, length, take, drop, Option, Some, None, refl, arith}
use Rattle.std.specs.Prelude.{if◌then◌else◌}
use Rattle.std.proofs.lemmas.Bool.{leb-true}
use Rattle.rules_text.specs.nodes.Limits.{type_limit}
use Rattle.rules_text.specs.nodes.Tree.{Tree, int, str, bytes, prim, seq, Trees, none, more, size}
use Rattle.rules_text.specs.nodes.Primitives.{primitive_of_name}
use Rattle.rules_text.specs.declared.nodes.Primitive.{Primitive}
use Rattle.rules_data.specs.types.Kind.{Kind, nodes}
use Rattle.rules_data.specs.types.Kind as k
use Rattle.rules_data.specs.types.Attributes.{pushable}
use Rattle.rules_data.specs.types.Entrypoints.{Entry, find_entry}
use Rattle.std.specs.Str.{bytes_eq}
use Rattle.rules_data.specs.values.Val.{Val}
use Rattle.rules_data.specs.values.Literals.{Literal, read}
use Rattle.rules_data.specs.values.Literals as reading
use Rattle.rules_code.specs.instructions.Types as ty
use Rattle.rules_code.specs.instructions.Same.{same_kind}
use Rattle.rules_code.specs.instructions.Context.{Context}
use Rattle.rules_code.specs.instructions.Context as place
use Rattle.rules_code.specs.instructions.Arguments.{Found, found, fault}
use Rattle.rules_code.specs.instructions.Rules.{Ruled, ruled, faulty, rule}
use Rattle.rules_code.specs.instructions.Control.{push_of, dip_of, Arrow, lambda_of, self_of}
use Rattle.rules_code.specs.instructions.Forms.{Form, form_of}
use Rattle.rules_code.specs.instructions.Forms as f
use Rattle.rules_code.specs.typing.Typing.{Typing, goes, fails, bad, Typer, made, ends, under, mapped}
use Rattle.rules_code.specs.typing.Stacks as asked
use Rattle.rules_code.specs.typing.Scripts.{Script}
use Rattle.rules_code.specs.typing.Acts.{Meanings, of_rule, outside_views, unless_fault, of_literal, lambda_rec_type, of_entry, self_type, of_script, act_type}
use Rattle.rules_code.specs.typing.Bodies.{bodies_fault}
use Rattle.rules_code.specs.typing.Nodes.{tree_type, trees_type, bodies, body}
use Rattle.laws_code.specs.evaluation.Laws.{IsType}
use Rattle.laws_code.specs.stacks.Sound.{AllTypes}
use Rattle.laws_code.proofs.stacks.ForCallers.{type_option, type_list, type_left, type_right, type_result, type_entry}
use Rattle.laws_code.proofs.typed.ForCallers.{RuledTypes, rule_taken, EntriesAreTypes, HasTypes, Types, TypesKept, types_shift, types_block, types_if, types_join, types_ends, types_under, types_made, types_mapped, types_found, AllKept, none_kept, one_kept, two_kept, last_kept, PushedType, push_read, ArrowTypes, lambda_read, any_found}

-- ---- instructions

types_ruled : (r : Ruled) (A : List Kind) → RuledTypes r A → Types (of_rule r)
types_ruled (ruled r B) A h = h.types
types_ruled (faulty l) A h = tt

types_outside : (c : Context) (t : Typing) → Types t → Types (outside_views c t)
types_outside (place.main es) t h = h
types_outside place.view t h = tt
types_outside place.lambda t h = h

types_unless : (o : Option ℕ) (t : Typing) → Types t → Types (unless_fault o t)
types_unless (Some l) t h = tt
types_unless None t h = h

types_literal : (typing_at : ℕ → Typer) (a : Kind) (A : List Kind) (x : Literal Val) → IsType a → AllTypes A →
    Types (of_literal typing_at a A x)
types_literal typing_at a A (reading.good x ps) h g = types_unless (bodies_fault (λ l t. typing_at l) ps) (goes (a ∷ A)) (h, g)
types_literal typing_at a A (reading.bad l) h g = tt

take_types : (n : ℕ) (A : List Kind) → AllTypes A → AllTypes (take n A)
take_types zero A h = tt
take_types (suc n) [] h = tt
take_types (suc n) (a ∷ A) h = (h.0, take_types n A h.1)

drop_types : (n : ℕ) (A : List Kind) → AllTypes A → AllTypes (drop n A)
drop_types zero A h = h
drop_types (suc n) [] h = tt
drop_types (suc n) (a ∷ A) h = drop_types n A h.1

types_rec : (x : Arrow) (b : Typer) (A : List Kind) → ArrowTypes x → AllTypes A → Types (lambda_rec_type x b A)
types_rec x b A h g = by_test (nat_le (nodes (k.lambda x.argument x.result)) type_limit) refl
  where
    by_test : (q : Bool) → nat_le (nodes (k.lambda x.argument x.result)) type_limit ≡ q →
        Types (if q then ends (b place.lambda (x.argument ∷ k.lambda x.argument x.result ∷ [])) (x.result ∷ [])
        (goes (k.lambda x.argument x.result ∷ A)) else bad 0)
    by_test true e = types_ends (b place.lambda (x.argument ∷ k.lambda x.argument x.result ∷ [])) (x.result ∷ [])
        (goes (k.lambda x.argument x.result ∷ A))
        (((h.0.0, h.1.0), leb-true (nodes (k.lambda x.argument x.result)) type_limit e), g)
    by_test false e = tt

entry_types : (name : List ℕ) (es : List Entry) (A : List Kind) → EntriesAreTypes es → AllTypes A →
    Types (of_entry (find_entry name es) A)
entry_types name [] A h g = tt
entry_types name (e ∷ es) A h g = by_test (bytes_eq e.name name) (entry_types name es A h.2 g)
  where
    by_test : (b : Bool) → Types (of_entry (find_entry name es) A) → Types (of_entry (if b then Some e else find_entry name es) A)
    by_test true r = types_made (k.contract e.kind) A (h.0, h.1) g
    by_test false r = r

self_types : (name : List ℕ) (c : Context) (A : List Kind) → HasTypes c → AllTypes A → Types (self_type name c A)
self_types name (place.main es) A h g = entry_types name es A h g
self_types name place.view A h g = tt
self_types name place.lambda A h g = tt

script_types : (x : Found Script) (a : Kind) (A : List Kind) → AllTypes A → Types (of_script x a A)
script_types (found s) a A h = types_if (same_kind s.storage a) (goes (k.operation ∷ ty.address ∷ A)) 0
    ((tt, omega arith), ((tt, omega arith), h))
script_types (fault l) a A h = tt

module _ (m : Meanings) (kept : AllKept m.bodies) (c : Context) (hc : HasTypes c) where
  on_bool_types : (A : List Kind) (next : List Kind → Typing) → AllTypes A → ((A : List Kind) → AllTypes A → Types (next A)) →
      Types (asked.on_bool A next)
  on_bool_types (ty.bool ∷ A) next h g = g A h.1
  on_bool_types _ next h g = tt

  on_option_types : (A : List Kind) (next : Kind → List Kind → Typing) → AllTypes A →
      ((a : Kind) (A : List Kind) → IsType a → AllTypes A → Types (next a A)) → Types (asked.on_option A next)
  on_option_types (k.option a ∷ A) next h g = g a A (type_option a h.0) h.1
  on_option_types _ next h g = tt

  on_or_types : (A : List Kind) (next : Kind → Kind → List Kind → Typing) → AllTypes A →
      ((a b : Kind) (A : List Kind) → IsType (k.or a b) → AllTypes A → Types (next a b A)) → Types (asked.on_or A next)
  on_or_types (k.or a b ∷ A) next h g = g a b A h.0 h.1
  on_or_types _ next h g = tt

  on_list_types : (A : List Kind) (next : Kind → List Kind → Typing) → AllTypes A →
      ((a : Kind) (A : List Kind) → IsType (k.list a) → AllTypes A → Types (next a A)) → Types (asked.on_list A next)
  on_list_types (k.list a ∷ A) next h g = g a A h.0 h.1
  on_list_types _ next h g = tt

  iter_types : (A : List Kind) (b : Typer) → AllTypes A → Types (asked.on_parts A (λ a A. ends (b c (a ∷ A)) A (goes A)))
  iter_types (k.list a ∷ A) b h = types_ends (b c (a ∷ A)) A (goes A) h.1
  iter_types (k.set a ∷ A) b h = types_ends (b c (a ∷ A)) A (goes A) h.1
  iter_types (k.map a d ∷ A) b h = types_ends (b c (k.pair a d ∷ A)) A (goes A) h.1
  iter_types _ b h = tt

  map_types : (A : List Kind) (b : Typer) → TypesKept b → AllTypes A →
      Types (asked.on_mapped A (λ a new A. mapped (b c (a ∷ A)) new A))
  map_types (k.list a ∷ A) b bk h = types_mapped (b c (a ∷ A)) k.list A (bk c hc (a ∷ A) (type_list a h.0, h.1)) (λ a i. i) h.1
  map_types (k.option a ∷ A) b bk h = types_mapped (b c (a ∷ A)) k.option A (bk c hc (a ∷ A) (type_option a h.0, h.1))
      (λ a i. i) h.1
  map_types (k.map a d ∷ A) b bk h = types_mapped (b c (k.pair a d ∷ A)) (k.map a) A
      (bk c hc (k.pair a d ∷ A) (type_entry a d h.0, h.1)) (λ z i. (h.0.0.0, h.0.0.1, i)) h.1
  map_types _ b bk h = tt

  call_types : (A : List Kind) → AllTypes A → Types (asked.on_call A (λ r A. goes (r ∷ A)))
  call_types (a ∷ k.lambda b r ∷ A) h = types_if (same_kind a b) (goes (r ∷ A)) 0 (type_result b r h.1.0, h.1.1)
  call_types _ h = tt

  captured_types : (A : List Kind) → AllTypes A → Types (asked.on_captured A (λ b r A. goes (k.lambda b r ∷ A)))
  captured_types (a ∷ k.lambda (k.pair b d) r ∷ A) h =
      let n : nodes (k.lambda (k.pair b d) r) ≤ type_limit = h.1.0.1 in
      types_if (same_kind a b && pushable a) (goes (k.lambda d r ∷ A)) 0 (((h.1.0.0.0.1, h.1.0.0.1), omega arith), h.1.1)
  captured_types _ h = tt

  shown_types : (A : List Kind) → Types (asked.on_shown A)
  shown_types [] = tt
  shown_types (a ∷ A) = types_if (pushable a) fails 0 tt

  never_types : (A : List Kind) → Types (asked.on_never A)
  never_types (ty.never ∷ A) = tt
  never_types _ = tt

  create_types : (A : List Kind) → AllTypes A → Types (asked.on_origination A (λ g A. of_script (m.script 1) g A))
  create_types (k.option ty.key_hash ∷ ty.mutez ∷ g ∷ A) h = script_types (m.script 1) g A h.1.1.1
  create_types _ h = tt

  pub act_types : (form : Form) (name : Option Primitive) (annots : List (List ℕ)) (ts : Trees) (A : List Kind) → AllTypes A →
      Types (act_type form name annots ts m c A)
  act_types f.straight name annots ts A h = types_ruled (rule name annots ts A) A (rule_taken name annots ts A h)
  act_types f.transfer name annots ts A h = types_outside c _
      (types_ruled (rule name annots ts A) A (rule_taken name annots ts A h))
  act_types f.push name annots ts A h = types_found PushedType (push_of ts) _ (push_read ts)
      (λ p g. types_literal m.typing_at p.kind A (read p.kind p.location p.literal) g.1 h)
  act_types f.dip name annots ts A h =
      types_found (λ n. Unit {0}) (dip_of ts) _ (any_found (dip_of ts))
      (λ n _. last_kept m.bodies _ kept (λ b bk. types_if (nat_le n (length A)) (under (take n A) (b c (drop n A))) 0
      (types_under (take n A) (b c (drop n A)) (take_types n A h) (bk c hc (drop n A) (drop_types n A h)))))
  act_types f.lambda name annots ts A h =
      types_found ArrowTypes (lambda_of ts) _ (lambda_read ts)
      (λ x g. last_kept m.bodies _ kept (λ b bk. types_ends (b place.lambda (x.argument ∷ [])) (x.result ∷ [])
      (made (k.lambda x.argument x.result) A) (types_made (k.lambda x.argument x.result) A (g.0.0, g.1.0) h)))
  act_types f.lambda_rec name annots ts A h = types_found ArrowTypes (lambda_of ts) _ (lambda_read ts)
      (λ x g. last_kept m.bodies _ kept (λ b bk. types_rec x b A g h))
  act_types f.exec name annots ts A h = none_kept m.bodies _ (call_types A h)
  act_types f.apply name annots ts A h = none_kept m.bodies _ (captured_types A h)
  act_types f.if_bool name annots ts A h = two_kept m.bodies _ kept
      (λ b d bk dk. on_bool_types A _ h (λ A h. types_join (b c A) (d c A) (bk c hc A h) (dk c hc A h)))
  act_types f.if_none name annots ts A h = two_kept m.bodies _ kept
      (λ b d bk dk. on_option_types A _ h (λ a A i h. types_join (b c A) (d c (a ∷ A)) (bk c hc A h) (dk c hc (a ∷ A) (i, h))))
  act_types f.if_left name annots ts A h = two_kept m.bodies _ kept
      (λ b d bk dk. on_or_types A _ h (λ l r A i h. types_join (b c (l ∷ A)) (d c (r ∷ A))
      (bk c hc (l ∷ A) (type_left l r i, h)) (dk c hc (r ∷ A) (type_right l r i, h))))
  act_types f.if_cons name annots ts A h = two_kept m.bodies _ kept
      (λ b d bk dk. on_list_types A _ h (λ a A i h. types_join (b c (a ∷ k.list a ∷ A)) (d c A)
      (bk c hc (a ∷ k.list a ∷ A) (type_list a i, (i, h))) (dk c hc A h)))
  act_types f.loop name annots ts A h = one_kept m.bodies _ kept
      (λ b bk. on_bool_types A _ h (λ A h. types_ends (b c A) (ty.bool ∷ A) (goes A) h))
  act_types f.loop_left name annots ts A h = one_kept m.bodies _ kept
      (λ b bk. on_or_types A _ h (λ l r A i h. types_ends (b c (l ∷ A)) (k.or l r ∷ A) (goes (r ∷ A)) (type_right l r i, h)))
  act_types f.iter name annots ts A h = one_kept m.bodies _ kept (λ b bk. iter_types A b h)
  act_types f.map name annots ts A h = one_kept m.bodies _ kept (λ b bk. map_types A b bk h)
  act_types f.failwith name annots ts A h = none_kept m.bodies _ (shown_types A)
  act_types f.never name annots ts A h = none_kept m.bodies _ (never_types A)
  act_types f.self name annots ts A h = types_found (λ n. Unit {0}) (self_of annots ts) _ (any_found (self_of annots ts))
      (λ name _. self_types name c A hc h)
  act_types f.create_contract name annots ts A h = types_outside c _ (one_kept m.bodies _ kept (λ b bk. create_types A h))

-- ---- nodes

mutual
  pub tree_types : (t : Tree) → TypesKept (tree_type t)
  tree_types (int n) c hc A h = tt
  tree_types (str s) c hc A h = tt
  tree_types (bytes b) c hc A h = tt
  tree_types (prim name annots ts) c hc A h = act_types _ (bodies_types ts 1) c hc (form_of (primitive_of_name name))
      (primitive_of_name name) annots ts A h
  tree_types (seq ts) c hc A h = types_shift 1 (trees_type ts c A) (trees_types ts c hc A h)

  pub trees_types : (ts : Trees) → TypesKept (trees_type ts)
  trees_types none c hc A h = h
  trees_types (more t ts) c hc A h = types_block (tree_type t c A) ts _ (tree_types t c hc A h)
      (λ B i. types_shift (size t) (trees_type ts c B) (trees_types ts c hc B i))

  bodies_types : (ts : Trees) (at : ℕ) → AllKept (bodies ts at)
  bodies_types none at = tt
  bodies_types (more t ts) at = (body_types t at, bodies_types ts (at + size t))

  body_types : (t : Tree) (at : ℕ) → TypesKept (body t at)
  body_types (seq ts) at c hc A h = types_shift (at + 1) (trees_type ts c A) (trees_types ts c hc A h)
  body_types (int n) at c hc A h = tt
  body_types (str s) at c hc A h = tt
  body_types (bytes b) at c hc A h = tt
  body_types (prim name annots ts) at c hc A h = tt
