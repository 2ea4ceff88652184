-- Where typing says that typed code goes to types, these are those that the code leads to.
use Rattle.std.proofs.Common.{◌≡◌, ◌+◌, ℕ, true, false, List, [], ◌∷◌, ◌++◌, Option, Some, refl, sym, ◌∙◌, subst, take, drop, length, nat_le}
use Rattle.std.specs.Prelude.{◌&&◌}
use Rattle.rules_text.specs.nodes.Limits.{type_limit}
use Rattle.rules_text.specs.nodes.Tree.{Tree, Trees, prim, seq, none, more, size}
use Rattle.rules_text.specs.nodes.Primitives.{primitive_of_name}
use Rattle.rules_data.specs.types.Kind.{Kind, nodes}
use Rattle.rules_data.specs.types.Kind as k
use Rattle.rules_data.specs.types.Attributes.{pushable}
use Rattle.rules_data.specs.types.Entrypoints.{Entry, find_entry}
use Rattle.rules_code.specs.instructions.Types as t
use Rattle.rules_code.specs.instructions.Context.{Context}
use Rattle.rules_code.specs.instructions.Context as place
use Rattle.rules_code.specs.instructions.Control.{Arrow, call_kinds}
use Rattle.rules_code.specs.instructions.Forms as f
use Rattle.rules_code.specs.instructions.Rules.{Ruled, rule, ruled}
use Rattle.rules_code.specs.instructions.Same.{same_kind}
use Rattle.rules_code.specs.typing.Typing.{Typing, goes, fails, shift, on_found}
use Rattle.rules_code.specs.typing.Acts.{act_type, of_rule, dip_type, lambda_type, lambda_rec_type, self_type, of_entry}
use Rattle.rules_code.specs.typing.Nodes.{tree_type, trees_type}
use Rattle.mich_instr.specs.Code.{Code, Codes}
use Rattle.mich_instr.specs.Typed.{HasForm, to_list, to_option, to_map, of_list, of_set, of_map, IsCode, AreCode}
use Rattle.mich_instr.specs.Typed as typed
use Rattle.mich_instr.proofs.bodies.Sayings.{type_is, Says, says_shift, says_if, says_join, says_ends, says_under, says_made, says_mapped, says_block, part_shift}

module _ (form : f.Form) (name : List ℕ) (annots : List (List ℕ)) (ts : Trees) (c : Context) (A : List Kind) (has_form : HasForm form name) where
  -- what is said of an instruction of a form
  form_says : (B : List Kind) → Says (act_type form (primitive_of_name name) annots ts (Rattle.mich_instr.proofs.bodies.Sayings.meanings ts) c A) B → Says (tree_type (prim name annots ts) c A) B
  form_says B h = subst (λ t. Says t B) (sym (type_is form name annots ts c A has_form)) h

rule_says : (x : Ruled) (r : Rattle.rules_code.specs.instructions.Straight.Straight) (B : List Kind) → x ≡ ruled r B → Says (of_rule x) B
rule_says x r B e = subst (λ x. Says (of_rule x) B) (sym e) refl

goes_says : (t : Typing) (B : List Kind) → t ≡ goes B → Says t B
goes_says t B e = subst (λ t. Says t B) (sym e) refl

rec_says : (x : Arrow) (b : Rattle.rules_code.specs.typing.Typing.Typer) (A : List Kind) → Says (lambda_rec_type x b A) (k.lambda x.argument x.result ∷ A)
rec_says x b A =
    says_if (nat_le (nodes (k.lambda x.argument x.result)) type_limit) _ 0 _
    (says_ends (b place.lambda (call_kinds x.argument x.result true)) (x.result ∷ []) (goes (k.lambda x.argument x.result ∷ A)) _ refl)

entry_says : (o : Option Entry) (e : Entry) (A : List Kind) → o ≡ Some e → Says (of_entry o A) (k.contract e.kind ∷ A)
entry_says o e A same = subst (λ o. Says (of_entry o A) (k.contract e.kind ∷ A)) (sym same) (says_made (k.contract e.kind) A)

mutual
  pub code_says : {c : Context} {t : Tree} {i : Code} {A B : List Kind} → IsCode c t i A B → Says (tree_type t c A) B
  code_says (typed.is_seq {c = c} {ts = ts} {A = A} {B = B} x) = says_shift 1 (trees_type ts c A) B (codes_say x)
  code_says (typed.is_straight {c = c} {name = name} {annots = annots} {ts = ts} {r = r} {A = A} {B = B} form e) =
      form_says f.straight name annots ts c A form B (rule_says (rule (primitive_of_name name) annots ts A) r B e)
  code_says (typed.is_transfer {c = c} {name = name} {annots = annots} {ts = ts} {A = A} {B = B} form e g) = goes_says (tree_type (prim name annots ts) c A) B g
  code_says (typed.is_push {c = c} {name = name} {annots = annots} {t = t} {u = u} {p = p} {A = A} form e g reads held) =
      goes_says (tree_type (prim name annots (more t (more u none))) c A) (p.kind ∷ A) g
  code_says (typed.is_dip {c = c} {name = name} {annots = annots} {ts = ts} {S = S} {C = C} form le x) =
      form_says f.dip name annots (more (seq ts) none) c S form (take 1 S ++ C)
      (says_if (nat_le 1 (length S)) _ 0 _ (says_under (take 1 S) (shift 2 (trees_type ts c (drop 1 S))) C (says_shift 2 (trees_type ts c (drop 1 S)) C (codes_say x))))
  code_says (typed.is_dip_by {c = c} {name = name} {annots = annots} {t = t} {ts = ts} {n = n} {S = S} {C = C} form e le x) =
      form_says f.dip name annots (more t (more (seq ts) none)) c S form (take n S ++ C)
      (subst (λ y. Says (on_found y (λ n. dip_type n (λ c A. shift (1 + size t + 1) (trees_type ts c A)) c S)) (take n S ++ C)) (sym e)
      (says_if (nat_le n (length S)) _ 0 _ (says_under (take n S) (shift (1 + size t + 1) (trees_type ts c (drop n S))) C (says_shift (1 + size t + 1) (trees_type ts c (drop n S)) C (codes_say x)))))
  code_says (typed.is_lambda {c = c} {name = name} {annots = annots} {recursive = false} {t = t} {u = u} {ts = ts} {x = x} {A = A} form e y) =
      form_says f.lambda name annots (more t (more u (more (seq ts) none))) c A form (k.lambda x.argument x.result ∷ A)
      (subst (λ z. Says (on_found z (λ x. lambda_type x (λ c A. shift (1 + size t + size u + 1) (trees_type ts c A)) A)) (k.lambda x.argument x.result ∷ A)) (sym e)
      (says_ends (shift (1 + size t + size u + 1) (trees_type ts place.lambda (x.argument ∷ []))) (x.result ∷ []) _ _ (says_made (k.lambda x.argument x.result) A)))
  code_says (typed.is_lambda {c = c} {name = name} {annots = annots} {recursive = true} {t = t} {u = u} {ts = ts} {x = x} {A = A} form e y) =
      form_says f.lambda_rec name annots (more t (more u (more (seq ts) none))) c A form (k.lambda x.argument x.result ∷ A)
      (subst (λ z. Says (on_found z (λ x. lambda_rec_type x (λ c A. shift (1 + size t + size u + 1) (trees_type ts c A)) A)) (k.lambda x.argument x.result ∷ A)) (sym e)
      (rec_says x (λ c A. shift (1 + size t + size u + 1) (trees_type ts c A)) A))
  code_says (typed.is_exec {c = c} {name = name} {annots = annots} {a = a} {r = r} {A = A} form) =
      form_says f.exec name annots none c (a ∷ k.lambda a r ∷ A) form (r ∷ A) (says_if (same_kind a a) (goes (r ∷ A)) 0 (r ∷ A) refl)
  code_says (typed.is_apply {c = c} {name = name} {annots = annots} {a = a} {b = b} {r = r} {A = A} form) =
      form_says f.apply name annots none c (a ∷ k.lambda (k.pair a b) r ∷ A) form (k.lambda b r ∷ A)
      (says_if (same_kind a a && pushable a) (goes (k.lambda b r ∷ A)) 0 (k.lambda b r ∷ A) refl)
  code_says (typed.is_if {c = c} {name = name} {annots = annots} {ts = ts} {us = us} {A = A} {B = B} form x y) =
      form_says f.if_bool name annots (more (seq ts) (more (seq us) none)) c (t.bool ∷ A) form B
      (says_join _ _ B (says_shift _ (trees_type ts c A) B (codes_say x)) (says_shift _ (trees_type us c A) B (codes_say y)))
  code_says (typed.is_if_none {c = c} {name = name} {annots = annots} {ts = ts} {us = us} {a = a} {A = A} {B = B} form x y) =
      form_says f.if_none name annots (more (seq ts) (more (seq us) none)) c (k.option a ∷ A) form B
      (says_join _ _ B (says_shift _ (trees_type ts c A) B (codes_say x)) (says_shift _ (trees_type us c (a ∷ A)) B (codes_say y)))
  code_says (typed.is_if_left {c = c} {name = name} {annots = annots} {ts = ts} {us = us} {a = a} {b = b} {A = A} {B = B} form x y) =
      form_says f.if_left name annots (more (seq ts) (more (seq us) none)) c (k.or a b ∷ A) form B
      (says_join _ _ B (says_shift _ (trees_type ts c (a ∷ A)) B (codes_say x)) (says_shift _ (trees_type us c (b ∷ A)) B (codes_say y)))
  code_says (typed.is_if_cons {c = c} {name = name} {annots = annots} {ts = ts} {us = us} {a = a} {A = A} {B = B} form x y) =
      form_says f.if_cons name annots (more (seq ts) (more (seq us) none)) c (k.list a ∷ A) form B
      (says_join _ _ B (says_shift _ (trees_type ts c (a ∷ k.list a ∷ A)) B (codes_say x)) (says_shift _ (trees_type us c A) B (codes_say y)))
  code_says (typed.is_loop {c = c} {name = name} {annots = annots} {ts = ts} {A = A} form x) =
      form_says f.loop name annots (more (seq ts) none) c (t.bool ∷ A) form A (says_ends (shift 2 (trees_type ts c A)) (t.bool ∷ A) (goes A) A refl)
  code_says (typed.is_loop_left {c = c} {name = name} {annots = annots} {ts = ts} {a = a} {r = r} {A = A} form x) =
      form_says f.loop_left name annots (more (seq ts) none) c (k.or a r ∷ A) form (r ∷ A)
      (says_ends (shift 2 (trees_type ts c (a ∷ A))) (k.or a r ∷ A) (goes (r ∷ A)) (r ∷ A) refl)
  code_says (typed.is_iter {c = c} {name = name} {annots = annots} {ts = ts} {A = A} form (of_list {a = a}) x) =
      form_says f.iter name annots (more (seq ts) none) c (k.list a ∷ A) form A (says_ends (shift 2 (trees_type ts c (a ∷ A))) A (goes A) A refl)
  code_says (typed.is_iter {c = c} {name = name} {annots = annots} {ts = ts} {A = A} form (of_set {a = a}) x) =
      form_says f.iter name annots (more (seq ts) none) c (k.set a ∷ A) form A (says_ends (shift 2 (trees_type ts c (a ∷ A))) A (goes A) A refl)
  code_says (typed.is_iter {c = c} {name = name} {annots = annots} {ts = ts} {A = A} form (of_map {a = a} {b = b}) x) =
      form_says f.iter name annots (more (seq ts) none) c (k.map a b ∷ A) form A (says_ends (shift 2 (trees_type ts c (k.pair a b ∷ A))) A (goes A) A refl)
  code_says (typed.is_map {c = c} {name = name} {annots = annots} {ts = ts} {A = A} form (to_list {a = a} {b = b}) part x) =
      form_says f.map name annots (more (seq ts) none) c (k.list a ∷ A) form (k.list b ∷ A)
      (says_mapped (shift 2 (trees_type ts c (a ∷ A))) k.list A b (part_shift 2 (trees_type ts c (a ∷ A)) A ∙ part))
  code_says (typed.is_map {c = c} {name = name} {annots = annots} {ts = ts} {A = A} form (to_option {a = a} {b = b}) part x) =
      form_says f.map name annots (more (seq ts) none) c (k.option a ∷ A) form (k.option b ∷ A)
      (says_mapped (shift 2 (trees_type ts c (a ∷ A))) k.option A b (part_shift 2 (trees_type ts c (a ∷ A)) A ∙ part))
  code_says (typed.is_map {c = c} {name = name} {annots = annots} {ts = ts} {A = A} form (to_map {a = a} {b = b} {d = d}) part x) =
      form_says f.map name annots (more (seq ts) none) c (k.map a b ∷ A) form (k.map a d ∷ A)
      (says_mapped (shift 2 (trees_type ts c (k.pair a b ∷ A))) (k.map a) A d (part_shift 2 (trees_type ts c (k.pair a b ∷ A)) A ∙ part))
  code_says (typed.is_failwith {c = c} {name = name} {annots = annots} {a = a} {A = A} {B = B} form) =
      form_says f.failwith name annots none c (a ∷ A) form B (says_if (pushable a) fails 0 B tt)
  code_says (typed.is_never {c = c} {name = name} {annots = annots} {A = A} {B = B} form) = form_says f.never name annots none c (t.never ∷ A) form B tt
  code_says (typed.is_self {es = es} {name = name} {annots = annots} {e = e} {entrypoint = entrypoint} {A = A} form named there) =
      form_says f.self name annots none (place.main es) A form (k.contract e.kind ∷ A)
      (subst (λ z. Says (on_found z (λ entry. self_type entry (place.main es) A)) (k.contract e.kind ∷ A)) (sym named) (entry_says (find_entry entrypoint es) e A there))
  code_says (typed.is_create {c = c} {name = name} {annots = annots} {u = u} {g = g} {A = A} form goes_is x) =
      goes_says (tree_type (prim name annots (more u none)) c (k.option t.key_hash ∷ t.mutez ∷ g ∷ A)) (k.operation ∷ t.address ∷ A) goes_is

  pub codes_say : {c : Context} {ts : Trees} {is : Codes} {A B : List Kind} → AreCode c ts is A B → Says (trees_type ts c A) B
  codes_say typed.no_code = refl
  codes_say (typed.more_code {c = c} {t = t} {ts = ts} {A = A} {M = M} {B = B} x y) =
      says_block (tree_type t c A) ts _ M B (code_says x) (says_shift (size t) (trees_type ts c M) B (codes_say y))
