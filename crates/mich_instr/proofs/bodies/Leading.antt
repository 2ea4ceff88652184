-- Where typing leads from types to types over an instruction, it leads so over the bodies of its typed code.
use Rattle.std.proofs.Common.{◌≡◌, ◌+◌, ℕ, List, ◌∷◌, Some, ◌∙◌, subst, take, drop, length, nat_le}
use Rattle.rules_text.specs.nodes.Limits.{count_limit}
use Rattle.rules_text.specs.nodes.Tree.{Tree, Trees, prim, seq, none, more, size}
use Rattle.rules_text.specs.nodes.Primitives.{primitive_of_name}
use Rattle.rules_data.specs.types.Kind.{Kind}
use Rattle.rules_data.specs.types.Kind as k
use Rattle.rules_code.specs.instructions.Types as t
use Rattle.rules_code.specs.instructions.Arguments.{found, count_argument}
use Rattle.rules_code.specs.instructions.Context.{Context}
use Rattle.rules_code.specs.instructions.Forms as f
use Rattle.rules_code.specs.typing.Typing.{Typing, goes, fails, bad, shift, mapped, part_kind, on_found, in_block}
use Rattle.rules_code.specs.typing.Acts.{act_type, dip_type}
use Rattle.rules_code.specs.typing.Nodes.{tree_type, trees_type}
use Rattle.rules_code.specs.typing.Fits.{Leads}
use Rattle.mich_instr.specs.Code.{Code, Codes}
use Rattle.mich_instr.specs.Typed.{HasForm, IsMapped, to_list, to_option, to_map, HasParts, of_list, of_set, of_map, IsCode, AreCode}
use Rattle.mich_instr.proofs.bodies.Sayings.{meanings, type_is, Says, IsTyped, typed_shift, typed_if, typed_join, typed_ends, typed_under, mapped_goes, part_shift, typed_part, leads_of, typed_of}
use Rattle.mich_instr.proofs.bodies.Said.{code_says, codes_say}

-- typed code whose typing has no fault
body_leads : {c : Context} {ts : Trees} {is : Codes} {A B : List Kind} (l : ℕ) → AreCode c ts is A B → IsTyped (shift l (trees_type ts c A)) → Leads (trees_type ts c A) B
body_leads {c = c} {ts = ts} {A = A} {B = B} l x h = leads_of (trees_type ts c A) B (codes_say x) (typed_shift l (trees_type ts c A) h)

pub seq_leads : (ts : Trees) (c : Context) (A B : List Kind) → Leads (tree_type (seq ts) c A) B → Leads (trees_type ts c A) B
seq_leads ts c A B h = by (trees_type ts c A) h
  where
    by : (t : Typing) → Leads (shift 1 t) B → Leads t B
    by (goes C) h = h
    by fails h = tt
    by (bad l) h = h

pub leads_seq : (ts : Trees) (c : Context) (A B : List Kind) → Leads (trees_type ts c A) B → Leads (tree_type (seq ts) c A) B
leads_seq ts c A B h = by (trees_type ts c A) h
  where
    by : (t : Typing) → Leads t B → Leads (shift 1 t) B
    by (goes C) h = h
    by fails h = tt
    by (bad l) h = h

-- an instruction, and the rest of its block
pub next_leads : {c : Context} {t : Tree} {ts : Trees} {i : Code} {is : Codes} {A M B : List Kind} → IsCode c t i A M → AreCode c ts is M B →
    Leads (trees_type (more t ts) c A) B → Leads (tree_type t c A) M × Leads (trees_type ts c M) B
next_leads {c = c} {t = t} {ts = ts} {A = A} {M = M} {B = B} x y h = by (tree_type t c A) ts y (code_says x) (λ C. typed_shift (size t) (trees_type ts c C)) (typed_of _ B h)
  where
    by : (z : Typing) (ts : Trees) {is : Codes} → AreCode c ts is M B → Says z M → ((C : List Kind) → IsTyped (shift (size t) (trees_type ts c C)) → IsTyped (trees_type ts c C)) →
        IsTyped (in_block z ts (λ C. shift (size t) (trees_type ts c C))) → Leads z M × Leads (trees_type ts c M) B
    by (goes C) ts y s shifted h = (s, leads_of (trees_type ts c M) B (codes_say y) (subst (λ X. IsTyped (trees_type ts c X)) s (shifted C h)))
    by fails none y s shifted h = (tt, leads_of (trees_type none c M) B (codes_say y) tt)
    by fails (more u us) y s shifted h = absurd h
    by (bad l) ts y s shifted h = absurd h

abbrev two : Trees → Trees → Trees
two ts us = more (seq ts) (more (seq us) none)

abbrev one : Trees → Trees
one ts = more (seq ts) none

module _ (name : List ℕ) (annots : List (List ℕ)) where
  form_typed : (form : f.Form) (ts : Trees) (c : Context) (A B : List Kind) → HasForm form name → Leads (tree_type (prim name annots ts) c A) B →
      IsTyped (act_type form (primitive_of_name name) annots ts (meanings ts) c A)
  form_typed form ts c A B has_form h = subst IsTyped (type_is form name annots ts c A has_form) (typed_of (tree_type (prim name annots ts) c A) B h)

  pub if_leads : {c : Context} {ts us : Trees} {is js : Codes} {A B : List Kind} → HasForm f.if_bool name → AreCode c ts is A B → AreCode c us js A B →
      Leads (tree_type (prim name annots (two ts us)) c (t.bool ∷ A)) B → Leads (trees_type ts c A) B × Leads (trees_type us c A) B
  if_leads {c = c} {ts = ts} {us = us} {A = A} {B = B} form x y h = let p = typed_join _ _ (form_typed f.if_bool (two ts us) c (t.bool ∷ A) B form h) in (body_leads _ x p.0, body_leads _ y p.1)

  pub if_none_leads : {c : Context} {ts us : Trees} {is js : Codes} {a : Kind} {A B : List Kind} → HasForm f.if_none name → AreCode c ts is A B → AreCode c us js (a ∷ A) B →
      Leads (tree_type (prim name annots (two ts us)) c (k.option a ∷ A)) B → Leads (trees_type ts c A) B × Leads (trees_type us c (a ∷ A)) B
  if_none_leads {c = c} {ts = ts} {us = us} {a = a} {A = A} {B = B} form x y h =
      let p = typed_join _ _ (form_typed f.if_none (two ts us) c (k.option a ∷ A) B form h) in (body_leads _ x p.0, body_leads _ y p.1)

  pub if_left_leads : {c : Context} {ts us : Trees} {is js : Codes} {a b : Kind} {A B : List Kind} → HasForm f.if_left name → AreCode c ts is (a ∷ A) B → AreCode c us js (b ∷ A) B →
      Leads (tree_type (prim name annots (two ts us)) c (k.or a b ∷ A)) B → Leads (trees_type ts c (a ∷ A)) B × Leads (trees_type us c (b ∷ A)) B
  if_left_leads {c = c} {ts = ts} {us = us} {a = a} {b = b} {A = A} {B = B} form x y h =
      let p = typed_join _ _ (form_typed f.if_left (two ts us) c (k.or a b ∷ A) B form h) in (body_leads _ x p.0, body_leads _ y p.1)

  pub if_cons_leads : {c : Context} {ts us : Trees} {is js : Codes} {a : Kind} {A B : List Kind} → HasForm f.if_cons name → AreCode c ts is (a ∷ k.list a ∷ A) B → AreCode c us js A B →
      Leads (tree_type (prim name annots (two ts us)) c (k.list a ∷ A)) B → Leads (trees_type ts c (a ∷ k.list a ∷ A)) B × Leads (trees_type us c A) B
  if_cons_leads {c = c} {ts = ts} {us = us} {a = a} {A = A} {B = B} form x y h =
      let p = typed_join _ _ (form_typed f.if_cons (two ts us) c (k.list a ∷ A) B form h) in (body_leads _ x p.0, body_leads _ y p.1)

  pub loop_leads : {c : Context} {ts : Trees} {is : Codes} {A : List Kind} (B : List Kind) → HasForm f.loop name → AreCode c ts is A (t.bool ∷ A) →
      Leads (tree_type (prim name annots (one ts)) c (t.bool ∷ A)) B → Leads (trees_type ts c A) (t.bool ∷ A)
  loop_leads {c = c} {ts = ts} {A = A} B form x h = body_leads _ x (typed_ends _ _ _ (form_typed f.loop (one ts) c (t.bool ∷ A) B form h))

  pub loop_left_leads : {c : Context} {ts : Trees} {is : Codes} {a r : Kind} {A : List Kind} (B : List Kind) → HasForm f.loop_left name → AreCode c ts is (a ∷ A) (k.or a r ∷ A) →
      Leads (tree_type (prim name annots (one ts)) c (k.or a r ∷ A)) B → Leads (trees_type ts c (a ∷ A)) (k.or a r ∷ A)
  loop_left_leads {c = c} {ts = ts} {a = a} {r = r} {A = A} B form x h = body_leads _ x (typed_ends _ _ _ (form_typed f.loop_left (one ts) c (k.or a r ∷ A) B form h))

  pub iter_leads : {c : Context} {ts : Trees} {is : Codes} {s a : Kind} {A : List Kind} (B : List Kind) → HasForm f.iter name → HasParts s a → AreCode c ts is (a ∷ A) A →
      Leads (tree_type (prim name annots (one ts)) c (s ∷ A)) B → Leads (trees_type ts c (a ∷ A)) A
  iter_leads {c = c} {ts = ts} {A = A} B form (of_list {a = a}) x h = body_leads _ x (typed_ends _ _ _ (form_typed f.iter (one ts) c (k.list a ∷ A) B form h))
  iter_leads {c = c} {ts = ts} {A = A} B form (of_set {a = a}) x h = body_leads _ x (typed_ends _ _ _ (form_typed f.iter (one ts) c (k.set a ∷ A) B form h))
  iter_leads {c = c} {ts = ts} {A = A} B form (of_map {a = a} {b = b}) x h = body_leads _ x (typed_ends _ _ _ (form_typed f.iter (one ts) c (k.map a b ∷ A) B form h))

  map_by : (c : Context) (ts : Trees) (A B : List Kind) (s a b : Kind) (new : Kind → Kind) → part_kind (trees_type ts c (a ∷ A)) A ≡ Some b → tree_type (prim name annots (one ts)) c (s ∷ A) ≡ mapped (shift 2 (trees_type ts c (a ∷ A))) new A →
      Leads (tree_type (prim name annots (one ts)) c (s ∷ A)) B → tree_type (prim name annots (one ts)) c (s ∷ A) ≡ goes (new b ∷ A)
  map_by c ts A B s a b new part e h =
      e ∙ mapped_goes (shift 2 (trees_type ts c (a ∷ A))) new A b (part_shift 2 (trees_type ts c (a ∷ A)) A ∙ part)
      (subst IsTyped e (typed_of (tree_type (prim name annots (one ts)) c (s ∷ A)) B h))

  -- MAP goes to the collection of results
  pub map_goes : (c : Context) (ts : Trees) {s a b r : Kind} (A B : List Kind) → HasForm f.map name → IsMapped s a b r → part_kind (trees_type ts c (a ∷ A)) A ≡ Some b →
      Leads (tree_type (prim name annots (one ts)) c (s ∷ A)) B → tree_type (prim name annots (one ts)) c (s ∷ A) ≡ goes (r ∷ A)
  map_goes c ts A B form (to_list {a = a} {b = b}) part h = map_by c ts A B (k.list a) a b k.list part (type_is f.map name annots (one ts) c (k.list a ∷ A) form) h
  map_goes c ts A B form (to_option {a = a} {b = b}) part h = map_by c ts A B (k.option a) a b k.option part (type_is f.map name annots (one ts) c (k.option a ∷ A) form) h
  map_goes c ts A B form (to_map {a = a} {b = b} {d = d}) part h = map_by c ts A B (k.map a b) (k.pair a b) d (k.map a) part (type_is f.map name annots (one ts) c (k.map a b ∷ A) form) h

  pub dip_leads : {c : Context} {ts : Trees} {is : Codes} (S B C : List Kind) → HasForm f.dip name → AreCode c ts is (drop 1 S) C → Leads (tree_type (prim name annots (one ts)) c S) B → Leads (trees_type ts c (drop 1 S)) C
  dip_leads {c = c} {ts = ts} S B C form x h =
      body_leads _ x (typed_under (take 1 S) _ (typed_if (nat_le 1 (length S)) _ 0 (form_typed f.dip (one ts) c S B form h)).1)

  pub dip_by_leads : {c : Context} {ts : Trees} {is : Codes} (u : Tree) (n : ℕ) (S B C : List Kind) → HasForm f.dip name → count_argument 0 count_limit 1 u ≡ found n → AreCode c ts is (drop n S) C →
      Leads (tree_type (prim name annots (more u (one ts))) c S) B → Leads (trees_type ts c (drop n S)) C
  dip_by_leads {c = c} {ts = ts} u n S B C form e x h =
      let p = subst (λ y. IsTyped (on_found y (λ n. dip_type n (λ c A. shift (1 + size u + 1) (trees_type ts c A)) c S))) e (form_typed f.dip (more u (one ts)) c S B form h) in
      body_leads _ x (typed_under (take n S) _ (typed_if (nat_le n (length S)) _ 0 p).1)

pub map_leads : {c : Context} {ts : Trees} {is : Codes} {a b : Kind} {A : List Kind} → part_kind (trees_type ts c (a ∷ A)) A ≡ Some b → AreCode c ts is (a ∷ A) (b ∷ A) → Leads (trees_type ts c (a ∷ A)) (b ∷ A)
map_leads {c = c} {ts = ts} {a = a} {b = b} {A = A} part x = leads_of (trees_type ts c (a ∷ A)) (b ∷ A) (codes_say x) (typed_part (trees_type ts c (a ∷ A)) A b part)
