-- The body that APPLY makes is typed.
use Rattle.std.proofs.Common.{◌≡◌, ℕ, ◌+◌, nat_le, Bool, true, false, ◌&&◌, List, [], ◌∷◌, Some, codes, refl, sym, ap, ◌∙◌, subst}
use Rattle.std.specs.Prelude.{if◌then◌else◌}
use Rattle.std.proofs.lemmas.Bool.{le-leb}
use Rattle.rules_text.specs.nodes.Limits.{type_limit}
use Rattle.rules_text.specs.nodes.Tree.{Tree, seq, Trees, none, more, size}
use Rattle.rules_text.specs.nodes.Primitives.{primitive_of_name, code_of_name, primitive_of_code, primitive_names, primitives}
use Rattle.rules_text.specs.declared.nodes.Primitive.TheVariants as p
use Rattle.rules_data.specs.types.Kind.{Kind, nodes}
use Rattle.rules_data.specs.types.Kind as k
use Rattle.rules_data.specs.types.Attributes.{pushable}
use Rattle.rules_data.specs.types.Reading.{limited, a_type, type_at, any_kind}
use Rattle.rules_data.specs.types.Printing.{named, node_of}
use Rattle.rules_data.specs.values.Val.{Val}
use Rattle.rules_data.specs.values.Literals.{Literal, good, bad, read}
use Rattle.rules_data.specs.values.Canonical.{canonical}
use Rattle.rules_code.specs.instructions.Same.{same_kinds}
use Rattle.rules_code.specs.instructions.Context.{Context}
use Rattle.rules_code.specs.instructions.Context as place
use Rattle.rules_code.specs.instructions.Arguments.{Found, found, fault, and_then, with_attribute, type_argument}
use Rattle.rules_code.specs.instructions.Control.{Pushed, lambda_of, call_kinds}
use Rattle.rules_code.specs.instructions.Rules.{ruled, faulty}
use Rattle.rules_code.specs.instructions.Straight.{on_pairs}
use Rattle.rules_code.specs.instructions.Straight as i
use Rattle.rules_code.specs.typing.Typing.{Typing, goes, fails, shift, in_block, ends}
use Rattle.rules_code.specs.typing.Typing as typing
use Rattle.rules_code.specs.typing.Acts.{of_rule, lambda_rec_type}
use Rattle.rules_code.specs.typing.Nodes.{named_type, tree_type, trees_type, body}
use Rattle.rules_code.specs.typing.Literals.{checked, of_reading}
use Rattle.rules_code.specs.typing.Fits.{Known, Fits, Leads}
use Rattle.rules_code.specs.evaluation.Calls.{push_node, rec_node, applied}
use Rattle.laws_data.proofs.types_lemmas.ForCallers.{read_again, is_type, same_kind_refl, same_kinds_refl}
use Rattle.laws_data.specs.values.Laws.{Gives}
use Rattle.laws_data.proofs.values_lemmas.ForCallers.{again}
use Rattle.laws_typing.proofs.literals_lemmas.ForCallers.{pushed}
use Rattle.laws_code.specs.evaluation.Laws.{IsType}
use Rattle.laws_code.proofs.stacks.ForCallers.{nothing_in, pushable_duplicable, type_argument as argument_type, type_result, type_first}
use Rattle.laws_code.proofs.literals.Forms.{fits_form, pushable_holds}
use Rattle.laws_code.proofs.literals.Clean.{no_faults}
use Rattle.laws_code.proofs.literals.Lambdas.{leads_more, leads_shift}
use Rattle.laws_code.proofs.control.ForCallers.{meanings}

-- ---- types are read again

type_read : (a : Kind) (at : ℕ) → IsType a → type_at at (node_of a) ≡ a_type a
type_read a at h = ap limited (read_again a h.0 at) ∙ is_type (nat_le (nodes a) type_limit) a (le-leb (nodes a) type_limit h.1)

pub argument_is : (asked : Kind → Bool) (a : Kind) (at : ℕ) → asked a ≡ true → IsType a → type_argument asked at (node_of a) ≡ found a
argument_is asked a at e h = ap (with_attribute asked at) (type_read a at h) ∙ ap (λ b. if b then found a else fault at) e

-- ---- PUSH

module _ (w : Known) (a : Kind) (x : Val) (e : pushable a ≡ true) (t : IsType a) (f : Fits w a x) where
  reading_is : (at : ℕ) (A : List Kind) (r : Literal Val) → read a at (canonical x) ≡ r → Gives r x →
      typing.on_found (of_reading r) (λ y. goes (a ∷ A)) ≡ goes (a ∷ A)
  reading_is at A (good y ps) same h =
      let fy : Fits w a y = subst (Fits w a) (sym h) f in
      ap (λ o. typing.on_found (checked y ps o) (λ z. goes (a ∷ A))) (no_faults w a at (canonical x) y ps same fy)
  reading_is at A (bad l) same h = absurd h

  -- its canonical literal is read as it again
  pub captured_again : (at : ℕ) → Gives (read a at (canonical x)) x
  captured_again at = again a x at t.0 (fits_form w a x f) (nothing_in w a x (pushable_duplicable a e) f) (pushable_holds w a x e f)

  read_there : (at : ℕ) (A : List Kind) → typing.on_found (of_reading (read a at (canonical x))) (λ y. goes (a ∷ A)) ≡ goes
      (a ∷ A)
  read_there at A = reading_is at A (read a at (canonical x)) refl
      (captured_again at)

  abbrev to_push : Found Kind → Found Pushed
  to_push q = and_then q (λ b. found record { kind = b; location = 1 + size (node_of a); literal = canonical x })

  pub push_typed : (c : Context) (A : List Kind) → tree_type (push_node a x) c A ≡ goes (a ∷ A)
  push_typed c A =
      pushed [] (more (node_of a) (more (canonical x) none)) c A
      ∙ ap (λ q. typing.on_found (to_push q) (λ p. typing.on_found (of_reading (read p.kind p.location p.literal))
      (λ y. goes (p.kind ∷ A)))) (argument_is pushable a 1 e t)
      ∙ read_there (1 + size (node_of a)) A

-- ---- PAIR, SWAP, EXEC and LAMBDA_REC

pub pair_name : primitive_of_name (codes "PAIR") ≡ Some p.OpPair
unfolding primitive_of_name code_of_name primitive_of_code primitive_names primitives
pair_name = refl

pub swap_name : primitive_of_name (codes "SWAP") ≡ Some p.OpSwap
unfolding primitive_of_name code_of_name primitive_of_code primitive_names primitives
swap_name = refl

pub exec_name : primitive_of_name (codes "EXEC") ≡ Some p.OpExec
unfolding primitive_of_name code_of_name primitive_of_code primitive_names primitives
exec_name = refl

pub rec_name : primitive_of_name (codes "LAMBDA_REC") ≡ Some p.OpLambdaRec
unfolding primitive_of_name code_of_name primitive_of_code primitive_names primitives
rec_name = refl

pair_typed : (a b : Kind) (c : Context) (A : List Kind) → IsType (k.pair a b) →
    tree_type (named (codes "PAIR") none) c (a ∷ b ∷ A) ≡ goes (k.pair a b ∷ A)
pair_typed a b c A h =
    ap (λ n. named_type n [] none (meanings none) c (a ∷ b ∷ A)) pair_name
    ∙ ap (λ q. of_rule (if q && true then ruled (on_pairs (i.pair 2)) (k.pair a b ∷ A) else faulty 0))
    (le-leb (nodes (k.pair a b)) type_limit h.1)

swap_typed : (a b : Kind) (c : Context) (A : List Kind) → tree_type (named (codes "SWAP") none) c (a ∷ b ∷ A) ≡ goes (b ∷ a ∷ A)
swap_typed a b c A = ap (λ n. named_type n [] none (meanings none) c (a ∷ b ∷ A)) swap_name

exec_typed : (a r : Kind) (c : Context) (A : List Kind) → tree_type (named (codes "EXEC") none) c (a ∷ k.lambda a r ∷ A) ≡ goes
    (r ∷ A)
exec_typed a r c A =
    ap (λ n. named_type n [] none (meanings none) c (a ∷ k.lambda a r ∷ A)) exec_name
    ∙ ap (λ q. if q then goes (r ∷ A) else typing.bad 0) (same_kind_refl a)

ends_leads : (t : Typing) (C : List Kind) (u : Typing) → Leads t C → ends t C u ≡ u
ends_leads (goes B) C u h = subst (λ X. (if same_kinds X C then u else typing.bad 0) ≡ u) (sym h)
    (ap (λ b. if b then u else typing.bad 0) (same_kinds_refl C))
ends_leads fails C u h = refl
ends_leads (typing.bad l) C u h = absurd h

pub arrow_is : (a r : Kind) (t : Tree) → IsType a → IsType r → lambda_of
    (more (node_of a) (more (node_of r) (more t none))) ≡ found record { argument = a; result = r }
arrow_is a r t ha hr =
    ap (λ q. and_then q (λ t. and_then (type_argument any_kind (1 + size (node_of a)) (node_of r))
    (λ u. found record { argument = t; result = u }))) (argument_is any_kind a 1 refl ha)
    ∙ ap (λ q. and_then q (λ u. found record { argument = a; result = u }))
    (argument_is any_kind r (1 + size (node_of a)) refl hr)

rec_typed : (a r : Kind) (ts : Trees) (c : Context) (A : List Kind) → IsType (k.lambda a r) →
    Leads (trees_type ts place.lambda (call_kinds a r true)) (r ∷ []) →
    tree_type (rec_node a r (seq ts)) c A ≡ goes (k.lambda a r ∷ A)
rec_typed a r ts c A h leads =
    let us : Trees = more (node_of a) (more (node_of r) (more (seq ts) none)) in
    let at : ℕ = 1 + size (node_of a) + size (node_of r) in
    ap (λ n. named_type n [] us (meanings us) c A) rec_name
    ∙ ap (λ q. typing.on_found q (λ x. lambda_rec_type x (body (seq ts) at) A))
    (arrow_is a r (seq ts) (argument_type a r h) (type_result a r h))
    ∙ ap (λ q. if q then ends (shift (at + 1) (trees_type ts place.lambda (call_kinds a r true))) (r ∷ [])
    (goes (k.lambda a r ∷ A)) else typing.bad 0) (le-leb (nodes (k.lambda a r)) type_limit h.1)
    ∙ ends_leads (shift (at + 1) (trees_type ts place.lambda (call_kinds a r true))) (r ∷ []) (goes (k.lambda a r ∷ A))
    (leads_more (at + 1) (trees_type ts place.lambda (call_kinds a r true)) (r ∷ []) leads)

-- ---- one behind the other

leads_block : (t : Tree) (ts : Trees) (c : Context) (A B C : List Kind) → tree_type t c A ≡ goes B →
    Leads (trees_type ts c B) C → Leads (trees_type (more t ts) c A) C
leads_block t ts c A B C same h =
    subst (λ u. Leads (in_block u ts (λ B. shift (size t) (trees_type ts c B))) C) (sym same)
    (leads_more (size t) (trees_type ts c B) C h)

leads_last : (t : Tree) (c : Context) (A C : List Kind) → Leads (tree_type t c A) C → Leads (trees_type (more t none) c A) C
leads_last t c A C h = by (tree_type t c A) h
  where
    by : (u : Typing) → Leads u C → Leads (in_block u none (λ B. shift (size t) (goes B))) C
    by (goes B) h = h
    by fails h = tt
    by (typing.bad l) h = absurd h

module _ (w : Known) (a b r : Kind) (x : Val) (ts : Trees) (e : pushable a ≡ true) (whole : IsType (k.lambda (k.pair a b) r))
    (f : Fits w a x) where
  both : IsType (k.pair a b)
  both = argument_type (k.pair a b) r whole

  one : IsType a
  one = type_first a b both

  behind : (us : Trees) → Leads (trees_type us place.lambda (k.pair a b ∷ [])) (r ∷ []) →
      Leads (trees_type (more (push_node a x) (more (named (codes "PAIR") none) us)) place.lambda (b ∷ [])) (r ∷ [])
  behind us h =
      leads_block (push_node a x) (more (named (codes "PAIR") none) us) place.lambda (b ∷ []) (a ∷ b ∷ []) (r ∷ [])
      (push_typed w a x e one f place.lambda (b ∷ []))
      (leads_block (named (codes "PAIR") none) us place.lambda (a ∷ b ∷ []) (k.pair a b ∷ []) (r ∷ [])
      (pair_typed a b place.lambda [] both) h)

  pub applied_leads : (q : Bool) → Leads (tree_type (seq ts) place.lambda (call_kinds (k.pair a b) r q)) (r ∷ []) →
      Leads (tree_type (applied a b r x (seq ts) q) place.lambda (b ∷ [])) (r ∷ [])
  applied_leads false h = leads_more 1 _ (r ∷ []) (behind (more (seq ts) none)
      (leads_last (seq ts) place.lambda (k.pair a b ∷ []) (r ∷ []) h))
  applied_leads true h =
      let inner : Leads (trees_type ts place.lambda (call_kinds (k.pair a b) r true)) (r ∷ []) = leads_shift 1
      (trees_type ts place.lambda (call_kinds (k.pair a b) r true)) (r ∷ []) h in
      leads_more 1 _ (r ∷ [])
      (behind (more (rec_node (k.pair a b) r (seq ts)) (more (named (codes "SWAP") none) (more (named (codes "EXEC") none) none)))
      (leads_block (rec_node (k.pair a b) r (seq ts)) (more (named (codes "SWAP") none)
      (more (named (codes "EXEC") none) none)) place.lambda (k.pair a b ∷ []) (k.lambda (k.pair a b) r ∷ k.pair a b ∷ [])
      (r ∷ [])
      (rec_typed (k.pair a b) r ts place.lambda (k.pair a b ∷ []) whole inner)
      (leads_block (named (codes "SWAP") none) (more (named (codes "EXEC") none) none) place.lambda
      (k.lambda (k.pair a b) r ∷ k.pair a b ∷ []) (k.pair a b ∷ k.lambda (k.pair a b) r ∷ []) (r ∷ [])
      (swap_typed (k.lambda (k.pair a b) r) (k.pair a b) place.lambda [])
      (leads_block (named (codes "EXEC") none) none place.lambda (k.pair a b ∷ k.lambda (k.pair a b) r ∷ []) (r ∷ []) (r ∷ [])
      (exec_typed (k.pair a b) r place.lambda []) refl))))
