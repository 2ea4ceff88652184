-- What APPLY makes of a body, as typed code.
use Rattle.std.proofs.Common.{◌≡◌, ℕ, ◌+◌, Bool, true, false, ◌&&◌, List, [], ◌∷◌, Some, codes, refl, sym, ap, ◌∙◌, subst}
use Rattle.std.specs.Prelude.{if◌then◌else◌}
use Rattle.std.proofs.lemmas.Bool.{le-leb}
use Rattle.rules_text.specs.nodes.Limits.{type_limit}
use Rattle.rules_text.specs.nodes.Tree.{Tree, int, str, bytes, prim, seq, Trees, none, more, size}
use Rattle.rules_text.specs.nodes.Primitives.{primitive_of_name, code_of_name, primitive_of_code, primitive_names, primitives}
use Rattle.rules_text.specs.declared.nodes.Primitive.TheVariants as p
use Rattle.rules_data.specs.types.Kind.{Kind, nodes}
use Rattle.rules_data.specs.types.Kind as k
use Rattle.rules_data.specs.types.Attributes.{pushable}
use Rattle.rules_data.specs.types.Printing.{named, node_of}
use Rattle.rules_data.specs.values.Val.{Val}
use Rattle.rules_data.specs.values.Canonical.{canonical}
use Rattle.rules_code.specs.instructions.Context.{Context}
use Rattle.rules_code.specs.instructions.Context as place
use Rattle.rules_code.specs.instructions.Arguments.{Found, found, and_then}
use Rattle.rules_code.specs.instructions.Control.{Pushed, call_kinds}
use Rattle.rules_code.specs.instructions.Forms.{form_of}
use Rattle.rules_code.specs.instructions.Rules.{ruled, rule, faulty}
use Rattle.rules_code.specs.instructions.Straight.{on_pairs, on_stack}
use Rattle.rules_code.specs.instructions.Straight as i
use Rattle.rules_code.specs.evaluation.Calls.{push_node, rec_node, applied}
use Rattle.laws_code.specs.evaluation.Laws.{IsType}
use Rattle.laws_code.proofs.stacks.ForCallers.{type_argument as argument_type, type_result, type_first}
use Rattle.laws_code.proofs.literals.ForCallers.{argument_is, arrow_is, exec_name, pair_name, rec_name, swap_name}
use Rattle.mich_instr.specs.Code.{Codes}
use Rattle.mich_instr.specs.Code as made
use Rattle.mich_instr.specs.Plain.{bare, kept, plain, plains, plain_arguments}
use Rattle.mich_instr.specs.Typed.{IsCode, AreCode}
use Rattle.mich_instr.specs.Typed as typed
use Rattle.mich_instr.specs.Body.{inside}
use Rattle.mich_interpreter.specs.Literals.{HoldsLiteral}
use Rattle.mich_interpreter.specs.Applied.{push_code, pair_code, swap_code, rec_code, made_codes, Captures}

-- a type that was printed has no annotations
bare_node : (a : Kind) → bare (node_of a) ≡ node_of a
bare_node (k.simple s) = refl
bare_node (k.option a) = ap (λ t. named (codes "option") (more t none)) (bare_node a)
bare_node (k.or a b) = λ j. named (codes "or") (more (bare_node a j) (more (bare_node b j) none))
bare_node (k.pair a b) = λ j. named (codes "pair") (more (bare_node a j) (more (bare_node b j) none))
bare_node (k.list a) = ap (λ t. named (codes "list") (more t none)) (bare_node a)
bare_node (k.set a) = ap (λ t. named (codes "set") (more t none)) (bare_node a)
bare_node (k.map a b) = λ j. named (codes "map") (more (bare_node a j) (more (bare_node b j) none))
bare_node (k.big_map a b) = λ j. named (codes "big_map") (more (bare_node a j) (more (bare_node b j) none))
bare_node (k.lambda a b) = λ j. named (codes "lambda") (more (bare_node a j) (more (bare_node b j) none))
bare_node (k.contract a) = ap (λ t. named (codes "contract") (more t none)) (bare_node a)
bare_node k.operation = refl
bare_node (k.ticket a) = ap (λ t. named (codes "ticket") (more t none)) (bare_node a)

push_name : primitive_of_name (codes "PUSH") ≡ Some p.OpPush
unfolding primitive_of_name code_of_name primitive_of_code primitive_names primitives
push_name = refl

plain_pair : plain (named (codes "PAIR") none) ≡ named (codes "PAIR") none
plain_pair = ap (λ n. prim (codes "PAIR") (kept n []) (plain_arguments (form_of n) none (plains none))) pair_name

plain_swap : plain (named (codes "SWAP") none) ≡ named (codes "SWAP") none
plain_swap = ap (λ n. prim (codes "SWAP") (kept n []) (plain_arguments (form_of n) none (plains none))) swap_name

pair_is : (a b : Kind) (c : Context) (A : List Kind) → IsType (k.pair a b) →
    IsCode c (named (codes "PAIR") none) pair_code (a ∷ b ∷ A) (k.pair a b ∷ A)
pair_is a b c A h = subst (λ (t : Tree). IsCode c (named (codes "PAIR") none) (made.straight (on_pairs (i.pair 2)) t) (a ∷ b ∷ A) (k.pair a b ∷ A)) plain_pair
    (typed.is_straight (ap form_of pair_name)
    (ap (λ n. rule n [] none (a ∷ b ∷ A)) pair_name
    ∙ ap (λ q. if q && true then ruled (on_pairs (i.pair 2)) (k.pair a b ∷ A) else faulty 0)
    (le-leb (nodes (k.pair a b)) type_limit h.1)))

swap_is : (a b : Kind) (c : Context) (A : List Kind) → IsCode c (named (codes "SWAP") none) swap_code (a ∷ b ∷ A) (b ∷ a ∷ A)
swap_is a b c A = subst (λ (t : Tree). IsCode c (named (codes "SWAP") none) (made.straight (on_stack i.swap) t) (a ∷ b ∷ A) (b ∷ a ∷ A)) plain_swap
    (typed.is_straight (ap form_of swap_name) (ap (λ n. rule n [] none (a ∷ b ∷ A)) swap_name))

module _ (a b r : Kind) (x : Val) (literal node : Tree) (held : Codes) where
  abbrev to_push : Found Kind → Found Pushed
  to_push f = and_then f (λ b. found record { kind = b; location = 1 + size (node_of a); literal = canonical x })

  push_is : (q : Bool) (t : Tree) → Captures a b r x literal t q node → ((at : ℕ) → HoldsLiteral at a (canonical x) held) →
      IsCode place.lambda (push_node a x) (push_code a literal held) (b ∷ []) (a ∷ b ∷ [])
  push_is q t h g =
      let l = g (1 + size (node_of a)) in
      subst (λ (t : Tree). IsCode place.lambda (push_node a x) (made.push a t literal held) (b ∷ []) (a ∷ b ∷ [])) (bare_node a)
      (subst (λ (u : Tree). IsCode place.lambda (push_node a x) (made.push a (bare (node_of a)) u held) (b ∷ []) (a ∷ b ∷ [])) (sym h.spelled)
      (typed.is_push {p = record { kind = a; location = 1 + size (node_of a); literal = canonical x }} (ap form_of push_name)
      (ap to_push (argument_is pushable a 1 h.pushes (type_first a b (argument_type (k.pair a b) r h.whole)))) h.typed l.2 l.3))

  rec_is : (ts : Trees) (is : Codes) (A : List Kind) → Captures a b r x literal (seq ts) true node → AreCode place.lambda ts is (call_kinds (k.pair a b) r true) (r ∷ []) →
      IsCode place.lambda (rec_node (k.pair a b) r (seq ts)) (rec_code (k.pair a b) r (seq ts) is) A (k.lambda (k.pair a b) r ∷ A)
  rec_is ts is A h fine =
      subst (λ (t : Tree). IsCode place.lambda (rec_node (k.pair a b) r (seq ts)) (made.lambda true (k.pair a b) r (more t (more (node_of r) none)) (seq ts) is) A (k.lambda (k.pair a b) r ∷ A)) (bare_node (k.pair a b))
      (subst (λ (t : Tree). IsCode place.lambda (rec_node (k.pair a b) r (seq ts)) (made.lambda true (k.pair a b) r (more (bare (node_of (k.pair a b))) (more t none)) (seq ts) is) A (k.lambda (k.pair a b) r ∷ A)) (bare_node r)
      (typed.is_lambda {recursive = true} {x = record { argument = k.pair a b; result = r }} (ap form_of rec_name)
      (arrow_is (k.pair a b) r (seq ts) (argument_type (k.pair a b) r h.whole) (type_result (k.pair a b) r h.whole)) fine))

  made_is : (q : Bool) (ts : Trees) (is : Codes) → Captures a b r x literal (seq ts) q node → ((at : ℕ) → HoldsLiteral at a (canonical x) held) →
      AreCode place.lambda ts is (call_kinds (k.pair a b) r q) (r ∷ []) →
      AreCode place.lambda (inside (applied a b r x (seq ts) q)) (made_codes a b r literal held (seq ts) q is) (call_kinds b r false) (r ∷ [])
  made_is false ts is h g fine = typed.more_code (push_is false (seq ts) h g) (typed.more_code (pair_is a b place.lambda [] (argument_type (k.pair a b) r h.whole))
      (typed.more_code (typed.is_seq fine) typed.no_code))
  made_is true ts is h g fine = typed.more_code (push_is true (seq ts) h g) (typed.more_code (pair_is a b place.lambda [] (argument_type (k.pair a b) r h.whole))
      (typed.more_code (rec_is ts is (k.pair a b ∷ []) h fine) (typed.more_code (swap_is (k.lambda (k.pair a b) r) (k.pair a b) place.lambda [])
      (typed.more_code (typed.is_exec (ap form_of exec_name)) typed.no_code))))

  -- it is the typed code of the node that APPLY makes, from what is left of the argument to the result
  pub applied_code : (q : Bool) (t : Tree) (is : Codes) → Captures a b r x literal t q node → ((at : ℕ) → HoldsLiteral at a (canonical x) held) →
      AreCode place.lambda (inside t) is (call_kinds (k.pair a b) r q) (r ∷ []) →
      AreCode place.lambda (inside node) (made_codes a b r literal held t q is) (call_kinds b r false) (r ∷ [])
  applied_code q (seq ts) is h g fine =
      subst (λ (n : Tree). AreCode place.lambda (inside n) (made_codes a b r literal held (seq ts) q is) (call_kinds b r false) (r ∷ [])) (sym h.made) (made_is q ts is h g fine)
  applied_code q (int n) is h g fine = let e = h.sequence in absurd cc
  applied_code q (str n) is h g fine = let e = h.sequence in absurd cc
  applied_code q (bytes n) is h g fine = let e = h.sequence in absurd cc
  applied_code q (prim n annots ts) is h g fine = let e = h.sequence in absurd cc
