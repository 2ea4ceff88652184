-- The walk over a literal is the step of PUSH.
use Rattle.std.proofs.Common.{◌≡◌, ℕ, ◌+◌, Bool, true, false, ◌&&◌, cond, Option, Some, None, List, [], ◌∷◌, ◌++◌, length, refl, sym, ap, ◌∙◌, subst}
use Rattle.std.specs.Prelude.{option_and_then}
use Rattle.rules_text.specs.declared.nodes.Primitive.{Primitive}
use Rattle.rules_text.specs.declared.nodes.Primitive.TheVariants as p
use Rattle.rules_text.specs.nodes.Tree.{Tree, int, str, bytes, prim, seq, Trees, none, more, size, preorder, preorders}
use Rattle.rules_data.specs.types.Attributes.{pushable}
use Rattle.rules_data.specs.types.Kind.{Kind}
use Rattle.rules_data.specs.types.Reading.{Reading, a_type, bad_type, too_large, type_at}
use Rattle.rules_data.specs.values.Val.{Val}
use Rattle.rules_data.specs.values.Literals.{Pending, body, claim, Literal, good, bad, read}
use Rattle.rules_code.specs.instructions.Arguments.{Found, found, fault, and_then, with_attribute, type_argument}
use Rattle.rules_code.specs.instructions.Context.{Context}
use Rattle.rules_code.specs.instructions.Context as place
use Rattle.rules_code.specs.instructions.Control.{Pushed, push_of, call_kinds}
use Rattle.rules_code.specs.instructions.Same.{same_kinds}
use Rattle.rules_code.specs.typing.Acts.{unless_fault}
use Rattle.rules_code.specs.typing.Bodies.{body_fault, first_fault}
use Rattle.rules_code.specs.typing.Literals.{fault_of_bodies, checked, of_reading}
use Rattle.rules_code.specs.typing.Nodes.{tree_type, trees_type}
use Rattle.rules_code.specs.typing.Nodes as nodes
use Rattle.rules_code.specs.typing.Typing.{Typing, goes, fails, shift, on_found}
use Rattle.rules_code.specs.typing.Typing as typing
use Rattle.rules_code.specs.certificates.Blocks.{Block, literal_blocks, pending_blocks}
use Rattle.rules_code.specs.certificates.Blocks as blocks_of
use Rattle.rules_code.specs.certificates.Derivation.{Entry, block_entries, of_blocks, tellers}
use Rattle.laws_typing.specs.literals.Laws.{AllStandIn}
use Rattle.laws_typing.proofs.literals_lemmas.ForCallers.{size_is, bodies_stand, all_pushed}
use Rattle.laws_typing.proofs.literals_lemmas.Places.{all_left, all_right}
use Rattle.mich_base.specs.Counted.{IsNotTwo}
use Rattle.mich_base.specs.View.{tree, trees}
use Rattle.mich_base.specs.declared.node.Node.{Node}
use Rattle.mich_cert.specs.Arguments.{a_kind}
use Rattle.mich_cert.specs.Bodiless.{one_known}
use Rattle.mich_cert.specs.Pushed.{pending_in, called_walk, pending_walk, push_walk}
use Rattle.mich_cert.specs.Table as table
use Rattle.mich_cert.specs.Walk.{past, told, Ended, ended, Confirmed, body_of, leading, step_by, call_ends}
use Rattle.mich_cert.specs.Ways.{way_of}
use Rattle.mich_cert.specs.declared.way.Way.TheVariants as way
use Rattle.mich_cert.proofs.Branches.{nowhere}
use Rattle.mich_cert.proofs.Lambdas.{begins_are, ends_are}
use Rattle.mich_cert.proofs.Loops.{ends_with, turned}
use Rattle.mich_cert.proofs.SameTypes.{same_kinds_symm}
use Rattle.mich_cert.proofs.Sequenced.{IsSequence, AreSequences, are_sequences}
use Rattle.mich_cert.proofs.Standing.{body_told}
use Rattle.mich_cert.proofs.Walk.{past_append, ended_shift, from, body_from}
use Rattle.mich_cert.proofs.WrittenRows.{push_rules}

-- ---- a body as that of a lambda

abbrev pub ends_call : Kind → Ended → Option (List Entry)
ends_call r u = cond (ends_with (r ∷ []) u.ends) (Some u.rest) None

abbrev pub called_by : (List Kind → Bool) → (Option (List Kind) → Bool) → Option Confirmed → Option (List Entry)
called_by P Q x = option_and_then (λ x. cond (P x.begins && Q x.ends) (Some x.rest) None) x

pub begun : (S : List Kind) (r : Kind) (x : Option Confirmed) → called_by (same_kinds S) (ends_with (r ∷ [])) x ≡ option_and_then (ends_call r) (from S x)
begun S r None = refl
begun S r (Some x) = by (same_kinds S x.begins)
  where
    by : (q : Bool) →
        cond (q && ends_with (r ∷ []) x.ends) (Some x.rest) None ≡ option_and_then (ends_call r) (cond q (Some record { ends = x.ends; rest = x.rest }) None)
    by true = refl
    by false = refl

-- a sequence as a body, and as an instruction
unshifted : (t : Tree) (l k : ℕ) (c : Context) (S : List Kind) (o : Option (List Entry)) → IsSequence t → ended (nodes.body t k c S) o ≡ ended (shift l (tree_type t c S)) o
unshifted (seq ts) l k c S o h =
    ended_shift (k + 1) (trees_type ts c S) o ∙ sym (ended_shift l (shift 1 (trees_type ts c S)) o ∙ ended_shift 1 (trees_type ts c S) o)
unshifted (prim name annots ts) l k c S o h = absurd h
unshifted (int n) l k c S o h = absurd h
unshifted (str s) l k c S o h = absurd h
unshifted (bytes b) l k c S o h = absurd h

called_is : (q : Bool) (a r : Kind) (t : Tree) (at l : ℕ) (es : List Entry) → IsSequence t →
    called_walk q a r t at es
    ≡ option_and_then (ends_call r) (ended (shift l (tree_type t place.lambda (call_kinds a r q))) (past (block_entries t at place.lambda (call_kinds a r q)) es))
called_is q a r t at l es h =
    ap (λ (P : List Kind → Bool). called_by P (call_ends a r) (body_of t at place.lambda es)) (λ i B. begins_are q a r B i)
    ∙ ap (λ (Q : Option (List Kind) → Bool). called_by (same_kinds (call_kinds a r q)) Q (body_of t at place.lambda es)) (λ i o. ends_are a r o i)
    ∙ begun (call_kinds a r q) r (body_of t at place.lambda es)
    ∙ ap (option_and_then (ends_call r)) (body_from t at 0 place.lambda (call_kinds a r q) es ∙ unshifted t l 0 place.lambda (call_kinds a r q) (past (block_entries t at place.lambda (call_kinds a r q)) es) h)

-- ---- one after another

module _ (r : Kind) (l : ℕ) (f : Option ℕ) (G : Typing) (R : List Entry) (W : List Entry → Option (List Entry))
    (h : (es : List Entry) → option_and_then (leading (unless_fault f G)) (past R es) ≡ option_and_then (leading G) (W es)) where
  item_is : (T : Typing) (o : Option (List Entry)) →
      option_and_then (leading (unless_fault (first_fault (body_fault l T r) f) G)) (option_and_then (past R) o)
      ≡ option_and_then (leading G) (option_and_then W (option_and_then (ends_call r) (ended T o)))
  item_is (goes B) None = refl
  item_is (goes B) (Some es) = by (same_kinds B (r ∷ [])) ∙ ap (λ q. option_and_then (leading G) (option_and_then W (cond q (Some es) None))) (same_kinds_symm B (r ∷ []))
    where
      by : (q : Bool) →
          option_and_then (leading (unless_fault (first_fault (cond q None (Some l)) f) G)) (past R es)
          ≡ option_and_then (leading G) (option_and_then W (cond q (Some es) None))
      by true = h es
      by false = nowhere l (past R es)
  item_is fails None = refl
  item_is fails (Some es) = h es
  item_is (typing.bad m) o = nowhere m (option_and_then (past R) o)

module _ (ts : Trees) (at : ℕ) (G : Typing) where
  abbrev within : List Pending → List Entry
  within ps = of_blocks (tellers ts (at + 1)) (pending_blocks ps)

  pending_is : (ps : List Pending) → AreSequences ps → AllStandIn 1 (preorders ts) ps → (es : List Entry) →
      option_and_then (leading (unless_fault (fault_of_bodies ps) G)) (past (within ps) es) ≡ option_and_then (leading G) (pending_walk ps at es)
  pending_is [] h s es = refl
  pending_is (claim l b a ∷ ps) h s es = pending_is ps h s.1 es
  pending_is (body l a r q t ∷ ps) h s es =
      let S : List Kind = call_kinds a r q in
      let T : Typing = shift l (tree_type t place.lambda S) in
      ap (λ (X : List Entry). option_and_then (leading (unless_fault (first_fault (body_fault l T r) (fault_of_bodies ps)) G)) (past (X ++ within ps) es))
      (body_told ts at l s.0.0 t place.lambda S s.0.1 s.0.2)
      ∙ ap (option_and_then (leading (unless_fault (first_fault (body_fault l T r) (fault_of_bodies ps)) G))) (past_append (block_entries t (at + l) place.lambda S) (within ps) es)
      ∙ item_is r l (fault_of_bodies ps) G (within ps) (pending_walk ps at) (pending_is ps h.1 s.1) T (past (block_entries t (at + l) place.lambda S) es)
      ∙ sym (ap (λ o. option_and_then (leading G) (option_and_then (pending_walk ps at) o)) (called_is q a r t (at + l) l es h.0))

-- ---- the literal

-- the nodes of the second argument stand behind those of the first
second : (t u : Tree) (ps : List Pending) → AllStandIn (1 + size t) (preorder u) ps → AllStandIn 1 (preorders (more t (more u none))) ps
second t u ps h =
    all_right 1 (preorder t) (preorders (more u none)) ps
    (all_left (1 + length (preorder t)) (preorder u) [] ps (subst (λ n. AllStandIn (1 + n) (preorder u) ps) (size_is t) h))

unless_checked : (x : Val) (ps : List Pending) (o : Option ℕ) (G : Typing) → on_found (checked x ps o) (λ y. G) ≡ unless_fault o G
unless_checked x ps (Some l) G = refl
unless_checked x ps None G = refl

abbrev pushed_by : Kind → List Kind → (List Kind → List Kind → Bool) → List Entry → Option (List Entry)
pushed_by a A T es = option_and_then (λ B. cond (T A B) (Some es) None) (told es)

pushed_is : (a : Kind) (A : List Kind) (es : List Entry) →
    option_and_then (λ B. cond (table.written p.OpPush (one_known a) A B) (Some es) None) (told es) ≡ leading (goes (a ∷ A)) es
pushed_is a A es =
    ap (λ (T : List Kind → Bool). option_and_then (λ B. cond (T B) (Some es) None) (told es)) (λ i B. push_rules a A B i) ∙ turned (a ∷ A) es (told es) true refl

abbrev by_push : Trees → ℕ → List Kind → List Entry → Found Pushed → Option (List Entry)
by_push ts at A es q =
    option_and_then (leading (on_found q (λ p. on_found (of_reading (read p.kind p.location p.literal)) (λ x. goes (p.kind ∷ A)))))
    (past (of_blocks (tellers ts (at + 1)) (blocks_of.on_found q (λ p. literal_blocks (read p.kind p.location p.literal)))) es)

module _ (t u : Tree) (at : ℕ) (a : Kind) (A : List Kind) (es : List Entry) where
  abbrev two : Trees
  two = more t (more u none)

  read_is : (e : Literal Val) → read a (1 + size t) u ≡ e →
      push_walk a (pending_in e) at A es
      ≡ option_and_then (leading (on_found (of_reading e) (λ x. goes (a ∷ A)))) (past (of_blocks (tellers two (at + 1)) (literal_blocks e)) es)
  read_is (bad l) e = refl
  read_is (good x ps) e =
      ap (λ (F : List Entry → Option (List Entry)). option_and_then F (pending_walk ps at es)) (λ i fs. pushed_is a A fs i)
      ∙ sym (
      ap (λ T. option_and_then (leading T) (past (of_blocks (tellers two (at + 1)) (pending_blocks ps)) es)) (unless_checked x ps (fault_of_bodies ps) (goes (a ∷ A)))
      ∙ pending_is two at (goes (a ∷ A)) ps (are_sequences a (1 + size t) u x ps e) (second t u ps (bodies_stand a (1 + size t) u x ps e)) es
      )

-- ---- steps

of_push : (P : Primitive → Type 0) → P p.OpPush → (op : Primitive) → way_of op ≡ way.Push → P op
of_push P a p.OpPush h = a
of_push P a op h = absurd cc

a_pushable : (R : Reading) (a : Kind) (at : ℕ) → Some a ≡ a_kind R → pushable a ≡ true → with_attribute pushable at R ≡ found a
a_pushable (a_type b) a at e f =
    let g : b ≡ a = cc in
    ap (λ x. cond (pushable x) (found x) (fault at)) g ∙ ap (λ q. cond q (found a) (fault at)) f
a_pushable (bad_type l) a at e f = absurd cc
a_pushable too_large a at e f = absurd cc

abbrev IsFault : {X : Type 0} → Found X → Type 0
IsFault q = (l : ℕ) × (q ≡ fault l)

no_type : (R : Reading) (at : ℕ) → None ≡ a_kind R → IsFault (with_attribute pushable at R)
no_type (a_type b) at e = absurd cc
no_type (bad_type l) at e = (l, refl)
no_type too_large at e = (at, refl)

not_pushable : (R : Reading) (a : Kind) (at : ℕ) → Some a ≡ a_kind R → pushable a ≡ false → IsFault (with_attribute pushable at R)
not_pushable (a_type b) a at e f =
    let g : b ≡ a = cc in
    (at, ap (λ x. cond (pushable x) (found x) (fault at)) g ∙ ap (λ q. cond q (found a) (fault at)) f)
not_pushable (bad_type l) a at e f = absurd cc
not_pushable too_large a at e f = absurd cc

not_two : (ns : List Node) → IsNotTwo ns → push_of (trees ns) ≡ fault 0
not_two [] h = refl
not_two (n ∷ []) h = refl
not_two (n ∷ m ∷ []) h = absurd h
not_two (n ∷ m ∷ l ∷ ns) h = refl

abbrev to_push : Tree → Tree → Found Kind → Found Pushed
to_push t u q = and_then q (λ a. found record { kind = a; location = 1 + size t; literal = u })

module _ (op : Primitive) (annots : List (List ℕ)) (ns : List Node) (at : ℕ) (c : Context) (A : List Kind) (es : List Entry) (h : way_of op ≡ way.Push) where
  abbrev step_on : Trees → Option (List Entry)
  step_on ts = step_by (Some op) annots ts at c A es

  to_step : (ts : Trees) → by_push ts at A es (push_of ts) ≡ step_on ts
  to_step ts =
      of_push (λ op. by_push ts at A es (push_of ts) ≡ step_by (Some op) annots ts at c A es)
      (ap (λ T. option_and_then (leading T) (past (of_blocks (tellers ts (at + 1)) (blocks_of.on_found (push_of ts) (λ p. literal_blocks (read p.kind p.location p.literal)))) es))
      (sym (all_pushed ts A))) op h

  pub no_push : IsNotTwo ns → None ≡ step_on (trees ns)
  no_push g = sym (ap (by_push (trees ns) at A es) (not_two ns g)) ∙ to_step (trees ns)

  module _ (t u : Node) (e : ns ≡ t ∷ u ∷ []) where
    type_fault : IsFault (type_argument pushable 1 (tree t)) → None ≡ step_on (trees ns)
    type_fault g =
        sym (ap (λ q. by_push (trees (t ∷ u ∷ [])) at A es (to_push (tree t) (tree u) q)) g.1) ∙ to_step (trees (t ∷ u ∷ [])) ∙ sym (ap (λ xs. step_on (trees xs)) e)

    pub no_push_type : None ≡ a_kind (type_at 1 (tree t)) → None ≡ step_on (trees ns)
    no_push_type f = type_fault (no_type (type_at 1 (tree t)) 1 f)

    pub push_type_fault : (a : Kind) → Some a ≡ a_kind (type_at 1 (tree t)) → pushable a ≡ false → None ≡ step_on (trees ns)
    push_type_fault a f g = type_fault (not_pushable (type_at 1 (tree t)) a 1 f g)

    pub push_step : (a : Kind) → Some a ≡ a_kind (type_at 1 (tree t)) → pushable a ≡ true → (i : ℕ) → i ≡ 1 + size (tree t) →
        push_walk a (pending_in (read a i (tree u))) at A es ≡ step_on (trees ns)
    push_step a f g i j =
        ap (λ n. push_walk a (pending_in (read a n (tree u))) at A es) j
        ∙ read_is (tree t) (tree u) at a A es (read a (1 + size (tree t)) (tree u)) refl
        ∙ sym (ap (λ q. by_push (trees (t ∷ u ∷ [])) at A es (to_push (tree t) (tree u) q)) (a_pushable (type_at 1 (tree t)) a 1 f g))
        ∙ to_step (trees (t ∷ u ∷ [])) ∙ sym (ap (λ xs. step_on (trees xs)) e)
