-- PUSH tries the bodies of its literal by the typings that its node has, which are those of the nodes that were read.
use Rattle.std.proofs.Common.{◌≡◌, ℕ, ◌+◌, ◌-◌, Option, Some, None, List, [], ◌∷◌, ◌++◌, length, refl, sym, ap, ◌∙◌, subst, map, arith}
use Rattle.std.specs.Prelude.{codes, slice_get, option_map}
use Rattle.std.proofs.lemmas.List.{map-append}
use Rattle.std.proofs.lemmas.Option.{slice_get-map}
use Rattle.rules_text.specs.nodes.Tree.{Tree, int, str, bytes, prim, seq, Trees, none, more, size, preorder, preorders}
use Rattle.rules_text.specs.nodes.Primitives.{primitive_names, primitives, code_of_name, primitive_of_code, primitive_of_name}
use Rattle.rules_text.specs.declared.nodes.Primitive.TheVariants as p
use Rattle.rules_data.specs.types.Kind.{Kind}
use Rattle.rules_data.specs.types.Attributes.{pushable}
use Rattle.rules_data.specs.values.Val.{Val}
use Rattle.rules_data.specs.values.Literals.{Pending, body, claim, Literal, good, bad, read}
use Rattle.rules_code.specs.instructions.Context.{Context}
use Rattle.rules_code.specs.instructions.Context as place
use Rattle.rules_code.specs.instructions.Arguments.{Found, found, fault, and_then, type_argument}
use Rattle.rules_code.specs.instructions.Control.{Pushed, push_of, call_kinds}
use Rattle.rules_code.specs.typing.Typing.{goes, Typer, shift, on_found}
use Rattle.rules_code.specs.typing.Bodies.{body_fault, first_fault, bodies_fault}
use Rattle.rules_code.specs.typing.Acts.{Meanings, unless_fault, of_literal, push_type}
use Rattle.rules_code.specs.typing.Nodes.{bodies, script_in, typing_of, tree_type, typings, inner_typings, named_type}
use Rattle.rules_code.specs.typing.Literals.{fault_of_bodies, checked, of_reading}
use Rattle.laws_typing.specs.literals.Laws.{AllStandIn, PushedAsLiterals}
use Rattle.laws_typing.proofs.literals_lemmas.Places.{size_is, placed, all_left, all_right, of_same}

-- the typing of a node
abbrev typer : Tree → Typer
typer t = λ c A. tree_type t c A

mutual
  typings_are : (ts : Trees) → typings ts ≡ map typer (preorders ts)
  typings_are none = refl
  typings_are (more t ts) =
      ap (λ fs. fs ++ typings ts) (inner_are t) ∙ ap (λ fs. map typer (preorder t) ++ fs) (typings_are ts) ∙ sym (map-append typer (preorder t) (preorders ts))

  inner_are : (t : Tree) → typer t ∷ inner_typings t ≡ map typer (preorder t)
  inner_are (int n) = refl
  inner_are (str s) = refl
  inner_are (bytes b) = refl
  inner_are (prim name annots ts) = ap (λ fs. typer (prim name annots ts) ∷ fs) (typings_are ts)
  inner_are (seq ts) = ap (λ fs. typer (seq ts) ∷ fs) (typings_are ts)

-- the typing at a location is that of the node which stands there
typed_there : (ts : Trees) (l i : ℕ) (t : Tree) (c : Context) (A : List Kind) → l ≡ 1 + i → slice_get (preorders ts) i ≡ Some t →
    typing_of (slice_get (typings ts) (l - 1)) c A ≡ tree_type t c A
typed_there ts l i t c A same there =
    let e : l - 1 ≡ i = omega (arith, same) in
    let f : slice_get (typings ts) i ≡ Some (typer t) =
    ap (λ fs. slice_get fs i) (typings_are ts) ∙ slice_get-map typer (preorders ts) i ∙ ap (option_map typer) there in
    ap (λ j. typing_of (slice_get (typings ts) j) c A) e ∙ ap (λ o. typing_of o c A) f

-- bodies that stand at their locations are tried by the typings of their nodes
abbrev pub typing_at : Trees → ℕ → Typer
typing_at ts l c A = shift l (typing_of (slice_get (typings ts) (l - 1)) c A)

tried_there : (ts : Trees) (ps : List Pending) → AllStandIn 1 (preorders ts) ps → bodies_fault (λ l t. typing_at ts l) ps ≡ fault_of_bodies ps
tried_there ts [] h = refl
tried_there ts (body l a r recursive t ∷ ps) h =
    let A : List Kind = call_kinds a r recursive in
    ap (λ f. first_fault (body_fault l (shift l f) r) (bodies_fault (λ l t. typing_at ts l) ps)) (typed_there ts l h.0.0 t place.lambda A h.0.1 h.0.2)
    ∙ ap (first_fault (body_fault l (shift l (tree_type t place.lambda A)) r)) (tried_there ts ps h.1)
tried_there ts (claim l b a ∷ ps) h = tried_there ts ps h.1

-- ---- the literal of PUSH

-- what is read of a literal, and what PUSH makes of it
made_of : (a : Kind) (A : List Kind) (x : Val) (ps : List Pending) (o : Option ℕ) →
    unless_fault o (goes (a ∷ A)) ≡ on_found (checked x ps o) (λ y. goes (a ∷ A))
made_of a A x ps (Some l) = refl
made_of a A x ps None = refl

literal_is : (ts : Trees) (a : Kind) (A : List Kind) (e : Literal Val) → ((x : Val) (ps : List Pending) → e ≡ good x ps → AllStandIn 1 (preorders ts) ps) →
    of_literal (typing_at ts) a A e ≡ on_found (of_reading e) (λ y. goes (a ∷ A))
literal_is ts a A (good x ps) h = ap (λ o. unless_fault o (goes (a ∷ A))) (tried_there ts ps (h x ps refl)) ∙ made_of a A x ps (fault_of_bodies ps)
literal_is ts a A (bad l) h = refl

-- the second argument's nodes stand behind the first's
second : (t u : Tree) (ps : List Pending) → AllStandIn (1 + size t) (preorder u) ps → AllStandIn 1 (preorders (more t (more u none))) ps
second t u ps h = all_right 1 (preorder t) (preorders (more u none)) ps
    (all_left (1 + length (preorder t)) (preorder u) [] ps (subst (λ n. AllStandIn (1 + n) (preorder u) ps) (size_is t) h))

-- PUSH's type and literal
abbrev to_push : Tree → Tree → Found Kind → Found Pushed
to_push t u f = and_then f (λ a. found record { kind = a; location = 1 + size t; literal = u })

-- what PUSH makes of what was read of its arguments, and what `literal` does
abbrev pub IsPushed : Trees → List Kind → Found Pushed → Type 0
IsPushed ts A q =
    on_found q (λ p. push_type p (typing_at ts) A)
    ≡ on_found q (λ p. on_found (of_reading (read p.kind p.location p.literal)) (λ x. goes (p.kind ∷ A)))

found_is : (t u : Tree) (A : List Kind) (f : Found Kind) → IsPushed (more t (more u none)) A (to_push t u f)
found_is t u A (found a) = literal_is (more t (more u none)) a A (read a (1 + size t) u)
    (λ x ps same. second t u ps (of_same (read a (1 + size t) u) (1 + size t) (preorder u) x ps same (placed a (1 + size t) u)))
found_is t u A (fault l) = refl

pub all_pushed : (ts : Trees) (A : List Kind) → IsPushed ts A (push_of ts)
all_pushed (more t (more u none)) A = found_is t u A (type_argument pushable 1 t)
all_pushed none A = refl
all_pushed (more t none) A = refl
all_pushed (more t (more u (more w ts))) A = refl

push_name : primitive_of_name (codes "PUSH") ≡ Some p.OpPush
unfolding primitive_of_name code_of_name primitive_of_code primitive_names primitives
push_name = refl

abbrev meanings : Trees → Meanings
meanings ts = record { bodies = bodies ts 1; script = λ at. script_in ts at; typing_at = typing_at ts }

pub pushed : PushedAsLiterals
pushed annots ts c A = ap (λ n. named_type n annots ts (meanings ts) c A) push_name ∙ all_pushed ts A
