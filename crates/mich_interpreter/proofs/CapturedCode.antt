-- The lambdas in what APPLY captures.
use Rattle.std.proofs.Common.{◌≡◌, ℕ, Bool, true, List, [], ◌∷◌, ◌++◌, refl, sym, ap, ◌∙◌, subst, rules}
use Rattle.std.proofs.lemmas.Bool.{and_parts}
use Rattle.rules_text.specs.nodes.Tree.{Tree, seq, none}
use Rattle.rules_data.specs.types.Kind.{Kind}
use Rattle.rules_data.specs.types.Kind as k
use Rattle.rules_data.specs.values.Val.{Val}
use Rattle.rules_data.specs.values.Val as v
use Rattle.rules_data.specs.values.Canonical.{canonical}
use Rattle.rules_data.specs.values.Literals.{Pending, body, Literal, good, bad, read}
use Rattle.rules_code.specs.instructions.Context as place
use Rattle.rules_code.specs.instructions.Control.{call_kinds}
use Rattle.laws_data.specs.values.Laws.{Gives}
use Rattle.mich_instr.specs.Body.{inside}
use Rattle.mich_instr.specs.Code.{Codes}
use Rattle.mich_instr.specs.Code as made
use Rattle.mich_instr.specs.Typed.{AreCode, AreHeld, none_held, held_body}
use Rattle.mich_base.specs.View.{tree}
use Rattle.mich_base.specs.declared.node.Node.{Node}
use Rattle.mich_term.specs.ValueView.{val}
use Rattle.mich_term.specs.declared.value.Value as values
use Rattle.mich_term.specs.declared.value.Value.TheVariants as value
use Rattle.mich_check.proofs.Readings.{Leaves, read_keeps}
use Rattle.mich_interpreter.specs.Applied.{CapturesValue, has_no_lambda}
use Rattle.mich_interpreter.specs.Literals.{HoldsLiteral}
use Rattle.mich_interpreter.proofs.Held.{OneBody, lambda_one}

given : (e : Literal Val) (x : Val) → Gives e x → (ps : List Pending) × (e ≡ good x ps)
given (good y ps) x h = (ps, ap (λ z. good z ps) h)
given (bad l) x h = absurd h

-- ---- without lambdas nothing is pending

abbrev IsNothing : List Pending → Type 0
IsNothing ps = ps ≡ []

nothing_both : (ps qs : List Pending) → IsNothing ps → IsNothing qs → IsNothing (ps ++ qs)
nothing_both ps qs h g = ap (λ x. x ++ qs) h ∙ g

quiet : (a : Kind) → has_no_lambda a ≡ true → Leaves IsNothing refl nothing_both a
quiet (k.simple s) h = tt
quiet (k.option a) h = quiet a h
quiet (k.or a b) h = let p = and_parts (has_no_lambda a) (has_no_lambda b) h in (quiet a p.0, quiet b p.1)
quiet (k.pair a b) h = let p = and_parts (has_no_lambda a) (has_no_lambda b) h in (quiet a p.0, quiet b p.1)
quiet (k.list a) h = quiet a h
quiet (k.set a) h = quiet a h
quiet (k.map a b) h = let p = and_parts (has_no_lambda a) (has_no_lambda b) h in (quiet a p.0, quiet b p.1)
quiet (k.big_map a b) h = let p = and_parts (has_no_lambda a) (has_no_lambda b) h in (quiet a p.0, quiet b p.1)
quiet (k.lambda a b) h = absurd cc
quiet (k.contract a) h = absurd cc
quiet k.operation h = tt
quiet (k.ticket a) h = absurd cc

pub no_lambda : (a : Kind) (x : Val) (is : Codes) → has_no_lambda a ≡ true → CapturesValue a x → is ≡ made.none → (at : ℕ) → HoldsLiteral at a (canonical x) is
no_lambda a x is h c e at =
    let g = given (read a at (canonical x)) x (c.1 at) in
    let none_left = read_keeps IsNothing refl nothing_both a at (canonical x) x g.0 (quiet a h) g.1 in
    (x, g.0, g.1, subst (λ is. AreHeld g.0 is) (sym e) (subst (λ ps. AreHeld ps made.none) (sym none_left) none_held))

-- ---- a lambda

pub val_lambda : (n : Node) (r : Bool) → val (value.Lambda n r) ≡ v.lambda (tree n) r
val_lambda n r = search (rules, values.the_lemmas)

body_is : (a r : Kind) (q : Bool) (t : Tree) (is : Codes) (ps : List Pending) → OneBody a r (good (v.lambda t q) ps) → AreCode place.lambda (inside t) is (call_kinds a r q) (r ∷ []) →
    AreHeld ps (made.more (made.lambda q a r none t is) made.none)
body_is a r q t is ps o x =
    let e = o.3 in
    let same_tree : t ≡ seq o.1 = cc in
    let same_flag : q ≡ o.0 = cc in
    subst (λ ps. AreHeld ps (made.more (made.lambda q a r none t is) made.none)) (sym o.4)
    (subst (λ b. AreHeld (body o.2 a r b (seq o.1) ∷ []) (made.more (made.lambda q a r none t is) made.none)) same_flag
    (subst (λ u. AreHeld (body o.2 a r q u ∷ []) (made.more (made.lambda q a r none t is) made.none)) same_tree
    (subst (λ u. AreHeld (body o.2 a r q u ∷ []) (made.more (made.lambda q a r none u is) made.none)) (sym same_tree)
    (held_body (subst (λ u. AreCode place.lambda (inside u) is (call_kinds a r q) (r ∷ [])) same_tree x) none_held))))

pub one_lambda : (a r : Kind) (x : Val) (q : Bool) (t : Tree) (is js : Codes) → CapturesValue (k.lambda a r) x → x ≡ v.lambda t q →
    AreCode place.lambda (inside t) is (call_kinds a r q) (r ∷ []) → js ≡ made.more (made.lambda q a r none t is) made.none → (at : ℕ) → HoldsLiteral at (k.lambda a r) (canonical x) js
one_lambda a r x q t is js c e code j at =
    let g = given (read (k.lambda a r) at (canonical x)) x (c.1 at) in
    let o : OneBody a r (good x g.0) = subst (OneBody a r) g.1 (lambda_one a r at (canonical x)) in
    (x, g.0, g.1, subst (λ is. AreHeld g.0 is) (sym j) (body_is a r q t is g.0 (subst (λ z. OneBody a r (good z g.0)) e o) code))
