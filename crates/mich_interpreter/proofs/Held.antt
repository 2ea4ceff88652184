-- The lambdas in literals of PUSH.
use Rattle.std.proofs.Common.{◌≡◌, ℕ, ◌+◌, Bool, true, false, [], ◌∷◌, refl, sym, ap, ◌∙◌, subst, rules}
use Rattle.rules_text.specs.nodes.Tree.{Tree, int, str, bytes, prim, seq, Trees, none, more}
use Rattle.rules_data.specs.types.Kind.{Kind}
use Rattle.rules_data.specs.types.Kind as k
use Rattle.rules_data.specs.values.Val.{Val}
use Rattle.rules_data.specs.values.Val as v
use Rattle.rules_data.specs.values.Literals.{Word, recursive_word, word_of_name, body, Literal, good, bad, read_body, recursive_named, read_lambda}
use Rattle.rules_code.specs.instructions.Context as place
use Rattle.rules_code.specs.instructions.Control.{call_kinds}
use Rattle.mich_base.specs.TypeView.{kind}
use Rattle.mich_base.specs.declared.ty.Ty.{Ty, the_lemmas}
use Rattle.mich_base.specs.declared.ty.Ty.TheVariants as ty
use Rattle.mich_instr.specs.Body.{AllHeld, inside}
use Rattle.mich_instr.specs.Code.{Codes}
use Rattle.mich_instr.specs.Code as made
use Rattle.mich_instr.specs.Typed.{AreCode, AreHeld, none_held, held_body}
use Rattle.mich_interpreter.specs.Literals.{HoldsLiteral, IsLiteralOf}

pub kind_lambda : (a r : Ty) → kind (ty.Lambda a r) ≡ k.lambda (kind a) (kind r)
kind_lambda a r = search (rules, the_lemmas)

-- ---- a literal that is a lambda has one body in it

abbrev pub OneBody : Kind → Kind → Literal Val → Type 0
OneBody a r (good x ps) = (q : Bool) × (ts : Trees) × (l : ℕ) × (x ≡ v.lambda (seq ts) q) × (ps ≡ body l a r q (seq ts) ∷ [])
OneBody a r (bad l) = Unit {0}

body_one : (a r : Kind) (q : Bool) (at : ℕ) (t : Tree) → OneBody a r (read_body a r q at t)
body_one a r q at (seq ts) = (q, ts, at, refl, refl)
body_one a r q at (int n) = tt
body_one a r q at (str s) = tt
body_one a r q at (bytes c) = tt
body_one a r q at (prim name annots args) = tt

recursive_one : (w : Word) (a r : Kind) (at : ℕ) (ts : Trees) → OneBody a r (recursive_named w a r at ts)
recursive_one recursive_word a r at (more t none) = body_one a r true (at + 1) t
recursive_one _ a r at _ = tt

pub lambda_one : (a r : Kind) (at : ℕ) (t : Tree) → OneBody a r (read_lambda a r at t)
lambda_one a r at (prim name annots args) = recursive_one (word_of_name name) a r at args
lambda_one a r at (int n) = tt
lambda_one a r at (str s) = tt
lambda_one a r at (bytes c) = tt
lambda_one a r at (seq ts) = (false, ts, at, refl, refl)

held_is : (a r : Kind) (q : Bool) (ts : Trees) (l : ℕ) (is : Codes) → AreHeld (body l a r q (seq ts) ∷ []) is →
    (js : Codes) × (is ≡ made.more (made.lambda q a r none (seq ts) js) made.none) × AreCode place.lambda ts js (call_kinds a r q) (r ∷ [])
held_is a r q ts l _ (held_body {is = js} x none_held) = (js, refl, x)

pub literal_of : (a r : Kind) (at : ℕ) (t : Tree) (is : Codes) (h : HoldsLiteral at (k.lambda a r) t is) → IsLiteralOf a r h.0 is
literal_of a r at t is h =
    let o : OneBody a r (good h.0 h.1) = subst (OneBody a r) h.2 (lambda_one a r at t) in
    let g = held_is a r o.0 o.1 o.2 is (subst (λ ps. AreHeld ps is) o.4 h.3) in
    (o.0, o.1, g.0, o.3, g.1, g.2)

-- ---- and is that lambda

abbrev first_value : Codes → Val
first_value (made.more (made.lambda q a r ts t is) js) = v.lambda t q
first_value _ = v.unit

pub value_first : (q : Bool) (a r b s : Kind) (ws : Trees) (t : Tree) (is : Codes) (x : Val) → IsLiteralOf b s x (made.more (made.lambda q a r ws t is) made.none) → v.lambda t q ≡ x
value_first q a r b s ws t is x h = ap first_value h.4 ∙ sym h.3

pub code_first : (q : Bool) (a r b s : Kind) (ws : Trees) (t : Tree) (is : Codes) (x : Val) → IsLiteralOf b s x (made.more (made.lambda q a r ws t is) made.none) →
    AreCode place.lambda (inside t) is (call_kinds a r q) (r ∷ [])
code_first q a r b s ws t is x h = (subst AllHeld (sym h.4) (h.5, tt)).0
