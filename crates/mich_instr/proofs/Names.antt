-- The names of the instructions that have a form of their own.
use Rattle.std.proofs.Common.{◌≡◌, ℕ, suc, zero, ◌+◌, Bool, true, false, ◌&&◌, List, [], ◌∷◌, Option, Some, None, get_or, refl, sym, ap, ◌∙◌, nat_eq, slice_get, arith}
use Rattle.std.specs.Prelude.{option_and_then}
use Rattle.std.specs.List.{position}
use Rattle.std.specs.Str.{bytes_eq}
use Rattle.std.proofs.lemmas.Bool.{eqb-true}
use Rattle.std.proofs.lemmas.List.Quantifiers.{position-Some}
use Rattle.std.proofs.lemmas.Slice.Eq.{bytes_eq-Decides}
use Rattle.rules_text.specs.nodes.Primitives.{primitive_names, primitives, code_of_name, code_of_primitive, primitive_of_code, primitive_of_name}
use Rattle.rules_text.specs.declared.nodes.Primitive.{Primitive}
use Rattle.rules_text.specs.declared.nodes.Primitive.TheVariants as p
use Rattle.rules_code.specs.instructions.Forms.{Form, form_of}
use Rattle.rules_code.specs.instructions.Forms as f

-- each of these primitives stands at its code, from i on
abbrev all_coded : ℕ → List Primitive → Bool
all_coded i [] = true
all_coded i (x ∷ xs) = nat_eq (code_of_primitive x) i && all_coded (i + 1) xs

coded : all_coded 0 primitives ≡ true
unfolding primitives code_of_primitive
coded = refl

both : (a b : Bool) → a && b ≡ true → (a ≡ true) × (b ≡ true)
both true true e = (refl, refl)
both true false e = absurd cc
both false b e = absurd cc

code_at : (i : ℕ) (xs : List Primitive) (k : ℕ) (x : Primitive) → all_coded i xs ≡ true → slice_get xs k ≡ Some x → code_of_primitive x ≡ i + k
code_at i [] k x t e = absurd cc
code_at i (y ∷ ys) zero x t e =
    let same : y ≡ x = cc in ap code_of_primitive (sym same) ∙ eqb-true _ _ (both _ _ t).0 ∙ omega arith
code_at i (y ∷ ys) (suc k) x t e = code_at (i + 1) ys k x (both _ _ t).1 e ∙ omega arith

-- the name of a primitive
abbrev pub word : Primitive → List ℕ
word x = get_or primitive_names (code_of_primitive x) []

pub name_is : (name : List ℕ) (x : Primitive) → primitive_of_name name ≡ Some x → name ≡ word x
unfolding primitive_of_name code_of_name primitive_of_code
name_is name x e = by (position (bytes_eq name) primitive_names) refl e
  where
    by : (o : Option ℕ) → position (bytes_eq name) primitive_names ≡ o → option_and_then primitive_of_code o ≡ Some x → name ≡ word x
    by None h e = absurd cc
    by (Some k) h e =
        let found = position-Some (bytes_eq name) primitive_names k [] h in
        (bytes_eq-Decides name (get_or primitive_names k [])).0 found.1
        ∙ ap (λ n. get_or primitive_names n []) (sym (code_at 0 primitives k x coded e ∙ omega arith))

-- the primitive whose form this is
abbrev pub primitive_with : Form → Option Primitive
primitive_with f.straight = None
primitive_with f.transfer = Some p.OpTransferTokens
primitive_with f.push = Some p.OpPush
primitive_with f.dip = Some p.OpDip
primitive_with f.lambda = Some p.OpLambda
primitive_with f.lambda_rec = Some p.OpLambdaRec
primitive_with f.exec = Some p.OpExec
primitive_with f.apply = Some p.OpApply
primitive_with f.if_bool = Some p.OpIf
primitive_with f.if_none = Some p.OpIfNone
primitive_with f.if_left = Some p.OpIfLeft
primitive_with f.if_cons = Some p.OpIfCons
primitive_with f.loop = Some p.OpLoop
primitive_with f.loop_left = Some p.OpLoopLeft
primitive_with f.iter = Some p.OpIter
primitive_with f.map = Some p.OpMap
primitive_with f.failwith = Some p.OpFailwith
primitive_with f.never = Some p.OpNever
primitive_with f.self = Some p.OpSelf
primitive_with f.create_contract = Some p.OpCreateContract

primitive_is : (o : Option Primitive) (form : Form) → form_of o ≡ form → (form ≡ f.straight → ⊥) → o ≡ primitive_with form
primitive_is (Some p.OpTransferTokens) form e n = ap primitive_with e
primitive_is (Some p.OpPush) form e n = ap primitive_with e
primitive_is (Some p.OpDip) form e n = ap primitive_with e
primitive_is (Some p.OpLambda) form e n = ap primitive_with e
primitive_is (Some p.OpLambdaRec) form e n = ap primitive_with e
primitive_is (Some p.OpExec) form e n = ap primitive_with e
primitive_is (Some p.OpApply) form e n = ap primitive_with e
primitive_is (Some p.OpIf) form e n = ap primitive_with e
primitive_is (Some p.OpIfNone) form e n = ap primitive_with e
primitive_is (Some p.OpIfLeft) form e n = ap primitive_with e
primitive_is (Some p.OpIfCons) form e n = ap primitive_with e
primitive_is (Some p.OpLoop) form e n = ap primitive_with e
primitive_is (Some p.OpLoopLeft) form e n = ap primitive_with e
primitive_is (Some p.OpIter) form e n = ap primitive_with e
primitive_is (Some p.OpMap) form e n = ap primitive_with e
primitive_is (Some p.OpFailwith) form e n = ap primitive_with e
primitive_is (Some p.OpNever) form e n = ap primitive_with e
primitive_is (Some p.OpSelf) form e n = ap primitive_with e
primitive_is (Some p.OpCreateContract) form e n = ap primitive_with e
primitive_is o form e n = absurd (n (sym e))

-- a name with a form of its own is this primitive's
pub formed : (name : List ℕ) (form : Form) → form_of (primitive_of_name name) ≡ form → (form ≡ f.straight → ⊥) → primitive_of_name name ≡ primitive_with form
formed name form e n = primitive_is (primitive_of_name name) form e n
