-- Typings at a location.
use Rattle.std.proofs.Common.{◌≡◌, ℕ, ◌+◌, List, Option, Some, None, refl, sym, ap, ◌∙◌, arith}
use Rattle.rules_text.specs.nodes.Tree.{Tree, int, str, bytes, prim, seq, Trees}
use Rattle.rules_data.specs.types.Kind.{Kind}
use Rattle.rules_code.specs.instructions.Context.{Context}
use Rattle.rules_code.specs.typing.Typing.{Typing, goes, fails, bad, shift}
use Rattle.rules_code.specs.typing.Nodes.{body, tree_type, trees_type}
use Rattle.mich_base.specs.declared.ty.Ty.{Ty}
use Rattle.mich_typed.specs.declared.error.CheckError.{CheckError}
use Rattle.mich_typed.specs.declared.error.CheckError.TheVariants as error
use Rattle.mich_control.specs.Answers.{typing, IsFault}

pub shift_shift : (k j : ℕ) (t : Typing) → shift k (shift j t) ≡ shift (k + j) t
shift_shift k j (goes B) = refl
shift_shift k j fails = refl
shift_shift k j (bad l) =
    let e : k + (j + l) ≡ k + j + l = omega arith in
    ap bad e

pub bad_here : (at : ℕ) → shift at (bad 0) ≡ bad at
bad_here at =
    let e : at + 0 ≡ at = omega arith in
    ap bad e

pub unshift : (k : ℕ) (t : Typing) (o : Option (List Ty)) → shift k t ≡ typing o → t ≡ typing o
unshift k (goes B) (Some ts) e = e
unshift k (goes B) None e = absurd cc
unshift k fails (Some ts) e = absurd cc
unshift k fails None e = refl
unshift k (bad l) (Some ts) e = absurd cc
unshift k (bad l) None e = absurd cc

pub body_at : (at k : ℕ) (t : Tree) (c : Context) (A : List Kind) → shift at (body t k c A) ≡ body t (at + k) c A
body_at at k (int n) c A = refl
body_at at k (str s) c A = refl
body_at at k (bytes b) c A = refl
body_at at k (prim name annots ts) c A = refl
body_at at k (seq ts) c A =
    let e : at + (k + 1) ≡ at + k + 1 = omega arith in
    shift_shift at (k + 1) (trees_type ts c A) ∙ ap (λ n. shift n (trees_type ts c A)) e

pub seq_at : (at : ℕ) (t : Tree) (ts : Trees) (c : Context) (A : List Kind) → t ≡ seq ts → shift at (tree_type t c A) ≡ body t at c A
seq_at at t ts c A e =
    ap (λ x. shift at (tree_type x c A)) e ∙ shift_shift at 1 (trees_type ts c A) ∙ sym (ap (λ x. body x at c A) e)

pub fault_is : (t u : Typing) (e : CheckError) → t ≡ u → IsFault u e → IsFault t e
fault_is t u (error.IllTyped l) e h = e ∙ h
fault_is t u error.Memory e h = tt
