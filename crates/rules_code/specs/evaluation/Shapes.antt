-- The stacks that instructions ask for, each with what follows on it.
use Rattle.std.specs.Prelude.{ℕ, nat_le, ◌&&◌, Bool, List, ◌∷◌, length, take, drop}
use Rattle.rules_text.specs.nodes.Tree.{Trees, seq}
use Rattle.rules_data.specs.types.Kind.{Kind}
use Rattle.rules_data.specs.types.Kind as k
use Rattle.rules_code.specs.instructions.Types as t
use Rattle.rules_code.specs.instructions.Same.{same_kind}
use Rattle.rules_data.specs.values.Val.{Val, Vals, no_val, more_vals}
use Rattle.rules_data.specs.values.Val as v
use Rattle.rules_code.specs.evaluation.Outcome.{Outcome, stuck, only_if}

-- any value
abbrev pub on_top : List Kind → List Val → (Kind → List Kind → Val → List Val → Outcome) → Outcome
on_top (a ∷ A) (x ∷ V) go = go a A x V
on_top _ _ go = stuck

abbrev pub on_truth : List Kind → List Val → (List Kind → Bool → List Val → Outcome) → Outcome
on_truth (t.bool ∷ A) (v.truth b ∷ V) go = go A b V
on_truth _ _ go = stuck

-- an option: what follows without a value, and with one
abbrev pub on_option :
    List Kind → List Val → (List Kind → List Val → Outcome) → (Kind → List Kind → Val → List Val → Outcome) → Outcome
on_option (k.option a ∷ A) (v.nothing ∷ V) without with = without A V
on_option (k.option a ∷ A) (v.some x ∷ V) without with = with a A x V
on_option _ _ without with = stuck

-- a union: what follows with a left value, and with a right one
abbrev pub on_union :
    List Kind → List Val → (Kind → Kind → List Kind → Val → List Val → Outcome) →
    (Kind → Kind → List Kind → Val → List Val → Outcome) → Outcome
on_union (k.or a b ∷ A) (v.left x ∷ V) left right = left a b A x V
on_union (k.or a b ∷ A) (v.right x ∷ V) left right = right a b A x V
on_union _ _ left right = stuck

-- a list: what follows with its first element and the others, and without any
abbrev pub on_list :
    List Kind → List Val → (Kind → List Kind → Val → Vals → List Val → Outcome) → (List Kind → List Val → Outcome) → Outcome
on_list (k.list a ∷ A) (v.list (more_vals x xs) ∷ V) more none = more a A x xs V
on_list (k.list a ∷ A) (v.list no_val ∷ V) more none = none A V
on_list _ _ more none = stuck

-- an argument, and a lambda that takes it
abbrev pub on_call : List Kind → List Val → (Kind → Kind → List Kind → Val → Trees → Bool → List Val → Outcome) → Outcome
on_call (a ∷ k.lambda a' r ∷ A) (x ∷ v.lambda (seq body) recursive ∷ V) go =
    only_if (same_kind a a') (go a r A x body recursive V)
on_call _ _ go = stuck

-- a value, and a lambda that takes a pair of it and another
abbrev pub on_capture :
    List Kind → List Val → (Kind → Kind → Kind → List Kind → Val → Trees → Bool → List Val → Outcome) → Outcome
on_capture (a ∷ k.lambda (k.pair a' b) r ∷ A) (x ∷ v.lambda (seq body) recursive ∷ V) go =
    only_if (same_kind a a') (go a b r A x body recursive V)
on_capture _ _ go = stuck

-- so many values, which are left alone, and those under them
abbrev pub under : ℕ → List Kind → List Val → (List Kind → List Kind → List Val → List Val → Outcome) → Outcome
under n A V go = only_if (nat_le n (length A) && nat_le n (length V)) (go (take n A) (drop n A) (take n V) (drop n V))
