-- The tests of instructions that have more arguments than they should.
use Rattle.std.proofs.Common.{◌≡◌, ℕ, ◌≤◌, Bool, false, Option, Some, None, List, [], ◌∷◌, length, refl, subst, arith}
use Rattle.rules_text.specs.declared.nodes.Primitive.{Primitive}
use Rattle.rules_data.specs.types.Kind.{Kind}
use Rattle.rules_code.specs.instructions.Context.{Context}
use Rattle.mich_base.specs.View.{trees}
use Rattle.mich_base.specs.declared.node.Node.{Node}
use Rattle.mich_cert.specs.Bodiless.{straight_fits, falls, calls, own_fits}

falls_on : (op : Primitive) (ns : List Node) (A : List Kind) (o : Option (List Kind)) → 1 ≤ length ns → false ≡ falls op (trees ns) A o
falls_on op [] A o h = absurd (omega arith)
falls_on op (n ∷ ns) A o h = refl

calls_on : (op : Primitive) (ns : List Node) (A : List Kind) (o : Option (List Kind)) → 1 ≤ length ns → false ≡ calls op (trees ns) A o
calls_on op [] A o h = absurd (omega arith)
calls_on op (n ∷ ns) A o h = refl

own_on : (annots : List (List ℕ)) (ns : List Node) (c : Context) (A : List Kind) (o : Option (List Kind)) → 1 ≤ length ns → false ≡ own_fits annots (trees ns) c A o
own_on annots [] c A o h = absurd (omega arith)
own_on annots (n ∷ ns) c A o h = refl

straight_on : (op : Primitive) (q : Bool) (ns : List Node) (A : List Kind) (o : Option (List Kind)) → 3 ≤ length ns → false ≡ straight_fits op q (trees ns) A o
straight_on op q ns A None h = refl
straight_on op q [] A (Some B) h = absurd (omega arith)
straight_on op q (n ∷ []) A (Some B) h = absurd (omega arith)
straight_on op q (n ∷ m ∷ []) A (Some B) h = absurd (omega arith)
straight_on op q (n ∷ m ∷ l ∷ ns) A (Some B) h = refl

-- the same of a slice
module _ (ms ns : List Node) (e : ms ≡ ns) where
  pub no_fall : (op : Primitive) (A : List Kind) (o : Option (List Kind)) → 1 ≤ length ms → false ≡ falls op (trees ns) A o
  no_fall op A o h = falls_on op ns A o (subst (λ (xs : List Node). 1 ≤ length xs) e h)

  pub no_call : (op : Primitive) (A : List Kind) (o : Option (List Kind)) → 1 ≤ length ms → false ≡ calls op (trees ns) A o
  no_call op A o h = calls_on op ns A o (subst (λ (xs : List Node). 1 ≤ length xs) e h)

  pub not_own : (annots : List (List ℕ)) (c : Context) (A : List Kind) (o : Option (List Kind)) → 1 ≤ length ms → false ≡ own_fits annots (trees ns) c A o
  not_own annots c A o h = own_on annots ns c A o (subst (λ (xs : List Node). 1 ≤ length xs) e h)

  pub not_straight : (op : Primitive) (q : Bool) (A : List Kind) (o : Option (List Kind)) → 3 ≤ length ms → false ≡ straight_fits op q (trees ns) A o
  not_straight op q A o h = straight_on op q ns A o (subst (λ (xs : List Node). 3 ≤ length xs) e h)
