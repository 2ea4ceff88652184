-- The type of a node that is one; the unit type of another.
use Rattle.std.specs.Prelude.{List, [], ◌∷◌}
use Rattle.rules_text.specs.nodes.Tree.{Tree, int, str, bytes, prim, seq, Trees, none, more}
use Rattle.rules_data.specs.declared.types.Simple.TheVariants as s
use Rattle.rules_data.specs.types.Kind.{Kind}
use Rattle.rules_data.specs.types.Kind as k
use Rattle.rules_data.specs.types.Reading.{Former, simple_type, operation_type, one_argument, two_arguments, pair_type, no_type, former_of_name, of_argument, of_arguments}
use Rattle.rules_data.specs.declared.types.OneArgument.{OneArgument}
use Rattle.rules_data.specs.declared.types.TwoArguments.{TwoArguments}

abbrev pub no_kind : Kind
no_kind = k.simple s.Unit

abbrev pub made_of_one : OneArgument → List Kind → Kind
made_of_one f [] = no_kind
made_of_one f (a ∷ []) = of_argument f a
made_of_one f (a ∷ b ∷ bs) = no_kind

abbrev pub made_of_two : TwoArguments → List Kind → Kind
made_of_two f [] = no_kind
made_of_two f (a ∷ []) = no_kind
made_of_two f (a ∷ b ∷ []) = of_arguments f a b
made_of_two f (a ∷ b ∷ c ∷ cs) = no_kind

abbrev pub pair_of : List Kind → Kind
pair_of [] = no_kind
pair_of (a ∷ []) = a
pair_of (a ∷ b ∷ bs) = k.pair a (pair_of (b ∷ bs))

abbrev pub made : Former → List Kind → Kind
made (simple_type s) kinds = k.simple s
made operation_type kinds = k.operation
made (one_argument f) kinds = made_of_one f kinds
made (two_arguments f) kinds = made_of_two f kinds
made pair_type kinds = pair_of kinds
made no_type kinds = no_kind

abbrev mutual
  pub built : Tree → Kind
  built (int n) = no_kind
  built (str s) = no_kind
  built (bytes b) = no_kind
  built (seq ts) = no_kind
  built (prim name annots args) = made (former_of_name name) (built_all args)

  pub built_all : Trees → List Kind
  built_all none = []
  built_all (more t ts) = built t ∷ built_all ts
