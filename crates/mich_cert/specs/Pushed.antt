-- What the walk over the bodies in a literal finds.
use Rattle.std.specs.Prelude.{ℕ, ◌+◌, ◌&&◌, cond, Bool, List, [], ◌∷◌, Option, Some, None, option_and_then}
use Rattle.rules_text.specs.declared.nodes.Primitive.TheVariants as p
use Rattle.rules_text.specs.nodes.Tree.{Tree}
use Rattle.rules_data.specs.types.Kind.{Kind}
use Rattle.rules_data.specs.values.Val.{Val}
use Rattle.rules_data.specs.values.Literals.{Pending, body, claim, Literal, good, bad}
use Rattle.rules_code.specs.instructions.Context.{lambda}
use Rattle.rules_code.specs.certificates.Derivation.{Entry}
use Rattle.mich_cert.specs.Bodiless.{one_known}
use Rattle.mich_cert.specs.Table as table
use Rattle.mich_cert.specs.Walk.{told, body_of, call_begins, call_ends}

-- what is still to be tried of a literal, if it is one
abbrev pub pending_in : Literal Val → Option (List Pending)
pending_in (good x ps) = Some ps
pending_in (bad l) = None

-- the walk over a node as the body of a lambda
abbrev pub called_walk : Bool → Kind → Kind → Tree → ℕ → List Entry → Option (List Entry)
called_walk recursive a r t at es =
    option_and_then (λ x. cond (call_begins recursive a r x.begins && call_ends a r x.ends) (Some x.rest) None) (body_of t at lambda es)

abbrev pub item_walk : Pending → ℕ → List Entry → Option (List Entry)
item_walk (body l a r recursive t) at es = called_walk recursive a r t (at + l) es
item_walk (claim l b a) at es = Some es

-- the walk over all of them, whose locations are counted from one
abbrev pub pending_walk : List Pending → ℕ → List Entry → Option (List Entry)
pending_walk [] at es = Some es
pending_walk (p ∷ ps) at es = option_and_then (pending_walk ps at) (item_walk p at es)

-- the walk over a literal of a type
abbrev pub push_walk : Kind → Option (List Pending) → ℕ → List Kind → List Entry → Option (List Entry)
push_walk a None at A es = None
push_walk a (Some ps) at A es =
    option_and_then (λ fs. option_and_then (λ B. cond (table.written p.OpPush (one_known a) A B) (Some fs) None) (told fs)) (pending_walk ps at es)
