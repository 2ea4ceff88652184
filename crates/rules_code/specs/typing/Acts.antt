-- The typing of each instruction from the typings of its bodies (Michelson reference, "Instructions"). Of an instruction
-- the first of these is its fault: its name, the number of its arguments, its annotation and its place; its types, counts
-- and names; that the stack doesn't fit; its literal, bodies and scripts; and that what comes of these doesn't fit.
use Rattle.std.specs.Prelude.{ℕ, nat_le, if◌then◌else◌, true, List, [], ◌∷◌, length, take, drop, Option, Some, None}
use Rattle.rules_text.specs.nodes.Limits.{type_limit}
use Rattle.rules_text.specs.nodes.Tree.{Trees}
use Rattle.rules_text.specs.declared.nodes.Primitive.{Primitive}
use Rattle.rules_data.specs.types.Kind.{Kind, nodes, operation, or, list, lambda, contract}
use Rattle.rules_data.specs.types.Entrypoints.{Entry, find_entry}
use Rattle.rules_data.specs.values.Val.{Val}
use Rattle.rules_data.specs.values.Literals.{Literal, read}
use Rattle.rules_data.specs.values.Literals as read
use Rattle.rules_code.specs.instructions.Types.{bool, address}
use Rattle.rules_code.specs.instructions.Same.{same_kind}
use Rattle.rules_code.specs.instructions.Context.{Context}
use Rattle.rules_code.specs.instructions.Context as place
use Rattle.rules_code.specs.instructions.Arguments.{Found, found, fault}
use Rattle.rules_code.specs.instructions.Rules.{Ruled, ruled, faulty, rule}
use Rattle.rules_code.specs.instructions.Control.{Pushed, push_of, dip_of, Arrow, lambda_of, call_kinds, self_of}
use Rattle.rules_code.specs.instructions.Forms.{Form}
use Rattle.rules_code.specs.instructions.Forms as f
use Rattle.rules_code.specs.typing.Typing.{Typing, goes, bad, Typer, on_found, made, join, ends, under, mapped}
use Rattle.rules_code.specs.typing.Stacks.{on_bool, on_option, on_or, on_list, on_parts, on_mapped, on_call, on_captured, on_origination, on_shown, on_never}
use Rattle.rules_code.specs.typing.Bodies.{bodies_fault}
use Rattle.rules_code.specs.typing.Scripts.{Script}

-- what the arguments of an instruction are as nodes that are typed: each as a body; the one argument as a script at a
-- location; and the typing of the node at each location within them
pub record Meanings : Type 0 where
  pub bodies : List Typer
  pub script : ℕ → Found Script
  pub typing_at : ℕ → Typer

-- ---- the number of arguments

abbrev pub no_body : List Typer → Typing → Typing
no_body [] t = t
no_body bs t = bad 0

abbrev pub one_body : List Typer → (Typer → Typing) → Typing
one_body (b ∷ []) next = next b
one_body bs next = bad 0

abbrev pub two_bodies : List Typer → (Typer → Typer → Typing) → Typing
two_bodies (b ∷ d ∷ []) next = next b d
two_bodies bs next = bad 0

-- the body behind other arguments
abbrev pub last_body : List Typer → (Typer → Typing) → Typing
last_body [] next = bad 0
last_body (b ∷ []) next = next b
last_body (b ∷ d ∷ bs) next = last_body (d ∷ bs) next

-- ---- instructions

abbrev pub of_rule : Ruled → Typing
of_rule (ruled r A) = goes A
of_rule (faulty l) = bad l

-- TRANSFER_TOKENS and CREATE_CONTRACT have no place in a view, but in the lambdas of one
abbrev pub outside_views : Context → Typing → Typing
outside_views place.view t = bad 0
outside_views c t = t

abbrev pub unless_fault : Option ℕ → Typing → Typing
unless_fault (Some l) t = bad l
unless_fault None t = t

-- PUSH: a literal, and behind it the bodies of its lambdas
abbrev pub of_literal : (ℕ → Typer) → Kind → List Kind → Literal Val → Typing
of_literal typing_at a A (read.good x ps) = unless_fault (bodies_fault (λ l t. typing_at l) ps) (goes (a ∷ A))
of_literal typing_at a A (read.bad l) = bad l

abbrev pub push_type : Pushed → (ℕ → Typer) → List Kind → Typing
push_type p typing_at A = of_literal typing_at p.kind A (read p.kind p.location p.literal)

-- DIP n: the body works below n values
abbrev pub dip_type : ℕ → Typer → Typer
dip_type n b c A = if nat_le n (length A) then under (take n A) (b c (drop n A)) else bad 0

-- LAMBDA: the body goes from the argument alone to the result
abbrev pub lambda_type : Arrow → Typer → List Kind → Typing
lambda_type x b A = ends (b place.lambda (x.argument ∷ [])) (x.result ∷ []) (made (lambda x.argument x.result) A)

-- LAMBDA_REC: the body has the lambda itself below its argument, so that its type is tried first
abbrev pub lambda_rec_type : Arrow → Typer → List Kind → Typing
lambda_rec_type x b A =
    if nat_le (nodes (lambda x.argument x.result)) type_limit
    then ends (b place.lambda (call_kinds x.argument x.result true)) (x.result ∷ []) (goes (lambda x.argument x.result ∷ A))
    else bad 0

-- SELF: an entrypoint of the script, in its code outside of lambdas
abbrev pub of_entry : Option Entry → List Kind → Typing
of_entry (Some e) A = made (contract e.kind) A
of_entry None A = bad 0

abbrev pub self_type : List ℕ → Typer
self_type name (place.main es) A = of_entry (find_entry name es) A
self_type name c A = bad 0

-- CREATE_CONTRACT: a script whose storage has the type of the third value
abbrev pub of_script : Found Script → Kind → List Kind → Typing
of_script (found s) g A = if same_kind s.storage g then goes (operation ∷ address ∷ A) else bad 0
of_script (fault l) g A = bad l

abbrev pub act_type : Form → Option Primitive → List (List ℕ) → Trees → Meanings → Typer
act_type f.straight name annots ts m c A = of_rule (rule name annots ts A)
act_type f.transfer name annots ts m c A = outside_views c (of_rule (rule name annots ts A))
act_type f.push name annots ts m c A = on_found (push_of ts) (λ p. push_type p m.typing_at A)
act_type f.dip name annots ts m c A = on_found (dip_of ts) (λ n. last_body m.bodies (λ b. dip_type n b c A))
act_type f.lambda name annots ts m c A = on_found (lambda_of ts) (λ x. last_body m.bodies (λ b. lambda_type x b A))
act_type f.lambda_rec name annots ts m c A = on_found (lambda_of ts) (λ x. last_body m.bodies (λ b. lambda_rec_type x b A))
act_type f.exec name annots ts m c A = no_body m.bodies (on_call A (λ r A. goes (r ∷ A)))
act_type f.apply name annots ts m c A = no_body m.bodies (on_captured A (λ b r A. goes (lambda b r ∷ A)))
act_type f.if_bool name annots ts m c A = two_bodies m.bodies (λ b d. on_bool A (λ A. join (b c A) (d c A)))
act_type f.if_none name annots ts m c A = two_bodies m.bodies (λ b d. on_option A (λ a A. join (b c A) (d c (a ∷ A))))
act_type f.if_left name annots ts m c A = two_bodies m.bodies (λ b d. on_or A (λ l r A. join (b c (l ∷ A)) (d c (r ∷ A))))
act_type f.if_cons name annots ts m c A = two_bodies m.bodies (λ b d. on_list A (λ a A. join (b c (a ∷ list a ∷ A)) (d c A)))
act_type f.loop name annots ts m c A = one_body m.bodies (λ b. on_bool A (λ A. ends (b c A) (bool ∷ A) (goes A)))
act_type f.loop_left name annots ts m c A = one_body m.bodies (λ b. on_or A (λ l r A. ends (b c (l ∷ A)) (or l r ∷ A) (goes (r ∷ A))))
act_type f.iter name annots ts m c A = one_body m.bodies (λ b. on_parts A (λ a A. ends (b c (a ∷ A)) A (goes A)))
act_type f.map name annots ts m c A = one_body m.bodies (λ b. on_mapped A (λ a new A. mapped (b c (a ∷ A)) new A))
act_type f.failwith name annots ts m c A = no_body m.bodies (on_shown A)
act_type f.never name annots ts m c A = no_body m.bodies (on_never A)
act_type f.self name annots ts m c A = on_found (self_of annots ts) (λ entry. self_type entry c A)
act_type f.create_contract name annots ts m c A = outside_views c (one_body m.bodies (λ b. on_origination A (λ g A. of_script (m.script 1) g A)))
