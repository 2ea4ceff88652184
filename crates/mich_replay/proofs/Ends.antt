-- The statuses of packing.
use Rattle.std.proofs.Common.{ℕ, ◌+◌, Bool, true, false, List, [], ◌∷◌, length, Option, Some, None, Result, Ok, Err, IfOk, inl, inr, refl, sym, subst}
use Rattle.std.specs.Prelude.{nat_le, if◌then◌else◌, codes}
use Rattle.std.specs.Str.{bytes_eq}
use Rattle.rules_text.specs.nodes.Limits.{byte_limit}
use Rattle.rules_text.specs.nodes.Tree.{Tree, int, str, bytes, prim, seq, size}
use Rattle.rules_text.specs.declared.text.TextKind.{TextKind}
use Rattle.rules_data.specs.types.Attributes.{packable}
use Rattle.rules_data.specs.types.Reading.{Reading, a_type, bad_type, too_large, type_at}
use Rattle.rules_data.specs.values.Val.{Val}
use Rattle.rules_data.specs.values.Literals.{read}
use Rattle.rules_code.specs.instructions.Arguments.{Found, found, fault}
use Rattle.rules_code.specs.typing.Literals.{Checked, of_reading}
use Rattle.rules_code.specs.steps.Packing.{packed}
use Rattle.rules_files.specs.commands.Answers.{Answer, done_with, refused_with}
use Rattle.rules_files.specs.commands.Codec.{alone, bytes_line, fitting, of_statements, of_text, IsCodecAnswer}
use Rattle.rules_files.specs.commands.Packs.{ill_typed_at, first_claim, unless_claimed, literal_answer, packing_answer, pack_fields, pack_node}
use Rattle.rules_files.specs.commands.Places.{Placed}
use Rattle.rules_files.specs.statements.Statements.{nodes_of}
use Rattle.mich_base.specs.declared.memory.Memory.{Memory}
use Rattle.mich_answers.specs.View.{answer_seen, IsDoneOrRefused}
use Rattle.mich_answers.specs.declared.answer.Answer.{Answer as Reply}

chosen : (b : Bool) (x y : Answer) → IsDoneOrRefused x.status → IsDoneOrRefused y.status → IsDoneOrRefused (if b then x else y).status
chosen true x y h g = h
chosen false x y h g = g

unless_own : (o : Option ℕ) (v : Val) → IsDoneOrRefused (unless_claimed o v).status
unless_own (Some location) v = inr refl
unless_own None v = chosen (nat_le (length (packed v)) byte_limit) (done_with (bytes_line (packed v))) (refused_with (codes "SizeLimit") 0) (inl refl) (inr refl)

literal_own : (f : Found Checked) → IsDoneOrRefused (literal_answer f).status
literal_own (found c) = unless_own (first_claim c.claims) c.value
literal_own (fault location) = inr refl

packing_own : (r : Reading) (t n : Tree) → IsDoneOrRefused (packing_answer r t n).status
packing_own (a_type a) t n = chosen (packable a) (literal_answer (of_reading (read a (1 + size t) n))) (ill_typed_at 1) (literal_own (of_reading (read a (1 + size t) n))) (inr refl)
packing_own (bad_type location) t n = inr refl
packing_own too_large t n = inr refl

abbrev IsOwnAnswer : Option Answer → Type 0
IsOwnAnswer None = Unit {0}
IsOwnAnswer (Some a) = IsDoneOrRefused a.status

fields_own : (ts : List Tree) → IsOwnAnswer (pack_fields ts)
fields_own [] = tt
fields_own (t ∷ []) = tt
fields_own (t ∷ n ∷ []) = packing_own (type_at 1 t) t n
fields_own (t ∷ n ∷ u ∷ us) = tt

if_named : (b : Bool) (o : Option Answer) → IsOwnAnswer o → IsOwnAnswer (if b then o else None)
if_named true o h = h
if_named false o h = tt

node_own : (t : Tree) → IsOwnAnswer (pack_node t)
node_own (prim name [] arguments) = if_named (bytes_eq name (codes "Pack")) (pack_fields (nodes_of arguments)) (fields_own (nodes_of arguments))
node_own (prim name (a ∷ annotations) arguments) = tt
node_own (int n) = tt
node_own (str s) = tt
node_own (bytes b) = tt
node_own (seq elements) = tt

alone_own : (a : Answer) (ss : List Placed) → IsDoneOrRefused a.status → IsDoneOrRefused (alone a ss).status
alone_own a [] h = h
alone_own a (s ∷ ss) h = inr refl

fitting_own : (o : Option Answer) (place : ℕ) (rest : List Placed) → IsOwnAnswer o → IsDoneOrRefused (fitting o place rest).status
fitting_own None place rest h = inr refl
fitting_own (Some a) place rest h = alone_own a rest h

statements_own : (size : ℕ) (ss : List Placed) → IsDoneOrRefused (of_statements pack_node size ss).status
statements_own size [] = inr refl
statements_own size (s ∷ ss) = fitting_own (pack_node s.node) s.place ss (node_own s.node)

text_own : (o : Option (TextKind × ℕ)) (a : Answer) → IsDoneOrRefused a.status → IsDoneOrRefused (of_text o a).status
text_own None a h = h
text_own (Some f) a h = inr refl

pub pack_ends : (file : List ℕ) (r : Result Reply Memory) → IfOk r (λ a. IsCodecAnswer pack_node file (answer_seen a)) → IfOk r (λ a. IsDoneOrRefused a.status)
pack_ends file (Ok a) (listed, l, e) = subst (λ (x : Answer). IsDoneOrRefused x.status) (sym e) (text_own listed.fault (of_statements pack_node (length file) listed.statements) (statements_own (length file) listed.statements))
pack_ends file (Err e) h = tt
