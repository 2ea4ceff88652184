-- The blocks of each accepted instruction.
use Rattle.std.proofs.Common.{ℕ, List, Option}
use Rattle.rules_text.specs.nodes.Tree.{prim, Trees}
use Rattle.rules_text.specs.nodes.Primitives.{primitive_of_name}
use Rattle.rules_text.specs.declared.nodes.Primitive.{Primitive}
use Rattle.rules_data.specs.types.Kind.{Kind}
use Rattle.rules_code.specs.instructions.Context.{Context}
use Rattle.rules_code.specs.instructions.Forms.{Form, form_of}
use Rattle.rules_code.specs.instructions.Forms as f
use Rattle.std.specs.Prelude.{◌-◌, slice_get}
use Rattle.rules_code.specs.typing.Typing.{shift}
use Rattle.rules_code.specs.typing.Acts.{Meanings, act_type}
use Rattle.rules_code.specs.typing.Nodes.{tree_type, bodies, script_in, typings, typing_of}
use Rattle.rules_code.specs.certificates.Blocks.{blocks}
use Rattle.laws_files.specs.certificates.Laws.{IsTyped, AllTyped}
use Rattle.laws_files.proofs.certificates_lemmas.Instructions.{ifs, if_nones, if_lefts, if_conses, loops, loop_lefts, iters, maps, dips, lambdas, lambda_recs, pushes}
use Rattle.laws_files.proofs.certificates_lemmas.Scripts.{creates}

-- what the arguments of an instruction are
abbrev pub meanings : Trees → Meanings
meanings ts = record {
  bodies = bodies ts 1;
  script = λ at. script_in ts at;
  typing_at = λ l c A. shift l (typing_of (slice_get (typings ts) (l - 1)) c A);
}

by_form : (form : Form) (name : Option Primitive) (annots : List (List ℕ)) (ts : Trees) (c : Context) (A : List Kind) →
    IsTyped (act_type form name annots ts (meanings ts) c A) → AllTyped ts (blocks form ts c A)
by_form f.straight name annots ts c A h = tt
by_form f.transfer name annots ts c A h = tt
by_form f.push name annots ts c A h = pushes ts c A h
by_form f.dip name annots ts c A h = dips ts c A h
by_form f.lambda name annots ts c A h = lambdas ts c A h
by_form f.lambda_rec name annots ts c A h = lambda_recs ts c A h
by_form f.exec name annots ts c A h = tt
by_form f.apply name annots ts c A h = tt
by_form f.if_bool name annots ts c A h = ifs ts c A h
by_form f.if_none name annots ts c A h = if_nones ts c A h
by_form f.if_left name annots ts c A h = if_lefts ts c A h
by_form f.if_cons name annots ts c A h = if_conses ts c A h
by_form f.loop name annots ts c A h = loops ts c A h
by_form f.loop_left name annots ts c A h = loop_lefts ts c A h
by_form f.iter name annots ts c A h = iters ts c A h
by_form f.map name annots ts c A h = maps ts c A h
by_form f.failwith name annots ts c A h = tt
by_form f.never name annots ts c A h = tt
by_form f.self name annots ts c A h = tt
by_form f.create_contract name annots ts c A h = creates ts c A h

pub blocks_typed : (name : List ℕ) (annots : List (List ℕ)) (ts : Trees) (c : Context) (A : List Kind) →
    IsTyped (tree_type (prim name annots ts) c A) → AllTyped ts (blocks (form_of (primitive_of_name name)) ts c A)
blocks_typed name annots ts c A h = by_form (form_of (primitive_of_name name)) (primitive_of_name name) annots ts c A h
