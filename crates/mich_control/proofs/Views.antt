-- The plain nodes and code of the variants of the code.
use Rattle.std.proofs.Common.{◌≡◌, ℕ, Bool, List, [], rules, sym, ap, ◌∙◌}
use Rattle.rules_text.specs.nodes.Tree.{prim, seq}
use Rattle.mich_base.specs.declared.node.Node.{Node}
use Rattle.mich_base.specs.declared.ty.Ty.{Ty}
use Rattle.mich_base.specs.TypeView.{kind}
use Rattle.mich_base.specs.declared.node.Node as nodes
use Rattle.mich_base.specs.declared.node.Node.TheVariants as node
use Rattle.mich_base.specs.declared.node.App.{App}
use Rattle.mich_base.specs.View.{tree, trees, app_tree}
use Rattle.mich_overload.specs.declared.simple.Simple.{Simple}
use Rattle.mich_overload.specs.View.{straight}
use Rattle.mich_instr.specs.Plain.{bare, bares}
use Rattle.mich_instr.specs.Code as made
use Rattle.mich_instr.specs.View.{code, codes, script_code, storage_of}
use Rattle.mich_instr.specs.declared.instr.Instr.{Instr}
use Rattle.mich_instr.specs.declared.instr.Instr as instrs
use Rattle.mich_instr.specs.declared.instr.Instr.TheVariants as instr
use Rattle.mich_instr.specs.declared.instr.Script.{Script, out-Script}
use Rattle.mich_instr.specs.declared.instr.Script as scripts

pub tree_seq : (ns : List Node) → tree (node.Seq ns) ≡ seq (trees ns)
tree_seq ns = search (rules, nodes.the_lemmas)

pub code_seq : (is : List Instr) → code (instr.Seq is) ≡ made.seq (codes is)
code_seq is = search (rules, instrs.the_lemmas)

pub code_straight : (s : Simple) (app : App) → code (instr.Straight s app) ≡ made.straight (straight s) (app_tree app)
code_straight s app = search (rules, instrs.the_lemmas)

pub tree_prim : (a : App) → tree (node.Prim a) ≡ prim a.name a.annots (trees a.args)
tree_prim a = search (rules, nodes.the_lemmas)

pub prim_bare : (n : Node) (app new : App) → n ≡ node.Prim app → new.name ≡ app.name → new.annots ≡ [] → trees new.args ≡ bares (trees app.args) →
    tree (node.Prim new) ≡ bare (tree n)
prim_bare n app new e f g h =
    tree_prim new ∙ ap (λ x. prim x new.annots (trees new.args)) f ∙ ap (λ x. prim app.name x (trees new.args)) g ∙ ap (prim app.name []) h
    ∙ sym (ap bare (ap tree e ∙ tree_prim app))

pub code_self : (entrypoint : List ℕ) (annots : List (List ℕ)) → code (instr.SelfContract entrypoint annots) ≡ made.self entrypoint annots
code_self entrypoint annots = search (rules, instrs.the_lemmas)

pub code_dip : (n : ℕ) (ns : List Node) (is : List Instr) → code (instr.Dip n ns is) ≡ made.dip n (trees ns) (codes is)
code_dip n ns is = search (rules, instrs.the_lemmas)

pub code_map : (is : List Instr) → code (instr.Map is) ≡ made.map (codes is)
code_map is = search (rules, instrs.the_lemmas)

pub code_lambda : (recursive : Bool) (arg ret : Ty) (written : List Node) (body : Node) (is : List Instr) →
    code (instr.Lambda recursive arg ret written body is) ≡ made.lambda recursive (kind arg) (kind ret) (trees written) (tree body) (codes is)
code_lambda recursive arg ret written body is = search (rules, instrs.the_lemmas)

pub code_push : (ty : Ty) (written literal : Node) (lambdas : List Instr) → code (instr.Push ty written literal lambdas) ≡ made.push (kind ty) (tree written) (tree literal) (codes lambdas)
code_push ty written literal lambdas = search (rules, instrs.the_lemmas)

pub code_create : (s : Script) → code (instr.CreateContract s) ≡ made.create_contract (script_code s)
code_create s = search (rules, instrs.the_lemmas)

pub storage_kind : (s : Script) → kind (out-Script s).storage ≡ storage_of (script_code s)
storage_kind s = search (rules, scripts.the_lemmas)
