-- The plain code of instructions.
use Rattle.std.proofs.Common.{◌≡◌, ℕ, Bool, List, rules}
use Rattle.mich_base.specs.View.{tree, trees, app_tree}
use Rattle.mich_base.specs.TypeView.{kind}
use Rattle.mich_base.specs.declared.node.Node.{Node}
use Rattle.mich_base.specs.declared.node.App.{App}
use Rattle.mich_base.specs.declared.ty.Ty.{Ty}
use Rattle.mich_overload.specs.View.{straight}
use Rattle.mich_overload.specs.declared.simple.Simple.{Simple}
use Rattle.mich_instr.specs.Code as made
use Rattle.mich_instr.specs.View.{code, codes, script_code}
use Rattle.mich_instr.specs.declared.instr.Instr.{Instr}
use Rattle.mich_instr.specs.declared.instr.Instr as instrs
use Rattle.mich_instr.specs.declared.instr.Script.{Script}
use Rattle.mich_instr.specs.declared.instr.Instr.TheVariants as instr

pub code_seq : (is : List Instr) → code (instr.Seq is) ≡ made.seq (codes is)
code_seq is = search (rules, instrs.the_lemmas)

pub code_if : (is js : List Instr) → code (instr.If is js) ≡ made.if_bool (codes is) (codes js)
code_if is js = search (rules, instrs.the_lemmas)

pub code_if_none : (is js : List Instr) → code (instr.IfNone is js) ≡ made.if_none (codes is) (codes js)
code_if_none is js = search (rules, instrs.the_lemmas)

pub code_if_left : (is js : List Instr) → code (instr.IfLeft is js) ≡ made.if_left (codes is) (codes js)
code_if_left is js = search (rules, instrs.the_lemmas)

pub code_loop : (is : List Instr) → code (instr.Loop is) ≡ made.loop (codes is)
code_loop is = search (rules, instrs.the_lemmas)

pub code_loop_left : (is : List Instr) → code (instr.LoopLeft is) ≡ made.loop_left (codes is)
code_loop_left is = search (rules, instrs.the_lemmas)

pub code_iter : (is : List Instr) → code (instr.Iter is) ≡ made.iter (codes is)
code_iter is = search (rules, instrs.the_lemmas)

pub code_dip : (n : ℕ) (ns : List Node) (is : List Instr) → code (instr.Dip n ns is) ≡ made.dip n (trees ns) (codes is)
code_dip n ns is = search (rules, instrs.the_lemmas)

pub code_failwith : (a : Ty) → code (instr.Failwith a) ≡ made.failwith (kind a)
code_failwith a = search (rules, instrs.the_lemmas)

pub code_if_cons : (is js : List Instr) → code (instr.IfCons is js) ≡ made.if_cons (codes is) (codes js)
code_if_cons is js = search (rules, instrs.the_lemmas)

pub code_map : (is : List Instr) → code (instr.Map is) ≡ made.map (codes is)
code_map is = search (rules, instrs.the_lemmas)

pub code_straight : (s : Simple) (app : App) → code (instr.Straight s app) ≡ made.straight (straight s) (app_tree app)
code_straight s app = search (rules, instrs.the_lemmas)

pub code_push : (a : Ty) (written literal : Node) (lambdas : List Instr) → code (instr.Push a written literal lambdas) ≡ made.push (kind a) (tree written) (tree literal) (codes lambdas)
code_push a written literal lambdas = search (rules, instrs.the_lemmas)

pub code_lambda : (recursive : Bool) (a r : Ty) (written : List Node) (body : Node) (is : List Instr) →
    code (instr.Lambda recursive a r written body is) ≡ made.lambda recursive (kind a) (kind r) (trees written) (tree body) (codes is)
code_lambda recursive a r written body is = search (rules, instrs.the_lemmas)

pub code_exec : (a r : Ty) → code (instr.Exec a r) ≡ made.exec (kind a) (kind r)
code_exec a r = search (rules, instrs.the_lemmas)

pub code_apply : (a b r : Ty) → code (instr.Apply a b r) ≡ made.apply (kind a) (kind b) (kind r)
code_apply a b r = search (rules, instrs.the_lemmas)

pub code_create : (s : Script) → code (instr.CreateContract s) ≡ made.create_contract (script_code s)
code_create s = search (rules, instrs.the_lemmas)

pub code_never : code instr.Never ≡ made.never
code_never = search (rules, instrs.the_lemmas)

pub code_self : (entrypoint : List ℕ) (annots : List (List ℕ)) → code (instr.SelfContract entrypoint annots) ≡ made.self entrypoint annots
code_self entrypoint annots = search (rules, instrs.the_lemmas)
