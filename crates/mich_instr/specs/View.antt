-- The plain code that typed code stands for.
use Rattle.std.specs.Prelude.{List}
use Rattle.std.specs.Prelude as p
use Rattle.rules_text.specs.nodes.Tree.{Tree}
use Rattle.rules_data.specs.types.Kind.{Kind}
use Rattle.mich_base.specs.View.{tree, trees, app_tree}
use Rattle.mich_base.specs.TypeView.{kind}
use Rattle.mich_types.specs.Entered.{entry_of}
use Rattle.mich_overload.specs.View.{straight}
use Rattle.mich_instr.specs.Code.{Code, Codes, ScriptCode, ViewCode, codes_of, views_of}
use Rattle.mich_instr.specs.Code as c
use Rattle.mich_instr.specs.declared.instr.Instr.{Instr, fold-Instr}
use Rattle.mich_instr.specs.declared.instr.Script.{Script, fold-Script}
use Rattle.mich_instr.specs.declared.instr.ViewCode.{ViewCode as CodeOfView, fold-ViewCode}
use Rattle.mich_instr.specs.declared.instr.Instr.TheOpen.{Instr-F, Script-F, ViewCode-F}

-- one level, with each instruction, script and view inside already seen as its plain one
abbrev pub instr_step : Instr-F Code ScriptCode ViewCode → Code
instr_step (Instr-F.Seq is) = c.seq (codes_of is)
instr_step (Instr-F.Straight s app) = c.straight (straight s) (app_tree app)
instr_step (Instr-F.Push ty written literal lambdas) = c.push (kind ty) (tree written) (tree literal) (codes_of lambdas)
instr_step (Instr-F.Dip count written body) = c.dip count (trees written) (codes_of body)
instr_step (Instr-F.Lambda recursive arg ret written body is) = c.lambda recursive (kind arg) (kind ret) (trees written) (tree body) (codes_of is)
instr_step (Instr-F.Exec arg ret) = c.exec (kind arg) (kind ret)
instr_step (Instr-F.Apply captured rest ret) = c.apply (kind captured) (kind rest) (kind ret)
instr_step (Instr-F.If is js) = c.if_bool (codes_of is) (codes_of js)
instr_step (Instr-F.IfNone is js) = c.if_none (codes_of is) (codes_of js)
instr_step (Instr-F.IfLeft is js) = c.if_left (codes_of is) (codes_of js)
instr_step (Instr-F.IfCons is js) = c.if_cons (codes_of is) (codes_of js)
instr_step (Instr-F.Loop is) = c.loop (codes_of is)
instr_step (Instr-F.LoopLeft is) = c.loop_left (codes_of is)
instr_step (Instr-F.Iter is) = c.iter (codes_of is)
instr_step (Instr-F.Map is) = c.map (codes_of is)
instr_step (Instr-F.Failwith ty) = c.failwith (kind ty)
instr_step Instr-F.Never = c.never
instr_step (Instr-F.SelfContract entrypoint annots) = c.self entrypoint annots
instr_step (Instr-F.CreateContract s) = c.create_contract s

abbrev pub script_step : Script-F Code ScriptCode ViewCode → ScriptCode
script_step s = c.script (tree s.node) (kind s.parameter.ty) (p.map entry_of s.parameter.entries) (kind s.storage) (codes_of s.code) (views_of s.views)

abbrev pub view_step : ViewCode-F Code ScriptCode ViewCode → ViewCode
view_step v = c.view v.name (kind v.input) (kind v.output) (codes_of v.code)

abbrev pub code : Instr → Code
code = fold-Instr Code ScriptCode ViewCode instr_step script_step view_step

abbrev pub script_code : Script → ScriptCode
script_code = fold-Script Code ScriptCode ViewCode instr_step script_step view_step

abbrev pub view_code : CodeOfView → ViewCode
view_code = fold-ViewCode Code ScriptCode ViewCode instr_step script_step view_step

-- the code of a block
abbrev pub codes : List Instr → Codes
codes is = codes_of (p.map code is)

abbrev pub view_codes : List CodeOfView → c.ViewCodes
view_codes vs = views_of (p.map view_code vs)

-- the node of a script
abbrev pub node_of : ScriptCode → Tree
node_of (c.script t p es s is vs) = t

abbrev pub script_node : Script → Tree
script_node s = node_of (script_code s)

-- the type of a script's storage
abbrev pub storage_of : ScriptCode → Kind
storage_of (c.script t p es s is vs) = s
