-- What the types of the code stand for.
use Rattle.std.specs.Prelude.{Bool, true, false, ◌++◌, drop, map, option_map}
use Rattle.rules_code.specs.instructions.Context.{Context}
use Rattle.rules_code.specs.instructions.Context as standing
use Rattle.rules_code.specs.instructions.Forms.{Form}
use Rattle.rules_code.specs.instructions.Forms as f
use Rattle.mich_types.specs.Entered.{entry_of}
use Rattle.mich_instr.specs.View.{code}
use Rattle.mich_instr.specs.Code.{Code, Codes}
use Rattle.mich_instr.specs.Code as made
use Rattle.mich_control.specs.declared.form.Form.{Form as CodeForm}
use Rattle.mich_control.specs.declared.form.Form.TheVariants as v
use Rattle.mich_control.specs.declared.form.Branch.{Branch}
use Rattle.mich_control.specs.declared.form.Branch.TheVariants as branch
use Rattle.mich_control.specs.declared.form.Bodiless.{Bodiless}
use Rattle.mich_control.specs.declared.form.Bodiless.TheVariants as bodiless
use Rattle.mich_typed.specs.declared.made.Made.{Made}
use Rattle.mich_control.specs.declared.form.Loop.{Loop}
use Rattle.mich_control.specs.declared.form.Loop.TheVariants as loop
use Rattle.mich_overload.specs.View.{kinds}
use Rattle.mich_control.specs.Begun.{Turning, turning, Plain, plainly}
use Rattle.mich_control.specs.declared.shapes.Tops.{Tops}
use Rattle.mich_control.specs.declared.shapes.Turning.{Turning as CodeTurning}
use Rattle.mich_control.specs.declared.place.Place.{Place}
use Rattle.mich_control.specs.declared.place.Place.TheVariants as place

abbrev pub branch_form : Branch → Form
branch_form branch.Bool = f.if_bool
branch_form branch.None = f.if_none
branch_form branch.Left = f.if_left
branch_form branch.Cons = f.if_cons

abbrev pub loop_form : Loop → Form
loop_form loop.Bool = f.loop
loop_form loop.Left = f.loop_left
loop_form loop.Parts = f.iter

abbrev pub bodiless_form : Bodiless → Form
bodiless_form bodiless.Exec = f.exec
bodiless_form bodiless.Apply = f.apply
bodiless_form bodiless.Failwith = f.failwith
bodiless_form bodiless.Never = f.never

abbrev pub form : CodeForm → Form
form v.Straight = f.straight
form v.Transfer = f.transfer
form v.Push = f.push
form v.Dip = f.dip
form v.Lambda = f.lambda
form v.LambdaRec = f.lambda_rec
form (v.Bodiless b) = bodiless_form b
form (v.Branch b) = branch_form b
form (v.Loop l) = loop_form l
form v.Map = f.map
form v.SelfContract = f.self
form v.CreateContract = f.create_contract

abbrev pub branch_code : Branch → Codes → Codes → Code
branch_code branch.Bool is js = made.if_bool is js
branch_code branch.None is js = made.if_none is js
branch_code branch.Left is js = made.if_left is js
branch_code branch.Cons is js = made.if_cons is js

abbrev pub loop_code : Loop → Codes → Code
loop_code loop.Bool is = made.loop is
loop_code loop.Left is = made.loop_left is
loop_code loop.Parts is = made.iter is

abbrev pub context : Place → Context
context (place.Main p) = standing.main (map entry_of p.now.entries)
context place.View = standing.view
context place.Lambda = standing.lambda

-- the stacks of a loop
abbrev pub turning_of : CodeTurning → Turning
turning_of t = turning (kinds t.begins) (kinds t.ends) (kinds t.leaves ++ drop t.over (kinds t.ends))

-- what is on top of them
abbrev pub tops_of : Tops → Turning
tops_of t = turning (kinds t.begins) (kinds t.ends) (kinds t.leaves)

-- an instruction and the stack after it
abbrev pub plain_of : Made → Plain
plain_of m = plainly (code m.instr) (option_map kinds m.after)

abbrev pub is_view : Context → Bool
is_view standing.view = true
is_view c = false
