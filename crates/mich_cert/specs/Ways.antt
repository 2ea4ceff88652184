-- How the entries of an instruction are walked, by its name.
use Rattle.std.specs.Prelude.{Bool, true, false}
use Rattle.rules_text.specs.declared.nodes.Primitive.{Primitive}
use Rattle.rules_text.specs.declared.nodes.Primitive.TheVariants as p
use Rattle.mich_cert.specs.declared.way.Way.{Way}
use Rattle.mich_cert.specs.declared.way.Way.TheVariants as way
use Rattle.mich_cert.specs.declared.way.Bodiless.{Bodiless}
use Rattle.mich_cert.specs.declared.way.Bodiless.TheVariants as bodiless

abbrev pub way_of : Primitive → Way
way_of p.OpIf = way.Branch
way_of p.OpIfNone = way.Branch
way_of p.OpIfLeft = way.Branch
way_of p.OpIfCons = way.Branch
way_of p.OpLoop = way.Turn
way_of p.OpLoopLeft = way.Turn
way_of p.OpIter = way.Turn
way_of p.OpDip = way.Dip
way_of p.OpMap = way.Map
way_of p.OpLambda = way.Lambda
way_of p.OpLambdaRec = way.LambdaRec
way_of p.OpPush = way.Push
way_of p.OpCreateContract = way.Create
way_of op = way.Bodiless

abbrev pub bodiless_of : Primitive → Bodiless
bodiless_of p.OpTransferTokens = bodiless.Transfer
bodiless_of p.OpExec = bodiless.Call
bodiless_of p.OpApply = bodiless.Call
bodiless_of p.OpFailwith = bodiless.Fail
bodiless_of p.OpNever = bodiless.Fail
bodiless_of p.OpSelf = bodiless.SelfContract
bodiless_of op = bodiless.Straight

-- LAMBDA_REC is recursive
abbrev pub lambda_way : Bool → Way
lambda_way true = way.LambdaRec
lambda_way false = way.Lambda
