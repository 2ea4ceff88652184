-- The instructions by their form: those that have bodies, and those for which more than arguments and types matters
-- (Michelson reference, "Instructions").
use Rattle.std.specs.Prelude.{Option, Some}
use Rattle.rules_text.specs.declared.nodes.Primitive.{Primitive}
use Rattle.rules_text.specs.declared.nodes.Primitive.TheVariants as p

pub data Form : Type 0 where
  -- an instruction without bodies, or no instruction at all
  straight : Form
  -- TRANSFER_TOKENS: one without bodies, which has no place in a view
  transfer : Form
  push : Form
  dip : Form
  lambda : Form
  lambda_rec : Form
  exec : Form
  apply : Form
  if_bool : Form
  if_none : Form
  if_left : Form
  if_cons : Form
  loop : Form
  loop_left : Form
  iter : Form
  map : Form
  failwith : Form
  never : Form
  self : Form
  create_contract : Form

abbrev pub form_of : Option Primitive → Form
form_of (Some p.OpTransferTokens) = transfer
form_of (Some p.OpPush) = push
form_of (Some p.OpDip) = dip
form_of (Some p.OpLambda) = lambda
form_of (Some p.OpLambdaRec) = lambda_rec
form_of (Some p.OpExec) = exec
form_of (Some p.OpApply) = apply
form_of (Some p.OpIf) = if_bool
form_of (Some p.OpIfNone) = if_none
form_of (Some p.OpIfLeft) = if_left
form_of (Some p.OpIfCons) = if_cons
form_of (Some p.OpLoop) = loop
form_of (Some p.OpLoopLeft) = loop_left
form_of (Some p.OpIter) = iter
form_of (Some p.OpMap) = map
form_of (Some p.OpFailwith) = failwith
form_of (Some p.OpNever) = never
form_of (Some p.OpSelf) = self
form_of (Some p.OpCreateContract) = create_contract
form_of name = straight
