-- Where instructions lead, without the limit of types.
use Rattle.std.specs.Prelude.{Bool, false, Option, Some, None, List, [], option_and_then}
use Rattle.rules_text.specs.nodes.Tree.{none}
use Rattle.rules_text.specs.declared.nodes.Primitive.{Primitive}
use Rattle.rules_data.specs.types.Kind.{Kind}
use Rattle.rules_code.specs.instructions.Same.{same_kinds}
use Rattle.rules_code.specs.instructions.Effect.{effect}
use Rattle.rules_code.specs.instructions.Arguments.{Found, found, fault}
use Rattle.rules_code.specs.instructions.Instructions.{Instruction, choose, instruction}

-- the stack after an instruction
abbrev pub after_of : Found Instruction → List Kind → Option (List Kind)
after_of (found x) A = option_and_then (λ r. effect r A) (choose x A)
after_of (fault l) A = None

abbrev pub leads : Option (List Kind) → List Kind → Bool
leads None B = false
leads (Some C) B = same_kinds C B

-- that of an instruction without arguments and annotations
abbrev pub bare : Primitive → List Kind → Option (List Kind)
bare op A = after_of (instruction (Some op) [] none) A
