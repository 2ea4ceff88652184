-- The code's stack of open nodes.
use Rattle.std.specs.Prelude.{List, map, reverse}
use Rattle.mich_base.specs.View.{tree}
use Rattle.mich_text.specs.Machine.{Frame, elements, named, paren, Stack, Refusal, unexpected, too_deep}
use Rattle.mich_text.specs.declared.parser.Frame.{Frame as CodeFrame}
use Rattle.mich_text.specs.declared.parser.Frame.TheVariants as code
use Rattle.mich_text.specs.declared.parser.Refusal.{Refusal as CodeRefusal}
use Rattle.mich_text.specs.declared.parser.Refusal.TheVariants as refusals

abbrev pub frame_view : CodeFrame → Frame
frame_view (code.Elements braced nodes ready) = elements braced (map tree nodes) ready
frame_view (code.Named wrapped name annotations arguments) = named wrapped name annotations (map tree arguments)
frame_view code.Paren = paren

-- the innermost first
abbrev pub stack_view : List CodeFrame → Stack
stack_view frames = reverse (map frame_view frames)

abbrev pub refusal_view : CodeRefusal → Refusal
refusal_view refusals.Unexpected = unexpected
refusal_view refusals.TooDeep = too_deep
