-- What the types of the code stand for.
use Rattle.std.specs.Prelude.{List, map, option_map}
use Rattle.rules_data.specs.types.Kind.{Kind}
use Rattle.mich_base.specs.declared.ty.Ty.{Ty}
use Rattle.mich_base.specs.TypeView.{kind}
use Rattle.mich_cert.specs.Words.{Known, Left, Met}
use Rattle.mich_cert.specs.declared.words.Met.{Met as CodeMet}
use Rattle.mich_cert.specs.declared.words.Left.{Left as CodeLeft}
use Rattle.mich_cert.specs.declared.words.Known.{Known as CodeKnown}

-- a stack, whose first type is on top
abbrev pub kinds : List Ty → List Kind
kinds ts = map kind ts

abbrev pub known_kinds : CodeKnown → Known
known_kinds o = record { a = option_map (λ t. kind t.now) o.a; b = option_map (λ t. kind t.now) o.b; c = option_map (λ t. kind t.now) o.c }

abbrev pub met_of : CodeMet → Met
met_of m = record { words = m.words.now; known = known_kinds m.known }

abbrev pub left_of : CodeLeft → Left
left_of l = record { known = known_kinds l.known; below = kinds l.below.now }
