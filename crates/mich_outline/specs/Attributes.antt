-- The attributes of types.
use Rattle.std.specs.Prelude.{Bool}
use Rattle.rules_data.specs.types.Kind.{Kind}
use Rattle.rules_data.specs.types.Attributes as a
use Rattle.rules_data.specs.types.Reading.{any_kind}
use Rattle.mich_outline.specs.declared.arguments.Attribute.{Attribute}
use Rattle.mich_outline.specs.declared.arguments.Attribute.TheVariants as attribute

abbrev pub asked : Attribute → Kind → Bool
asked attribute.Any = any_kind
asked attribute.Comparable = a.comparable
asked attribute.Passable = a.passable
asked attribute.Storable = a.storable
asked attribute.Pushable = a.pushable
asked attribute.Packable = a.packable
asked attribute.BigValue = a.big_value
