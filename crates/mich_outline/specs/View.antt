-- What the parts of a script in the code stand for.
use Rattle.std.specs.Prelude.{ℕ, ◌+◌, List, map, Option, Some, None, option_map}
use Rattle.rules_text.specs.declared.nodes.Primitive.{Primitive}
use Rattle.rules_text.specs.declared.nodes.Primitive.TheVariants as p
use Rattle.rules_text.specs.nodes.Tree.{Tree, size}
use Rattle.rules_code.specs.typing.Nodes.{body}
use Rattle.rules_code.specs.typing.Scripts as scripts
use Rattle.rules_code.specs.typing.Sections as rules
use Rattle.mich_base.specs.TypeView.{kind}
use Rattle.mich_base.specs.View.{tree}
use Rattle.mich_types.specs.Entered.{entry_of}
use Rattle.mich_types.specs.declared.parameter.Parameter.{Parameter}
use Rattle.mich_outline.specs.declared.content.Content.{Content}
use Rattle.mich_outline.specs.declared.content.Content.TheVariants as c
use Rattle.mich_outline.specs.declared.content.SectionKind.{SectionKind}
use Rattle.mich_outline.specs.declared.content.SectionKind.TheVariants as k
use Rattle.mich_outline.specs.declared.content.WrittenView.{WrittenView}
use Rattle.mich_outline.specs.declared.gathering.Contents.{Contents}
use Rattle.mich_outline.specs.declared.outline.Outline.{Outline}
use Rattle.mich_outline.specs.declared.outline.View.{View}
use Rattle.mich_outline.specs.declared.placed.Placed.{Placed}

abbrev pub kind_of : Option Primitive → Option SectionKind
kind_of (Some p.SectionParameter) = Some k.Parameter
kind_of (Some p.SectionStorage) = Some k.Storage
kind_of (Some p.SectionCode) = Some k.Code
kind_of (Some p.SectionView) = Some k.View
kind_of name = None

abbrev pub placed_of : Placed → rules.Placed
placed_of s = rules.placed s.at (tree s.node.now)

-- a body, whose typing is that of its node where it stands
abbrev pub body_of : Placed → rules.Body
body_of b = rules.a_body b.at (tree b.node.now) (body (tree b.node.now) b.at)

abbrev pub written_of : WrittenView → rules.WrittenView
written_of v = record { name = v.name.now; input = placed_of v.input; output = placed_of v.output; body = body_of v.body }

-- a view, if that is a name of one, whose body is typed where it stands
abbrev pub whole_view : ℕ → List ℕ → Tree → Tree → Tree → rules.Content
whole_view at name t u b = rules.view_content at name t u b (body b (at + 2 + size t + size u))

abbrev pub content_seen : Option Content → rules.Content
content_seen (Some (c.Parameter s)) = rules.parameter_section (placed_of s)
content_seen (Some (c.Storage s)) = rules.storage_section (placed_of s)
content_seen (Some (c.Code b)) = rules.code_section (body_of b)
content_seen (Some (c.View v)) = rules.view_section (written_of v)
content_seen None = rules.no_section

abbrev pub contents_of : Contents → rules.Contents
contents_of c = record {
  parameter = option_map placed_of c.parameter;
  storage = option_map placed_of c.storage;
  code = option_map body_of c.code;
  views = map written_of c.views;
}

abbrev pub entered_of : Parameter → scripts.Entered
entered_of p = record { kind = kind p.ty; entries = map entry_of p.entries }

abbrev pub view_of : View → scripts.TypedView
view_of v = record { name = v.name; input = kind v.input; output = kind v.output; body = body_of v.body }

abbrev pub outline_of : Outline → scripts.Outline
outline_of o = scripts.with_types (entered_of o.parameter) (kind o.storage) (map view_of o.views) (body_of o.code)
