-- The bodies of a script that can be written.
use Rattle.std.proofs.Common.{◌≡◌, ℕ, ◌+◌, Bool, true, false, cond, List, [], ◌∷◌, ◌++◌, Option, Some, None, subst}
use Rattle.std.specs.List.{AllByRecursion}
use Rattle.rules_text.specs.nodes.Tree.{Tree, int, str, bytes, prim, seq, Trees, none, more, size}
use Rattle.rules_text.specs.nodes.Primitives.{primitive_of_name}
use Rattle.rules_text.specs.declared.nodes.Primitive.{Primitive}
use Rattle.rules_text.specs.declared.nodes.Primitive.TheVariants as p
use Rattle.rules_data.specs.types.Attributes.{packable, storable}
use Rattle.rules_code.specs.instructions.Arguments.{Found, found, fault, and_then, is_view_name}
use Rattle.rules_code.specs.typing.Typing.{Typer}
use Rattle.rules_code.specs.typing.Sections.{Placed, Body, WrittenView, Content, parameter_section, storage_section, code_section, view_section, no_section, placed, a_body, view_content, content_of, content_at, Contents, no_contents, once, with_content, with_sections}
use Rattle.rules_code.specs.typing.Sections as sections
use Rattle.rules_code.specs.typing.Scripts.{Script, parameter_of, typed_as, TypedView, typed_view, typed_views, Outline, of_parts, of_contents, outline_of, unless_fault, code_fault, with_views, a_script, with_bodies}
use Rattle.rules_code.specs.typing.Nodes.{bodies, inner_bodies, outline, script_at, script}
use Rattle.rules_code.specs.typing.Nodes as nodes_of
use Rattle.laws_code.proofs.typed.ForCallers.{FoundHas, found_then}
use Rattle.laws_commands.specs.written.Written.{HasForm, HaveForms}
use Rattle.laws_commands.proofs.common.Lists.{all_append}

abbrev ContentWritten : Content → Type 0
ContentWritten (view_section w) = HasForm w.body.node
ContentWritten (code_section b) = HasForm b.node
ContentWritten c = Unit {0}

view_written : (at : ℕ) (name : List ℕ) (u w b : Tree) (typing : Typer) → HasForm b → ContentWritten (view_content at name u w b typing)
view_written at name u w b typing h = by (is_view_name name)
  where
    by : (t : Bool) → ContentWritten (cond t (view_section record {
      name = name;
      input = placed (at + 2) u;
      output = placed (at + 2 + size u) w;
      body = a_body (at + 2 + size u + size w) b typing;
    }) no_section)
    by true = h
    by false = tt

content_written : (name : Option Primitive) (at k : ℕ) (t : Tree) (args : Trees) → HaveForms args →
    ContentWritten (content_of name at t args (bodies args k))
content_written (Some p.SectionParameter) at k t (more u none) h = tt
content_written (Some p.SectionStorage) at k t (more u none) h = tt
content_written (Some p.SectionCode) at k t (more (seq ts) none) h = h.0
content_written (Some p.SectionView) at k t (more (str name) (more u (more w (more (seq ts) none)))) h = view_written at name u w (seq ts) _
    h.1.1.1.0
content_written _ at k t _ h = tt

section_written : (at : ℕ) (t : Tree) → HasForm t → ContentWritten (content_at at t (inner_bodies t at))
section_written at (prim name annots args) h = content_written (primitive_of_name name) at (at + 1) (prim name annots args) args h.2
section_written at (int z) h = tt
section_written at (str z) h = tt
section_written at (bytes z) h = tt
section_written at (seq z) h = tt

abbrev CodeWritten : Option Body → Type 0
CodeWritten None = Unit {0}
CodeWritten (Some b) = HasForm b.node

record ContentsWritten (c : Contents) : Type 0 where
  code : CodeWritten c.code
  views : AllByRecursion (λ w. HasForm w.body.node) c.views

once_has : {A : Type 0} (P : Contents → Type 0) (at : ℕ) (o : Option A) (c : Contents) → P c → FoundHas P (once at o c)
once_has P at None c h = h
once_has P at (Some x) c h = tt

with_written : (c : Contents) (at : ℕ) (x : Content) → ContentsWritten c → ContentWritten x → FoundHas ContentsWritten (with_content c at x)
with_written c at (parameter_section s) h g = once_has ContentsWritten at c.parameter (record c { parameter = Some s })
    (record { code = h.code; views = h.views })
with_written c at (storage_section s) h g = once_has ContentsWritten at c.storage (record c { storage = Some s }) (record {
  code = h.code;
  views = h.views;
})
with_written c at (code_section b) h g = once_has ContentsWritten at c.code (record c { code = Some b }) (record {
  code = g;
  views = h.views;
})
with_written c at (view_section w) h g =
    once_has ContentsWritten at (sections.view_named w.name c.views) (record c { views = c.views ++ w ∷ [] })
    (record { code = h.code; views = all_append (λ w. HasForm w.body.node) c.views (w ∷ []) h.views (g, tt) })
with_written c at no_section h g = tt

sections_written : (ts : Trees) (at : ℕ) (c : Contents) → HaveForms ts → ContentsWritten c →
    FoundHas ContentsWritten (with_sections c (nodes_of.sections ts at))
sections_written none at c h g = g
sections_written (more t ts) at c h g =
    found_then ContentsWritten ContentsWritten (with_content c at (content_at at t (inner_bodies t at))) _
    (with_written c at (content_at at t (inner_bodies t at)) g (section_written at t h.0))
    (λ d i. sections_written ts (at + size t) d h.1 i)

any : {A : Type 0} (x : Found A) → FoundHas (λ a. Unit {0}) x
any (found a) = tt
any (fault l) = tt

abbrev ViewWritten : TypedView → Type 0
ViewWritten w = HasForm w.body.node

typed_written : (w : WrittenView) → HasForm w.body.node → FoundHas ViewWritten (typed_view w)
typed_written w h =
    found_then (λ a. Unit {0}) ViewWritten (typed_as packable w.input) _ (any (typed_as packable w.input)) (λ a i.
    found_then (λ a. Unit {0}) ViewWritten (typed_as packable w.output) _ (any (typed_as packable w.output)) (λ b j. h))

views_written : (ws : List WrittenView) → AllByRecursion (λ w. HasForm w.body.node) ws → FoundHas (AllByRecursion ViewWritten)
    (typed_views ws)
views_written [] h = tt
views_written (w ∷ ws) h =
    found_then ViewWritten (AllByRecursion ViewWritten) (typed_view w) _ (typed_written w h.0) (λ u i.
    found_then (AllByRecursion ViewWritten) (AllByRecursion ViewWritten) (typed_views ws) (λ us. found (u ∷ us)) (views_written ws h.1)
    (λ us j. (i, j)))

pub record OutlineWritten (o : Outline) : Type 0 where
  pub code : HasForm o.code.node
  pub views : AllByRecursion (λ w. HasForm w.body.node) o.views

parts_written : (at : ℕ) (a s : Option Placed) (b : Option Body) (ws : List WrittenView) → CodeWritten b →
    AllByRecursion (λ w. HasForm w.body.node) ws →
    FoundHas OutlineWritten (of_parts at a s b ws)
parts_written at (Some a) (Some s) (Some b) ws h g =
    found_then (λ e. Unit {0}) OutlineWritten (parameter_of a) _ (any (parameter_of a)) (λ e i.
    found_then (λ e. Unit {0}) OutlineWritten (typed_as storable s) _ (any (typed_as storable s)) (λ t j.
    found_then (AllByRecursion ViewWritten) OutlineWritten (typed_views ws) _ (views_written ws g) (λ us k. record {
      code = h;
      views = k;
    })))
parts_written at (Some a) (Some s) None ws h g = tt
parts_written at (Some a) None b ws h g = tt
parts_written at None s b ws h g = tt

of_written : (at k : ℕ) (ts : Trees) → HaveForms ts → FoundHas OutlineWritten (outline_of at (nodes_of.sections ts k))
of_written at k ts h =
    found_then ContentsWritten OutlineWritten (with_sections no_contents (nodes_of.sections ts k)) (of_contents at)
    (sections_written ts k no_contents h (record { code = tt; views = tt }))
    (λ c i. parts_written at c.parameter c.storage c.code c.views i.code i.views)

pub outline_written : (t : Tree) → HasForm t → FoundHas OutlineWritten (outline t)
outline_written (seq ts) h = of_written 0 1 ts h.0
outline_written (int n) h = tt
outline_written (str n) h = tt
outline_written (bytes n) h = tt
outline_written (prim name annots args) h = tt

-- ---- scripts

abbrev HasCode : Script → Type 0
HasCode s = HasForm s.code

bodies_written : (o : Outline) → OutlineWritten o → FoundHas HasCode (with_bodies o)
bodies_written o h = by (code_fault o)
  where
    by : (f : Option ℕ) → FoundHas HasCode (unless_fault f (and_then (with_views o.storage o.views) (λ vs. found (a_script o vs))))
    by (Some l) = tt
    by None = found_then (λ vs. Unit {0}) HasCode (with_views o.storage o.views) (λ vs. found (a_script o vs))
        (any (with_views o.storage o.views)) (λ vs i. h.code)

script_written : (t : Tree) → HasForm t → FoundHas HasCode (script t)
script_written (seq ts) h = found_then OutlineWritten HasCode (outline_of 0 (nodes_of.sections ts 1)) with_bodies (of_written 0 1 ts h.0)
    bodies_written
script_written (int n) h = tt
script_written (str n) h = tt
script_written (bytes n) h = tt
script_written (prim name annots args) h = tt

pub code_written : (t : Tree) (s : Script) → HasForm t → script t ≡ found s → HasForm s.code
code_written t s h e = subst (FoundHas HasCode) e (script_written t h)
