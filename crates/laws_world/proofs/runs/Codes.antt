-- The code of a script that is accepted: it leads from the parameter and the storage to operations and a storage.
use Rattle.std.proofs.Common.{◌≡◌, ◌≤◌, ◌+◌, ℕ, Bool, true, false, List, [], ◌∷◌, ◌++◌, Some, None, refl, sym, ap, ◌∙◌, subst, arith, ◌&&◌}
use Rattle.std.specs.Prelude.{if◌then◌else◌}
use Rattle.std.specs.declared.option.Option.{Option}
use Rattle.std.proofs.lemmas.Bool.{leb-true}
use Rattle.rules_text.specs.nodes.Limits.{type_limit}
use Rattle.rules_text.specs.nodes.Tree.{Tree, int, str, bytes, prim, seq, Trees, none, more, size, sizes}
use Rattle.rules_text.specs.nodes.Primitives.{primitive_of_name}
use Rattle.rules_text.specs.declared.nodes.Primitive.{Primitive}
use Rattle.rules_text.specs.declared.nodes.Primitive.TheVariants as p
use Rattle.rules_data.specs.types.Kind.{Kind, nodes, operation, pair, list}
use Rattle.rules_data.specs.types.Attributes.{storable}
use Rattle.rules_code.specs.instructions.Arguments.{Found, found, fault, and_then, is_view_name}
use Rattle.rules_code.specs.instructions.Context.{Context, main}
use Rattle.rules_code.specs.instructions.Same.{same_kinds}
use Rattle.rules_code.specs.typing.Typing.{Typing, Typer, goes, fails, bad, shift}
use Rattle.rules_code.specs.typing.Bodies.{body_fault}
use Rattle.rules_code.specs.typing.Sections.{Placed, Body, WrittenView, Content, parameter_section, storage_section, code_section, view_section, no_section, placed, a_body, view_content, content_of, content_at, Contents, no_contents, once, view_named, with_content, with_sections}
use Rattle.rules_code.specs.typing.Scripts.{Script, parameter_of, typed_as, typed_views, Outline, with_types, of_parts, of_contents, is_small, fault_of_body, code_fault, a_script}
use Rattle.rules_code.specs.typing.Nodes.{tree_type, trees_type, bodies, inner_bodies, sections, outline, script}
use Rattle.rules_code.specs.typing.Fits.{Leads}
use Rattle.laws_data.specs.types.Laws.{IsWellFormed}
use Rattle.laws_data.proofs.types_lemmas.ForCallers.{same_kinds_true}
use Rattle.laws_tickets.proofs.totals.ForCallers.{AllFound, HasAttribute, type_argument_all, and_then_both}
use Rattle.laws_world.proofs.runs.Scripts.{script_is}

-- ---- the body in its section

-- a body is a sequence in a node of this size, and its typing is that of its instructions
pub record IsBody (n : ℕ) (b : Body) : Type 0 where
  pub inner : Trees
  pub at : ℕ
  pub is : b.node ≡ seq inner
  pub typed : (c : Context) (A : List Kind) → b.typing c A ≡ shift at (trees_type inner c A)
  pub within : size b.node ≤ n

abbrev HasBody : ℕ → Option Body → Type 0
HasBody n None = Unit {0}
HasBody n (Some b) = IsBody n b

abbrev IsContent : ℕ → Content → Type 0
IsContent n (code_section b) = IsBody n b
IsContent n (parameter_section s) = Unit {0}
IsContent n (storage_section s) = Unit {0}
IsContent n (view_section v) = Unit {0}
IsContent n no_section = Unit {0}

view_is : (n at : ℕ) (name : List ℕ) (t u b : Tree) (typing : Typer) → IsContent n (view_content at name t u b typing)
view_is n at name t u b typing = by (is_view_name name)
  where
    by : (c : Bool) → IsContent n (if c
        then view_section
        (record {
          name = name;
          input = placed (at + 2) t;
          output = placed (at + 2 + size t) u;
          body = a_body
              (at + 2 + size t + size u) b typing;
        })
        else no_section)
    by true = tt
    by false = tt

content_is : (n at : ℕ) (q : Option Primitive) (t : Tree) (ts : Trees) → sizes ts ≤ n →
    IsContent n (content_of q at t ts (bodies ts (at + 1)))
content_is n at (Some p.SectionParameter) t (more u none) le = tt
content_is n at (Some p.SectionStorage) t (more u none) le = tt
content_is n at (Some p.SectionCode) t (more (seq us) none) le =
    record { inner = us; at = at + 1 + 1; is = refl; typed = λ c A. refl; within = omega (arith, le) }
content_is n at (Some p.SectionView) t (more (str name) (more u (more w (more (seq us) none)))) le = view_is n at name u w
    (seq us) _
content_is n at _ t _ le = tt

section_is : (n at : ℕ) (t : Tree) → size t ≤ n → IsContent n (content_at at t (inner_bodies t at))
section_is n at (prim name annots ts) le = content_is n at (primitive_of_name name) (prim name annots ts) ts (omega (arith, le))
section_is n at (int z) le = tt
section_is n at (str b) le = tt
section_is n at (bytes b) le = tt
section_is n at (seq ts) le = tt

-- ---- all sections

abbrev HasCode : ℕ → Contents → Type 0
HasCode n c = HasBody n c.code

once_has : {A : Type 0} (n at : ℕ) (o : Option A) (c : Contents) → HasCode n c → AllFound (HasCode n) (once at o c)
once_has n at None c h = h
once_has n at (Some x) c h = tt

content_has : (n at : ℕ) (c : Contents) (x : Content) → IsContent n x → HasCode n c → AllFound (HasCode n) (with_content c at x)
content_has n at c (parameter_section s) i h = once_has n at c.parameter (record c { parameter = Some s }) h
content_has n at c (storage_section s) i h = once_has n at c.storage (record c { storage = Some s }) h
content_has n at c (code_section b) i h = once_has n at c.code (record c { code = Some b }) i
content_has n at c (view_section v) i h = once_has n at (view_named v.name c.views) (record c { views = c.views ++ v ∷ [] }) h
content_has n at c no_section i h = tt

sections_have : (n at : ℕ) (c : Contents) (ts : Trees) → sizes ts ≤ n → HasCode n c →
    AllFound (HasCode n) (with_sections c (sections ts at))
sections_have n at c none le h = h
sections_have n at c (more t ts) le h =
    and_then_both (HasCode n) (HasCode n) (with_content c at (content_at at t (inner_bodies t at)))
    (λ d. with_sections d (sections ts (at + size t)))
    (content_has n at c (content_at at t (inner_bodies t at)) (section_is n at t (omega (arith, le))) h)
    (λ d i. sections_have n (at + size t) d ts (omega (arith, le)) i)

-- ---- outlines

-- of an outline the code is such a body, and the storage can be stored
pub record HasParts (n : ℕ) (o : Outline) : Type 0 where
  pub body : IsBody n o.code
  pub stored : storable o.storage ≡ true
  pub formed : IsWellFormed o.storage

parts_have : (n at : ℕ) (a s : Option Placed) (b : Option Body) (vs : List WrittenView) → HasBody n b →
    AllFound (HasParts n) (of_parts at a s b vs)
parts_have n at (Some a) (Some s) (Some b) vs h =
    any_then (parameter_of a) (λ x. and_then (typed_as storable s)
    (λ t. and_then (typed_views vs) (λ ws. found (with_types x t ws b))))
    (λ x. and_then_both (HasAttribute storable) (HasParts n) (typed_as storable s)
    (λ t. and_then (typed_views vs) (λ ws. found (with_types x t ws b))) (type_argument_all storable s.location s.node)
    (λ t i. any_then (typed_views vs) (λ ws. found (with_types x t ws b))
    (λ ws. record { body = h; stored = i.0; formed = i.1 })))
  where
    any_then : {A : Type 0} (x : Found A) (next : A → Found Outline) → ((y : A) → AllFound (HasParts n) (next y)) →
        AllFound (HasParts n) (and_then x next)
    any_then (found y) next f = f y
    any_then (fault l) next f = tt
parts_have n at None s b vs h = tt
parts_have n at (Some a) None b vs h = tt
parts_have n at (Some a) (Some s) None vs h = tt

outline_has : (t : Tree) → AllFound (HasParts (size t)) (outline t)
outline_has (seq ts) =
    and_then_both (HasCode (size (seq ts))) (HasParts (size (seq ts))) (with_sections no_contents (sections ts 1)) (of_contents 0)
    (sections_have (size (seq ts)) 1 no_contents ts (omega arith) tt)
    (λ c h. parts_have (size (seq ts)) 0 c.parameter c.storage c.code c.views h)
outline_has (int n) = tt
outline_has (str b) = tt
outline_has (bytes b) = tt
outline_has (prim name annots ts) = tt

outline_parts : (t : Tree) (o : Outline) → outline t ≡ found o → HasParts (size t) o
outline_parts t o e = let h : AllFound (HasParts (size t)) (found o) = subst (AllFound (HasParts (size t))) e (outline_has t) in h

-- ---- the code

-- what a run must know of a script: its code is no larger, its types are within the limit, and the code leads to what it must
pub record IsCode (t : Tree) (s : Script) : Type 0 where
  pub within : size s.code ≤ size t
  pub stored : storable s.storage ≡ true
  pub formed : IsWellFormed s.storage
  pub limit : nodes (pair s.parameter s.storage) ≤ type_limit
  pub leads : Leads (tree_type s.code (main s.entries) (pair s.parameter s.storage ∷ [])) (pair (list operation) s.storage ∷ [])

leads_shift : (k l at : ℕ) (t : Typing) (r : Kind) → body_fault l (shift k t) r ≡ None → Leads (shift at t) (r ∷ [])
leads_shift k l at (goes B) r h = by (same_kinds B (r ∷ [])) refl h
  where
    by : (b : Bool) → same_kinds B (r ∷ []) ≡ b → (if b then None else Some l) ≡ None → B ≡ r ∷ []
    by true e g = same_kinds_true B (r ∷ []) e
    by false e g = absurd cc
leads_shift k l at fails r h = tt
leads_shift k l at (bad m) r h = absurd cc

code_of : (t : Tree) (o : Outline) (vs : List Rattle.rules_code.specs.typing.Scripts.View) → HasParts (size t) o →
    code_fault o ≡ None → IsCode t (a_script o vs)
code_of t o vs h f =
    by (is_small (pair o.parameter o.storage)) (is_small (pair (list operation) o.storage)) refl f
  where
    b : IsBody (size t) o.code
    b = h.body

    by : (x y : Bool) → is_small (pair o.parameter o.storage) ≡ x →
        fault_of_body (x && y) (main o.entries) (pair o.parameter o.storage) (pair (list operation) o.storage) o.code ≡ None →
        IsCode t (a_script o vs)
    by true true e g = record {
      within = b.within;
      stored = h.stored;
      formed = h.formed;
      limit = leb-true (nodes (pair o.parameter o.storage)) type_limit e;
      leads = rw b.is
          (leads_shift b.at o.code.location 1 (trees_type b.inner (main o.entries) (pair o.parameter o.storage ∷ []))
          (pair (list operation) o.storage)
          (ap (λ u. body_fault o.code.location u (pair (list operation) o.storage))
          (sym (b.typed (main o.entries) (pair o.parameter o.storage ∷ []))) ∙ g));
    }
    by true false e g = absurd cc
    by false y e g = absurd cc

pub script_code : (t : Tree) (s : Script) → script t ≡ found s → IsCode t s
script_code t s h =
    let i = script_is t s h in
    subst (IsCode t) (sym i.is) (code_of t i.of i.views (outline_parts t i.of i.outlined) i.code)
