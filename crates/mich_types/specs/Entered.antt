-- What the answers of the calls on parameters say.
use Rattle.std.specs.Prelude.{ℕ, ◌+◌, ◌≡◌, Bool, List, [], ◌∷◌, map, Result, Ok, Err}
use Rattle.rules_text.specs.nodes.Tree.{Tree, prim, none, more, size}
use Rattle.rules_data.specs.types.Kind.{Kind}
use Rattle.rules_data.specs.types.Kind as k
use Rattle.rules_data.specs.types.Reading.{type_at}
use Rattle.rules_data.specs.types.Entrypoints as rules
use Rattle.mich_base.specs.TypeView.{kind}
use Rattle.mich_types.specs.declared.parameter.Entry.{Entry}
use Rattle.mich_types.specs.declared.parameter.Parameter.{Parameter}
use Rattle.mich_types.specs.declared.error.TypeError.{TypeError}
use Rattle.mich_types.specs.declared.error.TypeError.TheVariants as error

abbrev pub entry_of : Entry → rules.Entry
entry_of e = record { name = e.name; path = e.path; kind = kind e.ty }

abbrev pub IsEntryFault : rules.Entries → TypeError → Type 0
IsEntryFault r (error.BadType l) = r ≡ rules.bad_name l
IsEntryFault r error.TypeTooLarge = ⊥
IsEntryFault r (error.RepeatedEntrypoint l) = r ≡ rules.repeated l
IsEntryFault r error.Memory = Unit {0}

-- these entrypoints were entered, or this was the fault
abbrev pub IsEntered : {T : Type 0} → rules.Entries → List Entry → Result T TypeError → Type 0
IsEntered r after (Ok u) = r ≡ rules.entries (map entry_of after)
IsEntered r after (Err e) = IsEntryFault r e

abbrev pub IsEntries : rules.Entries → Result (List Entry) TypeError → Type 0
IsEntries r (Ok es) = r ≡ rules.entries (map entry_of es)
IsEntries r (Err e) = IsEntryFault r e

abbrev pub IsParameterFault : rules.Parameter → TypeError → Type 0
IsParameterFault r (error.BadType l) = r ≡ rules.bad_parameter l
IsParameterFault r error.TypeTooLarge = r ≡ rules.large_parameter
IsParameterFault r (error.RepeatedEntrypoint l) = r ≡ rules.repeated_entrypoint l
IsParameterFault r error.Memory = Unit {0}

-- a section read as a parameter gives this answer
abbrev pub IsParameter : rules.Parameter → Result Parameter TypeError → Type 0
IsParameter r (Ok p) = r ≡ rules.a_parameter (kind p.ty) (map entry_of p.entries)
IsParameter r (Err e) = IsParameterFault r e

-- a section whose type is a node, behind its annotations
abbrev pub IsSectionOf : Tree → List (List ℕ) → Tree → Type 0
IsSectionOf t annots u = (rules.parameter t ≡ rules.of_reading annots u (type_at 1 u)) × (size t ≡ 1 + size u)

-- these entrypoints, then that of a branch and those below it
abbrev pub with_all_of : List rules.Entry → ℕ → Tree → List Bool → Kind → rules.Entries
with_all_of es at t path a = rules.with_branches es (rules.branch at t path a ∷ rules.below a at t path)

-- a type that is no `or`
abbrev pub IsNoOr : Kind → Type 0
IsNoOr (k.or a b) = ⊥
IsNoOr _ = Unit {0}

-- another node than an application with two arguments
abbrev pub HasNoTwo : Tree → Type 0
HasNoTwo (prim name annots (more l (more r none))) = ⊥
HasNoTwo _ = Unit {0}

abbrev pub name_of : Tree → List ℕ
name_of (prim name annots args) = name
name_of _ = []

-- an application to two arguments
abbrev pub IsOfTwo : Tree → Tree → Tree → Type 0
IsOfTwo t a b = t ≡ prim (name_of t) (rules.annotations t) (more a (more b none))
