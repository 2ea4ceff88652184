-- What the code's statements stand for.
use Rattle.std.specs.Prelude.{◌≡◌, ℕ, [], ◌∷◌, ◌++◌, List, map, Option, Some, None, Result, Ok, Err}
use Rattle.rules_text.specs.nodes.Tree.{Tree, int, str, bytes, prim, seq}
use Rattle.rules_world.specs.world.Contents as rules
use Rattle.rules_files.specs.statements.Statements as statements
use Rattle.rules_files.specs.statements.Statements.{◌>>=◌, contents_of, group_of}
use Rattle.mich_base.specs.View.{tree}
use Rattle.mich_ops.specs.View.{content}
use Rattle.mich_ops.specs.declared.group.Content.{Content}
use Rattle.mich_scenario.specs.declared.error.FormError.{FormError}
use Rattle.mich_scenario.specs.declared.error.FormError.TheVariants as error
use Rattle.mich_scenario.specs.declared.statement.Statement.{Statement}
use Rattle.mich_scenario.specs.declared.statement.Statement.TheVariants as code

-- the contents that are listed
abbrev pub contents_said : List Content → List rules.Content
contents_said cs = map content cs

abbrev pub said : Statement → statements.Statement
said (code.Chain id level moment) = statements.Chain id level moment
said (code.Profile rate) = statements.Profile rate
said (code.Costs table) = statements.Costs (tree table)
said (code.Account key_hash mutez) = statements.Account key_hash mutez
said (code.Block level moment) = statements.Block level moment
said (code.Group g) = statements.Group g.source (contents_said g.contents)

-- what was read, seen so, is what a node says; or it says nothing
abbrev pub IsForm : {X Y : Type 0} → (X → Y) → Option Y → Result X FormError → Type 0
IsForm view found (Ok x) = found ≡ Some (view x)
IsForm view found (Err error.BadStatement) = found ≡ None
IsForm view found (Err error.Memory) = Unit {0}

-- another node than an application without annotations
abbrev pub IsNoPlain : Tree → Type 0
IsNoPlain (prim name [] arguments) = ⊥
IsNoPlain (prim name (a ∷ annotations) arguments) = Unit {0}
IsNoPlain (int n) = Unit {0}
IsNoPlain (str s) = Unit {0}
IsNoPlain (bytes b) = Unit {0}
IsNoPlain (seq elements) = Unit {0}

-- another node than a sequence
abbrev pub IsNoSequence : Tree → Type 0
IsNoSequence (seq elements) = ⊥
IsNoSequence (int n) = Unit {0}
IsNoSequence (str s) = Unit {0}
IsNoSequence (bytes b) = Unit {0}
IsNoSequence (prim name annotations arguments) = Unit {0}

-- nodes before the contents of a group that are no source, or are this one
abbrev pub IsNoSource : List Tree → Type 0
IsNoSource front = (contents : Tree) → group_of (front ++ contents ∷ []) ≡ None

abbrev pub IsSource : List Tree → List ℕ → Type 0
IsSource front who = (contents : Tree) → group_of (front ++ contents ∷ []) ≡ (contents_of contents >>= λ cs. Some (statements.Group who cs))
