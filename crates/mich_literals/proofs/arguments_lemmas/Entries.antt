-- The entrypoints of contracts whose scripts are typed.
use Rattle.std.proofs.Common.{rules, ◌≡◌, ℕ, Bool, true, false, cond, List, [], ◌∷◌, Some, map, refl, sym, ap, ◌∙◌, subst}
use Rattle.std.specs.Prelude.{if◌then◌else◌}
use Rattle.std.specs.declared.option.Option.{Option}
use Rattle.std.specs.BTreeMap.{is_at}
use Rattle.std.specs.List.{AllByRecursion}
use Rattle.std.specs.Map.{lookup}
use Rattle.std.specs.Str.{bytes_eq}
use Rattle.rules_text.specs.nodes.Tree.{Tree, seq}
use Rattle.rules_data.specs.types.Entrypoints.{Entry, find_entry}
use Rattle.rules_data.specs.types.Kind.{Kind}
use Rattle.rules_code.specs.instructions.Arguments.{found}
use Rattle.rules_code.specs.typing.Nodes.{script}
use Rattle.rules_code.specs.typing.Scripts.{Outline, Script as PlainScript}
use Rattle.rules_code.specs.evaluation.Contracts.{entry_in}
use Rattle.laws_data.specs.types.Laws.{IsWellFormed}
use Rattle.laws_code.proofs.typed.ForCallers.{Outlined, outlined, entries_are_types, EntriesAreTypes}
use Rattle.mich_base.specs.TypeView.{kind}
use Rattle.mich_bigmap.specs.Bases.{Bases}
use Rattle.mich_instr.specs.Code as made
use Rattle.mich_instr.specs.Scripts.{IsTypedScript}
use Rattle.mich_instr.specs.Typed.{IsScript, is_script}
use Rattle.mich_instr.specs.View.{script_code, script_node, view_codes, codes}
use Rattle.mich_instr.specs.declared.instr.Script.{Script, out-Script}
use Rattle.mich_instr.specs.declared.instr.Script as scripts
use Rattle.mich_types.specs.Entered.{entry_of}
use Rattle.mich_world.specs.Holders.{by_bytes, contract_at}
use Rattle.mich_world.specs.Standing.{plain}
use Rattle.mich_world.specs.World.{World}
use Rattle.mich_world.specs.declared.contract.Contract.{Contract}
use Rattle.mich_literals.specs.arguments.Arguments.{HasTypedScripts, entries_in}

-- ---- a script

script_is : (s : Script) →
    script_code s ≡ made.script (script_node s) (kind (out-Script s).parameter.ty) (map entry_of (out-Script s).parameter.entries) (kind (out-Script s).storage) (codes (out-Script s).code) (view_codes (out-Script s).views)
script_is s = search (rules, scripts.the_lemmas)

-- what a script is read as
record Reads (n : Tree) (es : List Entry) : Type 0 where
  script : PlainScript
  read : Rattle.rules_code.specs.typing.Nodes.script n ≡ found script
  entries : script.entries ≡ es

reads : (n m : Tree) (p g : Kind) (es : List Entry) (is : made.Codes) (vs : made.ViewCodes) → IsScript n (made.script m p es g is vs) → Reads n es
reads n _ p g es is _ (is_script {ts = ts} {vs = ws} typed code views) = record {
  script = record { parameter = p; entries = es; storage = g; code = seq ts; views = ws };
  read = typed;
  entries = refl;
}

script_reads : (s : Script) → IsTypedScript s → Reads (script_node s) (map entry_of (out-Script s).parameter.entries)
script_reads s h = reads (script_node s) _ _ _ _ _ _ (subst (IsScript (script_node s)) (script_is s) h)

-- ---- its entrypoints

find_type : (name : List ℕ) (es : List Entry) (e : Entry) → EntriesAreTypes es → find_entry name es ≡ Some e → IsWellFormed e.kind
find_type name [] e h f = cc
find_type name (d ∷ es) e h f = by (bytes_eq d.name name) f (λ g. find_type name es e h.2 g)
  where
    by : (b : Bool) → (if b then Some d else find_entry name es) ≡ Some e → (find_entry name es ≡ Some e → IsWellFormed e.kind) → IsWellFormed e.kind
    by true g later = let same : d ≡ e = cc in subst (λ (x : Entry). IsWellFormed x.kind) same h.1
    by false g later = later g

-- ---- contracts

at_one : (P : Contract → Type 0) (test : List ℕ → Bool) (cs : List (List ℕ × Contract)) (k : Contract) → AllByRecursion (λ c. P c.1) cs → lookup test cs ≡ Some k → P k
at_one P test [] k h e = cc
at_one P test (c ∷ cs) k h e = by (test c.0) e (λ g. at_one P test cs k h.1 g)
  where
    by : (b : Bool) → cond b (Some c.1) (lookup test cs) ≡ Some k → (lookup test cs ≡ Some k → P k) → P k
    by true g later = let one : c.1 ≡ k = cc in subst P one h.0
    by false g later = later g

module _ (v : World) (hash : List ℕ) (k : Contract) (typed : HasTypedScripts v) (there : contract_at v.funds.present hash ≡ Some k) where
  its_script : IsTypedScript k.script
  its_script = at_one (λ c. IsTypedScript c.script) (is_at (by_bytes hash)) v.funds.present.contracts k typed there

  its_reading : Reads (script_node k.script) (entries_in k)
  its_reading = script_reads k.script its_script

  its_outline : Outlined (script_node k.script) its_reading.script
  its_outline = outlined (script_node k.script) its_reading.script its_reading.read

  outlined_entries : its_outline.types.entries ≡ entries_in k
  outlined_entries = sym (ap (λ (s : PlainScript). s.entries) its_outline.whole) ∙ its_reading.entries

  -- what the rules read of its script
  pub read_so : (s : PlainScript) × (script (script_node k.script) ≡ found s) × (s.entries ≡ entries_in k)
  read_so = (its_reading.script, its_reading.read, its_reading.entries)

  -- an entrypoint that the rules find
  pub entry_found : (bs : Bases) (name : List ℕ) → entry_in name (plain bs k) ≡ find_entry name (entries_in k)
  entry_found bs name =
      ap (λ (o : Option Outline). Rattle.std.specs.Prelude.option_and_then (λ (t : Outline). find_entry name t.entries) o)
      (ap Rattle.rules_code.specs.evaluation.Contracts.if_found its_outline.is)
      ∙ ap (find_entry name) outlined_entries

  -- the type of one has its form
  pub entry_formed : (name : List ℕ) (e : Entry) → find_entry name (entries_in k) ≡ Some e → IsWellFormed e.kind
  entry_formed name e f =
      find_type name (entries_in k) e (subst EntriesAreTypes outlined_entries (entries_are_types (script_node k.script) its_outline.types its_outline.is)) f

-- ---- its storage

stores : (n m : Tree) (p g : Kind) (es : List Entry) (is : made.Codes) (vs : made.ViewCodes) → IsScript n (made.script m p es g is vs) → (s : PlainScript) × (script n ≡ found s) × (s.storage ≡ g)
stores n _ p g es is _ (is_script {ts = ts} {vs = ws} typed code views) =
    (record { parameter = p; entries = es; storage = g; code = seq ts; views = ws }, typed, refl)

-- what the rules read of a typed script has the type of its storage
pub storage_read : (s : Script) → IsTypedScript s → (p : PlainScript) × (script (script_node s) ≡ found p) × (p.storage ≡ kind (out-Script s).storage)
storage_read s h = stores (script_node s) _ _ _ _ _ _ (subst (IsScript (script_node s)) (script_is s) h)
