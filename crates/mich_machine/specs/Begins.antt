-- What a run needs of a script.
use Rattle.std.specs.Prelude.{◌≡◌, ℕ, List, map, Some}
use Rattle.rules_data.specs.types.Entrypoints.{Entry, find_entry}
use Rattle.rules_data.specs.values.Val.{both}
use Rattle.rules_world.specs.world.Targets.{wrapped}
use Rattle.mich_types.specs.Entered.{entry_of}
use Rattle.mich_instr.specs.declared.instr.Instr.{Instr}
use Rattle.mich_instr.specs.declared.instr.Script.{Script, out-Script}
use Rattle.mich_stack.specs.Views.{Sight, seen}
use Rattle.mich_term.specs.declared.value.Value.{Value}
use Rattle.mich_world.specs.declared.contract.Contract.{Contract}

abbrev pub entries_of : Script → List Entry
entries_of s = map entry_of (out-Script s).parameter.entries

abbrev pub code_of : Script → List Instr
code_of s = (out-Script s).code

-- the argument of an entrypoint as one of the whole parameter, and the storage
abbrev pub IsOpening : Contract → List ℕ → Value → Value → Type 0
IsOpening c name argument v =
    (big : Sight) (e : Entry) → find_entry name (entries_of c.script) ≡ Some e →
    seen big v ≡ both (wrapped e.path (seen big argument)) (seen big c.storage)
