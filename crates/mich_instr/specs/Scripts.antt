-- What is known of the scripts that are held.
use Rattle.mich_instr.specs.View.{script_code, script_node}
use Rattle.mich_instr.specs.Typed.{IsScript}
use Rattle.mich_instr.specs.declared.instr.Script.{Script}

-- The typing of scripts accepts the script's node, and the script is what it gives: the parameter with its entrypoints, the
-- type of the storage, and the typed code of the code and of each view (Michelson reference, "Scripts").
abbrev pub IsTypedScript : Script → Type 0
IsTypedScript s = IsScript (script_node s) (script_code s)
