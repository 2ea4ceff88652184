-- The verdict on a text that a run printed, from its bytes alone.
use Rattle.std.specs.Prelude.{◌≡◌, ℕ, List, [], reverse}
use Rattle.rules_audit.specs.Form.{Form, formed, bad_form, IsForm, pieces_of}
use Rattle.rules_audit.specs.Verdicts.{Verdict, agrees, is_bad_form, verdict}

abbrev pub verdict_on : Form → Verdict
verdict_on (formed before) = verdict (reverse before)
verdict_on (bad_form n) = is_bad_form n

abbrev pub IsVerdict : List ℕ → Verdict → Type 0
IsVerdict file v = (form : Form) × IsForm [] (pieces_of file) form × (v ≡ verdict_on form)

-- the text has the form, and its numbers agree
abbrev pub Agrees : List ℕ → Type 0
Agrees file = IsVerdict file agrees
