-- Originations by scripts.
use Rattle.std.proofs.Common.{◌≡◌, ◌≤◌, ◌<◌, ℕ, List, [], ◌∷◌, Option, Some, None}
use Rattle.std.specs.Prelude.{pos}
use Rattle.rules_text.specs.nodes.Limits.{operation_limit}
use Rattle.rules_data.specs.declared.gas.Kind.TheVariants as g
use Rattle.rules_data.specs.types.Kind.{Kind}
use Rattle.rules_data.specs.values.Val.{Val}
use Rattle.rules_data.specs.values.Val as v
use Rattle.rules_data.specs.forms.Spelling.{contract_place}
use Rattle.rules_code.specs.steps.Failure as f
use Rattle.rules_code.specs.evaluation.Issuing.{with_operation, with_origination}
use Rattle.rules_code.specs.evaluation.Operations.{Tally, new_contract}
use Rattle.rules_code.specs.evaluation.Outcome.{Outcome, failed}
use Rattle.mich_instr.specs.Code.{ScriptCode}
use Rattle.mich_instr.specs.Code as made
use Rattle.mich_instr.specs.Typed.{IsScript, is_create}
use Rattle.mich_instr.specs.View.{node_of}
use Rattle.mich_frames.specs.Around.{Around, less, Pays, Lacks}
use Rattle.mich_frames.specs.Frames.{Frame}
use Rattle.mich_frames.specs.Rows.{origination_of}
use Rattle.mich_frames.specs.Stands.{StandsAt, MeetsAt}
use Rattle.mich_frames.specs.Shapes.{HasTop, HasOrigination, delegate_value}
use Rattle.mich_frames.proofs.ForCallers.{create_top, create_acts, create_over, create_broke, Case, meets_by}

-- behind a delegate and an amount there is a storage

pub storage_third : (delegate : Option (List ℕ)) (x : Val) (V : List Val) → HasOrigination (delegate_value delegate ∷ x ∷ V) → HasTop V
storage_third None x (y ∷ W) h = tt
storage_third (Some b) x (y ∷ W) h = tt
storage_third None (v.number (pos n)) [] h = absurd h
storage_third (Some b) (v.number (pos n)) [] h = absurd h
storage_third None _ [] h = absurd h
storage_third (Some b) _ [] h = absurd h

-- ---- CREATE_CONTRACT

module _ {fs : List Frame} {u : Around} {m : Tally} {d : ℕ} {Z : List Kind} {o : Outcome} where
  -- its script is typed
  pub create_typed : (s : ScriptCode) {V : List Val} → MeetsAt (made.create_contract s) fs u V m d Z o → IsScript (node_of s) s
  create_typed s {V = V} h = meets_by h (by s)
    where
      by : (s : ScriptCode) → Case (made.create_contract s) fs u V m d Z o (IsScript (node_of s) s)
      by _ ps c _ _ _ (is_create form goes_is fine) rests depth same = fine

  pub create_any_top : (s : ScriptCode) {V : List Val} → MeetsAt (made.create_contract s) fs u V m d Z o → HasOrigination V
  create_any_top (made.script t a es b is vs) h = create_top t h

  pub create_any_broke : (s : ScriptCode) (V : List Val) → Lacks u g.CreateContract 0 m → MeetsAt (made.create_contract s) fs u V m d Z o → HasOrigination V → o ≡ failed f.out_of_gas
  create_any_broke (made.script t a es b is vs) (v.nothing ∷ v.number (pos n) ∷ y ∷ W) lacks h top = create_broke t None n y W h lacks
  create_any_broke (made.script t a es b is vs) (v.some (v.bytes k) ∷ v.number (pos n) ∷ y ∷ W) lacks h top = create_broke t (Some k) n y W h lacks
  create_any_broke _ _ lacks h top = absurd top

  module _ (s : ScriptCode) (delegate : Option (List ℕ)) (amount : ℕ) (storage : Val) (W : List Val) where
    pub create_any_acts : Pays u g.CreateContract 0 m → m.operations < operation_limit → MeetsAt (made.create_contract s) fs u (delegate_value delegate ∷ v.number (pos amount) ∷ storage ∷ W) m d Z o →
        StandsAt fs u (v.operation m.operations ∷ v.bytes (contract_place (new_contract u.group m.originations)) ∷ W)
        (with_operation (with_origination (less u g.CreateContract 0 m)) (origination_of u m delegate amount (node_of s) storage)) d Z o
    create_any_acts pays lt h = by s h
      where
        by : (s : ScriptCode) → MeetsAt (made.create_contract s) fs u (delegate_value delegate ∷ v.number (pos amount) ∷ storage ∷ W) m d Z o →
            StandsAt fs u (v.operation m.operations ∷ v.bytes (contract_place (new_contract u.group m.originations)) ∷ W)
            (with_operation (with_origination (less u g.CreateContract 0 m)) (origination_of u m delegate amount (node_of s) storage)) d Z o
        by (made.script t a es b is vs) h = create_acts t delegate amount storage W h pays lt

    pub create_any_over : Pays u g.CreateContract 0 m → operation_limit ≤ m.operations → MeetsAt (made.create_contract s) fs u (delegate_value delegate ∷ v.number (pos amount) ∷ storage ∷ W) m d Z o → o ≡ failed f.too_many_operations
    create_any_over pays le h = by s h
      where
        by : (s : ScriptCode) → MeetsAt (made.create_contract s) fs u (delegate_value delegate ∷ v.number (pos amount) ∷ storage ∷ W) m d Z o → o ≡ failed f.too_many_operations
        by (made.script t a es b is vs) h = create_over t delegate amount storage W h pays le
