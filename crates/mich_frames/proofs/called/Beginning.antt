-- Where an entrypoint of a contract of a sound world is called with an argument of its type, its code begins well.
use Rattle.std.proofs.Common.{◌≡◌, ◌≤◌, ◌<◌, ◌^◌, ℕ, List, [], ◌∷◌, Some, sym, ap, ◌∙◌, subst, arith}
use Rattle.std.specs.Prelude.{ℤ, pos, ◌+ℤ◌, ◌-ℤ◌, ◌≤ℤ◌}
use Rattle.std.proofs.lemmas.Int.{ints}
use Rattle.std.proofs.lemmas.List.Elements.{All-nil}
use Rattle.rules_text.specs.nodes.Tree.{Tree, Trees, seq, size}
use Rattle.rules_data.specs.types.Kind.{Kind}
use Rattle.rules_data.specs.types.Entrypoints.{Entry}
use Rattle.rules_code.specs.instructions.Arguments.{found}
use Rattle.rules_code.specs.instructions.Context.{Context, main}
use Rattle.rules_data.specs.values.Val.{Val}
use Rattle.rules_data.specs.values.Tickets.{Identity}
use Rattle.rules_code.specs.typing.Scripts.{Script}
use Rattle.rules_code.specs.typing.Nodes.{tree_type, script}
use Rattle.rules_code.specs.typing.Fits.{Leads}
use Rattle.rules_code.specs.steps.Changes.{amount_in}
use Rattle.rules_code.specs.steps.Environment.{Environment}
use Rattle.rules_code.specs.evaluation.Surroundings.{Contract, Surroundings}
use Rattle.rules_code.specs.evaluation.Operations.{Issued, Tally}
use Rattle.rules_code.specs.evaluation.Evaluation.{eval}
use Rattle.rules_world.specs.world.World.{World, contract_at}
use Rattle.rules_world.specs.world.Holdings.{held, minted_ever, burnt_ever}
use Rattle.rules_world.specs.world.Outcomes.{Setting, Counts}
use Rattle.rules_world.specs.world.Targets.{Target}
use Rattle.rules_world.specs.world.Runs.{surroundings_of, tally_of, type_before, value_before, type_after}
use Rattle.rules_world.specs.world.RunLaws.{IsCall}
use Rattle.rules_world.specs.world.Forms.{IsChange}
use Rattle.laws_code.specs.evaluation.Laws.{Stands, amount_on}
use Rattle.laws_code.specs.stacks.Sound.{IsSoundIssue}
use Rattle.laws_world.proofs.runs.ForCallers.{script_code, IsMet, held_within, orderly, is_met, before_amount, stands}
use Rattle.mich_instr.proofs.bodies.ForCallers.{seq_leads}
use Rattle.mich_instr.specs.Code.{Codes, ViewCodes}
use Rattle.mich_instr.specs.Code as made
use Rattle.mich_instr.specs.Typed.{AreCode, IsScript, is_script}
use Rattle.mich_frames.specs.Around.{Around, around}
use Rattle.mich_frames.specs.Fine.{IsFine}
use Rattle.mich_frames.specs.Frames.{IsBlock}
use Rattle.mich_frames.specs.Stands.{OpensAt}
use Rattle.mich_frames.proofs.ForCallers.{starts}

left_within : (h a m b s v : ℤ) → (h +ℤ a) ≤ℤ (m -ℤ b) → s ≤ℤ h → v ≡ a +ℤ s → (v +ℤ pos 0 +ℤ pos 0 +ℤ pos 0 +ℤ (b +ℤ pos 0)) ≤ℤ (m +ℤ pos 0)
left_within h a m b s v e f g = omega (arith, ints, e, f, g)

found_one : (x y : Script) → found x ≡ found y → x ≡ y
found_one x y e = cc

module _ (e : Environment) (s : Setting) (w : World) (t : Target) (argument : Val) (counts : Counts) (call : IsCall e s w t argument counts) (gas : ℕ) where
  abbrev seen_by : Surroundings
  seen_by = surroundings_of e s w t

  abbrev u : Around
  u = around seen_by (burnt_ever w)

  abbrev m : Tally
  m = tally_of gas counts

  abbrev met : IsMet w t
  met = is_met e s w t argument counts call

  met_within : (id : Identity) → (amount_on id (value_before t argument met.contract ∷ []) +ℤ pos 0 +ℤ pos 0 +ℤ (burnt_ever w id +ℤ pos 0)) ≤ℤ (minted_ever w id +ℤ pos 0)
  met_within id =
      left_within (held w id) (amount_in id argument) (minted_ever w id) (burnt_ever w id) (amount_in id met.contract.storage) (amount_in id (value_before t argument met.contract))
      (call.may.tickets id) (held_within w t.hash met.contract id (orderly e s w t argument counts call) met.there) (before_amount e s w t argument counts call id)

  met_fine : IsFine u (main t.script.entries) [] (type_before t.script ∷ []) (value_before t argument met.contract ∷ []) [] []
  met_fine =
      let base : Stands seen_by m (type_before t.script ∷ []) (value_before t argument met.contract ∷ []) = stands e s w t argument counts call gas in
      record {
        good = base.good;
        types = (base.types 0 (type_before t.script) (omega arith), tt);
        fits = base.fit;
        pending = tt;
        well = (All-nil (λ (i : Issued). IsSoundIssue (contract_at w) i.operation), All-nil IsChange);
        mints = λ id. omega (arith, ints);
        most = λ id. (base.tickets id).0;
        below = λ id. let h = (base.tickets id).1 in omega (arith, ints, h);
        within = met_within;
      }

  module _ (contract : Contract) (there : contract_at w t.hash ≡ Some contract) where
    same_contract : met.contract ≡ contract
    same_contract = let one : Some met.contract ≡ Some contract = sym met.there ∙ there in cc

    read : script contract.script ≡ found t.script
    read = subst (λ c. script c.script ≡ found t.script) same_contract met.read

    abbrev V : List Val
    V = value_before t argument contract ∷ []

    pub call_fine : IsFine u (main t.script.entries) [] (type_before t.script ∷ []) V [] []
    call_fine = subst (λ c. IsFine u (main t.script.entries) [] (type_before t.script ∷ []) (value_before t argument c ∷ []) [] []) same_contract met_fine

    abbrev Opens : Codes → Type 0
    Opens is = OpensAt is [] u V m 0 (type_after t.script ∷ []) (eval t.script.code seen_by 0 (type_before t.script ∷ []) V m)

    code_opens : (ts : Trees) (is : Codes) → t.script.code ≡ seq ts → AreCode (main t.script.entries) ts is (type_before t.script ∷ []) (type_after t.script ∷ []) → Opens is
    code_opens ts is code are =
        let c : Context = main t.script.entries in
        let A : List Kind = type_before t.script ∷ [] in
        let Z : List Kind = type_after t.script ∷ [] in
        let known = script_code contract.script t.script read in
        let leads : Leads (tree_type (seq ts) c A) Z = subst (λ n. Leads (tree_type n c A) Z) code known.leads in
        let within : size (seq ts) ≤ size contract.script = subst (λ n. size n ≤ size contract.script) code known.within in
        let small : size contract.script < 2 ^ 32 = (call_fine.good.contracts t.hash contract there).small in
        let block : IsBlock c ts is A Z = record { code = are; typed = seq_leads ts c A Z leads; small = omega (arith, within, small) } in
        subst (λ n. OpensAt is [] u V m 0 Z (eval n seen_by 0 A V m)) (sym code) (starts u c ts is A Z V m call.costs block call_fine)

    -- the typed code of the contract's script opens on the argument and the storage
    pub call_opens : (p g : Kind) (es : List Entry) (is : Codes) (vs : ViewCodes) → IsScript contract.script (made.script contract.script p es g is vs) → Opens is
    call_opens p g es is vs h = by contract.script contract.script p g es is vs h read
      where
        by : (n n' : Tree) (p g : Kind) (es : List Entry) (is : Codes) (vs : ViewCodes) → IsScript n (made.script n' p es g is vs) → script n ≡ found t.script → Opens is
        by n _ p g es is _ (is_script {ts = ts} {vs = ws} typed code views) read =
            let same : record { parameter = p; entries = es; storage = g; code = seq ts; views = ws } ≡ t.script = found_one _ _ (sym typed ∙ read) in
            code_opens ts is (sym (ap (λ (s : Script). s.code) same)) (subst (λ (s : Script). AreCode (main s.entries) ts is (type_before s ∷ []) (type_after s ∷ [])) same code)
