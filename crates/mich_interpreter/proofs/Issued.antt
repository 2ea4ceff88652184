-- A run behind an instruction that issues an operation.
use Rattle.std.proofs.Common.{◌≡◌, ◌<◌, ◌≤◌, ◌-◌, ◌+◌, ℕ, suc, Option, Some, None, List, [], ◌∷◌, ◌++◌, map, append_assoc, refl, sym, ap, ◌∙◌, subst, arith, rules}
use Rattle.std.proofs.lemmas.List.{map-append}
use Rattle.rules_data.specs.declared.gas.Kind.{Kind as Priced}
use Rattle.rules_data.specs.gas.Prices.{cost}
use Rattle.rules_data.specs.types.Kind.{Kind}
use Rattle.rules_data.specs.values.Val.{Val, operation}
use Rattle.std.specs.Prelude.{MatchOption}
use Rattle.rules_text.specs.nodes.Limits.{operation_limit}
use Rattle.rules_code.specs.evaluation.Operations.{Operation}
use Rattle.rules_code.specs.evaluation.Operations as rules
use Rattle.rules_code.specs.evaluation.Issuing.{with_operation}
use Rattle.rules_code.specs.evaluation.Outcome.{Outcome}
use Rattle.mich_gas.specs.declared.costs.Costs.{Costs}
use Rattle.mich_gas.specs.View.{listed}
use Rattle.mich_ops.specs.declared.issued.Issued.{Issued}
use Rattle.mich_term.specs.declared.value.Value.{Value}
use Rattle.mich_term.specs.declared.value.Value as values
use Rattle.mich_term.specs.declared.value.Value.TheVariants as value
use Rattle.mich_stack.specs.Views.{Sight, seen}
use Rattle.mich_frames.specs.Around.{less}
use Rattle.mich_frames.specs.Frames.{Frame}
use Rattle.mich_frames.specs.Shapes.{HasTop, HasTransfer}
use Rattle.mich_frames.specs.Stands.{StandsAt}
use Rattle.mich_interpreter.specs.Issues.{issued_by}
use Rattle.mich_interpreter.specs.View.{Beyond, tops, all_issued, around, tally}
use Rattle.mich_state.specs.declared.state.Counts.{Counts}
use Rattle.mich_state.specs.declared.state.State.{State}

module _ (x : Beyond) (costs : Costs) (old : State) (stack : List Value) (meter : ℕ) (counts : Counts) (issued : List Issued) (fs : List Frame) (d : ℕ) (Z : List Kind) (o : Outcome) where
  abbrev P : ℕ → ℕ → ℕ → ℕ → List rules.Issued → Type 0
  P group gas operations originations all =
      StandsAt fs (record (around x costs old) { group = group }) (tops x.sight stack)
      (record (tally x old) { gas = gas; operations = operations; originations = originations; issued = all }) d Z o

  -- the tally after a charge, with another count of originations, and one more operation
  pub stands_counted : (kind : Priced) (w originations : ℕ) (op : Operation) (i : Issued) (n : ℕ) → meter ≡ old.meter - cost (listed costs) kind w → n ≡ old.counts.issued → counts.issued ≡ n + 1 →
      counts.originated ≡ originations → counts.group ≡ old.counts.group → issued ≡ old.issued ++ i ∷ [] → issued_by x.sight i ≡ record { number = old.counts.issued; operation = op } →
      StandsAt fs (around x costs old) (tops x.sight stack) (with_operation (record (less (around x costs old) kind w (tally x old)) { originations = originations }) op) d Z o →
      StandsAt fs (around x costs (record old { stack = stack; meter = meter; counts = counts; issued = issued })) (tops x.sight stack) (tally x (record old { stack = stack; meter = meter; counts = counts; issued = issued })) d Z o
  stands_counted kind w originations op i n paid is_next counted originated group put same h =
      let gas : ℕ = old.meter - cost (listed costs) kind w in
      let first : List rules.Issued = x.before.issued in
      let all : List rules.Issued = all_issued x.sight x.before issued in
      let new : rules.Issued = record { number = old.counts.issued; operation = op } in
      let next : counts.issued ≡ suc old.counts.issued = omega (arith, is_next, counted) in
      let here : map (issued_by x.sight) issued ≡ map (issued_by x.sight) old.issued ++ new ∷ [] =
      ap (map (issued_by x.sight)) put ∙ map-append (issued_by x.sight) old.issued (i ∷ []) ∙ ap (λ j. map (issued_by x.sight) old.issued ++ j ∷ []) same in
      let listed_is : all ≡ all_issued x.sight x.before old.issued ++ new ∷ [] =
      ap (λ is. first ++ is) here ∙ sym (append_assoc first (map (issued_by x.sight) old.issued) (new ∷ [])) in
      let one : P old.counts.group gas (suc old.counts.issued) originations all = subst (λ is. P old.counts.group gas (suc old.counts.issued) originations is) (sym listed_is) h in
      let two : P old.counts.group gas (suc old.counts.issued) counts.originated all = subst (λ k. P old.counts.group gas (suc old.counts.issued) k all) (sym originated) one in
      let three : P old.counts.group gas counts.issued counts.originated all = subst (λ k. P old.counts.group gas k counts.originated all) (sym next) two in
      let four : P old.counts.group meter counts.issued counts.originated all = subst (λ k. P old.counts.group k counts.issued counts.originated all) (sym paid) three in
      subst (λ k. P k meter counts.issued counts.originated all) (sym group) four

  pub stands_issued : (kind : Priced) (w : ℕ) (op : Operation) (i : Issued) (n : ℕ) → meter ≡ old.meter - cost (listed costs) kind w → n ≡ old.counts.issued → counts.issued ≡ n + 1 →
      counts.originated ≡ old.counts.originated → counts.group ≡ old.counts.group → issued ≡ old.issued ++ i ∷ [] → issued_by x.sight i ≡ record { number = old.counts.issued; operation = op } →
      StandsAt fs (around x costs old) (tops x.sight stack) (with_operation (less (around x costs old) kind w (tally x old)) op) d Z o →
      StandsAt fs (around x costs (record old { stack = stack; meter = meter; counts = counts; issued = issued })) (tops x.sight stack) (tally x (record old { stack = stack; meter = meter; counts = counts; issued = issued })) d Z o
  stands_issued kind w op i n paid is_next counted originated group put same h = stands_counted kind w old.counts.originated op i n paid is_next counted originated group put same h

-- a transfer has an argument
pub transfer_first : (V : List Val) → HasTransfer V → HasTop V
transfer_first [] h = absurd h
transfer_first (x ∷ V) h = tt

pub seen_operation : (big : Sight) (n : ℕ) → seen big (value.Operation n) ≡ operation n
seen_operation big n = search (rules, values.the_lemmas)

-- where no operation was counted, there were as many as there may be
pub over_limit : (o : Option ℕ) (old new : ℕ) → ((n : ℕ) → o ≡ Some n → ⊥) → MatchOption o (operation_limit ≤ old) (λ n. (n ≡ old) × (n < operation_limit) × (new ≡ n + 1)) → operation_limit ≤ old
over_limit None old new absent h = h
over_limit (Some n) old new absent h = absurd (absent n refl)
