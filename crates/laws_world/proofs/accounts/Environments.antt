-- Environments in range are good.
use Rattle.std.proofs.Common.{◌≡◌, ◌-◌, ◌^◌, ℕ, List, length, true, ℤ, pos, ◌≤ℤ◌, neg_ℤ, arith}
use Rattle.std.specs.Prelude.{int_le}
use Rattle.std.proofs.lemmas.Bool.{and_parts, eqb-true}
use Rattle.std.proofs.lemmas.Int.{ints}
use Rattle.rules_data.specs.forms.Spelling.{is_chain_id}
use Rattle.rules_code.specs.steps.Environment.{Environment}
use Rattle.rules_world.specs.world.RunLaws.{IsEnvironment}
use Rattle.rules_world.specs.world.Forms.{is_moment}
use Rattle.laws_code.specs.evaluation.Laws.{IsGoodEnvironment}

-- ---- environments

chain_length : (b : List ℕ) → is_chain_id b ≡ true → length b ≡ 4
chain_length b h = eqb-true (length b) 4 h

moment_form : (n : ℤ) → is_moment n ≡ true → (neg_ℤ (pos (2 ^ 63)) ≤ℤ n) × (n ≤ℤ pos (2 ^ 63 - 1))
moment_form n h =
    let parts = and_parts (int_le (neg_ℤ (pos (2 ^ 63))) n) (int_le n (pos (2 ^ 63 - 1))) h in
    let a = parts.0 in
    let b = parts.1 in
    (omega (arith, ints, a), omega (arith, ints, b))

pub environment_good : (e : Environment) → IsEnvironment e → length e.own ≡ 20 → IsGoodEnvironment e
environment_good e h twenty = record {
  chain = chain_length e.chain h.chain;
  level = h.level;
  moment = moment_form e.moment h.moment;
  source = h.source;
  sender = h.sender;
  own = twenty;
  amount = h.amount;
  balance = h.balance;
}
