-- A course, and the course of the state that is saved of it.
use Rattle.std.proofs.Common.{◌≡◌, ℕ, ◌+◌, not, ◌||◌, List, [], ◌∷◌, Option, Some, None, refl, sym, ◌∙◌, append-nil, is_some, unwrap_or, if◌then◌else◌}
use Rattle.std.specs.Prelude.{fold}
use Rattle.std.specs.List.{list_any}
use Rattle.std.specs.Map.{values_of}
use Rattle.rules_code.specs.evaluation.Surroundings.{Contract}
use Rattle.rules_world.specs.world.Balances.{supply}
use Rattle.rules_world.specs.world.World.{Account}
use Rattle.rules_files.specs.course.Course.{Course}
use Rattle.rules_files.specs.snapshots.Course.{state_of, course_of, is_costs, is_start}
use Rattle.rules_files.specs.snapshots.Rules.{all_mutez}
use Rattle.rules_files.specs.statements.Statements.{Statement}
use Rattle.laws_world.specs.runs.Worlds.{IsWhole}
use Rattle.laws_commands.proofs.resuming_lemmas.courses.Alike.{AreTwins}
use Rattle.laws_commands.proofs.resuming_lemmas.courses.Prices.{listed_plain}
use Rattle.laws_commands.proofs.resuming_lemmas.logs.Inserted.{loaded_log}
use Rattle.laws_commands.proofs.resuming_lemmas.logs.Told.{loaded_alike}

-- a sum over the values of entries
summed : {K X : Type 0} (f : X → ℕ) (n : ℕ) (es : List (K × X)) →
    fold (λ a x. a + f x) n (values_of es) ≡ fold (λ a (e : K × X). a + f e.1) n es
summed f n [] = refl
summed f n (e ∷ es) = summed f (n + f e.1) es

supplied : (ss : List Statement) (c : Course) → supply c.world ≡ all_mutez (state_of ss c)
supplied ss c = λ k.
    summed (λ (a : Account). a.balance) 0 c.world.accounts k + summed (λ (c : Contract). c.balance) 0 c.world.contracts k
    + c.world.fees + c.world.storage_burn

rated : (o : Option ℕ) → o ≡ (if is_some o then Some (unwrap_or o 0) else None)
rated (Some n) = refl
rated None = refl

pub loaded_twin : (ss : List Statement) (c : Course) (w : IsWhole c.world) →
    c.at_head ≡ not (list_any is_costs ss || list_any is_start ss) →
    AreTwins c.world.log (loaded_log c.world) (loaded_alike c.world w.good) c (course_of (state_of ss c))
loaded_twin ss c w head = record {
  more = [];
  begins = sym (append-nil c.world.log);
  world = λ k. record {
    chain = c.world.chain;
    level = c.world.level;
    moment = c.world.moment;
    accounts = c.world.accounts;
    contracts = c.world.contracts;
    fees = c.world.fees;
    storage_burn = c.world.storage_burn;
    granted = (sym w.mutez ∙ supplied ss c) k;
    rate = rated c.world.rate k;
    log = append-nil (loaded_log c.world) k;
  };
  prices = listed_plain c.prices;
  groups = refl;
  at_head = head;
}
