-- Where and for whom a view runs (Octez documentation, "Smart contract views").
use Rattle.std.specs.Prelude.{ℕ, List}
use Rattle.mich_forms.specs.declared.places.Place.TheVariants as place
use Rattle.mich_step.specs.declared.environment.Env.{Env}

-- its caller is the contract whose code runs, and it receives nothing
abbrev pub env_at : Env → List ℕ → ℕ → Env
env_at e hash balance = record {
  chain = e.chain;
  level = e.level;
  now = e.now;
  source = e.source;
  sender = place.Contract e.me;
  me = hash;
  amount = 0;
  balance = balance;
}
