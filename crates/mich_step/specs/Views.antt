-- The surroundings that those of the code stand for.
use Rattle.mich_forms.specs.Spelled.{place_bytes}
use Rattle.rules_code.specs.steps.Environment.{Environment}
use Rattle.mich_step.specs.declared.environment.Env.{Env}

-- where and for whom the code runs
abbrev pub environment : Env → Environment
environment e =
    record {
      chain = e.chain;
      level = e.level;
      moment = e.now;
      source = e.source;
      sender = place_bytes e.sender;
      own = e.me;
      amount = e.amount;
      balance = e.balance;
    }
