use Rattle.std.proofs.Common.{sym, subst}
use Rattle.rules_code.specs.steps.Packing.{hash_step}
use Rattle.mich_overload.specs.View.{hash_row}
use Rattle.mich_stack.specs.Ends.{IsKept}
use Rattle.mich_stack.specs.Views.{values}
use Rattle.mich_store_steps.proofs.hashes.steps.hash_step.Goals as goal

pub returns-in-Pack : goal.returns-in-Pack
returns-in-Pack c = λ passes big. subst (λ q. IsKept (hash_step passes (hash_row q) (values big c.args.stack.now)) (values big c.pack_step.new.stack) c.pack_step.result) (sym c.in-Pack.is) (c.pack_step.ensures passes big)

pub returns-in-Blake2b : goal.returns-in-Blake2b
returns-in-Blake2b c = λ passes big. subst (λ q. IsKept (hash_step passes (hash_row q) (values big c.args.stack.now)) (values big c.blake2b_step.new.stack) c.blake2b_step.result) (sym c.in-Blake2b.is) (c.blake2b_step.ensures passes big)

pub returns-in-Sha256 : goal.returns-in-Sha256
returns-in-Sha256 c = λ passes big. subst (λ q. IsKept (hash_step passes (hash_row q) (values big c.args.stack.now)) (values big c.sha256_step.new.stack) c.sha256_step.result) (sym c.in-Sha256.is) (c.sha256_step.ensures passes big)

pub returns-in-Sha512 : goal.returns-in-Sha512
returns-in-Sha512 c = λ passes big. subst (λ q. IsKept (hash_step passes (hash_row q) (values big c.args.stack.now)) (values big c.sha512_step.new.stack) c.sha512_step.result) (sym c.in-Sha512.is) (c.sha512_step.ensures passes big)

pub returns-in-HashKey : goal.returns-in-HashKey
returns-in-HashKey c = λ passes big. subst (λ q. IsKept (hash_step passes (hash_row q) (values big c.args.stack.now)) (values big c.key_step.new.stack) c.key_step.result) (sym c.in-HashKey.is) (c.key_step.ensures passes big)
