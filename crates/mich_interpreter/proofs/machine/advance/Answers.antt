use Rattle.std.proofs.Common.{◌≡◌, ◌≤◌, length, ap, ◌∙◌, arith}
use Rattle.mich_interpreter.proofs.Left.{is_open, ends_behind}
use Rattle.mich_interpreter.proofs.Stepped.{left_spent}
use Rattle.mich_interpreter.proofs.machine.advance.Goals as goal

pub turn_again-requires : goal.turn_again-requires
turn_again-requires c =
    let n : c.len.result ≡ length c.args.m.now.block = c.len.ensures ∙ ap length c.get.ensures in
    let over = c.if-m-len.false in
    let le : length c.args.m.now.block ≤ c.args.m.now.at = omega (arith, n, over) in
    let r = c.requires in
    (r.0, r.1, r.2, r.3, ends_behind r.0 c.args.costs.now r.1 r.2 r.3 c.args.m.now r.4 le)

pub leave-requires : goal.leave-requires
leave-requires c =
    let n : c.len.result ≡ length c.args.m.now.block = c.len.ensures ∙ ap length c.get.ensures in
    let over = c.if-m-len.false in
    let le : length c.args.m.now.block ≤ c.args.m.now.at = omega (arith, n, over) in
    let r = c.requires in
    let same = rw c.in-None.is at c.in_ok-step-2.ensures.spent in
    rw same (r.0, r.1, r.2, r.3, ends_behind r.0 c.args.costs.now r.1 r.2 r.3 c.args.m.now r.4 le)

pub returns-in-Some : goal.returns-in-Some
returns-in-Some c =
    let n : c.len.result ≡ length c.args.m.now.block = c.len.ensures ∙ ap length c.get.ensures in
    let over = c.if-m-len.false in
    let le : length c.args.m.now.block ≤ c.args.m.now.at = omega (arith, n, over) in
    record {
      stays = λ x gs Z o h s. rw c.in-Some.is at c.in_ok-step-2.ensures.stays x gs Z o (ends_behind x c.args.costs.now gs Z o c.args.m.now h le);
      spent = left_spent c.in-Some.step c.args.m.now c.turn_again.new.m _ (rw c.in-Some.is at c.in_ok-step-2.ensures.spent);
      keeps = rw c.in-Some.is at c.in_ok-step-2.ensures.keeps;
    }

pub returns-in_ok-step-in-None : goal.returns-in_ok-step-in-None
returns-in_ok-step-in-None c =
    let n : c.len.result ≡ length c.args.m.now.block = c.len.ensures ∙ ap length c.get.ensures in
    let over = c.if-m-len.false in
    let le : length c.args.m.now.block ≤ c.args.m.now.at = omega (arith, n, over) in
    let same = rw c.in-None.is at c.in_ok-step-2.ensures.spent in
    record {
      stays = λ x gs Z o h s. c.in_ok-step-in-None.ensures.stays x gs Z o (rw same (ends_behind x c.args.costs.now gs Z o c.args.m.now h le));
      spent = left_spent c.in_ok-step-in-None.step c.args.m.now c.leave.new.m _ (rw same at c.in_ok-step-in-None.ensures.spent);
      keeps = rw same at c.in_ok-step-in-None.ensures.keeps;
    }

pub overflow_sub-m : goal.overflow_sub-m
overflow_sub-m c = let r = c.requires in let open_one = is_open r.0 c.args.costs.now r.1 r.2 r.3 c.args.m.now r.4 in omega (arith, open_one)
