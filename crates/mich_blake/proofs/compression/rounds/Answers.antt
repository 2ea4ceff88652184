use Rattle.mich_blake.proofs.RoundSteps.{next_round, no_round}
use Rattle.mich_blake.proofs.compression.rounds.Goals as goal

pub returns : goal.returns
returns c =
    let v = c.args.v.now in
    let m = c.args.m.now in
    let s0 = no_round v m in
    let s1 = next_round v m 0 _ _ _ s0 c.in_order.ensures c.round.ensures in
    let s2 = next_round v m 1 _ _ _ s1 c.in_order-2.ensures c.round-2.ensures in
    let s3 = next_round v m 2 _ _ _ s2 c.in_order-3.ensures c.round-3.ensures in
    let s4 = next_round v m 3 _ _ _ s3 c.in_order-4.ensures c.round-4.ensures in
    let s5 = next_round v m 4 _ _ _ s4 c.in_order-5.ensures c.round-5.ensures in
    let s6 = next_round v m 5 _ _ _ s5 c.in_order-6.ensures c.round-6.ensures in
    let s7 = next_round v m 6 _ _ _ s6 c.in_order-7.ensures c.round-7.ensures in
    let s8 = next_round v m 7 _ _ _ s7 c.in_order-8.ensures c.round-8.ensures in
    let s9 = next_round v m 8 _ _ _ s8 c.in_order-9.ensures c.round-9.ensures in
    let s10 = next_round v m 9 _ _ _ s9 c.in_order-10.ensures c.round-10.ensures in
    let s11 = next_round v m 10 _ _ _ s10 c.in_order-11.ensures c.round-11.ensures in
    next_round v m 11 _ _ _ s11 c.in_order-12.ensures c.round-12.ensures
