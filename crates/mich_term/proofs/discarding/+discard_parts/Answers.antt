-- The tickets of the value that an entry puts are told before those of the entries behind it.
use Rattle.std.proofs.Common.{rules, ◌≡◌, List, [], ◌∷◌, ◌++◌, append_assoc, subst, sym, ap, ◌∙◌}
use Rattle.rules_data.specs.values.Tickets.{Held, tickets, pair_tickets}
use Rattle.mich_term.specs.ValueView.{val, put_pairs}
use Rattle.mich_term.proofs.Overlays.{put_tickets}
use Rattle.mich_term.proofs.discarding.+discard_parts.Goals as goal

pub discard_big-loop-key-preserved : goal.discard_big-loop-key-preserved
discard_big-loop-key-preserved g t c =
    let told = g.B.Burner.told in
    let ready = g.B.Burner.ready in
    let iter = c.loop-key.key-iterator in
    let rest = c.next.new.self in
    let here = tickets (val c.in-Some-change.value) in
    let behind = pair_tickets (put_pairs rest) in
    let first : iter ≡ (c.in-Some.key, c.in-Some.change) ∷ rest = search rules in
    let split : pair_tickets (put_pairs iter) ≡ here ++ behind =
    put_tickets iter rest c.in-Some.key c.in-Some.change c.in-Some-change.value first c.in-Some-change.is in
    record {
      told = ap (λ (x : List Held). x ++ behind) c.in_ok-discard_parts.ensures.tells ∙ append_assoc (told c.loop-key.burner) here behind
          ∙ ap (λ (x : List Held). told c.loop-key.burner ++ x) (sym split) ∙ c.loop-key.invariant.told;
      ready = c.in_ok-discard_parts.ensures.stays_ready behind (subst (λ (x : List Held). ready c.loop-key.burner x) split c.loop-key.invariant.ready);
      stays = λ m start. c.in_ok-discard_parts.ensures.stays_ready (behind ++ m)
          (subst (λ (x : List Held). ready c.loop-key.burner x) (ap (λ (x : List Held). x ++ m) split ∙ append_assoc here behind m)
          (c.loop-key.invariant.stays m start));
      place = append_assoc c.loop-key.yielded ((c.in-Some.key, c.in-Some.change) ∷ []) rest
          ∙ ap (λ x. c.loop-key.yielded ++ x) (sym first) ∙ c.loop-key.invariant.place;
    }
